-- What a reader gives of a fixed SELECT on one of the office's tables, and why it fails.
use Rattle.std.proofs.Common.{true, false, Bool, cond, ◌≤◌, Result, Ok, Err, IfOk, IfErr, OnOk, ◌≡◌, ℕ, List, [], ◌∷◌, ◌++◌, length, map, Option, None, Some, IfSome, Any, inl, inr, refl, sym, ap, subst, ◌∙◌, arith}
use Rattle.std.specs.Prelude.{All, find}
use Rattle.std.proofs.lemmas.List.Elements.{All-head, All-tail}
use Rattle.std.specs.Option.{option_to_list}
use Rattle.std.proofs.lemmas.List.{get_or_append_left, length-append}
use Rattle.sqlite.specs.Order.{Row}
use Rattle.sqlite.specs.Effect.{Database}
use Rattle.sqlite.specs.State.{Begins, FailsToQuery, IsUnchanged, Shown, State}
use Rattle.sqlite.specs.declared.error.Error.{Error}
use Rattle.sqlite_resolve.specs.Scope.{Name}
use Rattle.sqlite_schema.specs.declared.schema.Schema.{Schema}
use Rattle.sqlite_schema.specs.declared.schema.Table.{Table}
use Rattle.sqlite_sql.specs.Query.{IsAnswer, Query}
use Rattle.one_table.specs.Answer.{FailsToRead as FailsToAnswer, GivesFirst, IsFirst, OnlyAsks}
use Rattle.one_table.specs.Place.{Has}
use Rattle.one_table.specs.Reading.{FailsPlainly, IsSelect, Means, is_typed, is_whole, select_as}
use Rattle.one_table.specs.Standing.{place_in, tree_in}
use Rattle.one_table.specs.declared.read_fault.ReadFault.{ReadFault}
use Rattle.one_table.specs.declared.read_fault.ReadFault.TheVariants as fault
use Rattle.one_table.proofs.FaultLemmas.{fails_plainly}
use Rattle.one_table.proofs.ListedLemmas.{answered, begun, is_plain}
use Rattle.one_table.proofs.UnderstandLemmas.{selects}
use Rattle.book_tables.specs.Holds.{IsKept}
use Rattle.book_tables.specs.Kept.{Kept}
use Rattle.book_tables.specs.reading.Reading.{AreOfOffice, FailsToReadOf, FailsToShowRow, HasTable, HasTableRows, IsShown, TableHolds, told}
use Rattle.book_tables.specs.row.Rows.{Rows}
use Rattle.book_tables.specs.declared.error.TableError.{TableError}

-- at most one record is in an option
pub few : {X : Type 0} (o : Option X) → length (option_to_list o) ≤ 1
few None = omega arith
few (Some x) = omega arith

-- what is found keeps the rules that all keep
pub found_keeps : {X : Type 0} (p : X → Bool) (P : X → Type 0) (xs : List X) → All P xs → IfSome (find p xs) P
found_keeps p P [] all = _
found_keeps p P (x ∷ xs) all = by_test (p x) (found_keeps p P xs (All-tail P x xs all))
  where
    by_test : (b : Bool) → IfSome (find p xs) P → IfSome (cond b (Some x) (find p xs)) P
    by_test true rest = All-head P x xs all
    by_test false rest = rest

-- the text asks this query of the table, with these parameters, wherever the table stands
pub record Asks (table : ℕ → Table) (query : ℕ → Query) (names : List Name) (sql : List ℕ) (params : Row) : Type 0 where
  pub is : (tree : ℕ) → IsSelect (table tree) (query tree) names sql
  pub bare : (tree : ℕ) → (query tree).group ≡ None
  pub typed : (tree : ℕ) → is_typed (table tree) (query tree) params ≡ true
  pub whole : is_whole sql (length params) ≡ true

-- what is first in an answer of which all rows are known
first_is : {M : Type 0} (shown : M → Row) (keeps : M → Type 0) → ((a b : M) → keeps a → keeps b → shown a ≡ shown b → a ≡ b)
    → (sql : List ℕ) (params : Row) (old new : State) (found : Option M) → IfSome found keeps → (rows : List Row) → rows ≡ map shown (option_to_list found)
    → (x : Option M) → IsFirst (IsShown shown keeps) sql params old new x rows → x ≡ found
first_is shown keeps one sql params old new None kept rows are None first = refl
first_is shown keeps one sql params old new None kept rows are (Some x) first = absurd (let e = sym first.2 ∙ are in cc)
first_is shown keeps one sql params old new (Some m) kept rows are None first = absurd (let e = sym first ∙ are in cc)
first_is shown keeps one sql params old new (Some m) kept rows are (Some x) first =
    let row : first.0 ≡ shown m = let e = sym first.2 ∙ are in cc in
    ap Some (one x m first.3.1 kept (first.3.0 ∙ row))

module _ {table : ℕ → Table} {query : ℕ → Query} {names : List Name} {sql : List ℕ} {params : Row} (asks : Asks table query names sql params)
    (k : Kept) (stands : (s : Schema) → IsKept s k → Has s (place_in s k.table.name) (table (tree_in s k.table.name))) where
  abbrev asked : Schema → Query
  asked s = query (tree_in s k.table.name)

  -- in each schema that has the table, the text means the query of the table
  pub means : (s : Schema) → IsKept s k → Means s sql (select_as (asked s) names)
  means s has = selects s (place_in s k.table.name) (table (tree_in s k.table.name)) (stands s has) (asked s) names sql (asks.is (tree_in s k.table.name))

  -- where an open connection has the table, the text is understood and writes nothing
  pub only_asks : (s : State) → HasTable k s → OnlyAsks sql s
  only_asks s has runs = is_plain (means s.now.schema (has runs))

  -- the rows that are shown to the end are an answer of the query
  pub answer_is : (old new : State) → IsKept old.now.schema k → (rows : List Row) → Shown sql params old new rows
      → IsAnswer (asked old.now.schema) old.now.trees params rows
  answer_is old new has rows shown =
      let s = old.now.schema in
      answered s (place_in s k.table.name) (table (tree_in s k.table.name)) (stands s has) (asked s) names sql
      (asks.is (tree_in s k.table.name)) params old new refl rows shown

  -- where each row of an answer can be read, none of the first ones is bad
  none_bad : (IsReadable : Row → Type 0) (db : Database) (new : State) → new.now ≡ db → IsKept db.schema k
      → ((rows : List Row) → IsAnswer (asked db.schema) db.trees params rows → All IsReadable rows)
      → (rows : List Row) → Begins sql params new rows → ¬ Any (λ row. ¬ IsReadable row) rows
  none_bad IsReadable db new is has all rows begins (k, row, within, there, bad) =
      let so_far = begun (asked db.schema) names (means db.schema has) params new (ap (λ (d : Database). d.schema) is) rows begins in
      let answer = subst (λ (d : Database). IsAnswer (asked db.schema) d.trees params (rows ++ so_far.0)) is so_far.1 in
      let there_too = get_or_append_left rows so_far.0 row k within ∙ there in
      bad (subst IsReadable there_too (all (rows ++ so_far.0) answer k row (omega (arith, length-append rows so_far.0, within))))

  -- what the database says
  pub fails_plain : (old new : State) → IsKept old.now.schema k → (e : Error) → FailsToQuery sql params old new e → FailsPlainly old new e
  fails_plain old new has e fails =
      let s = old.now.schema in
      fails_plainly (asked s) names (means s has) (place_in s k.table.name) (table (tree_in s k.table.name)) (stands s has)
      (asks.is (tree_in s k.table.name)).from (asks.bare (tree_in s k.table.name)) params (asks.typed (tree_in s k.table.name)) old new
      refl e asks.whole fails

  said : (IsReadable : Row → Type 0) (old new : State) → HasTable k old
      → ((rows : Rows) → TableHolds k old.now rows → AreOfOffice rows → (found : List Row)
      → IsAnswer (asked old.now.schema) old.now.trees params found → All IsReadable found)
      → (why : ReadFault) → FailsToAnswer IsReadable sql params old new why → FailsToReadOf (TableHolds k) old new (told why)
  said IsReadable old new has all (fault.Database e) (inl why) = inl (λ runs. fails_plain old new (has runs) e why)
  said IsReadable old new has all (fault.Database e) (inr none) = inr (cc, none.1)
  said IsReadable old new has all fault.Row (bad, same) = (
    λ rows held of_office. none_bad IsReadable old.now new same.0.now_is held.0 (all rows held of_office) bad.rows bad.begins bad.bad,
    same,
  )

  -- why it fails, where the rows of an office can all be read
  pub fails : {A : Type 0} (IsReadable : Row → Type 0) (old new : State) → HasTable k old
      → ((rows : Rows) → TableHolds k old.now rows → AreOfOffice rows → (found : List Row)
      → IsAnswer (asked old.now.schema) old.now.trees params found → All IsReadable found)
      → (r : Result A TableError) (values : Row) → values ≡ params → IfErr r (FailsToShowRow IsReadable sql values old new)
      → IfErr r (FailsToReadOf (TableHolds k) old new)
  fails IsReadable old new has all (Ok x) values are none = none
  fails IsReadable old new has all (Err e) values are (why, is, answer) =
      subst (FailsToReadOf (TableHolds k) old new) (sym is)
      (said IsReadable old new has all why (subst (λ ps. FailsToAnswer IsReadable sql ps old new why) are answer))

  -- what it gives, where at most one record is found
  pub gives : {M : Type 0} (shown : M → Row) (keeps : M → Type 0) → ((a b : M) → keeps a → keeps b → shown a ≡ shown b → a ≡ b)
      → (old new : State) (rows : Rows) → HasTableRows k old rows → (found : Option M) → IfSome found keeps
      → ((answer : List Row) → TableHolds k old.now rows → IsAnswer (asked old.now.schema) old.now.trees params answer → answer
      ≡ map shown (option_to_list found))
      → (r : Result (Option M) TableError) (values : Row) → values ≡ params → OnOk r (IsUnchanged old new)
      → IfOk r (GivesFirst (IsShown shown keeps) sql values old new) → IfOk r (λ x. x ≡ found)
  gives shown keeps one old new rows has found kept all (Err e) values are same none = none
  gives shown keeps one old new rows has found kept all (Ok x) values are same is =
      let held = has same.0.was_open in
      let given = subst (λ ps. GivesFirst (IsShown shown keeps) sql ps old new x) are is in
      first_is shown keeps one sql params old new found kept given.rows (all given.rows held (answer_is old new held.0 given.rows given.shown)) x given.first
