-- The number of the format, as the rows of `about` show it.
use Rattle.std.proofs.Common.{◌≡◌, ◌↔◌, ℕ, ◌<◌, ◌^◌, List, [], ◌∷◌, length, get_or, map, map-id, take, filter, true, IsPermutation, Option, None, Some, refl, sym, ap, subst, ◌∙◌, arith}
use Rattle.std.specs.Prelude.{◌&&◌, IsTrue, codes, drop}
use Rattle.std.specs.List.{AllByRecursion, AllZip}
use Rattle.std.proofs.lemmas.List.Sorted.{IsPermutation-sym}
use Rattle.std.proofs.lemmas.Bool.{and_parts, false≢true}
use Rattle.sqlite.specs.Effect.{Database, IsDatabase}
use Rattle.sqlite.specs.Order.{Row, column}
use Rattle.sqlite.specs.State.{State}
use Rattle.sqlite.proofs.Callers.{one_permutation}
use Rattle.sqlite_resolve.specs.Scope.{Name}
use Rattle.sqlite_schema.specs.Rules.{are_typed, passes}
use Rattle.sqlite_schema.specs.declared.schema.Constraint.TheVariants.{Datatype}
use Rattle.sqlite_sql.specs.Ops.{is_null}
use Rattle.sqlite_sql.specs.Query.{IsAnswer, Query}
use Rattle.sqlite_sql.specs.Term.{Term, col, lit}
use Rattle.sqlite_tied.specs.Compute.{everything}
use Rattle.sqlite_value.specs.declared.value.Value.{Value}
use Rattle.sqlite_value.specs.declared.value.Value.TheVariants.{Null, Int, Real, Text, Blob}
use Rattle.one_table.specs.Listed.{IsListing, no_limit, query_on}
use Rattle.one_table.specs.Answer.{GivesAll}
use Rattle.one_table.specs.Reading.{is_whole, meant, select_meant, text_meant}
use Rattle.one_table.specs.Standing.{tree_in}
use Rattle.one_table.proofs.ListedLemmas.{all_rows}
use Rattle.book_tables.specs.format.Format.{HasFormat, IsFormatOf}
use Rattle.book_tables.specs.Holds.{IsKept, rows_in}
use Rattle.book_tables.specs.Kept.{about_kept}
use Rattle.book_tables.specs.row.ReadBack.{ReadsBack}
use Rattle.book_tables.specs.row.Rows.{keyed, number, shown_format}
use Rattle.book_tables.specs.Tables.{about_table}
use Rattle.book_tables.specs.declared.format.number.ToldFormat.{ToldFormat}
use Rattle.book_tables.specs.reading.Reading.{HasTable}
use Rattle.book_tables.proofs.KeptLemmas.{listed_holds}
use Rattle.book_tables.proofs.ReadingLemmas.ReadLemmas.{Asks, answer_is}

-- ---- the text

-- the text that asks `about` for the format, in two rows at most
abbrev pub format_text : List ℕ
format_text = codes "SELECT id, format FROM about LIMIT 2"

-- what it shows of a row: its number and the format
abbrev pub format_terms : List Term
format_terms = col 1 0 ∷ col 1 2 ∷ []

-- the names of its columns
abbrev pub format_names : List Name
format_names = codes "id" ∷ codes "format" ∷ []

-- the read of all rows of `about`, of which it shows at most two
abbrev pub format_query : ℕ → Query
format_query tree = query_on tree [] format_terms [] (lit (number 2))

-- the text asks this of `about`, with no parameters
pub format_asks : Asks about_table format_query format_names format_text []
unfolding everything is_whole meant select_meant text_meant
format_asks = record { is = λ tree. record { means = refl; from = refl }; bare = λ tree. refl; typed = λ tree. refl; whole = refl }

-- ---- the rows

-- what is shown of a row: its number, and the number of the format
abbrev about_shown : Row → Row
about_shown row = column row 0 ∷ column row 2 ∷ []

null_of : (v : Value) → is_null v ≡ true → v ≡ Null
null_of Null is = refl
null_of (Int n) is = absurd (false≢true is)
null_of (Real r) is = absurd (false≢true is)
null_of (Text text) is = absurd (false≢true is)
null_of (Blob bytes) is = absurd (false≢true is)

abbrev HasKinds : Row → Type 0
HasKinds row = (are_typed (Some 0) 0 (about_table 0).columns (drop 1 row) && true) ≡ true

by_row : (n : ℕ) (row : Row) → HasKinds row → about_shown row ≡ shown_format n → row ≡ keyed (shown_format n)
by_row n [] kinds e = absurd (cc)
by_row n (a ∷ []) kinds e = absurd (cc)
by_row n (a ∷ b ∷ []) kinds e = absurd (cc)
by_row n (a ∷ b ∷ c ∷ []) kinds e =
    let first : a ≡ number 1 = cc in
    let second : b ≡ Null = null_of b (and_parts _ _ (and_parts _ _ kinds).0).0 in
    let third : c ≡ number n = cc in
    cc
by_row n (a ∷ b ∷ c ∷ d ∷ more) kinds e = absurd (false≢true (and_parts _ _ (and_parts _ _ (and_parts _ _ kinds).0).1).1)

-- where the rows are of the table's kinds, what is shown of them tells them
by_rows : (n : ℕ) (rows : List Row) → AllByRecursion HasKinds rows → map about_shown rows ≡ shown_format n ∷ [] → rows ≡ keyed (shown_format n) ∷ []
by_rows n [] kinds e = absurd (cc)
by_rows n (r ∷ []) kinds e = let one : about_shown r ≡ shown_format n = cc in ap (λ x. x ∷ []) (by_row n r kinds.0 one)
by_rows n (r ∷ s ∷ more) kinds e = absurd (let f = ap length e in omega arith)

format_shown : (db : Database) → IsDatabase db → IsKept db.schema about_kept → (n : ℕ)
    → (map about_shown (rows_in db (codes "about")) ≡ shown_format n ∷ []) ↔ HasFormat db n
format_shown db sound has n =
    let kinds = listed_holds (λ t. AllByRecursion (λ row. passes Datatype db.schema db.trees t row ≡ true) (db.trees t.tree))
    db.schema.tables _ (about_table (tree_in db.schema (codes "about"))) has.0.has.listed (sound.obeys.rules Datatype) in
    (by_rows n (rows_in db (codes "about")) kinds, λ e. ap (map about_shown) e)

-- ---- the answer: at most two of the rows

all_kept : {X : Type 0} (xs : List X) → filter (λ _. true) xs ≡ xs
all_kept [] = refl
all_kept (x ∷ xs) = ap (λ l. x ∷ l) (all_kept xs)

two_of : (db : Database) (rows : List Row) → IsAnswer (format_query (tree_in db.schema (codes "about"))) db.trees [] rows
    → (all : List Row) × IsPermutation (map about_shown (rows_in db (codes "about"))) all × (rows ≡ take 2 all)
two_of db rows answer =
    let all : List Row = map (λ o. o.1) answer.ordered in
    let whole : IsAnswer (query_on (tree_in db.schema (codes "about")) [] format_terms [] no_limit) db.trees [] all =
    record {
      staged = answer.staged;
      grouped = answer.grouped;
      kept = answer.kept;
      distinct = answer.distinct;
      ordered = answer.ordered;
      same = answer.same;
      sorted = answer.sorted;
      shown = refl;
    } in
    let listed = rows_in db (codes "about") in
    let l : IsListing db.trees (tree_in db.schema (codes "about")) [] format_terms [] (λ (r : Row). r) listed (λ _. true) about_shown =
    record { holds_them = sym (map-id listed); passes = λ r. refl; shows = λ r. refl } in
    let same = all_rows l all whole in
    (all, subst (λ l. IsPermutation (map about_shown l) all) (all_kept listed) same, answer.shown)

-- one row is shown exactly where there is no other
one_shown : (all rows some : List Row) (r : Row) → IsPermutation some all → rows ≡ take 2 all → (rows ≡ r ∷ []) ↔ (some ≡ r ∷ [])
one_shown all rows some r same are = (
  λ e. back all same (sym are ∙ e),
  λ e. are ∙ ap (take 2) (one_permutation r all (subst (λ l. IsPermutation l all) e same)),
)
  where
    back : (all : List Row) → IsPermutation some all → take 2 all ≡ r ∷ [] → some ≡ r ∷ []
    back [] same e = absurd (let f = ap length e in omega arith)
    back (a ∷ []) same e = one_permutation a some (IsPermutation-sym some (a ∷ []) same) ∙ e
    back (a ∷ b ∷ more) same e = absurd (let f = ap length e in omega arith)

-- ---- what is told

-- a list of one element, of which the first is known, is this one alone
pub lone : {X : Type 0} (xs : List X) (x : X) → length xs ≡ 1 → x ≡ get_or xs 0 x → xs ≡ x ∷ []
lone [] x one first = absurd (omega (arith, one))
lone (y ∷ []) x one first = ap (λ z. z ∷ []) (sym first)
lone (y ∷ z ∷ more) x one first = absurd (omega (arith, one))

-- what is told of a row is the format of 32 bits that it shows, or none
abbrev pub TellsOne : Row → ToldFormat → Type 0
TellsOne row told = ReadsBack shown_format (λ n. n < 2 ^ 32) row told.format

module _ (db : Database) (sound : IsDatabase db) (has : IsKept db.schema about_kept) (rows : List Row)
    (answer : IsAnswer (format_query (tree_in db.schema (codes "about"))) db.trees [] rows) where
  shown_alone : (n : ℕ) → (rows ≡ shown_format n ∷ []) ↔ HasFormat db n
  shown_alone n =
      let two = two_of db rows answer in
      let one = one_shown two.0 rows _ (shown_format n) two.1 two.2 in
      let told = format_shown db sound has n in
      (λ e. told.0 (one.0 e), λ e. one.1 (told.1 e))

  -- where the answer has no row or more than one, the database tells no format
  pub none_told : (values : List ToldFormat) → AllZip TellsOne rows values → ¬ (length values ≡ 1) → IsFormatOf db None
  none_told values told other n small = (
    λ e. absurd cc,
    λ has. absurd (other (alone values (subst (λ l. AllZip TellsOne l values) ((shown_alone n).1 has) told))),
  )
    where
      alone : (values : List ToldFormat) → AllZip TellsOne (shown_format n ∷ []) values → length values ≡ 1
      alone [] told = absurd told
      alone (v ∷ []) told = refl
      alone (v ∷ w ∷ more) told = absurd told.1

  -- where it has one row, the format is what this row tells
  pub one_told : (value : ToldFormat) → AllZip TellsOne rows (value ∷ []) → IsFormatOf db value.format
  one_told value told n small = go rows refl told
    where
      read : (row : Row) (found : Option ℕ) → ReadsBack shown_format (λ n. n < 2 ^ 32) row found → (found ≡ Some n) ↔ (row ≡ shown_format n)
      read row None told = (λ e. absurd cc, λ e. absurd (told n small (sym e)))
      read row (Some m) told = (
        λ e. let same : m ≡ n = cc in sym told.0 ∙ ap shown_format same,
        λ e. let same : shown_format m ≡ shown_format n = told.0 ∙ e in let one : m ≡ n = cc in ap Some one,
      )

      go : (l : List Row) → rows ≡ l → AllZip TellsOne l (value ∷ []) → (value.format ≡ Some n) ↔ HasFormat db n
      go [] is told = absurd told
      go (r ∷ []) is told =
          let here = read r value.format told.0 in
          let whole = shown_alone n in
          (λ e. whole.0 (is ∙ ap (λ x. x ∷ []) (here.0 e)), λ has. here.1 (let e = sym is ∙ whole.1 has in cc))
      go (r ∷ s ∷ more) is told = absurd told.1

module _ (old new : State) (has : HasTable about_kept old) (sound : IsTrue old.is_open → IsDatabase old.now) where
  told_rows : (values : List ToldFormat) → (given : GivesAll TellsOne format_text [] old new values) → IsTrue old.is_open
      → IsAnswer (format_query (tree_in old.now.schema (codes "about"))) old.now.trees [] given.rows
  told_rows values given runs = answer_is format_asks about_kept (λ s has. has.0.has) old new (has runs) given.rows given.shown

  -- the same of an answer that a statement gave: no row or several tell no format
  pub given_none : (values : List ToldFormat) → GivesAll TellsOne format_text [] old new values → IsTrue old.is_open
      → ¬ (length values ≡ 1) → IsFormatOf old.now None
  given_none values given runs other = none_told old.now (sound runs) (has runs) given.rows (told_rows values given runs) values given.read other

  -- and one row tells the format that was read of it
  pub given_one : (values : List ToldFormat) (one : ToldFormat) → GivesAll TellsOne format_text [] old new values → IsTrue old.is_open
      → values ≡ one ∷ [] → IsFormatOf old.now one.format
  given_one values one given runs is = one_told old.now (sound runs) (has runs) given.rows (told_rows values given runs) one
      (subst (λ l. AllZip TellsOne given.rows l) is given.read)
