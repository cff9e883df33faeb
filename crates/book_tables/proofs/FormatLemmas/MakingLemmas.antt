-- The tables that an older format lacks are made, and `about` tells the present format: the same
-- office.
use Rattle.std.proofs.Common.{◌≡◌, ◌≢◌, ◌<◌, ℕ, zero, suc, ◌+◌, ◌==◌, arith, Bool, true, false, not, cond, List, [], ◌∷◌, drop, filter, find, length, map, nat_le, Option, None, Some, refl, sym, ap, subst, ◌∙◌, inl, inr}
use Rattle.std.specs.Prelude.{codes, pos}
use Rattle.std.specs.List.{AllByRecursion, position_from}
use Rattle.std.proofs.lemmas.Bool.{cases_Bool, eq-eqb, false≢true}
use Rattle.std.proofs.lemmas.Option.{same_Some}
use Rattle.sqlite.specs.Effect.{Database}
use Rattle.sqlite.specs.Order.{Row}
use Rattle.sqlite.specs.State.{State}
use Rattle.sqlite.specs.Table.{Table}
use Rattle.sqlite_catalog.specs.Change.{is_used}
use Rattle.sqlite_catalog.proofs.StepLemmas.{no_table, same_itself, table_below}
use Rattle.sqlite_keyed.proofs.ListLemmas.{all_weaker}
use Rattle.sqlite_rules.specs.Lists.{Has as Member}
use Rattle.sqlite_rules.proofs.ListLemmas.{all_from, all_has, has_found, has_got, has_left}
use Rattle.sqlite_schema.specs.Names.{same_name}
use Rattle.sqlite_schema.specs.declared.schema.Schema.{Schema}
use Rattle.sqlite_sql.specs.Term.{Term, lit}
use Rattle.sqlite_tied.specs.Compute.{everything}
use Rattle.sqlite_trees.specs.Tree.{put_row}
use Rattle.sqlite_value.specs.declared.value.Value.TheVariants.{Null}
use Rattle.one_table.specs.InTransaction.{PutsRow}
use Rattle.one_table.specs.Inserting.{IsInsert, insert_in, insert_meant, new_row, puts_meant}
use Rattle.one_table.specs.Making.{IsNewTable, MakesTables}
use Rattle.one_table.specs.Numbered.{IsInOrder}
use Rattle.one_table.specs.Place.{Has}
use Rattle.one_table.specs.Reading.{is_whole}
use Rattle.one_table.specs.Referring.{is_left_alone}
use Rattle.one_table.specs.Standing.{place_in, tree_in}
use Rattle.one_table.proofs.CastLemmas.{cast_int, cast_no_int}
use Rattle.one_table.proofs.GrowthLemmas.{Grows, found_stays}
use Rattle.one_table.proofs.MakingLemmas.{all_grow}
use Rattle.book_tables.specs.Holds.{AreStoredRows, HasOffice, HasOfficeOf, HoldsOf, HoldsRows, IsKept, rows_in, table_names}
use Rattle.book_tables.specs.Kept.{Kept, about_kept, kept, kept_names, kept_tables, kept_texts, later, upto}
use Rattle.book_tables.specs.format.Making.{LeavesBeside, MakesMissing, TellsPresent, rows_upto, told_names}
use Rattle.book_tables.specs.row.Rows.{Rows, about_rows, number, present_format}
use Rattle.book_tables.specs.Tables.{about_table}
use Rattle.book_tables.specs.writing.Writing.{IsOfNone, WritesOnly}
use Rattle.book_tables.specs.writing.Writes.{new_format_text}
use Rattle.book_tables.proofs.FormatLemmas.AboutLemmas.{told_made}
use Rattle.book_tables.proofs.EachTableLemmas.{each_there}
use Rattle.book_tables.proofs.HoldsLemmas.{free_later, of_upto}
use Rattle.book_tables.proofs.KeptLemmas.{about_changed}
use Rattle.book_tables.proofs.OfficeTableLemmas.{about_in}
use Rattle.book_tables.proofs.FormatLemmas.TextLemmas.{IsText, are_among, are_idle, later_texts, upto_texts}
use Rattle.book_tables.proofs.WritingLemmas.WriteLemmas.{changes_only, only_one}

-- ---- lists of tables by a test

both_first : (P : Kept → Type 0) (p : Kept → Bool) (k : Kept) (ks : List Kept) (b : Bool)
    → AllByRecursion P (cond b (k ∷ filter p ks) (filter p ks)) → AllByRecursion P (cond (not b) (k ∷ filter (λ k. not (p k)) ks) (filter (λ k. not (p k)) ks))
    → (AllByRecursion P (filter p ks) → AllByRecursion P (filter (λ k. not (p k)) ks) → AllByRecursion P ks) → AllByRecursion P (k ∷ ks)
both_first P p k ks true these those rest = (these.0, rest these.1 those)
both_first P p k ks false these those rest = (those.0, rest these those.1)

all_both_ways : (P : Kept → Type 0) (p : Kept → Bool) (ks : List Kept) → AllByRecursion P (filter p ks)
    → AllByRecursion P (filter (λ k. not (p k)) ks) → AllByRecursion P ks
all_both_ways P p [] these those = tt
all_both_ways P p (k ∷ ks) these those = both_first P p k ks (p k) these those (λ these those. all_both_ways P p ks these those)

-- tables that were made are tables that are kept
all_made : (b : Database) (ks : List Kept) → AllByRecursion (IsNewTable b) (kept_tables ks)
    → AllByRecursion (λ t. is_left_alone b.schema (tree_in b.schema t.name) ≡ true) (kept_tables ks) → AllByRecursion (IsKept b.schema) ks
all_made b [] new alone = tt
all_made b (k ∷ ks) new alone = ((new.0.0, alone.0), all_made b ks new.1 alone.1)

none_in_order : (rows : List Row) → rows ≡ [] → IsInOrder rows
none_in_order rows none = let order : IsInOrder [] = record { rises = tt; are_numbers = tt } in subst IsInOrder (sym none) order

-- a new table holds none of the rows
none_stored : (numbered : Bool) (found : List Row) → found ≡ [] → AreStoredRows numbered found []
none_stored true found none = none
none_stored false found none = (ap (map (drop 1)) none, none_in_order found none)

all_empty : (b : Database) (told : ℕ) (rows : Rows) (ks : List Kept) → AllByRecursion (IsNewTable b) (kept_tables ks)
    → AllByRecursion (λ k. k.stored told rows ≡ []) ks → AllByRecursion (HoldsRows b told rows) ks
all_empty b told rows [] new none = tt
all_empty b told rows (k ∷ ks) new none = (
  subst (λ stored. AreStoredRows k.is_numbered (rows_in b k.table.name) stored) (sym none.0)
      (none_stored k.is_numbered (rows_in b k.table.name) new.0.1),
  all_empty b told rows ks new.1 none.1,
)

-- ---- the tables that a format lacks

module _ (n : ℕ) (a b : Database) (had : HasOfficeOf n a.schema) (m : MakesTables (kept_tables (later n)) a b) where
  stays : (k : Kept) → IsKept a.schema k → IsText k → IsKept b.schema k
  stays k stands text =
      let still = m.still k.table stands.0 in
      let low = table_below a.schema (record k.table { tree = tree_in a.schema k.table.name })
      (has_got a.schema.tables (place_in a.schema k.table.name) _ stands.0.has.listed) in (
        still.0,
        ap (is_left_alone b.schema) still.1 ∙ m.alone (tree_in a.schema k.table.name) low (are_idle (later n) (later_texts n)) stands.1,
      )

  all_stay : (ks : List Kept) → AllByRecursion IsText ks → AllByRecursion (IsKept a.schema) ks → AllByRecursion (IsKept b.schema) ks
  all_stay [] texts stand = tt
  all_stay (k ∷ ks) texts stand = (stays k stand.0 texts.0, all_stay ks texts.1 stand.1)

  -- once they are made, the tables of the present format are all there
  pub has_all : HasOffice b.schema
  has_all = record {
    tables = all_both_ways (IsKept b.schema) (λ k. nat_le k.since n) kept (all_stay (upto n) (upto_texts n) had.tables)
        (all_made b (later n) m.new (m.left_alone table_names (are_among (later n) (later_texts n)) (are_idle (later n) (later_texts n)) had.harmless));
    free = refl;
    unreferred = m.unreferred table_names (are_among (later n) (later_texts n)) had.unreferred;
    harmless = m.harmless table_names (are_idle (later n) (later_texts n)) had.harmless;
  }

  -- the rows of a table that stood stay, where the same is stored of the new rows
  holds_still : (told : ℕ) (rows new : Rows) (k : Kept) → IsKept a.schema k → k.stored told new ≡ k.stored told rows
      → HoldsRows a told rows k → HoldsRows b told new k
  holds_still told rows new k stands same holds =
      let still = m.still k.table stands.0 in
      subst (λ stored. AreStoredRows k.is_numbered (rows_in b k.table.name) stored) (sym same)
      (subst (λ found. AreStoredRows k.is_numbered found (k.stored told rows)) (sym still.2) holds)

  all_hold : (told : ℕ) (rows new : Rows) (ks : List Kept) → AllByRecursion (IsKept a.schema) ks
      → AllByRecursion (λ k. k.stored told new ≡ k.stored told rows) ks → AllByRecursion (HoldsRows a told rows) ks → AllByRecursion (HoldsRows b told new) ks
  all_hold told rows new [] stand same hold = tt
  all_hold told rows new (k ∷ ks) stand same hold = (holds_still told rows new k stand.0 same.0 hold.0, all_hold told rows new ks stand.1 same.1 hold.1)

  holds_all : (rows : Rows) → AllByRecursion (λ k. k.stored n (rows_upto n rows) ≡ k.stored n rows) (upto n)
      → AllByRecursion (λ k. k.stored n (rows_upto n rows) ≡ []) (later n) → HoldsOf n n a rows → HoldsOf present_format n b (rows_upto n rows)
  holds_all rows same none held = record {
    has = has_all;
    are = all_both_ways (HoldsRows b n (rows_upto n rows)) (λ k. nat_le k.since n) kept
        (all_hold n rows (rows_upto n rows) (upto n) had.tables same held.are) (all_empty b n (rows_upto n rows) (later n) m.new none);
    of_format = record { bases = λ older. absurd (omega (arith, older)); dated_steps = λ older. absurd (omega (arith, older)) };
  }

-- by the format: what is stored in the older tables is the same, and in the new ones nothing
rows_made : (n : ℕ) → n < present_format → (a b : Database) → HasOfficeOf n a.schema → MakesTables (kept_tables (later n)) a b
    → (rows : Rows) → HoldsOf n n a rows → HoldsOf present_format n b (rows_upto n rows)
rows_made zero below a b had m rows held = holds_all 0 a b had m rows tt
    (refl, (refl, (refl, (refl, (refl, (refl, (refl, (refl, (refl, (refl, (refl, tt))))))))))) held
rows_made (suc zero) below a b had m rows held = holds_all 1 a b had m rows (refl, (refl, (refl, (refl, (refl, (refl, tt))))))
    (refl, (refl, (refl, (refl, (refl, tt))))) held
rows_made (suc (suc zero)) below a b had m rows held =
    holds_all 2 a b had m rows (refl, (refl, (refl, (refl, (refl, (refl, (refl, (refl, (refl, tt))))))))) (refl, (refl, tt)) held
rows_made (suc (suc (suc zero))) below a b had m rows held =
    holds_all 3 a b had m rows (refl, (refl, (refl, (refl, (refl, (refl, (refl, (refl, (refl, (refl, tt)))))))))) (refl, tt) held
rows_made (suc (suc (suc (suc n)))) below a b had m rows held = absurd (omega (arith, below))

beside_tables : (n : ℕ) (a b : Database) → MakesTables (kept_tables (later n)) a b → LeavesBeside n a b
beside_tables n a b m = record {
  schema = m.schema;
  places = m.places;
  others = all_weaker _ _ (λ u same apart. same) a.schema.tables m.rows;
  sound = m.sound;
}

-- the tables that a format lacks are made in turn, and the others stay as they were
pub makes_missing : (n : ℕ) → n < present_format → (a b : Database) → HasOfficeOf n a.schema → MakesTables (kept_tables (later n)) a b → MakesMissing n a b
makes_missing n below a b had m = record {
  had = had;
  has = has_all n a b had m;
  rows = rows_made n below a b had m;
  tells = told_made n a b had m;
  beside = beside_tables n a b m;
}

-- a format below the present one lacks some table
pub lacks_some : (n : ℕ) → n < present_format → 0 < length (kept_texts (later n))
lacks_some zero below = omega arith
lacks_some (suc zero) below = omega arith
lacks_some (suc (suc zero)) below = omega arith
lacks_some (suc (suc (suc zero))) below = omega arith
lacks_some (suc (suc (suc (suc n)))) below = absurd (omega (arith, below))

-- ---- the row of the format

-- the row of the present format, under the number 1
abbrev pub new_format_terms : List Term
new_format_terms = lit (number 1) ∷ lit Null ∷ lit (number 4) ∷ []

-- the text means an INSERT of that row into `about`
pub new_format_means : (tree : ℕ) → IsInsert (about_table tree) new_format_terms new_format_text
unfolding everything insert_meant insert_in puts_meant
new_format_means tree = record { means = refl; whole = refl; uncounted = refl; unstamped = refl }

-- and is one statement with no parameters
pub new_format_whole : is_whole new_format_text 0 ≡ true
unfolding everything is_whole
new_format_whole = refl

format_is : (tree : ℕ) (rows : List Row) → rows ≡ [] → put_row (new_row (about_table tree) new_format_terms [] rows) rows ≡ about_rows present_format
format_is tree rows none = rw (none, cast_int (pos 1), cast_int (pos 4), cast_no_int) refl

module _ (old new : State) (put : PutsRow (about_table (tree_in old.now.schema (codes "about")))
    (new_row (about_table (tree_in old.now.schema (codes "about"))) new_format_terms [] (old.now.trees (tree_in old.now.schema (codes "about")))) old new) where
  about_only : WritesOnly (codes "about" ∷ []) old new
  about_only = only_one (codes "about") (about_table (tree_in old.now.schema (codes "about"))) _ old new refl put.changed

  -- where `about` had no row, it tells the present format once this one is put in
  pub tells_first : TellsPresent 0 old new
  tells_first = record {
    only = about_only;
    rows = λ rows held.
        about_changed 0 old.now new.now rows held (changes_only (codes "about") old new about_only)
        (put.changed.rows_are ∙ format_is (tree_in old.now.schema (codes "about")) (old.now.trees (tree_in old.now.schema (codes "about")))
        (about_in.holds 0 old.now rows held));
    tells = λ none.
        ap (λ (s : Schema). new.now.trees (tree_in s (codes "about"))) about_only.schema
        ∙ put.changed.rows_are ∙ format_is (tree_in old.now.schema (codes "about")) (old.now.trees (tree_in old.now.schema (codes "about"))) none;
  }

is_free : (b : Bool) → not b ≡ true → b ≡ false
is_free true e = absurd (false≢true e)
is_free false e = refl

-- ---- the office that is brought

-- no table that stood has the tree of a table that was made
not_found : {X : Type 0} (p : X → Bool) (xs : List X) (x : X) → find p xs ≡ None → Member xs x → p x ≡ false
not_found p [] x none there = absurd there
not_found p (y ∷ xs) x none there = elim (cases_Bool (p y)) [
  | inl is ↦ absurd (let e = rw is at none in cc)
  | inr not ↦ elim there [ inl same ↦ ap p same ∙ not | inr later ↦ not_found p xs x (rw not at none) later ]
]

not_placed : {X : Type 0} (p : X → Bool) (from : ℕ) (xs : List X) (x : X) → position_from p from xs ≡ None → Member xs x → p x ≡ false
not_placed p from [] x none there = absurd there
not_placed p from (y ∷ xs) x none there = elim (cases_Bool (p y)) [
  | inl is ↦ absurd (let e = rw is at none in cc)
  | inr not ↦ elim there [ inl same ↦ ap p same ∙ not | inr later ↦ not_placed p (from + 1) xs x (rw not at none) later ]
]

module _ (n : ℕ) (a b : Database) (beside : LeavesBeside n a b) where
  grown : Grows a.schema b.schema
  grown = subst (Grows a.schema) (sym beside.schema) (all_grow a.schema (kept_tables (later n)))

  module _ (k : Kept) (free : not (is_used a.schema k.table.name) ≡ true) (stands : IsKept b.schema k) where
    abbrev on_it : Table → Bool
    on_it u = u.tree == tree_in b.schema k.table.name

    apart_new : (u : Table) → Member a.schema.tables u → u.tree ≢ tree_in b.schema k.table.name
    apart_new u there same = by_first (find on_it a.schema.tables) refl
      where
        by_first : (first : Option Table) → find on_it a.schema.tables ≡ first → ⊥
        by_first None none = false≢true (sym (not_found on_it a.schema.tables u none there) ∙ eq-eqb u.tree (tree_in b.schema k.table.name) same)
        by_first (Some w) is =
            let found = ap (find on_it) grown.tables ∙ found_stays on_it a.schema.tables grown.more w is in
            let named : w.name ≡ k.table.name = ap (λ (v : Table). v.name)
            (same_Some w (record k.table { tree = tree_in b.schema k.table.name }) (sym found ∙ stands.0.has.by_tree)) in
            let listed = (has_found on_it a.schema.tables w is).0 in
            false≢true (sym (not_placed (λ v. same_name v.name k.table.name) 0 a.schema.tables w
            (no_table a.schema k.table.name (is_free (is_used a.schema k.table.name) free)) listed)
            ∙ ap (λ n. same_name n k.table.name) named ∙ same_itself k.table.name)

-- every table came up to the present format
known : (k : Kept) (ks : List Kept) → AllByRecursion (λ k. nat_le k.since present_format ≡ true) ks → Member ks k → nat_le k.since present_format ≡ true
known k [] all there = absurd there
known k (j ∷ ks) all (inl same) = subst (λ (k : Kept). nat_le k.since present_format ≡ true) (sym same) all.0
known k (j ∷ ks) all (inr there) = known k ks all.1 there

all_known : AllByRecursion (λ k. nat_le k.since present_format ≡ true) kept
all_known = (refl, (refl, (refl, (refl, (refl, (refl, (refl, (refl, (refl, (refl, (refl, tt)))))))))))

tree_is : (s : Schema) (at : ℕ) (t : Table) → Has s at t → tree_in s t.name ≡ t.tree
tree_is s at t has = rw (has.named, has.listed) refl

-- a table that the older format lacks, or that tells the format
abbrev pub MayChange : ℕ → Kept → Type 0
MayChange n k = Member kept k × (nat_le k.since n ≡ true → Member (told_names n) k.table.name)

about_may : (n : ℕ) → MayChange n about_kept
about_may zero = (each_there.about, λ came. absurd (false≢true came))
about_may (suc n) = (each_there.about, λ _. inl refl)

may_first : (n : ℕ) (k : Kept) (rest : List Kept) (b : Bool) → nat_le k.since n ≡ b → Member kept k → AllByRecursion (MayChange n) rest
    → AllByRecursion (MayChange n) (cond (not b) (k ∷ rest) rest)
may_first n k rest true came there all = all
may_first n k rest false later there all = ((there, λ came. absurd (false≢true (sym later ∙ came))), all)

later_may : (n : ℕ) (ks : List Kept) → AllByRecursion (Member kept) ks → AllByRecursion (MayChange n) (filter (λ k. not (nat_le k.since n)) ks)
later_may n [] there = tt
later_may n (k ∷ ks) there = may_first n k (filter (λ k. not (nat_le k.since n)) ks) (nat_le k.since n) refl there.0 (later_may n ks there.1)

-- those that a format lacked, and `about`
pub missing_may : (n : ℕ) → AllByRecursion (MayChange n) (about_kept ∷ later n)
missing_may n = (about_may n, later_may n kept (all_from (Member kept) kept (λ k there. there)))

-- what was written of such tables leaves alone all else that was there
module _ (n : ℕ) (a : Database) (had : HasOfficeOf n a.schema) (old new : State) (beside : LeavesBeside n a old.now) (has : HasOffice old.now.schema) where
  each_apart : (u : Table) → Member a.schema.tables u → IsOfNone a.schema (told_names n) u.tree → (k : Kept) → MayChange n k
      → u.tree ≢ tree_in old.now.schema k.table.name
  each_apart u there apart k may = by_test (nat_le k.since n) refl
    where
      by_test : (b : Bool) → nat_le k.since n ≡ b → u.tree ≢ tree_in old.now.schema k.table.name
      by_test true came same =
          let stands = of_upto (IsKept a.schema) n k kept may.0 came had.tables in
          let kept_there = tree_is old.now.schema (place_in a.schema k.table.name)
          (record k.table { tree = tree_in a.schema k.table.name })
          (beside.places (place_in a.schema k.table.name) (record k.table { tree = tree_in a.schema k.table.name }) stands.0.has) in
          all_has (λ name. u.tree ≢ tree_in a.schema name) (told_names n) k.table.name apart (may.1 came) (same ∙ kept_there)
      by_test false later same =
          apart_new n a old.now beside k (free_later a.schema n k kept may.0 later had.free)
          (of_upto (IsKept old.now.schema) present_format k kept may.0 (known k kept all_known may.0) has.tables) u there same

  all_apart : (u : Table) → Member a.schema.tables u → IsOfNone a.schema (told_names n) u.tree → (ks : List Kept)
      → AllByRecursion (MayChange n) ks → IsOfNone old.now.schema (kept_names ks) u.tree
  all_apart u there apart [] may = tt
  all_apart u there apart (k ∷ ks) may = (each_apart u there apart k may.0, all_apart u there apart ks may.1)

  -- so all else is still as it was before the missing tables were made
  pub still_beside : (ks : List Kept) → AllByRecursion (MayChange n) ks → WritesOnly (kept_names ks) old new → LeavesBeside n a new.now
  still_beside ks may only = record {
    schema = only.schema ∙ beside.schema;
    places = λ at t there. subst (λ (s : Schema). Has s at t) (sym only.schema) (beside.places at t there);
    others = all_from (λ u. IsOfNone a.schema (told_names n) u.tree → new.now.trees u.tree ≡ a.trees u.tree) a.schema.tables (λ u there apart.
        let g = grown n a old.now beside in
        let here = subst (λ l. Member l u) (sym g.tables) (has_left a.schema.tables g.more u there) in
        all_has (λ u. IsOfNone old.now.schema (kept_names ks) u.tree → new.now.trees u.tree ≡ old.now.trees u.tree) old.now.schema.tables u
        only.tables here (all_apart u there apart ks may)
        ∙ all_has (λ u. IsOfNone a.schema (told_names n) u.tree → old.now.trees u.tree ≡ a.trees u.tree) a.schema.tables u beside.others there apart);
    sound = only.sound;
  }
