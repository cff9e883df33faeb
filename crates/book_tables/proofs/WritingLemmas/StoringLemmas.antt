-- What of the rows of a table is told where a row is put in, whatever the other rows are.
use Rattle.std.proofs.Common.{◌≡◌, true, false, if◌then◌else◌, List, [], ◌∷◌, ◌++◌, Ordering, Less, Equal, Greater, bytes_eq, drop, is_eq, map, refl, sym, ap, subst, ◌∙◌, append-nil, append_assoc}
use Rattle.std.specs.List.{AllByRecursion}
use Rattle.std.specs.Ordering.{match_ordering}
use Rattle.std.specs.Prelude.{IsPermutation}
use Rattle.std.proofs.lemmas.Bool.{false≢true}
use Rattle.std.proofs.lemmas.List.{map-append}
use Rattle.std.proofs.lemmas.List.Sorted.{IsPermutation-append_comm, IsPermutation-append_left, IsPermutation-cons, IsPermutation-map, IsPermutation-refl, IsPermutation-trans}
use Rattle.sqlite.specs.Effect.{Database}
use Rattle.sqlite.specs.Order.{Row}
use Rattle.sqlite.specs.State.{State}
use Rattle.sqlite_keyed.proofs.ListLemmas.{none_from_any}
use Rattle.sqlite_rules.specs.Edit.{is_taken}
use Rattle.sqlite_schema.specs.declared.schema.Schema.{Schema}
use Rattle.sqlite_schema.specs.declared.schema.Table.{Table}
use Rattle.sqlite_trees.specs.Tree.{put_row, rowid}
use Rattle.sqlite_value.specs.Order.{value_cmp}
use Rattle.one_table.specs.InTransaction.{PutsRow}
use Rattle.one_table.specs.Standing.{tree_in}
use Rattle.book_tables.specs.Holds.{HasOffice, rows_in}
use Rattle.book_tables.specs.Kept.{Kept}
use Rattle.book_tables.specs.writing.Storing.{StoresRows, bare_rows}
use Rattle.book_tables.specs.writing.Writing.{IsOfNone, WritesOnly}
use Rattle.book_tables.proofs.KeptLemmas.{ChangesOnly, listed_holds, names_differ, rows_kept}
use Rattle.book_tables.proofs.OfficeTableLemmas.{IsInOffice}

-- ---- a row whose number none has

put_apart : (new : Row) (rows : List Row) → AllByRecursion (λ r. is_eq (value_cmp (rowid r) (rowid new)) ≡ false) rows
    → IsPermutation (rows ++ new ∷ []) (put_row new rows)
put_apart new [] apart = IsPermutation-refl (new ∷ [])
put_apart new (r ∷ rs) apart = go (value_cmp (rowid r) (rowid new)) refl (put_apart new rs apart.1)
  where
    go : (o : Ordering) → value_cmp (rowid r) (rowid new) ≡ o → IsPermutation (rs ++ new ∷ []) (put_row new rs)
        → IsPermutation (r ∷ (rs ++ new ∷ [])) (match_ordering o (r ∷ put_row new rs) (new ∷ rs) (new ∷ r ∷ rs))
    go Less e more = IsPermutation-cons r (rs ++ new ∷ []) (put_row new rs) more
    go Equal e more = absurd (false≢true (sym apart.0 ∙ ap is_eq e))
    go Greater e more = IsPermutation-append_comm (r ∷ rs) (new ∷ [])

put_beside : (new : Row) (rows : List Row) → is_taken rows new ≡ false → IsPermutation (rows ++ new ∷ []) (put_row new rows)
put_beside new rows fresh = put_apart new rows (none_from_any (λ r. is_eq (value_cmp (rowid r) (rowid new))) rows fresh)

-- ---- a row that a statement puts in

module _ (name : List _) (t : Table) (old new : State) (at : t.tree ≡ tree_in old.now.schema name) (row : Row) (puts : PutsRow t row old new) where
  rows_put : IsPermutation (rows_in old.now name ++ row ∷ []) (rows_in new.now name)
  rows_put =
      let here : rows_in new.now name ≡ put_row row (rows_in old.now name) =
      ap (λ (s : Schema). new.now.trees (tree_in s name)) puts.changed.schema
      ∙ subst (λ n. new.now.trees n ≡ put_row row (old.now.trees n)) at puts.changed.rows_are in
      let fresh = subst (λ n. is_taken (old.now.trees n) row ≡ false) at puts.fresh in
      subst (IsPermutation (rows_in old.now name ++ row ∷ [])) (sym here) (put_beside row (rows_in old.now name) fresh)

  -- one with a number of its own
  pub stores_numbered : (stored : Row) → row ≡ stored → IsPermutation (rows_in old.now name ++ stored ∷ []) (rows_in new.now name)
  stores_numbered stored is = subst (λ (r : Row). IsPermutation (rows_in old.now name ++ r ∷ []) (rows_in new.now name)) is rows_put

  -- one behind a hidden number
  pub stores_hidden : (stored : Row) → drop 1 row ≡ stored
      → IsPermutation (map (drop 1) (rows_in old.now name) ++ stored ∷ []) (map (drop 1) (rows_in new.now name))
  stores_hidden stored is =
      subst (λ (l : List Row). IsPermutation l (map (drop 1) (rows_in new.now name)))
      (map-append (drop 1) (rows_in old.now name) (row ∷ []) ∙ ap (λ (r : Row). map (drop 1) (rows_in old.now name) ++ r ∷ []) is)
      (IsPermutation-map (drop 1) (rows_in old.now name ++ row ∷ []) (rows_in new.now name) rows_put)

-- ---- several writes

-- none is put in
pub stores_none : (k : Kept) (a b : Database) → bare_rows k b ≡ bare_rows k a → StoresRows k [] a b
stores_none k a b same = subst (IsPermutation (bare_rows k a ++ [])) (append-nil (bare_rows k a) ∙ sym same) (IsPermutation-refl (bare_rows k a ++ []))

-- these, and then those
pub stores_then : (k : Kept) (xs ys : List Row) (a b c : Database) → StoresRows k xs a b → StoresRows k ys b c → StoresRows k (xs ++ ys) a c
stores_then k xs ys a b c first second =
    subst (λ (l : List Row). IsPermutation l (bare_rows k c)) (append_assoc (bare_rows k a) xs ys)
    (IsPermutation-trans ((bare_rows k a ++ xs) ++ ys) (bare_rows k b ++ ys) (bare_rows k c)
    (IsPermutation-append_left ys (bare_rows k a ++ xs) (bare_rows k b) first) second)

-- before or after what leaves the table
pub stores_before : (k : Kept) (xs : List Row) (a b c : Database) → StoresRows k xs a b → bare_rows k c ≡ bare_rows k b → StoresRows k xs a c
stores_before k xs a b c first same = subst (IsPermutation (bare_rows k a ++ xs)) (sym same) first

-- the same where what leaves the table comes first
pub stores_after : (k : Kept) (xs : List Row) (a b c : Database) → bare_rows k b ≡ bare_rows k a → StoresRows k xs b c → StoresRows k xs a c
stores_after k xs a b c same second = subst (λ (l : List Row). IsPermutation (l ++ xs) (bare_rows k c)) same second

-- ---- what leaves a table

bare_same : (k : Kept) (a b : Database) → rows_in b k.table.name ≡ rows_in a k.table.name → bare_rows k b ≡ bare_rows k a
bare_same k a b same = ap (λ (rows : List Row). if k.is_numbered then rows else map (drop 1) rows) same

-- a write of another one
pub left_by_one : (j k : Kept) → IsInOffice j → IsInOffice k → (a b : Database) → HasOffice a.schema → ChangesOnly k.table.name a b
    → bytes_eq j.table.name k.table.name ≡ false → bare_rows j b ≡ bare_rows j a
left_by_one j k j_in k_in a b has only apart =
    bare_same j a b (rows_kept a b j.table k.table only (j_in.there a.schema has).0 (k_in.there a.schema has).0 (names_differ _ _ apart))

-- writes of others
pub left_by : (j : Kept) (names : List (List _)) → IsInOffice j → (old new : State) → HasOffice old.now.schema
    → IsOfNone old.now.schema names (tree_in old.now.schema j.table.name) → WritesOnly names old new → bare_rows j new.now ≡ bare_rows j old.now
left_by j names j_in old new has none only =
    let there = (j_in.there old.now.schema has).0.has.listed in
    bare_same j old.now new.now (ap (λ (s : Schema). new.now.trees (tree_in s j.table.name)) only.schema
    ∙ listed_holds (λ (u : Table). IsOfNone old.now.schema names u.tree → new.now.trees u.tree ≡ old.now.trees u.tree)
    old.now.schema.tables _ (record j.table { tree = tree_in old.now.schema j.table.name }) there only.tables none)
