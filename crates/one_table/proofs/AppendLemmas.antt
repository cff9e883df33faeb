-- A row with the next number stands last.
use Rattle.std.proofs.Common.{◌≡◌, ℤ, List, [], ◌∷◌, ◌++◌, map, drop, IsTrue, true, refl, sym, ap, ap₂, ◌∙◌, subst}
use Rattle.std.proofs.lemmas.List.{map-id}
use Rattle.std.specs.List.{AllByRecursion}
use Rattle.sqlite_value.specs.declared.value.Value.TheVariants.{Int}
use Rattle.sqlite_value.specs.Order.{Row}
use Rattle.sqlite_trees.specs.Tree.{rowid, IsTable, put_row}
use Rattle.sqlite_trees.specs.View.{is_int}
use Rattle.sqlite_sql.specs.Ops.{is_null}
use Rattle.sqlite_keyed.specs.Keyed.{IsKeyedBy, next_key}
use Rattle.sqlite_keyed.proofs.SliceLemmas.{insert_next}
use Rattle.sqlite_typed.proofs.RowLemmas.{puts-map}
use Rattle.sqlite_rules.specs.declared.error.Rowids.TheVariants.{Chosen}
use Rattle.sqlite_rules.specs.Edit.{next_rowid, with_rowid}
use Rattle.one_table.specs.Numbered.{IsInOrder}
use Rattle.one_table.proofs.NumberedLemmas.{beside, columns, gains, hides_all, number, rows_are, with_last, with_number}

-- A table of number keys that holds a list gains the next value at the list's end.
pub appends : {X : Type 0} (key : X → ℤ) (to_row : X → Row) → ((x : X) → rowid (to_row x) ≡ Int (key x)) → (xs : List X) (x : X)
    → IsKeyedBy key xs → key x ≡ next_key key xs
    → put_row (to_row x) (map to_row xs) ≡ map to_row (xs ++ x ∷ [])
appends key to_row keyed xs x up next = puts-map key to_row keyed (x ∷ []) xs ∙ ap (map to_row) (insert_next key xs x up next)

pub record IsLast (source : Row) (rows : List Row) : Type 0 where
  pub columns : map (drop 1) (put_row (with_rowid Chosen rows source) rows) ≡ map (drop 1) rows ++ drop 1 source ∷ []
  pub rises : IsTable (put_row (with_rowid Chosen rows source) rows)
  pub are_numbers : AllByRecursion (λ r. IsTrue (is_int (rowid r))) (put_row (with_rowid Chosen rows source) rows)

-- A table without numbers of its own gains the row at its end, beside rowids that only the database
-- knows.
pub stands_last : (source : Row) → is_null (rowid source) ≡ true → (rows : List Row) → IsTable rows
    → AllByRecursion (λ r. IsTrue (is_int (rowid r))) rows → IsLast source rows
stands_last source none rows up ids =
    let order : IsInOrder rows = record { rises = up; are_numbers = ids } in
    let before = map (drop 1) rows in
    let after = gains columns rows before (hides_all rows) order (drop 1 source) in
    let row : with_rowid Chosen rows source ≡ Int (next_rowid rows) ∷ drop 1 source = rw none refl in
    let put : put_row (with_rowid Chosen rows source) rows ≡ map (with_number columns) (with_last columns rows before (hides_all rows) order (drop 1 source)) =
    ap₂ put_row row (rows_are columns rows before (hides_all rows) order)
    ∙ puts-map number (with_number columns) (λ _. refl) ((next_rowid rows, drop 1 source) ∷ []) (beside columns rows before (hides_all rows) order) in
    let in_order = subst IsInOrder (sym put) after.1 in
    record { columns = ap (map (drop 1)) put ∙ after.0 ∙ map-id _; rises = in_order.rises; are_numbers = in_order.are_numbers }
