-- What a DELETE does.
use Rattle.std.proofs.Common.{◌≡◌, ℕ, ℤ, Bool, true, false, not, ◌||◌, cond, List, [], ◌∷◌, map, filter, fold, IsTrue, None, Ok, IsPermutation, slice_get, Some, refl, sym, ap, ◌∙◌, subst, int_eq}
use Rattle.std.specs.List.{list_any}
use Rattle.std.proofs.Math.Path.{fun_ext}
use Rattle.std.proofs.lemmas.List.Sorted.{IsPermutation-map, list_any-IsPermutation}
use Rattle.sqlite_value.specs.declared.value.Value.TheVariants.{Null}
use Rattle.sqlite_value.specs.Order.{Row}
use Rattle.sqlite_trees.specs.Tree.{rowid}
use Rattle.sqlite_sql.specs.Term.{Term, eval_all, col}
use Rattle.sqlite_sql.specs.Query.{Query, IsAnswer}
use Rattle.sqlite_keyed.specs.Keyed.{IsKeyedBy}
use Rattle.sqlite_keyed.specs.Lists.{delete_where, without_key}
use Rattle.sqlite_keyed.proofs.ListLemmas.{map-map, map_same, filter_same}
use Rattle.sqlite_keyed.proofs.WriteLemmas.{removes_delete}
use Rattle.sqlite_typed.proofs.RowLemmas.{deletes-map}
use Rattle.sqlite_schema.specs.declared.schema.Keys.TheVariants.{Enforced}
use Rattle.sqlite_schema.specs.declared.schema.Table.{Table}
use Rattle.sqlite_rules.specs.declared.error.Rowids.TheVariants.{Given}
use Rattle.sqlite_rules.specs.Calls.{ids_of}
use Rattle.sqlite_rules.specs.Edit.{edit_of, taken_by, without_all, id_in}
use Rattle.sqlite.specs.Rows.{Written, Edited}
use Rattle.sqlite.specs.State.{State, Shows, Writes, ExecutesInside}
use Rattle.sqlite.proofs.Callers.{one_step}
use Rattle.one_table.specs.Place.{Has}
use Rattle.one_table.specs.Listed.{IsListing}
use Rattle.one_table.specs.Referring.{is_left_alone}
use Rattle.one_table.specs.Deleting.{IsDelete, Removes, delete_as, removal_query}
use Rattle.one_table.specs.InTransaction.{HasChanged, RemovesRows}
use Rattle.one_table.proofs.ListedLemmas.{all_rows, none_laid}
use Rattle.one_table.proofs.ChangeLemmas.{went, same_value, has_written, has_changed, ran_inside}
use Rattle.one_table.proofs.UpdateLemmas.{idle_works}
use Rattle.one_table.proofs.DeleteTextLemmas.{deletes}

-- ---- lists

module _ {X : Type 0} (key : X → ℤ) where
  abbrev is_one_of : List ℤ → X → Bool
  is_one_of ids x = list_any (λ id. int_eq (key x) id) ids

  twice : (p q : X → Bool) (xs : List X) → filter (λ x. not (q x)) (filter (λ x. not (p x)) xs) ≡ filter (λ x. not (p x || q x)) xs
  twice p q [] = refl
  twice p q (x ∷ xs) = go (p x) (twice p q xs)
    where
      go : (b : Bool) → filter (λ x. not (q x)) (filter (λ x. not (p x)) xs) ≡ filter (λ x. not (p x || q x)) xs
          → filter (λ x. not (q x)) (cond (not b) (x ∷ filter (λ x. not (p x)) xs) (filter (λ x. not (p x)) xs))
          ≡ cond (not (b || q x)) (x ∷ filter (λ x. not (p x || q x)) xs) (filter (λ x. not (p x || q x)) xs)
      go true more = more
      go false more = ap (λ l. cond (not (q x)) (x ∷ l) l) more

  -- those are left whose key is none of these
  left_over : (ids : List ℤ) (xs : List X) → fold (without_key key) xs ids ≡ filter (λ x. not (is_one_of ids x)) xs
  left_over [] xs = sym (all_left xs)
    where
      all_left : (ys : List X) → filter (λ x. not (is_one_of [] x)) ys ≡ ys
      all_left [] = refl
      all_left (y ∷ ys) = ap (λ l. y ∷ l) (all_left ys)
  left_over (id ∷ ids) xs = left_over ids (without_key key xs id) ∙ twice (λ x. int_eq (key x) id) (is_one_of ids) xs

  -- keys are taken out in any order alike
  any_order : (these those : List ℤ) (xs : List X) → IsPermutation these those → fold (without_key key) xs these ≡ fold (without_key key) xs those
  any_order these those xs same =
      left_over these xs
      ∙ filter_same (λ x. not (is_one_of these x)) (λ x. not (is_one_of those x))
      (λ x. ap not (list_any-IsPermutation (λ id. int_eq (key x) id) these those same)) xs
      ∙ sym (left_over those xs)

-- ---- the rows that are left

module _ {X : Type 0} (t : Table) (tests : List Term) (params : Row) (key : X → ℤ) (stored : X → Row) (p : X → Bool)
    (removes : Removes tests params key stored p) where
  abbrev show : X → Row
  show x = eval_all (col 1 0 ∷ []) (params ∷ stored x ∷ [])

  keys_are : (ys : List X) → ids_of (map show ys) ≡ map key ys
  keys_are ys = map-map (λ r. id_in (rowid r)) show ys ∙ map_same _ key (λ x. ap id_in (removes.keyed x)) ys

  -- a DELETE leaves in the table the rows of the values that do not pass, in their order
  pub removes_listed : (old new : State) (xs : List X) → RemovesRows t (removal_query t.tree tests) params old new
      → old.now.trees t.tree ≡ map stored xs → IsKeyedBy key xs → HasChanged t (map stored (delete_where p xs)) old new
  removes_listed old new xs h holds up =
      let listing : IsListing old.now.trees t.tree tests (col 1 0 ∷ []) params stored xs p show =
      record { holds_them = holds; passes = removes.passes; shows = λ _. refl } in
      let found : IsPermutation (map key (filter p xs)) (ids_of h.found) =
      subst (λ ids. IsPermutation ids (ids_of h.found)) (keys_are (filter p xs))
      (IsPermutation-map (λ r. id_in (rowid r)) (map show (filter p xs)) h.found (all_rows listing h.found h.answer)) in
      let left : without_all (old.now.trees t.tree) (ids_of h.found) ≡ map stored (delete_where p xs) =
      ap (λ rows. without_all rows (ids_of h.found)) holds ∙ deletes-map key stored removes.keyed (ids_of h.found) xs
      ∙ ap (map stored) (sym (any_order key (map key (filter p xs)) (ids_of h.found) xs found) ∙ removes_delete key p xs up) in
      subst (λ rows. HasChanged t rows old new) left h.changed

-- ---- the statement

module _ (sql : List ℕ) (params : Row) (old new : State) (t : Table) (at : ℕ) (q : Query) (is : IsDelete t q sql)
    (has : IsTrue old.is_open → Has old.now.schema at t × (is_left_alone old.now.schema t.tree ≡ true)) where
  removed_by : (text : List ℕ) (count : ℕ) → slice_get old.now.schema.tables at ≡ Some t → is_left_alone old.now.schema t.tree ≡ true
      → Shows old new new.now old.committed true
      → Writes old new None (delete_as at q) text params count → RemovesRows t q params old new
  removed_by text count listed alone inside w =
      let h = has_written t at None (delete_as at q) params old new w.tally listed w.changed in
      let given = went h.wrote in
      let put = went given.2 in
      let edit = edit_of old.now.trees t (ids_of given.0) Given 0 [] in
      let trees : h.written.trees ≡ put.0 = ap (λ (it : Written). it.trees) (same_value put.2) in
      let a = one_step old.now.schema Enforced old.now.trees h.written.trees edit
      (idle_works old.now.schema t.tree (taken_by old.now.trees edit) edit.news alone)
      (subst (λ next. Edited old.now.schema Enforced old.now.trees edit (Ok next)) (sym trees) put.1) in
      record {
        found = given.0;
        answer = subst (λ db. IsAnswer q db params given.0) (fun_ext (none_laid old.now.trees)) (given.1.answer Null);
        changed = has_changed t edit (delete_as at q) text params count old new h refl a inside w;
      }

  -- a DELETE executed inside a transaction takes out the rows that its query finds
  pub removes_rows : (count : ℕ) → ExecutesInside 0 sql params old new (Ok count) → RemovesRows t q params old new
  removes_rows count h =
      let ran = ran_inside sql params old new (delete_as at q) (λ open_now. deletes old.now.schema at t (has open_now).0 q sql is) count h in
      let here = has h.1.was_open in
      removed_by _ count here.0.listed here.1 ran.2 ran.1
