-- What an UPDATE of one row does.
use Rattle.std.proofs.Common.{◌≡◌, ◌≤◌, ◌<ℤ◌, ◌==◌, ◌||◌, not, ℕ, ℤ, Bool, true, false, if◌then◌else◌, IsTrue, List, [], ◌∷◌, map, filter, fold, find, length, slice_get, drop, Option, None, Some, option_map, unwrap_or, Ok, option_and_then, refl, sym, ap, ap₂, ◌∙◌, subst, arith, Greater, int_cmp, inl, inr}
use Rattle.std.specs.List.{AllByRecursion, list_all, flat_map, filter_map}
use Rattle.std.proofs.Math.Path.{fun_ext}
use Rattle.std.proofs.lemmas.Int.{ints}
use Rattle.std.proofs.lemmas.Bool.{and_parts, or_cases, not-true}
use Rattle.sqlite_value.specs.declared.value.Value.TheVariants.{Int, Null}
use Rattle.sqlite_value.specs.declared.keys.Order.{Order}
use Rattle.sqlite_value.specs.Order.{Row}
use Rattle.sqlite_trees.specs.Tree.{Trees, rowid, put_row}
use Rattle.sqlite_sql.specs.Term.{Term, eval_all}
use Rattle.sqlite_sql.specs.Query.{Query, IsAnswer}
use Rattle.sqlite_keyed.specs.Keyed.{IsKeyedBy, insert_by}
use Rattle.sqlite_keyed.specs.Lists.{update_where, delete_where}
use Rattle.sqlite_keyed.proofs.KeyedLemmas.{Less-from_lt}
use Rattle.sqlite_keyed.proofs.ListLemmas.{map-map, map_same, all_map, all-filter, all_weaker}
use Rattle.sqlite_keyed.proofs.WriteLemmas.{removes_delete}
use Rattle.sqlite_typed.proofs.RowLemmas.{puts-map, deletes-map}
use Rattle.sqlite_schema.specs.declared.schema.Action.{Action}
use Rattle.sqlite_schema.specs.declared.schema.Action.TheVariants.{NoAction}
use Rattle.sqlite_schema.specs.declared.schema.Keys.TheVariants.{Enforced}
use Rattle.sqlite_schema.specs.declared.schema.Reference.{Reference}
use Rattle.sqlite_schema.specs.declared.schema.Table.{Table}
use Rattle.sqlite_schema.specs.declared.schema.Schema.{Schema}
use Rattle.sqlite_schema.specs.Names.{same_name}
use Rattle.sqlite_schema.specs.Rules.{ParentKey, parent_key, key_in, key_places, declared_order}
use Rattle.sqlite_rules.specs.declared.action.Deed.{Deed}
use Rattle.sqlite_rules.specs.declared.error.Rowids.TheVariants.{Given}
use Rattle.sqlite_rules.specs.Action.{deed_for, deed_of, work_by, work_for, works, pairs}
use Rattle.sqlite_rules.specs.Cast.{cast_row}
use Rattle.sqlite_rules.specs.Calls.{ids_of}
use Rattle.sqlite_rules.specs.Edit.{edit_of, edited, taken_by, numbered, put_all, without_all, id_in}
use Rattle.one_table.specs.Referring.{is_idle, is_no_action, points_to, is_left_alone}
use Rattle.sqlite.specs.Rows.{Written, Edited}
use Rattle.sqlite.specs.State.{State, Shows, Writes, ExecutesInside}
use Rattle.sqlite.proofs.Callers.{one_step}
use Rattle.one_table.specs.Place.{Has}
use Rattle.one_table.specs.Changing.{update_as, IsUpdate}
use Rattle.one_table.specs.Listed.{IsListing, query_on, no_limit}
use Rattle.one_table.specs.InTransaction.{HasChanged, SetsRows}
use Rattle.one_table.specs.Updating.{Sets}
use Rattle.one_table.proofs.UpdateTextLemmas.{updates}
use Rattle.one_table.proofs.ListedLemmas.{none_laid, one_row}
use Rattle.one_table.proofs.ChangeLemmas.{went, same_value, has_written, has_changed, ran_inside}

-- ---- lists

module _ {X : Type 0} (key : X → ℤ) where
  puts_past : (news : List X) (x : X) (xs : List X) → AllByRecursion (λ n. key x <ℤ key n) news → fold (insert_by key) (x ∷ xs) news ≡ x
      ∷ fold (insert_by key) xs news
  puts_past [] x xs above = refl
  puts_past (n ∷ news) x xs above = rw (Less-from_lt (key x) (key n) above.0) (puts_past news x (insert_by key xs n) above.1)

  first_put : (x : X) (xs : List X) → AllByRecursion (λ y. key x <ℤ key y) xs → insert_by key xs x ≡ x ∷ xs
  first_put x [] above = refl
  first_put x (y ∷ ys) above = let k = above.0 in let later : int_cmp (key y) (key x) ≡ Greater = grind (arith, ints) in rw later

  -- what is taken out and put back changed is changed in its place
  changed_in_place : (p : X → Bool) (f : X → X) → ((x : X) → key (f x) ≡ key x) → (xs : List X) → IsKeyedBy key xs
      → fold (insert_by key) (delete_where p xs) (map f (filter p xs)) ≡ update_where p f xs
  changed_in_place p f keeps [] up = refl
  changed_in_place p f keeps (x ∷ xs) up = go (p x) (changed_in_place p f keeps xs up.1)
    where
      above : (y : X) → key y ≡ key x → AllByRecursion (λ n. key y <ℤ key n) (map f (filter p xs))
      above y same = all_map _ f _ (all-filter _ p xs (all_weaker _ (λ n. key y <ℤ key (f n)) (λ n h. rw (same, keeps n) h) xs up.0))

      left : AllByRecursion (λ n. key (f x) <ℤ key n) (delete_where p xs)
      left = all-filter _ (λ n. not (p n)) xs (all_weaker _ (λ n. key (f x) <ℤ key n) (λ n h. rw (keeps x) h) xs up.0)

      go : (b : Bool) → fold (insert_by key) (delete_where p xs) (map f (filter p xs)) ≡ update_where p f xs
          → fold (insert_by key) (if not b then x ∷ delete_where p xs else delete_where p xs)
          (map f (if b then x ∷ filter p xs else filter p xs)) ≡ (if b then f x else x) ∷ update_where p f xs
      go true more = ap (λ l. fold (insert_by key) l (map f (filter p xs))) (first_put (f x) (delete_where p xs) left)
          ∙ puts_past _ (f x) (delete_where p xs) (above (f x) (keeps x)) ∙ ap (λ l. f x ∷ l) more
      go false more = puts_past _ x (delete_where p xs) (above x refl) ∙ ap (λ l. x ∷ l) more

-- ---- no foreign key acts where no reference to the table takes an action

no_action : (a : Action) → is_no_action a ≡ true → a ≡ NoAction
no_action NoAction h = refl
no_action _ h = absurd cc

no_deed : (deletes : Bool) (ref : Reference) → is_idle ref ≡ true → deed_for Enforced deletes ref ≡ None
no_deed deletes ref h =
    let parts = and_parts (is_no_action ref.on_delete) (is_no_action ref.on_update) h in
    elim deletes as (λ b. deed_of Enforced b (if b then ref.on_delete else ref.on_update) ≡ None)
    [ true ↦ ap (deed_of Enforced true) (no_action ref.on_delete parts.0) | false ↦ ap (deed_of Enforced false) (no_action ref.on_update parts.1) ]

module _ (tree : ℕ) (moves : List (Row × Row)) (child : Table) (ref : Reference) where
  no_key : (deed : Option Deed) → work_by 0 tree moves child ref deed None ≡ None
  no_key None = refl
  no_key (Some deed) = refl

  other_tree : (deed : Option Deed) (key : ParentKey) → (key.0 == tree) ≡ false → work_by 0 tree moves child ref deed (Some key) ≡ None
  other_tree None key h = refl
  other_tree (Some deed) key h = rw h

  by_order : (deed : Option Deed) (u : Table) (places : List ℕ) (o : Option Order) → (u.tree == tree) ≡ false
      → work_by 0 tree moves child ref deed (option_map (λ order. (u.tree, places, order)) o) ≡ None
  by_order deed u places None h = no_key deed
  by_order deed u places (Some order) h = other_tree deed (u.tree, places, order) h

  by_places : (deed : Option Deed) (u : Table) (k : Option (List ℕ)) → (u.tree == tree) ≡ false
      → work_by 0 tree moves child ref deed (option_and_then (key_in u) k) ≡ None
  by_places deed u None h = no_key deed
  by_places deed u (Some places) h = by_order deed u places (declared_order u places) h

  elsewhere : (deed : Option Deed) (o : Option Table) → unwrap_or (option_map (λ u. u.tree == tree) o) false ≡ false
      → work_by 0 tree moves child ref deed (option_and_then (λ u. option_and_then (key_in u) (key_places u ref.parent_columns)) o) ≡ None
  elsewhere deed None h = no_key deed
  elsewhere deed (Some u) h = by_places deed u (key_places u ref.parent_columns) h

no_work_here : (schema : Schema) (tree : ℕ) (olds news : List Row) (child : Table) (ref : Reference) → (is_idle ref || not (points_to schema tree ref)) ≡ true
    → work_for schema Enforced 0 tree olds news child ref ≡ None
no_work_here schema tree olds news child ref h = elim (or_cases (is_idle ref) (not (points_to schema tree ref)) h) [
  | inl idle ↦ ap (λ d. work_by 0 tree (pairs olds news) child ref d (parent_key schema.tables ref)) (no_deed (length news == 0) ref idle)
  | inr apart ↦ elsewhere tree (pairs olds news) child ref (deed_for Enforced (length news == 0) ref)
      (find (λ u. same_name u.name ref.parent) schema.tables) (not-true _ apart)
]

none_kept : {A B : Type 0} (f : A → Option B) (ok : A → Bool) → ((a : A) → ok a ≡ true → f a ≡ None) → (xs : List A) → list_all ok xs
    ≡ true → filter_map f xs ≡ []
none_kept f ok none [] h = refl
none_kept f ok none (x ∷ xs) h = let parts = and_parts (ok x) (list_all ok xs) h in rw (none x parts.0, none_kept f ok none xs parts.1)

none_joined : {A B : Type 0} (f : A → List B) (ok : A → Bool) → ((a : A) → ok a ≡ true → f a ≡ []) → (xs : List A) → list_all ok xs ≡ true → flat_map f xs ≡ []
none_joined f ok none [] h = refl
none_joined f ok none (x ∷ xs) h = let parts = and_parts (ok x) (list_all ok xs) h in rw (none x parts.0, none_joined f ok none xs parts.1)

-- where no reference to the table takes an action, no foreign key has anything to do
pub idle_works : (schema : Schema) (tree : ℕ) (olds news : List Row) → is_left_alone schema tree ≡ true → works schema Enforced 0 tree olds news ≡ []
idle_works schema tree olds news h =
    none_joined _ _ (λ child ok. none_kept (work_for schema Enforced 0 tree olds news child) _
    (λ ref. no_work_here schema tree olds news child ref) child.references ok) schema.tables h

-- ---- the step

given_ids : (rows sources : List Row) → numbered Given rows sources ≡ sources
given_ids rows [] = refl
given_ids rows (r ∷ sources) = ap (λ l. r ∷ l) (given_ids (put_row r rows) sources)

fold_over_map : {A B C : Type 0} (step : C → B → C) (g : A → B) (c : C) (xs : List A) → fold step c (map g xs) ≡ fold (λ d x. step d (g x)) c xs
fold_over_map step g c [] = refl
fold_over_map step g c (x ∷ xs) = fold_over_map step g (step c (g x)) xs

-- rows that are taken out and put back changed are changed in their places
module _ {X : Type 0} (key : X → ℤ) (stored : X → Row) (keyed : (x : X) → rowid (stored x) ≡ Int (key x)) (p : X → Bool) (f : X → X)
    (stays : (x : X) → key (f x) ≡ key x) where
  -- the table then has the rows of the values, with those set that pass
  pub replaced : (xs : List X) → IsKeyedBy key xs → put_all (without_all (map stored xs) (map key (filter p xs)))
      (map stored (map f (filter p xs))) ≡ map stored (update_where p f xs)
  replaced xs up =
      ap (λ l. put_all l (map stored (map f (filter p xs))))
      (deletes-map key stored keyed (map key (filter p xs)) xs ∙ ap (map stored) (removes_delete key p xs up))
      ∙ fold_over_map (λ rows r. put_row r rows) stored (map stored (delete_where p xs)) (map f (filter p xs))
      ∙ puts-map key stored keyed (map f (filter p xs)) (delete_where p xs)
      ∙ ap (map stored) (changed_in_place key p f stays xs up)

module _ {X : Type 0} (t : Table) (tests terms : List Term) (params : Row) (key : X → ℤ) (stored : X → Row) (p : X → Bool) (f : X → X)
    (sets : Sets t tests terms params key stored p f) where
  abbrev show : X → Row
  show x = eval_all terms (params ∷ stored x ∷ [])

  gone_are : (ys : List X) → ids_of (map show ys) ≡ map key ys
  gone_are ys = map-map (λ r. id_in (rowid r)) show ys ∙ map_same _ key (λ x. ap id_in (sets.identifies x)) ys

  news_are : (ys : List X) → map (λ s. cast_row t (drop 1 s)) (map show ys) ≡ map stored (map f ys)
  news_are ys = map-map (λ s. cast_row t (drop 1 s)) show ys ∙ map_same _ (λ x. stored (f x)) sets.becomes ys ∙ sym (map-map stored f ys)

  -- an UPDATE leaves in the table the rows of the values, where those that pass are set
  pub set_rows : (db : Trees) (xs : List X) → db t.tree ≡ map stored xs → IsKeyedBy key xs
      → edited db (edit_of db t (ids_of (map show (filter p xs))) Given 1 (map show (filter p xs))) ≡ map stored (update_where p f xs)
  set_rows db xs holds up =
      let ys = filter p xs in
      let left : without_all (db t.tree) (ids_of (map show ys)) ≡ without_all (map stored xs) (map key ys) =
      ap (λ ids. without_all (db t.tree) ids) (gone_are ys) ∙ ap (λ rows. without_all rows (map key ys)) holds in
      ap₂ put_all left (given_ids _ (map (λ s. cast_row t (drop 1 s)) (map show ys)) ∙ news_are ys) ∙ replaced key stored sets.keyed p f sets.stays xs up

  -- what is set is set in the values, where at most one of them passes
  pub sets_listed : (old new : State) (xs : List X) → SetsRows t (query_on t.tree tests terms [] no_limit) params old new
      → old.now.trees t.tree ≡ map stored xs → IsKeyedBy key xs → length (filter p xs) ≤ 1
      → HasChanged t (map stored (update_where p f xs)) old new
  sets_listed old new xs h holds up few =
      let listing : IsListing old.now.trees t.tree tests terms params stored xs p show =
      record { holds_them = holds; passes = sets.passes; shows = λ _. refl } in
      let found : h.found ≡ map show (filter p xs) = one_row listing h.found h.answer few in
      subst (λ rows. HasChanged t rows old new) (set_rows old.now.trees xs holds up)
      (subst (λ rows. HasChanged t (edited old.now.trees (edit_of old.now.trees t (ids_of rows) Given 1 rows)) old new) found h.changed)

-- ---- the statement

module _ (sql : List ℕ) (params : Row) (old new : State) (t : Table) (at : ℕ) (q : Query) (is : IsUpdate t q sql)
    (has : IsTrue old.is_open → Has old.now.schema at t × (is_left_alone old.now.schema t.tree ≡ true)) where
  set_by : (text : List ℕ) (count : ℕ) → slice_get old.now.schema.tables at ≡ Some t → is_left_alone old.now.schema t.tree ≡ true
      → Shows old new new.now old.committed true
      → Writes old new None (update_as at q) text params count → SetsRows t q params old new
  set_by text count listed alone inside w =
      let h = has_written t at None (update_as at q) params old new w.tally listed w.changed in
      let given = went h.wrote in
      let put = went given.2 in
      let edit = edit_of old.now.trees t (ids_of given.0) Given 1 given.0 in
      let trees : h.written.trees ≡ put.0 = ap (λ (it : Written). it.trees) (same_value put.2) in
      let a = one_step old.now.schema Enforced old.now.trees h.written.trees edit
      (idle_works old.now.schema t.tree (taken_by old.now.trees edit) edit.news alone)
      (subst (λ next. Edited old.now.schema Enforced old.now.trees edit (Ok next)) (sym trees) put.1) in
      record {
        found = given.0;
        answer = subst (λ db. IsAnswer q db params given.0) (fun_ext (none_laid old.now.trees)) (given.1.answer Null);
        changed = has_changed t edit (update_as at q) text params count old new h refl a inside w;
      }

  -- an UPDATE executed inside a transaction sets the rows that its query finds
  pub sets_rows : (count : ℕ) → ExecutesInside 0 sql params old new (Ok count) → SetsRows t q params old new
  sets_rows count h =
      let ran = ran_inside sql params old new (update_as at q) (λ open_now. updates old.now.schema at t (has open_now).0 q sql is) count h in
      let here = has h.1.was_open in
      set_by _ count here.0.listed here.1 ran.2 ran.1
