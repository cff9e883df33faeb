-- An upsert of a table that holds values, as a function of these.
use Rattle.std.proofs.Common.{◌≡◌, ◌≤◌, ◌⊎◌, ◌||◌, ℤ, Bool, true, false, List, [], ◌∷◌, map, filter, length, refl, sym, ap, ap₂, ◌∙◌, subst, inl, inr}
use Rattle.std.specs.List.{list_any}
use Rattle.sqlite_value.specs.declared.value.Value.TheVariants.{Int}
use Rattle.sqlite_value.specs.Order.{Row}
use Rattle.sqlite_trees.specs.Tree.{put_row, rowid, without_rowid}
use Rattle.sqlite_schema.specs.declared.schema.Table.{Table}
use Rattle.sqlite_rules.specs.declared.error.Rowids.TheVariants.{Chosen}
use Rattle.sqlite_rules.specs.Cast.{cast_row}
use Rattle.sqlite_rules.specs.Edit.{id_in, put_all, with_rowid, without_all}
use Rattle.sqlite_rules.specs.Lists.{Has as Member}
use Rattle.sqlite_rules.proofs.ProbeLemmas.{has_mapped}
use Rattle.sqlite_keyed.specs.Keyed.{IsKeyedBy, insert_by}
use Rattle.sqlite_keyed.specs.Lists.{update_where}
use Rattle.sqlite_sql.specs.Ops.{is_null}
use Rattle.sqlite_typed.proofs.RowLemmas.{puts-map}
use Rattle.sqlite.specs.State.{State}
use Rattle.one_table.specs.InTransaction.{HasChanged}
use Rattle.one_table.specs.Inserting.{source_row}
use Rattle.one_table.specs.Merges.{PutsGiven, SetsThere, Upserts, given_row, set_by}
use Rattle.one_table.specs.Standing.{own_keys}
use Rattle.one_table.specs.Upserting.{Merging, is_of_key}
use Rattle.one_table.proofs.OneRowLemmas.{only_kept}
use Rattle.one_table.proofs.UpdateLemmas.{replaced}

-- whether any passes is the same of the values and of what they are mapped to
pub any_map : {X Y : Type 0} (q : Y → Bool) (f : X → Y) (p : X → Bool) → ((x : X) → q (f x) ≡ p x) → (xs : List X) → list_any q (map f xs) ≡ list_any p xs
any_map q f p same [] = refl
any_map q f p same (x ∷ xs) = ap₂ ◌||◌ (same x) (any_map q f p same xs)

-- In a table that holds these values, xs: the row that is given is x, and its columns keep it as it
-- is. Where it is given, the rows of its key are those of p, and what is set makes f of them.
pub record MergesAs {X : Type 0} (t : Table) (m : Merging) (params : Row) (rows : List Row) (key : X → ℤ) (stored : X → Row) (x : X)
    (p : X → Bool) (f : X → X) (xs : List X) : Type 0 where
  pub keyed : (y : X) → rowid (stored y) ≡ Int (key y)
  pub gives : given_row t m params rows ≡ stored x
  pub fits : cast_row t (stored x) ≡ stored x
  pub meets : (y : X) → is_of_key (own_keys t) m.key (stored x) (stored y) ≡ p y
  pub becomes : (y : X) → Member xs y → p y ≡ true → set_by t m params (stored x) (stored y) ≡ stored (f y)
  pub stays : (y : X) → key (f y) ≡ key y

-- what is given with a number keeps it
pub given_numbered : (t : Table) (m : Merging) (params row : Row) (n : ℤ) → source_row t m.given params ≡ row → rowid row ≡ Int n
    → (rows : List Row) → given_row t m params rows ≡ row
given_numbered t m params row n source numbered rows =
    ap (with_rowid Chosen rows) source ∙ (let some : is_null (rowid row) ≡ false = ap is_null numbered in rw some refl)

module _ {X : Type 0} (t : Table) (m : Merging) (params : Row) (old new : State) (key : X → ℤ) (stored : X → Row) (x : X) (p : X → Bool)
    (f : X → X) (xs : List X) where
  -- no value has the key, and x is put in
  pub record PutsIn (row : Row) : Type 0 where
    pub free : list_any p xs ≡ false
    pub is : row ≡ stored x
    pub changed : HasChanged t (map stored (insert_by key xs x)) old new

  -- a value has the key, and it alone is set
  pub record SetsOne (row : Row) : Type 0 where
    pub one : X
    pub found : Member xs one
    pub meets : p one ≡ true
    pub is : row ≡ stored (f one)
    pub changed : HasChanged t (map stored (update_where p f xs)) old new

  module _ (so : MergesAs t m params (old.now.trees t.tree) key stored x p f xs) (holds : old.now.trees t.tree ≡ map stored xs)
      (up : IsKeyedBy key xs) (few : length (filter p xs) ≤ 1) where
    abbrev is_met : Row → Row → Bool
    is_met = is_of_key (own_keys t) m.key

    abbrev given : Row
    given = given_row t m params (old.now.trees t.tree)

    meets_given : (y : X) → is_met given (stored y) ≡ p y
    meets_given y = ap (λ row. is_met row (stored y)) so.gives ∙ so.meets y

    put_in : (row : Row) → PutsGiven t m params old new row → PutsIn row
    put_in row g =
        let is : row ≡ stored x = g.is ∙ ap (cast_row t) so.gives ∙ so.fits in
        let rows : put_row row (old.now.trees t.tree) ≡ map stored (insert_by key xs x) = ap₂ put_row is holds ∙ puts-map key stored so.keyed (x ∷ []) xs in
        record {
          free = sym (any_map _ stored p meets_given xs) ∙ ap (list_any _) (sym holds) ∙ g.free;
          is = is;
          changed = subst (λ l. HasChanged t l old new) rows g.puts.changed;
        }

    set_one : (row : Row) → SetsThere t m params old new row → SetsOne row
    set_one row s =
        let one = has_mapped stored xs s.there (subst (λ l. Member l s.there) holds s.found) in
        let meets : p one.0 ≡ true = sym (meets_given one.0) ∙ ap (is_met given) (sym one.2) ∙ s.keyed in
        let is : row ≡ stored (f one.0) = s.is ∙ ap₂ (set_by t m params) so.gives one.2 ∙ so.becomes one.0 one.1 meets in
        let only : filter p xs ≡ one.0 ∷ [] = only_kept p xs one.0 few one.1 meets in
        let id : id_in (rowid s.there) ≡ key one.0 = ap (λ r. id_in (rowid r)) one.2 ∙ ap id_in (so.keyed one.0) in
        let left : without_rowid (id_in (rowid s.there)) (old.now.trees t.tree) ≡ without_all (map stored xs) (map key (filter p xs)) =
        ap₂ without_rowid id holds ∙ ap (λ l. without_all (map stored xs) (map key l)) (sym only) in
        let news : row ∷ [] ≡ map stored (map f (filter p xs)) = ap (λ r. r ∷ []) is ∙ ap (λ l. map stored (map f l)) (sym only) in
        let rows : put_row row (without_rowid (id_in (rowid s.there)) (old.now.trees t.tree)) ≡ map stored (update_where p f xs) =
        ap₂ put_all left news ∙ replaced key stored so.keyed p f so.stays xs up in
        record { one = one.0; found = one.1; meets = meets; is = is; changed = subst (λ l. HasChanged t l old new) rows s.changed }

    -- a value is put in or set, where at most one has the key
    pub upserts_listed : (row : Row) → Upserts t m params old new row → PutsIn row ⊎ SetsOne row
    upserts_listed row (inl g) = inl (put_in row g)
    upserts_listed row (inr s) = inr (set_one row s)
