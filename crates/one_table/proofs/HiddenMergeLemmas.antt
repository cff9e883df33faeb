-- An upsert of a table whose rows have hidden numbers, as a function of the values behind them.
use Rattle.std.proofs.Common.{◌≡◌, ◌≤◌, ◌⊎◌, ℤ, Bool, true, false, List, [], ◌∷◌, ◌++◌, map, filter, length, refl, sym, ap, ap₂, ◌∙◌, subst, inl, inr}
use Rattle.std.specs.List.{list_any}
use Rattle.sqlite_value.specs.declared.value.Value.TheVariants.{Int, Null}
use Rattle.sqlite_value.specs.Order.{Row}
use Rattle.sqlite_schema.specs.declared.schema.Table.{Table}
use Rattle.sqlite_rules.specs.declared.error.Rowids.TheVariants.{Chosen}
use Rattle.sqlite_rules.specs.Cast.{cast_all}
use Rattle.sqlite_rules.specs.Edit.{next_rowid, with_rowid}
use Rattle.sqlite_rules.specs.Lists.{Has as Member}
use Rattle.sqlite_rules.proofs.ProbeLemmas.{mapped_has}
use Rattle.sqlite_keyed.specs.Lists.{update_where}
use Rattle.sqlite.specs.State.{State}
use Rattle.one_table.specs.InTransaction.{HasChanged}
use Rattle.one_table.specs.Inserting.{source_row}
use Rattle.one_table.specs.Merges.{Upserts, set_by}
use Rattle.one_table.specs.Numbered.{AreHidden, IsInOrder}
use Rattle.one_table.specs.Standing.{own_keys}
use Rattle.one_table.specs.Upserting.{Merging, is_of_key}
use Rattle.one_table.proofs.CastLemmas.{cast_int}
use Rattle.one_table.proofs.MergeLemmas.{MergesAs, PutsIn, SetsOne, any_map, upserts_listed}
use Rattle.one_table.proofs.NumberedLemmas.{as_many, beside, changes, gains, makes, number as number_of, picks, rise, rows_are, set_in, value, values_are, with_last, with_number}

-- In a table that holds these values, xs: the row that is given is x, which has no number yet, and
-- its columns keep it as it is. Whatever the numbers are, the rows of its key are those of p, and
-- what is set makes f of them.
pub record MergesHidden {X : Type 0} (t : Table) (m : Merging) (params : Row) (stored : X → Row) (x : X) (p : X → Bool) (f : X → X) (xs : List X) : Type 0 where
  pub source : source_row t m.given params ≡ Null ∷ stored x
  pub fits : cast_all t.columns (stored x) ≡ stored x
  pub meets : (number n : ℤ) (y : X) → is_of_key (own_keys t) m.key (Int number ∷ stored x) (Int n ∷ stored y) ≡ p y
  pub becomes : (number n : ℤ) (y : X) → Member xs y → p y ≡ true → set_by t m params (Int number ∷ stored x) (Int n ∷ stored y) ≡ Int n ∷ stored (f y)

module _ {X : Type 0} (t : Table) (m : Merging) (params : Row) (old new : State) (stored : X → Row) (x : X) (p : X → Bool) (f : X → X) (xs : List X) where
  -- no value has the key, and x stands last
  pub record PutsHidden (row : Row) : Type 0 where
    pub free : list_any p xs ≡ false
    pub number : ℤ
    pub is : row ≡ Int number ∷ stored x
    pub rows : List Row
    pub changed : HasChanged t rows old new
    pub holds : AreHidden stored rows (xs ++ x ∷ [])
    pub in_order : IsInOrder rows

  -- a value has the key, and it alone is set
  pub record SetsOneHidden (row : Row) : Type 0 where
    pub one : X
    pub found : Member xs one
    pub meets : p one ≡ true
    pub number : ℤ
    pub is : row ≡ Int number ∷ stored (f one)
    pub rows : List Row
    pub changed : HasChanged t rows old new
    pub holds : AreHidden stored rows (update_where p f xs)
    pub in_order : IsInOrder rows

  module _ (so : MergesHidden t m params stored x p f xs) (hidden : AreHidden stored (old.now.trees t.tree) xs)
      (order : IsInOrder (old.now.trees t.tree)) (few : length (filter p xs) ≤ 1) where
    abbrev before : List Row
    before = old.now.trees t.tree

    abbrev ns : List (ℤ × X)
    ns = beside stored before xs hidden order

    values : map value ns ≡ xs
    values = values_are stored before xs hidden order

    abbrev given : ℤ × X
    given = (next_rowid before, x)

    numbered : MergesAs t m params before number_of (with_number stored) given (picks p) (makes p f) ns
    numbered = record {
      keyed = λ _. refl;
      gives = ap (with_rowid Chosen before) so.source;
      fits = ap₂ ◌∷◌ (cast_int given.0) so.fits;
      meets = λ n. so.meets given.0 n.0 n.1;
      becomes = λ n there. so.becomes given.0 n.0 n.1 (subst (λ l. Member l n.1) values (mapped_has value ns n there));
      stays = λ _. refl;
    }

    put_last : (row : Row) → PutsIn t m params old new number_of (with_number stored) given (picks p) (makes p f) ns row → PutsHidden row
    put_last row g =
        let after = gains stored before xs hidden order x in
        record {
          free = ap (list_any p) (sym values) ∙ any_map p value (picks p) (λ _. refl) ns ∙ g.free;
          number = given.0;
          is = g.is;
          rows = map (with_number stored) (with_last stored before xs hidden order x);
          changed = g.changed;
          holds = after.0;
          in_order = after.1;
        }

    set_hidden : (row : Row) → SetsOne t m params old new number_of (with_number stored) given (picks p) (makes p f) ns row → SetsOneHidden row
    set_hidden row s =
        let after = changes stored before xs hidden order p f in
        record {
          one = s.one.1;
          found = subst (λ l. Member l s.one.1) values (mapped_has value ns s.one s.found);
          meets = s.meets;
          number = s.one.0;
          is = s.is;
          rows = map (with_number stored) (set_in p f ns);
          changed = s.changed;
          holds = after.0;
          in_order = after.1;
        }

    -- a value is put in or set, where at most one has the key
    pub upserts_hidden : (row : Row) → Upserts t m params old new row → PutsHidden row ⊎ SetsOneHidden row
    upserts_hidden row h =
        elim (upserts_listed t m params old new number_of (with_number stored) given (picks p) (makes p f) ns numbered
        (rows_are stored before xs hidden order) (rise stored before xs hidden order)
        (subst (λ n. n ≤ 1) (sym (as_many stored before xs hidden order p)) few) row h)
        [ inl g ↦ inl (put_last row g) | inr s ↦ inr (set_hidden row s) ]
