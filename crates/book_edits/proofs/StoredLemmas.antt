-- The rows that an edit adds, in the tables that it writes, and none in the others.
use Rattle.std.proofs.Common.{◌≡◌, ◌≢◌, ℕ, false, List, [], ◌∷◌, ◌++◌, append-nil, bytes_eq, refl, sym, subst}
use Rattle.std.specs.List.{flat_map}
use Rattle.std.proofs.lemmas.Grind.{flat_map-append}
use Rattle.sqlite.specs.Effect.{Database}
use Rattle.sqlite.specs.Order.{Row as Columns}
use Rattle.sqlite.specs.State.{State}
use Rattle.one_table.specs.Standing.{tree_in}
use Rattle.tariff.specs.declared.step.Step.{Step}
use Rattle.office_rules.specs.declared.office.meter.Meter.{Meter}
use Rattle.office_rules.specs.declared.office.row.Row.{Row}
use Rattle.office_rules.specs.declared.office.row.Row.TheVariants as kinds
use Rattle.book_tables.specs.Holds.{HasOffice}
use Rattle.book_tables.specs.Kept.{Kept, bases_kept, dated_steps_kept, meters_kept, steps_kept, tariffs_kept}
use Rattle.book_tables.specs.reading.Reading.{HasAllTables}
use Rattle.book_tables.specs.writing.Storing.{StoresRows}
use Rattle.book_tables.specs.writing.Writing.{AddsMeter, AddsSteps, AddsTariff, IsOfNone, WritesOnly}
use Rattle.book_tables.proofs.KeptLemmas.{names_differ, trees_differ}
use Rattle.book_tables.proofs.OfficeTableLemmas.{IsInOffice, bases_in, dated_steps_in, meters_in, steps_in, tariffs_in}
use Rattle.book_tables.proofs.WritingLemmas.StoringLemmas.{left_by, stores_none, stores_then}
use Rattle.book_states.specs.Changing.{StoresImport, bases_added, dated_added, meters_added, names_added, steps_added}

-- the rows of one are these
one : {X : Type 0} (f : X → List Columns) (x : X) (k : Kept) (old new : Database) → StoresRows k (f x) old new → StoresRows k (flat_map f (x ∷ [])) old new
one f x k old new stores = subst (λ (rows : List Columns). StoresRows k rows old new) (sym (append-nil (f x))) stores

module _ (old new : State) (has : HasAllTables old) where
  -- a write of other tables puts none into this one
  none_in : (k : Kept) (names : List (List ℕ)) → IsInOffice k → WritesOnly names old new
      → (HasOffice old.now.schema → IsOfNone old.now.schema names (tree_in old.now.schema k.table.name)) → StoresRows k [] old.now new.now
  none_in k names k_in only none =
      let there = has only.inside.was_open in
      stores_none k old.now new.now (left_by k names k_in old new there (none there) only)

  -- a table of another name has another tree
  module _ (k j : Kept) (k_in : IsInOffice k) (j_in : IsInOffice j) where
    differ : HasOffice old.now.schema → bytes_eq k.table.name j.table.name ≡ false → tree_in old.now.schema k.table.name ≢ tree_in old.now.schema j.table.name
    differ there other = trees_differ old.now.schema k.table j.table (k_in.there old.now.schema there).0 (j_in.there old.now.schema there).0
        (names_differ _ _ other)

  -- a tariff with its steps
  pub stores_tariff : (name : List ℕ) (steps : List Step) → AddsTariff name steps old new → StoresImport (kinds.Tariff name steps ∷ []) old.now new.now
  stores_tariff name steps adds = record {
    names = one names_added row tariffs_kept old.now new.now adds.stored;
    steps = one steps_added row steps_kept old.now new.now adds.steps;
    dated = none_in dated_steps_kept _ dated_steps_in adds.only (λ there.
        (differ dated_steps_kept tariffs_kept dated_steps_in tariffs_in there refl, (differ dated_steps_kept steps_kept dated_steps_in steps_in there refl, tt)));
    meters = none_in meters_kept _ meters_in adds.only (λ there.
        (differ meters_kept tariffs_kept meters_in tariffs_in there refl, (differ meters_kept steps_kept meters_in steps_in there refl, tt)));
    bases = none_in bases_kept _ bases_in adds.only (λ there.
        (differ bases_kept tariffs_kept bases_in tariffs_in there refl, (differ bases_kept steps_kept bases_in steps_in there refl, tt)));
  }
    where
      row : Row
      row = kinds.Tariff name steps

  -- steps of a later day
  pub stores_steps : (name : List ℕ) (day : ℕ) (steps : List Step) → AddsSteps name day steps old new
      → StoresImport (kinds.Steps name day steps ∷ []) old.now new.now
  stores_steps name day steps adds = record {
    names = none_in tariffs_kept _ tariffs_in adds.only (λ there. (differ tariffs_kept dated_steps_kept tariffs_in dated_steps_in there refl, tt));
    steps = none_in steps_kept _ steps_in adds.only (λ there. (differ steps_kept dated_steps_kept steps_in dated_steps_in there refl, tt));
    dated = one dated_added (kinds.Steps name day steps) dated_steps_kept old.now new.now adds.stored;
    meters = none_in meters_kept _ meters_in adds.only (λ there. (differ meters_kept dated_steps_kept meters_in dated_steps_in there refl, tt));
    bases = none_in bases_kept _ bases_in adds.only (λ there. (differ bases_kept dated_steps_kept bases_in dated_steps_in there refl, tt));
  }

  -- a meter with its base
  pub stores_meter : (number : List ℕ) (m : Meter) → AddsMeter number m old new → StoresImport (kinds.Meter number m ∷ []) old.now new.now
  stores_meter number m adds = record {
    names = none_in tariffs_kept _ tariffs_in adds.only (λ there.
        (differ tariffs_kept meters_kept tariffs_in meters_in there refl, (differ tariffs_kept bases_kept tariffs_in bases_in there refl, tt)));
    steps = none_in steps_kept _ steps_in adds.only (λ there.
        (differ steps_kept meters_kept steps_in meters_in there refl, (differ steps_kept bases_kept steps_in bases_in there refl, tt)));
    dated = none_in dated_steps_kept _ dated_steps_in adds.only (λ there.
        (differ dated_steps_kept meters_kept dated_steps_in meters_in there refl, (differ dated_steps_kept bases_kept dated_steps_in bases_in there refl, tt)));
    meters = one meters_added row meters_kept old.now new.now adds.stored;
    bases = one bases_added row bases_kept old.now new.now adds.base;
  }
    where
      row : Row
      row = kinds.Meter number m

-- the rows of an import, and those of one row more
module _ (xs : List Row) (y : Row) (old mid new : Database) where
  more : (f : Row → List Columns) (k : Kept) → StoresRows k (flat_map f xs) old mid → StoresRows k (flat_map f (y ∷ [])) mid new
      → StoresRows k (flat_map f (xs ++ y ∷ [])) old new
  more f k first second =
      subst (λ (rows : List Columns). StoresRows k rows old new) (sym (flat_map-append f xs (y ∷ [])))
      (stores_then k (flat_map f xs) (flat_map f (y ∷ [])) old mid new first second)

  -- one after another
  pub stores_more : StoresImport xs old mid → StoresImport (y ∷ []) mid new → StoresImport (xs ++ y ∷ []) old new
  stores_more first second = record {
    names = more names_added tariffs_kept first.names second.names;
    steps = more steps_added steps_kept first.steps second.steps;
    dated = more dated_added dated_steps_kept first.dated second.dated;
    meters = more meters_added meters_kept first.meters second.meters;
    bases = more bases_added bases_kept first.bases second.bases;
  }
