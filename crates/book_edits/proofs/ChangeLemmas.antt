-- What a write of the tables makes of the members of an office, and what it leaves of other tables.
use Rattle.std.proofs.Common.{◌≡◌, ◌≤◌, ℕ, ◌+◌, true, false, List, [], ◌∷◌, ◌++◌, length, codes, IfErr, Result, Ok, Err, OnOk, refl, sym, ap, subst, ◌∙◌, inl, inr, arith}
use Rattle.std.proofs.lemmas.Bool.{cases_order}
use Rattle.std.proofs.lemmas.Grind.{flat_map-append}
use Rattle.std.proofs.lemmas.List.{flat_map_more}
use Rattle.std.specs.List.{AllByRecursion, flat_map}
use Rattle.sqlite.specs.Effect.{Database}
use Rattle.sqlite.specs.State.{HasCleanDisk, Shows, State}
use Rattle.sqlite_schema.specs.declared.schema.Schema.{Schema}
use Rattle.sqlite_schema.specs.declared.schema.Table.{Table}
use Rattle.sqlite_trees.specs.Tree.{Trees}
use Rattle.sts_fields.specs.declared.base.Base.{Base}
use Rattle.tariff.specs.declared.step.Step.{Step}
use Rattle.one_table.specs.InTransaction.{IsUnderWay}
use Rattle.one_table.proofs.ChangeLemmas.{if_err}
use Rattle.office_rules.specs.Decision.Edits.{applied, with_row, with_rows}
use Rattle.office_rules.specs.Office.{AreNumbered, IsOffice, Office}
use Rattle.office_rules.specs.Law.Store.{MeetRows, Meets, MeetsRow}
use Rattle.office_rules.specs.declared.decision.change.Edit.{Edit}
use Rattle.office_rules.specs.declared.decision.change.Edit.TheVariants as edits
use Rattle.office_rules.specs.declared.office.meter.Meter.{Meter}
use Rattle.office_rules.specs.declared.office.row.Row.{Row}
use Rattle.office_rules.specs.declared.office.row.Row.TheVariants as kinds
use Rattle.office_rules.specs.declared.office.sale.Sale.{Sale}
use Rattle.office_rules.specs.declared.office.shift.Shift.{Shift}
use Rattle.book_tables.specs.writing.Edited.{edited, is_sale}
use Rattle.book_tables.specs.writing.Failing.{End, FailsToTotal, FailsToWriteAll}
use Rattle.book_tables.specs.writing.Writes.{AreCarriedOut, new_sale, row_writes, sale_writes, writes_of}
use Rattle.book_tables.specs.Holds.{HasOffice, HoldsMembers, table_names}
use Rattle.book_tables.specs.reading.Reading.{HasAllTables}
use Rattle.book_tables.specs.row.Rows.{Rows, present_format}
use Rattle.book_tables.specs.Stands.{AreMembersOf}
use Rattle.book_tables.specs.writing.Writing.{AddsMeter, AddsShift, AddsSold, AddsSteps, AddsTariff, ClosesShift, FindsNoFalseRow, IsNextNumber, IsOfNone, MayAddSold, MovesBase, SetsKey, SetsTariff, WithdrawsSteps, WritesOnly, totals_names}
use Rattle.book_tables.specs.declared.error.TableError.{TableError}
use Rattle.book_tables.specs.declared.row.totals.SaleTotals.{SaleTotals}
use Rattle.book_tables.specs.writing.Keeping.{AreInOrder, KeepsRows, Keys}
use Rattle.book_tables.proofs.WritingLemmas.KeepingLemmas.{keeps_then}
use Rattle.book_states.specs.Changing.{IsCarriedOut, IsCounted, MakesAsComputed, MakesEdit, MakesRows, StoresEdit, StoresImport, edit_keys, row_keys}
use Rattle.book_states.specs.Failing.{FailsToMakeEdit, IsOfNoOffice}
use Rattle.book_states.specs.Others.{SameOthers}
use Rattle.book_edits.proofs.StoredLemmas.{stores_meter, stores_more, stores_steps, stores_tariff}

-- the rows after an edit that its office decided are the members of the office after it
abbrev pub KeepsMembers : Type 0
KeepsMembers =
    (rows : Rows) (o : Office) (edit : Edit) → AreMembersOf rows o → Meets edit o → is_sale edit ≡ false → AreMembersOf (edited edit rows) (applied edit o)

-- ---- other tables

-- what is of no table of the office is of none of these
abbrev AreOurs : List (List ℕ) → Type 0
AreOurs names = (s : Schema) (tree : ℕ) → IsOfNone s table_names tree → IsOfNone s names tree

same_in : (s : Schema) (names : List (List ℕ)) (old new : Trees) → AreOurs names → (tables : List Table)
    → AllByRecursion (λ u. IsOfNone s names u.tree → new u.tree ≡ old u.tree) tables
    → AllByRecursion (λ u. IsOfNone s table_names u.tree → new u.tree ≡ old u.tree) tables
same_in s names old new ours [] kept = tt
same_in s names old new ours (t ∷ tables) kept = (λ none. kept.0 (ours s t.tree none), same_in s names old new ours tables kept.1)

same_then : (s : Schema) (old mid new : Trees) (tables : List Table) → AllByRecursion (λ u. IsOfNone s table_names u.tree → mid u.tree ≡ old u.tree) tables
    → AllByRecursion (λ u. IsOfNone s table_names u.tree → new u.tree ≡ mid u.tree) tables
    → AllByRecursion (λ u. IsOfNone s table_names u.tree → new u.tree ≡ old u.tree) tables
same_then s old mid new [] first second = tt
same_then s old mid new (t ∷ tables) first second = (λ none. second.0 none ∙ first.0 none, same_then s old mid new tables first.1 second.1)

-- ---- one statement

-- what the edit makes of the members is told, and the write leaves the rest
makes : (edit : Edit) (names : List (List ℕ)) (old new : State) → AreOurs names → WritesOnly names old new → IsCarriedOut (writes_of edit) old.now new.now
    → StoresEdit edit old.now new.now
    → (AreInOrder table_names old.now → KeepsRows (edit_keys edit) old.now new.now)
    → ((o : Office) → IsOffice o → Meets edit o → HoldsMembers old.now o → HoldsMembers new.now (applied edit o)) → MakesEdit edit old.now new.now
makes edit names old new ours only carried stored kept members = record {
  members = members;
  carried = carried;
  stored = stored;
  kept = kept;
  schema = only.schema;
  others = same_in old.now.schema names old.now.trees new.now.trees ours old.now.schema.tables only.tables;
  sound = only.sound;
}

makes_row : (row : Row) (names : List (List ℕ)) (old new : State) → AreOurs names → WritesOnly names old new → StoresImport (row ∷ []) old.now new.now
    → KeepsRows (flat_map row_keys (row ∷ [])) old.now new.now
    → ((o : Office) → MeetsRow row o → HoldsMembers old.now o → HoldsMembers new.now (with_row row o)) → MakesRows (row ∷ []) old.now new.now
makes_row row names old new ours only stored kept members = record {
  members = λ o meets held. members o meets.0 held;
  stored = stored;
  kept = kept;
  schema = only.schema;
  others = same_in old.now.schema names old.now.trees new.now.trees ours old.now.schema.tables only.tables;
  sound = only.sound;
}

-- the tables of meters and of their bases
abbrev both_meters : List (List ℕ)
both_meters = codes "meters" ∷ codes "meter_bases" ∷ []

of_meters : AreOurs both_meters
of_meters s tree none = (none.1.1.1.0, (none.1.1.1.1.1.1.1.1.1.0, tt))

module _ (law : KeepsMembers) (old new : State) where
  -- ---- sales and shifts

  -- a sale that is added with its totals makes the edit that adds it
  pub makes_sale : (s : Sale) → IsCarriedOut (writes_of (edits.AddSale s)) old.now new.now → AddsSold s old new → MakesEdit (edits.AddSale s) old.now new.now
  makes_sale s carried adds =
      makes (edits.AddSale s) (codes "sales" ∷ totals_names) old new
      (λ t tree none. (none.1.1.1.1.1.0, (none.1.1.1.1.1.1.0, (none.1.1.1.1.1.1.1.0, (none.1.1.1.1.1.1.1.1.0, tt))))) adds.only carried adds.stored
      (λ order. adds.kept (order.1.1.1.1.1.1.0, (order.1.1.1.1.1.1.1.0, (order.1.1.1.1.1.1.1.1.0, tt)))) adds.members

  -- a shift that is added makes the edit that opens it
  pub makes_shift : (s : Shift) → IsCarriedOut (writes_of (edits.OpenShift s)) old.now new.now → AddsShift s old new → MakesEdit (edits.OpenShift s) old.now new.now
  makes_shift s carried adds =
      makes (edits.OpenShift s) (codes "shifts" ∷ []) old new (λ t tree none. (none.1.1.1.1.0, tt)) adds.only carried adds.stored (λ order. adds.kept) (λ o office meets held.
      let are = held.2 in
      let next : IsNextNumber (λ (s : Shift). s.number) held.0.shifts s.number = record {
        numbered = subst (λ (l : List Shift). AreNumbered (λ (s : Shift). s.number) l) (sym are.shifts) office.shift_numbers;
        next_is = meets.number ∙ ap (λ (l : List Shift). length l + 1) (sym are.shifts);
      } in
      (edited (edits.OpenShift s) held.0, adds.rows held.0 held.1 next, law held.0 o (edits.OpenShift s) are meets refl))

  -- a shift that is closed makes the edit that closes it
  pub makes_closing : (number moment : ℕ) → IsCarriedOut (writes_of (edits.CloseShift number moment)) old.now new.now → ClosesShift number moment old new → MakesEdit (edits.CloseShift number moment) old.now new.now
  makes_closing number moment carried closes =
      makes (edits.CloseShift number moment) (codes "shifts" ∷ []) old new (λ t tree none. (none.1.1.1.1.0, tt)) closes.only carried tt
      (λ order. closes.kept (order.1.1.1.1.0, tt)) (λ o office meets held.
      let are = held.2 in
      let numbered = subst (λ (l : List Shift). AreNumbered (λ (s : Shift). s.number) l) (sym are.shifts) office.shift_numbers in
      (edited (edits.CloseShift number moment) held.0, closes.rows held.0 held.1 numbered, law held.0 o (edits.CloseShift number moment) are meets refl))

  -- ---- tariffs and meters

  -- a tariff that is set for a meter makes the edit that sets it
  pub makes_setting : (number name : List ℕ) → IsCarriedOut (writes_of (edits.SetTariff number name)) old.now new.now → SetsTariff number name old new → MakesEdit (edits.SetTariff number name) old.now new.now
  makes_setting number name carried sets =
      makes (edits.SetTariff number name) (codes "meters" ∷ []) old new (λ t tree none. (none.1.1.1.0, tt)) sets.only carried tt
      (λ order. sets.kept (order.1.1.1.0, tt)) (λ o office meets held.
      let are = held.2 in
      (edited (edits.SetTariff number name) held.0, sets.rows held.0 held.1 are.meters_once, law held.0 o (edits.SetTariff number name) are meets refl))

  -- a key that is set for a meter makes the edit that sets it
  pub makes_key : (number : List ℕ) (key : ℕ) → IsCarriedOut (writes_of (edits.SetKey number key)) old.now new.now → SetsKey number key old new → MakesEdit (edits.SetKey number key) old.now new.now
  makes_key number key carried sets =
      makes (edits.SetKey number key) (codes "meters" ∷ []) old new (λ t tree none. (none.1.1.1.0, tt)) sets.only carried tt
      (λ order. sets.kept (order.1.1.1.0, tt)) (λ o office meets held.
      let are = held.2 in
      (edited (edits.SetKey number key) held.0, sets.rows held.0 held.1 are.meters_once, law held.0 o (edits.SetKey number key) are meets refl))

  -- steps that are withdrawn make the edit that withdraws them
  pub makes_withdrawal : (name : List ℕ) (day : ℕ) → IsCarriedOut (writes_of (edits.WithdrawSteps name day)) old.now new.now → WithdrawsSteps name day old new → MakesEdit (edits.WithdrawSteps name day) old.now new.now
  makes_withdrawal name day carried withdraws =
      makes (edits.WithdrawSteps name day) (codes "dated_steps" ∷ []) old new (λ t tree none. (none.1.1.1.1.1.1.1.1.1.1.0, tt)) withdraws.only carried
      withdraws.gone (λ order. withdraws.kept (order.1.1.1.1.1.1.1.1.1.1.0, tt)) (λ o office meets held.
      (edited (edits.WithdrawSteps name day) held.0, withdraws.rows held.0 held.1, law held.0 o (edits.WithdrawSteps name day) held.2 meets refl))

  -- a base that a meter is moved to makes the edit that moves it
  pub makes_moving : (number : List ℕ) (base : Base) → IsCarriedOut (writes_of (edits.MoveBase number base)) old.now new.now → MovesBase number base old new → MakesEdit (edits.MoveBase number base) old.now new.now
  makes_moving number base carried moves =
      makes (edits.MoveBase number base) both_meters old new of_meters moves.only carried moves.stored (λ order. moves.kept (order.1.1.1.0, tt)) (λ o office meets held.
      let are = held.2 in
      (edited (edits.MoveBase number base) held.0, moves.rows held.0 held.1 are.meters_once, law held.0 o (edits.MoveBase number base) are meets refl))

  with_steps_row : (name : List ℕ) (day : ℕ) (steps : List Step) → AddsSteps name day steps old new → (o : Office)
      → MeetsRow (kinds.Steps name day steps) o → HoldsMembers old.now o
      → HoldsMembers new.now (with_row (kinds.Steps name day steps) o)
  with_steps_row name day steps adds o meets held =
      (edited (edits.AddSteps name day steps) held.0, adds.rows held.0 held.1, law held.0 o (edits.AddSteps name day steps) held.2 meets refl)

  -- steps of a later day that are added make the edit that adds them
  pub makes_steps : HasAllTables old → (name : List ℕ) (day : ℕ) (steps : List Step) → IsCarriedOut (writes_of (edits.AddSteps name day steps)) old.now new.now → AddsSteps name day steps old new → MakesEdit (edits.AddSteps name day steps) old.now new.now
  makes_steps has name day steps carried adds =
      makes (edits.AddSteps name day steps) (codes "dated_steps" ∷ []) old new (λ t tree none. (none.1.1.1.1.1.1.1.1.1.1.0, tt)) adds.only carried
      (stores_steps old new has name day steps adds) (λ order. adds.kept)
      (λ o office meets held. with_steps_row name day steps adds o meets held)

  of_steps : HasAllTables old → (name : List ℕ) (day : ℕ) (steps : List Step) → AddsSteps name day steps old new → MakesRows (kinds.Steps name day steps ∷ []) old.now new.now
  of_steps has name day steps adds =
      makes_row (kinds.Steps name day steps) (codes "dated_steps" ∷ []) old new (λ t tree none. (none.1.1.1.1.1.1.1.1.1.1.0, tt)) adds.only
      (stores_steps old new has name day steps adds) adds.kept (with_steps_row name day steps adds)

  -- and they make an import of their row alone
  pub makes_steps_row : HasAllTables old → (row : Row) (name : List ℕ) (day : ℕ) (steps listed : List Step) → row ≡ kinds.Steps name day steps → listed
      ≡ steps → AddsSteps name day listed old new → MakesRows (row ∷ []) old.now new.now
  makes_steps_row has row name day steps listed is same adds =
      subst (λ (r : Row). MakesRows (r ∷ []) old.now new.now) (sym is)
      (of_steps has name day steps (subst (λ (l : List Step). AddsSteps name day l old new) same adds))

  with_tariff_row : (name : List ℕ) (steps : List Step) → AddsTariff name steps old new → (o : Office)
      → MeetsRow (kinds.Tariff name steps) o → HoldsMembers old.now o
      → HoldsMembers new.now (with_row (kinds.Tariff name steps) o)
  with_tariff_row name steps adds o meets held =
      (edited (edits.AddTariff name steps) held.0, adds.rows held.0 held.1, law held.0 o (edits.AddTariff name steps) held.2 meets refl)

  with_meter_row : (number : List ℕ) (m : Meter) → AddsMeter number m old new → (o : Office) → MeetsRow (kinds.Meter number m) o → HoldsMembers old.now o
      → HoldsMembers new.now (with_row (kinds.Meter number m) o)
  with_meter_row number m adds o meets held =
      (edited (edits.AddMeter number m) held.0, adds.rows held.0 held.1, law held.0 o (edits.AddMeter number m) held.2 meets refl)

  -- a tariff that is added with its first steps makes the edit that adds it
  pub makes_tariff : HasAllTables old → (name : List ℕ) (steps : List Step) → IsCarriedOut (writes_of (edits.AddTariff name steps)) old.now new.now → AddsTariff name steps old new → MakesEdit (edits.AddTariff name steps) old.now new.now
  makes_tariff has name steps carried adds =
      makes (edits.AddTariff name steps) (codes "tariffs" ∷ codes "tariff_steps" ∷ []) old new
      (λ t tree none. (none.1.0, (none.1.1.0, tt))) adds.only carried (stores_tariff old new has name steps adds) (λ order. adds.kept)
      (λ o office meets held. with_tariff_row name steps adds o meets held)

  -- a meter that is added makes the edit that adds it
  pub makes_meter : HasAllTables old → (number : List ℕ) (m : Meter) → IsCarriedOut (writes_of (edits.AddMeter number m)) old.now new.now → AddsMeter number m old new → MakesEdit (edits.AddMeter number m) old.now new.now
  makes_meter has number m carried adds =
      makes (edits.AddMeter number m) both_meters old new of_meters adds.only carried (stores_meter old new has number m adds) (λ order. adds.kept)
      (λ o office meets held. with_meter_row number m adds o meets held)

  of_tariff : HasAllTables old → (name : List ℕ) (steps : List Step) → AddsTariff name steps old new → MakesRows (kinds.Tariff name steps ∷ []) old.now new.now
  of_tariff has name steps adds =
      makes_row (kinds.Tariff name steps) (codes "tariffs" ∷ codes "tariff_steps" ∷ []) old new
      (λ t tree none. (none.1.0, (none.1.1.0, tt))) adds.only (stores_tariff old new has name steps adds) adds.kept
      (with_tariff_row name steps adds)

  of_meter : HasAllTables old → (number : List ℕ) (m : Meter) → AddsMeter number m old new → MakesRows (kinds.Meter number m ∷ []) old.now new.now
  of_meter has number m adds =
      makes_row (kinds.Meter number m) both_meters old new of_meters adds.only (stores_meter old new has number m adds) adds.kept (with_meter_row number m adds)

  -- an added tariff makes an import of its row alone
  pub makes_tariff_row : HasAllTables old → (row : Row) (name : List ℕ) (steps listed : List Step) → row ≡ kinds.Tariff name steps → listed ≡ steps
      → AddsTariff name listed old new → MakesRows (row ∷ []) old.now new.now
  makes_tariff_row has row name steps listed is same adds =
      subst (λ (r : Row). MakesRows (r ∷ []) old.now new.now) (sym is) (of_tariff has name steps (subst (λ (l : List Step). AddsTariff name l old new) same adds))

  -- an added meter makes an import of its row alone
  pub makes_meter_row : HasAllTables old → (row : Row) (number : List ℕ) (m : Meter) → row ≡ kinds.Meter number m → AddsMeter number m old new
      → MakesRows (row ∷ []) old.now new.now
  makes_meter_row has row number m is adds = subst (λ (r : Row). MakesRows (r ∷ []) old.now new.now) (sym is) (of_meter has number m adds)

-- ---- rows one after another

meets_first : (xs : List Row) (y : Row) (o : Office) → MeetRows (xs ++ y ∷ []) o → MeetRows xs o
meets_first [] y o meets = tt
meets_first (x ∷ xs) y o meets = (meets.0, meets_first xs y (with_row x o) meets.1)

meets_last : (xs : List Row) (y : Row) (o : Office) → MeetRows (xs ++ y ∷ []) o → MeetRows (y ∷ []) (with_rows xs o)
meets_last [] y o meets = meets
meets_last (x ∷ xs) y o meets = meets_last xs y (with_row x o) meets.1

with_last : (xs : List Row) (y : Row) (o : Office) → with_rows (y ∷ []) (with_rows xs o) ≡ with_rows (xs ++ y ∷ []) o
with_last [] y o = refl
with_last (x ∷ xs) y o = with_last xs y (with_row x o)

-- one row more, after those that were made
pub makes_more : (xs : List Row) (y : Row) (old mid new : Database) → MakesRows xs old mid → MakesRows (y ∷ []) mid new → MakesRows (xs ++ y ∷ []) old new
makes_more xs y old mid new first second = record {
  members = λ o meets held.
      subst (HoldsMembers new) (with_last xs y o) (second.members (with_rows xs o) (meets_last xs y o meets) (first.members o (meets_first xs y o meets) held));
  stored = stores_more xs y old mid new first.stored second.stored;
  kept = subst (λ (keys : Keys). KeepsRows keys old new) (sym (flat_map-append row_keys xs (y ∷ [])))
      (keeps_then (flat_map row_keys xs) (flat_map row_keys (y ∷ [])) old mid new first.kept second.kept);
  schema = second.schema ∙ first.schema;
  others = same_then old.schema old.trees mid.trees new.trees old.schema.tables first.others
      (subst (λ (s : Schema). SameOthers s mid.trees new.trees) first.schema second.others);
  sound = second.sound;
}

-- rows that are made one after another make the edit that imports them
pub makes_import : (rows : List Row) (old new : Database) → IsCarriedOut (flat_map row_writes rows) old new → MakesRows rows old new → MakesEdit (edits.AddRows rows) old new
makes_import rows old new carried makes = record {
  carried = carried;
  members = λ o office meets held. makes.members o meets.1 held;
  stored = makes.stored;
  kept = λ order. makes.kept;
  schema = makes.schema;
  others = makes.others;
  sound = makes.sound;
}

-- ---- what is told where a statement succeeds

-- what follows from something told of a success is told of it too
pub on_ok : {A E : Type 0} {P Q : Type 0} (r : Result A E) → (P → Q) → OnOk r P → OnOk r Q
on_ok (Ok x) f p = f p
on_ok (Err e) f p = tt

-- ---- inside one transaction

-- the office's tables are still there
pub still_has : (rows : List Row) (old mid : State) → MakesRows rows old.now mid.now → Shows old mid mid.now old.committed true
    → HasAllTables old → HasAllTables mid
still_has rows old mid makes inside has = λ _. subst HasOffice (sym makes.schema) (has inside.was_open)

-- ---- an edit

-- what the statement of an edit did is what the edit makes, and what is told of it is as computed
pub made_by : {A E P : Type 0} (r : Result A E) (found edit : Edit) (prior : ℕ) (old new : State) → found ≡ edit
    → (HasAllTables old → OnOk r P) → (HasAllTables old → OnOk r (AreCarriedOut (writes_of edit) old new))
    → (HasAllTables old → P → IsCarriedOut (writes_of edit) old.now new.now → MakesEdit edit old.now new.now × IsCounted edit prior old.now)
    → OnOk r (MakesAsComputed found prior old.now new.now)
made_by (Ok x) found edit prior old new is did carried makes =
    λ has. subst (λ (e : Edit). MakesEdit e old.now new.now × IsCounted e prior old.now) (sym is)
    (makes (λ _. has) (did (λ _. has)) (old.step_limit, carried (λ _. has)))
made_by (Err e) found edit prior old new is did carried makes = tt

-- ---- why an edit is not made

-- where its tables are there
pub told_where : {A : Type 0} (edit : Edit) (prior : ℕ) (old new : State) (r : Result A TableError)
    → (HasAllTables old → IfErr r (FailsToMakeEdit edit prior old new)) → IfErr r (λ e. HasAllTables old → FailsToMakeEdit edit prior old new e)
told_where edit prior old new (Ok x) told = tt
told_where edit prior old new (Err e) told = told

-- where it is this one
pub refused_by : {A : Type 0} (r : Result A TableError) (found edit : Edit) (prior : ℕ) (old new : State) → found ≡ edit
    → IfErr r (FailsToMakeEdit edit prior old new) → IfErr r (FailsToMakeEdit found prior old new)
refused_by r found edit prior old new is why = subst (λ (e : Edit). IfErr r (FailsToMakeEdit e prior old new)) (sym is) why

all_err : {A E : Type 0} {P : E → Type 0} (r : Result A E) → ((e : E) → P e) → IfErr r P
all_err (Ok x) f = tt
all_err (Err e) f = f e

-- the writes of an import, row by row
pub writes_more : (rows : List Row) (row : Row) → flat_map row_writes rows ++ row_writes row ≡ flat_map row_writes (rows ++ row ∷ [])
writes_more rows row = flat_map_more row_writes [] rows row

-- so a row ends that is this one
pub row_ends : {A : Type 0} (r : Result A TableError) (found row : Row) (old new : State) → found ≡ row
    → End FailsToWriteAll (row_writes row) old new r → End FailsToWriteAll (row_writes found) old new r
row_ends r found row old new is ends = subst (λ (x : Row). End FailsToWriteAll (row_writes x) old new r) (sym is) ends

-- where its writes fail
pub edit_refused : {A : Type 0} (r : Result A TableError) (found edit : Edit) (prior : ℕ) (old new : State) → found ≡ edit
    → (HasAllTables old → IfErr r (FailsToWriteAll (writes_of edit) old new)) → IfErr r (λ e. HasAllTables old → FailsToMakeEdit found prior old new e)
edit_refused r found edit prior old new is why =
    told_where found prior old new r (λ has. if_err r (λ e fails. inl (subst (λ (x : Edit). FailsToWriteAll (writes_of x) old new e) (sym is) fails)) (why has))

-- there is no office where no rows are to be added
no_rows : (rows : List Row) (e : TableError) (db : Database) → length rows ≡ 0 → IsOfNoOffice (edits.AddRows rows) e db
no_rows [] e db none = tt
no_rows (row ∷ rows) e db none = absurd (omega (arith, none))

-- no office has an import of no rows to add
pub rows_refused : {A : Type 0} (r : Result A TableError) (rows listed : List Row) (prior : ℕ) (old new : State) → listed ≡ rows
    → (1 ≤ length listed → IfErr r (FailsToWriteAll (flat_map row_writes listed) old new)) → IfErr r (FailsToMakeEdit (edits.AddRows rows) prior old new)
rows_refused r rows listed prior old new same why = elim (cases_order 0 (length listed)) [
  | inl none ↦ all_err r (λ e. inr (inl (
    λ is_open o office meets held. omega (arith, meets.0, none, ap length same),
    no_rows rows e old.now (sym (ap length same) ∙ sym none),
  )))
  | inr (inl some) ↦ if_err r (λ e fails. inl (subst (λ (l : List Row). FailsToWriteAll (flat_map row_writes l) old new e) same fails)) (why (omega arith))
  | inr (inr below) ↦ absurd (omega (arith, below))
]

-- totals that are told to be no office's show that there is none that the sale meets
pub sold_refused : (s : Sale) (prior : ℕ) (old new : State) (e : TableError) → IsUnderWay old → HasCleanDisk new
    → FailsToTotal (new_sale s ∷ []) s s.tid (sale_writes s) old new e → FindsNoFalseRow {T = SaleTotals} (MayAddSold s) old new (Err e)
    → FailsToMakeEdit (edits.AddSale s) prior old new e
sold_refused s prior old new e way clean (inl fails) never = inl fails
sold_refused s prior old new e way clean (inr (is, told)) never = inr (inl (
  λ is_open o office meets held. never clean way present_format held.0 (λ _. held.1) (refl, (o, office, meets, held.2)) (ap (λ e. Err e) is),
  (is, old.step_limit, told),
))
