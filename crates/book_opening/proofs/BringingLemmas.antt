-- What is handed over to be brought to the present format, and what comes of it.
use Rattle.std.proofs.Common.{◌≡◌, ◌≢◌, ◌⊎◌, ◌<◌, ◌≤◌, ℕ, zero, suc, List, [], length, map, get_or, false, IsTrue, IfErr, OnOk, Result, Ok, Err, refl, sym, ap, subst, ◌∙◌, inl, inr, arith}
use Rattle.std.specs.Prelude.{◌↔◌, Some, AllPairs, Contains}
use Rattle.std.proofs.lemmas.List.{get_or-map, length-map}
use Rattle.sqlite.specs.Effect.{Database, IsDatabase}
use Rattle.sqlite.specs.State.{HasCleanDisk, IsUnchanged, State, Survives}
use Rattle.sqlite.specs.declared.error.Error.{Error}
use Rattle.sqlite_trees.specs.Tree.{Trees}
use Rattle.sqlite_trees.specs.declared.store.Store.{Ghosts}
use Rattle.one_table.specs.Committing.{LeavesMade}
use Rattle.office_rules.specs.Office.{Office, empty_office}
use Rattle.office_rules.specs.declared.office.meter.Meter.{Meter}
use Rattle.office_rules.specs.declared.office.sale.Sale.{Sale}
use Rattle.book_tables.specs.Holds.{HasOfficeOf, StandsFor}
use Rattle.book_tables.specs.format.Filling.{AreHanded}
use Rattle.book_tables.specs.format.Format.{HasFormat, TellsFormat}
use Rattle.book_tables.specs.format.Making.{BringsInside, FailsToBring, HandsOver, IsSoundOfFormat}
use Rattle.book_tables.specs.row.Rows.{present_format}
use Rattle.book_tables.specs.reading.Reading.{meter_row}
use Rattle.book_tables.specs.declared.reading.pages.MeterRow.{MeterRow}
use Rattle.book_tables.specs.declared.error.TableError.{TableError}
use Rattle.book_tables.specs.declared.error.TableError.TheVariants as table
use Rattle.book_tables.proofs.HoldsLemmas.{held_as}
use Rattle.book_tables.proofs.ListLemmas.{contains_map, map_source}
use Rattle.audit_rows.specs.Entries.{meter_entry}
use Rattle.audit_rows.specs.declared.finding.AuditFault.{AuditFault}
use Rattle.audit_rows.specs.declared.finding.AuditFault.TheVariants as audit
use Rattle.audit_rows.specs.declared.finding.Finding.{Finding}
use Rattle.audit_rows.specs.declared.office_rows.OfficeRows.{OfficeRows}
use Rattle.audit_lists.specs.reached.Finds.{AreRowsOfOffice}
use Rattle.audit.specs.Fails.{IsNoOffices, StandsForNone, StopsBy, by_lists, by_row}
use Rattle.audit.specs.Shown.{AreOfficeRows}
use Rattle.book_opening.specs.NoOffice.{IsNoOffice}
use Rattle.book_opening.specs.NoOffice.IsNoOffice.{by_about}
use Rattle.book_opening.specs.Opening.{BringsSound, FaultFitsStore, HasOfficesRows, IsSoldSoFar, IsSoundWith, LeavesPresent, fault_of_audit, sold_by}
use Rattle.book_opening.specs.declared.fault.OpenFault.{OpenFault}
use Rattle.book_opening.specs.declared.fault.OpenFault.TheVariants.{Memory, Store}
use Rattle.book_opening.specs.declared.sold_so_far.SoldSoFar.{SoldSoFar}
use Rattle.book_opening.proofs.EndingLemmas.{known_after}
use Rattle.book_opening.proofs.LookingLemmas.{of_failure}

-- ---- what is handed over

module _ (rows : OfficeRows) (o : Office) (are : AreRowsOfOffice rows o) where
  meters_there : (number : List ℕ) (m : Meter) → (o.meters number ≡ Some m) ↔ Contains rows.meters.items (meter_row (number, m))
  meters_there number m = (
    λ has. let from = map_source meter_entry rows.meters.items (number, m) ((are.members.meters number m).0 has) in
        subst (Contains rows.meters.items) (ap meter_row from.2) from.1,
    λ there. (are.members.meters number m).1 (contains_map meter_entry rows.meters.items (meter_row (number, m)) there),
  )

  meters_once : AllPairs (λ (a b : MeterRow). a.number ≢ b.number) rows.meters.items
  meters_once i j d below within =
      let entry : (k : ℕ) → k < length rows.meters.items → get_or (map meter_entry rows.meters.items) k (meter_entry d) ≡ meter_entry
      (get_or rows.meters.items k d) = λ k low. get_or-map meter_entry rows.meters.items k d (meter_entry d) low in
      let apart = are.members.meters_once i j (meter_entry d) below (omega (arith, length-map rows.meters.items meter_entry, within)) in
      λ same. apart (ap (λ (e : List ℕ × Meter). e.0) (entry i (omega (arith, below, within))) ∙ same ∙ sym (ap (λ (e : List ℕ × Meter). e.0) (entry j within)))

  handed : AreHanded o rows.meters.items rows.sales.items
  handed = record { meters = meters_there; once = meters_once; sales = are.members.sales }

module _ (from : ℕ) (rows : OfficeRows) where
  -- the meters and the sales of an older file that was read
  pub hands_rows : (db : Database) → AreOfficeRows from db rows → HandsOver db rows.meters.items rows.sales.items
  hands_rows db are o stands = handed rows o (are.only o stands)

  -- what was sold, by the sales that were read
  pub sold_of_rows : (s : State) (sold : SoldSoFar) → ((p : Office) → p.sales ≡ rows.sales.items → sold ≡ sold_by p) → IsTrue s.is_open
      → AreOfficeRows from s.now rows → IsSoldSoFar s sold
  sold_of_rows s sold is runs are o at = is o (sym (are.only o (at.now runs)).members.sales)

-- the rows of an older file are as they were after the look at them, and are handed over
module _ (from : ℕ) (rows : OfficeRows) (old mid : State) (shut : mid.is_clean ≡ false → mid.is_open ≡ false) (same : HasCleanDisk mid → IsUnchanged old mid)
    (has : IsSoundOfFormat from old) (given : HasCleanDisk mid → AreOfficeRows from old.now rows) where
  -- the rows of the file are still those of its office after the look
  pub rows_after : HasCleanDisk mid → AreOfficeRows from mid.now rows
  rows_after clean = subst (λ (db : Database). AreOfficeRows from db rows) (sym (same clean).0.now_is) (given clean)

  -- the meters and sales of these rows are handed over, in a sound database of the format
  pub sound_with : (meters : List MeterRow) (sales : List Sale) → meters ≡ rows.meters.items → sales ≡ rows.sales.items → IsSoundWith from meters sales mid
  sound_with meters sales of_meters of_sales = known_after old mid shut same
      (λ (db : Database). IsDatabase db × HasOfficeOf from db.schema × HandsOver db meters sales) (λ clean runs. (
        (has runs).0,
        (has runs).1,
        subst (λ (ms : List MeterRow). HandsOver old.now ms sales) (sym of_meters)
            (subst (HandsOver old.now rows.meters.items) (sym of_sales) (hands_rows from rows old.now (given clean))),
      ))

-- the tables of a format, where there are any, are those of these rows
pub rows_there : (n : ℕ) (db : Database) (rows : OfficeRows) → AreOfficeRows n db rows → HasOfficesRows n db
rows_there zero db rows are = tt
rows_there (suc n) db rows are = (rows, are)

-- there are none, and the office is the empty one
module _ (db : Database) (has : HasOfficeOf 0 db.schema) where
  none_stands : (o : Office) → StandsFor db o → o ≡ empty_office
  none_stands o stands = (held_as db o 0 stands (omega arith) has).1 refl

  -- of a database without tables no meters and no sales are handed over
  pub hands_none : HandsOver db [] []
  hands_none o stands = subst (λ (p : Office). AreHanded p [] []) (sym (none_stands o stands)) (record {
    meters = λ number m. (λ none. absurd (let e = none in cc), λ there. absurd (omega (arith, there.1)));
    once = λ i j d below within. absurd (omega (arith, within));
    sales = refl;
  })

-- where there are no tables, nothing was sold
pub none_sold : (s : State) (sold : SoldSoFar) → ((p : Office) → p.sales ≡ [] → sold ≡ sold_by p) → IsTrue s.is_open → HasOfficeOf 0 s.now.schema
    → IsSoldSoFar s sold
none_sold s sold is runs has o at = is o (ap (λ (p : Office). p.sales) (none_stands s.now has o (at.now runs)))

-- ---- what an audit found

-- a row that is no office's shows that the database stands for none
pub none_of : (f : Finding) (db : Database) → IsNoOffices f db → StandsForNone db
none_of f db (by_row n own breaks none) = none
none_of f db (by_lists n rows told broken none) = none

-- `about` does not tell the format of the tables
other_told : (n : ℕ) (db : Database) → 1 ≤ n → ¬ TellsFormat n db → ¬ HasFormat db n
other_told zero db some other tells = absurd (omega (arith, some))
other_told (suc n) db some other tells = other tells

module _ (Says : Finding → Database → Type 0) (old new : State) (n : ℕ) (some : 1 ≤ n) (known : n ≤ present_format) (has : IsSoundOfFormat n old)
    (says : HasOfficeOf n old.now.schema → (f : Finding) → Says f old.now → IsNoOffice old.now × StandsForNone old.now) where
  -- the fault that is made of what an audit found is true of the store, where it is one of no office
  pub audit_tells : (e : AuditFault) (fault : OpenFault) → ((why : Error) → e ≡ audit.Failed why → (fault ≡ Store) ⊎ (fault ≡ Memory))
      → fault ≡ fault_of_audit e → StopsBy Says old new e → FaultFitsStore old fault
  audit_tells (audit.Found f) fault kind is stops =
      let runs = stops.1.0.was_open in
      let found = says (has runs).1 f stops.0 in
      rw is (record { is_open = runs; named = found.0; none = λ o at. found.1 o (at.now runs) })
  audit_tells audit.NoOffice fault kind is stops =
      let runs = stops.1.0.was_open in
      let there = (has runs).1 in
      rw is (record {
        is_open = runs;
        named = by_about n some known there (other_told n old.now some (stops.0.0 n known there));
        none = λ o at. stops.0.1 o (at.now runs);
      })
  audit_tells (audit.Failed why) fault kind is stops = of_failure old fault (kind why refl)

-- ---- what is made inside a transaction

-- an error of the database is answered as one
pub plain_fault : (e : TableError) (fault : OpenFault) → ((why : Error) → e ≡ table.Database why → (fault ≡ Store) ⊎ (fault ≡ Memory))
    → e ≢ table.RowOfNoOffice → (fault ≡ Store) ⊎ (fault ≡ Memory)
plain_fault (table.Database why) fault kind other = kind why refl
plain_fault table.RowOfNoOffice fault kind other = absurd (other refl)

module _ (from : ℕ) (meters : List MeterRow) (sales : List Sale) (old new : State) where
  -- the office is brought, or it is told why not
  pub brought_inside : {A E : Type 0} (r : Result A E) → (IsSoundOfFormat from old → HandsOver old.now meters sales → OnOk r (BringsInside from old new))
      → OnOk r (BringsSound from meters sales old.now new.now)
  brought_inside (Ok a) made = λ sound has hands. (made (λ _. (sound, has)) hands).brings
  brought_inside (Err e) made = tt

  -- where the office is not brought, it is told why, of a sound database of the format
  pub refused_inside : {S A : Type 0} (g : Ghosts S) (r : Result A TableError) → (IsSoundOfFormat from old → IfErr r (FailsToBring g from meters sales old new))
      → IfErr r (λ e. IsSoundOfFormat from old → FailsToBring g from meters sales old new e)
  refused_inside g (Ok a) fails = tt
  refused_inside g (Err e) fails = fails

  -- and no row is told to be no office's
  pub told_inside : {S A : Type 0} (g : Ghosts S) (r : Result A TableError) → (IsSoundOfFormat from old → IfErr r (FailsToBring g from meters sales old new))
      → IfErr r (λ e. IsDatabase old.now → HasOfficeOf from old.now.schema → e ≢ table.RowOfNoOffice)
  told_inside g (Ok a) fails = tt
  told_inside g (Err e) fails = λ sound has is. subst (FailsToBring g from meters sales old new) is (fails (λ _. (sound, has)))

  -- what a crash leaves of the change is the office in the present format
  pub leaves_present : (HasCleanDisk old → IsTrue old.is_open) → IsSoundWith from meters sales old
      → Survives old new (LeavesMade (BringsSound from meters sales) old.now) → Survives old new (LeavesPresent from old)
  leaves_present opens has s = record {
    clean = s.clean;
    shield = s.shield;
    counts = s.counts;
    limit = s.limit;
    closes = s.closes;
    crash = λ clean trees left. elim (s.crash clean trees left) [ inl was ↦ inl was | inr made ↦ inr (brought clean trees made) ];
  }
    where
      brought : HasCleanDisk new → (trees : Trees) → LeavesMade (BringsSound from meters sales) old.now trees → LeavesPresent from old trees
      brought clean trees made =
          let is_open = opens (omega (arith, s.clean)) in
          let it = has is_open in
          (is_open, (made.0, made.1 it.0 it.1 it.2, made.2))
