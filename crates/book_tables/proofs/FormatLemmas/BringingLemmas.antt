-- The tables of an older format are brought up to the present one: the same office.
use Rattle.std.proofs.Common.{◌≡◌, ◌≢◌, ◌<◌, ◌↔◌, ◌∙◌, ℕ, true, List, [], ◌∷◌, ◌++◌, append-nil, ap, codes, map, zero, suc, refl, sym, subst, inl, inr, arith, Result, Ok, Err, IfErr, IsErrAnd, OnOk}
use Rattle.std.specs.Prelude.{AllPairs, Contains}
use Rattle.std.specs.List.{AllByRecursion}
use Rattle.sqlite.specs.State.{HasCleanDisk, State, Survives}
use Rattle.sqlite.proofs.StateLemmas.{survives_then}
use Rattle.sqlite_trees.specs.declared.store.Store.{Ghosts}
use Rattle.sts_fields.specs.declared.base.Base.{Base}
use Rattle.office_rules.specs.Office.{IsOffice, Office, empty_office}
use Rattle.office_rules.specs.declared.office.sale.Sale.{Sale}
use Rattle.one_table.specs.InTransaction.{KeepsTransaction, StaysInside}
use Rattle.one_table.proofs.ChangeLemmas.{if_err, keeps_inside, keeps_then, on_ok, stays_then}
use Rattle.book_tables.specs.format.Filling.{AreFilling, AreHanded, Fills, FillsBases, FillsTotals, IsReady, base_row_of}
use Rattle.book_tables.specs.Holds.{HasOffice, HoldsMembers, HoldsOf, rows_in}
use Rattle.book_tables.specs.format.Format.{HasFormat}
use Rattle.book_tables.specs.Kept.{Kept, about_kept, bases_kept, kept_names, last_ids_kept, later, month_tenths_kept, shift_totals_kept}
use Rattle.book_tables.specs.format.Making.{AreBringing, BringsInside, BringsTables, FailsToBring, FillsMissing, HandsOver, IsSoundOfFormat, MakesMissing, TellsPresent, rows_upto}
use Rattle.book_tables.specs.row.Rows.{DatedStepRow, Rows, about_rows, present_format}
use Rattle.book_tables.specs.Stands.{AreDatedApart, AreMembersOf, AreTotalsOf, HasDatedStep, IsOfFormat}
use Rattle.book_tables.specs.writing.Edited.{no_rows}
use Rattle.book_tables.specs.writing.Failing.{FailsSomehow, FailsToWriteAll}
use Rattle.book_tables.specs.writing.Writes.{Write, format_write}
use Rattle.book_tables.specs.writing.Writing.{WritesOnly, WritesTables, totals_names, with_totals_of}
use Rattle.book_tables.specs.declared.error.TableError.{TableError}
use Rattle.book_tables.specs.declared.error.TableError.TheVariants.{Database as Failed, RowOfNoOffice}
use Rattle.book_tables.specs.declared.reading.pages.MeterRow.{MeterRow}
use Rattle.book_tables.proofs.FormatLemmas.AboutLemmas.{IsAnother, told_left}
use Rattle.book_tables.proofs.FormatLemmas.FillingBasesLemmas.{bases_are, bases_once}
use Rattle.book_tables.proofs.FormatLemmas.FillingLemmas.{fills_before, fills_then, fills_write, nothing_written}
use Rattle.book_tables.proofs.FormatLemmas.MakingLemmas.{missing_may, still_beside}
use Rattle.book_tables.proofs.WritingLemmas.CauseLemmas.{Came, came_by, of_later}
use Rattle.book_tables.proofs.WritingLemmas.EditLemmas.{no_members}
use Rattle.book_tables.proofs.HoldsLemmas.{held_as}
use Rattle.book_tables.proofs.OfficeTableLemmas.{bases_in, last_ids_in, month_tenths_in, shift_totals_in}
use Rattle.book_tables.proofs.WritingLemmas.OnlyLemmas.{AreAmong, only_among, only_both, only_named, only_then}

-- ---- the office's members

-- where its totals are made anew, its bases are listed anew, and there are no steps of later days
members_brought : (rows totals : Rows) (bases : List (List ℕ × Base)) (o : Office) → AreMembersOf rows o → rows.dated_steps ≡ []
    → ((number : List ℕ) (base : Base) → (o.bases number base ≡ true) ↔ Contains bases (number, base))
    → AllPairs (λ a b. a ≢ b) bases → AreTotalsOf o.sales totals → AreMembersOf (record (with_totals_of totals rows) { bases = bases; dated_steps = [] }) o
members_brought rows totals bases o are none has once they = record {
  tariffs = are.tariffs;
  steps = are.steps;
  meters = are.meters;
  bases = has;
  dated_steps = λ r. subst (λ (l : List DatedStepRow). HasDatedStep o r ↔ Contains l r) none (are.dated_steps r);
  shifts = are.shifts;
  sales = are.sales;
  totals = record { last_ids = they.last_ids; month_tenths = they.month_tenths; shift_totals = they.shift_totals; by_shift = they.by_shift };
  tariffs_once = are.tariffs_once;
  steps_once = are.steps_once;
  meters_once = are.meters_once;
  bases_once = once;
  dated_once = subst (AllPairs AreDatedApart) none are.dated_once;
}

-- ---- what is filled, by the format

-- none of these tables is `about`
bases_another : AllByRecursion IsAnother (bases_kept ∷ [])
bases_another = ((bases_in, refl), tt)

abbrev totals_kept : List Kept
totals_kept = last_ids_kept ∷ month_tenths_kept ∷ shift_totals_kept ∷ []

totals_another : AllByRecursion IsAnother totals_kept
totals_another = ((last_ids_in, refl), ((month_tenths_in, refl), ((shift_totals_in, refl), tt)))

module _ (meters : List MeterRow) (sales : List Sale) where
  -- format 1 lacks the totals and the bases: these are filled one after the other
  pub missing_first : (old mid new : State) → IsReady old → IsReady mid → FillsTotals sales old mid → FillsBases meters mid new
      → FillsMissing 1 meters sales old new
  missing_first old mid new ready then totals fills = record {
    only = only_then (kept_names (later 1)) totals_names (codes "meter_bases" ∷ []) refl refl old mid new totals.only fills.only;
    tells = told_left mid new then.has (bases_kept ∷ []) bases_another fills.only ∙ told_left old mid ready.has totals_kept totals_another totals.only;
    members = λ o rows office none handed are of_format held.
        let sums = totals.rows 1 (rows_upto 1 rows) o office handed.sales held in
        let some : Rows = with_totals_of sums.0 (rows_upto 1 rows) in
        let alone = of_format.bases (omega arith) in (
          record some { bases = map base_row_of meters },
          fills.rows 1 some sums.1,
          members_brought rows sums.0 (map base_row_of meters) o are (of_format.dated_steps (omega arith))
              (bases_are o rows meters sales handed are alone) (bases_once o rows meters sales handed are alone)
              (subst (λ (l : List Sale). AreTotalsOf l sums.0) handed.sales sums.2),
        );
  }

  -- format 2 lacks the bases of the meters, and has its totals already
  pub missing_second : (old new : State) → IsReady old → FillsBases meters old new → FillsMissing 2 meters sales old new
  missing_second old new ready fills = record {
    only = only_named (codes "meter_bases" ∷ []) (kept_names (later 2)) refl old new fills.only;
    tells = told_left old new ready.has (bases_kept ∷ []) bases_another fills.only;
    members = λ o rows office none handed are of_format held.
        let alone = of_format.bases (omega arith) in (
          record rows { bases = map base_row_of meters; dated_steps = [] },
          fills.rows 2 (rows_upto 2 rows) held,
          members_brought rows rows (map base_row_of meters) o are (of_format.dated_steps (omega arith))
              (bases_are o rows meters sales handed are alone) (bases_once o rows meters sales handed are alone) are.totals,
        );
  }

  -- nothing is to be filled
  missing_none : (from : ℕ) (old : State) → IsReady old
      → ((o : Office) (rows : Rows) → (from ≡ 0 → o ≡ empty_office) → AreMembersOf rows o → IsOfFormat from rows
      → AreMembersOf (rows_upto from rows) o) → FillsMissing from meters sales old old
  missing_none from old ready members = record {
    only = nothing_written (kept_names (later from)) old ready;
    tells = refl;
    members = λ o rows office none handed are of_format held. (rows_upto from rows, held, members o rows none are of_format);
  }

  -- at format 3, and where there was no format, nothing is to be filled
  pub missing_third : (from : ℕ) → from < present_format → from ≢ 1 → from ≢ 2 → (old : State) → IsReady old → FillsMissing from meters sales old old
  missing_third zero below one two old ready = missing_none 0 old ready (λ o rows none are of_format. subst (AreMembersOf no_rows) (sym (none refl)) no_members)
  missing_third (suc zero) below one two old ready = absurd (one refl)
  missing_third (suc (suc zero)) below one two old ready = absurd (two refl)
  missing_third (suc (suc (suc zero))) below one two old ready =
      missing_none 3 old ready (λ o rows none are of_format. members_brought rows rows rows.bases o are
      (of_format.dated_steps (omega arith)) are.bases are.bases_once are.totals)
  missing_third (suc (suc (suc (suc n)))) below one two old ready = absurd (omega (arith, below))

-- ---- an older format, once its missing tables are made

about_among : (ks : List Kept) → AreAmong (codes "about" ∷ []) (kept_names (about_kept ∷ ks))
about_among ks s tree none = (none.0, tt)

rest_among : (ks : List Kept) → AreAmong (kept_names ks) (kept_names (about_kept ∷ ks))
rest_among ks s tree none = none.1

-- they are filled, and the format is told
pub record Completes (from : ℕ) (meters : List MeterRow) (sales : List Sale) (old new : State) : Type 0 where
  pub only : WritesOnly (kept_names (about_kept ∷ later from)) old new
  pub tells : rows_in old.now (codes "about") ≡ about_rows from → HasFormat new.now present_format
  pub members : (o : Office) (rows : Rows) → IsOffice o → (from ≡ 0 → o ≡ empty_office) → AreHanded o meters sales → AreMembersOf rows o
      → IsOfFormat from rows → HoldsOf present_format from old.now (rows_upto from rows) → HoldsMembers new.now o

completes : (from : ℕ) (meters : List MeterRow) (sales : List Sale) (old filled new : State) → FillsMissing from meters sales old filled
    → TellsPresent from filled new → Completes from meters sales old new
completes from meters sales old filled new fills tells = record {
  only = only_both _ old filled new (only_among _ (kept_names (about_kept ∷ later from)) (rest_among (later from)) old filled fills.only)
      (only_among _ (kept_names (about_kept ∷ later from)) (about_among (later from)) filled new tells.only);
  tells = λ told. tells.tells (fills.tells ∙ told);
  members = λ o rows office none handed are of_format held.
      let full = fills.members o rows office none handed are of_format held in
      (full.0, tells.rows full.0 full.1, full.2);
}

-- so it is once the tables were filled, or it is not filled for a cause
pub filled_on : (from : ℕ) (meters : List MeterRow) (sales : List Sale) (old filled new : State) (r : Result (Unit {0}) TableError)
    → Fills (AreFilling from meters sales) (FillsMissing from meters sales) old filled (Ok tt)
    → KeepsTransaction filled new r → WritesTables (format_write from) (TellsPresent from) filled new r
    → Fills (AreBringing from meters sales) (Completes from meters sales) old new r
filled_on from meters sales old filled new r first transaction second =
    fills_then old filled new (kept_names (later from)) r (λ fills. fills.only)
    (λ _ _ fills tells. completes from meters sales old filled new fills tells)
    (λ vs ws filling is. (vs, filling, ap (λ (l : List Write). vs ++ l) is)) first
    (fills_write (format_write from) filled new r transaction second)

-- where the filling fails, all of it fails, for the cause that the filling had
pub filled_off : (from : ℕ) (meters : List MeterRow) (sales : List Sale) (old new : State) (e : TableError)
    (r : Result (Unit {0}) TableError) → IsErrAnd r (λ x. x ≡ e)
    → Fills (AreFilling from meters sales) (FillsMissing from meters sales) old new (Err e)
    → Fills (AreBringing from meters sales) (Completes from meters sales) old new r
filled_off from meters sales old new e r is failed =
    fills_before old new e r is (λ vs filling. (format_write from ∷ [], (vs, filling, refl))) failed

-- a format that lacks neither totals nor bases is filled by nothing
pub lacks_nothing : (from : ℕ) (meters : List MeterRow) (sales : List Sale) → from ≢ 1 → from ≢ 2 → AreFilling from meters sales []
lacks_nothing zero meters sales one two = ([], refl, refl)
lacks_nothing (suc zero) meters sales one two = absurd (one refl)
lacks_nothing (suc (suc zero)) meters sales one two = absurd (two refl)
lacks_nothing (suc (suc (suc n))) meters sales one two = ([], refl, refl)

module _ (from : ℕ) (meters : List MeterRow) (sales : List Sale) (old mid new : State) (inside : StaysInside old mid)
    (made : MakesMissing from old.now mid.now) (done : Completes from meters sales mid new) where
  tables_brought : BringsTables from old.now new.now
  tables_brought = record {
    had = made.had;
    has = subst HasOffice (sym done.only.schema) made.has;
    tells = λ told. done.tells (made.tells told);
    beside = still_beside from old.now made.had mid new made.beside made.has (about_kept ∷ later from) (missing_may from) done.only;
  }

  office_brought : from < present_format → HandsOver old.now meters sales → BringsInside from old new
  office_brought known handed = record {
    inside = stays_then old mid new inside done.only.inside;
    brings = record {
      tables = tables_brought;
      members = λ o stands.
          let held = held_as old.now o from stands (omega (arith, known)) made.had in
          let rows = held.0.0 in
          done.members o rows stands.office held.1 (handed o stands) held.0.2 held.0.1.of_format (made.rows rows held.0.1);
    };
  }

-- what follows of all of it, where the missing tables were made
module _ (from : ℕ) (meters : List MeterRow) (sales : List Sale) (old mid new : State) (r : Result (Unit {0}) TableError)
    (makes : HasCleanDisk mid → IsSoundOfFormat from old → MakesMissing from old.now mid.now) (inside : HasCleanDisk mid → StaysInside old mid)
    (first : KeepsTransaction {T = Unit {0}} {E = TableError} old mid (Ok tt))
    (rest : Fills (AreBringing from meters sales) (Completes from meters sales) mid new r) where
  early : HasCleanDisk new → HasCleanDisk mid
  early clean = omega (arith, clean, rest.survives.clean)

  ready_made : HasCleanDisk new → IsSoundOfFormat from old → IsReady mid
  ready_made clean sound = let is = inside (early clean) in let made = makes (early clean) sound in
      record { is_open = is.is_open; under_way = is.mode; sound = made.beside.sound; has = made.has }

  -- where all went well, the tables hold the office that the database stood for
  pub brings_office : from < present_format → HasCleanDisk new → IsSoundOfFormat from old → HandsOver old.now meters sales → OnOk r (BringsInside from old new)
  brings_office known clean sound handed = on_ok r (λ done. office_brought from meters sales old mid new (inside (early clean))
      (makes (early clean) sound) done known handed) (rest.made clean (ready_made clean sound))

  -- and the tables are the present ones, as `about` tells, whatever the rows are
  pub brings_tables : HasCleanDisk new → IsSoundOfFormat from old → OnOk r (BringsTables from old.now new.now)
  brings_tables clean sound = on_ok r (λ done. tables_brought from meters sales old mid new (inside (early clean))
      (makes (early clean) sound) done) (rest.made clean (ready_made clean sound))

  -- where it fails, the missing tables were made and one of the writes after that failed
  pub fails_bringing : {S : Type 0} (g : Ghosts S) → HasCleanDisk new → IsSoundOfFormat from old → IfErr r (FailsToBring g from meters sales old new)
  fails_bringing g clean sound =
      let made = makes (early clean) sound in
      let from_made : State = record old { now = mid.now } in
      let came : Came [] from_made mid = came_by [] from_made mid refl (stays_from (inside (early clean))) (survives_from first.survives) in
      if_err r (why_not g made came) (rest.ends clean (ready_made clean sound)).1
    where
      stays_from : StaysInside old mid → StaysInside (record old { now = mid.now }) mid
      stays_from is = record { was_open = is.was_open; is_open = is.is_open; now_is = is.now_is; committed_is = is.committed_is; mode = is.mode }

      survives_from : Survives old mid (λ _. ⊥) → Survives (record old { now = mid.now }) mid (λ _. ⊥)
      survives_from s = record { clean = s.clean; shield = s.shield; counts = s.counts; limit = s.limit; closes = s.closes; crash = s.crash }

      why_not : {S : Type 0} (g : Ghosts S) → MakesMissing from old.now mid.now → Came [] (record old { now = mid.now }) mid → (e : TableError)
          → FailsSomehow (AreBringing from meters sales) mid new e → FailsToBring g from meters sales old new e
      why_not g made came (Failed e) (inl none) = inr (record { made = mid.now; makes = made; fails = inl none })
      why_not g made came (Failed e) (inr (ws, are, why)) = inr (record {
        made = mid.now;
        makes = made;
        fails = inr (
          ws,
          are,
          subst (λ (l : List Write). FailsToWriteAll l (record old { now = mid.now }) new (Failed e)) (append-nil ws)
              (of_later [] (record old { now = mid.now }) mid new came ws [] (Failed e) why),
        );
      })
      why_not g made came RowOfNoOffice (inl none) = absurd cc
      why_not g made came RowOfNoOffice (inr (ws, are, why)) = why

  -- the transaction stays under way where it went well, and nothing is committed
  pub keeps_bringing : KeepsTransaction old new r
  keeps_bringing = record {
    inside = λ clean way.
        let before = first.inside (early clean) way in
        on_ok r (stays_then old mid new before) (rest.inside clean before.mode before.is_open);
    kept = λ clean way.
        let before = first.inside (early clean) way in
        keeps_then old mid new (keeps_inside old mid before) (rest.kept clean before.mode before.is_open);
    survives = survives_then old mid new _ _ (λ _. ⊥) (λ _ db none. none) (λ _ db none. none) first.survives rest.survives;
  }
