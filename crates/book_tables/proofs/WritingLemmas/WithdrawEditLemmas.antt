-- The rows after steps of a first day were withdrawn are the members of the office.
use Rattle.std.proofs.Common.{◌≡◌, ℕ, Bool, true, false, List, Option, None, Some, refl, sym, ap}
use Rattle.std.specs.Prelude.{Contains, filter, not, if◌then◌else◌}
use Rattle.std.proofs.lemmas.Bool.{false≢true}
use Rattle.std.proofs.lemmas.List.Kept.{AllPairs-filter}
use Rattle.tariff.specs.declared.step.Step.{Step}
use Rattle.office_rules.specs.Decision.Edits.{applied}
use Rattle.office_rules.specs.Office.{Office}
use Rattle.office_rules.specs.declared.decision.change.Edit.TheVariants as edits
use Rattle.book_tables.specs.writing.Edited.{edited, is_from}
use Rattle.book_tables.specs.row.Rows.{DatedStepRow, Rows}
use Rattle.book_tables.specs.Stands.{AreDatedApart, AreMembersOf, HasDatedStep}
use Rattle.book_tables.proofs.ReadingLemmas.StepLemmas.{passes_there, there_passes}
use Rattle.book_tables.proofs.WritingLemmas.PutLemmas.{same_totals}

-- what is left where it was not taken away stood there
left_there : (b : Bool) (there : Option (List Step)) (xs : List Step) → (if b then None else there) ≡ Some xs → (b ≡ false) × (there ≡ Some xs)
left_there true there xs e = absurd cc
left_there false there xs e = (refl, e)

still_there : (b : Bool) (there : Option (List Step)) (xs : List Step) → b ≡ false → there ≡ Some xs → (if b then None else there) ≡ Some xs
still_there true there xs out e = absurd (false≢true (sym out))
still_there false there xs out e = e

not_so : (b : Bool) → not b ≡ true → b ≡ false
not_so true e = absurd (false≢true e)
not_so false e = refl

module _ (rows : Rows) (o : Office) (are : AreMembersOf rows o) (name : List ℕ) (day : ℕ) where
  abbrev out : DatedStepRow → Bool
  out r = is_from name day r

  abbrev left : DatedStepRow → Bool
  left r = not (out r)

  dated_there : (r : DatedStepRow) → HasDatedStep (applied (edits.WithdrawSteps name day) o) r → Contains (filter left rows.dated_steps) r
  dated_there r has =
      let there = left_there (out r) (o.dated_steps r.tariff r.day) has.0 has.1 in
      passes_there left rows.dated_steps r ((are.dated_steps r).0 (has.0, there.1, has.2)) (ap not there.0)

  dated_back : (r : DatedStepRow) → Contains (filter left rows.dated_steps) r → HasDatedStep (applied (edits.WithdrawSteps name day) o) r
  dated_back r there =
      let stays = there_passes left rows.dated_steps r there in
      let had = (are.dated_steps r).1 stays.0 in
      (had.0, still_there (out r) (o.dated_steps r.tariff r.day) had.0 (not_so (out r) stays.1) had.1, had.2)

  -- after the steps of a tariff from a day on were withdrawn, the rows are the members of the office
  pub steps_withdrawn : AreMembersOf (edited (edits.WithdrawSteps name day) rows) (applied (edits.WithdrawSteps name day) o)
  steps_withdrawn = record {
    tariffs = are.tariffs;
    steps = are.steps;
    meters = are.meters;
    bases = are.bases;
    dated_steps = λ r. (dated_there r, dated_back r);
    shifts = are.shifts;
    sales = are.sales;
    totals = same_totals o.sales rows _ refl refl refl are.totals;
    tariffs_once = are.tariffs_once;
    steps_once = are.steps_once;
    meters_once = are.meters_once;
    bases_once = are.bases_once;
    dated_once = AllPairs-filter AreDatedApart left rows.dated_steps are.dated_once;
  }
