use Rattle.std.proofs.Common.{◌≡◌, ℕ, Some, length, slice_get}
use Rattle.tariff.specs.declared.step.Step.{Step}
use Rattle.audit_lists.specs.Steps.{HasStepAt}
use Rattle.audit_lists.proofs.steps.first_steps.Given as goal

abbrev pub invariant-places : goal.invariant-places
invariant-places g l = record {
  long : length l.steps.items ≡ l.place;
  there : (place : ℕ) (s : Step) → slice_get l.steps.items place ≡ Some s → HasStepAt g.T.HasStep.step g.K.KeyOf.key l.rows (l.text, l.more, l.number, place) s;
}
