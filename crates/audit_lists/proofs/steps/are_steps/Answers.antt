use Rattle.std.proofs.Common.{rules, sym, subst}
use Rattle.std.proofs.lemmas.Bool.{false≢true}
use Rattle.tariff.specs.Steps.{IsSteps}
use Rattle.audit_lists.specs.Keys.{owned_key}
use Rattle.audit_lists.proofs.StepLemmas.{same_first}
use Rattle.audit_lists.proofs.steps.are_steps.Goals as goal

pub returns : goal.returns
returns g c =
    let steps = c.in_ok-steps.steps.items in
    let none : IsSteps c.deref.result.now → ⊥ = search rules in (
      λ yes. absurd (false≢true yes),
      λ are.
          absurd (none (subst IsSteps (sym c.deref.ensures.value)
          (subst IsSteps (sym (same_first g.T.HasStep.step g.K.KeyOf.key c.args.rows.now c.requires.apart (owned_key c.args.key) steps
          are.steps c.in_ok-steps.ensures are.first are.priced)) are.priced))),
    )
