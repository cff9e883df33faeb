use Rattle.std.proofs.Common.{◌∙◌, ◌++◌, codes, Some, None}
use Rattle.std.proofs.lemmas.Bool.Decides.{Decides-eqb}
use Rattle.std.proofs.lemmas.Slice.Eq.{strip_prefix_is}
use Rattle.tariff.specs.StepsText.{steps_text}
use Rattle.desk_client.proofs.TariffLemmas.{behind_value, plain_steps, put_together, spread, steps_there}
use Rattle.desk_client.proofs.tariff_items.read_with_steps.Goals as goal

pub returns-in_default : goal.returns-in_default
returns-in_default c = λ found is.
    strip_prefix_is Decides-eqb c.args.text.now c.args.front.now None c.in_default.ensures.cases
    (found.value.now ++ (codes "\",\"steps\":\"" ++ (steps_text found.steps ++ (codes "\"}" ++ found.rest.now))))
    (is.2 ∙ spread c.args.front.now found.value.now found.steps found.rest.now)

pub returns-in_default-value_at-2 : goal.returns-in_default-value_at-2
returns-in_default-value_at-2 c = λ found is.
    c.in_default-value_at-2.ensures (steps_text found.steps) found.rest.now (plain_steps found.steps is.1) (
    behind_value c.args.text.now c.args.front.now c.in-Some.rest.now c.in-Some-value_at.value.now c.in-Some-value_at.rest.now
    (strip_prefix_is Decides-eqb c.args.text.now c.args.front.now (Some c.in-Some.rest) c.in-Some.ensures.cases)
    c.in-Some-value_at.ensures.0 c.in-Some-value_at.ensures.1 found.value.now found.steps found.rest.now is.0 is.2)

pub returns-in-Some-2 : goal.returns-in-Some-2
returns-in-Some-2 c =
    let read = rw c.in-Some-2.is at c.in_ok-steps.ensures in (
      c.in-Some-value_at.ensures.0,
      read.0,
      put_together c.args.text.now c.args.front.now c.in-Some.rest.now c.in-Some-value_at.value.now c.in-Some-value_at.rest.now
          c.in-Some-value_at-2.steps.now c.in-Some-value_at-2.rest.now c.in-Some-2.steps
          (strip_prefix_is Decides-eqb c.args.text.now c.args.front.now (Some c.in-Some.rest) c.in-Some.ensures.cases)
          c.in-Some-value_at.ensures.1 c.in-Some-value_at-2.ensures.1 read.1,
    )

pub returns-in-None : goal.returns-in-None
returns-in-None c = λ found is.
    let none = rw c.in-None.is at c.in_ok-steps.ensures in
    none found.steps (
      is.1,
      steps_there c.in-Some-value_at-2.steps.now c.in-Some-value_at.rest.now found.rest.now found.steps c.in-Some-value_at-2.rest.now
          c.in-Some-value_at-2.ensures.0 c.in-Some-value_at-2.ensures.1 is.1 (
          behind_value c.args.text.now c.args.front.now c.in-Some.rest.now c.in-Some-value_at.value.now c.in-Some-value_at.rest.now
          (strip_prefix_is Decides-eqb c.args.text.now c.args.front.now (Some c.in-Some.rest) c.in-Some.ensures.cases)
          c.in-Some-value_at.ensures.0 c.in-Some-value_at.ensures.1 found.value.now found.steps found.rest.now is.0 is.2),
    )
