use Rattle.std.proofs.Common.{◌∙◌, ap, sym, List, Option}
use Rattle.std.specs.Option.{option_or}
use Rattle.tariff.specs.declared.step.Step.{Step}
use Rattle.office_decisions.proofs.TakenLemmas.{found_dated}
use Rattle.office_decisions.proofs.decision.import.RowsTaken.steps_from.Goals as goal

pub returns-in-Some : goal.returns-in-Some
returns-in-Some c = λ o there.
    let name = c.args.name.now in
    let day = c.args.day in
    let at = found_dated c.args.self.now.dated_steps c.as_bytes.result.now name c.days.result day c.get.result c.in-Some.steps
    c.get.ensures.value c.as_bytes.ensures.view c.days.ensures.value c.in-Some.is in
    sym (c.args.self.now.dated_found o name day ∙ ap (λ (found : Option (List Step)). option_or found (o.dated_steps name day)) at)
