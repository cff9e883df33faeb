use Rattle.std.proofs.Common.{◌∙◌, ap, sym, List, Option}
use Rattle.std.specs.Option.{option_or}
use Rattle.tariff.specs.declared.step.Step.{Step}
use Rattle.office_decisions.proofs.TakenLemmas.{found_under}
use Rattle.office_decisions.proofs.decision.import.RowsTaken.steps_under.Goals as goal

pub returns-in-Some : goal.returns-in-Some
returns-in-Some c = λ o there.
    let name = c.args.name.now in
    let at = found_under c.args.self.now.tariffs c.as_bytes.result.now name c.get.result c.in-Some.steps c.get.ensures.value
    c.as_bytes.ensures.view c.in-Some.is in
    sym (c.args.self.now.tariffs_found o name ∙ ap (λ (found : Option (List Step)). option_or found (o.tariffs name)) at)
