use Rattle.std.proofs.Common.{◌∙◌, ap, sym, is_some, List, Option}
use Rattle.std.specs.Option.{option_or}
use Rattle.tariff.specs.declared.step.Step.{Step}
use Rattle.office_decisions.proofs.TakenLemmas.{none_under}
use Rattle.office_decisions.proofs.decision.import.RowsTaken.has_tariff.Goals as goal

pub returns-else-contains_key : goal.returns-else-contains_key
returns-else-contains_key c = λ o there.
    let name = c.args.name.now in
    let none = none_under c.args.self.now.tariffs c.as_bytes.result.now name (sym c.contains_key.ensures ∙ c.if-contains_key.false) c.as_bytes.ensures.view in
    there ∙ ap is_some (sym (c.args.self.now.tariffs_found o name ∙ ap (λ (found : Option (List Step)). option_or found (o.tariffs name)) none))
