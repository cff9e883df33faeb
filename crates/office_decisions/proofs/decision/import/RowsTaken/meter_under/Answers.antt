use Rattle.std.proofs.Common.{◌∙◌, ap, sym, Option}
use Rattle.std.specs.Option.{option_or}
use Rattle.office_rules.specs.declared.office.meter.Meter.{Meter}
use Rattle.office_decisions.proofs.TakenLemmas.{found_under}
use Rattle.office_decisions.proofs.decision.import.RowsTaken.meter_under.Goals as goal

pub returns-in-Some : goal.returns-in-Some
returns-in-Some c = λ o there.
    let number = c.args.number.now in
    let at = found_under c.args.self.now.meters c.as_bytes.result.now number c.get.result c.in-Some.meter c.get.ensures.value
    c.as_bytes.ensures.view c.in-Some.is in
    sym (c.args.self.now.meters_found o number ∙ ap (λ (found : Option Meter). option_or found (o.meters number)) at)
