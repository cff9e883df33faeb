use Rattle.std.proofs.Common.{◌∙◌, ap, subst, sym, is_some, Bool, List, Option}
use Rattle.std.specs.Option.{option_copied}
use Rattle.tariff.specs.declared.step.Step.{Step}
use Rattle.office_rules.specs.Decision.{add_steps, add_tariff, is_new, row_decision}
use Rattle.office_rules.specs.Decision.Edits.{with_rows}
use Rattle.office_rules.specs.declared.office.row.Row.{Row}
use Rattle.office_decisions.specs.OverFacts.{Shows}
use Rattle.office_decisions.proofs.TakenLemmas.{or_none, same_meter_decision}
use Rattle.office_decisions.proofs.decision.import.RowsTaken.is_new.Goals as goal

pub returns-in-Tariff-clause-value : goal.returns-in-Tariff-clause-value
returns-in-Tariff-clause-value c = λ o found.
    let p = with_rows c.args.self.now.rows.items o in
    let shown = subst (λ (row : Row). Shows o row (option_copied c.args.found)) c.in-Tariff.is found in
    let b = c.steps_under.ensures o (c.steps_of.ensures ∙ shown) in
    c.is_new_tariff.ensures.value c.in-Tariff.name ∙ ap (λ (there : Option (List Step)). is_new (add_tariff c.in-Tariff.name c.in-Tariff.steps there)) b
    ∙ ap (λ (row : Row). is_new (row_decision p c.args.today row)) (sym c.in-Tariff.is)

pub returns-in-Steps-clause-value : goal.returns-in-Steps-clause-value
returns-in-Steps-clause-value c = λ o found.
    let p = with_rows c.args.self.now.rows.items o in
    let name = c.in-Steps.name in
    let day = c.in-Steps.day in
    let steps = c.in-Steps.steps in
    let shown = subst (λ (row : Row). Shows o row (option_copied c.args.found)) c.in-Steps.is found in
    let has = c.has_tariff.ensures o (c.stands.ensures ∙ shown.0) in
    let there = c.steps_from.ensures o (c.dated_steps_of.ensures ∙ shown.1) in
    c.is_new_steps.ensures.value name
    ∙ ap (λ (b : Bool). is_new (add_steps name day steps c.args.today b (option_copied c.steps_from.result))) has
    ∙ ap (λ (l : Option (List Step)). is_new (add_steps name day steps c.args.today (is_some (p.tariffs name)) l)) there
    ∙ ap (λ (row : Row). is_new (row_decision p c.args.today row)) (sym c.in-Steps.is)

pub returns-in-Meter-clause-value : goal.returns-in-Meter-clause-value
returns-in-Meter-clause-value c = λ o found.
    let p = with_rows c.args.self.now.rows.items o in
    let number = c.in-Meter.number in
    let m = c.in-Meter.meter in
    let shown = subst (λ (row : Row). Shows o row (option_copied c.args.found)) c.in-Meter.is found in
    let there = c.meter_under.ensures o (c.meter_of.ensures ∙ shown.0) in
    c.is_new_meter.ensures.value number
    ∙ ap is_new (same_meter_decision number m c.meter_under.result (p.meters number) c.has_tariff-in-Meter.result (is_some (p.tariffs m.tariff)) there
    (λ none. c.has_tariff-in-Meter.ensures o (c.has_tariff_of.ensures
    ∙ shown.1 (or_none _ (o.meters number) (sym (c.args.self.now.meters_found o number) ∙ none)))))
    ∙ ap (λ (row : Row). is_new (row_decision p c.args.today row)) (sym c.in-Meter.is)
