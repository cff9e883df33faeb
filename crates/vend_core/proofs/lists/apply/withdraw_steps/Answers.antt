use Rattle.std.proofs.Common.{ℕ, List, ◌∙◌, ap}
use Rattle.tariff.specs.declared.step.Step.{Step}
use Rattle.vend_core.proofs.ListsLemmas.PlainRowLemmas.{steps_from-without}
use Rattle.vend_core.specs.Lists.PlainRows.{office_of_rows}
use Rattle.vend_core.proofs.lists.apply.withdraw_steps.Goals as goal

pub returns : goal.returns
returns c =
    let now = c.args.records.now in
    ap (λ (ds : List ((List ℕ × ℕ) × List Step)). office_of_rows now.tariffs.items now.meters.items now.bases.items ds now.shifts.items
    now.sales.items) c.take_away.ensures
    ∙ (λ i. record (office_of_rows now.tariffs.items now.meters.items now.bases.items now.dated_steps.items now.shifts.items now.sales.items) {
      dated_steps = λ (q : List ℕ) (d : ℕ). steps_from-without c.args.name c.args.day q d now.dated_steps.items i;
    })
