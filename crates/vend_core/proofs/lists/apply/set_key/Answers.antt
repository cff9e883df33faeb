use Rattle.std.proofs.Common.{◌≡◌, ◌∙◌, ap, sym, subst, List, ℕ, Some, None}
use Rattle.vend_core.proofs.ListsLemmas.PlainRowLemmas.{have_tariffs-set, row_of-set, set_known, set_unknown}
use Rattle.office_rules.specs.Decision.Edits.{with_key}
use Rattle.vend_core.specs.Lists.PlainRows.{HaveTariffs, office_of_rows, row_of}
use Rattle.office_rules.specs.declared.office.meter.Meter.{Meter}
use Rattle.vend_core.proofs.lists.apply.set_key.Goals as goal

pub invariant_of-records : goal.invariant_of-records
invariant_of-records c =
    let now = c.args.records.now in
    let found : row_of now.meters.items c.args.number ≡ Some c.in-Some.meter =
    sym (c.meter_under.ensures ∙ ap (λ l. row_of l c.args.number) c.deref.ensures.value) ∙ c.in-Some.is in
    record {
      have_tariffs = subst (HaveTariffs now.tariffs.items) (sym c.put_meter.ensures)
          (have_tariffs-set c.args.number (λ _. with_key c.args.key c.in-Some.meter) now.tariffs.items now.meters.items
          (λ k at. now.have_tariffs c.args.number c.in-Some.meter found) now.have_tariffs);
      are_sales = now.are_sales;
    }

pub returns-in-Some : goal.returns-in-Some
returns-in-Some c =
    let now = c.args.records.now in
    let found : row_of now.meters.items c.args.number ≡ Some c.in-Some.meter =
    sym (c.meter_under.ensures ∙ ap (λ l. row_of l c.args.number) c.deref.ensures.value) ∙ c.in-Some.is in
    ap (λ (ms : List (List ℕ × Meter)). office_of_rows now.tariffs.items ms now.bases.items now.dated_steps.items now.shifts.items
    now.sales.items) c.put_meter.ensures
    ∙ (λ i. record (office_of_rows now.tariffs.items now.meters.items now.bases.items now.dated_steps.items now.shifts.items now.sales.items) {
      meters = λ (q : List ℕ).
          (row_of-set c.args.number (λ _. with_key c.args.key c.in-Some.meter) q now.meters.items
          ∙ set_known c.args.number (with_key c.args.key) c.in-Some.meter q now.meters.items found) i;
    })

pub returns-in-None : goal.returns-in-None
returns-in-None c =
    let now = c.args.records.now in
    let none : row_of now.meters.items c.args.number ≡ None =
    sym (c.meter_under.ensures ∙ ap (λ l. row_of l c.args.number) c.deref.ensures.value) ∙ c.in-None.is in
    λ i. record (office_of_rows now.tariffs.items now.meters.items now.bases.items now.dated_steps.items now.shifts.items now.sales.items) {
      meters = λ (q : List ℕ). set_unknown c.args.number (with_key c.args.key) q now.meters.items none i;
    }
