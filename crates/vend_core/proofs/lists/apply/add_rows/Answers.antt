use Rattle.std.proofs.Common.{◌∙◌, ap, sym, subst, ◌++◌, List, ℕ, map}
use Rattle.sts_fields.specs.declared.base.Base.{Base}
use Rattle.tariff.specs.declared.step.Step.{Step}
use Rattle.vend_core.specs.Lists.PlainRows.{HaveTariffs, base_row, bases_of, meters_of, office_of_rows, tariffs_of}
use Rattle.office_rules.specs.declared.office.meter.Meter.{Meter}
use Rattle.vend_core.proofs.ListsLemmas.PlainRowLemmas.{have_tariffs-rows, office_with_rows}
use Rattle.vend_core.proofs.lists.apply.add_rows.Goals as goal

-- the new rows stand in front of those that were there
pub invariant_of-records-2-clause-have_tariffs : goal.invariant_of-records-2-clause-have_tariffs
invariant_of-records-2-clause-have_tariffs c =
    let now = c.args.records.now in
    let ts = c.in_ok-append.ensures.items ∙ ap (λ (l : List (List ℕ × List Step)). l ++ now.tariffs.items)
    (c.reserve.ensures.items ∙ c.in_ok-tariffs.ensures.0) in
    let ms = c.in_ok-append-3.ensures.items ∙ ap (λ (l : List (List ℕ × Meter)). l ++ now.meters.items)
    (c.reserve-3.ensures.items ∙ c.in_ok-tariffs.ensures.2) in
    subst (λ (l : List (List ℕ × List Step)). HaveTariffs l c.append-3.new.self.items) (sym ts)
    (subst (λ (l : List (List ℕ × Meter)). HaveTariffs (tariffs_of c.args.rows ++ now.tariffs.items) l) (sym ms)
    (have_tariffs-rows c.args.rows now.tariffs.items now.meters.items now.bases.items now.dated_steps.items now.shifts.items
    now.sales.items c.requires now.have_tariffs))

pub returns : goal.returns
returns c =
    let now = c.args.records.now in
    let ts = c.in_ok-append.ensures.items ∙ ap (λ (l : List (List ℕ × List Step)). l ++ now.tariffs.items)
    (c.reserve.ensures.items ∙ c.in_ok-tariffs.ensures.0) in
    let ds = c.in_ok-append-2.ensures.items ∙ ap (λ (l : List ((List ℕ × ℕ) × List Step)). l ++ now.dated_steps.items)
    (c.reserve-2.ensures.items ∙ c.in_ok-tariffs.ensures.1) in
    let ms = c.in_ok-append-3.ensures.items ∙ ap (λ (l : List (List ℕ × Meter)). l ++ now.meters.items)
    (c.reserve-3.ensures.items ∙ c.in_ok-tariffs.ensures.2) in
    let bs =
    c.in_ok-append-4.ensures.items
    ∙ ap (λ (l : List (List ℕ × Base)). l ++ now.bases.items)
    (c.reserve-4.ensures.items ∙ c.in_ok-bases.ensures ∙ ap (map base_row) (c.deref.ensures.value ∙ c.in_ok-tariffs.ensures.2)) in
    let all_ts = tariffs_of c.args.rows ++ now.tariffs.items in
    let all_ms = meters_of c.args.rows ++ now.meters.items in
    let all_bs = bases_of c.args.rows ++ now.bases.items in
    ap (λ (l : List (List ℕ × List Step)). office_of_rows l c.append-3.new.self.items c.append-4.new.self.items c.append-2.new.self.items
    now.shifts.items now.sales.items) ts
    ∙ ap (λ (l : List (List ℕ × Meter)). office_of_rows all_ts l c.append-4.new.self.items c.append-2.new.self.items now.shifts.items now.sales.items) ms
    ∙ ap (λ (l : List (List ℕ × Base)). office_of_rows all_ts all_ms l c.append-2.new.self.items now.shifts.items now.sales.items) bs
    ∙ ap (λ (l : List ((List ℕ × ℕ) × List Step)). office_of_rows all_ts all_ms all_bs l now.shifts.items now.sales.items) ds
    ∙ office_with_rows c.args.rows now.tariffs.items now.meters.items now.bases.items now.dated_steps.items now.shifts.items now.sales.items
