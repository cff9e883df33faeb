use Rattle.std.proofs.Common.{◌+◌, subst, sym, ap, ◌∙◌}
use Rattle.audit_rows.specs.declared.finding.Rule.TheVariants as rule
use Rattle.audit_lists.specs.Keys.{IsNew, Key}
use Rattle.audit_lists.specs.Steps.{AreSteps}
use Rattle.audit_lists.specs.Ties.{Each, IsFirst, Says, listed, once}
use Rattle.audit_lists.specs.reached.Prices.{AreLists, HaveLists}
use Rattle.audit_lists.proofs.EachLemmas.{row_at}
use Rattle.audit_lists.proofs.ReachedLemmas.FaultLemmas.{says_weaker, told_on}
use Rattle.audit_lists.proofs.ReachedLemmas.ListedLemmas.{lists_more, lists_same}
use Rattle.audit_lists.proofs.reached.listed.lists_of.Goals.{then-of-eq0+in_ok-list+in_ok-add_list, else-of-eq0}
use Rattle.audit_lists.proofs.reached.listed.lists_of.Goals as goal

pub returns-in_err-places-clause-found : goal.returns-in_err-places-clause-found
returns-in_err-places-clause-found g c =
    let key = g.K.KeyOf.key in
    let rows = c.args.rows.now in
    told_on (Says (λ _. ¬ HaveLists g.T.HasStep.step key rows)) c.from_residual.result c.in_err-places.field-0.0 c.from_residual.ensures.1
    (says_weaker (IsFirst (once (listed g.T.Named.name g.T.Named.key rows) rule.Twice key)) (λ _. ¬ HaveLists g.T.HasStep.step key rows)
    c.in_err-places.field-0.0
    (λ f first has. first.2.breaks (has.once first.0 first.1 first.2.there)) c.in_err-places.ensures.found)

pub returns-in_err-list-clause-found : goal.returns-in_err-list-clause-found
returns-in_err-list-clause-found g c =
    let step = g.T.HasStep.step in
    let key = g.K.KeyOf.key in
    let rows = c.args.rows.now in
    let row = c.index-rows-at.result in
    told_on (Says (λ _. ¬ HaveLists step key rows)) c.from_residual-in_err-list.result c.in_err-list.field-0.0 c.from_residual-in_err-list.ensures.1
    (says_weaker (λ _. Each (IsNew key rows) rows → ¬ AreSteps step key rows (key row)) (λ _. ¬ HaveLists step key rows) c.in_err-list.field-0.0
    (λ f none has. none has.once (has.steps c.rows.at row (row_at rows c.rows.at row c.rows-test.true c.index-rows-at.is)
    (ap (λ (k : Key). k.3) (sym c.of.ensures) ∙ c.if-of-eq0.true))) c.in_err-list.ensures.found)

pub rows-preserved : goal.rows-preserved
rows-preserved g c =
    let step = g.T.HasStep.step in
    let key = g.K.KeyOf.key in
    let rows = c.args.rows.now in
    let row = c.index-rows-at.result in
    let there = row_at rows c.rows.at row c.rows-test.true c.index-rows-at.is in
    elim c.if-of-eq0.branch [
      | then-of-eq0+in_ok-list+in_ok-add_list w ↦
          let list = w.in_ok-list.ensures.lists (ap (λ (k : Key). k.3) (sym c.of.ensures) ∙ w.if-of-eq0.true) in
          rw w.listed-is (subst (AreLists step key rows (c.rows.at + 1)) (sym w.in_ok-add_list.ensures)
          (lists_more step key rows c.rows.at row there c.rows.listed.items c.rows.invariant w.in_ok-list.list list))
      | else-of-eq0 w ↦
          rw w.listed-is (lists_same step key rows c.rows.at row there c.rows.listed.items c.rows.invariant
          (λ zero. w.if-of-eq0.false (ap (λ (k : Key). k.3) c.of.ensures ∙ zero)))
    ]
