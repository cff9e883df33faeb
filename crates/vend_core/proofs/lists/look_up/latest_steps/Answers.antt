use Rattle.std.proofs.Common.{◌≡◌, ◌∙◌, ap, sym, arith, None}
use Rattle.std.specs.Option.{option_copied}
use Rattle.office_rules.specs.Office.Lookup.{latest}
use Rattle.vend_core.specs.Lists.PlainRows.{steps_from}
use Rattle.vend_core.proofs.ListsLemmas.LookUpLemmas.{latest-before, latest-first, latest-here}
use Rattle.vend_core.proofs.lists.look_up.latest_steps.Goals as goal

pub loop-first-init : goal.loop-first-init
loop-first-init c = ap (latest (steps_from c.args.rows.now c.args.name.now)) (sym c.days-first.ensures.value)

pub loop-first-preserved : goal.loop-first-preserved
loop-first-preserved c =
    let dated = steps_from c.args.rows.now c.args.name.now in
    let none : dated c.loop-first.first ≡ None = sym c.steps_from.ensures ∙ ap option_copied c.in-None.is in
    c.loop-first.invariant ∙ latest-before dated c.loop-first.first _ (omega arith) none

pub returns-in-Some : goal.returns-in-Some
returns-in-Some c =
    let dated = steps_from c.args.rows.now c.args.name.now in
    let found = sym c.steps_from.ensures ∙ ap option_copied c.in-Some.is in
    ap option_copied (sym c.in-Some.is) ∙ c.steps_from.ensures ∙ found ∙ sym (c.loop-first.invariant ∙ latest-here dated c.loop-first.first _ found)

pub returns : goal.returns
returns c =
    let dated = steps_from c.args.rows.now c.args.name.now in
    c.steps_from-2.ensures ∙ sym (c.loop-first.invariant ∙ latest-first dated c.loop-first.first (omega arith))
