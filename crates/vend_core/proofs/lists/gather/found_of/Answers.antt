use Rattle.std.proofs.Common.{[], List, sym, subst}
use Rattle.std.proofs.lemmas.List.{append-nil, drop_all}
use Rattle.office_rules.specs.Decision.Facts.{AreRowsFacts}
use Rattle.vend_core.specs.Lists.{recorded}
use Rattle.office_rules.specs.declared.office.row.Row.{Row}
use Rattle.office_rules.specs.declared.decision.row_facts.RowFacts.{RowFacts}
use Rattle.vend_core.proofs.lists.gather.found_of.Goals as goal

pub returns : goal.returns
returns c = λ today.
    let o = recorded c.args.records.now in
    subst (λ (fs : List RowFacts). AreRowsFacts o today c.args.rows.now fs) (append-nil c.loop-row.found.items)
    (c.loop-row.invariant today [] (subst (λ (rest : List Row). AreRowsFacts o today rest [])
    (sym (drop_all c.loop-row.row-index c.args.rows.now c.loop-row-test.false)) tt))
