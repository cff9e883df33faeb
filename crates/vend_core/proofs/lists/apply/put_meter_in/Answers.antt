use Rattle.std.proofs.Common.{◌∙◌, ap, arith, set, sym}
use Rattle.std.proofs.lemmas.List.Edits.{map_over_more}
use Rattle.vend_core.specs.Lists.PlainRows.{row_put}
use Rattle.vend_core.proofs.lists.apply.put_meter_in.Goals as goal

pub loop-row-preserved : goal.loop-row-preserved
loop-row-preserved c =
    let f = row_put c.args.number c.args.meter in
    ap (set c.loop-row.meters c.loop-row.row-index) (c.row_put.ensures ∙ ap f (sym c.row-item.is))
    ∙ map_over_more f c.args.meters.now c.loop-row.meters c.loop-row.row-index c.row-item.result (omega arith) c.loop-row.invariant c.row-item.is
