use Rattle.std.proofs.Common.{arith}
use Rattle.one_table.proofs.AnswerLemmas.{read_more}
use Rattle.one_table.proofs.readers.values.Goals as goal

pub loop-row-preserved : goal.loop-row-preserved
loop-row-preserved g c =
    let more = read_more g.X.FromRow.reads_as c.args.rows.now c.loop-row.row-index c.loop-row.found.items c.row-item.result
    c.in_ok-from_row.field-0 (omega arith) c.row-item.is
    c.loop-row.invariant c.in_ok-from_row.ensures.ok in
    rw c.in_ok-push.ensures.items more
