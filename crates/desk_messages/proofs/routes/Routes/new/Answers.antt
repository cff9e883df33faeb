use Rattle.std.proofs.Common.{ap, arith, length}
use Rattle.desk_messages.proofs.RouteLemmas.{next_rows, whole_rows}
use Rattle.desk_messages.proofs.routes.Routes.new.Goals as goal

pub loop-kind-preserved : goal.loop-kind-preserved
loop-kind-preserved c =
    next_rows c.loop-kind.router c.insert.new.router c.all-kind-items.result.now c.loop-kind.kind-index _ c.all-kind-items.ensures
    c.loop-kind-test.true c.loop-kind.invariant c.in_ok-insert.ensures

pub invariant_of-result : goal.invariant_of-result
invariant_of-result c =
    record { is_table = whole_rows c.loop-kind.router c.loop-kind.kind-index (omega (arith, ap length c.all-kind-items.ensures)) c.loop-kind.invariant }
