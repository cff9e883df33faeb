use Rattle.std.proofs.Common.{◌≡◌, arith}
use Rattle.papers.specs.Text.{grouped}
use Rattle.papers.proofs.TextLemmas.{groups-more}
use Rattle.papers.proofs.room.grouped.Goals as goal

pub loop-group-preserved : goal.loop-group-preserved
loop-group-preserved c =
    let more = groups-more c.args.digits.now c.loop-group.group (omega arith) in
    grind arith

pub returns : goal.returns
unfolding grouped
returns c =
    let five : c.loop-group.group ≡ 5 = omega arith in
    rw five at c.loop-group.invariant.0
