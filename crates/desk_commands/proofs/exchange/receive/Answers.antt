use Rattle.std.proofs.Common.{◌++◌}
use Rattle.std.proofs.KnownBytes.{Consumes-trans}
use Rattle.desk_commands.proofs.exchange.receive.Goals as goal

pub returns-in-Err-clause-read : goal.returns-in-Err-clause-read
returns-in-Err-clause-read g c =
    let behind = c.in-Err.ensures.read in
    (c.loop.bytes.items ++ behind.0, Consumes-trans _ _ _ c.loop.bytes.items behind.0 c.loop.invariant.0 behind.1)
