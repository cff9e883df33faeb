use Rattle.std.proofs.Common.{◌≡◌}
use Rattle.std.specs.Io.KnownBytes.{Keeps}
use Rattle.desk_commands.proofs.exchange.read_behind.Given as goal

-- each read so far was interrupted
abbrev pub invariant-loop : goal.invariant-loop
invariant-loop g l =
    Keeps (g.S.Read.remaining l.fn.stream) (g.S.Read.remaining l.stream) × (l.bytes.items ≡ l.fn.bytes.items)
