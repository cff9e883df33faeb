use Rattle.std.proofs.Common.{◌≤◌, length}
use Rattle.std.specs.Io.KnownBytes.{Consumes}
use Rattle.desk_commands.specs.Exchanged.{longest_reply}
use Rattle.desk_commands.proofs.exchange.receive.Given as goal

-- what came so far, which is no more than a reply may have
abbrev pub invariant-loop : goal.invariant-loop
invariant-loop g l =
    Consumes (g.S.Read.remaining l.fn.stream) (g.S.Read.remaining l.stream) l.bytes.items × (length l.bytes.items ≤ longest_reply)
