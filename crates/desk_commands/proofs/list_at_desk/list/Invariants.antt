use Rattle.std.proofs.Common.{◌≡◌}
use Rattle.desk_commands.proofs.DeskListLemmas.{AskedSoFar}
use Rattle.desk_commands.proofs.list_at_desk.list.Given as goal

-- the pages before this one were asked for and printed, and nothing on the error output
abbrev pub invariant-loop-page : goal.invariant-loop-page
invariant-loop-page g l =
    AskedSoFar g.L.Loopback g.L.Stream.Read.remaining g.L.Stream.Write.contents l.fn.loopback l.fn.desk l.fn.list l.fn.json l.fn.out
    l.stream l.out l.next l.page
    × (l.err ≡ l.fn.err)
