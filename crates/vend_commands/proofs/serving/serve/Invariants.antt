use Rattle.std.specs.Prelude.{ℤ}
use Rattle.command_line.specs.Transform.{forward_of}
use Rattle.vend_commands.specs.serving.Connections.{service}
use Rattle.vend_commands.specs.port.Machines.{way}
use Rattle.office_commands.specs.office.Visited.{seen_in}
use Rattle.vend_commands.proofs.ConnectionLemmas.{AreHeldTelling}
use Rattle.vend_commands.proofs.serving.serve.Given as goal

-- so many connections were served
abbrev pub invariant-loop-connection : goal.invariant-loop-connection
invariant-loop-connection g l =
    let D = g.D.Door in
    let H = g.H.OfficeFile in
    let C = g.C.Clock in
    let ways = way D g.D.Reader.Read.remaining g.D.Writer.Write.contents g.D.Line.Line.uses in
    AreHeldTelling ways (C.reads l.fn.clock) (forward_of l.words.transform) seen_in l._connection
    (service l.fn.door l.fn.books (C.answers l.fn.clock)) (service l.door l.books (C.answers l.clock))
    l.fn.err l.err
    × ((given : ℤ) → C.reads l.clock given → C.reads l.fn.clock given)
