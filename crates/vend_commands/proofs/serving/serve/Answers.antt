use Rattle.std.proofs.Common.{[], append-nil, arith, refl, subst}
use Rattle.command_line.specs.Transform.{forward_of}
use Rattle.vend_commands.specs.serving.Connections.{service}
use Rattle.vend_commands.specs.port.Machines.{way}
use Rattle.office_commands.specs.office.Visited.{seen_in}
use Rattle.vend_ports.specs.print.Told.{Takes}
use Rattle.vend_commands.proofs.ConnectionLemmas.{all_held, ended_as, one_more}
use Rattle.vend_ports.proofs.TakeLemmas.{takes_next, takes_none}
use Rattle.vend_commands.proofs.serving.serve.Goals as goal

pub loop-connection-init : goal.loop-connection-init
loop-connection-init g c = (([], (refl, refl), takes_none _), λ given gives. gives)

pub loop-connection-preserved : goal.loop-connection-preserved
loop-connection-preserved g c =
    let D = g.D.Door in
    let H = g.H.OfficeFile in
    let C = g.C.Clock in
    let ways = way D g.D.Reader.Read.remaining g.D.Writer.Write.contents g.D.Line.Line.uses in
    let before = c.loop-connection in
    let one = one_more ways (C.reads c.args.clock.now) (forward_of c.args.words.now.transform) seen_in (C.reads before.clock) before._connection
    (service c.args.door.now c.args.books (C.answers c.args.clock.now)) (service before.door before.books (C.answers before.clock))
    (service c.hold.new.door c.hold.new.books (C.answers c.hold.new.clock)) c.in-Ok.books _ _ _ _ before.invariant.1 before.invariant.0
    c.in-Ok.ensures.ready c.if-not-hold.ensures.held
    c.in-Ok.ensures.told (ended_as _ _ _ _ (seen_in c.hold.new.books) c.write_failed-had_failed.ensures c.tell_end.ensures) in
    (one, λ given gives. before.invariant.1 given (c.if-not-hold.ensures.stays given gives))

pub returns-in-Err : goal.returns-in-Err
returns-in-Err g c =
    let held = c.loop-connection.invariant.0 in (
      held.0,
      record {
        count = c.loop-connection._connection;
        fewer = c.loop-connection-test.true;
        last = service c.loop-connection.door c.loop-connection.books (g.C.Clock.answers c.loop-connection.clock);
        held = held.1;
        lost = c.in-Err.ensures.ready;
        door = refl;
        answers = refl;
      },
      subst (Takes _ _) (append-nil held.0) (takes_next _ _ _ held.0 [] held.2 c.in-Err.ensures.told),
    )

pub returns-then-not-hold : goal.returns-then-not-hold
returns-then-not-hold g c =
    let held = c.loop-connection.invariant.0 in (
      _,
      record {
        count = c.loop-connection._connection;
        fewer = c.loop-connection-test.true;
        last = service c.loop-connection.door c.loop-connection.books (g.C.Clock.answers c.loop-connection.clock);
        before = held.0;
        held = held.1;
        ready = c.in-Ok.books;
        are_ready = c.in-Ok.ensures.ready;
        unheld = c.if-not-hold.ensures.held;
        printed_is = refl;
      },
      takes_next _ _ _ held.0 _ held.2 c.in-Ok.ensures.told,
    )

pub returns : goal.returns
returns g c =
    let D = g.D.Door in
    let H = g.H.OfficeFile in
    let C = g.C.Clock in
    let ways = way D g.D.Reader.Read.remaining g.D.Writer.Write.contents g.D.Line.Line.uses in
    let last = c.loop-connection in
    all_held ways (C.reads c.args.clock.now) (forward_of c.args.words.now.transform) seen_in last._connection c.args.words.now.connections
    (service c.args.door.now c.args.books (C.answers c.args.clock.now)) (service last.door last.books (C.answers last.clock)) _ _ last.invariant.0 (omega arith)
