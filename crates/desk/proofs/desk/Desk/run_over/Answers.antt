use Rattle.books.specs.Keeps.{seen}
use Rattle.desk.proofs.ServingLemmas.{converses}
use Rattle.desk.proofs.desk.Desk.run_over.Goals as goal

pub returns-clause-converses : goal.returns-clause-converses
returns-clause-converses g c =
    let ran = c.run.ensures in (
      ran.paced.0,
      ran.paced.1,
      converses seen (g.C.Clock.reads c.args.clock.now) (c.args.books.now, g.C.Clock.answers c.args.clock.now)
          (c.run.new.office, g.C.Clock.answers c.run.new.clock)
          (g.R.Read.remaining c.args.reader.now) (g.R.Read.remaining c.run.new.reader) (g.W.Write.contents c.args.writer.now)
          (g.W.Write.contents c.run.new.writer)
          ran.paced.0 c.run.result ran.run ran.paced.2 ran.paced.3,
    )
