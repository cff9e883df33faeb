use Rattle.books.specs.Keeps.{seen}
use Rattle.vend_commands.proofs.SelfcheckLemmas.{granted, refused_so}
use Rattle.vend_commands.proofs.selfcheck.prepared.grant.Goals as goal
use Rattle.vend_commands.proofs.selfcheck.prepared.grant.Goals.{in-Ok, in-Err}

pub returns-clause-granted : goal.returns-clause-granted
returns-clause-granted g c =
    let see = seen {g = g.S.Store} {h = g.T.BlockTransform} in
    elim c.match-ask.branch [
      | in-Ok w ↦ rw w.result-is (granted c.ask.result w.in-Ok.field-0 c.clock_moment.result c.args.request (see c.args.books.now)
          (see c.ask.new.self) w.in-Ok.is c.clock_moment.ensures c.ask.ensures.says)
      | in-Err w ↦ rw w.result-is tt
    ]

pub returns-clause-refused : goal.returns-clause-refused
returns-clause-refused g c =
    let see = seen {g = g.S.Store} {h = g.T.BlockTransform} in
    elim c.match-ask.branch [
      | in-Ok w ↦ rw w.result-is tt
      | in-Err w ↦ rw w.result-is (refused_so c.ask.result w.in-Err.refusal c.clock_moment.result c.args.request (see c.args.books.now)
          (see c.ask.new.self) w.in-Err.is c.clock_moment.ensures c.ask.ensures.says)
    ]
