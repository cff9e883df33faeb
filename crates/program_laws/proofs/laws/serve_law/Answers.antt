use Rattle.vend_commands.specs.port.Machines.{way}
use Rattle.office_commands.specs.office.Visited.{seen_in}
use Rattle.program_laws.proofs.CourseLemmas.{live_on}
use Rattle.program_laws.proofs.laws.serve_law.Goals as goal

pub returns : goal.returns
returns g c = λ first clock forward count old new printed start held clean last.
    let D = g.D.Door in
    live_on (way D g.D.Reader.Read.remaining g.D.Writer.Write.contents g.D.Line.Line.uses) (g.C.Clock.reads clock) forward seen_in
    (c.lives_law.ensures.goes_on first) count old new printed held clean start last
