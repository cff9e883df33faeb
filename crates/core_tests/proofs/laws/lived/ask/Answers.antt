use Rattle.std.proofs.Common.{ap}
use Rattle.vend_core.specs.Lists.{office_of, transform_of}
use Rattle.core_tests.proofs.LivedLemmas.{lives_on}
use Rattle.core_tests.proofs.laws.lived.ask.Goals as goal

pub returns-clause-replied : goal.returns-clause-replied
returns-clause-replied g c = λ start lived.
    let forwards = g.T.BlockTransform.forwards in
    let law = c.life_law.ensures in
    lives_on (record { served = law.served; no_memory = law.no_memory; replied = law.replied })
    (forwards (transform_of c.args.lists.now)) start (office_of c.args.lists.now)
    (office_of c.serve.new.self) c.args.at.now c.serve.result c.keeps_ranges.ensures lived
    (forwards (transform_of c.serve.new.self)) (ap forwards c.serve.ensures.transform)
    c.serve.ensures.served
