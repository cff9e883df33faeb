use Rattle.std.proofs.Common.{subst}
use Rattle.vend_core.specs.Lists.{office_of, transform_of}
use Rattle.core_tests.specs.Lived.{HasHanded}
use Rattle.core_tests.proofs.laws.lived.handed.Goals as goal

pub returns-in-Some-clause-handed : goal.returns-in-Some-clause-handed
returns-in-Some-clause-handed g c = λ start lived.
    let forward = g.T.BlockTransform.forwards (transform_of c.ask-reply.new.lists) in
    let o = office_of c.ask-reply.new.lists in
    subst (HasHanded start forward o) c.in-Some.ensures
    (c.ask-reply.ensures.replied start lived)
