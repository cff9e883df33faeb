use Rattle.std.proofs.Common.{refl, subst}
use Rattle.office_rules.specs.Office.{empty_office}
use Rattle.vend_core.specs.Law.LifeLaws.{opened}
use Rattle.vend_core.specs.Lists.{IsServed, office_of, transform_of}
use Rattle.core_tests.specs.Lived.{IsLived}
use Rattle.core_tests.proofs.LivedLemmas.{runs_on}
use Rattle.core_tests.proofs.laws.lives.asked_once.Goals as goal

pub returns : goal.returns
returns g c =
    let law = c.life_law.ensures in
    let transform = transform_of c.new-lists.result in
    let forward = g.T.BlockTransform.forwards c.args.transform in
    let lived : IsLived empty_office forward empty_office = record {
      life = opened forward empty_office;
      running = law.opens forward empty_office (g.met.T.BlockTransform.forward_range c.args.transform);
      opening = refl;
      forward_is = refl;
    } in
    let served = subst (λ o. IsServed forward o c.args.at.now c.serve-reply.result (office_of c.serve-reply.new.self)) c.new-lists.ensures.office
    (subst (λ t. IsServed (g.T.BlockTransform.forwards t) (office_of c.new-lists.result) c.args.at.now c.serve-reply.result (office_of c.serve-reply.new.self))
    c.new-lists.ensures.transform c.serve-reply.ensures.served) in
    (runs_on (record { served = law.served; no_memory = law.no_memory; replied = law.replied }) forward empty_office empty_office
    (office_of c.serve-reply.new.self) c.args.at.now c.serve-reply.result c.keeps_ranges.ensures lived served).present
