use Rattle.std.proofs.Common.{refl}
use Rattle.vend_core.specs.Law.LifeLaws.{opened}
use Rattle.vend_core.specs.Lists.{office_of, transform_of}
use Rattle.core_tests.proofs.laws.lived.opens.Goals as goal

pub returns : goal.returns
returns g c =
    let transform = transform_of c.args.lists.now in
    let forward = g.T.BlockTransform.forwards transform in
    let o = office_of c.args.lists.now in
    record {
      life = opened forward o;
      running = c.life_law.ensures.opens forward o (g.met.T.BlockTransform.forward_range transform);
      opening = refl;
      forward_is = refl;
    }
