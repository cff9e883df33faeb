use Rattle.std.proofs.Common.{refl}
use Rattle.vend_core.specs.Law.LifeLaws.{opened}
use Rattle.office_rules.specs.Office.{empty_office}
use Rattle.vend_commands.proofs.selfcheck.prepared.prepare.Goals as goal

pub returns-in-Ok-ready-clause-prepared : goal.returns-in-Ok-ready-clause-prepared
returns-in-Ok-ready-clause-prepared g c = c.in-Ok-ready.ensures.granted
    (opened (g.T.BlockTransform.forwards c.args.transform) empty_office) (c.in-Ok.ensures.opened.opens empty_office refl)
