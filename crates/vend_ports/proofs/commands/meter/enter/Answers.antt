use Rattle.std.proofs.Common.{◌∷◌, [], ◌++◌, subst, sym, ◌∙◌, ap}
use Rattle.sts_token.specs.Meter.{entered}
use Rattle.sim_meter.specs.Meter.{ComesFrom}
use Rattle.vend_ports.proofs.MeteringLemmas.{no_clearing}
use Rattle.vend_ports.proofs.commands.meter.enter.Goals as goal

pub returns-in_default-clause-entered : goal.returns-in_default-clause-entered
returns-in_default-clause-entered g c reader history from =
    let is = ap entered c.as_bytes.ensures.value ∙ sym (no_clearing c.args.word.now c.in_default.not-clear) in
    subst (λ entry. ComesFrom g.T.BlockTransform.inverses reader (history ++ entry ∷ []) c.enter.new.self) is (c.enter.ensures.entered reader history from)
