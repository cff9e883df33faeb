use Rattle.std.proofs.KnownBytes.{Keeps-refl}
use Rattle.terminal_advice.proofs.AdvisedLemmas.{adds_none}
use Rattle.terminal_advice.proofs.second_line.advise.Goals as goal

pub returns-in_default : goal.returns-in_default
returns-in_default g c = λ line kept.
    adds_none line c.args.last.now c.deref.result.now _ _ kept c.deref.ensures.0 c.in_default.ensures (Keeps-refl _)
