use Rattle.std.proofs.Common.{◌≡◌, ◌≢◌, List, Option, None, refl}
use Rattle.asks.specs.Parts.{told_ask}
use Rattle.asks.specs.declared.ask.Ask.{Ask}
use Rattle.asks.specs.declared.kind.AskKind.{AskKind}
use Rattle.asks.specs.declared.kind.AskKind.TheVariants as kinds
use Rattle.asks.specs.declared.value.Value.{Value}
use Rattle.asks.proofs.parts.told_ask.Goals as goal

-- the kinds that have values in their bodies alone have such asks
none : (kind : AskKind) (target body : List Value) → kind ≢ kinds.AddMeter → kind ≢ kinds.Sell → kind ≢ kinds.SetTariff → kind ≢ kinds.MoveBase
    → kind ≢ kinds.SetKey → kind ≢ kinds.OpenShift → kind ≢ kinds.CloseShift → None ≡ told_ask kind target body
none kinds.AddMeter target body a b c d e f g = absurd (a refl)
none kinds.Sell target body a b c d e f g = absurd (b refl)
none kinds.SetTariff target body a b c d e f g = absurd (c refl)
none kinds.MoveBase target body a b c d e f g = absurd (d refl)
none kinds.SetKey target body a b c d e f g = absurd (e refl)
none kinds.OpenShift target body a b c d e f g = absurd (f refl)
none kinds.CloseShift target body a b c d e f g = absurd (g refl)
none kind target body a b c d e f g = refl

pub returns-in_default-clause-ask : goal.returns-in_default-clause-ask
returns-in_default-clause-ask c = none c.args.kind c.args.target.now c.args.body.now c.in_default.not-AddMeter c.in_default.not-Sell
    c.in_default.not-SetTariff c.in_default.not-MoveBase c.in_default.not-SetKey c.in_default.not-OpenShift c.in_default.not-CloseShift
