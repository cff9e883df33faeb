-- A run whose last line was remembered, and what came behind that.
use Rattle.std.proofs.Common.{◌≡◌, true, false, sym, subst}
use Rattle.std.proofs.KnownBytes.{Keeps-refl}
use Rattle.std.specs.Io.KnownBytes.{Appends, Keeps}
use Rattle.terminal_advice.specs.Advised.{AddsForm, IsAdvised}
use Rattle.terminal_advice.specs.LastLine.{IsKept, Line, last_line}
use Rattle.terminal_advice.specs.Remembers.{Remembers}
use Rattle.terminal_advice.specs.declared.last_line.LastLine.{LastLine}
use Rattle.vend_ports.specs.print.Sink.{Held}

-- nothing did
pub advised_quiet : (begun old printed new : Held) (last : LastLine) → old ≡ begun → new ≡ printed → Remembers begun printed last
    → IsAdvised false old printed new
advised_quiet begun old printed new last first same it = record {
  text = it.text;
  came = subst (λ held. Appends held printed it.text) (sym first) it.came;
  adds = subst (λ held. Keeps printed held) (sym same) (Keeps-refl printed);
}

-- its advice did
pub advised_loud : (begun old printed after new : Held) (last : LastLine) → old ≡ begun → new ≡ after
    → ((line : Line) → IsKept line last → AddsForm line printed after) → Remembers begun printed last
    → IsAdvised true old printed new
advised_loud begun old printed after new last first same adds it = record {
  text = it.text;
  came = subst (λ held. Appends held printed it.text) (sym first) it.came;
  adds = subst (AddsForm (last_line it.text) printed) (sym same) (adds (last_line it.text) it.kept);
}
