-- What comes behind a last line, by what is kept of that.
use Rattle.std.proofs.Common.{◌≡◌, ◌∙◌, true, false, inl, inr, sym, subst}
use Rattle.std.specs.Io.KnownBytes.{Keeps}
use Rattle.sts_fields.specs.Text.{Text}
use Rattle.terminal_advice.specs.Advised.{AddsForm, IsFormOf, IsPut, LineHasAdvice}
use Rattle.terminal_advice.specs.LastLine.{IsKept, Line}
use Rattle.terminal_advice.specs.Lines.{HasAdvice}
use Rattle.terminal_advice.specs.declared.advice.Advice.{Advice}
use Rattle.terminal_advice.specs.declared.last_line.LastLine.{LastLine}
use Rattle.vend_ports.specs.print.Sink.{Held}

-- a line without its end has no advice
unended : (line : Line) (last : LastLine) → IsKept line last → last.ended ≡ false → (general : Advice) → ¬ LineHasAdvice line general
unended line last kept ended general (whole, has) = cc (kept.ended, ended, whole)

-- so nothing comes behind it
pub adds_unended : (line : Line) (last : LastLine) (old new : Held) → IsKept line last → last.ended ≡ false → Keeps old new
    → AddsForm line old new
adds_unended line last old new kept ended keeps = inr (unended line last kept ended, keeps)

-- a line that has its end, and no advice
pub adds_none : (line : Line) (last : LastLine) (bytes : Text) (old new : Held) → IsKept line last → bytes ≡ last.bytes.items
    → ((general : Advice) → ¬ HasAdvice bytes general) → Keeps old new → AddsForm line old new
adds_none line last bytes old new kept is none keeps =
    inr ((λ general has. none general (subst (λ text. HasAdvice text general) (sym (is ∙ kept.bytes)) has.1)), keeps)

-- a line that has both
pub adds_some : (line : Line) (last : LastLine) (old new : Held) (general advice : Advice) → IsKept line last → last.ended ≡ true
    → HasAdvice last.bytes.items general → IsFormOf advice general → IsPut advice old new → AddsForm line old new
adds_some line last old new general advice kept ended has form put =
    inl (general, advice, (sym kept.ended ∙ ended, subst (λ bytes. HasAdvice bytes general) kept.bytes has), form, put)
