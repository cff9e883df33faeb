-- What is said of two moments, and what came of a doubt.
use Rattle.std.proofs.Common.{◌≡◌, ℕ, Bool, false, true, ◌++◌, None, Option, Some, IfSome, inl, inr, subst}
use Rattle.std.specs.Prelude.{MatchOption, codes}
use Rattle.std.specs.Io.KnownBytes.{Keeps}
use Rattle.sts_fields.specs.Text.{Text}
use Rattle.papers.specs.Text.{time_text}
use Rattle.vend_ports.specs.print.Sink.{Held}
use Rattle.vend_ports.specs.print.Told.{IsTaken}
use Rattle.terminal_advice.specs.Doubt.{Doubts, IsSaid, doubt_line, moments_line}
use Rattle.terminal_advice.specs.declared.doubt.Doubt.{Doubt}

-- what was taken of the line of two texts was taken of that of the moments that they write
pub doubt_taken : (failed : Bool) (old new : Held) (last now : ℕ) (first second : Text) → first ≡ time_text last ++ codes ","
    → second ≡ time_text now ++ codes "." → IsTaken false failed old new (moments_line first second)
    → IsTaken false failed old new (doubt_line last now)
doubt_taken failed old new last now first second earlier later taken =
    subst (λ (text : Text). IsTaken false failed old new (moments_line text (time_text now ++ codes "."))) earlier
    (subst (λ (text : Text). IsTaken false failed old new (moments_line first text)) later taken)

-- what was doubted was said, and nothing where nothing was
pub doubts_said : (Is : Doubt → Type 0) (doubt : Option Doubt) (old new : Held) → IfSome doubt Is
    → MatchOption doubt (Keeps old new) (λ it. IsSaid it old new) → Doubts true Is old new
doubts_said Is None old new is keeps = inl keeps
doubts_said Is (Some doubt) old new is said = inr (doubt, is, said)
