-- The lines of refusals of no row.
use Rattle.std.proofs.Common.{◌≡◌, ◌≢◌, ◌∙◌, Bool, true, false, true≢false, [], ◌∷◌, ◌++◌, codes, refl, sym, ap}
use Rattle.std.specs.Prelude.{MatchBool, decimal}
use Rattle.std.specs.Bool.{Decides}
use Rattle.std.proofs.lemmas.List.{append_cancel_left, append_cancel_right}
use Rattle.sts_fields.specs.Text.{Text}
use Rattle.office_rules.specs.Decision.Refusals.{IsOfNoRow, refusal_name, refusal_number}
use Rattle.office_rules.specs.declared.decision.refusal.Refusal.{Refusal}
use Rattle.office_rules.specs.declared.decision.refusal.Refusal.TheVariants.{ImportRow}
use Rattle.vend_ports.specs.print.Printed.{refusal_line}
use Rattle.terminal_advice.specs.Lines.{IsLineOf}

-- what is printed for such a refusal behind the first word, up to the end of the line
abbrev numbered : Refusal → Text
numbered refusal = decimal (refusal_number refusal) ++ 32 ∷ refusal_name refusal

line_ends : (refusal : Refusal) → IsOfNoRow refusal → refusal_line refusal ≡ (codes "refused " ++ numbered refusal) ++ 10 ∷ []
line_ends (ImportRow row cause) plain = absurd (plain row cause refl)
line_ends refusal plain = refl

-- so a line of its has that behind the word
behind_word : (refusal : Refusal) (line rest : Text) → line ≡ codes "refused " ++ rest → IsLineOf refusal line → rest ≡ numbered refusal
behind_word refusal line rest begins is =
    append_cancel_left (codes "refused ") rest (numbered refusal)
    (sym begins ∙ append_cancel_right line (codes "refused " ++ numbered refusal) (10 ∷ []) (is.1 ∙ line_ends refusal is.0))

-- a line whose number is another one is not the refusal's
pub other_number : (refusal : Refusal) (line rest digits : Text) → line ≡ codes "refused " ++ rest → digits ≡ decimal (refusal_number refusal)
    → ((behind : Text) → rest ≢ digits ++ behind) → ¬ IsLineOf refusal line
other_number refusal line rest digits begins number none is =
    none (32 ∷ refusal_name refusal) (behind_word refusal line rest begins is ∙ ap (λ text. text ++ 32 ∷ refusal_name refusal) (sym number))

-- nor is one that has no space behind it
pub no_space : (refusal : Refusal) (line rest digits behind : Text) → line ≡ codes "refused " ++ rest → digits ≡ decimal (refusal_number refusal)
    → rest ≡ digits ++ behind → ((name : Text) → behind ≢ 32 ∷ name) → ¬ IsLineOf refusal line
no_space refusal line rest digits behind begins number splits none is =
    none (refusal_name refusal) (append_cancel_left digits behind (32 ∷ refusal_name refusal)
    (sym splits ∙ (behind_word refusal line rest begins is ∙ ap (λ text. text ++ 32 ∷ refusal_name refusal) (sym number))))

-- of a line that has both the name decides
pub name_decides : (refusal : Refusal) (line rest digits name own : Text) (same : Bool) → IsOfNoRow refusal → line ≡ codes "refused " ++ rest
    → digits ≡ decimal (refusal_number refusal) → rest ≡ digits ++ 32 ∷ name → own ≡ refusal_name refusal → Decides same (name ≡ own)
    → MatchBool same (IsLineOf refusal line) (¬ IsLineOf refusal line)
name_decides refusal line rest digits name own true plain begins number splits named decides =
    let whole : rest ≡ numbered refusal =
    splits ∙ (ap (λ text. text ++ 32 ∷ name) number ∙ ap (λ text. decimal (refusal_number refusal) ++ 32 ∷ text) (decides.0 refl ∙ named)) in
    (plain, ap (λ text. text ++ 10 ∷ []) (begins ∙ ap (λ text. codes "refused " ++ text) whole) ∙ sym (line_ends refusal plain))
name_decides refusal line rest digits name own false plain begins number splits named decides = λ is.
    let behind : 32 ∷ name ≡ 32 ∷ refusal_name refusal =
    append_cancel_left digits (32 ∷ name) (32 ∷ refusal_name refusal)
    (sym splits ∙ (behind_word refusal line rest begins is ∙ ap (λ text. text ++ 32 ∷ refusal_name refusal) (sym number))) in
    true≢false (sym (decides.1 (append_cancel_left (32 ∷ []) name (refusal_name refusal) behind ∙ sym named)))
