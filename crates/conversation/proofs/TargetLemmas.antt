-- Where an authority ends.
use Rattle.std.proofs.Common.{◌≡◌, ◌∙◌, ℕ, ◌-◌, ◌<◌, ◌≤◌, List, length, get_or, take, drop, true, false, sym, ap, arith}
use Rattle.std.specs.Prelude.{All}
use Rattle.std.specs.List.{position_or_len}
use Rattle.std.proofs.lemmas.List.{get_or-take, length-take-le, take_rest}
use Rattle.std.proofs.lemmas.List.Elements.{All-get_or}
use Rattle.std.proofs.lemmas.List.Sums.{position_or_len_is}
use Rattle.conversation.specs.message.Target.{behind_authority, ends_authority}

-- what stands behind the bytes of which none ends it
pub is_behind : (text : List ℕ) (at : ℕ) → at ≤ length text
    → All (λ byte. ends_authority byte ≡ false) (take at text)
    → (at < length text → ends_authority (get_or text at 0) ≡ true)
    → take (length text - at) (drop at text) ≡ behind_authority text
is_behind text at within before found =
    let place : position_or_len ends_authority text ≡ at =
    position_or_len_is ends_authority text at 0 within
    (λ k under. ap ends_authority (sym (get_or-take at text k 0 under))
    ∙ All-get_or (λ byte. ends_authority byte ≡ false) (take at text) k 0 (omega (arith, under, length-take-le at text within)) before)
    found in
    take_rest text at ∙ ap (λ n. drop n text) (sym place)
