use Rattle.std.proofs.Common.{◌≡◌, ℕ, ◌/◌, ◌%◌, bit_and, bit_xor, get_or, ap, ◌∙◌}
use Rattle.std.proofs.lemmas.Nat.{and_mask}
use Rattle.sts_token.specs.declared.check.TheConstants.{AFTER_FOUR}
use Rattle.sts_token.proofs.CheckLemmas.{nibble_steps}
use Rattle.sts_token.proofs.check.after_nibble.Goals as goal

pub returns : goal.returns
returns c =
    let check = c.args.check in
    let place : c.from-2.result ≡ bit_xor check c.args.nibble % 16 =
    c.from-2.ensures ∙ ap (λ (n : ℕ). bit_and (bit_xor check n) 15) c.from.ensures
    ∙ and_mask (bit_xor check c.args.nibble) 4 in
    ap (λ (i : ℕ). bit_xor (check / 16) (get_or AFTER_FOUR i 0)) place
    ∙ nibble_steps check c.args.nibble c.requires
