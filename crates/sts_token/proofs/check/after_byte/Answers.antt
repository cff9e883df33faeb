use Rattle.std.proofs.Common.{ℕ, ◌/◌, take, ap, ◌∙◌}
use Rattle.std.specs.List.{fold}
use Rattle.std.proofs.lemmas.Nat.{and_mask}
use Rattle.sts_token.specs.Check.{bits_of, check_step}
use Rattle.sts_token.proofs.CheckLemmas.{byte_steps}
use Rattle.sts_token.proofs.check.after_byte.Goals as goal

pub returns : goal.returns
returns c =
    let check = c.args.check in
    let byte = c.args.byte in
    c.after_nibble.ensures
    ∙ ap (λ (n : ℕ). fold check_step n (take 4 (bits_of (byte / 16))))
    (c.after_nibble-low.ensures
    ∙ ap (λ (n : ℕ). fold check_step check (take 4 (bits_of n))) (and_mask byte 4))
    ∙ byte_steps check byte
