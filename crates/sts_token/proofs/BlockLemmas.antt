-- Fields that are shifted and joined by `|` are their sum.
use Rattle.std.proofs.Common.{◌≡◌, ℕ, ◌+◌, ◌*◌, ◌%◌, ◌<◌, ◌^◌, bit_or, ◌∙◌, ap, arith}
use Rattle.std.proofs.lemmas.Nat.{or_shifted}

-- random bits, identifier and amount code, shifted and joined by `|`, are their sum
pub joined_payload : (rnd tid code : ℕ) → rnd < 2 ^ 4 → tid < 2 ^ 24 → code < 2 ^ 16
    → bit_or (bit_or (rnd * 2 ^ 40 % 2 ^ 64) (tid * 2 ^ 16 % 2 ^ 64)) code
    ≡ rnd * 2 ^ 40 + tid * 2 ^ 16 + code
joined_payload rnd tid code r t c =
    let rnd_fits : rnd * 2 ^ 40 % 2 ^ 64 ≡ rnd * 2 ^ 40 = omega arith in
    let tid_fits : tid * 2 ^ 16 % 2 ^ 64 ≡ tid * 2 ^ 16 = omega arith in
    let high : bit_or (rnd * 2 ^ 40) (tid * 2 ^ 16) ≡ rnd * 2 ^ 40 + tid * 2 ^ 16 =
    or_shifted rnd 40 (tid * 2 ^ 16) (omega arith) in
    let as_one : rnd * 2 ^ 40 + tid * 2 ^ 16 ≡ (rnd * 2 ^ 24 + tid) * 2 ^ 16 = omega arith in
    let all : bit_or ((rnd * 2 ^ 24 + tid) * 2 ^ 16) code ≡ (rnd * 2 ^ 24 + tid) * 2 ^ 16 + code =
    or_shifted (rnd * 2 ^ 24 + tid) 16 code c in
    ap (λ (n : ℕ). bit_or (bit_or n (tid * 2 ^ 16 % 2 ^ 64)) code) rnd_fits
    ∙ ap (λ (n : ℕ). bit_or (bit_or (rnd * 2 ^ 40) n) code) tid_fits
    ∙ ap (λ (n : ℕ). bit_or n code) (high ∙ as_one) ∙ all ∙ omega arith
