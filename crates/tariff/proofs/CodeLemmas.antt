-- The amounts of the codes, as far as purchases need them, by the law of amounts.
use Rattle.std.proofs.Common.{◌≡◌, ℕ, ◌^◌, ◌<◌, ◌≤◌, inl, inr, arith}
use Rattle.std.proofs.lemmas.Bool.{cases_lt}
use Rattle.sts_fields.specs.Amount.{IsCode, IsRepresentable, amount_of_code, code_of, greatest_amount}

-- what `amount_law` says of codes
pub record AmountLaw : Type 0 where
  pub each_code : (c : ℕ) → c < 2 ^ 16 → IsCode (amount_of_code c) c
  pub each_amount : (t : ℕ) → IsRepresentable t → IsCode t (code_of t)
  pub one_amount : (t u c : ℕ) → IsCode t c → IsCode u c → t ≡ u
  pub sixteen_bits : (t c : ℕ) → IsCode t c → c < 2 ^ 16
  pub greatest : (t : ℕ) → IsRepresentable t → t ≤ greatest_amount
  pub rises : (c d : ℕ) → c < d → d < 2 ^ 16 → amount_of_code c < amount_of_code d

module _ (law : AmountLaw) where
  -- a code that is no less has an amount that is no less
  pub amount_of_code-rises : (c d : ℕ) → c ≤ d → d < 2 ^ 16 → amount_of_code c ≤ amount_of_code d
  amount_of_code-rises c d le fits = elim (cases_lt c d) [
    | inl less ↦ omega (arith, law.rises c d less fits)
    | inr most ↦ let same : c ≡ d = omega arith in rw same (omega arith)
  ]

  -- a token can carry the amount of each code of sixteen bits
  pub amount_of_code-representable : (c : ℕ) → c < 2 ^ 16 → IsRepresentable (amount_of_code c)
  amount_of_code-representable c fits = let is = law.each_code c fits in (is.0, is.1, is.2)

  -- a code other than 0 is at least a tenth
  pub amount_of_code-some : (c : ℕ) → 1 ≤ c → c < 2 ^ 16 → 1 ≤ amount_of_code c
  amount_of_code-some c some fits = amount_of_code-rises 1 c some fits

  -- each amount that a token can carry has a code
  pub code_from_representable : (t : ℕ) → IsRepresentable t
      → (c : ℕ) × (c < 2 ^ 16) × (amount_of_code c ≡ t)
  code_from_representable t carried =
      let is = law.each_amount t carried in
      let fits = law.sixteen_bits t (code_of t) is in
      (code_of t, fits, law.one_amount _ t (code_of t) (law.each_code (code_of t) fits) is)
