-- Digits that read as a token are of class 0.
use Rattle.std.proofs.Common.{◌≢◌, ◌<◌, ◌≤◌, ◌^◌, ℕ, List, inl, inr}
use Rattle.std.proofs.lemmas.Bool.{cases_eq, cases_lt}
use Rattle.sts_token.specs.Reading.{IsOfClassZero, class_of, number_in}
use Rattle.sts_token.specs.Token.{AreTwentyDigits}

-- twenty digits that are neither too large nor of another class
pub class_zero_where : (text : List ℕ) → AreTwentyDigits text → ¬ (AreTwentyDigits text × (2 ^ 66 ≤ number_in text))
    → ¬ (AreTwentyDigits text × (number_in text < 2 ^ 66) × (class_of (number_in text) ≢ 0)) → IsOfClassZero text
class_zero_where text digits fits class = elim (cases_lt (number_in text) (2 ^ 66)) [
  | inl within ↦ elim (cases_eq (class_of (number_in text)) 0) [
    | inl is ↦ record { digits = digits; within = within; class_zero = is }
    | inr other ↦ absurd (class (digits, within, other))
  ]
  | inr large ↦ absurd (fits (digits, large))
]
