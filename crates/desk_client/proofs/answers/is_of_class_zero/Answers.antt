use Rattle.std.proofs.Common.{◌≢◌, ◌<◌, ◌≤◌, ◌^◌, ℕ, List, inl, inr, refl}
use Rattle.std.proofs.lemmas.Bool.{cases_eq, cases_lt}
use Rattle.sts_token.specs.Reading.{IsOfClassZero, class_of, number_in}
use Rattle.sts_token.specs.Token.{AreTwentyDigits}
use Rattle.desk_client.proofs.answers.is_of_class_zero.Goals as goal

-- twenty digits that are neither too large nor of another class
class_zero_where : (text : List ℕ) → AreTwentyDigits text → ¬ (AreTwentyDigits text × (2 ^ 66 ≤ number_in text))
    → ¬ (AreTwentyDigits text × (number_in text < 2 ^ 66) × (class_of (number_in text) ≢ 0)) → IsOfClassZero text
class_zero_where text digits fits class = elim (cases_lt (number_in text) (2 ^ 66)) [
  | inl within ↦ elim (cases_eq (class_of (number_in text)) 0) [
    | inl is ↦ record { digits = digits; within = within; class_zero = is }
    | inr other ↦ absurd (class (digits, within, other))
  ]
  | inr large ↦ absurd (fits (digits, large))
]

pub returns-in-Ok : goal.returns-in-Ok
returns-in-Ok c =
    let large = c.in-Ok.ensures.too_large in
    let class = c.in-Ok.ensures.wrong_class in
    (λ _. class_zero_where c.args.digits.now c.in-Ok.ensures.reading.1.digits (λ h. let e = large.1 h in cc) (λ h. let e = class.1 h in cc), λ _. refl)
