-- What a text of steps is answered, from what its steps are answered.
use Rattle.std.proofs.Common.{ℕ, ◌<◌, ◌≤◌, ◌↔◌, List, length, subst, arith}
use Rattle.tariff.specs.declared.step.Step.{Step}
use Rattle.tariff.specs.StepsText.{IsStepsText}
use Rattle.tariff.proofs.PiecesLemmas.{one_list}

-- some steps that the text is written from are such
abbrev pub IsTextOf : List ℕ → (List Step → Type 0) → Type 0
IsTextOf text P = (steps : List Step) × IsStepsText text steps × P steps

-- where it is that of these, and no others
pub steps_iff : (text : List ℕ) (P : List Step → Type 0) (Q : Type 0) (steps : List Step)
    → IsStepsText text steps → Q ↔ P steps → Q ↔ IsTextOf text P
steps_iff text P Q steps t iff =
    (λ q. (steps, t, iff.0 q), λ u. iff.1 (subst P (one_list text u.0 steps u.1 t) u.2))

-- where the text is that of too many steps for such
pub too_many_iff : (text : List ℕ) (P : List Step → Type 0) (Q : Type 0) (steps : List Step)
    → IsStepsText text steps → 8 < length steps → ((s : List Step) → P s → length s ≤ 8) → ¬ Q
    → Q ↔ IsTextOf text P
too_many_iff text P Q steps t many few never = steps_iff text P Q steps t
    (λ q. absurd (never q), λ p. absurd (omega (arith, many, few steps p)))
