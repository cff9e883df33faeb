-- What is read back of stored values.
use Rattle.std.specs.Prelude.{◌≡◌, ◌≢◌, Option, MatchOption}

-- what is stored reads as x, which is stored so and keeps the rule; or as none, where nothing that
-- keeps the rule is stored so
abbrev pub ReadsBack : {A T : Type 0} → (A → T) → (A → Type 0) → T → Option A → Type 0
ReadsBack {A} stored rule place read =
    MatchOption read ((x : A) → rule x → stored x ≢ place) (λ x. (stored x ≡ place) × rule x)
