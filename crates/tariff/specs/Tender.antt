-- The money that a customer hands over.
use Rattle.std.specs.Prelude.{ℕ, ◌≤◌}

-- from 1 to 100000000 whole cents
abbrev pub IsTender : ℕ → Type 0
IsTender cents = (1 ≤ cents) × (cents ≤ 100000000)
