-- Transfer amounts in tenths of a kWh: which ones a token can carry, and the code of each.
use Rattle.std.specs.Prelude.{◌≡◌, ℕ, zero, suc, ◌+◌, ◌-◌, ◌*◌, ◌/◌, ◌%◌, ◌^◌, ◌<◌, ◌≤◌, [], ◌∷◌}
use Rattle.std.specs.Prelude.{nat_le}
use Rattle.std.specs.List.{count_by}

-- the least amount of an exponent: the sum, over n from 1 to it, of 2 ^ 14 * 10 ^ (n - 1)
abbrev pub start_of : ℕ → ℕ
start_of zero = 0
start_of (suc e) = start_of e + 2 ^ 14 * 10 ^ e

-- the amount that an exponent and a mantissa stand for
abbrev pub amount_of : ℕ → ℕ → ℕ
amount_of e m = 10 ^ e * m + start_of e

-- t is the amount of an exponent of two bits and a mantissa of fourteen
pub record HasParts (t e m : ℕ) : Type 0 where
  pub exponent : e < 4
  pub mantissa : m < 2 ^ 14
  pub gives : amount_of e m ≡ t

-- a token can carry t: some exponent and mantissa stand for it
abbrev pub IsRepresentable : ℕ → Type 0
IsRepresentable t = (e : ℕ) × (m : ℕ) × HasParts t e m

-- c is the code of t: its exponent in the two high bits, its mantissa in the fourteen low ones
abbrev pub IsCode : ℕ → ℕ → Type 0
IsCode t c = (e : ℕ) × (m : ℕ) × HasParts t e m × (c ≡ e * 2 ^ 14 + m)

-- the amount of a code of sixteen bits
abbrev pub amount_of_code : ℕ → ℕ
amount_of_code code = amount_of (code / 2 ^ 14) (code % 2 ^ 14)

-- the greatest amount that a token can carry: that of the greatest code
abbrev pub greatest_amount : ℕ
greatest_amount = 18201624

-- how many of the exponents from 1 on begin at t or below it
abbrev pub exponent_of : ℕ → ℕ
exponent_of t = count_by (λ e. nat_le (start_of e) t) (1 ∷ 2 ∷ 3 ∷ [])

-- how many steps of its exponent t lies above the least amount of that exponent
abbrev pub mantissa_of : ℕ → ℕ
mantissa_of t = (t - start_of (exponent_of t)) / 10 ^ exponent_of t

-- the code of a representable t
abbrev pub code_of : ℕ → ℕ
code_of t = exponent_of t * 2 ^ 14 + mantissa_of t

-- t lies in the range of exponent e: from its least amount to before that of the next exponent
pub record LiesIn (t e : ℕ) : Type 0 where
  pub exponent : e < 4
  pub from_start : start_of e ≤ t
  pub before_next : e < 3 → t < start_of (suc e)

-- u is the greatest representable amount up to t: it is one, and none lies between
pub record IsFloor (t u : ℕ) : Type 0 where
  pub representable : IsRepresentable u
  pub within : u ≤ t
  pub none_between : (v : ℕ) → IsRepresentable v → u < v → v ≤ t → ⊥
