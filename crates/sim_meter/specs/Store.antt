-- The fifty identifiers that a meter keeps.
use Rattle.std.specs.Prelude.{◌≡◌, ℕ, min, List, length, count_by, nat_lt}
use Rattle.std.specs.List.Sorted.{IsNonDecreasing}

-- fifty places, sorted upward
pub record AreSorted (places : List ℕ) : Type 0 where
  pub fifty : length places ≡ 50
  pub upward : IsNonDecreasing places

-- how many of the identifiers are less than a number
abbrev pub count_below : ℕ → List ℕ → ℕ
count_below t places = count_by (λ kept. nat_lt kept t) places

-- fifty places hold the greatest of the identifiers taken, and 0 where there are fewer:
-- above each number they have as many as were taken, or all fifty
pub record HoldsGreatest (store taken : List ℕ) : Type 0 where
  pub fifty : length store ≡ 50
  pub greater : (t : ℕ) → count_by (nat_lt t) store ≡ min 50 (count_by (nat_lt t) taken)
