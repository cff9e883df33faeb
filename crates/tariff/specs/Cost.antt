-- What electricity costs: the step of each tenth of a kWh, and the price of a run of tenths.
use Rattle.std.specs.Prelude.{ℕ, zero, suc, ◌+◌, ◌/◌, ◌^◌, Bool, true, List, Option, nat_lt, find}
use Rattle.std.specs.Option.{option_map_or}
use Rattle.tariff.specs.declared.step.Step.{Step}

-- the most tenths that a month may have had before: more than 10^9 sales of the greatest amount
abbrev pub greatest_prior : ℕ
greatest_prior = 10 ^ 17

-- the step ends after tenth i of the month, counted from 0, or has no end
abbrev pub ends_after : ℕ → Step → Bool
ends_after i s = option_map_or (λ e. nat_lt i e) s.ends true

-- the step that tenth i lies in: the first that ends after it
abbrev pub step_of : List Step → ℕ → Option Step
step_of steps i = find (ends_after i) steps

-- the price of the step that tenth i lies in, in cents per kWh
abbrev pub price_at : List Step → ℕ → ℕ
price_at steps i = option_map_or (λ s. s.price) (step_of steps i) 0

-- the prices of t tenths after prior ones, added
unfoldable pub prices_of : List Step → ℕ → ℕ → ℕ
prices_of steps prior zero = 0
prices_of steps prior (suc t) = prices_of steps prior t + price_at steps (prior + t)

-- what t tenths after prior ones cost in cents: their prices, divided by ten and rounded up once
abbrev pub cost_of : List Step → ℕ → ℕ → ℕ
cost_of steps prior t = (prices_of steps prior t + 9) / 10
