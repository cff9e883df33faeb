-- The meters that replies tell.
use Rattle.std.specs.Prelude.{ℕ, ◌^◌, ◌≤◌, Option, Some, None, ⊤}
use Rattle.book_states.specs.declared.lookup.MeterSummary.{MeterSummary}
use Rattle.asks.specs.Value.{IsTargetNumber}
use Rattle.office_rules.specs.Name.{IsMeterNo, IsName}

-- a number of a sale
abbrev pub IsLastSaleNumber : Option ℕ → Type 0
IsLastSaleNumber None = ⊤
IsLastSaleNumber (Some number) = IsTargetNumber number

-- more tenths than an office sells to a meter in a month
abbrev pub most_month_tenths : ℕ
most_month_tenths = 10 ^ 17

-- a meter by its rules
pub record IsToldMeter (m : MeterSummary) : Type 0 where
  pub number : IsMeterNo m.number
  pub last_sale : IsLastSaleNumber m.last_sale
  pub tariff : IsName m.tariff
  pub tenths : m.tenths ≤ most_month_tenths
