-- What a tender of money buys.
use Rattle.std.specs.Prelude.{◌≡◌, ℕ, zero, suc, ◌+◌, ◌-◌, ◌≤◌, Bool, List, Option, Some, None}
use Rattle.std.specs.Prelude.{if◌then◌else◌, nat_le, option_map}
use Rattle.sts_fields.specs.Amount.{IsRepresentable, amount_of_code}
use Rattle.tariff.specs.declared.bought.Buy.{Buy}
use Rattle.tariff.specs.declared.step.Step.{Step}
use Rattle.tariff.specs.Cost.{cost_of}

-- b is the purchase: the greatest amount that a token can carry of those that cost at most the
-- tender
pub record IsPurchase (steps : List Step) (prior tender : ℕ) (b : Buy) : Type 0 where
  pub representable : IsRepresentable b.tenths
  pub some : 1 ≤ b.tenths
  pub price : b.price ≡ cost_of steps prior b.tenths
  pub within : b.price ≤ tender
  pub greatest : (t : ℕ) → IsRepresentable t → cost_of steps prior t ≤ tender → t ≤ b.tenths
  pub change : b.price + b.change ≡ tender

-- the greatest number from 1 to n that passes the test
unfoldable pub greatest_passing : (ℕ → Bool) → ℕ → Option ℕ
greatest_passing test zero = None
greatest_passing test (suc n) = if test (suc n) then Some (suc n) else greatest_passing test n

-- t tenths, bought for a tender that covers their cost
abbrev pub bought : List Step → ℕ → ℕ → ℕ → Buy
bought steps prior tender t =
    let price = cost_of steps prior t in
    record { tenths = t; price = price; change = tender - price }

-- the purchase, by the greatest code whose amount the tender covers: `IsPurchase` says what it is
unfoldable pub purchase_of : List Step → ℕ → ℕ → Option Buy
purchase_of steps prior tender =
    option_map (λ code. bought steps prior tender (amount_of_code code))
    (greatest_passing (λ code. nat_le (cost_of steps prior (amount_of_code code)) tender) 65535)
