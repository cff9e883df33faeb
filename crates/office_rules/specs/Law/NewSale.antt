-- A new sale: what the office's rules say of it.
use Rattle.std.specs.Prelude.{◌≡◌, ℕ, ◌+◌, length, Some, Ok}
use Rattle.sts_fields.specs.Calendar.{month_at}
use Rattle.sts_fields.specs.Day.{day_at}
use Rattle.sts_fields.specs.Tid.{FreshOutcome, minute_of}
use Rattle.sts_token.specs.Fields.{TokenFields}
use Rattle.sts_token.specs.Token.{IsToken, BlockFunction}
use Rattle.tariff.specs.Purchase.{IsPurchase}
use Rattle.tariff.specs.declared.bought.Buy.{Buy}
use Rattle.office_rules.specs.Office.Lookup.{open_shift, prior, steps_on, used}
use Rattle.office_rules.specs.Office.{Office}
use Rattle.office_rules.specs.declared.office.meter.Meter.{Meter}
use Rattle.office_rules.specs.declared.decision.request.Order.{Order}
use Rattle.office_rules.specs.declared.decision.request.Stamped.{Stamped}
use Rattle.office_rules.specs.declared.office.sale.Sale.{Sale}
use Rattle.office_rules.specs.declared.office.shift.Shift.{Shift}

-- what the token of a sale carries
abbrev pub fields_of : Sale → TokenFields
fields_of s = record { rnd = s.rnd; tid = s.tid; tenths = s.tenths }

-- s is the new sale of an order that is served at a moment, with a nibble, by an office
pub record IsNewSale (forward : BlockFunction) (o : Office) (at : Stamped) (order : Order)
    (s : Sale) : Type 0 where
  -- the meter, the operator's open shift, the present minute under the meter's base, and what the
  -- tender buys by the steps of the sale's own day
  pub to_meter : Meter
  pub in_shift : Shift
  pub minute : ℕ
  pub bought : Buy
  pub meter_is : o.meters order.meter ≡ Some to_meter
  pub shift_is : open_shift o order.operator ≡ Some in_shift
  pub minute_is : minute_of to_meter.base at.moment ≡ Ok minute
  pub bought_is : IsPurchase (steps_on o to_meter.tariff (day_at at.moment))
      (prior o order.meter (month_at at.moment)) order.tender bought
  -- the sale: its number is the count and one more, and its identifier is the fresh one
  pub number : s.number ≡ length o.sales + 1
  pub moment : s.moment ≡ at.moment
  pub shift : s.shift ≡ in_shift.number
  pub operator : s.operator ≡ order.operator
  pub order_ref : s.order_ref ≡ order.order_ref
  pub meter : s.meter ≡ order.meter
  pub base : s.base ≡ to_meter.base
  pub tid : FreshOutcome (used o order.meter to_meter.base) minute (Ok s.tid)
  pub rnd : s.rnd ≡ at.nibble
  pub tenths : s.tenths ≡ bought.tenths
  pub price : s.price ≡ bought.price
  pub tender : s.tender ≡ order.tender
  pub digits : IsToken forward to_meter.key (fields_of s) s.digits
