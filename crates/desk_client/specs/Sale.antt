-- The sales that replies tell.
use Rattle.std.specs.Prelude.{◌≡◌, ◌≤◌}
use Rattle.asks.specs.Value.{IsTargetNumber}
use Rattle.sts_fields.specs.Amount.{IsRepresentable}
use Rattle.sts_fields.specs.Moment.{IsMoment}
use Rattle.sts_fields.specs.Tid.{last_tid}
use Rattle.sts_token.specs.Token.{AreTwentyDigits}
use Rattle.tariff.specs.Tender.{IsTender}
use Rattle.office_rules.specs.Name.{IsMeterNo, IsName, IsOperator}
use Rattle.office_rules.specs.declared.office.sale.Sale.{Sale}

-- a sale by its rules, whose token's nibble is not told
pub record IsSaleTold (s : Sale) : Type 0 where
  pub number : IsTargetNumber s.number
  pub moment : IsMoment s.moment
  pub shift : IsTargetNumber s.shift
  pub operator : IsOperator s.operator
  pub order_ref : IsName s.order_ref
  pub meter : IsMeterNo s.meter
  pub tid : s.tid ≤ last_tid
  pub nibble : s.rnd ≡ 0
  pub tenths : IsRepresentable s.tenths
  pub price : s.price ≤ s.tender
  pub tender : IsTender s.tender
  pub digits : AreTwentyDigits s.digits
