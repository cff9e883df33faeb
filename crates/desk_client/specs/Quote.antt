-- The quotes that replies tell.
use Rattle.std.specs.Prelude.{◌≤◌}
use Rattle.book_states.specs.declared.lookup.Quote.{Quote}
use Rattle.sts_fields.specs.Amount.{IsRepresentable}
use Rattle.tariff.specs.Tender.{IsTender}
use Rattle.office_rules.specs.Name.{IsMeterNo, IsName}

-- a quote by its rules
pub record IsToldQuote (q : Quote) : Type 0 where
  pub meter : IsMeterNo q.meter
  pub tariff : IsName q.tariff
  pub tender : IsTender q.tender
  pub tenths : IsRepresentable q.tenths
  pub price : q.price ≤ q.tender
