-- The text of a receipt in a reply, and what it tells.
use Rattle.std.specs.Prelude.{◌≡◌, ℕ, ◌-◌, ◌≤◌, List, [], ◌∷◌, codes, decimal, slice_index}
use Rattle.asks.specs.Value.{IsTargetNumber}
use Rattle.office_rules.specs.Name.{IsMeterNo}
use Rattle.office_rules.specs.declared.office.sale.Sale.{Sale}
use Rattle.papers.specs.Receipt.{receipt_of}
use Rattle.papers.specs.Text.{change_of, grouped, kwh_text, time_text}
use Rattle.sts_fields.specs.Amount.{IsRepresentable}
use Rattle.sts_fields.specs.Moment.{IsMoment}
use Rattle.sts_token.specs.Reading.{IsOfClassZero}
use Rattle.tariff.specs.Tender.{IsTender}

-- a sale, by the rules of what its receipt tells; its digits can be a token's
pub record IsToldReceipt (s : Sale) : Type 0 where
  pub number : IsTargetNumber s.number
  pub meter : IsMeterNo s.meter
  pub moment : IsMoment s.moment
  pub tenths : IsRepresentable s.tenths
  pub price : s.price ≤ s.tender
  pub tender : IsTender s.tender
  pub digits : IsOfClassZero s.digits

-- the text is one that a desk writes as the receipt of a sale to this meter
pub record IsReceiptOf (meter : List ℕ) (text : List ℕ) : Type 0 where
  pub sale : Sale
  pub told : IsToldReceipt sale
  pub named : sale.meter ≡ meter
  pub written : text ≡ receipt_of sale

-- the same of the receipt of the sale of this number
pub record IsReceiptNumbered (number : ℕ) (text : List ℕ) : Type 0 where
  pub sale : Sale
  pub told : IsToldReceipt sale
  pub named : sale.number ≡ number
  pub written : text ≡ receipt_of sale

-- ---- its parts

-- the values that stand in it
abbrev pub receipt_values : Sale → List (List ℕ)
receipt_values s =
    decimal s.number ∷ s.meter ∷ time_text s.moment ∷ kwh_text s.tenths ∷ decimal s.price
    ∷ decimal s.tender ∷ decimal (change_of s) ∷ grouped s.digits ∷ []

-- what stands behind each
abbrev pub receipt_ends : List (List ℕ)
receipt_ends =
    codes "\nMETER " ∷ codes "\nTIME " ∷ codes "\nKWH " ∷ codes "\nPRICE " ∷ codes "\nTENDER "
    ∷ codes "\nCHANGE " ∷ codes "\nTOKEN " ∷ codes "\n" ∷ []

-- the amounts of money of a sale, as values write them: its price, its tender and the change
pub record AreMoney (price tender change : List ℕ) : Type 0 where
  pub cents : ℕ
  pub paid : ℕ
  pub within : cents ≤ paid
  pub rule : IsTender paid
  pub price_is : price ≡ decimal cents
  pub tender_is : tender ≡ decimal paid
  pub change_is : change ≡ decimal (paid - cents)

-- these are the values of the receipt of a sale to a meter
pub record AreReceiptOf (meter : List ℕ) (values : List (List ℕ)) : Type 0 where
  pub sale : Sale
  pub told : IsToldReceipt sale
  pub named : sale.meter ≡ meter
  pub are : values ≡ receipt_values sale

-- and of the sale of a number
pub record AreReceiptNumbered (number : ℕ) (values : List (List ℕ)) : Type 0 where
  pub sale : Sale
  pub told : IsToldReceipt sale
  pub named : sale.number ≡ number
  pub are : values ≡ receipt_values sale

-- twenty digits in five groups of four, with a space between each two
abbrev pub spaced : List ℕ → List ℕ
spaced d =
    slice_index d 0 ∷ slice_index d 1 ∷ slice_index d 2 ∷ slice_index d 3 ∷ 32
    ∷ slice_index d 4 ∷ slice_index d 5 ∷ slice_index d 6 ∷ slice_index d 7 ∷ 32
    ∷ slice_index d 8 ∷ slice_index d 9 ∷ slice_index d 10 ∷ slice_index d 11 ∷ 32
    ∷ slice_index d 12 ∷ slice_index d 13 ∷ slice_index d 14 ∷ slice_index d 15 ∷ 32
    ∷ slice_index d 16 ∷ slice_index d 17 ∷ slice_index d 18 ∷ slice_index d 19 ∷ []
