-- The tokens of handed sales: where they were written, and how those of one meter come to the
-- simulated meter.
use Rattle.std.specs.Prelude.{◌≡◌, ℕ, ◌^◌, ◌<◌, ◌&&◌, ◌==◌, Bool, List, Some, All, AllPairs}
use Rattle.std.specs.Prelude.{Contains, map, filter, nat_lt, count_by}
use Rattle.std.specs.List.{list_any}
use Rattle.sts_fields.specs.declared.base.Base.{Base}
use Rattle.sts_token.specs.Meter.{Entry, Reader, entered, is_member, taken_over}
use Rattle.sts_token.specs.Reading.{reading_of}
use Rattle.sts_token.specs.Token.{IsToken, BlockFunction}
use Rattle.sts_token.specs.Transform.{IsTransform}
use Rattle.vend_core.specs.Law.Life.{IsHanded, LeadTo, Life, SellsUnder, WasMadeSince}
use Rattle.office_rules.specs.Law.NewSale.{fields_of}
use Rattle.office_rules.specs.Office.{IsOffice, Office}
use Rattle.office_rules.specs.declared.office.meter.Meter.{Meter}
use Rattle.office_rules.specs.declared.office.sale.Sale.{Sale}

-- the sale's token was written in one of the lives: under its transform, and a key
pub record WasWritten (lives : List Life) (s : Sale) : Type 0 where
  pub life : Life
  pub key : ℕ
  pub one_of : Contains lives life
  pub key_bits : key < 2 ^ 64
  pub token : IsToken life.forward key (fields_of s) s.digits

-- a simulated meter between two clearings: its number, the base that its identifiers count from,
-- and its transform, two ways, and key. A meter that is moved to a later base is cleared then, and
-- is another such meter from there on: identifiers count anew from the new base
pub record SimMeter : Type 0 where
  pub number : List ℕ
  pub base : Base
  pub forward : BlockFunction
  pub inverse : BlockFunction
  pub key : ℕ

-- how it reads texts
abbrev pub reads_by : SimMeter → Reader
reads_by m = reading_of m.inverse m.key

-- handed sales to the meter under its base, each once, in the order of sale, that were sold under
-- its transform and key
pub record AreSalesTo (lives : List Life) (m : SimMeter) (sales : List Sale) : Type 0 where
  pub transform : IsTransform m.forward m.inverse
  pub key_bits : m.key < 2 ^ 64
  pub handed : All (IsHanded lives) sales
  pub to_meter : All (λ s. s.meter ≡ m.number) sales
  pub under : All (λ s. s.base ≡ m.base) sales
  pub tokens : All (λ s. IsToken m.forward m.key (fields_of s) s.digits) sales
  pub in_order : AllPairs (λ a b. a.number < b.number) sales

-- lives that take orders under the meter's transform alone lead to an office, and these are sales
-- that they made to it under its base, each once, in the order of sale. Its key is the one that the
-- office has for it: nothing is said of the key that a token was written with
pub record AreMadeFor (start : Office) (lives : List Life) (o : Office) (m : SimMeter)
    (sales : List Sale) : Type 0 where
  pub begins : IsOffice start
  pub lead : LeadTo start lives o
  pub transform : IsTransform m.forward m.inverse
  pub under_it : All (SellsUnder m.forward) lives
  pub meter : Meter
  pub meter_is : o.meters m.number ≡ Some meter
  pub key_is : meter.key ≡ m.key
  pub made : All (WasMadeSince start o) sales
  pub to_meter : All (λ s. s.meter ≡ m.number) sales
  pub under : All (λ s. s.base ≡ m.base) sales
  pub in_order : AllPairs (λ a b. a.number < b.number) sales

-- the tokens of these sales are entered, one after another
abbrev pub digits_of : Sale → List ℕ
digits_of s = s.digits

abbrev pub tokens_of : List Sale → List Entry
tokens_of sales = map entered (map digits_of sales)

-- the sale is among these
abbrev pub has_come : List Sale → Sale → Bool
has_come came s = list_any (λ c. c.number == s.number) came

-- how many of the sales later than s are among those whose tokens came
abbrev pub later_sales_come : List Sale → List Sale → Sale → ℕ
later_sales_come sales came s = count_by (λ t. nat_lt s.number t.number && has_come came t) sales

-- those of the sales whose identifiers the meter accepted over these entries
abbrev pub accepted_of : Reader → List Entry → List Sale → List Sale
accepted_of read history sales = filter (λ s. is_member (taken_over read history).tids s.tid) sales
