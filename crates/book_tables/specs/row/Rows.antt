-- The rows of the office's tables: the records that they are, and the values that are stored of
-- each.
use Rattle.std.specs.Prelude.{ℕ, zero, suc, pos, List, [], ◌∷◌, Option, Some, None}
use Rattle.sqlite.specs.Order.{Row}
use Rattle.sqlite.specs.declared.types.Value.{Value}
use Rattle.sqlite.specs.declared.types.Value.TheVariants.{Null, Int, Text}
use Rattle.sts_fields.specs.Base.{year_of}
use Rattle.sts_fields.specs.declared.base.Base.{Base}
use Rattle.sts_fields.specs.Calendar.{month_at}
use Rattle.sts_token.specs.Digits.{digits_text}
use Rattle.tariff.specs.declared.step.Step.{Step}
use Rattle.office_rules.specs.declared.office.meter.Meter.{Meter}
use Rattle.office_rules.specs.declared.office.sale.Sale.{Sale}
use Rattle.office_rules.specs.declared.office.shift.Shift.{Shift}
use Rattle.book_tables.specs.declared.row.totals.Totals.{Totals}

-- a step of a tariff: the place counts from 0
pub record StepRow : Type 0 where
  pub tariff : List ℕ
  pub place : ℕ
  pub step : Step

-- a step of those that a tariff has from a first day on: the place counts from 0
pub record DatedStepRow : Type 0 where
  pub tariff : List ℕ
  pub day : ℕ
  pub place : ℕ
  pub step : Step

-- all rows of the office's tables, in the order in which they stand; shifts and sales by their
-- numbers
pub record Rows : Type 0 where
  pub tariffs : List (List ℕ)
  pub steps : List StepRow
  pub meters : List (List ℕ × Meter)
  pub shifts : List Shift
  pub sales : List Sale
  -- running totals: the last identifier of a meter under a base, the tenths of a meter in a month,
  -- and the totals of a shift by its number
  pub last_ids : List ((List ℕ × Base) × ℕ)
  pub month_tenths : List ((List ℕ × ℕ) × ℕ)
  pub shift_totals : List (ℕ × Totals)
  -- the bases that a meter had, its present one among them
  pub bases : List (List ℕ × Base)
  pub dated_steps : List DatedStepRow

-- a whole number, and one that may be missing
abbrev pub number : ℕ → Value
number n = Int (pos n)

abbrev pub optional : Option ℕ → Value
optional None = Null
optional (Some n) = number n

-- the sixteen lower-case hexadecimal digits of a key
abbrev pub secret_of : ℕ → List ℕ
secret_of key = digits_text 16 16 key

-- the format of the tables that are made
abbrev pub present_format : ℕ
present_format = 4

-- what is stored of columns of which the first is the row's number: the number stands in front, and
-- NULL in its column
abbrev pub keyed : Row → Row
keyed [] = []
keyed (n ∷ columns) = n ∷ Null ∷ columns

-- the columns of each table's rows, in the order of the table; the one row of `about` has its own
-- number 1 and that of the format
abbrev pub shown_format : ℕ → Row
shown_format n = number 1 ∷ number n ∷ []

abbrev pub tariff_columns : List ℕ → Row
tariff_columns name = Text name ∷ []

abbrev pub step_columns : StepRow → Row
step_columns r = Text r.tariff ∷ number r.place ∷ optional r.step.ends ∷ number r.step.price ∷ []

abbrev pub meter_columns : (List ℕ × Meter) → Row
meter_columns m =
    Text m.0 ∷ number (year_of m.1.base) ∷ Text m.1.tariff ∷ Text (secret_of m.1.key) ∷ []

abbrev pub shift_columns : Shift → Row
shift_columns s = number s.number ∷ Text s.operator ∷ number s.opened ∷ optional s.closed ∷ []

abbrev pub sale_columns : Sale → Row
sale_columns s =
    number s.number ∷ number s.moment ∷ number (month_at s.moment) ∷ number s.shift
    ∷ Text s.operator ∷ Text s.order_ref ∷ Text s.meter ∷ number (year_of s.base) ∷ number s.tid
    ∷ number s.rnd ∷ number s.tenths ∷ number s.price ∷ number s.tender ∷ Text s.digits ∷ []

abbrev pub last_id_columns : ((List ℕ × Base) × ℕ) → Row
last_id_columns r = Text r.0.0 ∷ number (year_of r.0.1) ∷ number r.1 ∷ []

abbrev pub month_columns : ((List ℕ × ℕ) × ℕ) → Row
month_columns r = Text r.0.0 ∷ number r.0.1 ∷ number r.1 ∷ []

abbrev pub totals_columns : (ℕ × Totals) → Row
totals_columns r = number r.0 ∷ number r.1.sales ∷ number r.1.tenths ∷ number r.1.cash ∷ []

abbrev pub base_columns : (List ℕ × Base) → Row
base_columns r = Text r.0 ∷ number (year_of r.1) ∷ []

abbrev pub dated_columns : DatedStepRow → Row
dated_columns r =
    Text r.tariff ∷ number r.day ∷ number r.place ∷ optional r.step.ends ∷ number r.step.price ∷ []

-- what is stored of the rows that have a number
abbrev pub about_row : ℕ → Row
about_row n = keyed (shown_format n)

-- no row tells that there is nothing yet
abbrev pub about_rows : ℕ → List Row
about_rows zero = []
about_rows (suc n) = about_row (suc n) ∷ []

abbrev pub shift_row : Shift → Row
shift_row s = keyed (shift_columns s)

abbrev pub sale_row : Sale → Row
sale_row s = keyed (sale_columns s)

abbrev pub totals_row : (ℕ × Totals) → Row
totals_row r = keyed (totals_columns r)

-- the columns that a SELECT names, in this order, so that its row shows the whole record
abbrev pub shown_step : Step → Row
shown_step s = optional s.ends ∷ number s.price ∷ []

abbrev pub shown_meter : Meter → Row
shown_meter m = number (year_of m.base) ∷ Text m.tariff ∷ Text (secret_of m.key) ∷ []

abbrev pub shown_shift : Shift → Row
shown_shift s = shift_columns s

abbrev pub shown_sale : Sale → Row
shown_sale s =
    number s.number ∷ number s.moment ∷ number s.shift ∷ Text s.operator ∷ Text s.order_ref
    ∷ Text s.meter ∷ number (year_of s.base) ∷ number s.tid ∷ number s.rnd ∷ number s.tenths
    ∷ number s.price ∷ number s.tender ∷ Text s.digits ∷ []

abbrev pub shown_totals : Totals → Row
shown_totals t = number t.sales ∷ number t.tenths ∷ number t.cash ∷ []

-- the one column that is a number
abbrev pub shown_number : ℕ → Row
shown_number n = number n ∷ []
