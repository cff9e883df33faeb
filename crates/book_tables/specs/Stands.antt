-- Which office the rows of the tables are.
use Rattle.std.specs.Prelude.{◌≡◌, ◌≢◌, ◌↔◌, ◌<◌, ◌==◌, ◌&&◌, ℕ, pos, true, List, [], ◌∷◌, Option}
use Rattle.std.specs.Prelude.{None, Some, IsSome, AllPairs, Contains, bytes_eq, filter, length, map}
use Rattle.std.specs.Prelude.{slice_get, sum_by}
use Rattle.sqlite_keyed.specs.Keyed.{IsKeyedBy}
use Rattle.sts_fields.specs.Base.{base_eq}
use Rattle.sts_fields.specs.Calendar.{month_at}
use Rattle.sts_fields.specs.declared.base.Base.{Base}
use Rattle.book_tables.specs.row.Rows.{DatedStepRow, Rows, StepRow}
use Rattle.book_tables.specs.declared.row.totals.Totals.{Totals}
use Rattle.tariff.specs.declared.step.Step.{Step}
use Rattle.office_rules.specs.Law.Cash.{cash_of}
use Rattle.office_rules.specs.Office.Lookup.{greatest_of}
use Rattle.office_rules.specs.Office.{Office}
use Rattle.office_rules.specs.declared.office.meter.Meter.{Meter}
use Rattle.office_rules.specs.declared.office.sale.Sale.{Sale}

-- the tariff of the row's name has its step, at its place
abbrev pub HasStep : Office → StepRow → Type 0
HasStep o r =
    (steps : List Step) × (o.tariffs r.tariff ≡ Some steps)
    × (slice_get steps r.place ≡ Some r.step)

-- two rows of steps that are not at one place of one tariff
abbrev pub AreApart : StepRow → StepRow → Type 0
AreApart a b = a.tariff ≡ b.tariff → a.place ≢ b.place

-- a tariff has these steps from the row's day on, with the row's step at its place
abbrev pub HasDatedStep : Office → DatedStepRow → Type 0
HasDatedStep o r =
    (steps : List Step) × (o.dated_steps r.tariff r.day ≡ Some steps)
    × (slice_get steps r.place ≡ Some r.step)

-- two rows of dated steps that are not at one place of one tariff and day
abbrev pub AreDatedApart : DatedStepRow → DatedStepRow → Type 0
AreDatedApart a b = a.tariff ≡ b.tariff → a.day ≡ b.day → a.place ≢ b.place

-- there is a row for each key under which a function has something, with what it has, and no other
pub record AreRowsOf {K V : Type 0} (rows : List (K × V)) (has : K → Option V) : Type 0 where
  pub members : (key : K) (value : V) → (has key ≡ Some value) ↔ Contains rows (key, value)
  pub once : AllPairs (λ a b. a.0 ≢ b.0) rows

-- the sales to a meter under a base, those to a meter in a month under any base, and those of a
-- shift
abbrev pub sales_under : List Sale → (List ℕ × Base) → List Sale
sales_under sales key = filter (λ s. bytes_eq s.meter key.0 && base_eq s.base key.1) sales

abbrev pub sales_in_month : List Sale → (List ℕ × ℕ) → List Sale
sales_in_month sales key =
    filter (λ s. bytes_eq s.meter key.0 && (month_at s.moment == key.1)) sales

abbrev pub sales_in_shift : List Sale → ℕ → List Sale
sales_in_shift sales shift = filter (λ s. s.shift == shift) sales

-- the count of some sales, and the sums of their tenths and their prices
abbrev pub all_totals : List Sale → Totals
all_totals sales =
    record { sales = length sales; tenths = sum_by (λ s. s.tenths) sales; cash = cash_of sales }

-- the sum of the tenths of some sales, and the totals of some sales, where there are any
abbrev pub tenths_of : List Sale → Option ℕ
tenths_of [] = None
tenths_of (s ∷ more) = Some (sum_by (λ s. s.tenths) (s ∷ more))

abbrev pub totals_of : List Sale → Option Totals
totals_of [] = None
totals_of (s ∷ more) = Some (all_totals (s ∷ more))

-- The running totals are those of these sales: a row is there exactly where a sale is, with the
-- greatest identifier, the sum of the month, and the count and the sums of the shift.
pub record AreTotalsOf (sales : List Sale) (rows : Rows) : Type 0 where
  pub last_ids : AreRowsOf rows.last_ids
      (λ key. greatest_of (map (λ s. s.tid) (sales_under sales key)))
  pub month_tenths : AreRowsOf rows.month_tenths (λ key. tenths_of (sales_in_month sales key))
  pub shift_totals : AreRowsOf rows.shift_totals (λ shift. totals_of (sales_in_shift sales shift))
  -- by the numbers of the shifts
  pub by_shift : IsKeyedBy (λ r. pos r.0) rows.shift_totals

-- the rows are the members of the office, each once, and its totals; the office has no others
pub record AreMembersOf (rows : Rows) (o : Office) : Type 0 where
  pub tariffs : (name : List ℕ) → IsSome (o.tariffs name) ↔ Contains rows.tariffs name
  pub steps : (r : StepRow) → HasStep o r ↔ Contains rows.steps r
  pub meters : (number : List ℕ) (m : Meter)
      → (o.meters number ≡ Some m) ↔ Contains rows.meters (number, m)
  pub bases : (number : List ℕ) (base : Base)
      → (o.bases number base ≡ true) ↔ Contains rows.bases (number, base)
  pub dated_steps : (r : DatedStepRow) → HasDatedStep o r ↔ Contains rows.dated_steps r
  pub shifts : rows.shifts ≡ o.shifts
  pub sales : rows.sales ≡ o.sales
  pub totals : AreTotalsOf o.sales rows
  pub tariffs_once : AllPairs (λ a b. a ≢ b) rows.tariffs
  pub steps_once : AllPairs AreApart rows.steps
  pub meters_once : AllPairs (λ a b. a.0 ≢ b.0) rows.meters
  pub bases_once : AllPairs (λ a b. a ≢ b) rows.bases
  pub dated_once : AllPairs AreDatedApart rows.dated_steps

-- What the tables that a format lacks would have: of each meter its present base alone, and no
-- steps of a later day.
pub record IsOfFormat (n : ℕ) (rows : Rows) : Type 0 where
  pub bases : n < 3 → rows.bases ≡ map (λ r. (r.0, r.1.base)) rows.meters
  pub dated_steps : n < 4 → rows.dated_steps ≡ []
