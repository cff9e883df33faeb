-- The text of a shift's report in a reply, and what it tells.
use Rattle.std.specs.Prelude.{◌≡◌, ⊤, ℕ, ◌+◌, ◌^◌, ◌<◌, ◌≤◌, List, [], ◌∷◌, ◌++◌, length, decimal}
use Rattle.std.specs.Prelude.{codes}
use Rattle.std.specs.List.{flat_map}
use Rattle.asks.specs.Value.{IsTargetNumber}
use Rattle.office_rules.specs.Law.Cash.{cash_of}
use Rattle.office_rules.specs.Name.{IsMeterNo, IsOperator}
use Rattle.office_rules.specs.declared.office.sale.Sale.{Sale}
use Rattle.office_rules.specs.declared.office.shift.Shift.{Shift}
use Rattle.papers.specs.Report.{closed_text, report_of, sale_line, shift_head, sum_of_tenths}
use Rattle.papers.specs.Report.{totals_text}
use Rattle.papers.specs.Text.{change_of, line_feed, right, space, time_text}
use Rattle.sts_fields.specs.Amount.{IsRepresentable}
use Rattle.sts_fields.specs.Moment.{IsMoment}
use Rattle.tariff.specs.Tender.{IsTender}
use Rattle.desk_client.specs.Page.{IsToldEnd}
use Rattle.desk_client.specs.declared.report_line.Columns.{Columns}

-- a shift, by the rules of what its report tells
pub record IsToldShift (shift : Shift) : Type 0 where
  pub operator : IsOperator shift.operator
  pub opened : IsMoment shift.opened
  pub closed : IsToldEnd shift.closed

-- a sale, by the rules of what its line in a report tells
pub record IsToldLine (s : Sale) : Type 0 where
  pub number : IsTargetNumber s.number
  pub meter : IsMeterNo s.meter
  pub tenths : IsRepresentable s.tenths
  pub price : s.price ≤ s.tender
  pub tender : IsTender s.tender

-- such sales in the order of their numbers, all of them after a number
abbrev pub AreToldLines : (after : ℕ) → List Sale → Type 0
AreToldLines after [] = ⊤
AreToldLines after (s ∷ sales) = (after < s.number) × IsToldLine s × AreToldLines s.number sales

-- The text is one that a desk writes as the report of the shift of this number: a shift and its
-- sales by their rules, each sale once, and at the end the sums of these lines.
pub record IsReportOf (number : ℕ) (text : List ℕ) : Type 0 where
  pub shift : Shift
  pub sales : List Sale
  pub told : IsToldShift shift
  pub named : shift.number ≡ number
  pub lines : AreToldLines 0 sales
  pub written : text ≡ report_of shift sales

-- ---- its parts

-- the values that stand behind the number of a shift
abbrev pub head_values : Shift → List (List ℕ)
head_values shift =
    shift.operator ∷ time_text shift.opened ∷ closed_text shift.closed ∷ []

-- what stands behind each
abbrev pub head_ends : List (List ℕ)
head_ends = codes "\nOPENED " ∷ codes "\nCLOSED " ∷ codes "\n" ∷ []

-- the text begins with the lines of the shift of a number and its times, and this follows
pub record HasHead (number : ℕ) (text rest : List ℕ) : Type 0 where
  pub shift : Shift
  pub told : IsToldShift shift
  pub named : shift.number ≡ number
  pub written : text ≡ shift_head shift ++ rest

-- the text has lines of sales after a number, and then the totals of these and of others before
-- them, of this count, these tenths and this cash
pub record EndsReport (after count tenths cash : ℕ) (text : List ℕ) : Type 0 where
  pub sales : List Sale
  pub lines : AreToldLines after sales
  pub written : text ≡ flat_map sale_line sales
      ++ totals_text (count + length sales) (tenths + sum_of_tenths sales) (cash + cash_of sales)

-- a number of 64 bits that has no more digits than its column has places
abbrev pub IsInColumn : (places : ℕ) → ℕ → Type 0
IsInColumn places number = (number < 2 ^ 64) × (length (decimal number) ≤ places)

-- the values in the columns of a line
pub record FitColumns (c : Columns) : Type 0 where
  pub number : IsInColumn 10 c.number
  pub meter : length c.meter.now ≡ 11
  pub tenths : IsInColumn 8 c.tenths
  pub price : IsInColumn 9 c.price
  pub tender : IsInColumn 9 c.tender
  pub change : IsInColumn 9 c.change

-- the line of these, and what follows it
abbrev pub columns_text : Columns → List ℕ → List ℕ
columns_text c rest =
    right 10 (decimal c.number) ++ space ∷ (c.meter.now ++ space ∷ (right 8 (decimal c.tenths)
    ++ space ∷ (right 9 (decimal c.price) ++ space ∷ (right 9 (decimal c.tender)
    ++ space ∷ (right 9 (decimal c.change) ++ line_feed ∷ rest)))))

-- they are those of a sale
pub record AreOfSale (c : Columns) (s : Sale) : Type 0 where
  pub number : c.number ≡ s.number
  pub meter : c.meter.now ≡ s.meter
  pub tenths : c.tenths ≡ s.tenths
  pub price : c.price ≡ s.price
  pub tender : c.tender ≡ s.tender
  pub change : c.change ≡ change_of s

-- the text begins with the line of a sale after a number, which has these columns, and this follows
pub record HasLine (after : ℕ) (text : List ℕ) (c : Columns) (rest : List ℕ) : Type 0 where
  pub sale : Sale
  pub later : after < sale.number
  pub told : IsToldLine sale
  pub columns : AreOfSale c sale
  pub written : text ≡ sale_line sale ++ rest
