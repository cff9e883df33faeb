-- The money that sales took in, and what the reports say of it.
use Rattle.std.specs.Prelude.{◌≡◌, ℕ, List, sum_by}
use Rattle.sts_token.specs.Token.{BlockFunction}
use Rattle.office_rules.specs.Decision.Fold.{reply}
use Rattle.office_rules.specs.Law.Handed.{sales_of}
use Rattle.office_rules.specs.Office.{Office}
use Rattle.office_rules.specs.declared.decision.request.Request.TheVariants.{ShiftReport}
use Rattle.office_rules.specs.declared.decision.request.Stamped.{Stamped}
use Rattle.office_rules.specs.declared.office.sale.Sale.{Sale}

-- the prices of some sales, added
abbrev pub cash_of : List Sale → ℕ
cash_of sales = sum_by (λ s. s.price) sales

-- requests for reports, one for each number of a shift, at whatever moments
abbrev pub AskForReports : (ℕ → Stamped) → Type 0
AskForReports ats = (number : ℕ) → (ats number).request ≡ ShiftReport number

-- the cash of the reports of all shifts, added
abbrev pub cash_of_reports : BlockFunction → Office → (ℕ → Stamped) → ℕ
cash_of_reports forward o ats =
    sum_by (λ shift. cash_of (sales_of (reply forward o (ats shift.number)))) o.shifts
