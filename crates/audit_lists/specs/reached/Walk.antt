-- What is known of an office's sales on the way.
use Rattle.std.specs.Prelude.{◌≡◌, ◌<◌, ◌≤◌, ◌↔◌, ℕ, List, Option, None, Some, All, length, min}
use Rattle.sts_fields.specs.Base.{year_of}
use Rattle.sts_fields.specs.declared.base.Base.{Base}
use Rattle.office_rules.specs.Office.{Office}
use Rattle.office_rules.specs.declared.office.sale.Sale.{Sale}
use Rattle.office_rules.specs.declared.office.shift.Shift.{Shift}
use Rattle.book_tables.specs.row.Gathered.{IsGathered}
use Rattle.audit_rows.specs.declared.finding.Rule.{Rule}
use Rattle.audit_rows.specs.declared.office_rows.OfficeRows.{OfficeRows}
use Rattle.audit_lists.specs.declared.fault.OfficeFault.{OfficeFault}
use Rattle.audit_lists.specs.declared.fault.OfficeFault.TheVariants as fault
use Rattle.audit_lists.specs.declared.reached.walked.Walked.{Walked}
use Rattle.audit_lists.specs.reached.Finds.{AreRowsOfOffice, BreaksFirst, IsFirstSale, Keeps}
use Rattle.audit_lists.specs.reached.Lasts.{AreLasts}

-- the greatest shift that one of the sales was made in; 0 where there is none
abbrev pub IsLatestOf : List Sale → ℕ → Type 0
IsLatestOf sales latest = (n : ℕ) → 1 ≤ n → (All (λ s. s.shift < n) sales ↔ (latest < n))

-- what is kept of some first sales: their totals, their latest shift, and each operator's last one
-- of the shifts up to that
pub record IsWalked (shifts : List Shift) (earlier : List Sale) (w : Walked) : Type 0 where
  pub gathered : IsGathered earlier w.gathered
  pub latest : IsLatestOf earlier w.latest
  pub lasts : AreLasts w.lasts shifts (min (length shifts) w.latest)

-- no sale to the sale's meter before it was under this base, where that is a later one than its own
abbrev pub IsNotAfter : Base → List Sale → Sale → Type 0
IsNotAfter base earlier s =
    All (λ a. a.meter ≡ s.meter → year_of a.base ≡ year_of base → year_of a.base ≤ year_of s.base)
    earlier

-- what is found of a sale by some of the rules
abbrev pub FindsRule : List Rule → Office → List Sale → Sale → Option Rule → Type 0
FindsRule rules o earlier s None = All (λ r. Keeps r o earlier s) rules
FindsRule rules o earlier s (Some broken) = BreaksFirst rules o earlier s broken

-- what is told of sales: the first false one, or there was no memory for them
abbrev pub TellsSale : OfficeRows → OfficeFault → Type 0
TellsSale r (fault.Found f) = (o : Office) → AreRowsOfOffice r o → IsFirstSale o f
TellsSale r fault.Memory = 1 ≤ length r.sales.items
