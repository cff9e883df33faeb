-- What is found of an office's rows: the first one that no requests lead to.
use Rattle.std.specs.Prelude.{◌≡◌, ◌⊎◌, ◌≤◌, ⊤, ℕ, List, [], ◌∷◌, Some, All, length, slice_get}
use Rattle.std.specs.Prelude.{take}
use Rattle.sts_token.specs.Reading.{IsOfClassZero}
use Rattle.vend_core.specs.Law.Reached.{HasFreshTid, IsBoughtByOne, IsClosedFirst, IsGrantedAfter}
use Rattle.vend_core.specs.Law.Reached.{IsInOpenShift, IsInOwnShift, IsUnderPresentBase}
use Rattle.office_rules.specs.Office.{IsOffice, Office}
use Rattle.office_rules.specs.declared.office.sale.Sale.{Sale}
use Rattle.office_rules.specs.declared.office.shift.Shift.{Shift}
use Rattle.book_tables.specs.Stands.{AreMembersOf}
use Rattle.book_tables.specs.row.Rows.{Rows}
use Rattle.audit_rows.specs.AllRows.{with_totals}
use Rattle.audit_rows.specs.Entries.{rows_of}
use Rattle.audit_rows.specs.declared.finding.Finding.{Finding}
use Rattle.audit_rows.specs.declared.finding.RowKey.TheVariants.{Number}
use Rattle.audit_rows.specs.declared.finding.Rule.{Rule}
use Rattle.audit_rows.specs.declared.finding.Rule.TheVariants as rule
use Rattle.audit_rows.specs.declared.office_rows.OfficeRows.{OfficeRows}
use Rattle.audit_rows.specs.declared.table_name.TableName.TheVariants as table
use Rattle.audit_lists.specs.Ties.{EachBelow, IsFirst, IsTieKept, Tie, found}
use Rattle.audit_lists.specs.declared.fault.OfficeFault.{OfficeFault}
use Rattle.audit_lists.specs.declared.fault.OfficeFault.TheVariants as fault

-- the rows are the members of the office, with some totals
pub record AreRowsOfOffice (r : OfficeRows) (o : Office) : Type 0 where
  pub is : IsOffice o
  pub totals : Rows
  pub members : AreMembersOf (with_totals (rows_of r) totals) o

-- ---- the rule of a shift

-- it was opened once each earlier one of its operator was closed
abbrev pub closed_first : List Shift → Tie
closed_first shifts = record {
  Row = Shift;
  rows = shifts;
  Keeps = λ i s. All (λ a. IsClosedFirst a s) (take i shifts);
  finding = λ _ s. found table.Shifts rule.Order (Number s.number);
}

-- ---- the rules of a sale

-- in the order in which they are looked at
abbrev pub granting_rules : List Rule
granting_rules =
    rule.Operator ∷ rule.Order ∷ rule.Base ∷ rule.Identifier ∷ rule.Price ∷ rule.Token ∷ []

-- what a rule asks of a sale, after those before it; the other rules ask nothing here
abbrev pub Keeps : Rule → Office → List Sale → Sale → Type 0
Keeps rule.Operator o earlier s = IsInOwnShift o s
Keeps rule.Order o earlier s = IsInOpenShift o earlier s
Keeps rule.Base o earlier s = IsUnderPresentBase earlier s
Keeps rule.Identifier o earlier s = HasFreshTid earlier s
Keeps rule.Price o earlier s = IsBoughtByOne o earlier s
Keeps rule.Token o earlier s = IsOfClassZero s.digits
Keeps _ o earlier s = ⊤

-- of these rules it is the first that the sale breaks: it keeps those before
pub record BreaksFirst (rules : List Rule) (o : Office) (earlier : List Sale) (s : Sale)
    (broken : Rule) : Type 0 where
  pub place : ℕ
  pub there : slice_get rules place ≡ Some broken
  pub before : All (λ r. Keeps r o earlier s) (take place rules)
  pub breaks : ¬ Keeps broken o earlier s

-- the finding is of the first sale that breaks a rule, and of the first rule that it breaks
pub record IsFirstSale (o : Office) (f : Finding) : Type 0 where
  pub place : ℕ
  pub sale : Sale
  pub broken : Rule
  pub there : slice_get o.sales place ≡ Some sale
  pub before : EachBelow (λ i s. IsGrantedAfter o (take i o.sales) s) o.sales place
  pub breaks : BreaksFirst granting_rules o (take place o.sales) sale broken
  pub named : f ≡ found table.Sales broken (Number sale.number)

-- ---- all rows

-- the finding is of the first row that no requests lead to: shifts are looked at before sales
abbrev pub FindsByRequests : Office → Finding → Type 0
FindsByRequests o f =
    IsFirst (closed_first o.shifts) f ⊎ (IsTieKept (closed_first o.shifts) × IsFirstSale o f)

-- that is so of each office of these rows; or the shifts keep their rule, and there was no memory
-- for the sales
abbrev pub TellsUnreached : OfficeRows → OfficeFault → Type 0
TellsUnreached r (fault.Found f) = (o : Office) → AreRowsOfOffice r o → FindsByRequests o f
TellsUnreached r fault.Memory =
    IsTieKept (closed_first r.shifts.items) × (1 ≤ length r.sales.items)
