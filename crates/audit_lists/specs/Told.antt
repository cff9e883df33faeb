-- What is known of the rows of all tables once they were tested.
use Rattle.std.specs.Prelude.{◌≡◌, ◌++◌, ◌≤◌, ℕ, zero, suc, List}
use Rattle.office_rules.specs.Office.{IsOffice, Office}
use Rattle.book_tables.specs.Stands.{AreMembersOf}
use Rattle.book_tables.specs.row.Rows.{Rows}
use Rattle.audit_rows.specs.AllRows.{with_totals}
use Rattle.audit_rows.specs.declared.finding.Finding.{Finding}
use Rattle.audit_rows.specs.declared.office_rows.OfficeRows.{OfficeRows}
use Rattle.audit_lists.specs.Rules.{tie_rules}
use Rattle.audit_lists.specs.Ties.{FindsFirst, Tie}
use Rattle.audit_lists.specs.totals.Rules.{total_rules}

-- the rows are the members of an office, with these totals, or with some where the format has no
-- tables of totals
pub record ShowOffice (n : ℕ) (rows : Rows) : Type 0 where
  pub totals : Rows
  pub own : 2 ≤ n → totals ≡ rows
  pub office : Office
  pub is : IsOffice office
  pub members : AreMembersOf (with_totals rows totals) office

-- the rules of a format's tables, in the order in which they are tested: the first format has no
-- tables of totals
abbrev pub rules_of : ℕ → OfficeRows → List Tie
rules_of zero r = tie_rules r
rules_of (suc zero) r = tie_rules r
rules_of (suc (suc n)) r = tie_rules r ++ total_rules r

-- the finding is of the first row that breaks one of them
abbrev pub BreaksOffice : ℕ → OfficeRows → Finding → Type 0
BreaksOffice n r f = FindsFirst (rules_of n r) f
