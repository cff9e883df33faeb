-- The tokens of an office's sales, where one transform wrote them all.
use Rattle.sts_token.specs.Token.{BlockFunction}
use Rattle.vend_core.specs.Law.Reached.{IsWrittenBy}
use Rattle.office_rules.specs.Office.{Office}
use Rattle.audit_rows.specs.declared.finding.Finding.{Finding}
use Rattle.audit_rows.specs.declared.finding.Rule.TheVariants as rule
use Rattle.audit_rows.specs.declared.office_rows.OfficeRows.{OfficeRows}
use Rattle.audit_lists.specs.Tables.{listed_sales}
use Rattle.audit_lists.specs.Ties.{IsFirst, Tie, each}
use Rattle.audit_lists.specs.reached.Finds.{AreRowsOfOffice}

-- the digits of each sale are the token of its fields, by the transform and its meter's key
abbrev pub written_tie : BlockFunction → Office → Tie
written_tie forward o = each (listed_sales o.sales) rule.Token (IsWrittenBy forward o)

-- the finding is of the first sale of which they are not, in each office of these rows
abbrev pub TellsUnwritten : BlockFunction → OfficeRows → Finding → Type 0
TellsUnwritten forward r f =
    (o : Office) → AreRowsOfOffice r o → IsFirst (written_tie forward o) f
