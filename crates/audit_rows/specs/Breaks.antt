-- A row that by itself is none of an office's, and is the first such row of the tables.
use Rattle.std.specs.Prelude.{◌≡◌, ◌++◌, ℕ, List, ◌∷◌, All}
use Rattle.sqlite.specs.Effect.{Database}
use Rattle.sqlite.specs.Order.{Row}
use Rattle.office_rules.specs.Name.{IsName}
use Rattle.book_tables.specs.Holds.{IsKept}
use Rattle.book_tables.specs.reading.Reading.{ShowsRecord}
use Rattle.book_tables.specs.row.Rows.{shown_shift, tariff_columns}
use Rattle.book_tables.specs.row.Values.{AreShiftValues}
use Rattle.audit_rows.specs.Records.{shown_base, shown_dated_step, shown_last_id, shown_meter_row}
use Rattle.audit_rows.specs.Records.{shown_month, shown_shift_totals, shown_step_row}
use Rattle.audit_rows.specs.Sales.{AreBookedValues, AreSaleRowValues, IsInItsMonth, shown_sale_row}
use Rattle.audit_rows.specs.Tables.{kept_of}
use Rattle.audit_rows.specs.Values.{AreBaseValues, AreDatedStepValues, AreLastIdValues}
use Rattle.audit_rows.specs.Values.{AreMeterRowValues, AreMonthValues, AreShiftTotalsValues}
use Rattle.audit_rows.specs.Values.{AreStepRowValues}
use Rattle.audit_rows.specs.Whole.{IsTableListing, all_columns}
use Rattle.audit_rows.specs.declared.finding.Finding.{Finding}
use Rattle.audit_rows.specs.declared.finding.RowKey.{RowKey}
use Rattle.audit_rows.specs.declared.finding.RowKey.TheVariants as key
use Rattle.audit_rows.specs.declared.finding.Rule.{Rule}
use Rattle.audit_rows.specs.declared.finding.Rule.TheVariants as rule
use Rattle.audit_rows.specs.declared.sale_row.SaleRow.{SaleRow}
use Rattle.audit_rows.specs.declared.table_name.TableName.{TableName}
use Rattle.audit_rows.specs.declared.table_name.TableName.TheVariants as table

-- ---- one table

-- the columns are those of a record whose values keep their rules
abbrev pub ShowsOf : TableName → Row → Type 0
ShowsOf table.Tariffs row = ShowsRecord tariff_columns IsName row
ShowsOf table.TariffSteps row = ShowsRecord shown_step_row AreStepRowValues row
ShowsOf table.Meters row = ShowsRecord shown_meter_row AreMeterRowValues row
ShowsOf table.Shifts row = ShowsRecord shown_shift AreShiftValues row
ShowsOf table.Sales row = ShowsRecord shown_sale_row AreBookedValues row
ShowsOf table.LastIds row = ShowsRecord shown_last_id AreLastIdValues row
ShowsOf table.MonthTenths row = ShowsRecord shown_month AreMonthValues row
ShowsOf table.ShiftTotals row = ShowsRecord shown_shift_totals AreShiftTotalsValues row
ShowsOf table.MeterBases row = ShowsRecord shown_base AreBaseValues row
ShowsOf table.DatedSteps row = ShowsRecord shown_dated_step AreDatedStepValues row

-- each row of the table shows one
abbrev pub HasTrueRows : Database → TableName → Type 0
HasTrueRows db t = All (ShowsOf t) (all_columns (kept_of t) db)

-- as the table is listed, each row before this one shows one, and this row shows none
pub record IsFirstFalse (t : TableName) (db : Database) (row : Row) : Type 0 where
  pub before : List Row
  pub after : List Row
  pub listed : IsTableListing (kept_of t) db (before ++ (row ∷ after))
  pub shown : All (ShowsOf t) before
  pub shows_none : ¬ ShowsOf t row

-- the row is that of the sale of this number, and tells another month than that of its moment
abbrev pub IsOtherMonth : ℕ → TableName → Row → Type 0
IsOtherMonth n t row =
    (t ≡ table.Sales) × ((r : SaleRow) × (r.sale.number ≡ n) × (shown_sale_row r ≡ row)
    × AreSaleRowValues r × ¬ IsInItsMonth r)

-- what a row breaks that shows no record: the rule of the month, or else its values are those of
-- none, whatever the month
abbrev pub BreaksByItself : Rule → RowKey → TableName → Row → Type 0
BreaksByItself rule.Month (key.Number n) t row = IsOtherMonth n t row
BreaksByItself rule.Value (key.Columns columns) t row =
    (columns ≡ row) × ((n : ℕ) → ¬ IsOtherMonth n t row)
BreaksByItself _ _ t row = ⊥

-- a finding of the row
pub record IsBroken (t : TableName) (row : Row) (f : Finding) : Type 0 where
  pub of_table : f.table ≡ t
  pub breaks : BreaksByItself f.rule f.row t row

-- ---- some tables, one after another

-- each row of the tables before shows a record, and of this table the finding names the first that
-- shows none
pub record Breaks (tables : List TableName) (f : Finding) (db : Database) : Type 0 where
  pub before : List TableName
  pub after : List TableName
  pub read : tables ≡ before ++ (f.table ∷ after)
  pub whole : All (HasTrueRows db) before
  pub there : IsKept db.schema (kept_of f.table)
  pub row : Row
  pub first : IsFirstFalse f.table db row
  pub breaks : BreaksByItself f.rule f.row f.table row
