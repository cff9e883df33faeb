-- The rows of all tables of a database: as they are read, and as those of an office.
use Rattle.std.specs.Prelude.{◌≤◌, ℕ, List, All, map}
use Rattle.sqlite.specs.Effect.{Database}
use Rattle.sqlite.specs.Order.{Row}
use Rattle.sts_fields.specs.Day.{IsDay}
use Rattle.office_rules.specs.Name.{IsMeterNo, IsName}
use Rattle.book_tables.specs.Holds.{HasOfficeOf}
use Rattle.book_tables.specs.Kept.{Kept, bases_kept, dated_steps_kept, last_ids_kept, meters_kept}
use Rattle.book_tables.specs.Kept.{month_tenths_kept, sales_kept, shift_totals_kept, shifts_kept}
use Rattle.book_tables.specs.Kept.{steps_kept, tariffs_kept}
use Rattle.book_tables.specs.row.Rows.{Rows, base_columns, dated_columns, last_id_columns}
use Rattle.book_tables.specs.row.Rows.{meter_columns, month_columns, sale_columns, shift_columns}
use Rattle.book_tables.specs.row.Rows.{step_columns, tariff_columns, totals_columns}
use Rattle.book_tables.specs.row.Values.{AreMeterValues, AreSaleValues, AreShiftValues}
use Rattle.book_tables.specs.row.Values.{AreStepValues}
use Rattle.book_tables.specs.Stands.{IsOfFormat}
use Rattle.audit_rows.specs.Whole.{IsTableListing}

-- the table has the rows of these records and no other: in some order, or by their numbers where
-- they have any
abbrev pub HasRowsOf : {X : Type 0} → (X → Row) → Kept → Database → List X → Type 0
HasRowsOf columns k db xs = IsTableListing k db (map columns xs)

-- each table of a format has these rows: those without numbers of their own in some order; and what
-- the format lacks is what it would have
pub record HasAllRows (n : ℕ) (db : Database) (rows : Rows) : Type 0 where
  pub tariffs : 1 ≤ n → HasRowsOf tariff_columns tariffs_kept db rows.tariffs
  pub steps : 1 ≤ n → HasRowsOf step_columns steps_kept db rows.steps
  pub meters : 1 ≤ n → HasRowsOf meter_columns meters_kept db rows.meters
  pub shifts : 1 ≤ n → HasRowsOf shift_columns shifts_kept db rows.shifts
  pub sales : 1 ≤ n → HasRowsOf sale_columns sales_kept db rows.sales
  pub last_ids : 2 ≤ n → HasRowsOf last_id_columns last_ids_kept db rows.last_ids
  pub month_tenths : 2 ≤ n → HasRowsOf month_columns month_tenths_kept db rows.month_tenths
  pub shift_totals : 2 ≤ n → HasRowsOf totals_columns shift_totals_kept db rows.shift_totals
  pub bases : 3 ≤ n → HasRowsOf base_columns bases_kept db rows.bases
  pub dated_steps : 4 ≤ n → HasRowsOf dated_columns dated_steps_kept db rows.dated_steps
  pub of_format : IsOfFormat n rows

-- the rows, with the totals of others
abbrev pub with_totals : Rows → Rows → Rows
with_totals rows others = record rows {
  last_ids = others.last_ids;
  month_tenths = others.month_tenths;
  shift_totals = others.shift_totals;
}

-- the values of each row keep the rules of their own
pub record KeepRules (rows : Rows) : Type 0 where
  pub tariffs : All IsName rows.tariffs
  pub steps : All (λ r. IsName r.tariff × AreStepValues r.step) rows.steps
  pub meters : All (λ m. IsMeterNo m.0 × AreMeterValues m.1) rows.meters
  pub shifts : All AreShiftValues rows.shifts
  pub sales : All AreSaleValues rows.sales
  pub bases : All (λ b. IsMeterNo b.0) rows.bases
  pub dated_steps
      : All (λ r. IsName r.tariff × (IsDay r.day × AreStepValues r.step)) rows.dated_steps

-- the tables of a format were read whole, as these rows
pub record IsReadAs (n : ℕ) (db : Database) (rows : Rows) : Type 0 where
  pub has : HasAllRows n db rows
  pub keep : KeepRules rows

-- the tables of a format are there
abbrev pub HasTablesOf : ℕ → Database → Type 0
HasTablesOf n db = HasOfficeOf n db.schema
