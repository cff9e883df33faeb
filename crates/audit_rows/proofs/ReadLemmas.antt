-- The records that were read of each table, as rows of an office.
use Rattle.std.proofs.Common.{◌≡◌, ◌∙◌, ℕ, List, [], ◌∷◌, map, Result, refl, sym, ap, ap₂, subst, arith}
use Rattle.std.specs.Prelude.{All}
use Rattle.std.proofs.lemmas.List.Elements.{All-head, All-map, All-tail, All-weaker}
use Rattle.sqlite.specs.Effect.{Database}
use Rattle.sqlite.specs.Order.{Row}
use Rattle.sqlite.specs.State.{IsUnchanged, State}
use Rattle.sqlite_keyed.proofs.ListLemmas.{map-map, map_same}
use Rattle.sts_fields.specs.Calendar.{month_at}
use Rattle.sts_fields.specs.Day.{IsDay}
use Rattle.sts_fields.specs.declared.base.Base.{Base}
use Rattle.office_rules.specs.Name.{IsMeterNo, IsName}
use Rattle.office_rules.specs.declared.office.meter.Meter.{Meter}
use Rattle.one_table.specs.ReadsOnly.{ReadsOnly}
use Rattle.one_table.proofs.ReadsOnlyLemmas.{read_where}
use Rattle.book_tables.specs.Kept.{Kept, bases_kept, dated_steps_kept, last_ids_kept, meters_kept, month_tenths_kept, sales_kept, shift_totals_kept, shifts_kept, steps_kept, tariffs_kept}
use Rattle.book_tables.specs.declared.reading.pages.MeterRow.{MeterRow}
use Rattle.book_tables.specs.row.Rows.{DatedStepRow, Rows, StepRow, base_columns, dated_columns, last_id_columns, meter_columns, month_columns, sale_columns, shown_shift, step_columns, tariff_columns, totals_columns}
use Rattle.book_tables.specs.row.Values.{AreMeterValues, AreSaleValues, AreShiftValues, AreStepValues}
use Rattle.audit_rows.specs.Fails.{FailsToReadTables, HaveTables, IsKnown}
use Rattle.audit_rows.specs.declared.finding.AuditFault.{AuditFault}
use Rattle.audit_rows.specs.Records.{shown_base, shown_dated_step, shown_last_id, shown_meter_row, shown_month, shown_shift_totals, shown_step_row}
use Rattle.audit_rows.specs.Sales.{AreBookedValues, shown_sale_row}
use Rattle.audit_rows.specs.Tables.{tables_of}
use Rattle.audit_rows.specs.Values.{AreBaseValues, AreDatedStepValues, AreLastIdValues, AreMeterRowValues, AreMonthValues, AreShiftTotalsValues, AreStepRowValues}
use Rattle.audit_rows.specs.Whole.{AreListed, IsTableListing}
use Rattle.audit_rows.specs.declared.rows.BaseRow.{BaseRow}
use Rattle.audit_rows.specs.declared.rows.DatedStepRow.{DatedStepRow as DatedStepRead}
use Rattle.audit_rows.specs.declared.rows.LastId.{LastId}
use Rattle.audit_rows.specs.declared.rows.MonthTenths.{MonthTenths}
use Rattle.audit_rows.specs.declared.rows.ShiftTotals.{ShiftTotals}
use Rattle.audit_rows.specs.declared.rows.StepRow.{StepRow as StepRead}
use Rattle.audit_rows.specs.declared.sale_row.SaleRow.{SaleRow}
use Rattle.audit_rows.specs.declared.table_name.TableName.{TableName}
use Rattle.audit_rows.proofs.TableLemmas.{have_tables}
use Rattle.audit_rows.specs.AllRows.{HasRowsOf, HasTablesOf, IsReadAs}
use Rattle.audit_rows.specs.Entries.{base_entry, dated_entry, last_id_entry, meter_entry, month_entry, present_base, rows_of, sale_entry, step_entry, totals_entry}
use Rattle.audit_rows.specs.declared.office_rows.OfficeRows.{OfficeRows}

-- ---- one table

-- what each record shows are the columns of its entry
shows_entry : {T X : Type 0} (shown : T → Row) (columns : X → Row) (entry : T → X) → ((t : T) → columns (entry t) ≡ shown t)
    → (xs : List T) → map columns (map entry xs) ≡ map shown xs
shows_entry shown columns entry same xs = map-map columns entry xs ∙ map_same (λ t. columns (entry t)) shown same xs

-- rows in their months show their sales
in_months : (rs : List SaleRow) → All AreBookedValues rs → map sale_columns (map sale_entry rs) ≡ map shown_sale_row rs
in_months [] all = refl
in_months (r ∷ rs) all =
    let month = (All-head AreBookedValues r rs all).month in
    let own : SaleRow = record { sale = r.sale; month = month_at r.sale.moment } in
    let read : SaleRow = record { sale = r.sale; month = r.month } in
    let same : own ≡ read = ap (λ (m : ℕ). let s : SaleRow = record { sale = r.sale; month = m } in s) (sym month) in
    ap₂ ◌∷◌ (ap shown_sale_row same) (in_months rs (All-tail AreBookedValues r rs all))

-- the rows are those of the entries
listed_as : {T X : Type 0} {shown : T → Row} {keeps : T → Type 0} (columns : X → Row) (entry : T → X) (k : Kept) (db : Database)
    (xs : List T) → map columns (map entry xs) ≡ map shown xs → AreListed shown keeps k db xs → HasRowsOf columns k db (map entry xs)
listed_as columns entry k db xs same are = subst (IsTableListing k db) (sym same) are.listed

has_rows : {T X : Type 0} {shown : T → Row} {keeps : T → Type 0} (columns : X → Row) (entry : T → X) (k : Kept)
    → ((t : T) → columns (entry t) ≡ shown t) → (db : Database) (xs : List T) → AreListed shown keeps k db xs → HasRowsOf columns k db (map entry xs)
has_rows {shown = shown} columns entry k same db xs are = listed_as columns entry k db xs (shows_entry shown columns entry same xs) are

-- ---- the tables of the first format

module _ (db : Database) (r : OfficeRows) where
  abbrev rows : Rows
  rows = rows_of r

  -- bases that were made of the meters are those of the meters
  pub present_bases : r.bases.items ≡ map present_base r.meters.items → rows.bases ≡ map (λ m. (m.0, m.1.base)) rows.meters
  present_bases are = ap (map base_entry) are ∙ map-map base_entry present_base r.meters.items
      ∙ sym (map-map (λ (m : List ℕ × Meter). (m.0, m.1.base)) meter_entry r.meters.items)

  bases_keep : All AreMeterRowValues r.meters.items → r.bases.items ≡ map present_base r.meters.items → All (λ (b : List ℕ × Base). IsMeterNo b.0) rows.bases
  bases_keep keep are = All-map (λ (b : List ℕ × Base). IsMeterNo b.0) base_entry r.bases.items
      (subst (All (λ (b : BaseRow). IsMeterNo b.meter)) (sym are)
      (All-map (λ (b : BaseRow). IsMeterNo b.meter) present_base r.meters.items
      (All-weaker AreMeterRowValues (λ (m : MeterRow). IsMeterNo m.number) (λ m values. values.0) r.meters.items keep)))

  module _ (tariffs : AreListed tariff_columns IsName tariffs_kept db r.tariffs.items)
      (steps : AreListed shown_step_row AreStepRowValues steps_kept db r.steps.items)
      (meters : AreListed shown_meter_row AreMeterRowValues meters_kept db r.meters.items)
      (shifts : AreListed shown_shift AreShiftValues shifts_kept db r.shifts.items)
      (read : List SaleRow)
      (sales : AreListed shown_sale_row AreBookedValues sales_kept db read)
      (are : r.sales.items ≡ map sale_entry read)
      (bases : r.bases.items ≡ map present_base r.meters.items)
      (dated_steps : r.dated_steps.items ≡ []) where
    -- tables of the first format, each read whole, were read as these rows
    pub first_read : IsReadAs 1 db rows
    first_read = record {
      has = record {
        tariffs = λ _. tariffs.listed;
        steps = λ _. has_rows step_columns step_entry steps_kept (λ t. refl) db r.steps.items steps;
        meters = λ _. has_rows meter_columns meter_entry meters_kept (λ t. refl) db r.meters.items meters;
        shifts = λ _. shifts.listed;
        sales = λ _. subst (HasRowsOf sale_columns sales_kept db) (sym are)
            (listed_as sale_columns sale_entry sales_kept db read (in_months read sales.kept) sales);
        last_ids = λ come. absurd (omega (arith, come));
        month_tenths = λ come. absurd (omega (arith, come));
        shift_totals = λ come. absurd (omega (arith, come));
        bases = λ come. absurd (omega (arith, come));
        dated_steps = λ come. absurd (omega (arith, come));
        of_format = record { bases = λ _. present_bases bases; dated_steps = λ _. ap (map dated_entry) dated_steps };
      };
      keep = record {
        tariffs = tariffs.kept;
        steps = All-map (λ (s : StepRow). IsName s.tariff × AreStepValues s.step) step_entry r.steps.items
            (All-weaker AreStepRowValues (λ (s : StepRead). IsName s.tariff × AreStepValues s.step)
            (λ s values. (values.tariff, values.step)) r.steps.items steps.kept);
        meters = All-map (λ (m : List ℕ × Meter). IsMeterNo m.0 × AreMeterValues m.1) meter_entry r.meters.items meters.kept;
        shifts = shifts.kept;
        sales = subst (All AreSaleValues) (sym are) (All-map AreSaleValues sale_entry read
            (All-weaker AreBookedValues (λ (s : SaleRow). AreSaleValues s.sale) (λ s booked. booked.values.sale) read sales.kept));
        bases = bases_keep meters.kept bases;
        dated_steps = subst (All (λ (s : DatedStepRow). IsName s.tariff × (IsDay s.day × AreStepValues s.step)))
            (sym (ap (map dated_entry) dated_steps)) (λ i d low. absurd (omega (arith, low)));
      };
    }

-- ---- the tables that came later

module _ (db : Database) (rows : Rows) where
  -- with the totals that were read beside them, the tables of the second format
  pub second_read : IsReadAs 1 db rows → (last_ids : List LastId) (month_tenths : List MonthTenths) (shift_totals : List ShiftTotals)
      → AreListed shown_last_id AreLastIdValues last_ids_kept db last_ids
      → AreListed shown_month AreMonthValues month_tenths_kept db month_tenths
      → AreListed shown_shift_totals AreShiftTotalsValues shift_totals_kept db shift_totals
      → IsReadAs 2 db (record rows {
        last_ids = map last_id_entry last_ids;
        month_tenths = map month_entry month_tenths;
        shift_totals = map totals_entry shift_totals;
      })
  second_read first last_ids month_tenths shift_totals ids tenths totals = record {
    has = record {
      tariffs = λ _. first.has.tariffs (omega arith);
      steps = λ _. first.has.steps (omega arith);
      meters = λ _. first.has.meters (omega arith);
      shifts = λ _. first.has.shifts (omega arith);
      sales = λ _. first.has.sales (omega arith);
      last_ids = λ _. has_rows last_id_columns last_id_entry last_ids_kept (λ t. refl) db last_ids ids;
      month_tenths = λ _. has_rows month_columns month_entry month_tenths_kept (λ t. refl) db month_tenths tenths;
      shift_totals = λ _. has_rows totals_columns totals_entry shift_totals_kept (λ t. refl) db shift_totals totals;
      bases = λ come. absurd (omega (arith, come));
      dated_steps = λ come. absurd (omega (arith, come));
      of_format = record { bases = λ _. first.has.of_format.bases (omega arith); dated_steps = λ _. first.has.of_format.dated_steps (omega arith) };
    };
    keep = record {
      tariffs = first.keep.tariffs;
      steps = first.keep.steps;
      meters = first.keep.meters;
      shifts = first.keep.shifts;
      sales = first.keep.sales;
      bases = first.keep.bases;
      dated_steps = first.keep.dated_steps;
    };
  }

  -- with the bases of meters that were read, the tables of the third
  pub third_read : IsReadAs 2 db rows → (bases : List BaseRow) → AreListed shown_base AreBaseValues bases_kept db bases
      → IsReadAs 3 db (record rows { bases = map base_entry bases })
  third_read second bases are = record {
    has = record {
      tariffs = λ _. second.has.tariffs (omega arith);
      steps = λ _. second.has.steps (omega arith);
      meters = λ _. second.has.meters (omega arith);
      shifts = λ _. second.has.shifts (omega arith);
      sales = λ _. second.has.sales (omega arith);
      last_ids = λ _. second.has.last_ids (omega arith);
      month_tenths = λ _. second.has.month_tenths (omega arith);
      shift_totals = λ _. second.has.shift_totals (omega arith);
      bases = λ _. has_rows base_columns base_entry bases_kept (λ t. refl) db bases are;
      dated_steps = λ come. absurd (omega (arith, come));
      of_format = record { bases = λ before. absurd (omega (arith, before)); dated_steps = λ _. second.has.of_format.dated_steps (omega arith) };
    };
    keep = record {
      tariffs = second.keep.tariffs;
      steps = second.keep.steps;
      meters = second.keep.meters;
      shifts = second.keep.shifts;
      sales = second.keep.sales;
      bases = All-map (λ (b : List ℕ × Base). IsMeterNo b.0) base_entry bases are.kept;
      dated_steps = second.keep.dated_steps;
    };
  }

  -- with the steps of later days that were read, the tables of the fourth
  pub fourth_read : IsReadAs 3 db rows → (dated_steps : List DatedStepRead)
      → AreListed shown_dated_step AreDatedStepValues dated_steps_kept db dated_steps
      → IsReadAs 4 db (record rows { dated_steps = map dated_entry dated_steps })
  fourth_read third dated_steps are = record {
    has = record {
      tariffs = λ _. third.has.tariffs (omega arith);
      steps = λ _. third.has.steps (omega arith);
      meters = λ _. third.has.meters (omega arith);
      shifts = λ _. third.has.shifts (omega arith);
      sales = λ _. third.has.sales (omega arith);
      last_ids = λ _. third.has.last_ids (omega arith);
      month_tenths = λ _. third.has.month_tenths (omega arith);
      shift_totals = λ _. third.has.shift_totals (omega arith);
      bases = λ _. third.has.bases (omega arith);
      dated_steps = λ _. has_rows dated_columns dated_entry dated_steps_kept (λ t. refl) db dated_steps are;
      of_format = record { bases = λ before. absurd (omega (arith, before)); dated_steps = λ before. absurd (omega (arith, before)) };
    };
    keep = record {
      tariffs = third.keep.tariffs;
      steps = third.keep.steps;
      meters = third.keep.meters;
      shifts = third.keep.shifts;
      sales = third.keep.sales;
      bases = third.keep.bases;
      dated_steps = All-map (λ (s : DatedStepRow). IsName s.tariff × (IsDay s.day × AreStepValues s.step)) dated_entry dated_steps
          (All-weaker AreDatedStepValues (λ (s : DatedStepRead). IsName s.tariff × (IsDay s.day × AreStepValues s.step))
          (λ s values. (values.tariff, (values.day, values.step))) dated_steps are.kept);
    };
  }

-- ---- what is read as the tables of a format

module _ (tables : List TableName) (n format : ℕ) (reads : tables ≡ tables_of n) (is : format ≡ n) where
  same_tables : tables ≡ tables_of format
  same_tables = reads ∙ ap tables_of (sym is)

  -- the tables that are read are there where those of the format are
  pub known_tables : (s : State) → IsKnown (HasTablesOf format) s → IsKnown (HaveTables tables) s
  known_tables s known runs = subst (λ (ts : List TableName). HaveTables ts s.now) (sym same_tables) (have_tables format s.now (known runs))

  -- a read of these tables is one of the tables of the format
  pub of_format : {T : Type 0} {old new : State} (r : Result T AuditFault)
      → ReadsOnly (IsKnown (HaveTables tables)) IsUnchanged (FailsToReadTables tables) old new r
      → ReadsOnly (IsKnown (HasTablesOf format)) IsUnchanged (FailsToReadTables (tables_of format)) old new r
  of_format {old = old} {new} r this = subst (λ (ts : List TableName). ReadsOnly (IsKnown (HasTablesOf format)) IsUnchanged
      (FailsToReadTables ts) old new r) same_tables
      (read_where r (known_tables old) this (λ clean known. this.faults clean (known_tables old known)))
