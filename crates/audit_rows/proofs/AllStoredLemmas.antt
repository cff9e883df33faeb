-- The rows of all tables are stored as those of an office are.
use Rattle.std.proofs.Common.{◌≡◌, ◌≢◌, ◌≤◌, ◌<◌, ◌∙◌, ℕ, zero, suc, Bool, true, false, cond, List, [], ◌∷◌, map, nat_le, filter, IsPermutation, inl, inr, refl, sym, ap, subst, arith}
use Rattle.std.specs.List.{AllByRecursion}
use Rattle.std.proofs.lemmas.Bool.{cases_lt, le-leb, leb-true}
use Rattle.std.proofs.lemmas.List.Sorted.{IsPermutation-map}
use Rattle.sqlite.specs.Effect.{Database, IsDatabase}
use Rattle.sqlite.specs.Order.{Row, column}
use Rattle.sqlite_value.specs.declared.value.Value.TheVariants.{Null, Text}
use Rattle.sts_fields.specs.declared.base.Base.{Base}
use Rattle.office_rules.specs.declared.office.meter.Meter.{Meter}
use Rattle.office_rules.specs.declared.office.sale.Sale.{Sale}
use Rattle.one_table.specs.Numbered.{IsInOrder}
use Rattle.book_tables.specs.format.Format.{TellsFormat}
use Rattle.book_tables.specs.Holds.{AreStoredRows, HasOfficeOf, HoldsOf, HoldsRows, IsKept, rows_in}
use Rattle.book_tables.specs.Kept.{Kept, about_kept, bases_kept, dated_steps_kept, kept, last_ids_kept, meters_kept, month_tenths_kept, sales_kept, shift_totals_kept, shifts_kept, steps_kept, tariffs_kept}
use Rattle.book_tables.specs.row.Rows.{Rows, base_columns, dated_columns, keyed, last_id_columns, meter_columns, month_columns, sale_columns, shift_columns, step_columns, tariff_columns, totals_columns}
use Rattle.book_tables.proofs.HoldsLemmas.{of_upto}
use Rattle.audit_rows.specs.Tables.{kept_of, name_of, read_tables}
use Rattle.audit_rows.specs.declared.table_name.TableName.{TableName}
use Rattle.audit_rows.specs.declared.table_name.TableName.TheVariants as table
use Rattle.audit_rows.specs.Whole.{columns_of}
use Rattle.audit_rows.specs.AllRows.{HasAllRows}
use Rattle.audit_rows.proofs.OnlyLemmas.{AreReordered}
use Rattle.audit_rows.specs.Order.{AreKeptInOrder, HaveAllColumns}
use Rattle.audit_rows.proofs.TableLemmas.{StoredAs, at, hidden_found, long_so, numbered_so, numbered_stored}

-- what holds of each table that came up to a format holds of all of them
first_upto : (P : Kept → Type 0) (n : ℕ) (j : Kept) (rest : List Kept) (b : Bool) → nat_le j.since n ≡ b → (j.since ≤ n → P j)
    → AllByRecursion P rest → AllByRecursion P (cond b (j ∷ rest) rest)
first_upto P n j rest true is holds all = (holds (leb-true j.since n is), all)
first_upto P n j rest false is holds all = all

all_upto : (P : Kept → Type 0) (n : ℕ) (ts : List TableName) → ((t : TableName) → (kept_of t).since ≤ n → P (kept_of t))
    → AllByRecursion P (filter (λ k. nat_le k.since n) (map kept_of ts))
all_upto P n [] each = tt
all_upto P n (t ∷ ts) each = first_upto P n (kept_of t) (filter (λ k. nat_le k.since n) (map kept_of ts)) (nat_le (kept_of t).since n) refl
    (each t) (all_upto P n ts each)

-- the digits of a sale are in the last column of its row
digits_there : (row : Row) (x : Sale) → columns_of sales_kept row ≡ sale_columns x → column row 14 ≢ Null
digits_there row x is null = no_text x.digits (sym null ∙ ap (λ (l : Row). column l 13) is)
  where
    no_text : (t : List ℕ) → Null ≡ Text t → ⊥
    no_text t e = cc

-- `about` holds what is told
about_holds : (n : ℕ) (db : Database) (rows : Rows) → 1 ≤ n → TellsFormat n db → HoldsRows db n rows about_kept
about_holds zero db rows some tells = absurd (omega (arith, some))
about_holds (suc n) db rows some tells = tells

abbrev present_base : List ℕ × Meter → List ℕ × Base
present_base r = (r.0, r.1.base)

module _ (n : ℕ) (db : Database) (sound : IsDatabase db) (has : HasOfficeOf n db.schema) (tells : TellsFormat n db)
    (order : AreKeptInOrder db) (whole : 1 ≤ n → HaveAllColumns db) (rows : Rows) (read : HasAllRows n db rows) where
  there : (t : TableName) → (kept_of t).since ≤ n → IsKept db.schema (kept_of t)
  there t come = of_upto (IsKept db.schema) n (kept_of t) kept (at t) (le-leb (kept_of t).since n come) has.tables

  in_order : (t : TableName) → (kept_of t).since ≤ n → IsInOrder (rows_in db (name_of t))
  in_order t come = order (kept_of t) (there t come)

  -- ---- tables whose rows have no numbers of their own

  tariffs : StoredAs n 1 tariffs_kept db tariff_columns rows.tariffs
  tariffs = hidden_found n 1 db sound tariffs_kept tariff_columns (there table.Tariffs) (in_order table.Tariffs) refl refl
      (λ row x is null. absurd (cc)) rows.tariffs read.tariffs

  steps : StoredAs n 1 steps_kept db step_columns rows.steps
  steps = hidden_found n 1 db sound steps_kept step_columns (there table.TariffSteps) (in_order table.TariffSteps) refl refl
      (λ row x is null. absurd (cc)) rows.steps read.steps

  meters : StoredAs n 1 meters_kept db meter_columns rows.meters
  meters = hidden_found n 1 db sound meters_kept meter_columns (there table.Meters) (in_order table.Meters) refl refl
      (λ row x is null. absurd (cc)) rows.meters read.meters

  last_ids : StoredAs n 2 last_ids_kept db last_id_columns rows.last_ids
  last_ids = hidden_found n 2 db sound last_ids_kept last_id_columns (there table.LastIds) (in_order table.LastIds) refl refl
      (λ row x is null. absurd (cc)) rows.last_ids read.last_ids

  month_tenths : StoredAs n 2 month_tenths_kept db month_columns rows.month_tenths
  month_tenths = hidden_found n 2 db sound month_tenths_kept month_columns (there table.MonthTenths) (in_order table.MonthTenths) refl refl
      (λ row x is null. absurd (cc)) rows.month_tenths read.month_tenths

  -- those of a format without bases are the present ones of its meters
  bases : StoredAs n 3 bases_kept db base_columns rows.bases
  bases = hidden_found n 3 db sound bases_kept base_columns (there table.MeterBases) (in_order table.MeterBases) refl refl
      (λ row x is null. absurd (cc)) rows.bases read.bases

  record BasesAre : Type 0 where
    pub list : List (List ℕ × Base)
    pub same : IsPermutation rows.bases list
    pub of_format : n < 3 → list ≡ map present_base meters.rows
    pub stored : 3 ≤ n → AreStoredRows false (rows_in db bases_kept.table.name) (map base_columns list)

  bases_are : BasesAre
  bases_are = elim (cases_lt n 3) [
    | inl before ↦ record {
      list = map present_base meters.rows;
      same = subst (λ (l : List (List ℕ × Base)). IsPermutation l (map present_base meters.rows)) (sym (read.of_format.bases before))
          (IsPermutation-map present_base rows.meters meters.rows meters.same);
      of_format = λ _. refl;
      stored = λ come. absurd (omega (arith, before, come));
    }
    | inr come ↦ record { list = bases.rows; same = bases.same; of_format = λ before. absurd (omega (arith, before, come)); stored = bases.stored }
  ]

  dated_steps : StoredAs n 4 dated_steps_kept db dated_columns rows.dated_steps
  dated_steps = hidden_found n 4 db sound dated_steps_kept dated_columns (there table.DatedSteps) (in_order table.DatedSteps) refl refl
      (λ row x is null. absurd (cc)) rows.dated_steps read.dated_steps

  -- ---- tables whose rows have numbers of their own

  shifts : 1 ≤ n → rows_in db shifts_kept.table.name ≡ map (λ x. keyed (shift_columns x)) rows.shifts
  shifts come =
      let stands = there table.Shifts come in
      let e = numbered_so shifts_kept shift_columns refl db (in_order table.Shifts come) rows.shifts (read.shifts come) in
      numbered_stored shifts_kept shift_columns refl db sound stands _ _ refl refl refl rows.shifts e (whole come)

  sales : 1 ≤ n → rows_in db sales_kept.table.name ≡ map (λ x. keyed (sale_columns x)) rows.sales
  sales come =
      let stands = there table.Sales come in
      let e = numbered_so sales_kept sale_columns refl db (in_order table.Sales come) rows.sales (read.sales come) in
      numbered_stored sales_kept sale_columns refl db sound stands _ _ refl refl refl rows.sales e
      (long_so sales_kept sale_columns refl db sound stands _ _ refl refl refl digits_there rows.sales e)

  shift_totals : 2 ≤ n → rows_in db shift_totals_kept.table.name ≡ map (λ x. keyed (totals_columns x)) rows.shift_totals
  shift_totals come =
      let stands = there table.ShiftTotals come in
      let e = numbered_so shift_totals_kept totals_columns refl db (in_order table.ShiftTotals come) rows.shift_totals (read.shift_totals come) in
      numbered_stored shift_totals_kept totals_columns refl db sound stands _ _ refl refl refl rows.shift_totals e
      (long_so shift_totals_kept totals_columns refl db sound stands _ _ refl refl refl (λ row x is null. absurd (cc)) rows.shift_totals e)

  -- ---- all of them

  abbrev ordered : Rows
  ordered = record {
    tariffs = tariffs.rows;
    steps = steps.rows;
    meters = meters.rows;
    shifts = rows.shifts;
    sales = rows.sales;
    last_ids = last_ids.rows;
    month_tenths = month_tenths.rows;
    shift_totals = rows.shift_totals;
    bases = bases_are.list;
    dated_steps = dated_steps.rows;
  }

  reordered : AreReordered rows ordered
  reordered = record {
    tariffs = tariffs.same;
    steps = steps.same;
    meters = meters.same;
    shifts = refl;
    sales = refl;
    last_ids = last_ids.same;
    month_tenths = month_tenths.same;
    shift_totals = refl;
    bases = bases_are.same;
    dated_steps = dated_steps.same;
  }

  each : (t : TableName) → (kept_of t).since ≤ n → HoldsRows db n ordered (kept_of t)
  each table.Tariffs = tariffs.stored
  each table.TariffSteps = steps.stored
  each table.Meters = meters.stored
  each table.Shifts = shifts
  each table.Sales = sales
  each table.LastIds = last_ids.stored
  each table.MonthTenths = month_tenths.stored
  each table.ShiftTotals = shift_totals
  each table.MeterBases = bases_are.stored
  each table.DatedSteps = dated_steps.stored

  -- the database holds these rows, put in the order in which they stand in the tables
  pub all_stored : (b : Rows) × AreReordered rows b × HoldsOf n n db b
  all_stored = (
    ordered,
    reordered,
    record {
      has = has;
      are = first_upto (HoldsRows db n ordered) n about_kept (filter (λ k. nat_le k.since n) (map kept_of read_tables)) (nat_le 1 n) refl
          (λ some. about_holds n db ordered some tells)
          (all_upto (HoldsRows db n ordered) n read_tables each);
      of_format = record { bases = bases_are.of_format; dated_steps = λ before. dated_steps.before before ∙ read.of_format.dated_steps before };
    },
  )
