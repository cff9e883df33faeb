-- Each row of a table of an office shows a record, so a false row is no office's.
use Rattle.std.proofs.Common.{Bool, IfSome, List, None, Option, Some, [], ap, ap₂, arith, drop, false, inl, map, nat_le, refl, subst, suc, sym, true, zero, ℕ, ◌++◌, ◌<◌, ◌^◌, ◌||◌, ◌∙◌, ◌∷◌, ◌≡◌, ◌≤◌}
use Rattle.std.proofs.lemmas.Bool.{false≢true, le-leb}
use Rattle.sqlite.specs.Effect.{Database}
use Rattle.sqlite_rules.specs.Lists.{Has as Member}
use Rattle.office_rules.specs.Office.{Office}
use Rattle.book_tables.specs.format.Format.{TellsFormat}
use Rattle.book_tables.specs.Holds.{AreStoredRows, HasOfficeOf, HoldsOf, HoldsRows, IsKept, StandsFor, rows_in}
use Rattle.book_tables.specs.Kept.{Kept, about_kept, bases_kept, dated_steps_kept, kept, last_ids_kept, meters_kept, month_tenths_kept, sales_kept, shift_totals_kept, shifts_kept, steps_kept, tariffs_kept}
use Rattle.book_tables.specs.row.Rows.{DatedStepRow, Rows, StepRow, base_columns, dated_columns, last_id_columns, meter_columns, month_columns, sale_columns, sale_row, shift_columns, shift_row, shown_shift, step_columns, tariff_columns, totals_columns, totals_row}
use Rattle.book_tables.proofs.HoldsLemmas.{free_later, of_upto}
use Rattle.audit_rows.specs.Fails.{HasNoFormat}
use Rattle.std.specs.Prelude.{All, Contains, bytes_eq, is_some, map, not, slice_get, sum_by, ◌&&◌, ◌==◌}
use Rattle.std.proofs.lemmas.List.Elements.{All-contains, All-map, Contains-append_right, Contains-get_or}
use Rattle.std.proofs.lemmas.Option.{get_or_from_slice_get, same_Some, slice_get_within}
use Rattle.sqlite.specs.Order.{Row}
use Rattle.sqlite_catalog.specs.Change.{is_used}
use Rattle.sqlite_keyed.proofs.ListLemmas.{map-map, map_same}
use Rattle.sqlite_schema.specs.declared.schema.Schema.{Schema}
use Rattle.sqlite_value.specs.declared.value.Value.{Value}
use Rattle.book_tables.specs.reading.Reading.{AreOfOffice, ShowsRecord, meter_row}
use Rattle.office_rules.proofs.OfficeLemmas.MapLemmas.{all_from_contains}
use Rattle.audit_rows.specs.Whole.{all_columns, columns_of}
use Rattle.std.proofs.lemmas.List.Sorted.{Contains-permutation}
use Rattle.std.proofs.lemmas.List.Filters.{length-filter_both}
use Rattle.std.proofs.lemmas.List.Sums.{sum_by-le}
use Rattle.sts_fields.specs.Amount.{IsRepresentable}
use Rattle.sts_fields.specs.Base.{base_eq}
use Rattle.sts_fields.specs.Calendar.{month_at}
use Rattle.sts_fields.specs.Moment.{IsMoment}
use Rattle.sts_fields.specs.Tid.{last_tid}
use Rattle.sts_fields.specs.declared.base.Base.{Base}
use Rattle.tariff.specs.Steps.{EndFits, HasPrice}
use Rattle.office_rules.specs.Office.Lookup.{greatest_of}
use Rattle.office_rules.specs.Name.{IsMeterNo, IsName}
use Rattle.office_rules.specs.declared.office.meter.Meter.{Meter}
use Rattle.office_rules.specs.declared.office.sale.Sale.{Sale}
use Rattle.book_tables.specs.Stands.{AreMembersOf, sales_in_month, sales_in_shift, sales_under, tenths_of, totals_of}
use Rattle.book_tables.specs.row.Values.{AreSaleValues, AreShiftValues, AreStepValues, AreTotalsValues, IsNumber, IsTotal}
use Rattle.book_tables.specs.declared.row.totals.Totals.{Totals}
use Rattle.book_tables.proofs.ListLemmas.{contains_first}
use Rattle.book_tables.proofs.ReadingLemmas.SaleLemmas.{sales_keep_values}
use Rattle.book_tables.proofs.SalesOfLemmas.{greatest_within, tells_month, tells_number, tells_under}
use Rattle.book_tables.proofs.ReadingLemmas.ShiftLemmas.{shifts_keep_values}
use Rattle.book_tables.proofs.ReadingLemmas.StepLemmas.{there_passes}
use Rattle.book_tables.proofs.ReadingLemmas.TariffLemmas.{tariff_names_keep}
use Rattle.book_tables.proofs.ReadingLemmas.TotalsReadLemmas.{totals_found}
use Rattle.book_tables.proofs.RowLemmas.ValueLemmas.{meters_keep, steps_keep, tariff_name}
use Rattle.audit_rows.specs.Breaks.{Breaks, HasTrueRows, ShowsOf}
use Rattle.audit_rows.specs.Records.{shown_base, shown_dated_step, shown_last_id, shown_meter_row, shown_month, shown_shift_totals, shown_step_row}
use Rattle.audit_rows.specs.Sales.{AreBookedValues, shown_sale_row}
use Rattle.audit_rows.specs.Tables.{kept_of}
use Rattle.audit_rows.specs.Values.{AreBaseValues, AreDatedStepValues, AreLastIdValues, AreMeterRowValues, AreMonthValues, AreShiftTotalsValues, AreStepRowValues}
use Rattle.audit_rows.specs.declared.rows.BaseRow.{BaseRow}
use Rattle.audit_rows.specs.declared.rows.DatedStepRow.{DatedStepRow as DatedRead}
use Rattle.audit_rows.specs.declared.rows.LastId.{LastId}
use Rattle.audit_rows.specs.declared.rows.MonthTenths.{MonthTenths}
use Rattle.audit_rows.specs.declared.rows.ShiftTotals.{ShiftTotals}
use Rattle.audit_rows.specs.declared.rows.StepRow.{StepRow as StepRead}
use Rattle.audit_rows.specs.declared.sale_row.SaleRow.{SaleRow}
use Rattle.audit_rows.specs.declared.table_name.TableName.{TableName}
use Rattle.audit_rows.specs.declared.finding.Finding.{Finding}
use Rattle.audit_rows.proofs.TableLemmas.{at}
use Rattle.audit_rows.specs.declared.table_name.TableName.TheVariants as table

at_about : Member kept about_kept
at_about = inl refl

-- a database that holds rows of a format tells that format
pub held_tells : (n : ℕ) (db : Database) (rows : Rows) → HoldsOf n n db rows → TellsFormat n db
held_tells zero db rows held = tt
held_tells (suc n) db rows held = of_upto (HoldsRows db (suc n) rows) (suc n) about_kept kept at_about (le-leb 1 (suc n) (omega arith)) held.are

-- a database without a format stands for no office
pub no_format_none : (db : Database) (o : Office) → HasNoFormat db → StandsFor db o → ⊥
no_format_none db o none stands = none stands.format stands.known stands.held.1.has (held_tells stands.format db stands.held.0 stands.held.1)

-- ---- the columns of rows that are stored

-- behind hidden numbers
pub columns_hidden : {X : Type 0} (k : Kept) (columns : X → Row) → ((v : Value) (x : X) → columns_of k (v ∷ columns x) ≡ columns x)
    → ((x : X) → columns x ≡ [] → ⊥) → (rows : List Row) (xs : List X) → map (drop 1) rows ≡ map columns xs
    → map (columns_of k) rows ≡ map columns xs
columns_hidden k columns same some [] [] e = refl
columns_hidden k columns same some [] (x ∷ xs) e = absurd (cc)
columns_hidden k columns same some (r ∷ rows) [] e = absurd (cc)
columns_hidden k columns same some ([] ∷ rows) (x ∷ xs) e = absurd (some x (let first : columns x ≡ [] = cc in first))
columns_hidden k columns same some ((v ∷ r) ∷ rows) (x ∷ xs) e =
    let first : r ≡ columns x = cc in
    let rest : map (drop 1) rows ≡ map columns xs = cc in
    ap₂ ◌∷◌ (ap (λ (c : Row). columns_of k (v ∷ c)) first ∙ same v x) (columns_hidden k columns same some rows xs rest)

-- and with numbers of their own
pub columns_numbered : {X : Type 0} (k : Kept) (stored columns : X → Row) → ((x : X) → columns_of k (stored x) ≡ columns x)
    → (rows : List Row) (xs : List X) → rows ≡ map stored xs → map (columns_of k) rows ≡ map columns xs
columns_numbered k stored columns same rows xs e =
    ap (map (columns_of k)) e ∙ map-map (columns_of k) stored xs ∙ map_same (λ x. columns_of k (stored x)) columns same xs

-- ---- a table that is there is one of the office's

first_true : (x y z : Bool) → x ≡ true → (x || y || z) ≡ true
first_true true y z e = refl
first_true false y z e = absurd (false≢true e)

not_free : (s : Schema) (k : Kept) → IsKept s k → not (is_used s k.table.name) ≡ true → ⊥
not_free s k stands free =
    let used : is_used s k.table.name ≡ true = first_true _ _ _ (ap is_some stands.0.has.named) in
    false≢true (sym (ap not used) ∙ free)

came : (s : Schema) (n : ℕ) (k : Kept) → Member kept k → IsKept s k → HasOfficeOf n s → (b : Bool) → nat_le k.since n ≡ b → nat_le k.since n ≡ true
came s n k there stands has true is = is
came s n k there stands has false is = absurd (not_free s k stands (free_later s n k kept there is has.free))

-- the rows that a database holds are in each of its tables that is there
pub holds_of : (db : Database) (n told : ℕ) (rows : Rows) (k : Kept) → Member kept k → IsKept db.schema k → HoldsOf n told db rows → HoldsRows db told rows k
holds_of db n told rows k there stands held = of_upto (HoldsRows db told rows) n k kept there
    (came db.schema n k there stands held.has (nat_le k.since n) refl) held.are

-- ---- each row of an office shows a record

module _ {X T : Type 0} (k : Kept) (columns : X → Row) (shown : T → Row) (keeps : T → Type 0) (read : X → T)
    (same : (x : X) → shown (read x) ≡ columns x) (db : Database) (xs : List X) where
  each_true : all_columns k db ≡ map columns xs → ((x : X) → Contains xs x → keeps (read x)) → All (ShowsRecord shown keeps) (all_columns k db)
  each_true are kept = subst (All (ShowsRecord shown keeps)) (sym are)
      (All-map (ShowsRecord shown keeps) columns xs (all_from_contains (λ (x : X). ShowsRecord shown keeps (columns x)) xs
      (λ x within. (read x, (same x, kept x within)))))

  -- behind a hidden number
  pub hidden_true : ((v : Value) (x : X) → columns_of k (v ∷ columns x) ≡ columns x) → ((x : X) → columns x ≡ [] → ⊥)
      → AreStoredRows false (rows_in db k.table.name) (map columns xs) → ((x : X) → Contains xs x → keeps (read x))
      → All (ShowsRecord shown keeps) (all_columns k db)
  hidden_true so some held = each_true (columns_hidden k columns so some (rows_in db k.table.name) xs held.0)

  -- behind a number of its own
  pub numbered_true : (stored : X → Row) → ((x : X) → columns_of k (stored x) ≡ columns x) → rows_in db k.table.name ≡ map stored xs
      → ((x : X) → Contains xs x → keeps (read x)) → All (ShowsRecord shown keeps) (all_columns k db)
  numbered_true stored so held = each_true (columns_numbered k stored columns so (rows_in db k.table.name) xs held)

-- what holds of all elements holds of the one at a place
pub all_at : {X : Type 0} (P : X → Type 0) (xs : List X) (i : ℕ) (x : X) → All P xs → slice_get xs i ≡ Some x → P x
all_at P xs i x all is = subst P (get_or_from_slice_get xs i x x is) (all i x (slice_get_within xs i x is))

-- a total is kept only where there is a sale
some_there : {X A : Type 0} (f : List X → Option A) → f [] ≡ None → (xs : List X) (v : A) → f xs ≡ Some v → (x : X) × Contains xs x
some_there f none [] v is = absurd (let e : None ≡ Some v = sym none ∙ is in cc)
some_there f none (x ∷ xs) v is = (x, contains_first x xs)

tenths_are : (xs : List Sale) (v : ℕ) → tenths_of xs ≡ Some v → sum_by (λ (s : Sale). s.tenths) xs ≡ v
tenths_are [] v is = absurd (cc)
tenths_are (x ∷ xs) v is = same_Some _ v is

module _ (db : Database) (o : Office) (s : StandsFor db o) where
  abbrev rows : Rows
  rows = s.held.0

  abbrev are : AreMembersOf rows o
  are = s.held.2

  of_office : AreOfOffice rows
  of_office = (o, s.office, are)

  holds : (t : TableName) → IsKept db.schema (kept_of t) → HoldsRows db s.format rows (kept_of t)
  holds t stands = holds_of db s.format s.format rows (kept_of t) (at t) stands s.held.1

  -- ---- tariffs and steps

  abbrev step_read : StepRow → StepRead
  step_read r = record { tariff = r.tariff; place = r.place; step = r.step }

  step_kept : (r : StepRow) → Contains rows.steps r → AreStepRowValues (step_read r)
  step_kept r within =
      let has = (are.steps r).1 within in
      let row = s.office.tariffs r.tariff has.0 has.1 in
      record {
        tariff = row.named;
        place = omega (arith, slice_get_within has.0 r.place r.step has.2, row.priced.count);
        step = all_at AreStepValues has.0 r.place r.step (steps_keep o s.office r.tariff has.0 has.1) has.2;
      }

  abbrev dated_read : DatedStepRow → DatedRead
  dated_read r = record { tariff = r.tariff; day = r.day; place = r.place; step = r.step }

  dated_kept : (r : DatedStepRow) → Contains rows.dated_steps r → AreDatedStepValues (dated_read r)
  dated_kept r within =
      let has = (are.dated_steps r).1 within in
      let row = s.office.dated_steps r.tariff r.day has.0 has.1 in
      record {
        tariff = tariff_name o s.office r.tariff (o.tariffs r.tariff) refl row.tariff;
        day = row.in_range;
        place = omega (arith, slice_get_within has.0 r.place r.step has.2, row.priced.count);
        step = (all_at EndFits has.0 r.place r.step row.priced.ends_fit has.2, all_at HasPrice has.0 r.place r.step row.priced.prices has.2);
      }

  -- ---- meters and bases

  meter_kept : (r : List ℕ × Meter) → Contains rows.meters r → AreMeterRowValues (meter_row r)
  meter_kept r within =
      let is = (are.meters r.0 r.1).1 within in
      ((s.office.meters r.0 r.1 is).numbered, meters_keep o s.office r.0 r.1 is)

  abbrev base_read : List ℕ × Base → BaseRow
  base_read r = record { meter = r.0; base = r.1 }

  base_kept : (r : List ℕ × Base) → Contains rows.bases r → AreBaseValues (base_read r)
  base_kept r within =
      let row = s.office.bases r.0 r.1 ((are.bases r.0 r.1).1 within) in
      (s.office.meters r.0 row.meter row.meter_is).numbered

  -- ---- sales and totals

  abbrev sale_read : Sale → SaleRow
  sale_read x = record { sale = x; month = month_at x.moment }

  sale_values : (x : Sale) → Contains o.sales x → AreSaleValues x
  sale_values x within = All-contains AreSaleValues rows.sales x (sales_keep_values rows of_office)
      (subst (λ (l : List Sale). Contains l x) (sym are.sales) within)

  module _ (small : (secs : ℕ) → IsMoment secs → month_at secs < 2 ^ 32) where
    abbrev last_read : (List ℕ × Base) × ℕ → LastId
    last_read r = record { meter = r.0.0; base = r.0.1; tid = r.1 }

    last_kept : (r : (List ℕ × Base) × ℕ) → Contains rows.last_ids r → AreLastIdValues (last_read r)
    last_kept r within =
        let is = (are.totals.last_ids.members r.0 r.1).1 within in
        let sold = sales_under o.sales r.0 in
        let one = some_there (λ (l : List Sale). greatest_of (map (λ (x : Sale). x.tid) l)) refl sold r.1 is in
        let there = there_passes (λ (x : Sale). bytes_eq x.meter r.0.0 && base_eq x.base r.0.1) o.sales one.0 one.1 in
        let key : (one.0.meter, one.0.base) ≡ r.0 = (tells_under r.0 (one.0.meter, one.0.base)).0 there.1 in
        let all : All (λ (t : ℕ). t ≤ last_tid) (map (λ (x : Sale). x.tid) sold) =
        All-map (λ (t : ℕ). t ≤ last_tid) (λ (x : Sale). x.tid) sold
        (λ i d low. (sale_values _ (there_passes (λ (x : Sale). bytes_eq x.meter r.0.0 && base_eq x.base r.0.1) o.sales _
        (Contains-get_or sold i d low)).0).tid) in
        record {
          meter = subst (λ (k : List ℕ × Base). IsMeterNo k.0) key (sale_values one.0 there.0).meter;
          tid = subst (λ (v : Option ℕ). IfSome v (λ t. t ≤ last_tid)) is (greatest_within last_tid (map (λ (x : Sale). x.tid) sold) all);
        }

    module _ (greatest : (t : ℕ) → IsRepresentable t → t ≤ 18201624) where
      abbrev month_read : (List ℕ × ℕ) × ℕ → MonthTenths
      month_read r = record { meter = r.0.0; month = r.0.1; tenths = r.1 }

      month_kept : (r : (List ℕ × ℕ) × ℕ) → Contains rows.month_tenths r → AreMonthValues (month_read r)
      month_kept r within =
          let is = (are.totals.month_tenths.members r.0 r.1).1 within in
          let one = some_there tenths_of refl (sales_in_month o.sales r.0) r.1 is in
          let there = there_passes (λ (x : Sale). bytes_eq x.meter r.0.0 && (month_at x.moment == r.0.1)) o.sales one.0 one.1 in
          let key : (one.0.meter, month_at one.0.moment) ≡ r.0 = (tells_month r.0 (one.0.meter, month_at one.0.moment)).0 there.1 in
          let values = sale_values one.0 there.0 in
          let sold = sales_in_month o.sales r.0 in
          let few = length-filter_both (λ (x : Sale). bytes_eq x.meter r.0.0 && (month_at x.moment == r.0.1))
          (λ (x : Sale). not (bytes_eq x.meter r.0.0 && (month_at x.moment == r.0.1))) (λ x. refl) o.sales in
          let each : All (λ (x : Sale). x.tenths ≤ 18201624) sold =
          λ i d low. greatest _ (sale_values _ (there_passes (λ (x : Sale). bytes_eq x.meter r.0.0 && (month_at x.moment == r.0.1))
          o.sales _ (Contains-get_or sold i d low)).0).tenths in
          let sum = sum_by-le (λ (x : Sale). x.tenths) 18201624 sold each in
          let within : IsTotal (sum_by (λ (x : Sale). x.tenths) sold) = omega (arith, few, sum, s.office.sale_count) in
          record {
            meter = subst (λ (k : List ℕ × ℕ). IsMeterNo k.0) key values.meter;
            month = subst (λ (k : List ℕ × ℕ). k.1 < 2 ^ 32) key (small one.0.moment values.moment);
            tenths = subst IsTotal (tenths_are sold r.1 is) within;
          }

      abbrev totals_read : ℕ × Totals → ShiftTotals
      totals_read r = record { shift = r.0; totals = r.1 }

      totals_kept : (r : ℕ × Totals) → Contains rows.shift_totals r → AreShiftTotalsValues (totals_read r)
      totals_kept r within =
          let is = (are.totals.shift_totals.members r.0 r.1).1 within in
          let one = some_there totals_of refl (sales_in_shift o.sales r.0) r.1 is in
          let there = there_passes (λ (x : Sale). x.shift == r.0) o.sales one.0 one.1 in
          let key : one.0.shift ≡ r.0 = (tells_number r.0 one.0.shift).0 there.1 in
          let found : totals_of (sales_in_shift rows.sales r.0) ≡ Some r.1 = ap (λ (l : List Sale). totals_of (sales_in_shift l r.0)) are.sales ∙ is in
          record {
            shift = subst IsNumber key (sale_values one.0 there.0).shift;
            totals = subst (λ (v : Option Totals). IfSome v AreTotalsValues) found ((totals_found greatest r.0).kept rows of_office);
          }

      -- ---- any table

      -- each row of a table of an office shows a record
      pub true_rows : (t : TableName) → IsKept db.schema (kept_of t) → HasTrueRows db t
      true_rows table.Tariffs there = hidden_true tariffs_kept tariff_columns tariff_columns IsName (λ x. x) (λ x. refl) db rows.tariffs
          (λ v x. refl) (λ x none. cc) (holds table.Tariffs there)
          (λ x within. All-contains IsName rows.tariffs x (tariff_names_keep rows of_office) within)
      true_rows table.TariffSteps there = hidden_true steps_kept step_columns shown_step_row AreStepRowValues step_read (λ x. refl) db
          rows.steps (λ v x. refl) (λ x none. cc) (holds table.TariffSteps there) step_kept
      true_rows table.Meters there = hidden_true meters_kept meter_columns shown_meter_row AreMeterRowValues meter_row (λ x. refl) db
          rows.meters (λ v x. refl) (λ x none. cc) (holds table.Meters there) meter_kept
      true_rows table.Shifts there = numbered_true shifts_kept shift_columns shown_shift AreShiftValues (λ x. x) (λ x. refl) db rows.shifts
          shift_row (λ x. refl) (holds table.Shifts there)
          (λ x within. All-contains AreShiftValues rows.shifts x (shifts_keep_values rows of_office) within)
      true_rows table.Sales there = numbered_true sales_kept sale_columns shown_sale_row AreBookedValues sale_read (λ x. refl) db
          rows.sales sale_row (λ x. refl) (holds table.Sales there)
          (λ x within.
          let values = All-contains AreSaleValues rows.sales x (sales_keep_values rows of_office) within in
          record { values = record { sale = values; month = small x.moment values.moment }; month = refl })
      true_rows table.LastIds there = hidden_true last_ids_kept last_id_columns shown_last_id AreLastIdValues last_read (λ x. refl) db
          rows.last_ids (λ v x. refl) (λ x none. cc) (holds table.LastIds there) last_kept
      true_rows table.MonthTenths there = hidden_true month_tenths_kept month_columns shown_month AreMonthValues month_read (λ x. refl) db
          rows.month_tenths (λ v x. refl) (λ x none. cc) (holds table.MonthTenths there) month_kept
      true_rows table.ShiftTotals there = numbered_true shift_totals_kept totals_columns shown_shift_totals AreShiftTotalsValues
          totals_read (λ x. refl) db rows.shift_totals totals_row (λ x. refl) (holds table.ShiftTotals there) totals_kept
      true_rows table.MeterBases there = hidden_true bases_kept base_columns shown_base AreBaseValues base_read (λ x. refl) db rows.bases
          (λ v x. refl) (λ x none. cc) (holds table.MeterBases there) base_kept
      true_rows table.DatedSteps there = hidden_true dated_steps_kept dated_columns shown_dated_step AreDatedStepValues dated_read
          (λ x. refl) db rows.dated_steps (λ v x. refl) (λ x none. cc) (holds table.DatedSteps there) dated_kept

      -- the first false row of a table is none
      pub breaks_none : (tables : List TableName) (f : Finding) → Breaks tables f db → ⊥
      breaks_none tables f broken =
          let first = broken.first in
          let within : Contains (first.before ++ (broken.row ∷ first.after)) broken.row =
          Contains-append_right first.before (broken.row ∷ first.after) broken.row (contains_first broken.row first.after) in
          first.shows_none (All-contains (ShowsOf f.table) (all_columns (kept_of f.table) db) broken.row (true_rows f.table broken.there)
          (Contains-permutation (first.before ++ (broken.row ∷ first.after)) (all_columns (kept_of f.table) db) broken.row first.listed.same within))
