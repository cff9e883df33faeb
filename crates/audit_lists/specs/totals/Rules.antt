-- The rules of the running totals: no two rows have one key, sales have the key of each row, which
-- tells what they come to, and there is a row of each sale's key.
use Rattle.std.specs.Prelude.{◌≡◌, ◌++◌, ℕ, List, [], ◌∷◌, Option, Some, IsSome, map}
use Rattle.sts_fields.specs.Base.{year_of}
use Rattle.sts_fields.specs.Calendar.{month_at}
use Rattle.office_rules.specs.Office.Lookup.{greatest_of}
use Rattle.office_rules.specs.declared.office.sale.Sale.{Sale}
use Rattle.book_tables.specs.Stands.{sales_in_month, sales_in_shift, sales_under, tenths_of}
use Rattle.book_tables.specs.Stands.{totals_of}
use Rattle.book_tables.specs.declared.row.totals.Totals.{Totals}
use Rattle.audit_rows.specs.declared.finding.RowKey.{RowKey}
use Rattle.audit_rows.specs.declared.finding.RowKey.TheVariants as key
use Rattle.audit_rows.specs.declared.finding.Rule.TheVariants as rule
use Rattle.audit_rows.specs.declared.office_rows.OfficeRows.{OfficeRows}
use Rattle.audit_rows.specs.declared.rows.LastId.{LastId}
use Rattle.audit_rows.specs.declared.rows.MonthTenths.{MonthTenths}
use Rattle.audit_rows.specs.declared.rows.ShiftTotals.{ShiftTotals}
use Rattle.audit_rows.specs.declared.table_name.TableName.TheVariants as table
use Rattle.audit_lists.specs.Keys.{Key}
use Rattle.audit_lists.specs.RowKeys.{sale_base_key}
use Rattle.audit_lists.specs.Ties.{Listed, Tie, each, listed, names, once}

-- a meter under a base, a meter in a month, and a shift: the keys of the rows, and of sales
abbrev pub last_id_key : LastId → Key
last_id_key r = (r.meter, [], year_of r.base, 0)

abbrev pub month_key : MonthTenths → Key
month_key r = (r.meter, [], r.month, 0)

abbrev pub sale_month_key : Sale → Key
sale_month_key s = (s.meter, [], month_at s.moment, 0)

abbrev pub shift_key : ShiftTotals → Key
shift_key r = ([], [], r.shift, 0)

abbrev pub sale_shift_key : Sale → Key
sale_shift_key s = ([], [], s.shift, 0)

-- the row that a sale asks for, as a finding names it
abbrev pub last_id_asked : Sale → RowKey
last_id_asked s = key.Base s.meter s.base

abbrev pub month_asked : Sale → RowKey
month_asked s = key.Month s.meter (month_at s.moment)

abbrev pub shift_asked : Sale → RowKey
shift_asked s = key.Number s.shift

-- the greatest identifier sold to the row's meter under its base, the tenths sold to its meter in
-- its month, and the totals of its shift, where there are such sales
abbrev pub last_id_of : List Sale → LastId → Option ℕ
last_id_of sales r = greatest_of (map (λ s. s.tid) (sales_under sales (r.meter, r.base)))

abbrev pub month_tenths_of : List Sale → MonthTenths → Option ℕ
month_tenths_of sales r = tenths_of (sales_in_month sales (r.meter, r.month))

abbrev pub shift_totals_of : List Sale → ShiftTotals → Option Totals
shift_totals_of sales r = totals_of (sales_in_shift sales r.shift)

-- a table of totals under these keys, with what sales have under the key of a row, and what this
-- tells
abbrev pub sum_rules : {T V : Type 0} → Listed T → (T → Key) → (Sale → RowKey) → (Sale → Key)
    → List Sale → (T → Option V) → (T → V) → List Tie
sum_rules list key asked sale_key sales has told =
    once list rule.Twice key ∷ each list rule.Surplus (λ row. IsSome (has row))
    ∷ each list rule.Total (λ row. has row ≡ Some (told row))
    ∷ names (listed list.table asked sales) rule.Missing sale_key key list.rows ∷ []

-- each of the three
abbrev pub last_id_rules : List Sale → List LastId → List Tie
last_id_rules sales rows =
    sum_rules (listed table.LastIds (λ r. key.Base r.meter r.base) rows) last_id_key last_id_asked
    sale_base_key sales (last_id_of sales) (λ r. r.tid)

abbrev pub month_tenths_rules : List Sale → List MonthTenths → List Tie
month_tenths_rules sales rows =
    sum_rules (listed table.MonthTenths (λ r. key.Month r.meter r.month) rows) month_key month_asked
    sale_month_key sales (month_tenths_of sales) (λ r. r.tenths)

abbrev pub shift_totals_rules : List Sale → List ShiftTotals → List Tie
shift_totals_rules sales rows =
    sum_rules (listed table.ShiftTotals (λ r. key.Number r.shift) rows) shift_key shift_asked
    sale_shift_key sales (shift_totals_of sales) (λ r. r.totals)

-- all, in the order in which they are looked at
abbrev pub total_rules_of : List Sale → List LastId → List MonthTenths → List ShiftTotals → List Tie
total_rules_of sales ids months shifts =
    last_id_rules sales ids ++ month_tenths_rules sales months ++ shift_totals_rules sales shifts

abbrev pub total_rules : OfficeRows → List Tie
total_rules r =
    total_rules_of r.sales.items r.last_ids.items r.month_tenths.items r.shift_totals.items
