-- The office's tables by their names.
use Rattle.std.specs.Prelude.{ℕ, List, [], ◌∷◌, ◌++◌, codes, filter, nat_le}
use Rattle.book_tables.specs.Kept.{Kept, bases_kept, dated_steps_kept, last_ids_kept, meters_kept}
use Rattle.book_tables.specs.Kept.{month_tenths_kept, sales_kept, shift_totals_kept, shifts_kept}
use Rattle.book_tables.specs.Kept.{steps_kept, tariffs_kept}
use Rattle.audit_rows.specs.declared.table_name.TableName.{TableName}
use Rattle.audit_rows.specs.declared.table_name.TableName.TheVariants as table

abbrev pub kept_of : TableName → Kept
kept_of table.Tariffs = tariffs_kept
kept_of table.TariffSteps = steps_kept
kept_of table.Meters = meters_kept
kept_of table.Shifts = shifts_kept
kept_of table.Sales = sales_kept
kept_of table.LastIds = last_ids_kept
kept_of table.MonthTenths = month_tenths_kept
kept_of table.ShiftTotals = shift_totals_kept
kept_of table.MeterBases = bases_kept
kept_of table.DatedSteps = dated_steps_kept

abbrev pub name_of : TableName → List ℕ
name_of t = (kept_of t).table.name

-- all of them, in the order in which they are read
abbrev pub read_tables : List TableName
read_tables =
    table.Tariffs ∷ table.TariffSteps ∷ table.Meters ∷ table.Shifts ∷ table.Sales ∷ table.LastIds
    ∷ table.MonthTenths ∷ table.ShiftTotals ∷ table.MeterBases ∷ table.DatedSteps ∷ []

-- those that a format has
abbrev pub tables_of : ℕ → List TableName
tables_of n = filter (λ t. nat_le (kept_of t).since n) read_tables

-- the text that asks for all columns of all rows of a table, by their numbers where they have any
abbrev pub list_of : TableName → List ℕ
list_of table.Tariffs = codes "SELECT name FROM tariffs"
list_of table.TariffSteps = codes "SELECT tariff, place, ends, price FROM tariff_steps"
list_of table.Meters = codes "SELECT meter, base, tariff, secret FROM meters"
list_of table.Shifts = codes "SELECT number, operator, opened, closed FROM shifts ORDER BY number"
list_of table.Sales =
    codes "SELECT number, moment, month, shift, operator, ref, meter, base, tid, rnd, tenths, "
    ++ codes "price, tender, digits FROM sales ORDER BY number"
list_of table.LastIds = codes "SELECT meter, base, tid FROM last_ids"
list_of table.MonthTenths = codes "SELECT meter, month, tenths FROM month_tenths"
list_of table.ShiftTotals =
    codes "SELECT shift, sales, tenths, cash FROM shift_totals ORDER BY shift"
list_of table.MeterBases = codes "SELECT meter, base FROM meter_bases"
list_of table.DatedSteps = codes "SELECT tariff, day, place, ends, price FROM dated_steps"
