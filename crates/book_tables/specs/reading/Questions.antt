-- What the reads ask: each a SELECT over one of the tables.
use Rattle.std.specs.Prelude.{ℕ, ◌+◌, ◌*◌, List, [], ◌∷◌, ◌++◌, codes}
use Rattle.sqlite.specs.Order.{Row}
use Rattle.sqlite.specs.declared.types.Value.TheVariants.{Text}
use Rattle.sts_fields.specs.Base.{year_of}
use Rattle.sts_fields.specs.Day.{IsDay}
use Rattle.sts_fields.specs.Moment.{first_moment}
use Rattle.sts_fields.specs.declared.base.Base.{Base}
use Rattle.tariff.specs.declared.step.Step.{Step}
use Rattle.office_rules.specs.Name.{IsName}
use Rattle.office_rules.specs.declared.office.meter.Meter.{Meter}
use Rattle.office_rules.specs.declared.office.sale.Sale.{Sale}
use Rattle.office_rules.specs.declared.office.shift.Shift.{Shift}
use Rattle.book_tables.specs.Kept.{Kept, dated_steps_kept, last_ids_kept, meters_kept}
use Rattle.book_tables.specs.Kept.{month_tenths_kept, sales_kept, shift_totals_kept, shifts_kept}
use Rattle.book_tables.specs.Kept.{steps_kept, tariffs_kept}
use Rattle.book_tables.specs.row.Rows.{number, shown_meter, shown_number, shown_sale, shown_shift}
use Rattle.book_tables.specs.row.Rows.{shown_step, shown_totals, tariff_columns}
use Rattle.book_tables.specs.row.Values.{AreMeterValues, AreSaleValues, AreShiftValues}
use Rattle.book_tables.specs.row.Values.{AreStepValues, AreTotalsValues, IsNumber, IsTid, IsTotal}
use Rattle.book_tables.specs.declared.row.totals.Totals.{Totals}

-- the table that is asked, the text of the SELECT and its parameters, and the record that a row of
-- an answer shows: its columns, and the rules that its values keep
pub record Question (M : Type 0) : Type 1 where
  pub table : Kept
  pub text : List ℕ
  pub params : Row
  pub shown : M → Row
  pub keeps : M → Type 0

abbrev pub question : {M : Type 0} → Kept → (M → Row) → (M → Type 0) → List ℕ → Row → Question M
question table shown keeps text params =
    record { table = table; text = text; params = params; shown = shown; keeps = keeps }

-- ---- meters and tariffs

abbrev pub meter_numbered_text : List ℕ
meter_numbered_text = codes "SELECT base, tariff, secret FROM meters WHERE meter = ?1"

abbrev pub the_meter : List ℕ → Question Meter
the_meter number =
    question meters_kept shown_meter AreMeterValues meter_numbered_text (Text number ∷ [])

abbrev pub tariff_named_text : List ℕ
tariff_named_text = codes "SELECT name FROM tariffs WHERE name = ?1"

abbrev pub the_tariff : List ℕ → Question (List ℕ)
the_tariff name = question tariffs_kept tariff_columns IsName tariff_named_text (Text name ∷ [])

-- ---- the steps of a tariff, those from a day on, and the last day until a day on which some begin

abbrev pub steps_of_text : List ℕ
steps_of_text = codes "SELECT ends, price FROM tariff_steps WHERE tariff = ?1 ORDER BY place"

abbrev pub the_steps : List ℕ → Question Step
the_steps name = question steps_kept shown_step AreStepValues steps_of_text (Text name ∷ [])

abbrev pub steps_from_text : List ℕ
steps_from_text =
    codes "SELECT ends, price FROM dated_steps WHERE tariff = ?1 AND day = ?2 ORDER BY place"

abbrev pub the_steps_from : List ℕ → ℕ → Question Step
the_steps_from name day =
    question dated_steps_kept shown_step AreStepValues steps_from_text (Text name ∷ number day ∷ [])

abbrev pub first_day_text : List ℕ
first_day_text =
    codes "SELECT day FROM dated_steps WHERE tariff = ?1 AND day <= ?2 ORDER BY day DESC LIMIT 1"

abbrev pub the_first_day : List ℕ → ℕ → Question ℕ
the_first_day name day =
    question dated_steps_kept shown_number IsDay first_day_text (Text name ∷ number day ∷ [])

-- ---- sales

abbrev sales_asked : List ℕ → Row → Question Sale
sales_asked text params = question sales_kept shown_sale AreSaleValues text params

-- the columns that show a sale
abbrev from_sales : List ℕ
from_sales = codes "SELECT number, moment, shift, operator, ref, meter, base, tid, rnd, "
    ++ codes "tenths, price, tender, digits FROM sales"

abbrev pub sale_numbered_text : List ℕ
sale_numbered_text = from_sales ++ codes " WHERE number = ?1"

abbrev pub the_sale : ℕ → Question Sale
the_sale n = sales_asked sale_numbered_text (number n ∷ [])

abbrev pub sale_of_ref_text : List ℕ
sale_of_ref_text = from_sales ++ codes " WHERE operator = ?1 AND ref = ?2"

abbrev pub the_sale_of_ref : List ℕ → List ℕ → Question Sale
the_sale_of_ref operator order_ref =
    sales_asked sale_of_ref_text (Text operator ∷ Text order_ref ∷ [])

abbrev pub sale_of_tid_text : List ℕ
sale_of_tid_text = from_sales ++ codes " WHERE meter = ?1 AND base = ?2 AND tid = ?3"

abbrev pub the_sale_of_tid : List ℕ → Base → ℕ → Question Sale
the_sale_of_tid meter base tid =
    sales_asked sale_of_tid_text (Text meter ∷ number (year_of base) ∷ number tid ∷ [])

abbrev pub sales_after_text : List ℕ
sales_after_text = from_sales ++ codes " WHERE number > ?1 ORDER BY number LIMIT ?2"

abbrev pub the_sales_after : ℕ → ℕ → Question Sale
the_sales_after after limit = sales_asked sales_after_text (number after ∷ number limit ∷ [])

abbrev pub sales_of_shift_text : List ℕ
sales_of_shift_text = from_sales ++ codes " WHERE shift = ?1 ORDER BY number"

abbrev pub the_sales_of_shift : ℕ → Question Sale
the_sales_of_shift shift = sales_asked sales_of_shift_text (number shift ∷ [])

abbrev pub last_sale_text : List ℕ
last_sale_text = codes "SELECT number FROM sales ORDER BY number DESC LIMIT 1"

abbrev pub the_last_sale : Question ℕ
the_last_sale = question sales_kept shown_number IsNumber last_sale_text []

-- the first second of a day
abbrev pub first_second : ℕ → ℕ
first_second day = first_moment + day * 86400

abbrev pub sold_since_text : List ℕ
sold_since_text = codes "SELECT number FROM sales WHERE moment >= ?1 ORDER BY number DESC LIMIT 1"

abbrev pub the_sale_since : ℕ → Question ℕ
the_sale_since day =
    question sales_kept shown_number IsNumber sold_since_text (number (first_second day) ∷ [])

-- ---- shifts

abbrev shifts_asked : List ℕ → Row → Question Shift
shifts_asked text params = question shifts_kept shown_shift AreShiftValues text params

abbrev pub shift_numbered_text : List ℕ
shift_numbered_text = codes "SELECT number, operator, opened, closed FROM shifts WHERE number = ?1"

abbrev pub the_shift : ℕ → Question Shift
the_shift n = shifts_asked shift_numbered_text (number n ∷ [])

abbrev pub open_shift_text : List ℕ
open_shift_text =
    codes "SELECT number, operator, opened, closed FROM shifts WHERE operator = ?1 "
    ++ codes "AND closed IS NULL ORDER BY number DESC LIMIT 1"

abbrev pub the_open_shift : List ℕ → Question Shift
the_open_shift operator = shifts_asked open_shift_text (Text operator ∷ [])

abbrev pub last_shift_text : List ℕ
last_shift_text = codes "SELECT number FROM shifts ORDER BY number DESC LIMIT 1"

abbrev pub the_last_shift : Question ℕ
the_last_shift = question shifts_kept shown_number IsNumber last_shift_text []

-- ---- running totals

abbrev pub last_id_text : List ℕ
last_id_text = codes "SELECT tid FROM last_ids WHERE meter = ?1 AND base = ?2"

abbrev pub the_last_id : List ℕ → Base → Question ℕ
the_last_id meter base =
    question last_ids_kept shown_number IsTid last_id_text
    (Text meter ∷ number (year_of base) ∷ [])

abbrev pub last_id_of_meter_text : List ℕ
last_id_of_meter_text = codes "SELECT tid FROM last_ids WHERE meter = ?1 ORDER BY tid DESC LIMIT 1"

abbrev pub the_last_id_of : List ℕ → Question ℕ
the_last_id_of meter =
    question last_ids_kept shown_number IsTid last_id_of_meter_text (Text meter ∷ [])

abbrev pub month_sum_text : List ℕ
month_sum_text = codes "SELECT tenths FROM month_tenths WHERE meter = ?1 AND month = ?2"

abbrev pub the_month_tenths : List ℕ → ℕ → Question ℕ
the_month_tenths meter month =
    question month_tenths_kept shown_number IsTotal month_sum_text
    (Text meter ∷ number month ∷ [])

abbrev pub shift_sums_text : List ℕ
shift_sums_text = codes "SELECT sales, tenths, cash FROM shift_totals WHERE shift = ?1"

abbrev pub the_shift_totals : ℕ → Question Totals
the_shift_totals shift =
    question shift_totals_kept shown_totals AreTotalsValues shift_sums_text (number shift ∷ [])
