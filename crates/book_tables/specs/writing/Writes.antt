-- The writes of the office's tables: the texts and the parameters of each, which of them an edit
-- is, and what they make of a database.
use Rattle.std.specs.Prelude.{◌≡◌, ℕ, zero, suc, false, List, [], ◌∷◌, ◌++◌, codes, map, Option, Ok}
use Rattle.std.specs.List.{flat_map}
use Rattle.sqlite.specs.Does.{Does, Tally}
use Rattle.sqlite.specs.Effect.{Database}
use Rattle.sqlite.specs.Order.{Row as Values}
use Rattle.sqlite.specs.Rows.{Outcome}
use Rattle.sqlite.specs.State.{State}
use Rattle.sqlite.specs.declared.run.Mode.{Mode}
use Rattle.sqlite.specs.declared.types.Value.TheVariants.{Text}
use Rattle.sqlite_schema.specs.declared.command.Command.{Command}
use Rattle.sqlite_schema.specs.declared.command.Returning.{Returning}
use Rattle.sqlite_schema.specs.declared.schema.Keys.TheVariants.{Enforced}
use Rattle.sts_fields.specs.Calendar.{month_at}
use Rattle.sts_fields.specs.declared.base.Base.{Base}
use Rattle.one_table.specs.Reading.{MeansAs}
use Rattle.tariff.specs.declared.step.Step.{Step}
use Rattle.office_rules.specs.declared.decision.change.Edit.{Edit}
use Rattle.office_rules.specs.declared.decision.change.Edit.TheVariants.{AddTariff, AddSteps}
use Rattle.office_rules.specs.declared.decision.change.Edit.TheVariants.{AddMeter, AddRows}
use Rattle.office_rules.specs.declared.decision.change.Edit.TheVariants.{SetTariff, MoveBase}
use Rattle.office_rules.specs.declared.decision.change.Edit.TheVariants.{OpenShift, CloseShift}
use Rattle.office_rules.specs.declared.decision.change.Edit.TheVariants.{AddSale, SetKey}
use Rattle.office_rules.specs.declared.decision.change.Edit.TheVariants.{WithdrawSteps}
use Rattle.office_rules.specs.declared.office.meter.Meter.{Meter}
use Rattle.office_rules.specs.declared.office.row.Row.{Row}
use Rattle.office_rules.specs.declared.office.row.Row.TheVariants as kinds
use Rattle.office_rules.specs.declared.office.sale.Sale.{Sale}
use Rattle.office_rules.specs.declared.office.shift.Shift.{Shift}
use Rattle.book_tables.specs.row.Rows.{DatedStepRow, StepRow, base_columns, dated_columns}
use Rattle.book_tables.specs.row.Rows.{last_id_columns, meter_columns, month_columns, number}
use Rattle.book_tables.specs.row.Rows.{sale_columns, shift_columns, step_columns, tariff_columns}
use Rattle.book_tables.specs.row.Rows.{secret_of, totals_columns}
use Rattle.book_tables.specs.writing.Edited.{dated_rows, step_rows}
use Rattle.book_tables.specs.declared.row.totals.Totals.{Totals}

-- ---- texts

abbrev pub new_tariff_text : List ℕ
new_tariff_text = codes "INSERT INTO tariffs (name) VALUES (?1)"

abbrev pub new_step_text : List ℕ
new_step_text =
    codes "INSERT INTO tariff_steps (tariff, place, ends, price) VALUES (?1, ?2, ?3, ?4)"

abbrev pub new_dated_text : List ℕ
new_dated_text =
    codes "INSERT INTO dated_steps (tariff, day, place, ends, price) VALUES (?1, ?2, ?3, ?4, ?5)"

abbrev pub steps_withdrawn_text : List ℕ
steps_withdrawn_text = codes "DELETE FROM dated_steps WHERE tariff = ?1 AND day = ?2"

abbrev pub new_meter_text : List ℕ
new_meter_text = codes "INSERT INTO meters (meter, base, tariff, secret) VALUES (?1, ?2, ?3, ?4)"

abbrev pub new_base_text : List ℕ
new_base_text = codes "INSERT INTO meter_bases (meter, base) VALUES (?1, ?2)"

abbrev pub tariff_set_text : List ℕ
tariff_set_text = codes "UPDATE meters SET tariff = ?2 WHERE meter = ?1"

abbrev pub base_set_text : List ℕ
base_set_text = codes "UPDATE meters SET base = ?2 WHERE meter = ?1"

abbrev pub key_set_text : List ℕ
key_set_text = codes "UPDATE meters SET secret = ?2 WHERE meter = ?1"

abbrev pub new_shift_text : List ℕ
new_shift_text =
    codes "INSERT INTO shifts (number, operator, opened, closed) VALUES (?1, ?2, ?3, ?4)"

abbrev pub shift_closed_text : List ℕ
shift_closed_text = codes "UPDATE shifts SET closed = ?2 WHERE number = ?1"

abbrev pub new_sale_text : List ℕ
new_sale_text =
    codes "INSERT INTO sales (number, moment, month, shift, operator, ref, meter, base, tid, rnd, "
    ++ codes "tenths, price, tender, digits) VALUES (?1, ?2, ?3, ?4, ?5, ?6, ?7, ?8, ?9, ?10, ?11, "
    ++ codes "?12, ?13, ?14)"

abbrev pub last_id_set_text : List ℕ
last_id_set_text =
    codes "INSERT INTO last_ids (meter, base, tid) VALUES (?1, ?2, ?3) ON CONFLICT (meter, base) "
    ++ codes "DO UPDATE SET tid = excluded.tid RETURNING tid"

abbrev pub tenths_added_text : List ℕ
tenths_added_text =
    codes "INSERT INTO month_tenths (meter, month, tenths) VALUES (?1, ?2, ?3) ON CONFLICT (meter, "
    ++ codes "month) DO UPDATE SET tenths = tenths + excluded.tenths RETURNING tenths"

abbrev pub sale_counted_text : List ℕ
sale_counted_text =
    codes "INSERT INTO shift_totals (shift, sales, tenths, cash) VALUES (?1, 1, ?2, ?3) "
    ++ codes "ON CONFLICT (shift) DO UPDATE SET sales = sales + 1, "
    ++ codes "tenths = tenths + excluded.tenths, cash = cash + excluded.cash RETURNING sales, "
    ++ codes "tenths, cash"

abbrev pub new_last_id_text : List ℕ
new_last_id_text = codes "INSERT INTO last_ids (meter, base, tid) VALUES (?1, ?2, ?3)"

abbrev pub new_month_text : List ℕ
new_month_text = codes "INSERT INTO month_tenths (meter, month, tenths) VALUES (?1, ?2, ?3)"

abbrev pub new_totals_text : List ℕ
new_totals_text =
    codes "INSERT INTO shift_totals (shift, sales, tenths, cash) VALUES (?1, ?2, ?3, ?4)"

abbrev pub new_format_text : List ℕ
new_format_text = codes "INSERT INTO about (id, format) VALUES (1, 4)"

abbrev pub format_set_text : List ℕ
format_set_text = codes "UPDATE about SET format = 4 WHERE id = 1"

-- ---- writes

-- a text, and its parameters
pub record Write : Type 0 where
  pub sql : List ℕ
  pub params : Values

abbrev pub new_tariff : List ℕ → Write
new_tariff name = record { sql = new_tariff_text; params = tariff_columns name }

abbrev pub new_step : StepRow → Write
new_step r = record { sql = new_step_text; params = step_columns r }

abbrev pub new_dated : DatedStepRow → Write
new_dated r = record { sql = new_dated_text; params = dated_columns r }

abbrev pub steps_withdrawn : List ℕ → ℕ → Write
steps_withdrawn name day =
    record { sql = steps_withdrawn_text; params = Text name ∷ number day ∷ [] }

abbrev pub new_meter : List ℕ → Meter → Write
new_meter meter m = record { sql = new_meter_text; params = meter_columns (meter, m) }

abbrev pub new_base : List ℕ → Base → Write
new_base meter base = record { sql = new_base_text; params = base_columns (meter, base) }

abbrev pub tariff_set : List ℕ → List ℕ → Write
tariff_set meter name =
    record { sql = tariff_set_text; params = Text meter ∷ Text name ∷ [] }

abbrev pub base_set : List ℕ → Base → Write
base_set meter base = record { sql = base_set_text; params = base_columns (meter, base) }

abbrev pub key_set : List ℕ → ℕ → Write
key_set meter key =
    record { sql = key_set_text; params = Text meter ∷ Text (secret_of key) ∷ [] }

abbrev pub new_shift : Shift → Write
new_shift s = record { sql = new_shift_text; params = shift_columns s }

abbrev pub shift_ended : ℕ → ℕ → Write
shift_ended shift moment =
    record { sql = shift_closed_text; params = number shift ∷ number moment ∷ [] }

abbrev pub new_sale : Sale → Write
new_sale s = record { sql = new_sale_text; params = sale_columns s }

abbrev pub last_id_set : (List ℕ × Base) → ℕ → Write
last_id_set key tid = record { sql = last_id_set_text; params = last_id_columns (key, tid) }

abbrev pub tenths_added : (List ℕ × ℕ) → ℕ → Write
tenths_added key tenths =
    record { sql = tenths_added_text; params = month_columns (key, tenths) }

abbrev pub sale_counted : ℕ → ℕ → ℕ → Write
sale_counted shift tenths price =
    record {
      sql = sale_counted_text;
      params = number shift ∷ number tenths ∷ number price ∷ [];
    }

-- a row of the totals, where none of its key was
abbrev pub new_last_id : ((List ℕ × Base) × ℕ) → Write
new_last_id r = record { sql = new_last_id_text; params = last_id_columns r }

abbrev pub new_month : ((List ℕ × ℕ) × ℕ) → Write
new_month r = record { sql = new_month_text; params = month_columns r }

abbrev pub new_totals : (ℕ × Totals) → Write
new_totals r = record { sql = new_totals_text; params = totals_columns r }

-- where no format was told, and where one was
abbrev pub format_write : ℕ → Write
format_write zero = record { sql = new_format_text; params = [] }
format_write (suc n) = record { sql = format_set_text; params = [] }

-- ---- of an edit, in their order

abbrev pub tariff_writes : List ℕ → List Step → List Write
tariff_writes name steps = new_tariff name ∷ map new_step (step_rows name steps)

abbrev pub steps_writes : List ℕ → ℕ → List Step → List Write
steps_writes name day steps = map new_dated (dated_rows name day steps)

abbrev pub meter_writes : List ℕ → Meter → List Write
meter_writes meter m = new_meter meter m ∷ new_base meter m.base ∷ []

abbrev pub row_writes : Row → List Write
row_writes (kinds.Tariff name steps) = tariff_writes name steps
row_writes (kinds.Steps name day steps) = steps_writes name day steps
row_writes (kinds.Meter meter m) = meter_writes meter m

abbrev pub base_writes : List ℕ → Base → List Write
base_writes meter base = base_set meter base ∷ new_base meter base ∷ []

-- a sale's totals, after which this is the last identifier of its meter under its base
abbrev pub totals_writes : Sale → ℕ → List Write
totals_writes s last =
    last_id_set (s.meter, s.base) last
    ∷ tenths_added (s.meter, month_at s.moment) s.tenths
    ∷ sale_counted s.shift s.tenths s.price ∷ []

abbrev pub sale_writes : Sale → List Write
sale_writes s = new_sale s ∷ totals_writes s s.tid

abbrev pub writes_of : Edit → List Write
writes_of (AddTariff name steps) = tariff_writes name steps
writes_of (AddSteps name day steps) = steps_writes name day steps
writes_of (WithdrawSteps name day) = steps_withdrawn name day ∷ []
writes_of (AddMeter meter m) = meter_writes meter m
writes_of (AddRows rows) = flat_map row_writes rows
writes_of (SetTariff meter name) = tariff_set meter name ∷ []
writes_of (MoveBase meter base) = base_writes meter base
writes_of (SetKey meter key) = key_set meter key ∷ []
writes_of (OpenShift s) = new_shift s ∷ []
writes_of (CloseShift shift moment) = shift_ended shift moment ∷ []
writes_of (AddSale s) = sale_writes s

-- ---- what they make of a database

-- each key is tested at its write, and none waits for the commit
abbrev at_once : Mode
at_once = record { keys = Enforced; in_doubt = false; may_wait = false }

-- The write ends so on a database, under a limit on steps, if one is set: its text means a command
-- there, and this ends so.
pub record EndsWith (limit : Option ℕ) (w : Write) (db : Database)
    (out : Outcome (Tally × Database)) : Type 0 where
  pub command : Command
  pub shows : Option Returning
  pub means : MeansAs db.schema w.sql command shows
  pub does : Does limit at_once w.params db [] shows command out

-- the writes, one after another, make a database of another
abbrev pub Make : Option ℕ → List Write → Database → Database → Type 0
Make limit [] old new = new ≡ old
Make limit (w ∷ ws) old new =
    (tally : Tally) × (mid : Database)
    × EndsWith limit w old (Ok (tally, mid)) × Make limit ws mid new

-- the same of what a connection had and has
abbrev pub AreCarriedOut : List Write → State → State → Type 0
AreCarriedOut writes old new = Make old.step_limit writes old.now new.now
