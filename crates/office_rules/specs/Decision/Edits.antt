-- What a decision makes of an office: the rows that it adds or sets.
use Rattle.std.specs.Prelude.{ℕ, ◌==◌, ◌&&◌, ◌||◌, Bool, List, [], ◌∷◌, ◌++◌, map, if◌then◌else◌}
use Rattle.std.specs.Prelude.{Option, Some, None, Result, Ok, Err, IsSome, option_map, bytes_eq}
use Rattle.std.specs.Option.{option_map_or}
use Rattle.sts_fields.specs.Base.{base_eq}
use Rattle.sts_fields.specs.declared.base.Base.{Base}
use Rattle.office_rules.specs.Office.{Office}
use Rattle.office_rules.specs.declared.decision.change.Change.{Change}
use Rattle.office_rules.specs.declared.decision.change.Edit.{Edit}
use Rattle.office_rules.specs.declared.decision.change.Edit.TheVariants.{AddTariff, AddSteps}
use Rattle.office_rules.specs.declared.decision.change.Edit.TheVariants.{AddMeter, AddRows}
use Rattle.office_rules.specs.declared.decision.change.Edit.TheVariants.{SetTariff, MoveBase}
use Rattle.office_rules.specs.declared.decision.change.Edit.TheVariants.{SetKey, WithdrawSteps}
use Rattle.office_rules.specs.declared.decision.change.Edit.TheVariants.{OpenShift, CloseShift}
use Rattle.office_rules.specs.declared.decision.change.Edit.TheVariants.{AddSale}
use Rattle.office_rules.specs.declared.office.meter.Meter.{Meter}
use Rattle.office_rules.specs.declared.decision.refusal.Refusal.{Refusal}
use Rattle.office_rules.specs.declared.office.row.Row.{Row}
use Rattle.office_rules.specs.declared.office.row.Row.TheVariants as kinds
use Rattle.office_rules.specs.declared.office.shift.Shift.{Shift}

-- a meter with another tariff, another base or another key, and a shift that is closed
abbrev pub with_tariff : List ℕ → Meter → Meter
with_tariff name m = record m { tariff = name }

abbrev pub with_base : Base → Meter → Meter
with_base base m = record m { base = base }

abbrev pub with_key : ℕ → Meter → Meter
with_key key m = record m { key = key }

abbrev pub closed_at : ℕ → Shift → Shift
closed_at moment s = record s { closed = Some moment }

-- meters of which the one of a number is set
abbrev pub set_meter : List ℕ → (Meter → Meter) → (List ℕ → Option Meter) → List ℕ → Option Meter
set_meter number f meters q = if bytes_eq q number then option_map f (meters q) else meters q

-- bases of meters, and one more of the meter of a number
abbrev pub one_base_more : List ℕ → Base → (List ℕ → Base → Bool) → List ℕ → Base → Bool
one_base_more number base bases q b = (bytes_eq q number && base_eq b base) || bases q b

-- the office with a row under its name or number; a meter's base is one that it has then
abbrev pub with_row : Row → Office → Office
with_row (kinds.Tariff name steps) o =
    record o { tariffs = λ q. if bytes_eq q name then Some steps else o.tariffs q }
with_row (kinds.Steps name day steps) o =
    record o {
      dated_steps = λ q d.
          if bytes_eq q name && (d == day) then Some steps else o.dated_steps q d;
    }
with_row (kinds.Meter number m) o =
    record o {
      meters = λ q. if bytes_eq q number then Some m else o.meters q;
      bases = one_base_more number m.base o.bases;
    }

-- the office with rows, one after another
abbrev pub with_rows : List Row → Office → Office
with_rows [] o = o
with_rows (row ∷ rows) o = with_rows rows (with_row row o)

-- the office after an edit: rows are put under their names and numbers, or one is set, moved to a
-- base, taken away, added at the end, or closed
abbrev pub applied : Edit → Office → Office
applied (AddTariff name steps) o = with_row (kinds.Tariff name steps) o
applied (AddSteps name day steps) o = with_row (kinds.Steps name day steps) o
applied (WithdrawSteps name day) o =
    record o {
      dated_steps = λ q d. if bytes_eq q name && (d == day) then None else o.dated_steps q d;
    }
applied (AddMeter number m) o = with_row (kinds.Meter number m) o
applied (AddRows rows) o = with_rows rows o
applied (SetTariff number name) o =
    record o { meters = set_meter number (with_tariff name) o.meters }
applied (MoveBase number base) o =
    record o {
      meters = set_meter number (with_base base) o.meters;
      bases = one_base_more number base o.bases;
    }
applied (SetKey number key) o =
    record o { meters = set_meter number (with_key key) o.meters }
applied (OpenShift s) o = record o { shifts = o.shifts ++ s ∷ [] }
applied (CloseShift number moment) o =
    record o { shifts = map (λ s. if s.number == number then closed_at moment s else s) o.shifts }
applied (AddSale s) o = record o { sales = o.sales ++ s ∷ [] }

-- the office after a decision: a refused request leaves it as it was
abbrev pub office_after : Office → Result Change Refusal → Office
office_after o (Ok change) = option_map_or (λ edit. applied edit o) change.edit o
office_after o (Err refusal) = o

-- rows of which each meter's tariff is the office's, or one of a row before it
abbrev pub RowsFit : List Row → Office → Type 0
RowsFit [] o = Unit {0}
RowsFit (kinds.Tariff name steps ∷ rest) o = RowsFit rest (with_row (kinds.Tariff name steps) o)
RowsFit (kinds.Steps name day steps ∷ rest) o =
    RowsFit rest (with_row (kinds.Steps name day steps) o)
RowsFit (kinds.Meter number m ∷ rest) o =
    IsSome (o.tariffs m.tariff) × RowsFit rest (with_row (kinds.Meter number m) o)
