-- The members of an office keep the rules of their values.
use Rattle.std.proofs.Common.{◌≡◌, ℕ, ◌<◌, ◌≤◌, List, length, get_or, Option, Some, None, IsSome, refl, arith}
use Rattle.std.specs.Prelude.{All}
use Rattle.std.proofs.lemmas.Bool.{false≢true}
use Rattle.std.proofs.lemmas.List.Elements.{All-get_or}
use Rattle.std.proofs.lemmas.Option.{slice_get-get_or}
use Rattle.tariff.specs.declared.step.Step.{Step}
use Rattle.office_rules.specs.Name.{IsMeterNo, IsName}
use Rattle.sts_fields.specs.Moment.{IsMoment}
use Rattle.office_rules.specs.Office.{AreNumbered, IsOffice, IsSaleRow, IsShiftRow, Office, greatest_count}
use Rattle.office_rules.specs.declared.office.meter.Meter.{Meter}
use Rattle.office_rules.specs.declared.office.sale.Sale.{Sale}
use Rattle.office_rules.specs.declared.office.shift.Shift.{Shift}
use Rattle.book_tables.specs.row.Values.{AreMeterValues, AreSaleValues, AreShiftValues, AreStepValues, IsClosing, IsNumber}

-- the number of a row is from 1 to the greatest count
number_of : {X : Type 0} (number : X → ℕ) (xs : List X) (i : ℕ) (d : X) → AreNumbered number xs → length xs ≤ greatest_count
    → i < length xs → IsNumber (number (get_or xs i d))
number_of number xs i d numbered few below =
    let is = numbered i (get_or xs i d) (slice_get-get_or xs i d below) in
    (omega (arith, is), omega (arith, is))

closing : (closed : Option ℕ) → ((secs : ℕ) → closed ≡ Some secs → IsMoment secs) → IsClosing closed
closing None rule = _
closing (Some secs) rule = rule secs refl

shift_values : (s : Shift) → IsNumber s.number → IsShiftRow s → AreShiftValues s
shift_values s number row =
    record { number = number; operator = row.operator; opened = row.opened; closed = closing s.closed row.closed }

-- the shifts of an office keep the rules of their values
pub shifts_keep : (o : Office) → IsOffice o → All AreShiftValues o.shifts
shifts_keep o office i d below =
    shift_values (get_or o.shifts i d) (number_of (λ s. s.number) o.shifts i d office.shift_numbers office.shift_count below)
    (All-get_or IsShiftRow o.shifts i d below office.shifts)

meter_number : (o : Office) → IsOffice o → (number : List ℕ) (m : Option Meter) → o.meters number ≡ m → IsSome m → IsMeterNo number
meter_number o office number None e some = absurd (false≢true some)
meter_number o office number (Some m) e some = (office.meters number m e).numbered

sale_values : (o : Office) → IsOffice o → (s : Sale) → IsNumber s.number → IsSaleRow o s → AreSaleValues s
sale_values o office s number row = record {
  number = number;
  moment = row.moment;
  shift = (row.shift.0, omega (arith, row.shift.1, office.shift_count));
  operator = row.operator;
  order_ref = row.order_ref;
  meter = meter_number o office s.meter (o.meters s.meter) refl row.meter;
  tid = row.tid;
  rnd = row.rnd;
  tenths = row.tenths;
  price = row.price;
  tender = row.tender;
  digits = row.digits;
}

-- the sales of an office keep the rules of their values
pub sales_keep : (o : Office) → IsOffice o → All AreSaleValues o.sales
sales_keep o office i d below =
    sale_values o office (get_or o.sales i d) (number_of (λ s. s.number) o.sales i d office.sale_numbers office.sale_count below)
    (All-get_or (IsSaleRow o) o.sales i d below office.sales)

-- the steps of an office's tariff keep the rules of their values
pub steps_keep : (o : Office) → IsOffice o → (name : List ℕ) (steps : List Step) → o.tariffs name ≡ Some steps → All AreStepValues steps
steps_keep o office name steps e i d below =
    let priced = (office.tariffs name steps e).priced in
    (priced.ends_fit i d below, priced.prices i d below)

-- the name under which an office has a tariff keeps the rules of names
pub tariff_name : (o : Office) → IsOffice o → (name : List ℕ) (steps : Option (List Step)) → o.tariffs name ≡ steps → IsSome steps → IsName name
tariff_name o office name None e some = absurd (false≢true some)
tariff_name o office name (Some steps) e some = (office.tariffs name steps e).named

-- the meters of an office keep the rules of their values
pub meters_keep : (o : Office) → IsOffice o → (number : List ℕ) (m : Meter) → o.meters number ≡ Some m → AreMeterValues m
meters_keep o office number m e =
    let row = office.meters number m e in
    record { tariff = tariff_name o office m.tariff (o.tariffs m.tariff) refl row.tariff; key = row.key }
