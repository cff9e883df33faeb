-- Each edit that a decision makes keeps an office an office.
use Rattle.std.proofs.Common.{◌≡◌, ℕ, ◌+◌, ◌<◌, ◌≤◌, ◌^◌, ◌⊎◌, inl, inr, Bool, true, false, List, [], ◌∷◌, ◌++◌, length, Option, Some, None, refl, sym, ◌∙◌, ap, subst, arith}
use Rattle.std.specs.Prelude.{◌&&◌, ◌||◌, ◌==◌, All, Contains, IsNone, IsSome, bytes_eq, is_none, not, if◌then◌else◌, option_map}
use Rattle.std.proofs.lemmas.Bool.Decides.{nat_tests}
use Rattle.std.proofs.lemmas.List.{length-map, length_push}
use Rattle.std.proofs.lemmas.List.Elements.{All-contains, All-map, All-push, All-weaker}
use Rattle.std.proofs.lemmas.Option.{same_Some}
use Rattle.std.proofs.lemmas.Slice.Eq.{bytes_eq-Decides}
use Rattle.sts_fields.specs.Base.{base_eq, year_of}
use Rattle.sts_fields.specs.Day.{IsDay}
use Rattle.sts_fields.specs.declared.base.Base.{Base}
use Rattle.sts_fields.specs.declared.base.Base.TheVariants.{Y1993, Y2014, Y2035}
use Rattle.tariff.specs.Steps.{IsSteps}
use Rattle.tariff.specs.declared.step.Step.{Step}
use Rattle.office_rules.specs.Decision.Edits.{one_base_more}
use Rattle.office_rules.specs.Decision.Fold.{applied, closed_at, with_base, with_key, with_tariff}
use Rattle.office_rules.specs.Office.Lookup.{open_shift}
use Rattle.office_rules.specs.Name.{IsName}
use Rattle.sts_fields.specs.Moment.{IsMoment}
use Rattle.office_rules.specs.Office.{IsBaseRow, IsBefore, IsDatedRow, IsMeterRow, IsOffice, IsSaleRow, IsShiftRow, NotBothOpen, Office, greatest_count}
use Rattle.office_rules.specs.Decision.Requests.{IsMeter}
use Rattle.office_rules.specs.declared.decision.change.Edit.TheVariants as edits
use Rattle.office_rules.specs.declared.office.meter.Meter.{Meter}
use Rattle.office_rules.specs.declared.office.sale.Sale.{Sale}
use Rattle.office_rules.specs.declared.office.shift.Shift.{Shift}
use Rattle.office_rules.proofs.OfficeLemmas.RowLemmas.{all_pairs_map, found_none, numbered_map, numbered_push, pairs_push, parts_true}
use Rattle.office_rules.proofs.DecisionLemmas.StayLemmas.{put_beside}

-- what no edit takes away: tariffs, bases that a meter had, shifts, and meters, which are not moved
-- back
pub record Keeps (o p : Office) : Type 0 where
  pub tariffs : (n : List ℕ) → IsSome (o.tariffs n) → IsSome (p.tariffs n)
  pub bases : (q : List ℕ) (b : Base) → o.bases q b ≡ true → p.bases q b ≡ true
  pub meters : (q : List ℕ) (m : Meter) → o.meters q ≡ Some m → (n : Meter) × (p.meters q ≡ Some n) × (year_of m.base ≤ year_of n.base)
  pub shifts : length o.shifts ≤ length p.shifts

-- where meters and tariffs stay, and shifts do not grow fewer
pub keeps_rows : (o p : Office) → p.tariffs ≡ o.tariffs → p.meters ≡ o.meters → p.bases ≡ o.bases → length o.shifts ≤ length p.shifts → Keeps o p
keeps_rows o p tariffs meters bases more = record {
  tariffs = λ n some. subst (λ (f : List ℕ → Option (List Step)). IsSome (f n)) (sym tariffs) some;
  bases = λ q b had. subst (λ (f : List ℕ → Base → Bool). f q b ≡ true) (sym bases) had;
  meters = λ q m is. (m, subst (λ (f : List ℕ → Option Meter). f q ≡ Some m) (sym meters) is, omega arith);
  shifts = more;
}

-- the rows stay such
meter_row_kept : (o p : Office) → Keeps o p → (number : List ℕ) (m : Meter) → IsMeterRow o number m → IsMeterRow p number m
meter_row_kept o p keeps number m row = record {
  numbered = row.numbered;
  key = row.key;
  tariff = keeps.tariffs m.tariff row.tariff;
  base = keeps.bases number m.base row.base;
}

base_row_kept : (o p : Office) → Keeps o p → (number : List ℕ) (base : Base) → IsBaseRow o number base → IsBaseRow p number base
base_row_kept o p keeps number base row =
    let now = keeps.meters number row.meter row.meter_is in
    record { meter = now.0; meter_is = now.1; not_after = omega (arith, row.not_after, now.2) }

dated_row_kept : (o p : Office) → Keeps o p → (name : List ℕ) (day : ℕ) (steps : List Step) → IsDatedRow o name day steps → IsDatedRow p name day steps
dated_row_kept o p keeps name day steps row = record { tariff = keeps.tariffs name row.tariff; in_range = row.in_range; priced = row.priced }

some_kept : (o p : Office) → Keeps o p → (q : List ℕ) (there : Option Meter) → o.meters q ≡ there → IsSome there → IsSome (p.meters q)
some_kept o p keeps q None is some = cc
some_kept o p keeps q (Some m) is some = let now = keeps.meters q m is in subst IsSome (sym now.1) refl

sale_row_kept : (o p : Office) → Keeps o p → (s : Sale) → IsSaleRow o s → IsSaleRow p s
sale_row_kept o p keeps s row = record {
  moment = row.moment;
  shift = (row.shift.0, omega (arith, row.shift.1, keeps.shifts));
  operator = row.operator;
  order_ref = row.order_ref;
  meter = some_kept o p keeps s.meter (o.meters s.meter) refl row.meter;
  base = keeps.bases s.meter s.base row.base;
  tid = row.tid;
  rnd = row.rnd;
  tenths = row.tenths;
  tender = row.tender;
  price = row.price;
  digits = row.digits;
}

sales_kept : (o p : Office) → Keeps o p → (sales : List Sale) → All (IsSaleRow o) sales → All (IsSaleRow p) sales
sales_kept o p keeps sales rows = All-weaker (IsSaleRow o) (IsSaleRow p) (sale_row_kept o p keeps) sales rows

-- what stands under a name where one row was put
pub some_put : {A : Type 0} (b : Bool) (x : A) (there : Option A) → IsSome there → IsSome (if b then Some x else there)
some_put true x there some = refl
some_put false x there some = some

-- what stands where a row may have been put is that row, or stood there before
pub put_at : {A : Type 0} (b : Bool) (x y : A) (there : Option A) → (if b then Some x else there) ≡ Some y → ((b ≡ true) × (x ≡ y)) ⊎ (there ≡ Some y)
put_at true x y there e = inl (refl, same_Some x y e)
put_at false x y there e = inr e

-- the same under a name: the row put is found under its own name only
pub put_cases : {A : Type 0} (b : Bool) (q name : List ℕ) (x y : A) (there : Option A) → bytes_eq q name ≡ b
    → (if b then Some x else there) ≡ Some y → ((q ≡ name) × (x ≡ y)) ⊎ (there ≡ Some y)
put_cases true q name x y there is e = inl ((bytes_eq-Decides q name).0 is, same_Some x y e)
put_cases false q name x y there is e = inr e

-- an office with a tariff more is an office
pub keeps_add_tariff : (o : Office) (name : List ℕ) (steps : List Step) → IsOffice o → IsName name → IsSteps steps
    → IsOffice (applied (edits.AddTariff name steps) o)
keeps_add_tariff o name steps office named priced =
    let p = applied (edits.AddTariff name steps) o in
    let keeps : Keeps o p = record {
      tariffs = λ n some. some_put (bytes_eq n name) steps (o.tariffs n) some;
      bases = λ q b had. had;
      meters = λ q m is. (m, is, omega arith);
      shifts = omega arith;
    } in
    record {
      tariffs = λ q found e. elim (put_cases (bytes_eq q name) q name steps found (o.tariffs q) refl e) [
        | inl here ↦ record { named = subst IsName (sym here.0) named; priced = subst IsSteps here.1 priced }
        | inr there ↦ office.tariffs q found there
      ];
      meters = λ number m e. meter_row_kept o p keeps number m (office.meters number m e);
      bases = λ q b had. base_row_kept o p keeps q b (office.bases q b had);
      dated_steps = λ q d s e. dated_row_kept o p keeps q d s (office.dated_steps q d s e);
      shifts = office.shifts;
      shift_numbers = office.shift_numbers;
      one_open = office.one_open;
      shift_count = office.shift_count;
      sales = sales_kept o p keeps o.sales office.sales;
      sale_numbers = office.sale_numbers;
      before = office.before;
      sale_count = office.sale_count;
    }

equal_days : (d day : ℕ) → (d == day) ≡ true → d ≡ day
equal_days d day e = grind (arith, nat_tests)

-- an office with further steps of one of its tariffs is an office
pub keeps_add_steps : (o : Office) (name : List ℕ) (day : ℕ) (steps : List Step) → IsOffice o → IsDay day → IsSteps steps
    → IsSome (o.tariffs name) → IsOffice (applied (edits.AddSteps name day steps) o)
keeps_add_steps o name day steps office is priced tariff =
    let p = applied (edits.AddSteps name day steps) o in
    let keeps : Keeps o p = keeps_rows o p refl refl refl (omega arith) in
    record {
      tariffs = office.tariffs;
      meters = λ number m e. meter_row_kept o p keeps number m (office.meters number m e);
      bases = λ q b had. base_row_kept o p keeps q b (office.bases q b had);
      dated_steps = λ q d s e. elim (put_at (bytes_eq q name && (d == day)) steps s (o.dated_steps q d) e) [
        | inl here ↦
            let both = parts_true (bytes_eq q name) (d == day) here.0 in
            record {
              tariff = subst (λ n. IsSome (o.tariffs n)) (sym ((bytes_eq-Decides q name).0 both.0)) tariff;
              in_range = subst IsDay (sym (equal_days d day both.1)) is;
              priced = subst IsSteps here.1 priced;
            }
        | inr there ↦ dated_row_kept o p keeps q d s (office.dated_steps q d s there)
      ];
      shifts = office.shifts;
      shift_numbers = office.shift_numbers;
      one_open = office.one_open;
      shift_count = office.shift_count;
      sales = sales_kept o p keeps o.sales office.sales;
      sale_numbers = office.sale_numbers;
      before = office.before;
      sale_count = office.sale_count;
    }

-- what stands where a row may have been taken away stood there before
pub kept_beside : {A : Type 0} (b : Bool) (there : Option A) (x : A) → (if b then None else there) ≡ Some x → there ≡ Some x
kept_beside true there x e = cc
kept_beside false there x e = e

-- an office without some of its further steps is an office
pub keeps_withdraw_steps : (o : Office) (name : List ℕ) (day : ℕ) → IsOffice o → IsOffice (applied (edits.WithdrawSteps name day) o)
keeps_withdraw_steps o name day office =
    let p = applied (edits.WithdrawSteps name day) o in
    let keeps : Keeps o p = keeps_rows o p refl refl refl (omega arith) in
    record {
      tariffs = office.tariffs;
      meters = λ number m e. meter_row_kept o p keeps number m (office.meters number m e);
      bases = λ q b had. base_row_kept o p keeps q b (office.bases q b had);
      dated_steps = λ q d s e.
          dated_row_kept o p keeps q d s (office.dated_steps q d s (kept_beside (bytes_eq q name && (d == day)) (o.dated_steps q d) s e));
      shifts = office.shifts;
      shift_numbers = office.shift_numbers;
      one_open = office.one_open;
      shift_count = office.shift_count;
      sales = sales_kept o p keeps o.sales office.sales;
      sale_numbers = office.sale_numbers;
      before = office.before;
      sale_count = office.sale_count;
    }

-- a base more among those that a meter had
pub more_kept : (b had : Bool) → had ≡ true → (b || had) ≡ true
more_kept true had is = refl
more_kept false had is = is

more_cases : (b had : Bool) → (b || had) ≡ true → (b ≡ true) ⊎ (had ≡ true)
more_cases true had is = inl refl
more_cases false had is = inr is

equal_years : (a b : Base) → base_eq a b ≡ true → year_of a ≡ year_of b
equal_years a b e = equal_days (year_of a) (year_of b) e

-- one base has one year, and so the test of two bases tells that they are one
pub base_eq-refl : (b : Base) → base_eq b b ≡ true
base_eq-refl Y1993 = refl
base_eq-refl Y2014 = refl
base_eq-refl Y2035 = refl

more_here : (number : List ℕ) (base : Base) (bases : List ℕ → Base → Bool) → one_base_more number base bases number base ≡ true
more_here number base bases =
    let here : bytes_eq number number ≡ true = (bytes_eq-Decides number number).1 refl in
    ap (λ (x : Bool). (x && base_eq base base) || bases number base) here ∙ ap (λ (x : Bool). x || bases number base) (base_eq-refl base)

-- an office with a meter more, under a free number, is an office
pub keeps_add_meter : (o : Office) (number : List ℕ) (m : Meter) → IsOffice o → IsMeter number m → o.meters number ≡ None
    → IsSome (o.tariffs m.tariff) → IsOffice (applied (edits.AddMeter number m) o)
keeps_add_meter o number m office is free tariff =
    let p = applied (edits.AddMeter number m) o in
    let keeps : Keeps o p = record {
      tariffs = λ n some. some;
      bases = λ q b had. more_kept (bytes_eq q number && base_eq b m.base) (o.bases q b) had;
      meters = λ q k at. (k, put_beside (bytes_eq q number) q number m k o.meters refl free at, omega arith);
      shifts = omega arith;
    } in
    let put : p.meters number ≡ Some m = ap (λ (x : Bool). if x then Some m else o.meters number) ((bytes_eq-Decides number number).1 refl) in
    let row : IsMeterRow p number m = record { numbered = is.number_rule; key = is.key; tariff = tariff; base = more_here number m.base o.bases } in
    record {
      tariffs = office.tariffs;
      meters = λ q found e. elim (put_cases (bytes_eq q number) q number m found (o.meters q) refl e) [
        | inl here ↦ subst (λ (n : List ℕ). IsMeterRow p n found) (sym here.0) (subst (λ (k : Meter). IsMeterRow p number k) here.1 row)
        | inr there ↦ meter_row_kept o p keeps q found (office.meters q found there)
      ];
      bases = λ q b had. elim (more_cases (bytes_eq q number && base_eq b m.base) (o.bases q b) had) [
        | inl here ↦
            let both = parts_true (bytes_eq q number) (base_eq b m.base) here in
            let same : q ≡ number = (bytes_eq-Decides q number).0 both.0 in
            record { meter = m; meter_is = ap p.meters same ∙ put; not_after = omega (arith, equal_years b m.base both.1) }
        | inr before ↦ base_row_kept o p keeps q b (office.bases q b before)
      ];
      dated_steps = λ q d s e. dated_row_kept o p keeps q d s (office.dated_steps q d s e);
      shifts = office.shifts;
      shift_numbers = office.shift_numbers;
      one_open = office.one_open;
      shift_count = office.shift_count;
      sales = sales_kept o p keeps o.sales office.sales;
      sale_numbers = office.sale_numbers;
      before = office.before;
      sale_count = office.sale_count;
    }

-- what stands under a number where the meter there is set
pub set_kept : (b : Bool) (f : Meter → Meter) (m : Meter) (there : Option Meter) → there ≡ Some m
    → (if b then option_map f there else there) ≡ Some (if b then f m else m)
set_kept true f m there is = ap (option_map f) is
set_kept false f m there is = is

set_cases : (b : Bool) (f : Meter → Meter) (m : Meter) (there : Option Meter) → (if b then option_map f there else there) ≡ Some m
    → (k : Meter) × (there ≡ Some k) × (((b ≡ true) × (f k ≡ m)) ⊎ (k ≡ m))
set_cases true f m None is = cc
set_cases true f m (Some k) is = (k, refl, inl (refl, same_Some (f k) m is))
set_cases false f m there is = (m, is, inr refl)

same_base : (b : Bool) (name : List ℕ) (m : Meter) → (if b then with_tariff name m else m).base ≡ m.base
same_base true name m = refl
same_base false name m = refl

-- an office with a meter set to one of its tariffs is an office
pub keeps_set_tariff : (o : Office) (number name : List ℕ) → IsOffice o → IsSome (o.tariffs name) → IsOffice (applied (edits.SetTariff number name) o)
keeps_set_tariff o number name office named =
    let p = applied (edits.SetTariff number name) o in
    let keeps : Keeps o p = record {
      tariffs = λ n some. some;
      bases = λ q b had. had;
      meters = λ q m is. (
        (if bytes_eq q number then with_tariff name m else m),
        set_kept (bytes_eq q number) (with_tariff name) m (o.meters q) is,
        omega (arith, ap year_of (same_base (bytes_eq q number) name m)),
      );
      shifts = omega arith;
    } in
    record {
      tariffs = office.tariffs;
      meters = λ q m e.
          let was = set_cases (bytes_eq q number) (with_tariff name) m (o.meters q) e in
          let old = office.meters q was.0 was.1 in
          elim was.2 [
            | inl set ↦ subst (λ (k : Meter). IsMeterRow p q k) set.1 (record { numbered = old.numbered; key = old.key; tariff = named; base = old.base })
            | inr same ↦ subst (λ (k : Meter). IsMeterRow p q k) same (meter_row_kept o p keeps q was.0 old)
          ];
      bases = λ q b had. base_row_kept o p keeps q b (office.bases q b had);
      dated_steps = λ q d s e. dated_row_kept o p keeps q d s (office.dated_steps q d s e);
      shifts = office.shifts;
      shift_numbers = office.shift_numbers;
      one_open = office.one_open;
      shift_count = office.shift_count;
      sales = sales_kept o p keeps o.sales office.sales;
      sale_numbers = office.sale_numbers;
      before = office.before;
      sale_count = office.sale_count;
    }

-- a meter that is moved to a later base
pub moved_base : (b : Bool) (q number : List ℕ) (base : Base) (m k : Meter) (meters : List ℕ → Option Meter) → bytes_eq q number ≡ b
    → meters number ≡ Some m → year_of m.base ≤ year_of base → meters q ≡ Some k → year_of k.base ≤ year_of (if b then with_base base k else k).base
moved_base true q number base m k meters is there later at =
    let same : k ≡ m = same_Some k m (sym at ∙ ap meters ((bytes_eq-Decides q number).0 is) ∙ there) in
    omega (arith, later, ap (λ (n : Meter). year_of n.base) same)
moved_base false q number base m k meters is there later at = omega arith

-- an office with a meter moved to a base that is not earlier is an office
pub keeps_move_base : (o : Office) (number : List ℕ) (base : Base) (m : Meter) → IsOffice o → o.meters number ≡ Some m
    → year_of m.base ≤ year_of base → IsOffice (applied (edits.MoveBase number base) o)
keeps_move_base o number base m office there later =
    let p = applied (edits.MoveBase number base) o in
    let keeps : Keeps o p = record {
      tariffs = λ n some. some;
      bases = λ q b had. more_kept (bytes_eq q number && base_eq b base) (o.bases q b) had;
      meters = λ q k is. (
        (if bytes_eq q number then with_base base k else k),
        set_kept (bytes_eq q number) (with_base base) k (o.meters q) is,
        moved_base (bytes_eq q number) q number base m k o.meters refl there later is,
      );
      shifts = omega arith;
    } in
    let put : p.meters number ≡ Some (with_base base m) =
    ap (λ (x : Bool). if x then option_map (with_base base) (o.meters number) else o.meters number)
    ((bytes_eq-Decides number number).1 refl) ∙ ap (option_map (with_base base)) there in
    record {
      tariffs = office.tariffs;
      meters = λ q k e.
          let was = set_cases (bytes_eq q number) (with_base base) k (o.meters q) e in
          let old = office.meters q was.0 was.1 in
          elim was.2 [
            | inl set ↦
                let here : p.bases q base ≡ true = subst (λ (n : List ℕ). p.bases n base ≡ true)
                (sym ((bytes_eq-Decides q number).0 set.0)) (more_here number base o.bases) in
                subst (λ (k : Meter). IsMeterRow p q k) set.1 (record { numbered = old.numbered; key = old.key; tariff = old.tariff; base = here })
            | inr same ↦ subst (λ (k : Meter). IsMeterRow p q k) same (meter_row_kept o p keeps q was.0 old)
          ];
      bases = λ q b had. elim (more_cases (bytes_eq q number && base_eq b base) (o.bases q b) had) [
        | inl here ↦
            let both = parts_true (bytes_eq q number) (base_eq b base) here in
            let same : q ≡ number = (bytes_eq-Decides q number).0 both.0 in
            record { meter = with_base base m; meter_is = ap p.meters same ∙ put; not_after = omega (arith, equal_years b base both.1) }
        | inr before ↦ base_row_kept o p keeps q b (office.bases q b before)
      ];
      dated_steps = λ q d s e. dated_row_kept o p keeps q d s (office.dated_steps q d s e);
      shifts = office.shifts;
      shift_numbers = office.shift_numbers;
      one_open = office.one_open;
      shift_count = office.shift_count;
      sales = sales_kept o p keeps o.sales office.sales;
      sale_numbers = office.sale_numbers;
      before = office.before;
      sale_count = office.sale_count;
    }

-- a meter that is given a key has its base
pub base_with_key : (b : Bool) (key : ℕ) (m : Meter) → (if b then with_key key m else m).base ≡ m.base
base_with_key true key m = refl
base_with_key false key m = refl

-- an office with a meter given a key is an office
pub keeps_set_key : (o : Office) (number : List ℕ) (key : ℕ) → IsOffice o → key < 2 ^ 64 → IsOffice (applied (edits.SetKey number key) o)
keeps_set_key o number key office is =
    let p = applied (edits.SetKey number key) o in
    let keeps : Keeps o p = record {
      tariffs = λ n some. some;
      bases = λ q b had. had;
      meters = λ q m at. (
        (if bytes_eq q number then with_key key m else m),
        set_kept (bytes_eq q number) (with_key key) m (o.meters q) at,
        omega (arith, ap year_of (base_with_key (bytes_eq q number) key m)),
      );
      shifts = omega arith;
    } in
    record {
      tariffs = office.tariffs;
      meters = λ q m e.
          let was = set_cases (bytes_eq q number) (with_key key) m (o.meters q) e in
          let old = office.meters q was.0 was.1 in
          elim was.2 [
            | inl set ↦ subst (λ (k : Meter). IsMeterRow p q k) set.1 (record { numbered = old.numbered; key = is; tariff = old.tariff; base = old.base })
            | inr same ↦ subst (λ (k : Meter). IsMeterRow p q k) same (meter_row_kept o p keeps q was.0 old)
          ];
      bases = λ q b had. base_row_kept o p keeps q b (office.bases q b had);
      dated_steps = λ q d s e. dated_row_kept o p keeps q d s (office.dated_steps q d s e);
      shifts = office.shifts;
      shift_numbers = office.shift_numbers;
      one_open = office.one_open;
      shift_count = office.shift_count;
      sales = sales_kept o p keeps o.sales office.sales;
      sale_numbers = office.sale_numbers;
      before = office.before;
      sale_count = office.sale_count;
    }

-- an open shift of the operator is found
both_open : (a : Shift) (operator : List ℕ) (b : Bool) → bytes_eq a.operator operator ≡ true → is_none a.closed ≡ b → IsNone a.closed
    → (bytes_eq a.operator operator && is_none a.closed) ≡ false → ⊥
both_open a operator b same is none fails = let opened : is_none a.closed ≡ true = ap not none in grind (arith, nat_tests)

-- an office with a shift opened for an operator who had none open is an office
pub keeps_open_shift : (o : Office) (s : Shift) → IsOffice o → IsShiftRow s → s.number ≡ length o.shifts + 1 → open_shift o s.operator
    ≡ None → length o.shifts < greatest_count → IsOffice (applied (edits.OpenShift s) o)
keeps_open_shift o s office row number alone room =
    let p = applied (edits.OpenShift s) o in
    let more = length_push o.shifts s in
    let keeps : Keeps o p = keeps_rows o p refl refl refl (omega arith) in
    record {
      tariffs = office.tariffs;
      meters = λ q m e. meter_row_kept o p keeps q m (office.meters q m e);
      bases = λ q b had. base_row_kept o p keeps q b (office.bases q b had);
      dated_steps = λ q d s e. dated_row_kept o p keeps q d s (office.dated_steps q d s e);
      shifts = All-push IsShiftRow o.shifts s office.shifts row;
      shift_numbers = numbered_push (λ s. s.number) o.shifts s office.shift_numbers number;
      one_open = pairs_push NotBothOpen o.shifts s office.one_open (λ a there a_open s_open same.
          both_open a s.operator _ ((bytes_eq-Decides a.operator s.operator).1 same) refl a_open
          (All-contains (λ (b : Shift). (bytes_eq b.operator s.operator && is_none b.closed) ≡ false) o.shifts a (found_none _ o.shifts alone) there));
      shift_count = omega arith;
      sales = sales_kept o p keeps o.sales office.sales;
      sale_numbers = office.sale_numbers;
      before = office.before;
      sale_count = office.sale_count;
    }

-- a shift that is closed, or stays as it is
abbrev pub closing : ℕ → ℕ → Shift → Shift
closing number moment s = if s.number == number then closed_at moment s else s

closing_number : (b : Bool) (moment : ℕ) (s : Shift) → (if b then closed_at moment s else s).number ≡ s.number
closing_number true moment s = refl
closing_number false moment s = refl

closing_row : (b : Bool) (moment : ℕ) (s : Shift) → IsMoment moment → IsShiftRow s → IsShiftRow (if b then closed_at moment s else s)
closing_row true moment s is row = record { operator = row.operator; opened = row.opened; closed = λ secs e. subst IsMoment (same_Some moment secs e) is }
closing_row false moment s is row = row

closing_open : (b : Bool) (moment : ℕ) (s : Shift) → IsNone (if b then closed_at moment s else s).closed → IsNone s.closed
    × ((if b then closed_at moment s else s).operator ≡ s.operator)
closing_open true moment s none = cc
closing_open false moment s none = (none, refl)

closing_apart : (number moment : ℕ) (a b : Shift) → NotBothOpen a b → NotBothOpen (closing number moment a) (closing number moment b)
closing_apart number moment a b apart a_open b_open same =
    let x = closing_open (a.number == number) moment a a_open in
    let y = closing_open (b.number == number) moment b b_open in
    apart x.0 y.0 (sym x.1 ∙ same ∙ y.1)

-- an office with a shift closed is an office
pub keeps_close_shift : (o : Office) (number moment : ℕ) → IsOffice o → IsMoment moment → IsOffice (applied (edits.CloseShift number moment) o)
keeps_close_shift o number moment office is =
    let p = applied (edits.CloseShift number moment) o in
    let same : length p.shifts ≡ length o.shifts = length-map o.shifts (closing number moment) in
    let keeps : Keeps o p = keeps_rows o p refl refl refl (omega (arith, same)) in
    record {
      tariffs = office.tariffs;
      meters = λ q m e. meter_row_kept o p keeps q m (office.meters q m e);
      bases = λ q b had. base_row_kept o p keeps q b (office.bases q b had);
      dated_steps = λ q d s e. dated_row_kept o p keeps q d s (office.dated_steps q d s e);
      shifts = All-map IsShiftRow (closing number moment) o.shifts
          (All-weaker IsShiftRow (λ s. IsShiftRow (closing number moment s)) (λ s row. closing_row (s.number == number) moment s is row)
          o.shifts office.shifts);
      shift_numbers = numbered_map (λ s. s.number) (closing number moment) o.shifts (λ s. closing_number (s.number == number) moment s) office.shift_numbers;
      one_open = all_pairs_map NotBothOpen (closing number moment) o.shifts (closing_apart number moment) office.one_open;
      shift_count = omega (arith, same, office.shift_count);
      sales = sales_kept o p keeps o.sales office.sales;
      sale_numbers = office.sale_numbers;
      before = office.before;
      sale_count = office.sale_count;
    }

-- an office with one sale more, made after all the others, is an office
pub keeps_add_sale : (o : Office) (s : Sale) → IsOffice o → IsSaleRow o s → s.number ≡ length o.sales + 1
    → ((a : Sale) → Contains o.sales a → IsBefore a s) → length o.sales < greatest_count → IsOffice (applied (edits.AddSale s) o)
keeps_add_sale o s office row number after room =
    let p = applied (edits.AddSale s) o in
    let more = length_push o.sales s in
    let keeps : Keeps o p = keeps_rows o p refl refl refl (omega arith) in
    record {
      tariffs = office.tariffs;
      meters = λ q m e. meter_row_kept o p keeps q m (office.meters q m e);
      bases = λ q b had. base_row_kept o p keeps q b (office.bases q b had);
      dated_steps = λ q d s e. dated_row_kept o p keeps q d s (office.dated_steps q d s e);
      shifts = office.shifts;
      shift_numbers = office.shift_numbers;
      one_open = office.one_open;
      shift_count = office.shift_count;
      sales = sales_kept o p keeps (o.sales ++ s ∷ []) (All-push (IsSaleRow o) o.sales s office.sales row);
      sale_numbers = numbered_push (λ s. s.number) o.sales s office.sale_numbers number;
      before = pairs_push IsBefore o.sales s office.before after;
      sale_count = omega arith;
    }
