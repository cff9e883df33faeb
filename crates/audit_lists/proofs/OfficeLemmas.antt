-- The office whose members the rows are that keep the rules that tie them.
use Rattle.std.proofs.Common.{◌≡◌, ◌≢◌, ◌<◌, ◌≤◌, ◌-◌, ℕ, suc, Bool, true, List, [], Option, Some, None, slice_get, inl, inr, refl, sym, ap, subst, ◌∙◌, ◌++◌, arith, map}
use Rattle.std.specs.Prelude.{◌↔◌, AllPairs, ◌⊎◌, Contains, IsSome, is_some, length, if◌then◌else◌}
use Rattle.std.proofs.lemmas.Bool.{cases_lt}
use Rattle.std.proofs.lemmas.Option.{none-some, same_Some}
use Rattle.sts_fields.specs.Base.{year_of}
use Rattle.sts_fields.specs.Day.{IsDay}
use Rattle.sts_fields.specs.Moment.{IsMoment}
use Rattle.sts_fields.specs.declared.base.Base.{Base}
use Rattle.tariff.specs.declared.step.Step.{Step}
use Rattle.office_rules.specs.Name.{IsMeterNo, IsName}
use Rattle.office_rules.specs.Office.{IsBaseRow, IsBefore, IsDatedRow, IsMeterRow, IsOffice, IsSaleRow, IsShiftRow, IsTariffRow, NotBothOpen, Office, greatest_count}
use Rattle.office_rules.specs.declared.office.meter.Meter.{Meter}
use Rattle.office_rules.specs.declared.office.sale.Sale.{Sale}
use Rattle.book_tables.specs.Stands.{AreApart, AreDatedApart, AreMembersOf, AreTotalsOf, HasDatedStep, HasStep}
use Rattle.book_tables.specs.row.Rows as stored
use Rattle.book_tables.specs.row.Values.{AreMeterValues, AreSaleValues, AreShiftValues, AreStepValues, IsClosing}
use Rattle.book_tables.specs.declared.reading.pages.MeterRow.{MeterRow}
use Rattle.audit_rows.specs.AllRows.{KeepRules, with_totals}
use Rattle.audit_rows.specs.Entries.{base_entry, dated_entry, meter_entry, rows_of, step_entry}
use Rattle.audit_rows.specs.declared.office_rows.OfficeRows.{OfficeRows}
use Rattle.audit_rows.specs.declared.rows.BaseRow.{BaseRow}
use Rattle.audit_rows.specs.declared.rows.DatedStepRow.{DatedStepRow}
use Rattle.audit_rows.specs.declared.rows.StepRow.{StepRow}
use Rattle.audit_lists.specs.Keys.{HasKey, IsNew, Key}
use Rattle.audit_lists.specs.RowKeys.{base_key, dated_before_key, dated_first_key, dated_key, meter_key, name_key, place_key, step_before_key, step_key, open_key, ref_key, tid_key}
use Rattle.audit_lists.specs.Rules.{dated_rules, dated_step_of, meter_rules, sale_rules, shift_rules, row_step, tariff_rules, tie_rules}
use Rattle.audit_lists.specs.Steps.{at_place}
use Rattle.audit_lists.specs.Ties.{AreKept, Each}
use Rattle.book_tables.proofs.RowLemmas.RecordLemmas.{one_base}
use Rattle.audit_lists.proofs.EachLemmas.{row_below}
use Rattle.audit_lists.proofs.FindLemmas.{had, had_from, had_to}
use Rattle.audit_lists.proofs.ListLemmas.{all_at, all_from, at_contains, closed_is, contains_at, contains_map, map_at, map_contains, one_row, pairs_at, pairs_map, some_is}
use Rattle.audit_lists.proofs.StepLemmas.{StepsHad, steps_had}
use Rattle.audit_lists.proofs.TieLemmas.{kept_parts}

-- no two of what rows with keys are mapped to
apart_from : {T : Type 0} (key : T → Key) (rows : List T) → Each (IsNew key rows) rows → (i j : ℕ) (a b : T) → i < j → slice_get rows i
    ≡ Some a → slice_get rows j ≡ Some b → key a ≢ key b
apart_from key rows once i j a b low at_a at_b same = once j b at_b i low (a, at_a, same)

closing : (o : Option ℕ) → IsClosing o → (secs : ℕ) → o ≡ Some secs → IsMoment secs
closing None is secs e = absurd (none-some secs e)
closing (Some at) is secs e = subst IsMoment (same_Some at secs e) is

few_rows : {T : Type 0} (rows : List T) → Each (λ i _. i < greatest_count) rows → length rows ≤ greatest_count
few_rows rows kept = by (cases_lt greatest_count (length rows))
  where
    by : (greatest_count < length rows) ⊎ (length rows ≤ greatest_count) → length rows ≤ greatest_count
    by (inl more) = let row = row_below rows greatest_count more in let low = kept greatest_count row.0 row.1 in absurd (omega (arith, low))
    by (inr least) = least

step_is_before : (row : StepRow) (q : Key) (p : ℕ) → step_key row ≡ at_place q (suc p) → step_before_key row ≡ at_place q p
step_is_before row q p e =
    let place : row.place ≡ suc p = ap (λ (k : Key). k.3) e in
    let last : row.place - 1 ≡ p = omega (arith, place) in
    ap (λ (k : Key). at_place k (row.place - 1)) e ∙ ap (at_place q) last

dated_is_before : (row : DatedStepRow) (q : Key) (p : ℕ) → dated_key row ≡ at_place q (suc p) → dated_before_key row ≡ at_place q p
dated_is_before row q p e =
    let place : row.place ≡ suc p = ap (λ (k : Key). k.3) e in
    let last : row.place - 1 ≡ p = omega (arith, place) in
    ap (λ (k : Key). at_place k (row.place - 1)) e ∙ ap (at_place q) last

abbrev stored_step : List ℕ → ℕ → Step → stored.StepRow
stored_step tariff place step = record { tariff = tariff; place = place; step = step }

abbrev stored_dated : List ℕ → ℕ → ℕ → Step → stored.DatedStepRow
stored_dated tariff day place step = record { tariff = tariff; day = day; place = place; step = step }

abbrev shift_place : List ℕ → ℕ → Key
shift_place operator number = (operator, [], number, 0)

module _ (r : OfficeRows) (of_tariffs : AreKept (tariff_rules r.tariffs.items r.steps.items))
    (of_dated : AreKept (dated_rules r.tariffs.items r.dated_steps.items))
    (of_meters : AreKept (meter_rules r.tariffs.items r.meters.items r.bases.items)) (of_shifts : AreKept (shift_rules r.shifts.items))
    (of_sales : AreKept (sale_rules (length r.shifts.items) r.bases.items r.sales.items)) where
  -- ---- the office

  tariff_steps : StepsHad row_step step_key r.steps.items name_key r.tariffs.items
  tariff_steps = steps_had row_step step_key step_before_key r.steps.items of_tariffs.1.0 of_tariffs.1.1.1.0 step_is_before name_key
      r.tariffs.items of_tariffs.1.1.1.1.0

  dated_steps : StepsHad dated_step_of dated_key r.dated_steps.items dated_first_key r.dated_steps.items
  dated_steps = steps_had dated_step_of dated_key dated_before_key r.dated_steps.items of_dated.0 of_dated.1.1.0 dated_is_before
      dated_first_key r.dated_steps.items of_dated.1.1.1.0

  abbrev meter_of : List ℕ → Option Meter
  meter_of number = had meter_key r.meters.items (name_key number) (λ has. has.1.0.meter)

  abbrev base_place : List ℕ → Base → Key
  base_place number base = (number, [], year_of base, 0)

  abbrev has_base : List ℕ → Base → Bool
  has_base number base = is_some (had base_key r.bases.items (base_place number base) (λ has. has.0))

  abbrev office : Office
  office = record {
    tariffs = λ name. tariff_steps.had (name_key name);
    meters = meter_of;
    bases = has_base;
    dated_steps = λ name day. dated_steps.had (place_key name day 0);
    shifts = r.shifts.items;
    sales = r.sales.items;
  }

  -- ---- its members

  tariff_from : (name : List ℕ) (s : List Step) → tariff_steps.had (name_key name) ≡ Some s → (i : ℕ) × (slice_get r.tariffs.items i ≡ Some name)
  tariff_from name s e =
      let f = tariff_steps.from (name_key name) s e in
      (f.0.0, f.0.1.1 ∙ ap Some (ap (λ (q : Key). q.0) f.0.1.2))

  tariffs_are : (name : List ℕ) → IsSome (tariff_steps.had (name_key name)) ↔ Contains r.tariffs.items name
  tariffs_are name = (
    λ some. let s = some_is (tariff_steps.had (name_key name)) some in let f = tariff_from name s.0 s.1 in contains_at r.tariffs.items f.0 name f.1,
    λ there. let at = at_contains r.tariffs.items name there in tariff_steps.to (name_key name) (at.0, (name, at.1, refl)),
  )

  steps_are : (e : stored.StepRow) → HasStep office e ↔ Contains (map step_entry r.steps.items) e
  steps_are e = (
    λ has.
        let h = tariff_steps.step_from (name_key e.tariff) has.0 e.place e.step has.1 has.2 in
        let tariff : h.1.tariff ≡ e.tariff = ap (λ (q : Key). q.0) h.3 in
        let place : h.1.place ≡ e.place = ap (λ (q : Key). q.3) h.3 in
        let is = ap (λ (x : List ℕ). stored_step x h.1.place h.1.step) tariff ∙ ap (λ (x : ℕ). stored_step e.tariff x h.1.step) place
        ∙ ap (stored_step e.tariff e.place) h.4 in
        subst (Contains (map step_entry r.steps.items)) is (contains_map step_entry r.steps.items h.0 h.1 h.2),
    λ there.
        let f = map_contains step_entry r.steps.items e there in
        subst (HasStep office) f.3 (tariff_steps.step_to (name_key f.1.tariff) f.0 f.1 f.1.place (of_tariffs.1.1.0 f.0 f.1 f.2) f.2 refl),
  )

  dated_are : (e : stored.DatedStepRow) → HasDatedStep office e ↔ Contains (map dated_entry r.dated_steps.items) e
  dated_are e = (
    λ has.
        let h = dated_steps.step_from (place_key e.tariff e.day 0) has.0 e.place e.step has.1 has.2 in
        let tariff : h.1.tariff ≡ e.tariff = ap (λ (q : Key). q.0) h.3 in
        let day : h.1.day ≡ e.day = ap (λ (q : Key). q.2) h.3 in
        let place : h.1.place ≡ e.place = ap (λ (q : Key). q.3) h.3 in
        let is = ap (λ (x : List ℕ). stored_dated x h.1.day h.1.place h.1.step) tariff
        ∙ ap (λ (x : ℕ). stored_dated e.tariff x h.1.place h.1.step) day ∙ ap (λ (x : ℕ). stored_dated e.tariff e.day x h.1.step) place
        ∙ ap (stored_dated e.tariff e.day e.place) h.4 in
        subst (Contains (map dated_entry r.dated_steps.items)) is (contains_map dated_entry r.dated_steps.items h.0 h.1 h.2),
    λ there.
        let f = map_contains dated_entry r.dated_steps.items e there in
        subst (HasDatedStep office) f.3 (dated_steps.step_to (dated_first_key f.1) f.0 f.1 f.1.place (f.0, (f.1, f.2, refl)) f.2 refl),
  )

  -- the meter of a number, by the row that has it
  meter_is : (i : ℕ) (row : MeterRow) (number : List ℕ) → slice_get r.meters.items i ≡ Some row → row.number ≡ number → meter_of number ≡ Some row.meter
  meter_is i row number there is =
      let h = had_to meter_key r.meters.items (name_key number) (λ has. has.1.0.meter) (i, (row, there, ap name_key is)) in
      h.1 ∙ ap (λ (x : MeterRow). Some x.meter) (one_row meter_key r.meters.items of_meters.0 h.0.0 i h.0.1.0 row h.0.1.1 there
      (h.0.1.2 ∙ sym (ap name_key is)))

  meter_from : (number : List ℕ) (m : Meter) → meter_of number ≡ Some m → (i : ℕ) × (row : MeterRow)
      × (slice_get r.meters.items i ≡ Some row) × (meter_entry row ≡ (number, m))
  meter_from number m e =
      let h = had_from meter_key r.meters.items (name_key number) (λ has. has.1.0.meter) m e in
      (h.0.0, h.0.1.0, h.0.1.1, ap (λ (x : List ℕ). (x, h.0.1.0.meter)) (ap (λ (q : Key). q.0) h.0.1.2) ∙ ap (λ (x : Meter). (number, x)) h.1)

  meters_are : (number : List ℕ) (m : Meter) → (meter_of number ≡ Some m) ↔ Contains (map meter_entry r.meters.items) (number, m)
  meters_are number m = (
    λ e. let f = meter_from number m e in subst (Contains (map meter_entry r.meters.items)) f.3 (contains_map meter_entry r.meters.items f.0 f.1 f.2),
    λ there.
        let f = map_contains meter_entry r.meters.items (number, m) there in
        meter_is f.0 f.1 number f.2 (ap (λ (p : List ℕ × Meter). p.0) f.3) ∙ ap (λ (p : List ℕ × Meter). Some p.1) f.3,
  )

  base_from : (number : List ℕ) (base : Base) → has_base number base ≡ true → (i : ℕ) × (row : BaseRow)
      × (slice_get r.bases.items i ≡ Some row) × (base_entry row ≡ (number, base))
  base_from number base e =
      let s = some_is (had base_key r.bases.items (base_place number base) (λ has. has.0)) e in
      let h = had_from base_key r.bases.items (base_place number base) (λ has. has.0) s.0 s.1 in
      let row = h.0.1.0 in (
        h.0.0,
        row,
        h.0.1.1,
        ap (λ (x : List ℕ). (x, row.base)) (ap (λ (q : Key). q.0) h.0.1.2)
            ∙ ap (λ (x : Base). (number, x)) (one_base row.base base (ap (λ (q : Key). q.2) h.0.1.2)),
      )

  base_there : (number : List ℕ) (base : Base) → HasKey base_key r.bases.items (base_place number base) → has_base number base ≡ true
  base_there number base has = ap is_some (had_to base_key r.bases.items (base_place number base) (λ has. has.0) has).1

  bases_are : (number : List ℕ) (base : Base) → (has_base number base ≡ true) ↔ Contains (map base_entry r.bases.items) (number, base)
  bases_are number base = (
    λ e. let f = base_from number base e in subst (Contains (map base_entry r.bases.items)) f.3 (contains_map base_entry r.bases.items f.0 f.1 f.2),
    λ there.
        let f = map_contains base_entry r.bases.items (number, base) there in
        base_there number base (f.0, (f.1, f.2, ap (λ (p : List ℕ × Base). base_place p.0 p.1) f.3)),
  )

  members : (totals : stored.Rows) → AreTotalsOf r.sales.items (with_totals (rows_of r) totals) → AreMembersOf (with_totals (rows_of r) totals) office
  members totals sums = record {
    tariffs = tariffs_are;
    steps = steps_are;
    meters = meters_are;
    bases = bases_are;
    dated_steps = dated_are;
    shifts = refl;
    sales = refl;
    totals = sums;
    tariffs_once = pairs_at (λ (a b : List ℕ). a ≢ b) r.tariffs.items
        (λ i j a b low at_a at_b same. apart_from name_key r.tariffs.items of_tariffs.0 i j a b low at_a at_b (ap name_key same));
    steps_once = pairs_map AreApart step_entry r.steps.items
        (λ i j a b low at_a at_b tariff place. apart_from step_key r.steps.items of_tariffs.1.0 i j a b low at_a at_b (cc));
    meters_once = pairs_map (λ (a b : List ℕ × Meter). a.0 ≢ b.0) meter_entry r.meters.items
        (λ i j a b low at_a at_b same. apart_from meter_key r.meters.items of_meters.0 i j a b low at_a at_b (ap name_key same));
    bases_once = pairs_map (λ (a b : List ℕ × Base). a ≢ b) base_entry r.bases.items
        (λ i j a b low at_a at_b same. apart_from base_key r.bases.items of_meters.1.0 i j a b low at_a at_b
        (ap (λ (p : List ℕ × Base). base_place p.0 p.1) same));
    dated_once = pairs_map AreDatedApart dated_entry r.dated_steps.items
        (λ i j a b low at_a at_b tariff day place. apart_from dated_key r.dated_steps.items of_dated.0 i j a b low at_a at_b (cc));
  }

  -- ---- what they keep

  module _ (v : KeepRules (rows_of r)) where
    tariffs_keep : (name : List ℕ) (s : List Step) → tariff_steps.had (name_key name) ≡ Some s → IsTariffRow name s
    tariffs_keep name s e =
        let f = tariff_from name s e in
        record { named = all_at IsName r.tariffs.items v.tariffs f.0 name f.1; priced = (tariff_steps.from (name_key name) s e).1 }

    meters_keep : (number : List ℕ) (m : Meter) → meter_of number ≡ Some m → IsMeterRow office number m
    meters_keep number m e =
        let f = meter_from number m e in
        let values = all_at (λ (x : List ℕ × Meter). IsMeterNo x.0 × AreMeterValues x.1) (map meter_entry r.meters.items) v.meters f.0
        (meter_entry f.1) (map_at meter_entry r.meters.items f.0 f.1 f.2) in
        subst (λ (x : List ℕ × Meter). IsMeterRow office x.0 x.1) f.3 (record {
          numbered = values.0;
          key = values.1.key;
          tariff = tariff_steps.to (name_key f.1.meter.tariff) (of_meters.1.1.0 f.0 f.1 f.2);
          base = base_there f.1.number f.1.meter.base (of_meters.1.1.1.0 f.0 f.1 f.2);
        })

    bases_keep : (number : List ℕ) (base : Base) → has_base number base ≡ true → IsBaseRow office number base
    bases_keep number base e =
        let f = base_from number base e in
        let m = of_meters.1.1.1.1.0 f.0 f.1 f.2 in
        subst (λ (x : List ℕ × Base). IsBaseRow office x.0 x.1) f.3
        (record { meter = m.1.meter; meter_is = meter_is m.0 m.1 f.1.meter m.2 m.3; not_after = m.4 })

    dated_keep : (name : List ℕ) (day : ℕ) (s : List Step) → dated_steps.had (place_key name day 0) ≡ Some s → IsDatedRow office name day s
    dated_keep name day s e =
        let f = dated_steps.from (place_key name day 0) s e in
        let row = f.0.1.0 in
        let values = all_at (λ (x : stored.DatedStepRow). IsName x.tariff × (IsDay x.day × AreStepValues x.step))
        (map dated_entry r.dated_steps.items) v.dated_steps f.0.0 (dated_entry row) (map_at dated_entry r.dated_steps.items f.0.0 row f.0.1.1) in
        record {
          tariff = subst (λ (q : Key). IsSome (tariff_steps.had (name_key q.0))) f.0.1.2
              (tariff_steps.to (name_key row.tariff) (of_dated.1.0 f.0.0 row f.0.1.1));
          in_range = subst (λ (q : Key). IsDay q.2) f.0.1.2 values.1.0;
          priced = f.1;
        }

    one_open : AllPairs NotBothOpen r.shifts.items
    one_open = pairs_at NotBothOpen r.shifts.items (λ i j a b low at_a at_b open_a open_b same.
        let first = closed_is a.closed open_a in
        let second = closed_is b.closed open_b in
        apart_from open_key r.shifts.items of_shifts.1.1.0 i j a b low at_a at_b
        (ap (λ (x : Bool). shift_place a.operator (if x then a.number else 0)) first ∙ ap (λ (x : List ℕ). shift_place x 0) same
        ∙ sym (ap (λ (x : Bool). shift_place b.operator (if x then b.number else 0)) second)))

    sale_keeps : (i : ℕ) (s : Sale) → slice_get r.sales.items i ≡ Some s → IsSaleRow office s
    sale_keeps i s there =
        let values = all_at AreSaleValues r.sales.items v.sales i s there in
        let base = base_there s.meter s.base (of_sales.1.1.1.1.1.0 i s there) in
        let row = bases_keep s.meter s.base base in
        record {
          moment = values.moment;
          shift = of_sales.1.1.1.1.0 i s there;
          operator = values.operator;
          order_ref = values.order_ref;
          meter = ap is_some row.meter_is;
          base = base;
          tid = values.tid;
          rnd = values.rnd;
          tenths = values.tenths;
          tender = values.tender;
          price = values.price;
          digits = values.digits;
        }

    before : AllPairs IsBefore r.sales.items
    before = pairs_at IsBefore r.sales.items (λ i j a b low at_a at_b. record {
      number = let first = of_sales.1.0 i a at_a in let second = of_sales.1.0 j b at_b in omega (arith, first, second, low);
      tid = λ meter base tid. apart_from tid_key r.sales.items of_sales.1.1.0 i j a b low at_a at_b (cc);
      order_ref = λ operator ref. apart_from ref_key r.sales.items of_sales.1.1.1.0 i j a b low at_a at_b (cc);
    })

    office_keeps : IsOffice office
    office_keeps = record {
      tariffs = tariffs_keep;
      meters = meters_keep;
      bases = bases_keep;
      dated_steps = dated_keep;
      shifts = all_from IsShiftRow r.shifts.items (λ i s there.
          let values = all_at AreShiftValues r.shifts.items v.shifts i s there in
          record { operator = values.operator; opened = values.opened; closed = closing s.closed values.closed });
      shift_numbers = of_shifts.1.0;
      one_open = one_open;
      shift_count = few_rows r.shifts.items of_shifts.0;
      sales = all_from (IsSaleRow office) r.sales.items sale_keeps;
      sale_numbers = of_sales.1.0;
      before = before;
      sale_count = few_rows r.sales.items of_sales.0;
    }

    shown_by : (totals : stored.Rows) → AreTotalsOf r.sales.items (with_totals (rows_of r) totals) → (o : Office) × IsOffice o
        × AreMembersOf (with_totals (rows_of r) totals) o
    shown_by totals sums = (office, office_keeps, members totals sums)

-- rows that keep the rules are the members of an office, with any totals of its sales
pub shown : (r : OfficeRows) → AreKept (tie_rules r) → KeepRules (rows_of r) → (totals : stored.Rows)
    → AreTotalsOf r.sales.items (with_totals (rows_of r) totals) → (o : Office) × IsOffice o × AreMembersOf (with_totals (rows_of r) totals) o
shown r kept =
    let sales = sale_rules (length r.shifts.items) r.bases.items r.sales.items in
    let shifts = shift_rules r.shifts.items in
    let meters = meter_rules r.tariffs.items r.meters.items r.bases.items in
    let dated = dated_rules r.tariffs.items r.dated_steps.items in
    let first = kept_parts (tariff_rules r.tariffs.items r.steps.items) (dated ++ meters ++ shifts ++ sales) kept in
    let second = kept_parts dated (meters ++ shifts ++ sales) first.1 in
    let third = kept_parts meters (shifts ++ sales) second.1 in
    let fourth = kept_parts shifts sales third.1 in
    shown_by r first.0 second.0 third.0 fourth.0 fourth.1

-- there are no more sales than an office holds
pub sale_count : (r : OfficeRows) → AreKept (tie_rules r) → length r.sales.items ≤ greatest_count
sale_count r kept =
    let tables = tariff_rules r.tariffs.items r.steps.items ++ dated_rules r.tariffs.items r.dated_steps.items
    ++ meter_rules r.tariffs.items r.meters.items r.bases.items ++ shift_rules r.shifts.items in
    few_rows r.sales.items (kept_parts tables (sale_rules (length r.shifts.items) r.bases.items r.sales.items) kept).1.0
