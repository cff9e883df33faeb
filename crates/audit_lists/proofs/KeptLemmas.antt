-- The members of an office keep the rules that tie them.
use Rattle.std.proofs.Common.{◌≡◌, ◌≢◌, ◌<◌, ◌≤◌, ◌-◌, ℕ, zero, suc, Bool, true, false, List, [], Option, Some, slice_get, inr, refl, sym, ap, subst, ◌∙◌, ◌++◌, arith, map}
use Rattle.std.specs.Prelude.{All, AllPairs, is_some, length, if◌then◌else◌}
use Rattle.std.proofs.lemmas.Option.{same_Some, slice_get_within}
use Rattle.sts_fields.specs.Base.{year_of}
use Rattle.sts_fields.specs.declared.base.Base.{Base}
use Rattle.tariff.specs.Steps.{IsSteps}
use Rattle.tariff.specs.declared.step.Step.{Step}
use Rattle.office_rules.specs.Office.{AreNumbered, IsBefore, IsOffice, IsSaleRow, NotBothOpen, Office, greatest_count}
use Rattle.office_rules.specs.declared.office.meter.Meter.{Meter}
use Rattle.office_rules.specs.declared.office.sale.Sale.{Sale}
use Rattle.office_rules.specs.declared.office.shift.Shift.{Shift}
use Rattle.book_tables.specs.Stands.{AreApart, AreDatedApart, AreMembersOf, HasDatedStep, HasStep}
use Rattle.book_tables.specs.row.Rows as stored
use Rattle.book_tables.specs.declared.reading.pages.MeterRow.{MeterRow}
use Rattle.audit_rows.specs.AllRows.{with_totals}
use Rattle.audit_rows.specs.Entries.{base_entry, dated_entry, meter_entry, rows_of, step_entry}
use Rattle.audit_rows.specs.declared.office_rows.OfficeRows.{OfficeRows}
use Rattle.audit_rows.specs.declared.rows.DatedStepRow.{DatedStepRow}
use Rattle.audit_rows.specs.declared.rows.StepRow.{StepRow}
use Rattle.audit_lists.specs.Keys.{HasKey, IsNew, Key}
use Rattle.audit_lists.specs.RowKeys.{base_key, dated_before_key, dated_key, meter_key, name_key, open_key, place_key, ref_key, step_before_key, step_key, tid_key}
use Rattle.audit_lists.specs.Rules.{IsInShift, IsOfMeter, dated_rules, dated_step_of, meter_rules, sale_rules, shift_rules, row_step, tariff_rules, tie_rules}
use Rattle.audit_lists.specs.Steps.{AreSteps, HasStepAt, at_place}
use Rattle.audit_lists.specs.Ties.{AreKept, Each}
use Rattle.book_tables.proofs.RowLemmas.RecordLemmas.{one_base}
use Rattle.audit_lists.proofs.EachLemmas.{row_below}
use Rattle.audit_lists.proofs.ListLemmas.{all_at, at_contains, at_pairs, contains_at, contains_map, map_at, map_contains, open_is, some_is}
use Rattle.audit_lists.proofs.TieLemmas.{kept_both}

-- rows of which no two have one key
new_keys : {T : Type 0} (key : T → Key) (rows : List T) (R : T → T → Type 0)
    → ((i j : ℕ) (a b : T) → i < j → slice_get rows i ≡ Some a → slice_get rows j ≡ Some b → R a b)
    → ((a b : T) → key a ≡ key b → R a b → ⊥) → Each (IsNew key rows) rows
new_keys key rows R apart unlike i row there j low (other, at, same) = unlike other row same (apart j i other row low at there)

-- the same where it is known of what they are mapped to
new_entries : {T X : Type 0} (key : T → Key) (rows : List T) (f : T → X) (R : X → X → Type 0) → AllPairs R (map f rows)
    → ((a b : T) → key a ≡ key b → R (f a) (f b) → ⊥) → Each (IsNew key rows) rows
new_entries key rows f R pairs unlike = new_keys key rows (λ a b. R (f a) (f b))
    (λ i j a b below at_a at_b. at_pairs R (map f rows) pairs i j (f a) (f b) below (map_at f rows i a at_a) (map_at f rows j b at_b)) unlike

-- steps that an office has under names or under names and days, beside their rows
module _ {T I : Type 0} (step : T → Step) (key before : T → Key) (rows : List T) (of : T → I) (place : T → ℕ) (base : I → Key)
    (is : (row : T) → key row ≡ at_place (base (of row)) (place row))
    (before_is : (row : T) → before row ≡ at_place (base (of row)) (place row - 1))
    (one : (a b : I) (p q : ℕ) → at_place (base a) p ≡ at_place (base b) q → (a ≡ b) × (p ≡ q)) (have : I → Option (List Step))
    (to : (i : ℕ) (row : T) → slice_get rows i ≡ Some row → (s : List Step) × (have (of row) ≡ Some s)
    × (slice_get s (place row) ≡ Some (step row))) (from : (x : I) (s : List Step) (p : ℕ) (y : Step) → have x ≡ Some s → slice_get s p
    ≡ Some y → HasStepAt step key rows (at_place (base x) p) y) where
  -- a row is at the place before that of each row
  places_follow : Each (λ _ row. HasKey key rows (before row)) rows
  places_follow i row there = by (place row) refl
    where
      by : (p : ℕ) → place row ≡ p → HasKey key rows (before row)
      by zero e =
          let itself : place row ≡ place row - 1 = omega (arith, e) in
          (i, (row, there, is row ∙ ap (at_place (base (of row))) itself ∙ sym (before_is row)))
      by (suc p) e =
          let h = to i row there in
          let within = slice_get_within h.0 (place row) (step row) h.2 in
          let y = row_below h.0 p (omega (arith, e, within)) in
          let f = from (of row) h.0 p y.0 h.1 y.1 in
          let last : p ≡ place row - 1 = omega (arith, e) in
          (f.0, (f.1, f.2, f.3 ∙ ap (at_place (base (of row))) last ∙ sym (before_is row)))

  -- the rows under a name are the steps that the office has
  steps_are : (x : I) (s : List Step) → have x ≡ Some s → IsSteps s → AreSteps step key rows (base x)
  steps_are x s e priced = record {
    steps = s;
    first = record { there = λ p y at. from x s p y e at; ended = inr ended };
    priced = priced;
  }
    where
      ended : ¬ HasKey key rows (at_place (base x) (length s))
      ended (i, (row, there, at)) =
          let h = to i row there in
          let same = one (of row) x (place row) (length s) (sym (is row) ∙ at) in
          let steps : h.0 ≡ s = same_Some h.0 s (sym h.1 ∙ ap have same.0 ∙ e) in
          let within = slice_get_within h.0 (place row) (step row) h.2 in
          let long : length h.0 ≡ length s = ap length steps in
          let last = same.1 in
          omega (arith, within, long, last)

  -- each row of steps has the one before it, and the office's steps under a key are rows
  pub steps_kept : Each (λ _ row. HasKey key rows (before row)) rows × ((x : I) (s : List Step) → have x ≡ Some s → IsSteps s → AreSteps step key rows (base x))
  steps_kept = (places_follow, steps_are)

module _ (r : OfficeRows) (totals : stored.Rows) (o : Office) (m : AreMembersOf (with_totals (rows_of r) totals) o) (keeps : IsOffice o) where
  -- ---- tariffs and their steps

  tariff_there : (name : List ℕ) (s : List Step) → o.tariffs name ≡ Some s → HasKey name_key r.tariffs.items (name_key name)
  tariff_there name s e =
      let at = at_contains r.tariffs.items name ((m.tariffs name).0 (ap is_some e)) in
      (at.0, (name, at.1, refl))

  step_to : (i : ℕ) (row : StepRow) → slice_get r.steps.items i ≡ Some row → HasStep o (step_entry row)
  step_to i row there = (m.steps (step_entry row)).1 (contains_map step_entry r.steps.items i row there)

  step_from : (name : List ℕ) (s : List Step) (p : ℕ) (x : Step) → o.tariffs name ≡ Some s → slice_get s p ≡ Some x
      → HasStepAt row_step step_key r.steps.items (place_key name 0 p) x
  step_from name s p x e at =
      let entry : stored.StepRow = record { tariff = name; place = p; step = x } in
      let f = map_contains step_entry r.steps.items entry ((m.steps entry).0 (s, e, at)) in
      (f.0, f.1, f.2, ap (λ (y : stored.StepRow). place_key y.tariff 0 y.place) f.3, ap (λ (y : stored.StepRow). y.step) f.3)

  tariff_steps : Each (λ _ row. HasKey step_key r.steps.items (step_before_key row)) r.steps.items
      × ((name : List ℕ) (s : List Step) → o.tariffs name ≡ Some s → IsSteps s → AreSteps row_step step_key r.steps.items (name_key name))
  tariff_steps = steps_kept row_step step_key step_before_key r.steps.items (λ row. row.tariff) (λ row. row.place) name_key (λ row. refl)
      (λ row. refl) (λ a b p q e. (ap (λ (k : Key). k.0) e, ap (λ (k : Key). k.3) e)) o.tariffs step_to step_from

  -- ---- steps from a day on

  abbrev Dated : Type 0
  Dated = List ℕ × ℕ

  dated_to : (i : ℕ) (row : DatedStepRow) → slice_get r.dated_steps.items i ≡ Some row → HasDatedStep o (dated_entry row)
  dated_to i row there = (m.dated_steps (dated_entry row)).1 (contains_map dated_entry r.dated_steps.items i row there)

  dated_from : (x : Dated) (s : List Step) (p : ℕ) (y : Step) → o.dated_steps x.0 x.1 ≡ Some s → slice_get s p ≡ Some y
      → HasStepAt dated_step_of dated_key r.dated_steps.items (place_key x.0 x.1 p) y
  dated_from x s p y e at =
      let entry : stored.DatedStepRow = record { tariff = x.0; day = x.1; place = p; step = y } in
      let f = map_contains dated_entry r.dated_steps.items entry ((m.dated_steps entry).0 (s, e, at)) in
      (f.0, f.1, f.2, ap (λ (z : stored.DatedStepRow). place_key z.tariff z.day z.place) f.3, ap (λ (z : stored.DatedStepRow). z.step) f.3)

  dated_steps : Each (λ _ row. HasKey dated_key r.dated_steps.items (dated_before_key row)) r.dated_steps.items
      × ((x : Dated) (s : List Step) → o.dated_steps x.0 x.1 ≡ Some s → IsSteps s → AreSteps dated_step_of dated_key r.dated_steps.items (place_key x.0 x.1 0))
  dated_steps = steps_kept dated_step_of dated_key dated_before_key r.dated_steps.items (λ row. (row.tariff, row.day)) (λ row. row.place)
      (λ (x : Dated). place_key x.0 x.1 0) (λ row. refl) (λ row. refl)
      (λ a b p q e. (ap (λ (k : Key). (k.0, k.2)) e, ap (λ (k : Key). k.3) e)) (λ x. o.dated_steps x.0 x.1) dated_to dated_from

  -- ---- meters and their bases

  meter_at : (i : ℕ) (row : MeterRow) → slice_get r.meters.items i ≡ Some row → o.meters row.number ≡ Some row.meter
  meter_at i row there = (m.meters row.number row.meter).1 (contains_map meter_entry r.meters.items i row there)

  base_there : (number : List ℕ) (base : Base) → o.bases number base ≡ true → HasKey base_key r.bases.items (number, [], year_of base, 0)
  base_there number base is =
      let f = map_contains base_entry r.bases.items (number, base) ((m.bases number base).0 is) in
      (f.0, (f.1, f.2, ap (λ (p : List ℕ × Base). (p.0, [], year_of p.1, 0)) f.3))

  of_meters : Each (λ _ base. IsOfMeter r.meters.items base) r.bases.items
  of_meters i b there =
      let row = keeps.bases b.meter b.base ((m.bases b.meter b.base).1 (contains_map base_entry r.bases.items i b there)) in
      let f = map_contains meter_entry r.meters.items (b.meter, row.meter) ((m.meters b.meter row.meter).0 row.meter_is) in (
        f.0,
        f.1,
        f.2,
        ap (λ (p : List ℕ × Meter). p.0) f.3,
        subst (λ (x : Meter). year_of b.base ≤ year_of x.base) (sym (ap (λ (p : List ℕ × Meter). p.1) f.3)) row.not_after,
      )

  -- ---- shifts and sales

  numbers : AreNumbered (λ (s : Shift). s.number) r.shifts.items
  numbers = subst (AreNumbered (λ (s : Shift). s.number)) (sym m.shifts) keeps.shift_numbers

  one_open : Each (IsNew open_key r.shifts.items) r.shifts.items
  one_open i b at_b j low (a, at_a, same) = by (is_some a.closed) (is_some b.closed) refl refl (ap (λ (q : Key). q.2) same)
    where
      by : (x y : Bool) → is_some a.closed ≡ x → is_some b.closed ≡ y → (if x then a.number else 0) ≡ (if y then b.number else 0) → ⊥
      by true true e f one = let first = numbers j a at_a in let second = numbers i b at_b in omega (arith, one, low, first, second)
      by true false e f none = let first = numbers j a at_a in omega (arith, none, first)
      by false true e f none = let second = numbers i b at_b in omega (arith, none, second)
      by false false e f one = at_pairs NotBothOpen r.shifts.items (subst (AllPairs NotBothOpen) (sym m.shifts) keeps.one_open) j i a b low
          at_a at_b (open_is a.closed e) (open_is b.closed f) (ap (λ (q : Key). q.0) same)

  before : (i j : ℕ) (a b : Sale) → i < j → slice_get r.sales.items i ≡ Some a → slice_get r.sales.items j ≡ Some b → IsBefore a b
  before = at_pairs IsBefore r.sales.items (subst (AllPairs IsBefore) (sym m.sales) keeps.before)

  sale_keeps : Each (λ _ s. IsSaleRow o s) r.sales.items
  sale_keeps = all_at (IsSaleRow o) r.sales.items (subst (All (IsSaleRow o)) (sym m.sales) keeps.sales)

  few : {T : Type 0} (rows of : List T) → rows ≡ of → length of ≤ greatest_count → Each (λ (i : ℕ) (_ : T). i < greatest_count) rows
  few rows of same count i row there =
      let low = slice_get_within rows i row there in
      let long : length rows ≡ length of = ap length same in
      omega (arith, low, long, count)

  tariff_kept : AreKept (tariff_rules r.tariffs.items r.steps.items)
  tariff_kept = (
    new_keys name_key r.tariffs.items (λ a b. a ≢ b) (at_pairs (λ (a b : List ℕ). a ≢ b) r.tariffs.items m.tariffs_once)
        (λ a b same apart. apart (ap (λ (q : Key). q.0) same)),
    (
      new_entries step_key r.steps.items step_entry AreApart m.steps_once (λ a b same apart. apart (ap (λ (q : Key). q.0) same) (ap (λ (q : Key). q.3) same)),
      (
        λ i row there. let h = step_to i row there in tariff_there row.tariff h.0 h.1,
        (
          tariff_steps.0,
          (
            λ i name there.
                let s = some_is (o.tariffs name) ((m.tariffs name).1 (contains_at r.tariffs.items i name there)) in
                tariff_steps.1 name s.0 s.1 (keeps.tariffs name s.0 s.1).priced,
            tt,
          ),
        ),
      ),
    ),
  )

  dated_kept : AreKept (dated_rules r.tariffs.items r.dated_steps.items)
  dated_kept = (
    new_entries dated_key r.dated_steps.items dated_entry AreDatedApart m.dated_once
        (λ a b same apart. apart (ap (λ (q : Key). q.0) same) (ap (λ (q : Key). q.2) same) (ap (λ (q : Key). q.3) same)),
    (
      λ i row there.
          let h = dated_to i row there in
          let s = some_is (o.tariffs row.tariff) (keeps.dated_steps row.tariff row.day h.0 h.1).tariff in
          tariff_there row.tariff s.0 s.1,
      (
        dated_steps.0,
        (
          λ i row there. let h = dated_to i row there in dated_steps.1 (row.tariff, row.day) h.0 h.1 (keeps.dated_steps row.tariff row.day h.0 h.1).priced,
          tt,
        ),
      ),
    ),
  )

  meter_kept : AreKept (meter_rules r.tariffs.items r.meters.items r.bases.items)
  meter_kept = (
    new_entries meter_key r.meters.items meter_entry (λ a b. a.0 ≢ b.0) m.meters_once (λ a b same apart. apart (ap (λ (q : Key). q.0) same)),
    (
      new_entries base_key r.bases.items base_entry (λ a b. a ≢ b) m.bases_once
          (λ a b same apart. apart (ap (λ (x : List ℕ). (x, a.base)) (ap (λ (q : Key). q.0) same)
          ∙ ap (λ (x : Base). (b.meter, x)) (one_base a.base b.base (ap (λ (q : Key). q.2) same)))),
      (
        λ i row there.
            let s = some_is (o.tariffs row.meter.tariff) (keeps.meters row.number row.meter (meter_at i row there)).tariff in
            tariff_there row.meter.tariff s.0 s.1,
        (
          λ i row there. base_there row.number row.meter.base (keeps.meters row.number row.meter (meter_at i row there)).base,
          (
            of_meters,
            tt,
          ),
        ),
      ),
    ),
  )

  shift_kept : AreKept (shift_rules r.shifts.items)
  shift_kept = (
    few r.shifts.items o.shifts m.shifts keeps.shift_count,
    (
      numbers,
      (
        one_open,
        tt,
      ),
    ),
  )

  sale_kept : AreKept (sale_rules (length r.shifts.items) r.bases.items r.sales.items)
  sale_kept = (
    few r.sales.items o.sales m.sales keeps.sale_count,
    (
      subst (AreNumbered (λ (s : Sale). s.number)) (sym m.sales) keeps.sale_numbers,
      (
        new_keys tid_key r.sales.items IsBefore before (λ a b same is. is.tid (ap (λ (q : Key). q.0) same)
            (one_base a.base b.base (ap (λ (q : Key). q.2) same)) (ap (λ (q : Key). q.3) same)),
        (
          new_keys ref_key r.sales.items IsBefore before (λ a b same is. is.order_ref (ap (λ (q : Key). q.0) same) (ap (λ (q : Key). q.1) same)),
          (
            λ i s there. subst (λ (n : ℕ). IsInShift n s) (sym (ap length m.shifts)) (sale_keeps i s there).shift,
            (
              λ i s there. base_there s.meter s.base (sale_keeps i s there).base,
              tt,
            ),
          ),
        ),
      ),
    ),
  )

  -- all of them
  pub kept : AreKept (tie_rules r)
  kept = kept_both (tariff_rules r.tariffs.items r.steps.items)
      (dated_rules r.tariffs.items r.dated_steps.items ++ meter_rules r.tariffs.items r.meters.items r.bases.items
      ++ shift_rules r.shifts.items ++ sale_rules (length r.shifts.items) r.bases.items r.sales.items) tariff_kept
      (kept_both (dated_rules r.tariffs.items r.dated_steps.items)
      (meter_rules r.tariffs.items r.meters.items r.bases.items ++ shift_rules r.shifts.items
      ++ sale_rules (length r.shifts.items) r.bases.items r.sales.items) dated_kept
      (kept_both (meter_rules r.tariffs.items r.meters.items r.bases.items)
      (shift_rules r.shifts.items ++ sale_rules (length r.shifts.items) r.bases.items r.sales.items) meter_kept
      (kept_both (shift_rules r.shifts.items) (sale_rules (length r.shifts.items) r.bases.items r.sales.items) shift_kept sale_kept)))
