-- Of a plausible office: its shifts and its sales stay such while it grows, and a new sale is such.
use Rattle.std.proofs.Common.{◌≡◌, ℕ, ◌-◌, ◌<◌, ◌≤◌, ◌^◌, inl, inr, Bool, true, false, List, length, get_or, Option, Some, None, Ok, refl, sym, ◌∙◌, ap, subst, arith}
use Rattle.std.specs.Prelude.{◌&&◌, ◌==◌, All, AllPairs, Contains, IsSome, bytes_eq, if◌then◌else◌, is_none, is_some, slice_get}
use Rattle.std.proofs.lemmas.List.{get_or_default}
use Rattle.std.proofs.lemmas.List.Elements.{All-contains, All-weaker, Contains-push_cases}
use Rattle.std.proofs.lemmas.Option.{get_or_from_slice_get, same_Some, slice_get-get_or, slice_get_within}
use Rattle.std.proofs.lemmas.Slice.Eq.{bytes_eq-Decides}
use Rattle.sts_fields.specs.Amount.{IsRepresentable, code_of}
use Rattle.sts_fields.specs.Base.{year_of}
use Rattle.sts_fields.specs.Calendar.{month_at}
use Rattle.sts_fields.specs.Day.{day_at}
use Rattle.sts_fields.specs.Tid.{FreshOutcome, minute_of}
use Rattle.sts_fields.specs.declared.base.Base.{Base}
use Rattle.sts_token.specs.Block.{block_of}
use Rattle.sts_token.specs.Fields.{AreFields, TokenFields}
use Rattle.sts_token.specs.Reading.{IsOfClassZero, class_of}
use Rattle.sts_token.specs.Token.{IsToken, KeepsRange}
use Rattle.sts_token.proofs.NumberLemmas.{number_has_class_zero}
use Rattle.sts_token.proofs.TokenLemmas.{block_of-lt, number_of-lt}
use Rattle.tariff.specs.Cost.{cost_of}
use Rattle.tariff.specs.Purchase.{IsPurchase}
use Rattle.tariff.specs.declared.bought.Buy.{Buy}
use Rattle.tariff.specs.declared.step.Step.{Step}
use Rattle.office_rules.specs.Decision.Edits.{closed_at}
use Rattle.office_rules.specs.Law.Growth.{HasGrown}
use Rattle.office_rules.specs.Law.NewSale.{IsNewSale, fields_of}
use Rattle.vend_core.specs.Law.OfficeLaws.{AreStepsOn}
use Rattle.vend_core.specs.Law.Reached.{AreStepsOfOne, HasFreshTid, IsBoughtByOne, IsClosedFirst, IsGrantedAfter, IsInOpenShift, IsInOwnShift, IsUnderPresentBase, sales_alone}
use Rattle.office_rules.specs.Office.Lookup.{prior, steps_on, used}
use Rattle.office_rules.specs.Office.{AreNumbered, IsOffice, IsSaleRow, Office}
use Rattle.office_rules.specs.declared.decision.request.Order.{Order}
use Rattle.office_rules.specs.declared.decision.request.Stamped.{Stamped}
use Rattle.office_rules.specs.declared.office.meter.Meter.{Meter}
use Rattle.office_rules.specs.declared.office.sale.Sale.{Sale}
use Rattle.office_rules.specs.declared.office.shift.Shift.{Shift}
use Rattle.office_rules.proofs.DecisionLemmas.EditLemmas.{closing}
use Rattle.vend_core.proofs.LawLemmas.DatedLemmas.{steps_on_are}
use Rattle.vend_core.proofs.LawLemmas.EffectLemmas.{ShiftsChange}
use Rattle.office_rules.proofs.OfficeLemmas.MapLemmas.{all_from_contains}
use Rattle.office_rules.proofs.OfficeLemmas.RowLemmas.{all_pairs_map, found, found_none, map_source, pairs_push, parts_true}

-- ---- the shifts

-- a shift that is no open one of the operator is closed
closed_where : (b : Bool) (closed : Option ℕ) → b ≡ true → (b && is_none closed) ≡ false
    → IsSome closed
closed_where true (Some moment) is e = refl
closed_where true None is e = cc
closed_where false closed is e = cc

-- a shift of the same number and operator after a closing, and closed if it was
record IsSameClosing (s t : Shift) : Type 0 where
  number : t.number ≡ s.number
  operator : t.operator ≡ s.operator
  closed : IsSome s.closed → IsSome t.closed

closing_at : (b : Bool) (moment : ℕ) (s : Shift)
    → IsSameClosing s (if b then closed_at moment s else s)
closing_at true moment s = record { number = refl; operator = refl; closed = λ some. refl }
closing_at false moment s = record { number = refl; operator = refl; closed = λ some. some }

same_closing : (number moment : ℕ) (s : Shift) → IsSameClosing s (closing number moment s)
same_closing number moment s = closing_at (s.number == number) moment s

-- an operator's shifts before the last stay closed while shifts are opened and closed
pub shifts_go_on : (o p : Office) → AllPairs IsClosedFirst o.shifts → ShiftsChange o p
    → AllPairs IsClosedFirst p.shifts
shifts_go_on o p pairs (inl same) = subst (AllPairs IsClosedFirst) (sym same) pairs
shifts_go_on o p pairs (inr (inl opens)) =
    subst (AllPairs IsClosedFirst) (sym opens.shifts)
    (pairs_push IsClosedFirst o.shifts opens.shift pairs (λ a there same.
    closed_where (bytes_eq a.operator opens.shift.operator) a.closed
    ((bytes_eq-Decides a.operator opens.shift.operator).1 same)
    (All-contains (λ (b : Shift).
    (bytes_eq b.operator opens.shift.operator && is_none b.closed) ≡ false)
    o.shifts a (found_none _ o.shifts opens.none_open) there)))
shifts_go_on o p pairs (inr (inr closes)) =
    let change = closing closes.number closes.moment in
    subst (AllPairs IsClosedFirst) (sym closes.shifts)
    (all_pairs_map IsClosedFirst change o.shifts (λ a b first same.
    let x = same_closing closes.number closes.moment a in
    let y = same_closing closes.number closes.moment b in
    x.closed (first (sym x.operator ∙ same ∙ y.operator))) pairs)

-- of two shifts the one of the greater number was opened later
later_pair : {X : Type 0} (R : X → X → Type 0) (number : X → ℕ) (xs : List X) (x y : X)
    → AllPairs R xs → AreNumbered number xs → Contains xs x → Contains xs y
    → number x < number y → R x y
later_pair R number xs x y pairs numbered a b less =
    let at_x = numbered a.0 x (slice_get-get_or xs a.0 x a.1 ∙ ap Some a.2) in
    let at_y = numbered b.0 y (slice_get-get_or xs b.0 y b.1 ∙ ap Some b.2) in
    let before : a.0 < b.0 = omega (arith, at_x, at_y, less) in
    subst (λ u. R u y) (get_or_default xs a.0 y x a.1 ∙ a.2)
    (subst (λ v. R (get_or xs a.0 y) v) b.2 (pairs a.0 b.0 y before b.1))

-- ---- a sale of an office stays what it was while the office grows

-- the further steps that have begun on a day stay
abbrev pub BegunStay : ℕ → Office → Office → Type 0
BegunStay day o p = (name : List ℕ) (first : ℕ) (steps : List Step) → first ≤ day
    → o.dated_steps name first ≡ Some steps → p.dated_steps name first ≡ Some steps

module _ (o p : Office) (grown : HasGrown o p) (goes : ShiftsChange o p) where
  own_stays : (s : Sale) → IsInOwnShift o s → IsInOwnShift p s
  own_stays s own =
      let i = own.stands.0 in
      let at : slice_get o.shifts i ≡ Some own.shift =
      slice_get-get_or o.shifts i own.shift own.stands.1 ∙ ap Some own.stands.2 in
      let t = grown.shifts i own.shift at in
      record {
        shift = t.0;
        stands = (
          i,
          slice_get_within p.shifts i t.0 t.1,
          get_or_from_slice_get p.shifts i t.0 t.0 t.1,
        );
        numbered = t.2.number ∙ own.numbered;
        operator = t.2.operator ∙ own.operator;
      }

  open_stays : (earlier : List Sale) (s : Sale) → All (λ (a : Sale). a.shift ≤ length o.shifts) earlier
      → ShiftsChange o p → IsInOpenShift o earlier s → IsInOpenShift p earlier s
  open_stays earlier s within (inl same) was next there operator later =
      was next (subst (λ (shifts : List Shift). Contains shifts next) same there) operator later
  open_stays earlier s within (inr (inl opens)) was next there operator later =
      elim (Contains-push_cases o.shifts opens.shift next
      (subst (λ (shifts : List Shift). Contains shifts next) opens.shifts there)) [
        | inl old ↦ was next old operator later
        | inr new ↦
            All-weaker (λ (a : Sale). a.shift ≤ length o.shifts)
            (λ (a : Sale). a.shift < next.number)
            (λ a below. omega (arith, below, opens.number, ap (λ (t : Shift). t.number) new))
            earlier within
      ]
  open_stays earlier s within (inr (inr closes)) was next there operator later =
      let old = map_source (closing closes.number closes.moment) o.shifts next
      (subst (λ (shifts : List Shift). Contains shifts next) closes.shifts there) in
      let same = same_closing closes.number closes.moment old.0 in
      let number : old.0.number ≡ next.number =
      sym same.number ∙ ap (λ (t : Shift). t.number) old.2 in
      let by : old.0.operator ≡ s.operator =
      sym same.operator ∙ ap (λ (t : Shift). t.operator) old.2 ∙ operator in
      subst (λ n. All (λ (a : Sale). a.shift < n) earlier) number
      (was old.0 old.1 by (omega (arith, number, later)))

  steps_stay : (day : ℕ) (steps : List Step) → BegunStay day o p → AreStepsOfOne o day steps
      → AreStepsOfOne p day steps
  steps_stay day steps stay one = record {
    name = one.name;
    are = elim one.are [
      | inl first ↦ inl (grown.tariffs.first one.name steps first)
      | inr (first, begun, there) ↦ inr (first, begun, stay one.name first steps begun there)
    ];
  }

  -- a sale that the rules grant after those before it is one in the grown office too
  pub granted_stays : (earlier : List Sale) (s : Sale) → All (λ (a : Sale). a.shift ≤ length o.shifts) earlier
      → BegunStay (day_at s.moment) o p → IsGrantedAfter o earlier s → IsGrantedAfter p earlier s
  granted_stays earlier s within steps granted = record {
    operator = own_stays s granted.operator;
    shift = open_stays earlier s within goes granted.shift;
    base = granted.base;
    tid = granted.tid;
    bought = record {
      steps = granted.bought.steps;
      are = steps_stay (day_at s.moment) granted.bought.steps steps granted.bought.are;
      bought = granted.bought.bought;
    };
    digits = granted.digits;
  }

-- ---- a new sale is granted after those that stand
open_of : (b : Bool) (closed : Option ℕ) → (b && is_none closed) ≡ true → is_some closed ≡ true → ⊥
open_of true None e some = cc
open_of true (Some moment) e some = cc
open_of false closed e some = cc

-- a code has sixteen bits
abbrev pub AmountCodes : Type 0
AmountCodes = (t : ℕ) → IsRepresentable t → code_of t < 2 ^ 16

token_of_class_zero : (codes : AmountCodes) (forward : ℕ → ℕ → ℕ) (key : ℕ) (f : TokenFields)
    (text : List ℕ) → KeepsRange forward → key < 2 ^ 64 → AreFields f → IsToken forward key f text
    → IsOfClassZero text
token_of_class_zero codes forward key f text range small fields token =
    let bits = block_of-lt 0 f (omega arith) fields.rnd fields.tid (codes f.tenths fields.tenths) in
    let sent = range key (block_of 0 f) small bits in
    record {
      digits = token.digits;
      within = subst (λ (n : ℕ). n < 2 ^ 66) (sym token.number)
          (number_of-lt (forward key (block_of 0 f)) sent);
      class_zero = ap class_of token.number
          ∙ number_has_class_zero (forward key (block_of 0 f));
    }

same_purchase : (steps : List Step) (b : Buy) (before prior tender given tenths price : ℕ)
    → before ≡ prior → given ≡ tender → tenths ≡ b.tenths → price ≡ b.price
    → IsPurchase steps prior tender b
    → IsPurchase steps before given
    (record { tenths = tenths; price = price; change = given - price })
same_purchase steps b before prior tender given tenths price same paid t c bought =
    let cost : (u : ℕ) → cost_of steps before u ≡ cost_of steps prior u =
    λ u. ap (λ n. cost_of steps n u) same in
    let within = bought.within in
    let some = bought.some in
    record {
      representable = subst IsRepresentable (sym t) bought.representable;
      some = omega (arith, some, t);
      price = c ∙ bought.price ∙ ap (cost_of steps prior) (sym t) ∙ sym (cost tenths);
      within = omega (arith, within, c, paid);
      greatest = λ u representable covered.
          omega (arith, t, bought.greatest u representable (omega (arith, cost u, covered, paid)));
      change = omega (arith, within, c, paid);
    }

module _ (codes : AmountCodes) (forward : ℕ → ℕ → ℕ) (range : KeepsRange forward) (o : Office)
    (office : IsOffice o) (at : Stamped) (order : Order) (s : Sale)
    (new : IsNewSale forward o at order s) where
  in_shift_found : Contains o.shifts new.in_shift
      × ((bytes_eq new.in_shift.operator order.operator && is_none new.in_shift.closed) ≡ true)
  in_shift_found = found _ o.shifts new.in_shift new.shift_is

  its_operator : new.in_shift.operator ≡ s.operator
  its_operator =
      (bytes_eq-Decides new.in_shift.operator order.operator).0
      (parts_true _ _ in_shift_found.1).0 ∙ sym new.operator

  new_own : IsInOwnShift o s
  new_own = record {
    shift = new.in_shift;
    stands = in_shift_found.0;
    numbered = sym new.shift;
    operator = its_operator;
  }

  -- the shift is open, so it is the last of its operator
  new_open : AllPairs IsClosedFirst o.shifts → IsInOpenShift o o.sales s
  new_open pairs next there operator later =
      absurd (open_of (bytes_eq new.in_shift.operator order.operator) new.in_shift.closed
      in_shift_found.1
      (later_pair IsClosedFirst (λ (t : Shift). t.number) o.shifts new.in_shift next pairs
      office.shift_numbers in_shift_found.0 there (omega (arith, later, new.shift))
      (its_operator ∙ sym operator)))

  new_base : IsUnderPresentBase o.sales s
  new_base = all_from_contains (λ (a : Sale). a.meter ≡ s.meter → year_of a.base ≤ year_of s.base)
      o.sales (λ a there same.
      let had = (All-contains (IsSaleRow o) o.sales a office.sales there).base in
      let row = office.bases a.meter a.base had in
      let meter : row.meter ≡ new.to_meter = same_Some row.meter new.to_meter
      (sym row.meter_is ∙ ap o.meters (same ∙ new.meter) ∙ new.meter_is) in
      omega (arith, row.not_after, ap (λ (m : Meter). year_of m.base) meter, ap year_of new.base))

  new_tid : HasFreshTid o.sales s
  new_tid = record {
    minute = new.minute;
    minute_is = ap (λ (b : Base). minute_of b s.moment) new.base
        ∙ ap (λ moment. minute_of new.to_meter.base moment) new.moment ∙ new.minute_is;
    fresh = subst (λ number. FreshOutcome (used (sales_alone o.sales) number s.base) new.minute (Ok s.tid))
        (sym new.meter)
        (subst (λ (b : Base).
        FreshOutcome (used (sales_alone o.sales) order.meter b) new.minute (Ok s.tid))
        (sym new.base) new.tid);
  }

  steps_of_one : (name : List ℕ) (day : ℕ) (steps : List Step) → AreStepsOn o name day steps
      → AreStepsOfOne o day steps
  steps_of_one name day steps (inl last) =
      record { name = name; are = inr (last.first, last.not_after, last.there) }
  steps_of_one name day steps (inr (none, first)) = record { name = name; are = inl first }

  new_bought : IsBoughtByOne o o.sales s
  new_bought =
      let steps = steps_on o new.to_meter.tariff (day_at at.moment) in
      let are = (steps_on_are o new.to_meter.tariff (day_at at.moment) steps
      (office.meters order.meter new.to_meter new.meter_is).tariff).1 refl in
      let before : prior (sales_alone o.sales) s.meter (month_at s.moment)
      ≡ prior o order.meter (month_at at.moment) =
      ap (λ number. prior o number (month_at s.moment)) new.meter
      ∙ ap (λ moment. prior o order.meter (month_at moment)) new.moment in
      record {
        steps = steps;
        are = subst (λ moment. AreStepsOfOne o (day_at moment) steps) (sym new.moment)
            (steps_of_one new.to_meter.tariff (day_at at.moment) steps are);
        bought = same_purchase steps new.bought _ _ _ _ s.tenths s.price before new.tender
            new.tenths new.price new.bought_is;
      }

  new_fields : AreFields (fields_of s)
  new_fields =
      let nibble = at.nibble_in_range in
      record {
        rnd = omega (arith, nibble, new.rnd);
        tid = omega (arith, new.tid.0.may_sell.within);
        tenths = subst IsRepresentable (sym new.tenths) new.bought_is.representable;
      }

  -- a new sale is one that the rules grant after all that stand
  pub new_granted : AllPairs IsClosedFirst o.shifts → IsGrantedAfter o o.sales s
  new_granted pairs = record {
    operator = new_own;
    shift = new_open pairs;
    base = new_base;
    tid = new_tid;
    bought = new_bought;
    digits = token_of_class_zero codes forward new.to_meter.key (fields_of s) s.digits range
        (office.meters order.meter new.to_meter new.meter_is).key new_fields new.digits;
  }
