-- A step of an office leads to an office.
pub mod MapLemmas
pub mod RowLemmas
use Rattle.std.proofs.Common.{◌≡◌, ℕ, ◌^◌, ◌<◌, Bool, true, false, List, length, Option, Some, None, Result, Ok, Err, refl, sym, ◌∙◌, ap, subst, arith}
use Rattle.std.specs.Prelude.{◌&&◌, ◌==◌, ◌≤◌, All, Contains, IsSome, bytes_eq, filter, is_some, nat_lt, not, if◌then◌else◌}
use Rattle.std.proofs.lemmas.Bool.Decides.{nat_tests}
use Rattle.std.proofs.lemmas.Bool.{false≢true}
use Rattle.std.proofs.lemmas.List.Elements.{All-contains, All-nil}
use Rattle.std.proofs.lemmas.Slice.Eq.{bytes_eq-Decides}
use Rattle.sts_fields.specs.Amount.{IsRepresentable}
use Rattle.sts_fields.specs.Day.{IsDay, day_at}
use Rattle.sts_fields.specs.declared.base.Base.{Base}
use Rattle.sts_token.specs.Token.{KeepsRange}
use Rattle.tariff.specs.Steps.{IsSteps}
use Rattle.tariff.specs.Tender.{IsTender}
use Rattle.tariff.specs.declared.step.Step.{Step}
use Rattle.office_rules.specs.Decision.{add_meter, add_steps, add_tariff, changed, close_shift, decision_of, import, is_earlier, account_of, meter_eq, move_base, next_number, open_a_shift, report, reprint, row_decision, sell, sell_again, sell_once, set_key, set_tariff, steps_eq, unchanged, withdraw_steps, moved_unless, keyed_unless, added_if_later, withdrawn_if_free}
use Rattle.office_rules.specs.Decision.Fold.{office_after, step}
use Rattle.sts_fields.specs.Base.{base_date, base_eq, year_of}
use Rattle.office_rules.specs.Office.Lookup.{has_sales, open_shift, sale_numbered, sale_of_ref, sales_of_shift, shift_numbered, sold_since, used}
use Rattle.office_rules.specs.Name.{IsName, IsOperator}
use Rattle.office_rules.specs.Law.NewSale.{IsNewSale}
use Rattle.sts_fields.specs.Moment.{IsMoment}
use Rattle.office_rules.specs.Office.{IsBefore, IsOffice, IsSaleRow, IsShiftRow, Office, Rises, empty_office}
use Rattle.office_rules.specs.Decision.Requests.{IsMeter, IsOrder, IsRequest, IsRow, IsStamped}
use Rattle.office_rules.specs.declared.decision.answer.Answer.{Answer}
use Rattle.office_rules.specs.declared.decision.answer.Answer.TheVariants as answers
use Rattle.office_rules.specs.declared.decision.change.Change.{Change}
use Rattle.office_rules.specs.declared.decision.change.Edit.TheVariants as edits
use Rattle.office_rules.specs.declared.office.meter.Meter.{Meter}
use Rattle.office_rules.specs.declared.decision.refusal.Refusal.{Refusal}
use Rattle.office_rules.specs.declared.decision.refusal.Refusal.TheVariants as refusals
use Rattle.office_rules.specs.declared.decision.request.Order.{Order}
use Rattle.office_rules.specs.declared.decision.request.Request.{Request}
use Rattle.office_rules.specs.declared.decision.request.Request.TheVariants as requests
use Rattle.office_rules.specs.declared.decision.request.Stamped.{Stamped}
use Rattle.office_rules.specs.declared.office.row.Row.{Row}
use Rattle.office_rules.specs.declared.office.row.Row.TheVariants as kinds
use Rattle.office_rules.specs.declared.office.sale.Sale.{Sale}
use Rattle.office_rules.specs.declared.office.shift.Shift.{Shift}
use Rattle.office_rules.proofs.DecisionLemmas.{after_test, next_number_ok}
use Rattle.office_rules.proofs.DecisionLemmas.EditLemmas.{base_eq-refl, keeps_add_meter, keeps_add_sale, keeps_add_steps, keeps_add_tariff, keeps_close_shift, keeps_move_base, keeps_open_shift, keeps_set_key, keeps_set_tariff, keeps_withdraw_steps}
use Rattle.office_rules.proofs.DecisionLemmas.ImportLemmas.{import_keeps}
use Rattle.office_rules.proofs.DecisionLemmas.NewSaleLemmas.{LowerLaws, granted_sale}
use Rattle.office_rules.proofs.OfficeLemmas.RowLemmas.{both_true, contains_map, found, found_none, kept, number_within}

-- where a test decides between no change and a refusal, the office stays
kept_if : (o : Office) (b : Bool) (answer : Answer) (refusal : Refusal) → IsOffice o → IsOffice (office_after o (if b then unchanged answer else Err refusal))
kept_if o true answer refusal office = office
kept_if o false answer refusal office = office

module _ (o : Office) (office : IsOffice o) where
  by_add_tariff : (name : List ℕ) (steps : List Step) (there : Option (List Step)) → IsName name → IsSteps steps
      → IsOffice (office_after o (add_tariff name steps there))
  by_add_tariff name steps None named priced = keeps_add_tariff o name steps office named priced
  by_add_tariff name steps (Some there) named priced = kept_if o (steps_eq there steps) _ _ office

  by_day : (name : List ℕ) (day today : ℕ) (steps : List Step) (b : Bool) → IsDay day → IsSteps steps → IsSome (o.tariffs name)
      → IsOffice (office_after o (added_if_later name day steps b))
  by_day name day today steps true is priced tariff = keeps_add_steps o name day steps office is priced tariff
  by_day name day today steps false is priced tariff = office

  by_add_steps : (name : List ℕ) (day today : ℕ) (steps : List Step) (has : Bool) (there : Option (List Step)) → is_some (o.tariffs name)
      ≡ has → IsDay day → IsSteps steps → IsOffice (office_after o (add_steps name day steps today has there))
  by_add_steps name day today steps false there e is priced = office
  by_add_steps name day today steps true (Some there) e is priced = kept_if o (steps_eq there steps) _ _ office
  by_add_steps name day today steps true None e is priced = by_day name day today steps (nat_lt today day) is priced e

  by_withdrawing : (name : List ℕ) (day : ℕ) (b : Bool)
      → IsOffice (office_after o (withdrawn_if_free name day b))
  by_withdrawing name day true = keeps_withdraw_steps o name day office
  by_withdrawing name day false = office

  by_withdraw_steps : (name : List ℕ) (day today : ℕ) (has : Bool) (there : Option (List Step)) (sold : Bool)
      → IsOffice (office_after o (withdraw_steps name day today has there sold))
  by_withdraw_steps name day today false there sold = office
  by_withdraw_steps name day today true None sold = office
  by_withdraw_steps name day today true (Some there) sold = by_withdrawing name day (nat_lt today day && not sold)

  by_add_meter : (number : List ℕ) (m : Meter) (there : Option Meter) (has : Bool) → o.meters number ≡ there → is_some (o.tariffs m.tariff)
      ≡ has → IsMeter number m → IsOffice (office_after o (add_meter number m there has))
  by_add_meter number m (Some there) has at e is = kept_if o (meter_eq there m) _ _ office
  by_add_meter number m None true at e is = keeps_add_meter o number m office is at e
  by_add_meter number m None false at e is = office

  by_set : (number name : List ℕ) (b : Bool) → IsSome (o.tariffs name)
      → IsOffice (office_after o (if b then unchanged answers.Done else changed (edits.SetTariff number name) answers.Done))
  by_set number name true there = office
  by_set number name false there = keeps_set_tariff o number name office there

  by_set_tariff : (number name : List ℕ) (there : Option Meter) (has : Bool) → is_some (o.tariffs name) ≡ has
      → IsOffice (office_after o (set_tariff number name there has))
  by_set_tariff number name None has e = office
  by_set_tariff number name (Some m) false e = office
  by_set_tariff number name (Some m) true e = by_set number name (bytes_eq m.tariff name) e

  by_moving : (number : List ℕ) (base : Base) (m : Meter) (b : Bool) → o.meters number ≡ Some m → year_of m.base ≤ year_of base
      → IsOffice (office_after o (if b then Err refusals.BeforeBase else changed (edits.MoveBase number base) answers.Done))
  by_moving number base m true there later = office
  by_moving number base m false there later = keeps_move_base o number base m office there later

  not_earlier : (a b : Base) → is_earlier a b ≡ false → year_of b ≤ year_of a
  not_earlier a b e = grind (arith, nat_tests)

  by_later : (number : List ℕ) (base : Base) (moment : ℕ) (m : Meter) (same earlier : Bool) → o.meters number ≡ Some m
      → is_earlier base m.base ≡ earlier → IsOffice (office_after o
      (moved_unless number base same earlier (nat_lt moment (base_date base))))
  by_later number base moment m true earlier there e = office
  by_later number base moment m false true there e = office
  by_later number base moment m false false there e = by_moving number base m (nat_lt moment (base_date base)) there (not_earlier base m.base e)

  by_move_base : (number : List ℕ) (base : Base) (moment : ℕ) (there : Option Meter) → o.meters number ≡ there
      → IsOffice (office_after o (move_base number base moment there))
  by_move_base number base moment None at = office
  by_move_base number base moment (Some m) at = by_later number base moment m (base_eq m.base base) (is_earlier base m.base) at refl

  by_key : (number : List ℕ) (key : ℕ) (same sold : Bool) → key < 2 ^ 64
      → IsOffice (office_after o (keyed_unless number key same sold))
  by_key number key true sold is = office
  by_key number key false true is = office
  by_key number key false false is = keeps_set_key o number key office is

  by_set_key : (number : List ℕ) (key : ℕ) (there : Option Meter) (sold : Bool) → key < 2 ^ 64 → IsOffice (office_after o (set_key number key there sold))
  by_set_key number key None sold is = office
  by_set_key number key (Some m) sold is = by_key number key (m.key == key) sold is

  -- whatever is decided on a row of an import leads to an office
  pub by_row : (today : ℕ) (row : Row) → IsRow row → IsOffice (office_after o (row_decision o today row))
  by_row today (kinds.Tariff name steps) is = by_add_tariff name steps (o.tariffs name) is.0 is.1
  by_row today (kinds.Steps name day steps) is = by_add_steps name day today steps (is_some (o.tariffs name)) (o.dated_steps name day) refl is.1 is.2
  by_row today (kinds.Meter number m) is = by_add_meter number m (o.meters number) (is_some (o.tariffs m.tariff)) refl refl is

-- an import leads to an office
by_import : (o : Office) (today : ℕ) (rows : List Row) → IsOffice o → All IsRow rows → IsOffice (office_after o (import o today rows))
by_import o today rows office are = import_keeps IsOffice IsRow today (λ p row is kept. by_row p kept today row is) o rows are office

module _ (o : Office) (office : IsOffice o) where
  by_open_shift : (moment : ℕ) (operator : List ℕ) (there : Option Shift) → open_shift o operator ≡ there → IsMoment moment
      → IsOperator operator → IsOffice (office_after o (open_a_shift moment operator there (length o.shifts)))
  by_open_shift moment operator (Some there) e is named = office
  by_open_shift moment operator None e is named =
      after_test (λ r. IsOffice (office_after o r)) (next_number (length o.shifts)) _ (λ refusal. office) (λ number next.
      let n = next_number_ok (length o.shifts) number next in
      keeps_open_shift o _ office (record { operator = named; opened = is; closed = λ secs none. cc }) n.1 e n.0)

  by_close_shift : (moment : ℕ) (there : Option Shift) → IsMoment moment → IsOffice (office_after o (close_shift moment there))
  by_close_shift moment None is = office
  by_close_shift moment (Some s) is = keeps_close_shift o s.number moment office is

  by_sell_again : (order : Order) (first : Sale) → IsOffice (office_after o (sell_again order first))
  by_sell_again order first = kept_if o _ _ _ office

  -- the identifier of a sale is among those used of its meter under its base
  pub used_by : (a : Sale) (meter : List ℕ) (base : Base) → Contains o.sales a → a.meter ≡ meter → a.base ≡ base → Contains (used o meter base) a.tid
  used_by a meter base there same_meter same_base =
      let test = λ (s : Sale). bytes_eq s.meter meter && base_eq s.base base in
      let x = (bytes_eq-Decides a.meter meter).1 same_meter in
      let y : base_eq a.base base ≡ true = ap (λ b. base_eq a.base b) (sym same_base) ∙ base_eq-refl a.base in
      contains_map (λ s. s.tid) (filter test o.sales) a (kept test o.sales a there (both_true _ _ x y))

  -- a new sale's identifier is greater than those sold before, and it is after each one that stands
  pub new_rises : (forward : ℕ → ℕ → ℕ) (at : Stamped) (order : Order) (s a : Sale) → IsNewSale forward o at order s → Contains o.sales a → Rises a s
  new_rises forward at order s a new there same_meter same_base =
      let u = used_by a order.meter new.to_meter.base there (same_meter ∙ new.meter) (same_base ∙ new.base) in
      All-contains (λ u. u < s.tid) (used o order.meter new.to_meter.base) a.tid new.tid.0.may_sell.above_used u

  -- a new sale under a ref not used before comes after each sale that stands
  pub after_sales : (forward : ℕ → ℕ → ℕ) (at : Stamped) (order : Order) (s a : Sale) → sale_of_ref o order.operator order.order_ref ≡ None
      → IsNewSale forward o at order s → Contains o.sales a → IsBefore a s
  after_sales forward at order s a alone new there = record {
    number = omega (arith, number_within (λ s. s.number) o.sales a office.sale_numbers there, new.number);
    tid = λ same_meter same_base same. omega (arith, new_rises forward at order s a new there same_meter same_base, same);
    order_ref = λ same_operator same_ref.
        let fails = All-contains (λ (b : Sale). (bytes_eq b.operator order.operator && bytes_eq b.order_ref order.order_ref) ≡ false)
        o.sales a (found_none _ o.sales alone) there in
        let x = (bytes_eq-Decides a.operator order.operator).1 (same_operator ∙ new.operator) in
        let y = (bytes_eq-Decides a.order_ref order.order_ref).1 (same_ref ∙ new.order_ref) in
        false≢true (sym fails ∙ both_true _ _ x y);
  }

  -- a new sale's row
  pub new_row : (forward : ℕ → ℕ → ℕ) (at : Stamped) (order : Order) (s : Sale) → IsMoment at.moment → IsOrder order
      → IsNewSale forward o at order s → IsSaleRow o s
  new_row forward at order s is ordered new =
      let opened = found _ o.shifts new.in_shift new.shift_is in
      let number = number_within (λ s. s.number) o.shifts new.in_shift office.shift_numbers opened.0 in
      let some : IsSome (o.meters order.meter) = ap is_some new.meter_is in
      let had = (office.meters order.meter new.to_meter new.meter_is).base in
      let nibble = at.nibble_in_range in
      let tid = new.tid.0.may_sell.within in
      let bought = new.bought_is in
      record {
        moment = subst IsMoment (sym new.moment) is;
        shift = (omega (arith, number, new.shift), omega (arith, number, new.shift));
        operator = subst IsOperator (sym new.operator) ordered.operator;
        order_ref = subst IsName (sym new.order_ref) ordered.order_ref;
        meter = subst (λ n. IsSome (o.meters n)) (sym new.meter) some;
        base = subst (λ n. o.bases n s.base ≡ true) (sym new.meter) (subst (λ b. o.bases order.meter b ≡ true) (sym new.base) had);
        tid = tid;
        rnd = omega (arith, nibble, new.rnd);
        tenths = subst IsRepresentable (sym new.tenths) bought.representable;
        tender = subst IsTender (sym new.tender) ordered.tender;
        price = omega (arith, bought.within, new.price, new.tender);
        digits = new.digits.digits;
      }

  module _ (laws : LowerLaws) (forward : ℕ → ℕ → ℕ) (range : KeepsRange forward) (at : Stamped) (moment : IsMoment at.moment) where
    after_sell : (order : Order) → sale_of_ref o order.operator order.order_ref ≡ None → IsOrder order → (r : Result Change Refusal)
        → sell forward at.moment at.nibble order (open_shift o order.operator) (account_of o order.meter at.moment) (length o.sales) ≡ r
        → IsOffice (office_after o r)
    after_sell order alone ordered (Err refusal) e = office
    after_sell order alone ordered (Ok change) e =
        let granted = granted_sale laws forward o at order change range office e in
        subst (λ (c : Change). IsOffice (office_after o (Ok c))) (sym granted.change_is)
        (keeps_add_sale o granted.sale office (new_row forward at order granted.sale moment ordered granted.new) granted.new.number
        (λ a there. after_sales forward at order granted.sale a alone granted.new there) granted.room)

    by_sell : (order : Order) (first : Option Sale) → sale_of_ref o order.operator order.order_ref ≡ first → IsOrder order
        → IsOffice (office_after o (sell_once forward at.moment at.nibble order first (open_shift o order.operator)
        (account_of o order.meter at.moment) (length o.sales)))
    by_sell order (Some first) e ordered = by_sell_again order first
    by_sell order None e ordered =
        after_sell order e ordered (sell forward at.moment at.nibble order (open_shift o order.operator)
        (account_of o order.meter at.moment) (length o.sales)) refl

    by_reprint : (sale : Option Sale) → IsOffice (office_after o (reprint sale))
    by_reprint None = office
    by_reprint (Some s) = office

    by_report : (shift : Option Shift) (sales : List Sale) → IsOffice (office_after o (report shift sales))
    by_report None sales = office
    by_report (Some s) sales = office

    by_request : (request : Request) → IsRequest request → IsOffice (office_after o (decision_of forward o at.moment at.nibble request))
    by_request (requests.AddTariff name steps) is = by_add_tariff o office name steps (o.tariffs name) is.0 is.1
    by_request (requests.AddSteps name day steps) is =
        by_add_steps o office name day (day_at at.moment) steps (is_some (o.tariffs name)) (o.dated_steps name day) refl is.1 is.2
    by_request (requests.WithdrawSteps name day) is =
        by_withdraw_steps o office name day (day_at at.moment) (is_some (o.tariffs name)) (o.dated_steps name day) (sold_since o day)
    by_request (requests.AddMeter number m) is = by_add_meter o office number m (o.meters number) (is_some (o.tariffs m.tariff)) refl refl is
    by_request (requests.Import rows) is = by_import o (day_at at.moment) rows office is
    by_request (requests.SetTariff number name) is = by_set_tariff o office number name (o.meters number) (is_some (o.tariffs name)) refl
    by_request (requests.MoveBase number base) is = by_move_base o office number base at.moment (o.meters number) refl
    by_request (requests.SetKey number key) is = by_set_key o office number key (o.meters number) (has_sales o number) is.1
    by_request (requests.OpenShift operator) is = by_open_shift at.moment operator (open_shift o operator) refl moment is
    by_request (requests.CloseShift operator) is = by_close_shift at.moment (open_shift o operator) moment
    by_request (requests.Sell order) is = by_sell order (sale_of_ref o order.operator order.order_ref) refl is
    by_request (requests.Reprint number) is = by_reprint (sale_numbered o number)
    by_request (requests.ShiftReport number) is = by_report (shift_numbered o number) (sales_of_shift o number)

-- a step of an office leads to an office
pub step_keeps_office : LowerLaws → (forward : ℕ → ℕ → ℕ) (o : Office) (at : Stamped) → IsOffice o → IsStamped at → KeepsRange forward
    → IsOffice (step forward o at)
step_keeps_office laws forward o at office is range = by_request o office laws forward range at is.moment at.request is.request

-- the empty office is one
pub empty_is_office : IsOffice empty_office
empty_is_office = record {
  tariffs = λ name steps e. cc;
  meters = λ number m e. cc;
  bases = λ number base e. cc;
  dated_steps = λ name day steps e. cc;
  shifts = All-nil IsShiftRow;
  shift_numbers = λ i row e. cc;
  one_open = λ i j d before within. absurd (omega arith);
  shift_count = omega arith;
  sales = All-nil (IsSaleRow empty_office);
  sale_numbers = λ i row e. cc;
  before = λ i j d before within. absurd (omega arith);
  sale_count = omega arith;
}
