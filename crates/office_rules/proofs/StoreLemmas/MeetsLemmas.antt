-- The edit of a granted request meets what it needs in the office: a free name, the tariff, the
-- open shift, the next number.
use Rattle.std.proofs.Common.{◌≡◌, ℕ, ◌^◌, ◌<◌, Bool, true, false, List, Option, Some, None, Result, Ok, Err, is_some, length, refl, sym, ◌∙◌, ap, subst, if◌then◌else◌, arith}
use Rattle.std.specs.Prelude.{◌&&◌, ◌==◌, All, IsSome, bytes_eq, nat_lt, not}
use Rattle.std.proofs.lemmas.Bool.{false≢true}
use Rattle.std.proofs.lemmas.Bool.Decides.{Decides-eqb, nat_tests}
use Rattle.std.proofs.lemmas.Slice.Eq.{bytes_eq-Decides}
use Rattle.sts_token.specs.Token.{KeepsRange}
use Rattle.tariff.specs.declared.step.Step.{Step}
use Rattle.sts_fields.specs.Base.{base_date, base_eq, year_of}
use Rattle.sts_fields.specs.Day.{day_at}
use Rattle.sts_fields.specs.declared.base.Base.{Base}
use Rattle.office_rules.specs.Decision.{changed, close_shift, decision, decision_of, is_earlier, move_base, account_of, next_number, open_a_shift, report, reprint, sell, sell_once, set_key, set_tariff, unchanged, withdraw_steps, moved_unless, keyed_unless, withdrawn_if_free}
use Rattle.office_rules.specs.Office.Lookup.{has_sales, open_shift, sale_numbered, sale_of_ref, sales_of_shift, shift_numbered, sold_since, used}
use Rattle.office_rules.specs.Name.{IsOperator}
use Rattle.office_rules.specs.Law.NewSale.{IsNewSale}
use Rattle.sts_fields.specs.Moment.{IsMoment}
use Rattle.office_rules.specs.Office.{IsOffice, Office, greatest_count}
use Rattle.office_rules.specs.Decision.Requests.{IsOrder, IsRequest, IsStamped}
use Rattle.office_rules.specs.Law.Store.{Meets, MeetsNewSale}
use Rattle.office_rules.specs.declared.decision.answer.Answer.TheVariants as answers
use Rattle.office_rules.specs.declared.decision.change.Change.{Change}
use Rattle.office_rules.specs.declared.decision.change.Edit.{Edit}
use Rattle.office_rules.specs.declared.decision.change.Edit.TheVariants as edits
use Rattle.office_rules.specs.declared.office.meter.Meter.{Meter}
use Rattle.office_rules.specs.declared.decision.refusal.Refusal.{Refusal}
use Rattle.office_rules.specs.declared.decision.request.Order.{Order}
use Rattle.office_rules.specs.declared.decision.request.Request.{Request}
use Rattle.office_rules.specs.declared.decision.request.Request.TheVariants as requests
use Rattle.office_rules.specs.declared.decision.request.Stamped.{Stamped}
use Rattle.office_rules.specs.declared.office.row.Row.TheVariants as kinds
use Rattle.office_rules.specs.declared.office.sale.Sale.{Sale}
use Rattle.office_rules.specs.declared.office.shift.Shift.{Shift}
use Rattle.office_rules.proofs.DecisionLemmas.{after_test, next_number_ok, same_Ok}
use Rattle.office_rules.proofs.DecisionLemmas.NewSaleLemmas.{LowerLaws, granted_sale}
use Rattle.office_rules.proofs.OfficeLemmas.{after_sales, new_row}
use Rattle.office_rules.proofs.OfficeLemmas.RowLemmas.{same_number}
use Rattle.office_rules.proofs.StoreLemmas.{open_shift_is}
use Rattle.office_rules.proofs.StoreLemmas.SoldLemmas.{not_sold_since_is, not_sold_to_is, passed_both}
use Rattle.office_rules.proofs.StoreLemmas.RowMeetsLemmas.{EditMeets, if_changed, if_import, if_tested, if_unchanged, not_moved_yet, row_meets}

if_set : (o : Office) (number name : List ℕ) (m : Meter) (b : Bool) → bytes_eq m.tariff name ≡ b
    → o.meters number ≡ Some m → IsSome (o.tariffs name)
    → EditMeets o (if b then unchanged answers.Done else changed
    (edits.SetTariff number name) answers.Done)
if_set o number name m true is meter_is there = if_unchanged o
if_set o number name m false is meter_is there =
    if_changed o _ (record {
      meter = m;
      meter_is = meter_is;
      other =
          λ same. false≢true (sym is ∙ (bytes_eq-Decides m.tariff name).1 same);
      tariff = there;
    })

if_withdrawing : (o : Office) (name : List ℕ) (day : ℕ) (steps : List Step) (b : Bool)
    → o.dated_steps name day ≡ Some steps → (b ≡ true → sold_since o day ≡ false)
    → EditMeets o (withdrawn_if_free name day b)
if_withdrawing o name day steps true there none =
    if_changed o _ (record {
      steps = steps;
      steps_are = there;
      sold_before = (not_sold_since_is o day).0 (none refl);
    })
if_withdrawing o name day steps false there none = tt

if_withdraw_steps : (o : Office) (name : List ℕ) (day today : ℕ) (has : Bool)
    (there : Option (List Step)) → o.dated_steps name day ≡ there
    → EditMeets o (withdraw_steps name day today has there (sold_since o day))
if_withdraw_steps o name day today false there e = tt
if_withdraw_steps o name day today true None e = if_unchanged o
if_withdraw_steps o name day today true (Some steps) e =
    if_withdrawing o name day steps (nat_lt today day && not (sold_since o day)) e
    (passed_both (nat_lt today day) (sold_since o day))

if_key : (o : Office) (number : List ℕ) (key : ℕ) (m : Meter) (same sold : Bool) → key < 2 ^ 64
    → o.meters number ≡ Some m → (m.key == key) ≡ same → has_sales o number ≡ sold
    → EditMeets o (keyed_unless number key same sold)
if_key o number key m true sold is there same_is sold_is = if_unchanged o
if_key o number key m false true is there same_is sold_is = tt
if_key o number key m false false is there same_is sold_is =
    if_changed o _ (record {
      in_range = is;
      meter = m;
      meter_is = there;
      other = λ same. false≢true (sym same_is ∙ (Decides-eqb m.key key).1 same);
      no_sale = (not_sold_to_is o number).0 sold_is;
    })

if_set_key : (o : Office) (number : List ℕ) (key : ℕ) (there : Option Meter) → key < 2 ^ 64
    → o.meters number ≡ there → EditMeets o (set_key number key there (has_sales o number))
if_set_key o number key None is e = tt
if_set_key o number key (Some m) is e =
    if_key o number key m (m.key == key) (has_sales o number) is e refl refl

module _ (o : Office) (office : IsOffice o) where
  if_set_tariff : (number name : List ℕ) (meter : Option Meter) (has : Bool)
      → o.meters number ≡ meter → is_some (o.tariffs name) ≡ has
      → EditMeets o (set_tariff number name meter has)
  if_set_tariff number name None has meter_is has_is = tt
  if_set_tariff number name (Some m) false meter_is has_is = tt
  if_set_tariff number name (Some m) true meter_is has_is =
      if_set o number name m (bytes_eq m.tariff name) refl meter_is has_is

  if_later : (number : List ℕ) (base : Base) (m : Meter) (same earlier before : Bool)
      → o.meters number ≡ Some m → base_eq m.base base ≡ same → is_earlier base m.base ≡ earlier
      → EditMeets o (moved_unless number base same earlier before)
  if_later number base m true earlier before there same_is earlier_is = if_unchanged o
  if_later number base m false true before there same_is earlier_is = tt
  if_later number base m false false true there same_is earlier_is = tt
  if_later number base m false false false there same_is earlier_is =
      let later : year_of m.base < year_of base = grind (arith, nat_tests) in
      if_changed o _ (record {
        meter = m;
        meter_is = there;
        later = later;
        no_base = not_moved_yet o number base m office there later;
      })

  if_move_base : (number : List ℕ) (base : Base) (moment : ℕ) (meter : Option Meter)
      → o.meters number ≡ meter → EditMeets o (move_base number base moment meter)
  if_move_base number base moment None meter_is = tt
  if_move_base number base moment (Some m) meter_is =
      if_later number base m (base_eq m.base base) (is_earlier base m.base)
      (nat_lt moment (base_date base)) meter_is refl refl

  if_open_shift : (moment : ℕ) (operator : List ℕ) (there : Option Shift) → IsMoment moment
      → IsOperator operator → open_shift o operator ≡ there
      → EditMeets o (open_a_shift moment operator there (length o.shifts))
  if_open_shift moment operator (Some there) at named e = tt
  if_open_shift moment operator None at named e =
      after_test (EditMeets o) (next_number (length o.shifts)) _ (λ refusal. tt) (λ number next.
      let n = next_number_ok (length o.shifts) number next in
      if_changed o _ (record {
        values =
            record { operator = named; opened = at; closed = λ secs none. cc };
        starts_open =
            refl;
        number = n.1;
        room = n.0;
        none_open = e;
      }))

  if_close_shift : (moment : ℕ) (operator : List ℕ) (shift : Option Shift) → IsMoment moment
      → open_shift o operator ≡ shift → EditMeets o (close_shift moment shift)
  if_close_shift moment operator None at e = tt
  if_close_shift moment operator (Some s) at e =
      let is = (open_shift_is o operator s office).0 e in
      if_changed o _ (record {
        moment = at;
        shift = s;
        stands = is.stands;
        numbered = refl;
        only = λ t there same. same_number
            (λ (u : Shift). u.number) o.shifts t s office.shift_numbers there is.stands same;
        still_open = is.still_open;
        is_open = ap (λ name. open_shift o name) is.operator ∙ e;
      })

  if_reprint : (sale : Option Sale) → EditMeets o (reprint sale)
  if_reprint None = tt
  if_reprint (Some s) = if_unchanged o

  if_report : (shift : Option Shift) (sales : List Sale) → EditMeets o (report shift sales)
  if_report None sales = tt
  if_report (Some s) sales = if_unchanged o

  -- a new sale
  new_sale_meets : (forward : ℕ → ℕ → ℕ) (at : Stamped) (order : Order) (s : Sale)
      → IsMoment at.moment → IsOrder order → sale_of_ref o order.operator order.order_ref ≡ None
      → length o.sales < greatest_count → IsNewSale forward o at order s → MeetsNewSale o s
  new_sale_meets forward at order s moment ordered alone room new = record {
    values = new_row o office forward at order s moment ordered new;
    some = let some = new.bought_is.some in omega (arith, some, new.tenths);
    number = new.number;
    room = room;
    shift = new.in_shift;
    shift_is = ap (λ name. open_shift o name) new.operator ∙ new.shift_is;
    in_shift = new.shift;
    meter = new.to_meter;
    meter_is = ap (λ number. o.meters number) new.meter ∙ new.meter_is;
    under = new.base;
    new_ref = ap (λ name. sale_of_ref o name s.order_ref) new.operator
        ∙ ap (λ order_ref. sale_of_ref o order.operator order_ref) new.order_ref ∙ alone;
    above_used = subst (λ number. All (λ tid. tid < s.tid) (used o number s.base)) (sym new.meter)
        (subst (λ base. All (λ tid. tid < s.tid) (used o order.meter base))
        (sym new.base) new.tid.0.may_sell.above_used);
    after = λ a there. after_sales o office forward at order s a alone new there;
  }

  module _ (laws : LowerLaws) (forward : ℕ → ℕ → ℕ) (range : KeepsRange forward) (at : Stamped)
      (moment : IsMoment at.moment) where
    if_sold : (order : Order) (r : Result Change Refusal) → IsOrder order
        → sale_of_ref o order.operator order.order_ref ≡ None
        → sell forward at.moment at.nibble order (open_shift o order.operator)
        (account_of o order.meter at.moment) (length o.sales) ≡ r → EditMeets o r
    if_sold order (Err refusal) ordered alone e = tt
    if_sold order (Ok change) ordered alone e =
        let granted = granted_sale laws forward o at order change range office e in
        subst (λ (c : Change). EditMeets o (Ok c)) (sym granted.change_is)
        (if_changed o _ (new_sale_meets forward at order granted.sale moment ordered alone
        granted.room granted.new))

    if_sell : (order : Order) (first : Option Sale) → IsOrder order
        → sale_of_ref o order.operator order.order_ref ≡ first
        → EditMeets o (sell_once forward at.moment at.nibble order first
        (open_shift o order.operator) (account_of o order.meter at.moment) (length o.sales))
    if_sell order (Some first) ordered e = if_tested o _ _ _
    if_sell order None ordered e = if_sold order _ ordered e refl

    if_decided : (request : Request) → IsRequest request
        → EditMeets o (decision_of forward o at.moment at.nibble request)
    if_decided (requests.AddTariff name steps) is =
        row_meets o (day_at at.moment) (kinds.Tariff name steps) office is
    if_decided (requests.AddSteps name day steps) is =
        row_meets o (day_at at.moment) (kinds.Steps name day steps) office is
    if_decided (requests.WithdrawSteps name day) is =
        if_withdraw_steps o name day (day_at at.moment) (is_some (o.tariffs name))
        (o.dated_steps name day) refl
    if_decided (requests.AddMeter number m) is =
        row_meets o (day_at at.moment) (kinds.Meter number m) office is
    if_decided (requests.Import rows) is = if_import o (day_at at.moment) rows office is
    if_decided (requests.SetTariff number name) is =
        if_set_tariff number name (o.meters number) (is_some (o.tariffs name)) refl refl
    if_decided (requests.MoveBase number base) is =
        if_move_base number base at.moment (o.meters number) refl
    if_decided (requests.SetKey number key) is =
        if_set_key o number key (o.meters number) is.1 refl
    if_decided (requests.OpenShift operator) is =
        if_open_shift at.moment operator (open_shift o operator) moment is refl
    if_decided (requests.CloseShift operator) is =
        if_close_shift at.moment operator (open_shift o operator) moment refl
    if_decided (requests.Sell order) is =
        if_sell order (sale_of_ref o order.operator order.order_ref) is refl
    if_decided (requests.Reprint number) is = if_reprint (sale_numbered o number)
    if_decided (requests.ShiftReport number) is =
        if_report (shift_numbered o number) (sales_of_shift o number)

-- the edit of any granted request meets what it needs in the office
pub decided_meets : LowerLaws
    → (forward : ℕ → ℕ → ℕ) (o : Office) (at : Stamped) (change : Change) (edit : Edit) → IsOffice o
    → IsStamped at → KeepsRange forward → decision forward o at ≡ Ok change
    → change.edit ≡ Some edit → Meets edit o
decided_meets laws forward o at change edit office is range e edits =
    subst (EditMeets o) e
    (if_decided o office laws forward range at is.moment at.request is.request) edit edits

-- a closing is of the operator's open shift
closes_at : (o : Office) (moment : ℕ) (name : List ℕ) (shift : Option Shift) (change : Change)
    → open_shift o name ≡ shift → close_shift moment shift ≡ Ok change
    → (s : Shift) × (open_shift o name ≡ Some s)
    × (change.edit ≡ Some (edits.CloseShift s.number moment))
closes_at o moment name None change is e = cc
closes_at o moment name (Some s) change is e =
    (s, is, ap (λ (c : Change). c.edit) (sym (same_Ok _ change e)))

-- a granted closing closes the operator's open shift, at the request's moment
pub closes_the_open : (forward : ℕ → ℕ → ℕ) (o : Office) (at : Stamped) (name : List ℕ)
    (change : Change) → at.request ≡ requests.CloseShift name → decision forward o at ≡ Ok change
    → (s : Shift) × (open_shift o name ≡ Some s)
    × (change.edit ≡ Some (edits.CloseShift s.number at.moment))
closes_the_open forward o at name change asks e =
    closes_at o at.moment name (open_shift o name) change refl
    (ap (λ request. decision_of forward o at.moment at.nibble request) (sym asks) ∙ e)
