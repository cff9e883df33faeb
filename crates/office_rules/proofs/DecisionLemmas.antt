-- Decisions taken apart: what a granted sale found at each of its tests, and which sales each other
-- request answers.
pub mod EditLemmas
pub mod ImportLemmas
pub mod NewSaleLemmas
pub mod StayLemmas
use Rattle.std.proofs.Common.{◌≡◌, ℕ, ◌+◌, ◌<◌, Bool, true, false, Option, Some, None, Result, Ok, Err, refl, sym, ◌∙◌, ap, arith}
use Rattle.std.specs.Prelude.{if◌then◌else◌, nat_lt}
use Rattle.std.specs.Option.{ok_or}
use Rattle.std.proofs.lemmas.Bool.Decides.{nat_tests}
use Rattle.sts_fields.specs.Tid.{fresh_after, minute_of}
use Rattle.sts_fields.specs.declared.fault.TidFault.{TidFault}
use Rattle.sts_token.specs.Token.{token_of}
use Rattle.tariff.specs.Purchase.{purchase_of}
use Rattle.tariff.specs.declared.bought.Buy.{Buy}
use Rattle.office_rules.specs.Decision.{◌>>=◌, MeterAccount, next_number, or_refusal, sell}
use Rattle.office_rules.specs.Office.{greatest_count}
use Rattle.office_rules.specs.declared.decision.answer.Answer.TheVariants as answers
use Rattle.office_rules.specs.declared.decision.change.Change.{Change}
use Rattle.office_rules.specs.declared.decision.change.Edit.TheVariants as edits
use Rattle.office_rules.specs.declared.decision.refusal.Refusal.{Refusal}
use Rattle.office_rules.specs.declared.decision.refusal.Refusal.TheVariants as refusals
use Rattle.office_rules.specs.declared.decision.request.Order.{Order}
use Rattle.office_rules.specs.declared.office.sale.Sale.{Sale}
use Rattle.office_rules.specs.declared.office.shift.Shift.{Shift}

-- what holds where a chain of tests is passed
pub bind_ok : {A B : Type 0} (r : Result A Refusal) (f : A → Result B Refusal) (y : B) → (r >>= f) ≡ Ok y → (x : A) × (r ≡ Ok x) × (f x ≡ Ok y)
bind_ok (Ok x) f y e = (x, refl, e)
bind_ok (Err refusal) f y e = cc

-- what holds of each refusal, and after each `Ok`, holds after a test
pub after_test : {A B : Type 0} (P : Result B Refusal → Type 0) (r : Result A Refusal) (f : A → Result B Refusal)
    → ((refusal : Refusal) → P (Err refusal)) → ((x : A) → r ≡ Ok x → P (f x)) → P (r >>= f)
after_test P (Ok x) f refused granted = granted x refl
after_test P (Err refusal) f refused granted = refused refusal

-- a value that passed the test for being there was there
pub ok_or_ok : {A : Type 0} (o : Option A) (refusal : Refusal) (x : A) → ok_or o refusal ≡ Ok x → o ≡ Some x
ok_or_ok None refusal x e = cc
ok_or_ok (Some y) refusal x e = cc

-- a value that was not refused for a fault of identifiers was had without a fault
pub or_refusal_ok : {A : Type 0} (r : Result A TidFault) (x : A) → or_refusal r ≡ Ok x → r ≡ Ok x
or_refusal_ok (Ok y) x e = cc
or_refusal_ok (Err fault) x e = cc

room_at : (count number : ℕ) (b : Bool) → b ≡ nat_lt count greatest_count → (if b then Ok (count + 1) else Err refusals.OfficeFull)
    ≡ Ok number → (count < greatest_count) × (number ≡ count + 1)
room_at count number true is e = (grind (arith, nat_tests), cc)
room_at count number false is e = cc

-- a next number is given only below the greatest count, and is one more
pub next_number_ok : (count number : ℕ) → next_number count ≡ Ok number → (count < greatest_count) × (number ≡ count + 1)
next_number_ok count number e = room_at count number (nat_lt count greatest_count) refl e

-- the sale that an order makes
abbrev pub sale_made : (ℕ → ℕ → ℕ) → ℕ → ℕ → Order → Shift → MeterAccount → ℕ → Buy → ℕ → Sale
sale_made forward moment nibble order opened facts tid buy number = record {
  number = number;
  moment = moment;
  shift = opened.number;
  operator = order.operator;
  order_ref = order.order_ref;
  meter = order.meter;
  base = facts.meter.base;
  tid = tid;
  rnd = nibble;
  tenths = buy.tenths;
  price = buy.price;
  tender = order.tender;
  digits = token_of forward facts.meter.key (record { rnd = nibble; tid = tid; tenths = buy.tenths });
}

-- the change that adds a sale and answers with it
abbrev pub sale_change : Sale → Change
sale_change s = record { edit = Some (edits.AddSale s); answer = answers.Sold s }

-- two granted results that are the same grant the same
pub same_Ok : {A : Type 0} (x y : A) → ◌≡◌ {A = Result A Refusal} (Ok x) (Ok y) → x ≡ y
same_Ok x y e = cc

-- what a granted sale found at each test
pub record Selling (forward : ℕ → ℕ → ℕ) (moment nibble : ℕ) (order : Order) (shift : Option Shift) (meter : Option MeterAccount)
    (count : ℕ) (change : Change) : Type 0 where
  pub opened : Shift
  pub facts : MeterAccount
  pub now : ℕ
  pub tid : ℕ
  pub buy : Buy
  pub shift_is : shift ≡ Some opened
  pub meter_is : meter ≡ Some facts
  pub minute_is : minute_of facts.meter.base moment ≡ Ok now
  pub fresh_is : fresh_after now facts.last ≡ Ok tid
  pub buy_is : purchase_of facts.steps facts.prior order.tender ≡ Some buy
  pub room : count < greatest_count
  pub change_is : change ≡ sale_change (sale_made forward moment nibble order opened facts tid buy (count + 1))

made_is : (forward : ℕ → ℕ → ℕ) (moment nibble : ℕ) (order : Order) (opened : Shift) (facts : MeterAccount) (tid : ℕ) (buy : Buy)
    (number next : ℕ) (change : Change) → ◌≡◌ {A = Result Change Refusal}
    (Ok (sale_change (sale_made forward moment nibble order opened facts tid buy number))) (Ok change) → number ≡ next → change
    ≡ sale_change (sale_made forward moment nibble order opened facts tid buy next)
made_is forward moment nibble order opened facts tid buy number next change e is =
    sym (same_Ok _ _ e) ∙ ap (λ n. sale_change (sale_made forward moment nibble order opened facts tid buy n)) is

-- a sale that is granted passed each test, and is made of what it found there
pub sell_ok : (forward : ℕ → ℕ → ℕ) (moment nibble : ℕ) (order : Order) (shift : Option Shift) (meter : Option MeterAccount) (count : ℕ)
    (change : Change) → sell forward moment nibble order shift meter count ≡ Ok change → Selling forward moment nibble order shift meter count change
sell_ok forward moment nibble order shift meter count change e =
    let a = bind_ok (ok_or shift refusals.NoShift) _ change e in
    let b = bind_ok (ok_or meter refusals.NoMeter) _ change a.2 in
    let c = bind_ok (or_refusal (minute_of b.0.meter.base moment)) _ change b.2 in
    let d = bind_ok (or_refusal (fresh_after c.0 b.0.last)) _ change c.2 in
    let f = bind_ok (ok_or (purchase_of b.0.steps b.0.prior order.tender) refusals.TooLittle) _ change d.2 in
    let g = bind_ok (next_number count) _ change f.2 in
    let n = next_number_ok count g.0 g.1 in
    record {
      opened = a.0;
      facts = b.0;
      now = c.0;
      tid = d.0;
      buy = f.0;
      shift_is = ok_or_ok shift _ a.0 a.1;
      meter_is = ok_or_ok meter _ b.0 b.1;
      minute_is = or_refusal_ok _ c.0 c.1;
      fresh_is = or_refusal_ok _ d.0 d.1;
      buy_is = ok_or_ok _ _ f.0 f.1;
      room = n.0;
      change_is = made_is forward moment nibble order a.0 b.0 d.0 f.0 g.0 (count + 1) change g.2 n.1;
    }
