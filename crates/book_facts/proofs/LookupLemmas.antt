-- What is found where something is looked up, and why nothing is.
use Rattle.std.proofs.Common.{◌≡◌, ℕ, ◌+◌, ◌&&◌, ◌==◌, Bool, true, false, Option, None, Some, Result, Ok, Err, IsSome, List, ap, is_none, option_map, refl, sym, ◌∙◌}
use Rattle.std.specs.Prelude.{IfErr, bytes_eq, nat_lt, if◌then◌else◌}
use Rattle.std.specs.Option.{ok_or}
use Rattle.std.proofs.lemmas.Bool.{false≢true}
use Rattle.std.proofs.lemmas.List.Elements.{All-contains}
use Rattle.std.proofs.lemmas.Bool.Decides.{Decides-eqb}
use Rattle.std.proofs.lemmas.Slice.Eq.{bytes_eq-Decides}
use Rattle.sts_fields.specs.Base.{base_eq}
use Rattle.sts_fields.specs.Tid.{fresh_after, minute_of}
use Rattle.sts_fields.specs.declared.base.Base.{Base}
use Rattle.sts_fields.specs.declared.fault.TidFault.{TidFault}
use Rattle.sts_fields.specs.declared.fault.TidFault.TheVariants.{BeforeBase, PastEnd, IdentifiersSpent, IdentifierAhead}
use Rattle.sts_token.specs.Token.{BlockFunction}
use Rattle.tariff.specs.Purchase.{purchase_of}
use Rattle.office_rules.proofs.DecisionLemmas.EditLemmas.{base_eq-refl}
use Rattle.office_rules.proofs.OfficeLemmas.RowLemmas.{both_true, found_none}
use Rattle.office_rules.specs.Decision.{◌>>=◌, MeterAccount, next_number, or_refusal, sell}
use Rattle.office_rules.specs.Law.Store.{IsLastSale}
use Rattle.office_rules.specs.Office.{Office, greatest_count}
use Rattle.office_rules.specs.declared.decision.change.Change.{Change}
use Rattle.office_rules.specs.declared.decision.refusal.Refusal.{Refusal}
use Rattle.office_rules.specs.declared.decision.refusal.Refusal.TheVariants as refusals
use Rattle.office_rules.specs.declared.decision.request.Order.{Order}
use Rattle.office_rules.specs.declared.office.meter.Meter.{Meter}
use Rattle.office_rules.specs.declared.office.sale.Sale.{Sale}
use Rattle.office_rules.specs.declared.office.shift.Shift.{Shift}
use Rattle.book_facts.specs.Lookups.{IsOfRules, IsQuoted, last_found, meter_found, quote_for, sale_found, sale_of_tid}
use Rattle.book_states.specs.declared.lookup.Found.{Found}
use Rattle.book_states.specs.declared.lookup.Found.TheVariants as found

-- what a lookup tells of a meter with its sales
abbrev pub told_of : List ℕ → Meter → ℕ → Option ℕ → Result Found Refusal
told_of number m tenths last =
    Ok (found.Meter (record { number = number; base = m.base; tariff = m.tariff; tenths = tenths; last_sale = last }))

-- the greatest identifier of an office is that of a sale
pub sale_there : (o : Office) (number : List ℕ) (base : Base) (tid : ℕ) (s : Sale) → IsLastSale o number base s → s.tid ≡ tid
    → sale_of_tid o number base tid ≡ None → ⊥
sale_there o number base tid s last is none =
    let test = λ (t : Sale). bytes_eq t.meter number && (base_eq t.base base && (t.tid == tid)) in
    let fails : test s ≡ false = All-contains (λ (t : Sale). test t ≡ false) o.sales s (found_none test o.sales none) last.stands in
    let under : base_eq s.base base ≡ true = rw last.under (base_eq-refl base) in
    let passes : test s ≡ true = both_true _ _ ((bytes_eq-Decides s.meter number).1 last.meter) (both_true _ _ under ((Decides-eqb s.tid tid).1 is)) in
    false≢true (sym fails ∙ passes)

-- where there is the meter, what is found is its last sale
pub last_there : (there : Option Meter) (last : Option Sale) → is_none there ≡ false → sale_found last ≡ last_found there last
last_there None last some = absurd (false≢true (sym some))
last_there (Some m) last some = refl

-- what is told of a meter, of what was read
pub meter_is_told : (number : List ℕ) (m : Meter) (there : Option Meter) (tenths sold : ℕ) (last is_last : Option Sale)
    (last_number : Option ℕ) → last_number ≡ option_map (λ s. s.number) last → tenths ≡ sold → last ≡ is_last → Some m ≡ there
    → told_of number m tenths last_number ≡ meter_found number there sold is_last
meter_is_told number m there tenths sold last is_last last_number number_is tenths_are last_is there_is =
    ap (λ (n : Option ℕ). told_of number m tenths n) number_is
    ∙ ap (λ (sold : ℕ). meter_found number (Some m) sold last) tenths_are
    ∙ ap (λ (last : Option Sale). meter_found number (Some m) sold last) last_is
    ∙ ap (λ (there : Option Meter). meter_found number there sold is_last) there_is

-- ---- refusals of the rules

-- a meter that is missing is refused by the rules
pub no_meter : IsOfRules refusals.NoMeter
no_meter = record { not_memory = λ is. absurd cc; not_store = λ is. absurd cc; not_stopped = λ is. absurd cc }

too_little : IsOfRules refusals.TooLittle
too_little = record { not_memory = λ is. absurd cc; not_store = λ is. absurd cc; not_stopped = λ is. absurd cc }

-- a test and those after it refuse by the rules
then_rules : {A B : Type 0} (r : Result A Refusal) (f : A → Result B Refusal) → IfErr r IsOfRules → ((x : A) → IfErr (f x) IsOfRules)
    → IfErr (r >>= f) IsOfRules
then_rules (Ok x) f first later = later x
then_rules (Err why) f first later = first

there_rules : {A : Type 0} (there : Option A) (why : Refusal) → IsOfRules why → IfErr (ok_or there why) IsOfRules
there_rules None why is = is
there_rules (Some x) why is = tt

tid_rules : {A : Type 0} (r : Result A TidFault) → IfErr (or_refusal r) IsOfRules
tid_rules (Ok x) = tt
tid_rules (Err BeforeBase) = record { not_memory = λ is. absurd cc; not_store = λ is. absurd cc; not_stopped = λ is. absurd cc }
tid_rules (Err PastEnd) = record { not_memory = λ is. absurd cc; not_store = λ is. absurd cc; not_stopped = λ is. absurd cc }
tid_rules (Err IdentifiersSpent) = record { not_memory = λ is. absurd cc; not_store = λ is. absurd cc; not_stopped = λ is. absurd cc }
tid_rules (Err IdentifierAhead) = record { not_memory = λ is. absurd cc; not_store = λ is. absurd cc; not_stopped = λ is. absurd cc }

next_rules : (count : ℕ) → IfErr (next_number count) IsOfRules
next_rules count = by_test (nat_lt count greatest_count)
  where
    room : Bool → Result ℕ Refusal
    room b = if b then Ok (count + 1) else Err refusals.OfficeFull

    by_test : (b : Bool) → IfErr (room b) IsOfRules
    by_test true = tt
    by_test false = record { not_memory = λ is. absurd cc; not_store = λ is. absurd cc; not_stopped = λ is. absurd cc }

-- a quote that fails is refused by the rules
pub quote_rules : (moment : ℕ) (number : List ℕ) (tender : ℕ) (account : Option MeterAccount) (count : ℕ)
    → IfErr (quote_for moment number tender account count) IsOfRules
quote_rules moment number tender account count =
    then_rules (ok_or account refusals.NoMeter) _ (there_rules account refusals.NoMeter no_meter) (λ m.
    then_rules (or_refusal (minute_of m.meter.base moment)) _ (tid_rules (minute_of m.meter.base moment)) (λ now.
    then_rules (or_refusal (fresh_after now m.last)) _ (tid_rules (fresh_after now m.last)) (λ tid.
    then_rules (ok_or (purchase_of m.steps m.prior tender) refusals.TooLittle) _
    (there_rules (purchase_of m.steps m.prior tender) refusals.TooLittle too_little) (λ bought.
    then_rules (next_number count) _ (next_rules count) (λ next. tt)))))

-- ---- a quote and the sale

-- the same test, and then what agrees
then_both : {A : Type 0} (r : Result A Refusal) (f : A → Result Found Refusal) (g : A → Result Change Refusal)
    → ((x : A) → IsQuoted (f x) (g x)) → IsQuoted (r >>= f) (r >>= g)
then_both (Ok x) f g later = later x
then_both (Err why) f g later = refl

-- the sale grants what is quoted, where a shift is open
pub sale_quoted : (forward : BlockFunction) (moment nibble : ℕ) (order : Order) (shift : Option Shift) (account : Option MeterAccount)
    (count : ℕ) → IsSome shift
    → IsQuoted (quote_for moment order.meter order.tender account count) (sell forward moment nibble order shift account count)
sale_quoted forward moment nibble order None account count some = absurd (false≢true some)
sale_quoted forward moment nibble order (Some s) account count some =
    then_both (ok_or account refusals.NoMeter) _ _ (λ m.
    then_both (or_refusal (minute_of m.meter.base moment)) _ _ (λ now.
    then_both (or_refusal (fresh_after now m.last)) _ _ (λ tid.
    then_both (ok_or (purchase_of m.steps m.prior order.tender) refusals.TooLittle) _ _ (λ bought.
    then_both (next_number count) _ _ (λ next. (_, refl, refl, refl, refl, refl))))))
