-- What single requests do: a ref that comes again, a refusal, a reprint, a report, a new sale.
pub mod AgainLemmas
pub mod AnswerLemmas
pub mod ApartLemmas
pub mod BaseLemmas
pub mod CashLemmas
pub mod ClearedLemmas
pub mod DatedLemmas
pub mod DecidedLemmas
pub mod EachAfterLemmas
pub mod EffectLemmas
pub mod FoldLemmas
pub mod GrowthLemmas
pub mod LeaveLemmas
pub mod MeterLemmas
pub mod PlausibleLemmas
pub mod PriceLemmas
pub mod ReachedLemmas
pub mod RefusalLemmas
pub mod RiseLemmas
pub mod SaleLemmas
pub mod TakeBackLemmas
pub mod WrittenLemmas
use Rattle.std.proofs.Common.{◌≡◌, ℕ, Bool, true, false, List, [], ◌∷◌, ◌++◌, length, Option, Some, None, Result, Ok, Err, refl, sym, ◌∙◌, ap, subst}
use Rattle.std.specs.Prelude.{◌==◌, Contains, if◌then◌else◌}
use Rattle.std.proofs.lemmas.Bool.{false≢true}
use Rattle.std.proofs.lemmas.Bool.Decides.{Decides-eqb}
use Rattle.std.proofs.lemmas.Slice.Eq.{bytes_eq-Decides}
use Rattle.sts_token.specs.Token.{KeepsRange}
use Rattle.office_rules.specs.Decision.{decision_of, account_of, report, reprint, sell, sell_again, sell_once, unchanged}
use Rattle.office_rules.specs.Decision.Fold.{office_after, reply, reply_of, step}
use Rattle.office_rules.specs.Office.Lookup.{open_shift, sale_numbered, sale_of_ref, sales_of_shift, shift_numbered}
use Rattle.office_rules.specs.Law.NewSale.{IsNewSale}
use Rattle.office_rules.specs.Office.{IsOffice, Office}
use Rattle.vend_core.specs.Law.OfficeLaws.{IsSameOrder, WasSold}
use Rattle.office_rules.specs.declared.decision.answer.Answer.{Answer}
use Rattle.office_rules.specs.declared.decision.answer.Answer.TheVariants as answers
use Rattle.office_rules.specs.declared.decision.change.Change.{Change}
use Rattle.office_rules.specs.declared.decision.refusal.Refusal.{Refusal}
use Rattle.office_rules.specs.declared.decision.refusal.Refusal.TheVariants as refusals
use Rattle.office_rules.specs.declared.decision.request.Order.{Order}
use Rattle.office_rules.specs.declared.decision.request.Request.TheVariants as requests
use Rattle.office_rules.specs.declared.decision.request.Stamped.{Stamped}
use Rattle.office_rules.specs.declared.office.sale.Sale.{Sale}
use Rattle.office_rules.specs.declared.office.shift.Shift.{Shift}
use Rattle.office_rules.proofs.DecisionLemmas.NewSaleLemmas.{LowerLaws, granted_sale}
use Rattle.office_rules.proofs.OfficeLemmas.RowLemmas.{both_true, finds, one_of_number, one_of_ref, parts_true, same_number}

-- the first sale of an order is looked up by its ref
first_found : (o : Office) (order : Order) (first : Sale) → IsOffice o → WasSold o order first → sale_of_ref o order.operator order.order_ref ≡ Some first
first_found o order first office was =
    finds _ o.sales first was.stands (both_true _ _ ((bytes_eq-Decides _ _).1 was.operator) ((bytes_eq-Decides _ _).1 was.order_ref)) (λ s there passes.
    let p = parts_true _ _ passes in
    one_of_ref o s first office there was.stands ((bytes_eq-Decides _ _).0 p.0 ∙ sym was.operator) ((bytes_eq-Decides _ _).0 p.1 ∙ sym was.order_ref))

abbrev Repeats : Office → Order → Sale → Result Change Refusal → Type 0
Repeats o order first r = (office_after o r ≡ o) × (IsSameOrder order first → reply_of r ≡ Ok (answers.Sold first))
    × (¬ IsSameOrder order first → reply_of r ≡ Err refusals.RefReused)

repeats_at : (o : Office) (order : Order) (first : Sale) (b : Bool) → (b ≡ true → IsSameOrder order first)
    → (IsSameOrder order first → b ≡ true) → Repeats o order first (if b then unchanged (answers.Sold first) else Err refusals.RefReused)
repeats_at o order first true tells told = (refl, λ same. refl, λ other. absurd (other (tells refl)))
repeats_at o order first false tells told = (refl, λ same. absurd (false≢true (told same)), λ other. refl)

repeats : (o : Office) (order : Order) (first : Sale) → Repeats o order first (sell_again order first)
repeats o order first =
    repeats_at o order first _
    (λ e. let p = parts_true _ _ e in ((bytes_eq-Decides _ _).0 p.0, (Decides-eqb _ _).0 p.1))
    (λ same. both_true _ _ ((bytes_eq-Decides _ _).1 same.0) ((Decides-eqb _ _).1 same.1))

-- a ref that comes again sells nothing: the same order gets its first sale, another none
pub sold_again : (forward : ℕ → ℕ → ℕ) (o : Office) (at : Stamped) (order : Order) (first : Sale) → IsOffice o → at.request
    ≡ requests.Sell order → WasSold o order first
    → (step forward o at ≡ o) × (IsSameOrder order first → reply forward o at ≡ Ok (answers.Sold first))
    × (¬ IsSameOrder order first → reply forward o at ≡ Err refusals.RefReused)
sold_again forward o at order first office asks was =
    subst (λ request. Repeats o order first (decision_of forward o at.moment at.nibble request)) (sym asks)
    (subst (λ found. Repeats o order first (sell_once forward at.moment at.nibble order found (open_shift o order.operator)
    (account_of o order.meter at.moment) (length o.sales))) (sym (first_found o order first office was)) (repeats o order first))

-- a reprint and a report change nothing, and give what stands
reprint_stays : (o : Office) (sale : Option Sale) → office_after o (reprint sale) ≡ o
reprint_stays o None = refl
reprint_stays o (Some s) = refl

-- a reprint changes nothing
pub reprints_stay : (forward : ℕ → ℕ → ℕ) (o : Office) (at : Stamped) (number : ℕ) → at.request ≡ requests.Reprint number → step forward o at ≡ o
reprints_stay forward o at number asks =
    subst (λ request. office_after o (decision_of forward o at.moment at.nibble request) ≡ o) (sym asks) (reprint_stays o (sale_numbered o number))

-- a reprint gives the sale that stands under its number
pub reprints_the_sale : (forward : ℕ → ℕ → ℕ) (o : Office) (at : Stamped) (s : Sale) → IsOffice o → Contains o.sales s → at.request
    ≡ requests.Reprint s.number → reply forward o at ≡ Ok (answers.Reprinted s)
reprints_the_sale forward o at s office there asks =
    let e = finds (λ t. t.number == s.number) o.sales s there ((Decides-eqb s.number s.number).1 refl)
    (λ t t_there passes. one_of_number o t s office t_there there ((Decides-eqb _ _).0 passes)) in
    subst (λ request. reply_of (decision_of forward o at.moment at.nibble request) ≡ Ok (answers.Reprinted s)) (sym asks)
    (subst (λ sale. reply_of (reprint sale) ≡ Ok (answers.Reprinted s)) (sym e) refl)

report_stays : (o : Office) (shift : Option Shift) (sales : List Sale) → office_after o (report shift sales) ≡ o
report_stays o None sales = refl
report_stays o (Some s) sales = refl

-- a report changes nothing
pub reports_stay : (forward : ℕ → ℕ → ℕ) (o : Office) (at : Stamped) (number : ℕ) → at.request ≡ requests.ShiftReport number → step forward o at ≡ o
reports_stay forward o at number asks =
    subst (λ request. office_after o (decision_of forward o at.moment at.nibble request) ≡ o) (sym asks)
    (report_stays o (shift_numbered o number) (sales_of_shift o number))

-- a report gives the shift of the number that is asked for, with its sales
pub reports_the_shift : (forward : ℕ → ℕ → ℕ) (o : Office) (at : Stamped) (s : Shift) → IsOffice o → Contains o.shifts s → at.request
    ≡ requests.ShiftReport s.number → reply forward o at ≡ Ok (answers.Report s (sales_of_shift o s.number))
reports_the_shift forward o at s office there asks =
    let e = finds (λ t. t.number == s.number) o.shifts s there ((Decides-eqb s.number s.number).1 refl)
    (λ t t_there passes. same_number (λ s. s.number) o.shifts t s office.shift_numbers t_there there ((Decides-eqb _ _).0 passes)) in
    subst (λ request. reply_of (decision_of forward o at.moment at.nibble request) ≡ Ok (answers.Report s (sales_of_shift o s.number))) (sym asks)
    (subst (λ shift. reply_of (report shift (sales_of_shift o s.number)) ≡ Ok (answers.Report s (sales_of_shift o s.number))) (sym e) refl)

sold_same : (s t : Sale) → ◌≡◌ {A = Result Answer Refusal} (Ok (answers.Sold s)) (Ok (answers.Sold t)) → s ≡ t
sold_same s t e = cc

-- a new sale that was answered is what the rules say
new_of_result : (laws : LowerLaws) (forward : ℕ → ℕ → ℕ) (o : Office) (at : Stamped) (order : Order) (s : Sale) (r : Result Change Refusal)
    → IsOffice o → KeepsRange forward
    → sell forward at.moment at.nibble order (open_shift o order.operator) (account_of o order.meter at.moment) (length o.sales) ≡ r
    → reply_of r ≡ Ok (answers.Sold s)
    → IsNewSale forward o at order s × ((office_after o r).sales ≡ o.sales ++ s ∷ [])
new_of_result laws forward o at order s (Err refusal) office range e answered = cc
new_of_result laws forward o at order s (Ok change) office range e answered =
    let granted = granted_sale laws forward o at order change range office e in
    let same : granted.sale ≡ s = sold_same granted.sale s (ap (λ (c : Change). reply_of (Ok c)) (sym granted.change_is) ∙ answered) in (
      subst (λ (t : Sale). IsNewSale forward o at order t) same granted.new,
      ap (λ (c : Change). (office_after o (Ok c)).sales) granted.change_is ∙ ap (λ (t : Sale). o.sales ++ t ∷ []) same,
    )

-- a sale answered to a new ref is one by the rules, and is added at the end
pub new_sale_is : (laws : LowerLaws) (forward : ℕ → ℕ → ℕ) (o : Office) (at : Stamped) (order : Order) (s : Sale) → IsOffice o
    → KeepsRange forward → at.request ≡ requests.Sell order
    → sale_of_ref o order.operator order.order_ref ≡ None → reply forward o at ≡ Ok (answers.Sold s)
    → IsNewSale forward o at order s × ((step forward o at).sales ≡ o.sales ++ s ∷ [])
new_sale_is laws forward o at order s office range asks alone answered =
    let is : decision_of forward o at.moment at.nibble at.request
    ≡ sell forward at.moment at.nibble order (open_shift o order.operator) (account_of o order.meter at.moment) (length o.sales) =
    ap (λ request. decision_of forward o at.moment at.nibble request) asks
    ∙ ap (λ first. sell_once forward at.moment at.nibble order first (open_shift o order.operator) (account_of o order.meter at.moment)
    (length o.sales)) alone in
    new_of_result laws forward o at order s (decision_of forward o at.moment at.nibble at.request) office range (sym is) answered
