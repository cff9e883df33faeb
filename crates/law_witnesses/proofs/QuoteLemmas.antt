-- A quote and the sale that is made by it.
use Rattle.std.proofs.Common.{◌≡◌, ◌∙◌, ◌⊎◌, ℕ, Bool, true, false, cond, List, [], ◌∷◌, ◌++◌, length, Option, None, Some, Result, Ok, Err, inl, inr, refl, sym, ap, subst}
use Rattle.std.specs.Prelude.{IsSome, filter, map}
use Rattle.std.specs.Option.{ok_or}
use Rattle.sts_fields.specs.Tid.{fresh_after, minute_of}
use Rattle.sts_token.specs.Token.{BlockFunction}
use Rattle.tariff.specs.Purchase.{purchase_of}
use Rattle.book_facts.specs.Lookups.{Finds, IsQuoted, quote, sale_found}
use Rattle.asks.specs.declared.lookup.Lookup.{Lookup}
use Rattle.book_states.specs.declared.lookup.Found.{Found}
use Rattle.book_states.specs.declared.lookup.Found.TheVariants as found
use Rattle.book_states.specs.declared.lookup.Quote.{Quote}
use Rattle.office_rules.specs.Decision.{◌>>=◌, MeterAccount, account_of, decision_of, next_number, or_refusal, sell, sell_once}
use Rattle.office_rules.specs.Decision.Fold.{after, replies_to, reply, reply_of, step}
use Rattle.office_rules.specs.Office.{Office}
use Rattle.office_rules.specs.Office.Lookup.{open_shift, sale_of_ref}
use Rattle.office_rules.specs.declared.decision.answer.Answer.{Answer}
use Rattle.office_rules.specs.declared.decision.answer.Answer.TheVariants as answers
use Rattle.office_rules.specs.declared.decision.change.Change.{Change}
use Rattle.office_rules.specs.declared.decision.change.Edit.TheVariants as edits
use Rattle.office_rules.specs.declared.decision.refusal.Refusal.{Refusal}
use Rattle.office_rules.specs.declared.decision.refusal.Refusal.TheVariants as refusals
use Rattle.office_rules.specs.declared.decision.request.Order.{Order}
use Rattle.office_rules.specs.declared.decision.request.Request.{Request}
use Rattle.office_rules.specs.declared.decision.request.Request.TheVariants as requests
use Rattle.office_rules.specs.declared.decision.request.Stamped.{Stamped}
use Rattle.office_rules.specs.declared.office.sale.Sale.{Sale}
use Rattle.office_rules.specs.declared.office.shift.Shift.{Shift}
use Rattle.vend_core.specs.Law.Life.{Exchange, IsLife, Life, acknowledged, acknowledges, present, replies_acknowledged}
use Rattle.vend_core.specs.Law.LifeLaws.{extended_by}

-- ---- the last reply of a life

last_of : {A : Type 0} (x y : A) → x ∷ [] ≡ y ∷ [] → x ≡ y
last_of x y same = cc

same_last : {A : Type 0} (xs ys : List A) (x y : A) → xs ++ x ∷ [] ≡ ys ++ y ∷ [] → x ≡ y
same_last [] [] x y same = last_of x y same
same_last [] (b ∷ []) x y same = cc
same_last [] (b ∷ c ∷ ys) x y same = cc
same_last (a ∷ []) [] x y same = cc
same_last (a ∷ d ∷ xs) [] x y same = cc
same_last {A = A} (a ∷ xs) (b ∷ ys) x y same =
    let rest : xs ++ x ∷ [] ≡ ys ++ y ∷ [] = cc in
    same_last {A = A} xs ys x y rest

abbrev Reply : Type 0
Reply = Result Answer Refusal

replies_push : (forward : BlockFunction) (o : Office) (ats : List Stamped) (at : Stamped)
    → replies_to forward o (ats ++ at ∷ []) ≡ replies_to forward o ats ++ reply forward (after forward o ats) at ∷ []
unfolding after replies_to
replies_push forward o [] at = refl
replies_push forward o (first ∷ ats) at =
    ap (λ (rest : List Reply). reply forward o first ∷ rest) (replies_push forward (step forward o first) ats at)

abbrev passes : Exchange → Bool
passes e = acknowledges e.reply

kept_last : (es : List Exchange) (e : Exchange) → passes e ≡ true → filter passes (es ++ e ∷ []) ≡ filter passes es ++ e ∷ []
kept_last [] e is = rw is refl
kept_last (first ∷ es) e is = kept_at (passes first) (kept_last es e is)
  where
    kept_at : (b : Bool) → filter passes (es ++ e ∷ []) ≡ filter passes es ++ e ∷ []
        → cond b (first ∷ filter passes (es ++ e ∷ [])) (filter passes (es ++ e ∷ [])) ≡ cond b (first ∷ filter passes es) (filter passes es) ++ e ∷ []
    kept_at true rest = ap (λ (es : List Exchange). first ∷ es) rest
    kept_at false rest = rest

mapped_last : {A B : Type 0} (f : A → B) (xs : List A) (x : A) → map f (xs ++ x ∷ []) ≡ map f xs ++ f x ∷ []
mapped_last f [] x = refl
mapped_last f (first ∷ xs) x = ap (λ rest. f first ∷ rest) (mapped_last f xs x)

-- an answer that a life gave last is the one that the rules give
pub by_rules : (old : Life) (at : Stamped) (answer : Answer) → IsLife (extended_by old at (Ok answer))
    → Ok answer ≡ reply old.forward (present old) at
by_rules old at answer is =
    let r : Reply = Ok answer in
    let e : Exchange = record { request = at; reply = r } in
    let kept = kept_last old.exchanges e refl in
    let told : replies_acknowledged (extended_by old at r) ≡ replies_acknowledged old ++ r ∷ [] =
    ap (λ (es : List Exchange). map (λ (e : Exchange). e.reply) es) kept
    ∙ mapped_last (λ (e : Exchange). e.reply) (filter passes old.exchanges) e in
    let asked : acknowledged (extended_by old at r) ≡ acknowledged old ++ at ∷ [] =
    ap (λ (es : List Exchange). map (λ (e : Exchange). e.request) es) kept
    ∙ mapped_last (λ (e : Exchange). e.request) (filter passes old.exchanges) e in
    let given : replies_acknowledged (extended_by old at r)
    ≡ replies_to old.forward old.opening (acknowledged old) ++ reply old.forward (present old) at ∷ [] =
    is.replies ∙ ap (λ (ats : List Stamped). replies_to old.forward old.opening ats) asked
    ∙ replies_push old.forward old.opening (acknowledged old) at in
    same_last (replies_acknowledged old) (replies_to old.forward old.opening (acknowledged old)) r
    (reply old.forward (present old) at) (sym told ∙ given)

-- ---- what a sale is decided by

then_ok : {A B : Type 0} (r : Result A Refusal) (f : A → Result B Refusal) (y : B) → r >>= f ≡ Ok y → (x : A) × (r ≡ Ok x) × (f x ≡ Ok y)
then_ok (Ok x) f y is = (x, refl, is)
then_ok (Err why) f y is = cc

abbrev with_change : Change → Result Change Refusal
with_change change = Ok change

-- a new sale is added and answered, and its operator has an open shift
pub sold_new : (forward : BlockFunction) (moment nibble : ℕ) (order : Order) (shift : Option Shift) (account : Option MeterAccount) (count : ℕ)
    (change : Change) → sell forward moment nibble order shift account count ≡ Ok change
    → IsSome shift × ((s : Sale) × (change.edit ≡ Some (edits.AddSale s)) × (change.answer ≡ answers.Sold s))
sold_new forward moment nibble order None account count change is = absurd (cc)
sold_new forward moment nibble order (Some shift) account count change is =
    let m = then_ok (ok_or account refusals.NoMeter) _ _ is in
    let now = then_ok (or_refusal (minute_of m.0.meter.base moment)) _ _ m.2 in
    let tid = then_ok (or_refusal (fresh_after now.0 m.0.last)) _ _ now.2 in
    let buy = then_ok (ok_or (purchase_of m.0.steps m.0.prior order.tender) refusals.TooLittle) _ _ tid.2 in
    let number = then_ok (next_number count) _ _ buy.2 in
    let Added : Change → Type 0 = λ c. (s : Sale) × (c.edit ≡ Some (edits.AddSale s)) × (c.answer ≡ answers.Sold s) in
    (refl, subst Added (same_change _ change number.2) (_, refl, refl))
  where
    same_change : (a b : Change) → with_change a ≡ with_change b → a ≡ b
    same_change a b is = cc

-- what was answered was granted
pub granted : (d : Result Change Refusal) (a : Answer) → Ok a ≡ reply_of d → (change : Change) × (d ≡ Ok change) × (change.answer ≡ a)
granted (Ok change) a is = (change, refl, cc)
granted (Err why) a is = absurd (cc)

no_sale : (there : Option Sale) → Err refusals.NoSale ≡ sale_found there → there ≡ None
no_sale None is = refl
no_sale (Some s) is = absurd (cc)

-- what was refused because there is no such sale is refused so by the rules
pub no_sale_by_rules : (o : Office) (moment : ℕ) (lookup : Lookup) (result : Result Found Refusal) → result ≡ Err refusals.NoSale
    → Finds o moment lookup result ⊎ ((result ≡ Err refusals.Memory) ⊎ ((result ≡ Err refusals.Store) ⊎ (result ≡ Err refusals.Stopped)))
    → Finds o moment lookup (Err refusals.NoSale)
no_sale_by_rules o moment lookup result is (inl finds) =
    let Goal : Result Found Refusal → Type 0 = λ r. Finds o moment lookup r in subst Goal is finds
no_sale_by_rules o moment lookup result is (inr (inl memory)) = absurd (cc)
no_sale_by_rules o moment lookup result is (inr (inr (inl store))) = absurd (cc)
no_sale_by_rules o moment lookup result is (inr (inr (inr stopped))) = absurd (cc)

-- a sale has what was quoted at its moment for its tender
pub sold_as_quoted : ((forward : BlockFunction) (o : Office) (moment nibble : ℕ) (order : Order) → IsSome (open_shift o order.operator)
    → sale_of_ref o order.operator order.order_ref ≡ None
    → IsQuoted (quote o moment order.meter order.tender) (decision_of forward o moment nibble (requests.Sell order)))
    → (life : Life) (at : Stamped) (order : Order) (moment : ℕ) (q : Quote) (s : Sale) (reply : Reply) → reply ≡ Ok (answers.Sold s)
    → IsLife (extended_by life at reply) → at.moment ≡ moment → at.request ≡ requests.Sell order
    → Err refusals.NoSale ≡ sale_found (sale_of_ref (present life) order.operator order.order_ref)
    → Ok (found.Quote q) ≡ quote (present life) moment order.meter order.tender → (s.tenths ≡ q.tenths) × (s.price ≡ q.price)
sold_as_quoted law life at order moment q s told sold is when asked unused quoted =
    let o = present life in
    let forward = life.forward in
    let none = no_sale _ unused in
    let IsOne : Reply → Type 0 = λ r. IsLife (extended_by life at r) in
    let decide : ℕ → Request → Result Change Refusal = λ n r. decision_of forward o n at.nibble r in
    let decided : Ok (answers.Sold s) ≡ reply_of (decide moment (requests.Sell order)) =
    by_rules life at (answers.Sold s) (subst IsOne sold is)
    ∙ ap (λ (n : ℕ). reply_of (decide n at.request)) when ∙ ap (λ (r : Request). reply_of (decide moment r)) asked in
    let made = granted (decide moment (requests.Sell order)) (answers.Sold s) decided in
    let as_new : decide moment (requests.Sell order)
    ≡ sell forward moment at.nibble order (open_shift o order.operator) (account_of o order.meter moment) (length o.sales) =
    ap (λ (there : Option Sale). sell_once forward moment at.nibble order there (open_shift o order.operator)
    (account_of o order.meter moment) (length o.sales)) none in
    let new = sold_new forward moment at.nibble order (open_shift o order.operator) (account_of o order.meter moment) (length o.sales)
    made.0 (sym as_new ∙ made.1) in
    let Decided : Result Change Refusal → Type 0 = λ d. IsQuoted (quote o moment order.meter order.tender) d in
    let Quoted : Result Found Refusal → Type 0 = λ r. IsQuoted r (Ok made.0) in
    let by : Quoted (Ok (found.Quote q)) =
    subst Quoted (sym quoted) (subst Decided made.1 (law forward o moment at.nibble order new.0 none)) in
    let answered : s ≡ new.1.0 = same_sale s new.1.0 (sym made.2 ∙ new.1.2) in
    let added : new.1.0 ≡ by.0 = same_added new.1.0 by.0 (sym new.1.1 ∙ by.1) in
    let one : s ≡ by.0 = answered ∙ added in
    (ap (λ (x : Sale). x.tenths) one ∙ by.4, ap (λ (x : Sale). x.price) one ∙ by.5)
  where
    same_sale : (a b : Sale) → answers.Sold a ≡ answers.Sold b → a ≡ b
    same_sale a b is = cc

    same_added : (a b : Sale) → Some (edits.AddSale a) ≡ Some (edits.AddSale b) → a ≡ b
    same_added a b is = cc
