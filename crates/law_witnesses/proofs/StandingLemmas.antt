-- Sales that lives handed out, as they stand in the offices that these may leave.
use Rattle.std.proofs.Common.{◌≡◌, ◌∙◌, List, [], ◌∷◌, map, Some, Result, Ok, Err, inl, inr, refl, ap, subst, sym, arith}
use Rattle.std.specs.Prelude.{◌↔◌, Contains}
use Rattle.std.proofs.lemmas.List.{get_or-map, length-map}
use Rattle.book_facts.specs.Lookups.{Finds, sale_found}
use Rattle.asks.specs.declared.lookup.Lookup.TheVariants.{SaleOfRef}
use Rattle.book_states.specs.declared.lookup.Found.{Found}
use Rattle.book_states.specs.declared.lookup.Found.TheVariants as found
use Rattle.books.specs.Headline.{with_last}
use Rattle.desk_client.specs.Answers.{IsSaleFor}
use Rattle.office_rules.specs.Decision.Fold.{after}
use Rattle.office_rules.specs.Law.Store.{IsUnderRef}
use Rattle.office_rules.specs.Office.Lookup.{sale_of_ref}
use Rattle.office_rules.specs.Office.{IsOffice, Office}
use Rattle.office_rules.specs.declared.decision.answer.Answer.TheVariants.{Sold}
use Rattle.office_rules.specs.declared.decision.refusal.Refusal.{Refusal}
use Rattle.office_rules.specs.declared.decision.request.Order.{Order}
use Rattle.office_rules.specs.declared.office.sale.Sale.{Sale}
use Rattle.program_laws.specs.runs.Steps.{AreSoldFor}
use Rattle.vend_core.specs.Law.Life.{Exchange, HandsOut, IsHanded, LeadTo, Life}

-- what is in a list gives what is in the list of all that these give
given_by : {A B : Type 0} (f : A → B) (xs : List A) (x : A) → Contains xs x → Contains (map f xs) (f x)
given_by f xs x there =
    let long = length-map xs f in
    let lt = there.1 in
    (there.0, omega arith, get_or-map f xs there.0 x (f x) lt ∙ ap f there.2)

-- a sale of an exchange was handed out
pub handed_in : (life : Life) (e : Exchange) (s : Sale) → Contains life.exchanges e → e.reply ≡ Ok (Sold s) → HandsOut life s
handed_in life e s there is =
    let reply : Exchange → Result _ Refusal = λ it. it.reply in
    inl (Ok (Sold s), subst (Contains (map reply life.exchanges)) is (given_by reply life.exchanges e there), (0, omega arith, refl))

-- so was one that lives sold for an order
pub sold_handed : (lives : List Life) (order : Order) (s : Sale) → AreSoldFor lives order s → IsHanded lives s
sold_handed lives order s (life, there, at, asks, exchanged) =
    (life, there, handed_in life (record { request = at; reply = Ok (Sold s) }) s exchanged refl)

-- the first of some lives handed out the sales of the office that it opened
pub opened_handed : (start : Office) (lives : List Life) (life : Life) (s : Sale) → LeadTo start lives life.opening → Contains start.sales s
    → IsHanded (with_last lives life) s
unfolding after
opened_handed start [] life s opening stands =
    let Stands : Office → Type 0 = λ o. Contains o.sales s in
    (life, (0, omega arith, refl), inr (0, subst Stands (sym opening) stands))
opened_handed start (first ∷ later) life s led stands =
    let Stands : Office → Type 0 = λ o. Contains o.sales s in
    (first, (0, omega arith, refl), inr (0, subst Stands (sym led.1) stands))

-- what is found under a ref is the sale that stands under it
pub found_under : (under : (o : Office) (name order_ref : List _) (s : Sale) → IsOffice o
    → ((sale_of_ref o name order_ref ≡ Some s) ↔ IsUnderRef o name order_ref s))
    → (o : Office) (moment : _) (order : Order) (s again : Sale) → IsOffice o → Contains o.sales s → IsSaleFor order s
    → Finds o moment (SaleOfRef order.operator order.order_ref) (Ok (found.Sale again)) → again ≡ s
found_under under o moment order s again is stands for finds =
    let there = (under o order.operator order.order_ref s is).1 (record { stands = stands; operator = for.operator; order_ref = for.order_ref }) in
    let one : Ok (found.Sale again) ≡ sale_found (Some s) = finds ∙ ap sale_found there in
    cc
