-- A sale that is asked for again.
use Rattle.std.proofs.Common.{◌≡◌, ◌⊎◌, ℕ, Bool, true, false, List, [], ◌∷◌, ◌++◌, length, Option, Some, None, Result, Ok, Err, inl, inr, refl, subst, arith}
use Rattle.std.specs.Prelude.{◌&&◌, ◌==◌, ◌↔◌, Contains, bytes_eq, if◌then◌else◌}
use Rattle.std.proofs.lemmas.Bool.{and_parts}
use Rattle.std.proofs.lemmas.Bool.Decides.{nat_tests}
use Rattle.std.proofs.lemmas.Slice.Eq.{bytes_eq-Decides}
use Rattle.sts_token.specs.Token.{BlockFunction, KeepsRange}
use Rattle.office_rules.specs.Decision.{account_of, decision_of, sell_once, unchanged}
use Rattle.office_rules.specs.Decision.Fold.{replies_to, reply, reply_of, step}
use Rattle.vend_core.specs.Law.Life.{IsLife, LeadTo, Life}
use Rattle.vend_core.specs.Law.LifeLaws.{extended_by, opened}
use Rattle.office_rules.specs.Law.NewSale.{IsNewSale}
use Rattle.vend_core.specs.Law.OfficeLaws.{IsSameOrder, WasSold}
use Rattle.office_rules.specs.Law.Store.{IsUnderRef}
use Rattle.office_rules.specs.Office.Lookup.{open_shift, sale_of_ref}
use Rattle.office_rules.specs.Office.{IsOffice, Office}
use Rattle.office_rules.specs.declared.decision.answer.Answer.{Answer}
use Rattle.office_rules.specs.declared.decision.answer.Answer.TheVariants.{Reprinted, Sold}
use Rattle.office_rules.specs.declared.decision.refusal.Refusal.{Refusal}
use Rattle.office_rules.specs.declared.decision.refusal.Refusal.TheVariants as refusals
use Rattle.office_rules.specs.declared.decision.request.Order.{Order}
use Rattle.office_rules.specs.declared.decision.request.Request.TheVariants.{Reprint, Sell}
use Rattle.office_rules.specs.declared.decision.request.Stamped.{Stamped}
use Rattle.office_rules.specs.declared.office.sale.Sale.{Sale}

-- ---- an order and its sale

-- an order that comes again gets the sale that was made for it
gets_same : (test : Bool) (order : Order) (first s : Sale) → (bytes_eq first.meter order.meter && (first.tender == order.tender)) ≡ test
    → reply_of (if test then unchanged (Sold first) else Err refusals.RefReused) ≡ Ok (Sold s) → (first ≡ s) × IsSameOrder order first
gets_same true order first s is granted =
    let parts = and_parts _ _ is in
    (cc, ((bytes_eq-Decides first.meter order.meter).0 parts.0, grind (arith, nat_tests)))
gets_same false order first s is granted = absurd (cc)

-- what the laws of an office say of orders
pub record OrderLaws : Type 0 where
  pub new_sale : (forward : BlockFunction) (o : Office) (at : Stamped) (order : Order) (s : Sale) → IsOffice o → KeepsRange forward
      → at.request ≡ Sell order → sale_of_ref o order.operator order.order_ref ≡ None → reply forward o at ≡ Ok (Sold s)
      → IsNewSale forward o at order s × ((step forward o at).sales ≡ o.sales ++ s ∷ [])
  pub again : (forward : BlockFunction) (o : Office) (at : Stamped) (order : Order) (first : Sale) → IsOffice o → at.request ≡ Sell order
      → WasSold o order first
      → (step forward o at ≡ o) × (IsSameOrder order first → reply forward o at ≡ Ok (Sold first))
      × (¬ IsSameOrder order first → reply forward o at ≡ Err refusals.RefReused)
  pub reprinted : (forward : BlockFunction) (o : Office) (at : Stamped) (s : Sale) → IsOffice o → Contains o.sales s → at.request
      ≡ Reprint s.number → reply forward o at ≡ Ok (Reprinted s)
  pub under : (o : Office) (name order_ref : List ℕ) (s : Sale) → IsOffice o → ((sale_of_ref o name order_ref ≡ Some s) ↔ IsUnderRef o name order_ref s)

-- the sale is the order's
pub record IsSaleOf (order : Order) (s : Sale) : Type 0 where
  pub operator : s.operator ≡ order.operator
  pub order_ref : s.order_ref ≡ order.order_ref
  pub same : IsSameOrder order s

module _ (laws : OrderLaws) (forward : BlockFunction) (o : Office) (at : Stamped) (order : Order) (s : Sale) (is : IsOffice o)
    (range : KeepsRange forward) (asked : at.request ≡ Sell order) (granted : reply forward o at ≡ Ok (Sold s)) where
  sold_under : (found : Option Sale) → sale_of_ref o order.operator order.order_ref ≡ found → IsSaleOf order s
  sold_under None none =
      let new = (laws.new_sale forward o at order s is range asked none granted).0 in
      record { operator = new.operator; order_ref = new.order_ref; same = (new.meter, new.tender) }
  sold_under (Some first) some =
      let there = (laws.under o order.operator order.order_ref first is).0 some in
      let once = subst (λ request. reply_of (decision_of forward o at.moment at.nibble request) ≡ Ok (Sold s)) asked granted in
      let again = subst (λ found. reply_of (sell_once forward at.moment at.nibble order found (open_shift o order.operator)
      (account_of o order.meter at.moment) (length o.sales)) ≡ Ok (Sold s)) some once in
      let same = gets_same _ order first s refl again in
      subst (λ (t : Sale). IsSaleOf order t) same.0 (record { operator = there.operator; order_ref = there.order_ref; same = same.1 })

  -- the sale that an order gets is its own, made now or found under its ref
  pub sold_for : IsSaleOf order s
  sold_for = sold_under (sale_of_ref o order.operator order.order_ref) refl

-- ---- a life of one request

-- its reply is that of the rules, or it failed
pub replied : (forward : BlockFunction) (o : Office) (at : Stamped) (r : Result Answer Refusal) → IsLife (extended_by (opened forward o) at r)
    → (r ≡ reply forward o at) ⊎ ((r ≡ Err refusals.Memory) ⊎ ((r ≡ Err refusals.Store) ⊎ (r ≡ Err refusals.Stopped)))
unfolding replies_to
replied forward o at (Ok answer) is = let same : (Ok answer ∷ []) ≡ (reply forward o at ∷ []) = is.replies in inl (cc)
replied forward o at (Err refusals.Memory) is = inr (inl refl)
replied forward o at (Err refusals.Store) is = inr (inr (inl refl))
replied forward o at (Err refusals.Stopped) is = inr (inr (inr refl))
replied forward o at (Err refusal) is = let same : (Err refusal ∷ []) ≡ (reply forward o at ∷ []) = is.replies in inl (cc)

-- each of some lives opened what the ones before it lead to
pub life_opens : (start : Office) (lives : List Life) (life : Life) (later : List Life) (o : Office)
    → LeadTo start (lives ++ life ∷ later) o → LeadTo start lives life.opening × IsLife life
life_opens start [] life later o (is, opening, left) = (opening, is)
life_opens start (first ∷ lives) life later o (is, opening, (left, may, on)) =
    let rest = life_opens left lives life later o on in
    ((is, opening, (left, may, rest.0)), rest.1)
