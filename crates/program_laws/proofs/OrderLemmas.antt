-- An order that is sold more than once.
use Rattle.std.proofs.Common.{◌≡◌, Bool, true, false, List, [], ◌∷◌, cond, Result, Ok, inl, inr, refl, sym, subst, arith}
use Rattle.std.specs.Prelude.{All, Contains, filter, map}
use Rattle.std.proofs.lemmas.List.Elements.{All-head, All-tail}
use Rattle.sts_token.specs.Token.{BlockFunction, KeepsRange}
use Rattle.office_rules.specs.Decision.Fold.{replies_to, reply, step}
use Rattle.office_rules.specs.Decision.Requests.{IsStamped}
use Rattle.office_rules.specs.Law.Growth.{HasGrown}
use Rattle.vend_core.specs.Law.Life.{Exchange, HandsOut, IsHanded, IsLife, LeadTo, Life, MayLeave, acknowledges}
use Rattle.office_rules.specs.Office.{IsOffice, Office}
use Rattle.office_rules.specs.declared.decision.answer.Answer.{Answer}
use Rattle.office_rules.specs.declared.decision.answer.Answer.TheVariants.{Sold}
use Rattle.office_rules.specs.declared.decision.refusal.Refusal.{Refusal}
use Rattle.office_rules.specs.declared.decision.request.Order.{Order}
use Rattle.office_rules.specs.declared.decision.request.Request.TheVariants.{Sell}
use Rattle.office_rules.specs.declared.decision.request.Stamped.{Stamped}
use Rattle.office_rules.specs.declared.office.sale.Sale.{Sale}
use Rattle.office_rules.proofs.OfficeLemmas.RowLemmas.{contains_cases, contains_map}
use Rattle.program_laws.specs.runs.Steps.{AreSoldFor}
use Rattle.program_laws.proofs.AgainLemmas.{IsSaleOf, OrderLaws, sold_for}

-- what the laws say of offices and of orders
pub record SellingLaws : Type 0 where
  pub orders : OrderLaws
  pub keeps : (forward : BlockFunction) (o : Office) (at : Stamped) → IsOffice o → IsStamped at → KeepsRange forward → IsOffice (step forward o at)
  pub left : (life : Life) (o : Office) → IsLife life → IsOffice life.opening → MayLeave life o → IsOffice o × HasGrown life.opening o

abbrev passes : Exchange → Bool
passes e = acknowledges e.reply

-- the acknowledged requests among some exchanges, and their replies
abbrev asked_in : List Exchange → List Stamped
asked_in es = map (λ (e : Exchange). e.request) (filter passes es)

abbrev replied_in : List Exchange → List (Result Answer Refusal)
replied_in es = map (λ (e : Exchange). e.reply) (filter passes es)

-- the exchange that sold it
abbrev sold_at : Sale → Stamped → Exchange
sold_at s at = record { request = at; reply = Ok (Sold s) }

module _ (laws : SellingLaws) (order : Order) (s : Sale) where
  module _ (forward : BlockFunction) (range : KeepsRange forward) (at : Stamped) (asked : at.request ≡ Sell order) where
    -- it was granted by the rules, in an office
    abbrev SoldHere : Office → List Exchange → Type 0
    SoldHere o es = IsOffice o → All (λ (e : Exchange). IsStamped e.request) es → replied_in es ≡ replies_to forward o (asked_in es)
        → Contains es (sold_at s at) → IsSaleOf order s

    -- of an exchange and those behind it: the first one counts where it acknowledges its request
    behind : (o : Office) (x : Exchange) (es : List Exchange) → ((p : Office) → SoldHere p es) → (passed : Bool) → acknowledges x.reply ≡ passed
        → IsOffice o → All (λ (e : Exchange). IsStamped e.request) (x ∷ es)
        → map (λ (e : Exchange). e.reply) (cond passed (x ∷ filter passes es) (filter passes es))
        ≡ replies_to forward o (map (λ (e : Exchange). e.request) (cond passed (x ∷ filter passes es) (filter passes es)))
        → Contains (x ∷ es) (sold_at s at) → IsSaleOf order s
    unfolding replies_to
    behind o x es later true passes_it office stamped replies there =
        let first : x.reply ≡ reply forward o x.request = cc in
        let rest : replied_in es ≡ replies_to forward (step forward o x.request) (asked_in es) = cc in
        let here = All-head (λ (e : Exchange). IsStamped e.request) x es stamped in
        elim (contains_cases x (sold_at s at) es there) [
          | inl is ↦
              let granted : reply forward o at ≡ Ok (Sold s) = subst (λ (e : Exchange). reply forward o e.request ≡ e.reply) is (sym first) in
              sold_for laws.orders forward o at order s office range asked granted
          | inr further ↦ later (step forward o x.request) (laws.keeps forward o x.request office here range)
              (All-tail (λ (e : Exchange). IsStamped e.request) x es stamped) rest further
        ]
    behind o x es later false stays office stamped replies there =
        elim (contains_cases x (sold_at s at) es there) [
          | inl is ↦ absurd (let none : acknowledges (sold_at s at).reply ≡ false = subst (λ (e : Exchange). acknowledges e.reply ≡ false) is stays in cc)
          | inr further ↦ later o office (All-tail (λ (e : Exchange). IsStamped e.request) x es stamped) replies further
        ]

    sold_here : (o : Office) (es : List Exchange) → SoldHere o es
    sold_here o [] office stamped replies there = absurd (omega (arith, there.1))
    sold_here o (x ∷ es) office stamped replies there = behind o x es (λ p. sold_here p es) (acknowledges x.reply) refl office stamped replies there

  -- a sale that a life sold for an order is the order's
  sold_in_life : (life : Life) (at : Stamped) → IsLife life → IsOffice life.opening → at.request ≡ Sell order
      → Contains life.exchanges (sold_at s at) → IsSaleOf order s
  sold_in_life life at is office asked there = sold_here life.forward is.range at asked life.opening life.exchanges office is.stamped is.replies there

  -- so it is in lives of an office
  pub sold_in_lives : (start : Office) (lives : List Life) (o : Office) → IsOffice start → LeadTo start lives o → AreSoldFor lives order s → IsSaleOf order s
  sold_in_lives start [] o office leads (life, there, at, asked, sold) = absurd (omega (arith, there.1))
  sold_in_lives start (first ∷ lives) o office (is, opens, (left, may, leads)) (life, there, at, asked, sold) =
      let opening : IsOffice first.opening = subst IsOffice (sym opens) office in
      elim (contains_cases first life lives there) [
        | inl same ↦ sold_in_life first at is opening asked (subst (λ (l : Life). Contains l.exchanges (sold_at s at)) (sym same) sold)
        | inr further ↦ sold_in_lives left lives o (laws.left first left is opening may).0 leads (life, further, at, asked, sold)
      ]

-- which handed it out
pub sold_handed : (order : Order) (s : Sale) (lives : List Life) → AreSoldFor lives order s → IsHanded lives s
sold_handed order s lives (life, there, at, asked, sold) =
    let hands : HandsOut life s = inl (Ok (Sold s), contains_map (λ (e : Exchange). e.reply) life.exchanges (sold_at s at) sold, (0, omega arith, refl)) in
    (life, there, hands)
