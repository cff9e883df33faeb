-- Along lives: each office that may be left is an office, and has grown out of each one before;
-- each sale handed out stands in it.
pub mod AgainLifeLemmas
pub mod AlongLemmas
pub mod ExtendLemmas
pub mod ExtendManyLemmas
pub mod HistoryLemmas
use Rattle.std.proofs.Common.{◌≡◌, ℕ, inl, inr, true, List, [], ◌∷◌, ◌++◌, take, drop, Result, Ok, Err, refl, sym, ◌∙◌, ap, subst, arith}
use Rattle.std.specs.Prelude.{All, Contains, filter, map}
use Rattle.std.proofs.lemmas.List.{take-append-drop}
use Rattle.std.proofs.lemmas.List.Elements.{All-contains, All-drop, All-filter, All-head, All-map, All-tail, All-take}
use Rattle.sts_token.specs.Token.{KeepsRange}
use Rattle.office_rules.specs.Decision.Fold.{after, replies_to, reply, step}
use Rattle.office_rules.specs.Law.Growth.{HasGrown}
use Rattle.office_rules.specs.Law.Handed.{sales_of}
use Rattle.vend_core.specs.Law.Life.{Answered, AreLives, Exchange, HandsOut, IsHanded, IsLife, LeadTo, Life, MayLeave, acknowledged, acknowledges, in_doubt, present}
use Rattle.office_rules.specs.Office.{IsOffice, Office, empty_office}
use Rattle.office_rules.specs.Decision.Requests.{IsStamped}
use Rattle.office_rules.specs.declared.decision.answer.Answer.{Answer}
use Rattle.office_rules.specs.declared.decision.refusal.Refusal.{Refusal}
use Rattle.office_rules.specs.declared.decision.request.Stamped.{Stamped}
use Rattle.office_rules.specs.declared.office.sale.Sale.{Sale}
use Rattle.vend_core.proofs.LawLemmas.AnswerLemmas.{answered_stand}
use Rattle.vend_core.proofs.LawLemmas.FoldLemmas.{after_grows, after_keeps_office, step_grows}
use Rattle.vend_core.proofs.LawLemmas.GrowthLemmas.{grown_none, grown_twice, stands_on}
use Rattle.office_rules.proofs.DecisionLemmas.NewSaleLemmas.{LowerLaws}
use Rattle.office_rules.proofs.OfficeLemmas.{empty_is_office, step_keeps_office}
use Rattle.office_rules.proofs.OfficeLemmas.RowLemmas.{contains_cases, contains_map, kept, map_source}

-- requests one after others
pub after-append : (forward : ℕ → ℕ → ℕ) (o : Office) (ats more : List Stamped) → after forward o (ats ++ more) ≡ after forward (after forward o ats) more
unfolding after
after-append forward o [] more = refl
after-append forward o (at ∷ ats) more = after-append forward (step forward o at) ats more

module _ (laws : LowerLaws) where
  -- a sale in a reply stands after all requests
  replied_stands : (forward : ℕ → ℕ → ℕ) (o : Office) (ats : List Stamped) (r : Result Answer Refusal) (s : Sale) → IsOffice o
      → All IsStamped ats → KeepsRange forward → Contains (replies_to forward o ats) r → Contains (sales_of r) s → Contains (after forward o ats).sales s
  unfolding after replies_to
  replied_stands forward o [] r s office are range there holds = absurd (omega (arith, there.1))
  replied_stands forward o (at ∷ ats) r s office are range there holds =
      let next = step_keeps_office laws forward o at office (All-head IsStamped at ats are) range in
      let rest = All-tail IsStamped at ats are in
      elim (contains_cases (reply forward o at) r (replies_to forward (step forward o at) ats) there) [
        | inl first ↦
            let stands = All-contains (Contains (step forward o at).sales) (sales_of (reply forward o at)) s (answered_stand forward o at)
            (subst (λ (q : Result Answer Refusal). Contains (sales_of q) s) (sym first) holds) in
            stands_on (step forward o at) (after forward (step forward o at) ats) s (after_grows laws forward (step forward o at) ats next rest range) stands
        | inr further ↦ replied_stands forward (step forward o at) ats r s next rest range further holds
      ]

  -- the requests of a life are stamped
  pub acknowledged_stamped : (life : Life) → IsLife life → All IsStamped (acknowledged life)
  acknowledged_stamped life is = All-map IsStamped (λ (e : Exchange). e.request) _
      (All-filter _ (λ (e : Exchange). IsStamped e.request) life.exchanges is.stamped)

  -- the requests in doubt are stamped too
  pub doubted_stamped : (life : Life) → IsLife life → All IsStamped (in_doubt life)
  doubted_stamped life is = All-map IsStamped (λ (e : Exchange). e.request) _ (All-filter _ (λ (e : Exchange). IsStamped e.request) life.exchanges is.stamped)

  -- a reply that acknowledges is among the acknowledged ones
  exchanged : (exchanges : List Exchange) (r : Result Answer Refusal) → Contains (map (λ (e : Exchange). e.reply) exchanges) r
      → acknowledges r ≡ true → Contains (map (λ (e : Exchange). e.reply) (filter (λ (e : Exchange). acknowledges e.reply) exchanges)) r
  exchanged exchanges r there passes =
      let e = map_source (λ (e : Exchange). e.reply) exchanges r there in
      subst (λ q. Contains (map (λ (e : Exchange). e.reply) (filter (λ (e : Exchange). acknowledges e.reply) exchanges)) q) e.2
      (contains_map (λ (e : Exchange). e.reply) (filter (λ (e : Exchange). acknowledges e.reply) exchanges) e.0
      (kept (λ (e : Exchange). acknowledges e.reply) exchanges e.0 e.1 (ap acknowledges e.2 ∙ passes)))

  module _ (life : Life) (is : IsLife life) (office : IsOffice life.opening) where
    -- the present office of a life is an office
    pub present_office : IsOffice (present life)
    present_office = after_keeps_office laws life.forward life.opening (acknowledged life) office (acknowledged_stamped life is) is.range

    -- what a life may leave is an office
    pub left_office : (o : Office) → MayLeave life o → IsOffice o
    left_office o (inl e) = subst IsOffice (sym e) present_office
    left_office o (inr (at, there, e)) = subst IsOffice (sym e)
        (step_keeps_office laws life.forward (present life) at present_office
        (All-contains IsStamped (in_doubt life) at (doubted_stamped life is) there) is.range)

    -- what a life may leave has grown out of its present office
    pub left_grown : (o : Office) → MayLeave life o → HasGrown (present life) o
    left_grown o (inl e) = subst (λ p. HasGrown (present life) p) (sym e) (grown_none (present life))
    left_grown o (inr (at, there, e)) = subst (λ p. HasGrown (present life) p) (sym e)
        (step_grows laws life.forward (present life) at present_office
        (All-contains IsStamped (in_doubt life) at (doubted_stamped life is) there) is.range)

    -- what a life may leave has grown out of the office that it opened
    pub opening_grown : (o : Office) → MayLeave life o → HasGrown life.opening o
    opening_grown o may = grown_twice life.opening (present life) o
        (after_grows laws life.forward life.opening (acknowledged life) office (acknowledged_stamped life is) is.range) (left_grown o may)

    -- a reply that hands out a sale acknowledges its request
    grants : (r : Result Answer Refusal) (s : Sale) → Contains (sales_of r) s → acknowledges r ≡ true
    grants (Ok answer) s there = refl
    grants (Err refusal) s there = absurd (omega (arith, there.1))

    -- what a life hands out stands in its present office
    handed_present : (s : Sale) → HandsOut life s → Contains (present life).sales s
    handed_present s (inl (r, there, holds)) =
        replied_stands life.forward life.opening (acknowledged life) r s office (acknowledged_stamped life is) is.range
        (subst (λ replies. Contains replies r) is.replies (exchanged life.exchanges r there (grants r s holds))) holds
    handed_present s (inr (n, there)) =
        let are = acknowledged_stamped life is in
        let ats = acknowledged life in
        let begun = after life.forward life.opening (take n ats) in
        let begun_office = after_keeps_office laws life.forward life.opening (take n ats) office (All-take IsStamped n ats are) is.range in
        let e : after life.forward begun (drop n ats) ≡ present life =
        sym (after-append life.forward life.opening (take n ats) (drop n ats)) ∙ ap (λ all. after life.forward life.opening all) (take-append-drop n ats) in
        subst (λ (o : Office). Contains o.sales s) e
        (stands_on begun (after life.forward begun (drop n ats)) s
        (after_grows laws life.forward begun (drop n ats) begun_office (All-drop IsStamped n ats are) is.range) there)

    -- each sale that a life hands out stands in what it may leave
    pub handed_left : (o : Office) (s : Sale) → MayLeave life o → HandsOut life s → Contains o.sales s
    handed_left o s may hands = stands_on (present life) o s (left_grown o may) (handed_present s hands)

  -- along the lives: an office that they may leave is an office
  pub led_office : (start : Office) (lives : List Life) (o : Office) → IsOffice start → LeadTo start lives o → IsOffice o
  led_office start [] o office e = subst IsOffice (sym e) office
  led_office start (life ∷ lives) o office (is, opens, (left, may, leads)) =
      led_office left lives o (left_office life is (subst IsOffice (sym opens) office) left may) leads

  -- what they may leave has grown out of the office that the first of them opened
  pub led_grown : (start : Office) (lives : List Life) (o : Office) → IsOffice start → LeadTo start lives o → HasGrown start o
  led_grown start [] o office e = subst (λ p. HasGrown start p) (sym e) (grown_none start)
  led_grown start (life ∷ lives) o office (is, opens, (left, may, leads)) =
      let opening = subst IsOffice (sym opens) office in
      grown_twice start left o (subst (λ p. HasGrown p left) opens (opening_grown life is opening left may))
      (led_grown left lives o (left_office life is opening left may) leads)

  -- each sale that any of the lives hands out stands in what they may leave
  pub led_stands : (start : Office) (lives : List Life) (o : Office) (s : Sale) → IsOffice start → LeadTo start lives o → IsHanded lives s → Contains o.sales s
  led_stands start [] o s office leads handed = absurd (omega (arith, handed.1.1))
  led_stands start (life ∷ lives) o s office (is, opens, (left, may, leads)) (by, there, hands) =
      let opening = subst IsOffice (sym opens) office in
      let left_is = left_office life is opening left may in
      elim (contains_cases life by lives there) [
        | inl first ↦ stands_on left o s (led_grown left lives o left_is leads)
            (handed_left life is opening left s may (subst (λ l. HandsOut l s) (sym first) hands))
        | inr further ↦ led_stands left lives o s left_is leads (by, further, hands)
      ]

-- a sale that was answered was handed out
pub answered_handed : (lives : List Life) (answer : Answer) (s : Sale) → Answered lives answer → Contains (sales_of (Ok answer)) s → IsHanded lives s
answered_handed lives answer s (life, there, replied) holds = (life, there, inl (Ok answer, replied, holds))
