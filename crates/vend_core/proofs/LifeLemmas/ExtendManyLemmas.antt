-- Lives with many exchanges more, what they hand out and leave, and how lives go on.
use Rattle.std.proofs.Common.{◌≡◌, ℕ, inl, inr, List, [], ◌∷◌, ◌++◌, length, min, take, refl, sym, ◌∙◌, ap, subst, arith}
use Rattle.std.specs.Prelude.{All, Contains, filter, map}
use Rattle.std.proofs.Math.Seq.{take-length}
use Rattle.std.proofs.lemmas.List.{append-nil, append_assoc, map-append, take-append-le, take_min}
use Rattle.std.proofs.lemmas.List.Elements.{All-head, All-tail, Contains-append_left, Contains-push}
use Rattle.office_rules.specs.Decision.Fold.{after, replies_to, reply, step}
use Rattle.office_rules.specs.Law.Growth.{HasGrown}
use Rattle.office_rules.specs.Law.Handed.{sales_of}
use Rattle.vend_core.specs.Law.Life.{Exchange, HandsOut, IsLife, LeadTo, Life, MayLeave, acknowledged}
use Rattle.vend_core.specs.Law.LifeLaws.{IsRunning, exchanges_of, extended, extended_along, extended_by, opened}
use Rattle.office_rules.specs.Office.{IsOffice, Office}
use Rattle.office_rules.specs.Decision.Requests.{IsStamped}
use Rattle.office_rules.specs.declared.decision.request.Stamped.{Stamped}
use Rattle.office_rules.specs.declared.office.sale.Sale.{Sale}
use Rattle.vend_core.proofs.LifeLemmas.{handed_left, left_office, opening_grown}
use Rattle.office_rules.proofs.DecisionLemmas.NewSaleLemmas.{LowerLaws}
use Rattle.office_rules.proofs.OfficeLemmas.RowLemmas.{contains_map}
use Rattle.vend_core.proofs.LifeLemmas.ExtendLemmas.{Reply, acknowledged_more, exchange, passes, reply_in, request_of, runs_on}

-- many exchanges are one after another
extended_none : (life : Life) → extended life [] ≡ life
extended_none life =
    ap (λ es. extended (opened life.forward life.opening) es) (append-nil life.exchanges)

extended_twice : (life : Life) (es more : List Exchange)
    → extended (extended life es) more ≡ extended life (es ++ more)
extended_twice life es more =
    ap (λ all. extended (opened life.forward life.opening) all)
    (append_assoc life.exchanges es more)

-- a life with no requests more is the same life
pub along_none : (life : Life) → extended_along life [] [] ≡ life
along_none life = extended_none life

exchanges_push : (ats : List Stamped) (rs : List Reply) (at : Stamped) (r : Reply)
    → length ats ≡ length rs
    → exchanges_of ats rs ++ exchange at r ∷ [] ≡ exchanges_of (ats ++ at ∷ []) (rs ++ r ∷ [])
exchanges_push [] [] at r same = refl
exchanges_push [] (q ∷ rs) at r same = absurd (omega (arith, same))
exchanges_push (a ∷ ats) [] at r same = absurd (omega (arith, same))
exchanges_push (a ∷ ats) (q ∷ rs) at r same =
    ap (λ es. exchange a q ∷ es) (exchanges_push ats rs at r (omega (arith, same)))

-- many requests more and then one are those requests at once
pub along_one : (life : Life) (ats : List Stamped) (rs : List Reply) (at : Stamped) (r : Reply)
    → length ats ≡ length rs
    → extended_by (extended_along life ats rs) at r
    ≡ extended_along life (ats ++ at ∷ []) (rs ++ r ∷ [])
along_one life ats rs at r same = extended_twice life (exchanges_of ats rs) (exchange at r ∷ [])
    ∙ ap (λ es. extended life es) (exchanges_push ats rs at r same)

along_first : (life : Life) (at : Stamped) (ats : List Stamped) (r : Reply) (rs : List Reply)
    → extended_along (extended_by life at r) ats rs ≡ extended_along life (at ∷ ats) (r ∷ rs)
along_first life at ats r rs = extended_twice life (exchange at r ∷ []) (exchanges_of ats rs)

-- a life that goes on still does after many requests that the rules answer
pub runs_along : (life : Life) (o : Office) (ats : List Stamped) → IsRunning life o
    → All IsStamped ats → IsRunning (extended_along life ats (replies_to life.forward o ats))
    (after life.forward o ats)
unfolding after replies_to
runs_along life o [] is stamped = subst (λ l. IsRunning l o) (sym (along_none life)) is
runs_along life o (at ∷ ats) is stamped =
    let forward = life.forward in
    let r = reply forward o at in
    subst (λ l. IsRunning l (after forward (step forward o at) ats))
    (along_first life at ats r (replies_to forward (step forward o at) ats))
    (runs_along (extended_by life at r) (step forward o at) ats
    (runs_on life o at is (All-head IsStamped at ats stamped))
    (All-tail IsStamped at ats stamped))

-- what a life hands out
pub hands_out_reply : (life : Life) (at : Stamped) (r : Reply) (s : Sale) → Contains (sales_of r) s
    → HandsOut (extended_by life at r) s
hands_out_reply life at r s holds =
    inl (
      r,
      contains_map reply_in (life.exchanges ++ exchange at r ∷ []) (exchange at r)
          (Contains-push life.exchanges (exchange at r)),
      holds,
    )

-- a life hands out each sale of its present office
pub hands_out_present : (life : Life) (o : Office) (s : Sale) → IsRunning life o
    → Contains o.sales s → HandsOut life s
hands_out_present life o s is there =
    let ats = acknowledged life in
    inr (
      length ats,
      subst (λ (q : Office). Contains q.sales s)
          (sym is.present ∙ ap (λ begun. after life.forward life.opening begun)
          (sym (take-length ats))) there,
    )

-- a beginning of a list is one of the longer list
begins_longer : (ats more : List Stamped) (n : ℕ)
    → take (min n (length ats)) (ats ++ more) ≡ take n ats
begins_longer ats more n = take-append-le (min n (length ats)) ats more (omega arith)
    ∙ take_min n ats

-- what a life hands out it hands out with one exchange more too
pub hands_out_still : (life : Life) (at : Stamped) (r : Reply) (s : Sale) → HandsOut life s
    → HandsOut (extended_by life at r) s
hands_out_still life at r s (inl (q, there, holds)) =
    inl (
      q,
      subst (λ rs. Contains rs q)
          (sym (map-append reply_in life.exchanges (exchange at r ∷ [])))
          (Contains-append_left (map reply_in life.exchanges) (r ∷ []) q there),
      holds,
    )
hands_out_still life at r s (inr (n, there)) =
    let ats = acknowledged life in
    let more = exchange at r ∷ [] in
    let same = ap (λ all. take (min n (length ats)) all) (acknowledged_more life more)
    ∙ begins_longer ats (map request_of (filter passes more)) n in
    inr (
      min n (length ats),
      subst (λ begun. Contains (after life.forward life.opening begun).sales s) (sym same) there,
    )

-- what a life leaves, and lives that go on
pub left_is : LowerLaws → (life : Life) (o : Office) → IsLife life → IsOffice life.opening
    → MayLeave life o → IsOffice o × HasGrown life.opening o
left_is laws life o is office may =
    (left_office laws life is office o may, opening_grown laws life is office o may)

-- a sale that a life hands out stands in what it may leave
pub handed_is : LowerLaws → (life : Life) (o : Office) (s : Sale) → IsLife life
    → IsOffice life.opening → MayLeave life o → HandsOut life s → Contains o.sales s
handed_is laws life o s is office may hands = handed_left laws life is office o s may hands

-- lives that open what others may leave go on where those ended
pub led_through : (start : Office) (earlier later : List Life) (middle o : Office)
    → LeadTo start earlier middle → LeadTo middle later o → LeadTo start (earlier ++ later) o
led_through start [] later middle o e lead = subst (λ p. LeadTo p later o) e lead
led_through start (life ∷ earlier) later middle o (is, opens, (left, may, leads)) lead =
    (is, opens, (left, may, led_through left earlier later middle o leads lead))

-- a life that opens what lives may leave is one more of them
pub led_on : (start : Office) (lives : List Life) (life : Life) (o p : Office)
    → LeadTo start lives o → IsLife life → life.opening ≡ o → MayLeave life p
    → LeadTo start (lives ++ life ∷ []) p
led_on start lives life o p lead is opens may =
    led_through start lives (life ∷ []) o p lead (is, opens, (p, may, refl))
