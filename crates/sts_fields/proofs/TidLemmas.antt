-- The identifier that `fresh_after` computes is the fresh one, and a sale has one outcome.
use Rattle.std.proofs.Common.{◌≡◌, ℕ, ◌+◌, ◌<◌, ◌≤◌, ◌↔◌, Bool, true, false, cond, ltb, List, Option, Some, None, Result, Ok, Err, length, max, refl, ap, subst, arith}
use Rattle.std.specs.Prelude.{All, Contains}
use Rattle.std.proofs.lemmas.Bool.Decides.{nat_tests}
use Rattle.sts_fields.specs.declared.fault.TidFault.{TidFault}
use Rattle.sts_fields.specs.declared.fault.TidFault.TheVariants.{BeforeBase, PastEnd, IdentifiersSpent, IdentifierAhead}
use Rattle.sts_fields.specs.Tid.{FreshOutcome, IsFresh, IsLast, IsReserved, MaySell, above, fresh_after, greatest_lead, last_tid, unreserved}

-- t may be sold but for the range, and whatever may be sold is not below it
record IsLowest (used : List ℕ) (now t : ℕ) : Type 0 where
  not_past : now ≤ t
  from_two : 2 ≤ t
  not_reserved : ¬ IsReserved t
  above_used : All (λ u. u < t) used
  least : (s : ℕ) → MaySell used now s → t ≤ s

unreserved-ge : (t : ℕ) → t ≤ unreserved t
unreserved-ge t = grind (arith, nat_tests)

unreserved-not_reserved : (t : ℕ) → ¬ IsReserved (unreserved t)
unreserved-not_reserved t = grind (arith, nat_tests)

unreserved-least : (t s : ℕ) → t ≤ s → ¬ IsReserved s → unreserved t ≤ s
unreserved-least t s h n = grind (arith, nat_tests)

-- what is above all is above each
contained_below : (used : List ℕ) (u s : ℕ) → Contains used u → All (λ v. v < s) used → u < s
contained_below used u s there below = subst (λ (v : ℕ). v < s) there.2 (below there.0 u there.1)

lowest : (used : List ℕ) (now : ℕ) (last : Option ℕ) → IsLast used last
    → IsLowest used now (unreserved (above now last))
lowest used now None i =
    let ge = unreserved-ge (max now 2) in
    record {
      not_past = omega arith;
      from_two = omega arith;
      not_reserved = unreserved-not_reserved (max now 2);
      above_used = λ k d h. absurd (omega (arith, ap length i));
      least = λ s may. unreserved-least (max now 2) s
          (omega (arith, may.not_past, may.from_two)) may.not_reserved;
    }
lowest used now (Some last) i =
    let t = max (max now 2) (last + 1) in
    let ge : t ≤ unreserved t = unreserved-ge t in
    record {
      not_past = omega arith;
      from_two = omega arith;
      not_reserved = unreserved-not_reserved t;
      above_used = λ k d h. omega (arith, i.1 k d h);
      least = λ s may. unreserved-least t s
          (omega (
            arith,
            may.not_past,
            may.from_two,
            contained_below _ _ s i.0 may.above_used,
          )) may.not_reserved;
    }

fresh_from_lowest : (used : List ℕ) (now t : ℕ) → IsLowest used now t → t ≤ last_tid
    → IsFresh used now t
fresh_from_lowest used now t low within =
    record {
      may_sell = record { not_past = low.not_past; from_two = low.from_two; not_reserved = low.not_reserved; above_used = low.above_used; within = within };
      least = low.least;
    }

outcome_of_lowest : (used : List ℕ) (now t : ℕ) (spent ahead : Bool) → IsLowest used now t
    → spent ≡ ltb last_tid t → ahead ≡ ltb (now + greatest_lead) t
    → FreshOutcome used now
    (cond spent (Err IdentifiersSpent) (cond ahead (Err IdentifierAhead) (Ok t)))
outcome_of_lowest used now t true ahead low s a =
    λ u may. let least = low.least u may in let within = may.within in grind (arith, nat_tests)
outcome_of_lowest used now t false true low s a =
    (t, fresh_from_lowest used now t low (grind (arith, nat_tests)), grind (arith, nat_tests))
outcome_of_lowest used now t false false low s a =
    (fresh_from_lowest used now t low (grind (arith, nat_tests)), grind (arith, nat_tests))

-- what `fresh_after` computes from the greatest identifier sold is what a sale gets
pub fresh_after_is : (used : List ℕ) (now : ℕ) (last : Option ℕ) → IsLast used last
    → FreshOutcome used now (fresh_after now last)
fresh_after_is used now last i = outcome_of_lowest used now _ _ _ (lowest used now last i) refl refl

-- the outcome is this refusal exactly where its reason holds
pub spent_iff : (used : List ℕ) (now : ℕ) (r : Result ℕ TidFault) → FreshOutcome used now r
    → (r ≡ Err IdentifiersSpent) ↔ ((t : ℕ) → ¬ MaySell used now t)
spent_iff used now (Ok t) o = (λ e. cc, λ none. absurd (none t o.0.may_sell))
spent_iff used now (Err IdentifiersSpent) o = (λ e. o, λ none. refl)
spent_iff used now (Err IdentifierAhead) o = (λ e. cc, λ none. absurd (none o.0 o.1.may_sell))
spent_iff used now (Err BeforeBase) o = absurd o
spent_iff used now (Err PastEnd) o = absurd o

fresh_once : (used : List ℕ) (now s t : ℕ) → IsFresh used now s → IsFresh used now t → s ≡ t
fresh_once used now s t f g = omega (arith, f.least t g.may_sell, g.least s f.may_sell)

-- a sale is refused as ahead exactly where the fresh identifier lies too far past now
pub ahead_iff : (used : List ℕ) (now : ℕ) (r : Result ℕ TidFault) → FreshOutcome used now r
    → (r ≡ Err IdentifierAhead) ↔ ((t : ℕ) × IsFresh used now t × (now + greatest_lead < t))
ahead_iff used now (Ok t) o =
    (λ e. cc, λ a. absurd (omega (arith, a.2, o.1, fresh_once used now _ _ o.0 a.1)))
ahead_iff used now (Err IdentifiersSpent) o = (λ e. cc, λ a. absurd (o a.0 a.1.may_sell))
ahead_iff used now (Err IdentifierAhead) o = (λ e. o, λ a. refl)
ahead_iff used now (Err BeforeBase) o = absurd o
ahead_iff used now (Err PastEnd) o = absurd o
