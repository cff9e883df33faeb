-- Shifts that come after an open one of their operator.
use Rattle.std.proofs.Common.{◌≡◌, ◌<◌, ◌≤◌, ◌+◌, ◌∙◌, true, ℕ, List, Option, None, Some, get_or, take, inl, inr, ap, sym, subst, arith}
use Rattle.std.specs.Prelude.{All, AllPairs, IsSome, is_none, slice_get}
use Rattle.std.proofs.lemmas.Bool.{cases_lt, false≢true}
use Rattle.std.proofs.lemmas.List.{get_or-take, length-take}
use Rattle.std.proofs.lemmas.Option.{get_or_from_slice_get, same_Some, slice_get-get_or, slice_get_within}
use Rattle.vend_core.specs.Law.Reached.{IsClosedFirst}
use Rattle.office_rules.specs.declared.office.shift.Shift.{Shift}
use Rattle.audit_lists.specs.Ties.{IsTieKept}
use Rattle.audit_lists.specs.reached.Finds.{closed_first}
use Rattle.audit_lists.specs.reached.Shifts.{AreClosedFirst, IsAfterOpen}

not_closed : (closed : Option ℕ) → is_none closed ≡ true → IsSome closed → ⊥
not_closed None is some = false≢true some
not_closed (Some moment) is some = false≢true is

module _ (shifts : List Shift) where
  module _ (place : ℕ) where
    -- the shifts before a shift were closed first, where all but the last ones were looked at
    pub all_before : (n end : ℕ) (s : Shift) → AreClosedFirst shifts n end → place < end → place ≤ n → slice_get shifts place ≡ Some s
        → All (λ a. IsClosedFirst a s) (take place shifts)
    all_before n end s closed low far there k d below =
        let long = length-take place shifts in
        let first : k < place = omega (arith, below, long) in
        subst (λ (a : Shift). IsClosedFirst a s) (sym (get_or-take place shifts k d first))
        (closed place s low there k (get_or shifts k d) (omega (arith, first, far)) first (slice_get-get_or shifts k d (omega (arith, below, long))))

    -- one of those before a shift was not
    pub not_all_before : (after : IsAfterOpen shifts place) → ¬ All (λ a. IsClosedFirst a after.shift) (take place shifts)
    not_all_before after all =
        let a = after.earlier in
        let j = after.earlier_place in
        let within = slice_get_within shifts j a after.stands in
        let at : get_or (take place shifts) j a ≡ a = get_or-take place shifts j a after.before ∙ get_or_from_slice_get shifts j a a after.stands in
        not_closed a.closed after.is_open (subst (λ (x : Shift). IsClosedFirst x after.shift) at
        (all j a (let low = after.before in let long = length-take place shifts in omega (arith, low, within, long))) after.operator)

-- each shift after those before it is each pair of them
pub pairs_kept : (shifts : List Shift) → IsTieKept (closed_first shifts) → AllPairs IsClosedFirst shifts
pairs_kept shifts kept i j d below low =
    let last = kept j (get_or shifts j d) (slice_get-get_or shifts j d low) in
    subst (λ (a : Shift). IsClosedFirst a (get_or shifts j d)) (get_or-take j shifts i d below) (last i d (omega (arith, below, low, length-take j shifts)))

-- where of each two shifts the first was closed first, the rule of shifts is kept
pub kept_pairs : (shifts : List Shift) → AllPairs IsClosedFirst shifts → IsTieKept (closed_first shifts)
kept_pairs shifts pairs i s at k d below =
    let low : k < i = omega (arith, below, length-take i shifts) in
    subst (λ (a : Shift). IsClosedFirst a s) (sym (get_or-take i shifts k d low))
    (subst (λ (b : Shift). IsClosedFirst (get_or shifts k d) b) (get_or_from_slice_get shifts i s d at) (pairs k i d low (slice_get_within shifts i s at)))
