-- Ends that rise, one end at a time.
use Rattle.std.proofs.Common.{◌≡◌, ℕ, zero, suc, ◌+◌, ◌^◌, ◌<◌, ◌≤◌, List, [], ◌∷◌, Option, Some, None, length, get_or, take, drop, sym, ap, subst, add-one, arith}
use Rattle.std.specs.Prelude.{All, IfSome}
use Rattle.std.specs.List.{cons_option}
use Rattle.std.specs.List.Sorted.{IsStrictlyIncreasing}
use Rattle.std.proofs.lemmas.List.{drop_all, drop_more, take_all}
use Rattle.std.proofs.lemmas.List.Elements.{All-more, All-nil}
use Rattle.tariff.specs.declared.step.Step.{Step}
use Rattle.tariff.specs.Steps.{EndFits, IsRising, IsSteps, ends_of}
use Rattle.tariff.specs.StepsText.{IsWritable}

-- the ends rise from low on
pub record Rises (low : ℕ) (ends : List ℕ) : Type 0 where
  pub each : IsStrictlyIncreasing (low ∷ ends)

-- where no end is left, the ends rise
pub rises_nil : (low : ℕ) → Rises low []
rises_nil low = record { each = λ k h. absurd (omega arith) }

cons_at : (low e : ℕ) (es : List ℕ) → low < e → Rises e es → (k : ℕ) → k + 1 < length (low ∷ e ∷ es)
    → get_or (low ∷ e ∷ es) k 0 < get_or (low ∷ e ∷ es) (k + 1) 0
cons_at low e es above r zero h = above
cons_at low e es above r (suc k) h = let at : get_or (e ∷ es) k 0 < get_or (e ∷ es)
    (k + 1) 0 = r.each k (omega arith) in rw add-one (rw add-one at at)

-- an end above low, and ends that rise from it, rise from low
pub rises_cons : (low e : ℕ) (es : List ℕ) → low < e → Rises e es → Rises low (e ∷ es)
rises_cons low e es above r = record { each = cons_at low e es above r }

-- of ends that rise from low, the first is above low
pub rises_head : (low e : ℕ) (es : List ℕ) → Rises low (e ∷ es) → low < e
rises_head low e es r = r.each 0 (omega arith)

-- and the later ones rise from the first
pub rises_tail : (low e : ℕ) (es : List ℕ) → Rises low (e ∷ es) → Rises e es
rises_tail low e es r =
    record { each = λ k h. rw add-one (rw add-one at (r.each (suc k) (omega arith))) }

-- a step without an end leaves the ends that are left as they are
pub ends_of-drop_none : (steps : List Step) (i : ℕ) (d : Step) → i < length steps
    → (get_or steps i d).ends ≡ None → ends_of (drop i steps) ≡ ends_of (drop (i + 1) steps)
ends_of-drop_none steps i d within none =
    rw (drop_more steps i d within) (ap (λ o. cons_option o (ends_of (drop (i + 1) steps))) none)

-- a step with an end has the first of those that are left
pub ends_of-drop_some : (steps : List Step) (i : ℕ) (d : Step) (e : ℕ) → i < length steps
    → (get_or steps i d).ends ≡ Some e → ends_of (drop i steps) ≡ e ∷ ends_of (drop (i + 1) steps)
ends_of-drop_some steps i d e within some =
    rw (drop_more steps i d within) (ap (λ o. cons_option o (ends_of (drop (i + 1) steps))) some)

-- all rise exactly where the ends from step i on rise from low
pub record IsLeft (steps : List Step) (low i : ℕ) : Type 0 where
  pub to : IsRising steps → Rises low (ends_of (drop i steps))
  pub from : Rises low (ends_of (drop i steps)) → IsRising steps

-- at the start all ends are left, from 0 on
pub is_left_start : (steps : List Step) → IsLeft steps 0 0
is_left_start steps = record { to = λ r. record { each = r }; from = λ r. r.each }

-- a step without an end is passed, and the same ends are left
pub is_left_none : (steps : List Step) (low i : ℕ) (d : Step) → i < length steps
    → (get_or steps i d).ends ≡ None → IsLeft steps low i → IsLeft steps low (i + 1)
is_left_none steps low i d within none left =
    let same = ends_of-drop_none steps i d within none in
    record { to = λ r. subst (Rises low) same (left.to r); from = λ r. left.from (subst (Rises low) (sym same) r) }

-- a step whose end is above low is passed, and those that are left must rise from it
pub is_left_some : (steps : List Step) (low i e : ℕ) (d : Step) → i < length steps
    → (get_or steps i d).ends ≡ Some e → low < e → IsLeft steps low i → IsLeft steps e (i + 1)
is_left_some steps low i e d within some above left =
    let next = ends_of-drop_some steps i d e within some in
    record {
      to = λ r. rises_tail low e _ (subst (Rises low) next (left.to r));
      from = λ r. left.from (subst (Rises low) (sym next) (rises_cons low e _ above r));
    }

-- an end that is not above the one before it
pub is_left_stop : (steps : List Step) (low i e : ℕ) (d : Step) → i < length steps
    → (get_or steps i d).ends ≡ Some e → e ≤ low → IsLeft steps low i → ¬ IsRising steps
is_left_stop steps low i e d within some below left = λ r. omega (
  arith,
  below,
  rises_head low e _
      (subst (Rises low) (ends_of-drop_some steps i d e within some) (left.to r)),
)

-- all steps are passed, so all ends rise
pub is_left_end : (steps : List Step) (low i : ℕ) → length steps ≤ i → IsLeft steps low i
    → IsRising steps
is_left_end steps low i all left =
    left.from (subst (Rises low) (ap ends_of (sym (drop_all i steps all))) (rises_nil low))

-- of no steps all ends fit
pub ends_fit_start : (steps : List Step) → All EndFits (take 0 steps)
ends_fit_start steps = All-nil EndFits

-- one more step without an end, and all ends so far fit
pub ends_fit_none : (steps : List Step) (i : ℕ) (d : Step) → i < length steps
    → (get_or steps i d).ends ≡ None → All EndFits (take i steps) → All EndFits (take (i + 1) steps)
ends_fit_none steps i d within none fit = All-more EndFits steps i d within fit
    (subst (λ (o : Option ℕ). IfSome o (λ e. e < 2 ^ 32)) (sym none) tt)

-- one more step whose end has 32 bits, and all ends so far fit
pub ends_fit_some : (steps : List Step) (i e : ℕ) (d : Step) → i < length steps
    → (get_or steps i d).ends ≡ Some e → e < 2 ^ 32 → All EndFits (take i steps)
    → All EndFits (take (i + 1) steps)
ends_fit_some steps i e d within some small fit = All-more EndFits steps i d within fit
    (subst (λ (o : Option ℕ). IfSome o (λ e. e < 2 ^ 32)) (sym some) small)

-- all steps are passed, so all ends fit
pub ends_fit_all : (steps : List Step) (i : ℕ) → length steps ≤ i → All EndFits (take i steps)
    → All EndFits steps
ends_fit_all steps i all fit = subst (All EndFits) (take_all i steps all) fit

-- the numbers of a tariff's steps can be written
pub writable_from_steps : (steps : List Step) → IsSteps steps → All IsWritable steps
writable_from_steps steps s =
    λ k d there. (s.ends_fit k d there, omega (arith, (s.prices k d there).1))
