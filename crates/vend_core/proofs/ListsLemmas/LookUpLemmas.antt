-- One element more, in a scan for the greatest number and for the sum of what passes a test.
use Rattle.std.proofs.Common.{◌≡◌, ℕ, zero, suc, ◌+◌, ◌<◌, ◌≤◌, Bool, true, false, cond, List, [], ◌∷◌, ◌++◌, Option, Some, None, length, get_or, take, filter, map, max, unwrap_or, sum_by, refl, sym, ◌∙◌, ap, arith}
use Rattle.std.proofs.lemmas.List.{append-nil, map-append}
use Rattle.std.proofs.lemmas.List.Elements.{filter_more}
use Rattle.std.proofs.lemmas.List.Sums.{sum_by-append}
use Rattle.std.proofs.lemmas.Option.{same_Some}
use Rattle.std.specs.Option.{ForSome, option_or}
use Rattle.tariff.specs.declared.step.Step.{Step}
use Rattle.office_rules.specs.Office.Lookup.{greatest_of, latest}
use Rattle.office_rules.proofs.StoreLemmas.SumLemmas.{greatest_of-push}

module _ {X : Type 0} (f : X → ℕ) (p : X → Bool) (xs : List X) (i : ℕ) (x : X) (below : i < length xs) (read : x ≡ get_or xs i x) where
  -- what passes so far, and the next element where that passes
  filter_more_in : p x ≡ true → filter p (take (i + 1) xs) ≡ filter p (take i xs) ++ x ∷ []
  filter_more_in passes =
      filter_more p xs i x below
      ∙ ap (λ (y : X). filter p (take i xs) ++ cond (p y) (y ∷ []) []) (sym read)
      ∙ ap (λ (b : Bool). filter p (take i xs) ++ cond b (x ∷ []) []) passes

  filter_more_out : p x ≡ false → filter p (take (i + 1) xs) ≡ filter p (take i xs)
  filter_more_out fails =
      filter_more p xs i x below
      ∙ ap (λ (y : X). filter p (take i xs) ++ cond (p y) (y ∷ []) []) (sym read)
      ∙ ap (λ (b : Bool). filter p (take i xs) ++ cond b (x ∷ []) []) fails
      ∙ append-nil (filter p (take i xs))

  -- where the next element passes, the greatest so far is the greater of the two
  pub greatest_more_in : p x ≡ true
      → greatest_of (map f (filter p (take (i + 1) xs))) ≡ Some (max (unwrap_or (greatest_of (map f (filter p (take i xs)))) 0) (f x))
  greatest_more_in passes =
      ap (λ (l : List X). greatest_of (map f l)) (filter_more_in passes)
      ∙ ap greatest_of (map-append f (filter p (take i xs)) (x ∷ []))
      ∙ greatest_of-push (map f (filter p (take i xs))) (f x)

  -- where the next element does not pass, the greatest so far stays
  pub greatest_more_out : p x ≡ false
      → greatest_of (map f (filter p (take (i + 1) xs))) ≡ greatest_of (map f (filter p (take i xs)))
  greatest_more_out fails = ap (λ (l : List X). greatest_of (map f l)) (filter_more_out fails)

  -- where the next element passes, the sum so far grows by it
  pub sum_more_in : p x ≡ true → sum_by f (filter p (take (i + 1) xs)) ≡ sum_by f (filter p (take i xs)) + f x
  sum_more_in passes =
      let at_end : sum_by f (filter p (take i xs) ++ x ∷ []) ≡ sum_by f (filter p (take i xs)) + sum_by f (x ∷ []) =
      sum_by-append f (filter p (take i xs)) (x ∷ []) in
      ap (λ (l : List X). sum_by f l) (filter_more_in passes) ∙ omega (arith, at_end)

  -- where the next element does not pass, the sum so far stays
  pub sum_more_out : p x ≡ false → sum_by f (filter p (take (i + 1) xs)) ≡ sum_by f (filter p (take i xs))
  sum_more_out fails = ap (λ (l : List X). sum_by f l) (filter_more_out fails)

-- the greatest so far stays within a bound
pub greatest_within : (o r : Option ℕ) (t bound : ℕ) → ForSome o (λ k. k ≤ bound) → t ≤ bound → r ≡ Some (max (unwrap_or o 0) t)
    → ForSome r (λ k. k ≤ bound)
greatest_within None r t bound before next is =
    λ x at. let e : max 0 t ≡ x = same_Some (max 0 t) x (sym is ∙ at) in omega arith
greatest_within (Some k) r t bound before next is =
    λ x at. let e : max k t ≡ x = same_Some (max k t) x (sym is ∙ at) in let k_within : k ≤ bound = before k refl in omega arith

-- the latest steps: those of the day, or else those of the day before
pub latest-here : (dated : ℕ → Option (List Step)) (day : ℕ) (steps : List Step) → dated day ≡ Some steps → latest dated day ≡ Some steps
unfolding latest
latest-here dated zero steps is = is
latest-here dated (suc day) steps is = ap (λ (o : Option (List Step)). option_or o (latest dated day)) is

-- where a day has none, the latest steps are those of the day before
pub latest-before : (dated : ℕ → Option (List Step)) (day before : ℕ) → day ≡ before + 1 → dated day ≡ None → latest dated day ≡ latest dated before
unfolding latest
latest-before dated zero before next none = absurd (omega (arith, next))
latest-before dated (suc day) before next none =
    let same : day ≡ before = omega (arith, next) in
    ap (λ (o : Option (List Step)). option_or o (latest dated day)) none ∙ ap (latest dated) same

-- on the first day of all the latest steps are those of that day
pub latest-first : (dated : ℕ → Option (List Step)) (day : ℕ) → day ≡ 0 → latest dated day ≡ dated day
unfolding latest
latest-first dated day first = ap (latest dated) first ∙ sym (ap dated first)
