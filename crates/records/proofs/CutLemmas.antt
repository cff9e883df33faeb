-- A text is cut in one way in front of the first byte that does not belong to it.
use Rattle.std.proofs.Common.{◌≡◌, ◌≢◌, ◌∙◌, ℕ, ◌<◌, Bool, List, [], ◌∷◌, ◌++◌, length, take, drop, refl, ap, sym, subst, arith, add-zero, get_or-drop, length-drop}
use Rattle.std.specs.Prelude.{All, slice_index}
use Rattle.std.specs.List.{AllByRecursion}
use Rattle.std.proofs.lemmas.List.{take-append-drop, take_all}
use Rattle.std.proofs.lemmas.List.Elements.{recursion_from_All}

module _ (test : ℕ → Bool) (inside outside : Bool) (apart : inside ≢ outside) where
  -- so the fronts are the same, and what follows them
  pub cut : (a b : List ℕ) (c d : ℕ) (x y : List ℕ) → AllByRecursion (λ n. test n ≡ inside) a → AllByRecursion (λ n. test n ≡ inside) b
      → test c ≡ outside → test d ≡ outside → a ++ (c ∷ x) ≡ b ++ (d ∷ y) → (a ≡ b) × (c ∷ x ≡ d ∷ y)
  cut [] [] c d x y la lb u v e = (refl, e)
  cut [] (n ∷ b) c d x y la lb u v e =
      let same : c ≡ n = cc in
      absurd (apart (sym lb.0 ∙ ap test (sym same) ∙ u))
  cut (n ∷ a) [] c d x y la lb u v e =
      let same : n ≡ d = cc in
      absurd (apart (sym la.0 ∙ ap test same ∙ v))
  cut (n ∷ a) (m ∷ b) c d x y la lb u v e =
      let first : n ≡ m = cc in
      let rest : a ++ (c ∷ x) ≡ b ++ (d ∷ y) = cc in
      let same = cut a b c d x y la.1 lb.1 u v rest in
      let others = same.0 in
      (cc, same.1)

  -- a text of such bytes alone is cut nowhere
  pub not_cut : (a b : List ℕ) (d : ℕ) (y : List ℕ) → AllByRecursion (λ n. test n ≡ inside) a → test d ≡ outside → a ≢ b ++ (d ∷ y)
  not_cut [] [] d y la v e = absurd (cc)
  not_cut [] (n ∷ b) d y la v e = absurd (cc)
  not_cut (n ∷ a) [] d y la v e =
      let same : n ≡ d = cc in
      apart (sym la.0 ∙ ap test same ∙ v)
  not_cut (n ∷ a) (m ∷ b) d y la v e =
      let rest : a ≡ b ++ (d ∷ y) = cc in
      not_cut a b d y la.1 v rest

  -- where a text was cut, as any cut of it has it
  pub cut_at : (text rest : List ℕ) (n : ℕ) → All (λ b. test b ≡ inside) (take n text) → (n < length text → test (slice_index text n) ≡ outside)
      → rest ≡ drop n text → (b : List ℕ) (d : ℕ) (x : List ℕ) → AllByRecursion (λ n. test n ≡ inside) b → test d ≡ outside
      → text ≡ b ++ (d ∷ x) → (take n text ≡ b) × (rest ≡ d ∷ x)
  cut_at text rest n before found is b d x lb v e = by_rest (drop n text) refl
    where
      front : AllByRecursion (λ m. test m ≡ inside) (take n text)
      front = recursion_from_All (λ m. test m ≡ inside) (take n text) before

      whole : take n text ++ drop n text ≡ b ++ (d ∷ x)
      whole = take-append-drop n text ∙ e

      by_rest : (r : List ℕ) → r ≡ drop n text → (take n text ≡ b) × (rest ≡ d ∷ x)
      by_rest [] none =
          let all = take_all n text (omega (arith, ap length none, length-drop n text)) in
          absurd (not_cut text b d x (subst (AllByRecursion (λ m. test m ≡ inside)) all front) v e)
      by_rest (c ∷ r) some =
          let within : n < length text = omega (arith, ap length some, length-drop n text) in
          let first : test (slice_index (drop n text) 0) ≡ outside = rw (get_or-drop, add-zero) (found within) in
          let stops : test c ≡ outside = subst (λ (s : List ℕ). test (slice_index s 0) ≡ outside) (sym some) first in
          let same = cut (take n text) b c d r x front lb stops v (ap (λ (s : List ℕ). take n text ++ s) some ∙ whole) in
          (same.0, is ∙ sym some ∙ same.1)
