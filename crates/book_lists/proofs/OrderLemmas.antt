-- Texts in the order of their bytes.
use Rattle.std.proofs.Common.{◌≡◌, ◌≢◌, ◌∙◌, ◌+◌, ◌<◌, ℕ, true, false, List, [], ◌∷◌, map, length, get_or, Less, Equal, Greater, Ordering, is_lt, is_eq, true≢false, refl, sym, ap, ap₂, arith, IsPermutation, IsSorted}
use Rattle.std.specs.Prelude.{AllPairs, bytes_eq}
use Rattle.std.specs.Cmp.Lexicographic.{slice_cmp}
use Rattle.std.specs.Ordering.{nat_cmp, ordering_reverse}
use Rattle.std.proofs.lemmas.Cmp.{nat_list_cmp_total}
use Rattle.std.proofs.lemmas.List.{get_or-map, length-map}
use Rattle.std.proofs.lemmas.List.Sorted.{ranks_by, sorted_far}
use Rattle.std.proofs.lemmas.Map.Keys.{IsDistinct-IsPermutation}
use Rattle.std.proofs.lemmas.Map.Made.{AllPairs-from_IsDistinct, IsDistinct-from_AllPairs}
use Rattle.std.proofs.lemmas.Map.Text.{is_eq-slice_cmp}
use Rattle.std.proofs.lemmas.Slice.Eq.{bytes_eq-Decides}
use Rattle.book_lists.specs.Pages.{ComesBefore}

-- the order of texts by their bytes, as the kit writes it
abbrev pub text_cmp : List ℕ → List ℕ → Ordering
text_cmp = slice_cmp nat_cmp

-- what the order tests
pub is_less : (o : Ordering) → is_lt o ≡ true → o ≡ Less
is_less Less e = refl
is_less Equal e = absurd (true≢false (sym e))
is_less Greater e = absurd (true≢false (sym e))

-- what is another text, and not after this one, is before it
before : (a b : List ℕ) → is_lt (text_cmp b a) ≡ false → a ≢ b → ComesBefore a b
before a b not_after apart = by_order (text_cmp a b) refl
  where
    by_order : (o : Ordering) → text_cmp a b ≡ o → ComesBefore a b
    by_order Less e = e
    by_order Equal e = absurd (apart ((bytes_eq-Decides a b).0 (sym (is_eq-slice_cmp a b) ∙ ap is_eq e)))
    by_order Greater e = absurd (true≢false (sym (ap is_lt (nat_list_cmp_total.antisymm b a ∙ ap ordering_reverse e)) ∙ not_after))

-- texts that do not fall rise where no two are the same
pub texts_rise : (ks : List (List ℕ)) → IsSorted text_cmp ks → AllPairs (λ a b. a ≢ b) ks → AllPairs ComesBefore ks
texts_rise ks sorted apart i j d first within =
    before (get_or ks i d) (get_or ks j d) (sorted_far (λ a b. is_lt (text_cmp a b)) (ranks_by nat_list_cmp_total (λ k. k)) ks sorted i j d
    (omega (arith, first)) within) (apart i j d first within)

-- ---- texts that are keys

module _ {X : Type 0} (key : X → List ℕ) where
  -- what is sorted by something that goes by the keys has its keys sorted
  pub keys_sorted : {Y : Type 0} (out : X → Y) (cmp : Y → Y → Ordering) → ((a b : X) → cmp (out a) (out b) ≡ text_cmp (key a) (key b))
      → (xs : List X) → IsSorted cmp (map out xs) → IsSorted text_cmp (map key xs)
  keys_sorted out cmp tells [] sorted k d from within = absurd (omega (arith, within))
  keys_sorted out cmp tells (x ∷ more) sorted k d from within =
      let xs = x ∷ more in
      let inside : k + 1 < length xs = omega (arith, within, length-map xs key) in
      let here : k < length xs = omega (arith, inside) in
      let later = get_or xs (k + 1) x in
      let first = get_or xs k x in
      let keys : text_cmp (get_or (map key xs) (k + 1) d) (get_or (map key xs) k d) ≡ text_cmp (key later) (key first) =
      ap₂ text_cmp (get_or-map key xs (k + 1) x d inside) (get_or-map key xs k x d here) in
      let outs : cmp (get_or (map out xs) (k + 1) (out x)) (get_or (map out xs) k (out x)) ≡ cmp (out later) (out first) =
      ap₂ cmp (get_or-map out xs (k + 1) x (out x) inside) (get_or-map out xs k x (out x) here) in
      ap is_lt (keys ∙ sym (tells later first) ∙ sym outs) ∙ sorted k (out x) from (omega (arith, inside, length-map xs out))

  -- rows that differ in their keys have keys that differ
  pub keys_apart : (xs : List X) → AllPairs (λ a b. key a ≢ key b) xs → AllPairs (λ a b. a ≢ b) (map key xs)
  keys_apart [] apart i j d first within = absurd (omega (arith, within))
  keys_apart (x ∷ more) apart i j d first within =
      let xs = x ∷ more in
      let right : j < length xs = omega (arith, within, length-map xs key) in
      let left : i < length xs = omega (arith, first, right) in
      λ same. apart i j x first right (sym (get_or-map key xs i x d left) ∙ same ∙ get_or-map key xs j x d right)

reversed : (o : Ordering) → is_eq (ordering_reverse o) ≡ is_eq o
reversed Less = refl
reversed Equal = refl
reversed Greater = refl

bytes_turned : (a b : List ℕ) → bytes_eq a b ≡ bytes_eq b a
bytes_turned a b =
    sym (is_eq-slice_cmp a b) ∙ ap is_eq (nat_list_cmp_total.antisymm a b) ∙ reversed (text_cmp b a) ∙ is_eq-slice_cmp b a

-- texts of which no two are the same, in another order
pub apart_permuted : (xs ys : List (List ℕ)) → IsPermutation xs ys → AllPairs (λ a b. a ≢ b) xs → AllPairs (λ a b. a ≢ b) ys
apart_permuted xs ys same apart =
    AllPairs-from_IsDistinct bytes_eq-Decides ys (IsDistinct-IsPermutation bytes_eq bytes_turned xs ys same
    (IsDistinct-from_AllPairs bytes_eq-Decides xs apart))
