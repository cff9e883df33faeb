-- The first of some texts that rise are a page.
use Rattle.std.proofs.Common.{◌≡◌, ◌∙◌, ◌<◌, ◌≤◌, ◌⊎◌, inl, inr, ◌↔◌, ℕ, List, length, take, get_or, sym, subst, arith}
use Rattle.std.specs.Prelude.{All, AllPairs, Contains}
use Rattle.std.proofs.lemmas.Bool.{cases_lt}
use Rattle.std.proofs.lemmas.List.{get_or-take, get_or_default, length-take, length-take-le}
use Rattle.std.proofs.lemmas.List.Elements.{All-take, All-weaker}
use Rattle.book_lists.specs.Pages.{AreFirstAfter, ComesBefore, page_size}

module _ (size : ℕ) (ks : List (List ℕ)) (rise : AllPairs ComesBefore ks) where
  no_more : length (take size ks) ≤ size
  no_more = omega (arith, length-take size ks)

  inside : (k : ℕ) → k < length (take size ks) → (k < size) × (k < length ks)
  inside k below = (omega (arith, length-take size ks, below), omega (arith, length-take size ks, below))

  first_rise : AllPairs ComesBefore (take size ks)
  first_rise i j d first within =
      let right = inside j within in
      let left : i < size = omega (arith, first, right.0) in
      subst (λ a. ComesBefore a (get_or (take size ks) j d)) (sym (get_or-take size ks i d left))
      (subst (λ b. ComesBefore (get_or ks i d) b) (sym (get_or-take size ks j d right.0)) (rise i j d first right.1))

  -- one of them is on the page, or the page is full and it comes after all of it
  on_page_or_after : (key : List ℕ) → Contains ks key → Contains (take size ks) key
      ⊎ ((length (take size ks) ≡ size) × All (λ other. ComesBefore other key) (take size ks))
  on_page_or_after key (at, within, is) =
      elim (cases_lt at size) [
        | inl early ↦ inl (at, omega (arith, length-take size ks, early, within), get_or-take size ks at key early ∙ is)
        | inr late ↦ inr (
          length-take-le size ks (omega (arith, late, within)),
          λ k d below.
              let here = inside k below in
              let last = get_or_default ks at d key within ∙ is in
              subst (λ a. ComesBefore a key) (sym (get_or-take size ks k d here.0))
              (subst (λ b. ComesBefore (get_or ks k d) b) last (rise k at d (omega (arith, here.0, late)) within)),
        )
      ]

-- the first of all that come after a text, in the order of their bytes, are a page
pub first_page : (Has : List ℕ → Type 0) (after : List ℕ) (ks : List (List ℕ)) → AllPairs ComesBefore ks
    → All (λ key. Has key × ComesBefore after key) ks → ((key : List ℕ) → Has key → ComesBefore after key → Contains ks key)
    → AreFirstAfter Has after (take page_size ks)
first_page Has after ks rise there whole = record {
  there = All-take (λ key. Has key × ComesBefore after key) page_size ks there;
  in_order = first_rise page_size ks rise;
  few = no_more page_size ks rise;
  whole = λ key has later. on_page_or_after page_size ks rise key (whole key has later);
}

-- a page of the same texts, told otherwise
pub page_of : (P Q : List ℕ → Type 0) → ((key : List ℕ) → P key ↔ Q key) → (after : List ℕ) (page : List (List ℕ))
    → AreFirstAfter P after page → AreFirstAfter Q after page
page_of P Q same after page first = record {
  there = All-weaker (λ key. P key × ComesBefore after key) (λ key. Q key × ComesBefore after key) (λ key has. ((same key).0 has.0, has.1)) page first.there;
  in_order = first.in_order;
  few = first.few;
  whole = λ key has later. first.whole key ((same key).1 has) later;
}
