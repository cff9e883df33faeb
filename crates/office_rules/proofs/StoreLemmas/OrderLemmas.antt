-- Sales by number: a list of them is told by which ones it has, and those above a number are the
-- last ones.
use Rattle.std.proofs.Common.{◌≡◌, ℕ, ◌+◌, ◌-◌, ◌<◌, ◌↔◌, inl, inr, List, [], ◌∷◌, ◌++◌, length, get_or, drop, take, Some, refl, sym, ◌∙◌, ap, subst, arith, add-one}
use Rattle.std.specs.Prelude.{◌==◌, AllPairs, Contains, filter, nat_lt}
use Rattle.std.proofs.lemmas.Bool.{cases_lt}
use Rattle.std.proofs.lemmas.Bool.Decides.{Decides-eqb, nat_tests}
use Rattle.std.proofs.lemmas.List.{get_or-drop, length-drop}
use Rattle.std.proofs.lemmas.List.Elements.{Contains-append_left, Contains-get_or, Contains-push, Contains-push_cases}
use Rattle.std.proofs.lemmas.List.Kept.{AllPairs-filter}
use Rattle.std.proofs.lemmas.Option.{slice_get-get_or}
use Rattle.office_rules.specs.Office.Lookup.{sales_of_shift}
use Rattle.office_rules.specs.Office.{AreNumbered, IsOffice, Office}
use Rattle.office_rules.specs.Law.Store.{AreByNumber, HasOneSaleMore, sales_above}
use Rattle.office_rules.specs.declared.office.sale.Sale.{Sale}
use Rattle.office_rules.proofs.OfficeLemmas.RowLemmas.{contains_cases, contains_first, contains_further, kept, kept_from, number_within, pairs_push, same_number}

module _ {X : Type 0} (number : X → ℕ) where
  -- rows of which each has a smaller number than all that follow it
  abbrev pub AreRising : List X → Type 0
  AreRising xs = AllPairs (λ a b. number a < number b) xs

  -- the first of a rising list is below each later one, and the later ones rise
  first_below : (x : X) (xs : List X) → AreRising (x ∷ xs) → (y : X) → Contains xs y
      → number x < number y
  first_below x xs rising y there =
      let e = rising 0 (there.0 + 1) y (omega arith) (omega (arith, there.1)) in
      let is : get_or (x ∷ xs) (there.0 + 1) y ≡ y = rw add-one there.2 in
      subst (λ z. number x < number z) is e

  later_rise : (x : X) (xs : List X) → AreRising (x ∷ xs) → AreRising xs
  later_rise x xs rising i j d before within =
      let e = rising (i + 1) (j + 1) d (omega arith) (omega arith) in simp add-one at e

  same_first : (x y : X) (xs ys : List X) → AreRising (x ∷ xs) → AreRising (y ∷ ys)
      → Contains (y ∷ ys) x → Contains (x ∷ xs) y → x ≡ y
  same_first x y xs ys x_rise y_rise x_there y_there =
      elim (contains_cases y x ys x_there) [
        | inl same ↦ sym same
        | inr x_later ↦ elim (contains_cases x y xs y_there) [
          | inl same ↦ same
          | inr y_later ↦ absurd
              (omega (arith, first_below x xs x_rise y y_later, first_below y ys y_rise x x_later))
        ]
      ]

  -- what a list has beside its first one
  beside_first : (x y : X) (xs ys : List X) → AreRising (x ∷ xs) → x ≡ y
      → ((z : X) → Contains (x ∷ xs) z → Contains (y ∷ ys) z) → (z : X) → Contains xs z
      → Contains ys z
  beside_first x y xs ys x_rise same has z there =
      elim (contains_cases y z ys (has z (contains_further x z xs there))) [
        | inl first ↦
            let e : number x ≡ number z = ap number (same ∙ first) in
            absurd (omega (arith, first_below x xs x_rise z there, e))
        | inr later ↦ later
      ]

  -- rising lists of the same elements are one
  pub same_rising : (xs ys : List X) → AreRising xs → AreRising ys
      → ((z : X) → Contains xs z → Contains ys z) → ((z : X) → Contains ys z → Contains xs z)
      → xs ≡ ys
  same_rising [] [] x_rise y_rise to from = refl
  same_rising [] (y ∷ ys) x_rise y_rise to from =
      absurd (omega (arith, (from y (contains_first y ys)).1))
  same_rising (x ∷ xs) [] x_rise y_rise to from =
      absurd (omega (arith, (to x (contains_first x xs)).1))
  same_rising (x ∷ xs) (y ∷ ys) x_rise y_rise to from =
      let same = same_first x y xs ys x_rise y_rise (to x (contains_first x xs))
      (from y (contains_first y ys)) in
      let rest = same_rising xs ys (later_rise x xs x_rise) (later_rise y ys y_rise)
      (beside_first x y xs ys x_rise same to) (beside_first y x ys xs y_rise (sym same) from) in
      cc

  -- numbered rows rise, and so do those further on
  pub numbered_rise : (xs : List X) → AreNumbered number xs → AreRising xs
  numbered_rise xs numbered i j d before within =
      let a = numbered i (get_or xs i d) (slice_get-get_or xs i d (omega arith)) in
      let b = numbered j (get_or xs j d) (slice_get-get_or xs j d within) in
      omega (arith, a, b)

  drop_rises : (n : ℕ) (xs : List X) → AreRising xs → AreRising (drop n xs)
  drop_rises n xs rising i j d before within =
      let e = rising (n + i) (n + j) d (omega arith) (omega (arith, length-drop n xs)) in
      subst (λ a. number a < number (get_or (drop n xs) j d)) (sym (get_or-drop n xs i d))
      (subst (λ b. number (get_or xs (n + i) d) < number b) (sym (get_or-drop n xs j d)) e)

  -- the rows above a number are those after so many
  rows_above : (xs : List X) (n : ℕ) → AreNumbered number xs
      → filter (λ x. nat_lt n (number x)) xs ≡ drop n xs
  rows_above xs n numbered =
      let rise = numbered_rise xs numbered in
      same_rising (filter (λ x. nat_lt n (number x)) xs) (drop n xs)
      (AllPairs-filter (λ a b. number a < number b) (λ x. nat_lt n (number x)) xs rise)
      (drop_rises n xs rise)
      (λ z there.
      let from = kept_from (λ x. nat_lt n (number x)) xs z there in
      let place = numbered from.0.0 z
      (slice_get-get_or xs from.0.0 z from.0.1 ∙ ap Some from.0.2) in
      let above : n < number z = grind (arith, nat_tests, from.1) in
      let i : n + (from.0.0 - n) ≡ from.0.0 = omega (arith, place) in (
        from.0.0 - n,
        omega (arith, length-drop n xs, from.0.1, place),
        get_or-drop n xs (from.0.0 - n) z ∙ ap (λ k. get_or xs k z) i ∙ from.0.2,
      ))
      (λ z there.
      let within : n + there.0 < length xs = omega (arith, length-drop n xs, there.1) in
      let is : get_or xs (n + there.0) z ≡ z = sym (get_or-drop n xs there.0 z) ∙ there.2 in
      let place = numbered (n + there.0) z
      (slice_get-get_or xs (n + there.0) z within ∙ ap Some is) in
      kept (λ x. nat_lt n (number x)) xs z (n + there.0, within, is)
      (let above : n < number z = omega (arith, place) in grind (arith, nat_tests)))

abbrev number_of : Sale → ℕ
number_of s = s.number

-- a shift's sales, in the order of their numbers, are those that are looked up
pub sales_of_shift_are : (o : Office) (number : ℕ) (sales : List Sale) → IsOffice o
    → AreByNumber o (λ s. s.shift ≡ number) sales ↔ (sales ≡ sales_of_shift o number)
sales_of_shift_are o number sales office =
    let test = λ (s : Sale). s.shift == number in
    let rise = AllPairs-filter (λ (a : Sale) (b : Sale). a.number < b.number) test o.sales
    (numbered_rise number_of o.sales office.sale_numbers) in
    let them : AreByNumber o (λ s. s.shift ≡ number) (sales_of_shift o number) = record {
      in_order = rise;
      members = λ s. (
        λ there. let from = kept_from test o.sales s there in
            (from.0, (Decides-eqb s.shift number).0 from.1),
        λ is. kept test o.sales s is.0 ((Decides-eqb s.shift number).1 is.1),
      );
    } in (
      λ are. same_rising number_of sales (sales_of_shift o number) are.in_order rise
          (λ s there. (them.members s).1 ((are.members s).0 there))
          (λ s there. (are.members s).1 ((them.members s).0 there)),
      λ e. subst (AreByNumber o (λ s. s.shift ≡ number)) (sym e) them,
    )

-- the sales above a number, up to a limit, are the first ones after that many
pub sales_above_are : (o : Office) (number limit : ℕ) → IsOffice o
    → sales_above o number limit ≡ take limit (drop number o.sales)
sales_above_are o number limit office =
    ap (λ sales. take limit sales) (rows_above number_of o.sales number office.sale_numbers)

-- the sales of an office that has one more, whatever their order: the new one is the last
module _ (o p : Office) (s : Sale) (office : IsOffice o) (later : IsOffice p)
    (more : HasOneSaleMore o s p) where
  still_there : (t : Sale) → Contains o.sales t → Contains p.sales t
  still_there t there = (more.members t).1 (inl there)

  s_there : Contains p.sales s
  s_there = (more.members s).1 (inr refl)

  -- the number of the new one is of no sale before it
  none_of_its_number : (t : Sale) → Contains o.sales t → number_of t ≡ number_of s → ⊥
  none_of_its_number t there same =
      let e : t ≡ s = same_number number_of p.sales t s later.sale_numbers (still_there t there)
      s_there same in
      more.new (subst (λ u. Contains o.sales u) e there)

  number_past : length o.sales < number_of s
  number_past =
      let from_one = (number_within number_of p.sales s later.sale_numbers s_there).0 in
      elim (cases_lt (length o.sales) (number_of s)) [
        | inl past ↦ past
        | inr within ↦
            let i = number_of s - 1 in
            let t = get_or o.sales i s in
            let below : i < length o.sales = omega (arith, within, from_one) in
            let place = office.sale_numbers i t (slice_get-get_or o.sales i s below) in
            absurd (none_of_its_number t (Contains-get_or o.sales i s below)
            (omega (arith, place, from_one)))
      ]

  pushed_rise : AreRising number_of (o.sales ++ s ∷ [])
  pushed_rise =
      pairs_push (λ (a : Sale) (b : Sale). number_of a < number_of b) o.sales s
      (numbered_rise number_of o.sales office.sale_numbers)
      (λ t there. omega
      (arith, number_past, (number_within number_of o.sales t office.sale_numbers there).1))

  -- the later office has the sales of the earlier one, and the new one at the end
  pub sales_with_one_more : p.sales ≡ o.sales ++ s ∷ []
  sales_with_one_more =
      same_rising number_of p.sales (o.sales ++ s ∷ [])
      (numbered_rise number_of p.sales later.sale_numbers) pushed_rise
      (λ t there. elim ((more.members t).0 there) [
        | inl before ↦ Contains-append_left o.sales (s ∷ []) t before
        | inr new ↦ subst (λ u. Contains (o.sales ++ s ∷ []) u) (sym new) (Contains-push o.sales s)
      ])
      (λ t there. elim (Contains-push_cases o.sales s t there) [
        | inl before ↦ still_there t before
        | inr new ↦ subst (λ u. Contains p.sales u) new s_there
      ])
