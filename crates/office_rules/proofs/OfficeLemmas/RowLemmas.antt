-- Rows in a list: what a look-up finds, rows that are numbered, and pairs of rows.
use Rattle.std.proofs.Common.{◌≡◌, ℕ, zero, suc, ◌+◌, ◌<◌, ◌≤◌, ◌⊎◌, inl, inr, Bool, true, false, cond, List, [], ◌∷◌, ◌++◌, length, get_or, Option, Some, None, refl, sym, ◌∙◌, ap, subst, arith, add-one}
use Rattle.std.specs.Prelude.{◌&&◌, All, AllPairs, Contains, find, filter, map, option_map, slice_get}
use Rattle.std.proofs.lemmas.Bool.{cases_lt, false≢true}
use Rattle.std.proofs.lemmas.List.{get_or-map, length-map, length_push, get_or_push, get_or_append_left, get_or_default}
use Rattle.std.proofs.lemmas.List.Elements.{All-cons, All-contains, All-contains_itself, Contains-get_or, All-filter, All-nil, filter_passes}
use Rattle.std.proofs.lemmas.List.Quantifiers.{all_pairs_push}
use Rattle.std.proofs.lemmas.Option.{slice_get-get_or, slice_get_within, slice_get-map, get_or_from_slice_get, same_Some}
use Rattle.office_rules.specs.Office.{AreNumbered, IsBefore, IsOffice, Office}
use Rattle.office_rules.specs.declared.office.sale.Sale.{Sale}

-- the first row, and one further on
pub contains_first : {X : Type 0} (x : X) (xs : List X) → Contains (x ∷ xs) x
contains_first x xs = (0, omega arith, refl)

-- what stands in a list still does with one more row in front
pub contains_further : {X : Type 0} (x y : X) (xs : List X) → Contains xs y → Contains (x ∷ xs) y
contains_further x y xs there = (there.0 + 1, omega (arith, there.1), rw add-one there.2)

found_here : {X : Type 0} (p : X → Bool) (x : X) (xs : List X) (y : X) (b : Bool) → (find p xs ≡ Some y → Contains xs y × (p y ≡ true))
    → p x ≡ b → cond b (Some x) (find p xs) ≡ Some y → Contains (x ∷ xs) y × (p y ≡ true)
found_here p x xs y true rest is e =
    let same : x ≡ y = same_Some x y e in
    (subst (λ z. Contains (x ∷ xs) z) same (contains_first x xs), ap p (sym same) ∙ is)
found_here p x xs y false rest is e = (contains_further x y xs (rest e).0, (rest e).1)

-- what is found stands in the list and passes the test
pub found : {X : Type 0} (p : X → Bool) (xs : List X) (y : X) → find p xs ≡ Some y → Contains xs y × (p y ≡ true)
found p [] y e = cc
found p (x ∷ xs) y e = found_here p x xs y (p x) (found p xs y) refl e

found_none_here : {X : Type 0} (p : X → Bool) (x : X) (xs : List X) (b : Bool) → (find p xs ≡ None → All (λ x. p x ≡ false) xs) → p x ≡ b
    → cond b (Some x) (find p xs) ≡ None → All (λ x. p x ≡ false) (x ∷ xs)
found_none_here p x xs true rest is e = cc
found_none_here p x xs false rest is e = All-cons (λ x. p x ≡ false) x xs is (rest e)

-- where nothing is found, no row passes
pub found_none : {X : Type 0} (p : X → Bool) (xs : List X) → find p xs ≡ None → All (λ x. p x ≡ false) xs
found_none p [] e = All-nil (λ x. p x ≡ false)
found_none p (x ∷ xs) e = found_none_here p x xs (p x) (found_none p xs) refl e

finds_at : {X : Type 0} (p : X → Bool) (xs : List X) (x : X) (o : Option X) → find p xs ≡ o → Contains xs x → p x ≡ true
    → ((y : X) → Contains xs y → p y ≡ true → y ≡ x) → o ≡ Some x
finds_at p xs x None e there passes only = absurd (false≢true (sym (All-contains (λ y. p y ≡ false) xs x (found_none p xs e) there) ∙ passes))
finds_at p xs x (Some y) e there passes only = let is = found p xs y e in ap Some (only y is.0 is.1)

-- the only row that passes is found
pub finds : {X : Type 0} (p : X → Bool) (xs : List X) (x : X) → Contains xs x → p x ≡ true → ((y : X) → Contains xs y → p y ≡ true → y ≡ x) → find p xs ≡ Some x
finds p xs x there passes only = finds_at p xs x (find p xs) refl there passes only

-- the number of a numbered row is from 1 to the count of the rows
pub number_within : {X : Type 0} (number : X → ℕ) (xs : List X) (x : X) → AreNumbered number xs → Contains xs x → (1 ≤ number x) × (number x ≤ length xs)
number_within number xs x numbered there =
    let at : slice_get xs there.0 ≡ Some x = slice_get-get_or xs there.0 x there.1 ∙ ap Some there.2 in
    let is = numbered there.0 x at in
    (omega (arith, there.1), omega (arith, there.1))

-- two rows of one number are one
pub same_number : {X : Type 0} (number : X → ℕ) (xs : List X) (x y : X) → AreNumbered number xs → Contains xs x → Contains xs y → number x ≡ number y → x ≡ y
same_number number xs x y numbered a b same =
    let at_x = numbered a.0 x (slice_get-get_or xs a.0 x a.1 ∙ ap Some a.2) in
    let at_y = numbered b.0 y (slice_get-get_or xs b.0 y b.1 ∙ ap Some b.2) in
    let e : a.0 ≡ b.0 = omega (arith, at_x, at_y, same) in
    sym a.2 ∙ ap (λ k. get_or xs k x) e ∙ get_or_default xs b.0 x y b.1 ∙ b.2

-- one more row, numbered by the count
pub numbered_push : {X : Type 0} (number : X → ℕ) (xs : List X) (x : X) → AreNumbered number xs → number x ≡ length xs + 1 → AreNumbered number (xs ++ x ∷ [])
numbered_push number xs x numbered is i row at =
    let within : i < length (xs ++ x ∷ []) = slice_get_within (xs ++ x ∷ []) i row at in
    let more = length_push xs x in
    elim (cases_lt i (length xs)) [
      | inl below ↦
          numbered i row (slice_get-get_or xs i row below ∙ ap Some
          (sym (get_or_append_left xs (x ∷ []) row i below) ∙ get_or_from_slice_get (xs ++ x ∷ []) i row row at))
      | inr past ↦
          let last : length xs ≡ i = omega arith in
          let same : x ≡ row = sym (get_or_push xs x row i last) ∙ get_or_from_slice_get (xs ++ x ∷ []) i row row at in
          ap number (sym same) ∙ omega arith
    ]

-- two rows of a list in which each pair is related: they are one, or the earlier is related to the
-- later
pub related : {X : Type 0} (R : X → X → Type 0) (xs : List X) (x y : X) → AllPairs R xs → Contains xs x → Contains xs y → (x ≡ y) ⊎ (R x y ⊎ R y x)
related R xs x y pairs a b =
    elim (cases_lt a.0 b.0) [
      | inl before ↦ inr (inl (subst (λ u. R u y) (get_or_default xs a.0 y x a.1 ∙ a.2) (subst (λ v. R (get_or xs a.0 y) v) b.2 (pairs a.0 b.0 y before b.1))))
      | inr after ↦ elim (cases_lt b.0 a.0) [
        | inl before ↦ inr (inr (subst (λ u. R u x) (get_or_default xs b.0 x y b.1 ∙ b.2)
            (subst (λ v. R (get_or xs b.0 x) v) a.2 (pairs b.0 a.0 x before a.1))))
        | inr same ↦
            let e : a.0 ≡ b.0 = omega arith in
            inl (sym a.2 ∙ ap (λ k. get_or xs k x) e ∙ get_or_default xs b.0 x y b.1 ∙ b.2)
      ]
    ]

-- a changed value that is there comes from one that was there
pub option_map_some : {A B : Type 0} (f : A → B) (o : Option A) (y : B) → option_map f o ≡ Some y → (x : A) × (o ≡ Some x) × (f x ≡ y)
option_map_some f None y e = cc
option_map_some f (Some x) y e = (x, refl, same_Some (f x) y e)

-- rows that keep their numbers, or their relation, when each is changed
pub numbered_map : {X : Type 0} (number : X → ℕ) (f : X → X) (xs : List X) → ((x : X) → number (f x) ≡ number x) → AreNumbered number xs
    → AreNumbered number (map f xs)
numbered_map number f xs same numbered i row at =
    let old = option_map_some f (slice_get xs i) row (sym (slice_get-map f xs i) ∙ at) in
    ap number (sym old.2) ∙ same old.0 ∙ numbered i old.0 old.1

-- each pair stays related, where the change keeps the relation
pub all_pairs_map : {X : Type 0} (R : X → X → Type 0) (f : X → X) (xs : List X) → ((a b : X) → R a b → R (f a) (f b)) → AllPairs R xs → AllPairs R (map f xs)
all_pairs_map R f xs keeps pairs i j d before within =
    let j_within : j < length xs = omega (arith, length-map xs f) in
    let i_within : i < length xs = omega arith in
    subst (λ u. R u (get_or (map f xs) j d)) (sym (get_or-map f xs i d d i_within))
    (subst (λ v. R (f (get_or xs i d)) v) (sym (get_or-map f xs j d d j_within)) (keeps (get_or xs i d) (get_or xs j d) (pairs i j d before j_within)))

-- a list of rows is one longer than it was, and each pair with the new row is related
pub pairs_push : {X : Type 0} (R : X → X → Type 0) (xs : List X) (y : X) → AllPairs R xs → ((x : X) → Contains xs x → R x y) → AllPairs R (xs ++ y ∷ [])
pairs_push R xs y pairs each = all_pairs_push R xs y pairs (λ k d below. each (get_or xs k d) (Contains-get_or xs k d below))

-- a row that passes is kept
kept_here : {X : Type 0} (p : X → Bool) (x y : X) (xs : List X) (b : Bool) → p x ≡ b → Contains (filter p xs) y
    → Contains (cond b (x ∷ filter p xs) (filter p xs)) y
kept_here p x y xs true is there = contains_further x y (filter p xs) there
kept_here p x y xs false is there = there

-- what stands in a list is its first row, or stands further on
pub contains_cases : {X : Type 0} (x y : X) (xs : List X) → Contains (x ∷ xs) y → (x ≡ y) ⊎ Contains xs y
contains_cases x y xs (zero, within, is) = inl is
contains_cases x y xs (suc k, within, is) = inr (k, omega (arith, within), is)

-- a row that stands in a list and passes is among those kept
pub kept : {X : Type 0} (p : X → Bool) (xs : List X) (y : X) → Contains xs y → p y ≡ true → Contains (filter p xs) y
kept p [] y there passes = absurd (omega (arith, there.1))
kept p (x ∷ xs) y there passes =
    elim (contains_cases x y xs there) [
      | inl first ↦
          let is : p x ≡ true = ap p first ∙ passes in
          subst (λ b. Contains (cond b (x ∷ filter p xs) (filter p xs)) y) (sym is)
          (subst (λ z. Contains (x ∷ filter p xs) z) first (contains_first x (filter p xs)))
      | inr further ↦ kept_here p x y xs (p x) refl (kept p xs y further passes)
    ]

-- what is kept stood in the list, and passes
pub kept_from : {X : Type 0} (p : X → Bool) (xs : List X) (y : X) → Contains (filter p xs) y → Contains xs y × (p y ≡ true)
kept_from p xs y there = (
  All-contains (Contains xs) (filter p xs) y (All-filter p (Contains xs) xs (All-contains_itself xs)) there,
  All-contains (λ x. p x ≡ true) (filter p xs) y (filter_passes p xs) there,
)

-- the change of a row stands in the changed list
pub contains_map : {X Y : Type 0} (f : X → Y) (xs : List X) (x : X) → Contains xs x → Contains (map f xs) (f x)
contains_map f xs x there =
    let within : there.0 < length (map f xs) = omega (arith, length-map xs f, there.1) in
    (there.0, within, get_or-map f xs there.0 x (f x) there.1 ∙ ap f there.2)

-- what stands in a changed list comes from a row
pub map_source : {X Y : Type 0} (f : X → Y) (xs : List X) (y : Y) → Contains (map f xs) y → (x : X) × Contains xs x × (f x ≡ y)
map_source f [] y there = absurd (omega (arith, there.1))
map_source f (x ∷ xs) y there =
    elim (contains_cases (f x) y (map f xs) there) [
      | inl first ↦ (x, contains_first x xs, first)
      | inr further ↦ let rest = map_source f xs y further in (rest.0, contains_further x rest.0 xs rest.1, rest.2)
    ]

-- a test of two parts is passed exactly where both parts are
pub both_true : (x y : Bool) → x ≡ true → y ≡ true → (x && y) ≡ true
both_true x y p q = ap (λ b. b && y) p ∙ q

-- both parts of a test that is passed are passed
pub parts_true : (x y : Bool) → (x && y) ≡ true → (x ≡ true) × (y ≡ true)
parts_true true y e = (refl, e)
parts_true false y e = cc

-- two sales of an office are one where they agree in meter, base and identifier, in number, or in
-- operator and ref
pub one_of_tid : (o : Office) (a b : Sale) → IsOffice o → Contains o.sales a → Contains o.sales b → a.meter ≡ b.meter → a.base ≡ b.base → a.tid ≡ b.tid → a ≡ b
one_of_tid o a b office x y meter base tid =
    elim (related IsBefore o.sales a b office.before x y) [
      | inl same ↦ same
      | inr (inl before) ↦ absurd (before.tid meter base tid)
      | inr (inr after) ↦ absurd (after.tid (sym meter) (sym base) (sym tid))
    ]

-- two sales of an office that have one number are one
pub one_of_number : (o : Office) (a b : Sale) → IsOffice o → Contains o.sales a → Contains o.sales b → a.number ≡ b.number → a ≡ b
one_of_number o a b office x y same = same_number (λ s. s.number) o.sales a b office.sale_numbers x y same

-- two sales of an office under one ref of an operator are one
pub one_of_ref : (o : Office) (a b : Sale) → IsOffice o → Contains o.sales a → Contains o.sales b → a.operator ≡ b.operator → a.order_ref ≡ b.order_ref → a ≡ b
one_of_ref o a b office x y operator order_ref =
    elim (related IsBefore o.sales a b office.before x y) [
      | inl same ↦ same
      | inr (inl before) ↦ absurd (before.order_ref operator order_ref)
      | inr (inr after) ↦ absurd (after.order_ref (sym operator) (sym order_ref))
    ]
