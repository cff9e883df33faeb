-- Lists of rows that differ in pairs: what stands in them, and what passes a test.
use Rattle.std.proofs.Common.{◌≡◌, ℕ, zero, suc, ◌+◌, ◌-◌, ◌≤◌, ◌<◌, ◌⊎◌, inl, inr, Bool, true, false, cond, List, [], ◌∷◌, ◌++◌, drop, length, get_or, nat_lt, slice_get, Some, refl, sym, ◌∙◌, ap, subst, arith}
use Rattle.std.specs.Prelude.{AllPairs, Contains, filter, find, map}
use Rattle.std.specs.Option.{option_to_list}
use Rattle.std.proofs.lemmas.Bool.{cases_lt, false≢true, le-ltb, lt-ltb}
use Rattle.office_rules.specs.Office.{AreNumbered}
use Rattle.std.proofs.lemmas.List.{get_or-map, get_or_append_left, get_or-append_right, length-append, length-map}
use Rattle.std.proofs.lemmas.List.Elements.{Contains-append_cases, Contains-append_left, Contains-append_right, Contains-get_or, Contains-push, Contains-push_cases}

-- a list contains its first element
pub contains_first : {X : Type 0} (x : X) (xs : List X) → Contains (x ∷ xs) x
contains_first x xs = Contains-append_left (x ∷ []) xs x (Contains-push [] x)

-- a list contains what its rest contains
pub contains_further : {X : Type 0} (x y : X) (xs : List X) → Contains xs y → Contains (x ∷ xs) y
contains_further x y xs there = Contains-append_right (x ∷ []) xs y there

-- the empty list contains nothing
pub contains_none : {X : Type 0} (x : X) → Contains [] x → ⊥
contains_none x there = omega (arith, there.1)

-- what a list contains is its first element, or stands in the rest
pub contains_cases : {X : Type 0} (x y : X) (xs : List X) → Contains (x ∷ xs) y → (x ≡ y) ⊎ Contains xs y
contains_cases x y xs there = elim (Contains-append_cases (x ∷ []) xs y there) [
  | inl first ↦ elim (Contains-push_cases [] x y first) [
    | inl none ↦ absurd (contains_none y none)
    | inr is ↦ inl is
  ]
  | inr further ↦ inr further
]

-- what stands in a changed list comes from a row, and each row is there, changed
pub contains_map : {X Y : Type 0} (f : X → Y) (xs : List X) (x : X) → Contains xs x → Contains (map f xs) (f x)
contains_map f xs x there =
    let within : there.0 < length (map f xs) = omega (arith, length-map xs f, there.1) in
    (there.0, within, get_or-map f xs there.0 x (f x) there.1 ∙ ap f there.2)

-- what stands in a changed list is the change of an element of the list
pub map_source : {X Y : Type 0} (f : X → Y) (xs : List X) (y : Y) → Contains (map f xs) y → (x : X) × Contains xs x × (f x ≡ y)
map_source f [] y there = absurd (contains_none y there)
map_source f (x ∷ xs) y there =
    elim (contains_cases (f x) y (map f xs) there) [
      | inl first ↦ (x, contains_first x xs, first)
      | inr further ↦ let rest = map_source f xs y further in (rest.0, contains_further x rest.0 xs rest.1, rest.2)
    ]

-- pairs within two lists, and across them
pub pairs_append : {X : Type 0} (R : X → X → Type 0) (xs ys : List X) → AllPairs R xs → AllPairs R ys
    → ((x y : X) → Contains xs x → Contains ys y → R x y) → AllPairs R (xs ++ ys)
pairs_append R xs ys in_xs in_ys across i j d before within =
    let whole = length-append xs ys in
    elim (cases_lt j (length xs)) [
      | inl j_left ↦
          let i_left : i < length xs = omega arith in
          subst (λ a. R a (get_or (xs ++ ys) j d)) (sym (get_or_append_left xs ys d i i_left))
          (subst (λ b. R (get_or xs i d) b) (sym (get_or_append_left xs ys d j j_left)) (in_xs i j d before j_left))
      | inr j_right ↦
          let b_is = get_or-append_right xs ys (length xs) j d refl j_right in
          let j_in : j - length xs < length ys = omega arith in
          elim (cases_lt i (length xs)) [
            | inl i_left ↦
                subst (λ a. R a (get_or (xs ++ ys) j d)) (sym (get_or_append_left xs ys d i i_left))
                (subst (λ b. R (get_or xs i d) b) (sym b_is)
                (across (get_or xs i d) (get_or ys (j - length xs) d) (Contains-get_or xs i d i_left) (Contains-get_or ys (j - length xs) d j_in)))
            | inr i_right ↦
                subst (λ a. R a (get_or (xs ++ ys) j d)) (sym (get_or-append_right xs ys (length xs) i d refl i_right))
                (subst (λ b. R (get_or ys (i - length xs) d) b) (sym b_is)
                (in_ys (i - length xs) (j - length xs) d (omega arith) j_in))
          ]
    ]

-- any relation holds of the pairs of the empty list, as it has none
pub no_pairs : {X : Type 0} (R : X → X → Type 0) → AllPairs R []
no_pairs R i j d before within = absurd (omega arith)

-- any relation holds of the pairs of a list of one element, as it has none
pub pairs_of_one : {X : Type 0} (R : X → X → Type 0) (x : X) → AllPairs R (x ∷ [])
pairs_of_one R x i j d before within = absurd (omega arith)

-- pairs stay related where the new first element is related to each of the others
pub pairs_cons : {X : Type 0} (R : X → X → Type 0) (x : X) (xs : List X) → AllPairs R xs → ((y : X) → Contains xs y → R x y) → AllPairs R (x ∷ xs)
pairs_cons R x xs pairs each =
    pairs_append R (x ∷ []) xs (pairs_of_one R x) pairs (λ a y first there. elim (contains_cases x a [] first) [
      | inl is ↦ subst (λ b. R b y) is (each y there)
      | inr none ↦ absurd (contains_none a none)
    ])

-- pairs stay related where each element is related to the one put at the end
pub pairs_push : {X : Type 0} (R : X → X → Type 0) (xs : List X) (y : X) → AllPairs R xs → ((x : X) → Contains xs x → R x y) → AllPairs R (xs ++ y ∷ [])
pairs_push R xs y pairs each =
    pairs_append R xs (y ∷ []) pairs (pairs_of_one R y) (λ x b there last. elim (contains_cases y b [] last) [
      | inl is ↦ subst (R x) is (each x there)
      | inr none ↦ absurd (contains_none b none)
    ])

-- pairs stay related where each element is changed and the change keeps the relation
pub pairs_map : {X : Type 0} (R : X → X → Type 0) (f : X → X) (xs : List X) → ((a b : X) → R a b → R (f a) (f b)) → AllPairs R xs → AllPairs R (map f xs)
pairs_map R f xs keeps pairs i j d before within =
    let j_in : j < length xs = omega (arith, length-map xs f) in
    let i_in : i < length xs = omega arith in
    subst (λ a. R a (get_or (map f xs) j d)) (sym (get_or-map f xs i d d i_in))
    (subst (λ b. R (f (get_or xs i d)) b) (sym (get_or-map f xs j d d j_in)) (keeps (get_or xs i d) (get_or xs j d) (pairs i j d before j_in)))

-- the pairs of the rest are related where those of the list are
pub pairs_rest : {X : Type 0} (R : X → X → Type 0) (x : X) (xs : List X) → AllPairs R (x ∷ xs) → AllPairs R xs
pairs_rest R x xs pairs i j d before within = pairs (suc i) (suc j) d (omega arith) (omega arith)

-- where all pairs are related, the first element is related to each of the rest
pub pairs_first : {X : Type 0} (R : X → X → Type 0) (x y : X) (xs : List X) → AllPairs R (x ∷ xs) → Contains xs y → R x y
pairs_first R x y xs pairs there = subst (R x) there.2 (pairs 0 (suc there.0) y (omega arith) (omega (arith, there.1)))

-- ---- what passes a test

passes_not : {X : Type 0} (p : X → Bool) (x : X) (xs : List X) (b : Bool) → p x ≡ b → b ≡ false → filter p xs ≡ [] → cond b (x ∷ filter p xs) (filter p xs) ≡ []
passes_not p x xs true is fails rest = absurd (false≢true (sym fails))
passes_not p x xs false is fails rest = rest

-- where none passes the test, nothing is left of the list
pub none_pass : {X : Type 0} (p : X → Bool) (xs : List X) → ((x : X) → Contains xs x → p x ≡ false) → filter p xs ≡ []
none_pass p [] fails = refl
none_pass p (x ∷ xs) fails =
    passes_not p x xs (p x) refl (fails x (contains_first x xs)) (none_pass p xs (λ y there. fails y (contains_further x y xs there)))

-- of each two rows at most one passes
abbrev pub NotBothPass : {X : Type 0} → (X → Bool) → X → X → Type 0
NotBothPass p a b = p a ≡ true → p b ≡ true → ⊥

fails_by : (b : Bool) → (b ≡ true → ⊥) → b ≡ false
fails_by true not = absurd (not refl)
fails_by false not = refl

passes_one : {X : Type 0} (p : X → Bool) (y : X) (ys : List X) (x : X) (b : Bool) → p y ≡ b → AllPairs (NotBothPass p) (y ∷ ys)
    → Contains (y ∷ ys) x → p x ≡ true → (Contains ys x → filter p ys ≡ x ∷ []) → cond b (y ∷ filter p ys) (filter p ys) ≡ x ∷ []
passes_one p y ys x true is pairs there passes rest =
    let none = none_pass p ys (λ z in_ys. fails_by (p z) (λ z_passes. pairs_first (NotBothPass p) y z ys pairs in_ys is z_passes)) in
    elim (contains_cases y x ys there) [
      | inl same ↦ ap (λ zs. y ∷ zs) none ∙ ap (λ z. z ∷ []) same
      | inr further ↦ absurd (pairs_first (NotBothPass p) y x ys pairs further is passes)
    ]
passes_one p y ys x false is pairs there passes rest =
    elim (contains_cases y x ys there) [
      | inl same ↦ absurd (false≢true (sym is ∙ ap p same ∙ passes))
      | inr further ↦ rest further
    ]

-- the row that passes is the only one
pub one_passes : {X : Type 0} (p : X → Bool) (xs : List X) (x : X) → AllPairs (NotBothPass p) xs → Contains xs x → p x ≡ true → filter p xs ≡ x ∷ []
one_passes p [] x pairs there passes = absurd (contains_none x there)
one_passes p (y ∷ ys) x pairs there passes =
    passes_one p y ys x (p y) refl pairs there passes (λ further. one_passes p ys x (pairs_rest (NotBothPass p) y ys pairs) further passes)

first_here : {X : Type 0} (p : X → Bool) (x : X) (xs : List X) (b : Bool) → p x ≡ b → AllPairs (NotBothPass p) (x ∷ xs) → filter p xs
    ≡ option_to_list (find p xs) → cond b (x ∷ filter p xs) (filter p xs) ≡ option_to_list (cond b (Some x) (find p xs))
first_here p x xs true is pairs rest =
    ap (λ ys. x ∷ ys) (none_pass p xs (λ y there. fails_by (p y) (λ passes. pairs_first (NotBothPass p) x y xs pairs there is passes)))
first_here p x xs false is pairs rest = rest

-- where at most one row passes, all that pass are the first that does
pub first_is_all : {X : Type 0} (p : X → Bool) (xs : List X) → AllPairs (NotBothPass p) xs → filter p xs ≡ option_to_list (find p xs)
first_is_all p [] pairs = refl
first_is_all p (x ∷ xs) pairs = first_here p x xs (p x) refl pairs (first_is_all p xs (pairs_rest (NotBothPass p) x xs pairs))

-- pairs that are related are related by each weaker relation
pub pairs_weaker : {X : Type 0} (R S : X → X → Type 0) (xs : List X) → ((a b : X) → R a b → S a b) → AllPairs R xs → AllPairs S xs
pairs_weaker R S xs weaker pairs i j d before within = weaker (get_or xs i d) (get_or xs j d) (pairs i j d before within)

-- ---- those after a number, in a list that is numbered from 1

module _ {X : Type 0} (number : X → ℕ) where
  abbrev AreFrom : ℕ → List X → Type 0
  AreFrom first xs = (i : ℕ) (x : X) → slice_get xs i ≡ Some x → number x ≡ i + suc first

  further : (first : ℕ) (x : X) (xs : List X) → AreFrom first (x ∷ xs) → AreFrom (suc first) xs
  further first x xs are i y at = omega (arith, are (suc i) y at)

  passes : (d : ℕ) (x : X) → d < number x → nat_lt d (number x) ≡ true
  passes d x above = lt-ltb d (number x) above

  all_after : (d first : ℕ) (xs : List X) → d ≤ first → AreFrom first xs → filter (λ x. nat_lt d (number x)) xs ≡ xs
  all_after d first [] below are = refl
  all_after d first (x ∷ xs) below are =
      rw (passes d x (omega (arith, are 0 x refl)), all_after d (suc first) xs (omega arith) (further first x xs are)) refl

  after_from : (k d first : ℕ) (xs : List X) → d ≡ k + first → AreFrom first xs → filter (λ x. nat_lt d (number x)) xs ≡ drop k xs
  after_from zero d first xs is are = all_after d first xs (omega arith) are
  after_from (suc k) d first [] is are = refl
  after_from (suc k) d first (x ∷ xs) is are =
      rw (le-ltb d (number x) (omega (arith, are 0 x refl))) (after_from k d (suc first) xs (omega arith) (further first x xs are))

  -- those after a number are the rest of the list
  pub after_numbered : (d : ℕ) (xs : List X) → AreNumbered number xs → filter (λ x. nat_lt d (number x)) xs ≡ drop d xs
  after_numbered d xs are = after_from d d 0 xs (omega arith) (λ i x at. are i x at)
