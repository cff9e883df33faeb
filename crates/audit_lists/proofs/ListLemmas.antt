-- Rows at places of lists, and of lists that are mapped.
use Rattle.std.proofs.Common.{◌≡◌, ◌<◌, ℕ, false, List, get_or, Option, Some, None, slice_get, inl, inr, refl, sym, ap, subst, ◌∙◌, arith, map}
use Rattle.std.specs.Prelude.{All, AllPairs, Contains, IsNone, IsSome, is_some, length}
use Rattle.std.specs.Option.{option_map}
use Rattle.std.proofs.lemmas.Bool.{cases_lt, false≢true}
use Rattle.std.proofs.lemmas.Option.{get_or_from_slice_get, none-some, same_Some, slice_get-get_or, slice_get-map, slice_get_within}
use Rattle.audit_lists.specs.Keys.{IsNew, Key}
use Rattle.audit_lists.specs.Ties.{Each}

-- a list contains what is at a place of it
pub contains_at : {X : Type 0} (xs : List X) (i : ℕ) (x : X) → slice_get xs i ≡ Some x → Contains xs x
contains_at xs i x is = (i, slice_get_within xs i x is, get_or_from_slice_get xs i x x is)

-- what a list contains is at some place of it
pub at_contains : {X : Type 0} (xs : List X) (x : X) → Contains xs x → (i : ℕ) × (slice_get xs i ≡ Some x)
at_contains xs x there = (there.0, slice_get-get_or xs there.0 x there.1 ∙ ap Some there.2)

-- where there is something mapped, it was mapped from something
pub mapped_from : {X Y : Type 0} (f : X → Y) (o : Option X) (y : Y) → option_map f o ≡ Some y → (x : X) × (o ≡ Some x) × (f x ≡ y)
mapped_from f None y e = absurd (none-some y e)
mapped_from f (Some x) y e = (x, refl, same_Some (f x) y e)

-- what is at a place of a mapped list is mapped from what is there in the list
pub map_from : {X Y : Type 0} (f : X → Y) (xs : List X) (i : ℕ) (y : Y) → slice_get (map f xs) i ≡ Some y → (x : X) × (slice_get xs i ≡ Some x) × (f x ≡ y)
map_from f xs i y e = mapped_from f (slice_get xs i) y (sym (slice_get-map f xs i) ∙ e)

-- what is at a place of a list is, mapped, at that place of the mapped list
pub map_at : {X Y : Type 0} (f : X → Y) (xs : List X) (i : ℕ) (x : X) → slice_get xs i ≡ Some x → slice_get (map f xs) i ≡ Some (f x)
map_at f xs i x e = slice_get-map f xs i ∙ ap (option_map f) e

-- the mapped list contains what is at a place of the list, mapped
pub contains_map : {X Y : Type 0} (f : X → Y) (xs : List X) (i : ℕ) (x : X) → slice_get xs i ≡ Some x → Contains (map f xs) (f x)
contains_map f xs i x e = contains_at (map f xs) i (f x) (map_at f xs i x e)

-- what a mapped list contains is mapped from what is at some place of the list
pub map_contains : {X Y : Type 0} (f : X → Y) (xs : List X) (y : Y) → Contains (map f xs) y → (i : ℕ) × (x : X) × (slice_get xs i ≡ Some x) × (f x ≡ y)
map_contains f xs y there =
    let at = at_contains (map f xs) y there in
    let from = map_from f xs at.0 y at.1 in
    (at.0, from.0, from.1, from.2)

-- pairs by places
pub pairs_at : {X : Type 0} (R : X → X → Type 0) (xs : List X)
    → ((i j : ℕ) (a b : X) → i < j → slice_get xs i ≡ Some a → slice_get xs j ≡ Some b → R a b) → AllPairs R xs
pairs_at R xs each i j d below low =
    let first : i < length xs = omega (arith, below, low) in
    each i j (get_or xs i d) (get_or xs j d) below (slice_get-get_or xs i d first) (slice_get-get_or xs j d low)

-- what holds of all pairs holds of the two at an earlier and a later place
pub at_pairs : {X : Type 0} (R : X → X → Type 0) (xs : List X) → AllPairs R xs → (i j : ℕ) (a b : X) → i < j → slice_get xs i ≡ Some a
    → slice_get xs j ≡ Some b → R a b
at_pairs R xs pairs i j a b below there_a there_b =
    subst (R a) (get_or_from_slice_get xs j b a there_b)
    (subst (λ x. R x (get_or xs j a)) (get_or_from_slice_get xs i a a there_a) (pairs i j a below (slice_get_within xs j b there_b)))

-- what holds of each two rows, mapped, holds of all pairs of the mapped list
pub pairs_map : {X Y : Type 0} (R : Y → Y → Type 0) (f : X → Y) (xs : List X)
    → ((i j : ℕ) (a b : X) → i < j → slice_get xs i ≡ Some a → slice_get xs j ≡ Some b → R (f a) (f b)) → AllPairs R (map f xs)
pairs_map R f xs each = pairs_at R (map f xs) (λ i j y z below there_y there_z.
    let a = map_from f xs i y there_y in
    let b = map_from f xs j z there_z in
    subst (R y) b.2 (subst (λ x. R x (f b.0)) a.2 (each i j a.0 b.0 below a.1 b.1)))

-- what is said of the row at each place is said of all rows
pub all_from : {X : Type 0} (P : X → Type 0) (xs : List X) → Each (λ _ x. P x) xs → All P xs
all_from P xs each i d low = each i (get_or xs i d) (slice_get-get_or xs i d low)

-- and what is said of all rows is said of the row at each place
pub all_at : {X : Type 0} (P : X → Type 0) (xs : List X) → All P xs → Each (λ _ x. P x) xs
all_at P xs all i x is = subst P (get_or_from_slice_get xs i x x is) (all i x (slice_get_within xs i x is))

-- rows of one key are one row, where no two have one
pub one_row : {T : Type 0} (key : T → Key) (rows : List T) → Each (IsNew key rows) rows → (i j : ℕ) (a b : T) → slice_get rows i ≡ Some a
    → slice_get rows j ≡ Some b → key a ≡ key b → a ≡ b
one_row key rows apart i j a b there_a there_b same = elim (cases_lt i j) [
  | inl below ↦ absurd (apart j b there_b i below (a, there_a, same))
  | inr least ↦ elim (cases_lt j i) [
    | inl below ↦ absurd (apart i a there_a j below (b, there_b, sym same))
    | inr most ↦
        let at : i ≡ j = omega (arith, least, most) in
        same_Some a b (sym there_a ∙ ap (slice_get rows) at ∙ there_b)
  ]
]

-- what an option that has something has
pub some_is : {X : Type 0} (o : Option X) → IsSome o → (x : X) × (o ≡ Some x)
some_is None has = absurd (false≢true has)
some_is (Some x) has = (x, refl)

-- a moment of closing is there, or is none
pub open_is : (o : Option ℕ) → is_some o ≡ false → IsNone o
open_is None none = refl
open_is (Some secs) none = absurd (cc)

-- a moment of closing that is none is not there
pub closed_is : (o : Option ℕ) → IsNone o → is_some o ≡ false
closed_is None none = refl
closed_is (Some secs) none = absurd (cc)
