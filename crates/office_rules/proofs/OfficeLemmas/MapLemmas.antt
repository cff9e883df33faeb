-- Lists that are changed element by element: what is counted, kept, summed and related in them.
use Rattle.std.proofs.Common.{◌≡◌, ℕ, ◌+◌, ◌<◌, Bool, true, false, cond, List, [], ◌∷◌, length, get_or, refl, sym, ◌∙◌, ap, subst, arith}
use Rattle.std.specs.Prelude.{◌||◌, All, AllPairs, Contains, count_by, filter, map, sum_by}
use Rattle.std.specs.List.{list_any}
use Rattle.std.proofs.lemmas.List.{get_or-map, length-map}
use Rattle.std.proofs.lemmas.List.Elements.{All-head, All-tail, Contains-get_or}
use Rattle.std.proofs.lemmas.List.Folds.{fold-map}
use Rattle.std.proofs.lemmas.List.Sums.{sum_by-cons}

-- two changes that agree on each element make the same list
pub map_same : {X Y : Type 0} (f g : X → Y) (xs : List X) → All (λ x. f x ≡ g x) xs → map f xs ≡ map g xs
map_same f g [] same = refl
map_same f g (x ∷ xs) same = let here = All-head (λ x. f x ≡ g x) x xs same in let rest = map_same f g xs (All-tail (λ x. f x ≡ g x) x xs same) in cc

-- two changes of each element, one after the other, are one change
pub map_twice : {X Y Z : Type 0} (g : Y → Z) (f : X → Y) (xs : List X) → map g (map f xs) ≡ map (λ x. g (f x)) xs
map_twice g f [] = refl
map_twice g f (x ∷ xs) = ap (λ rest. g (f x) ∷ rest) (map_twice g f xs)

-- as many changed elements pass a test as elements pass the one that agrees with it
pub count_same : {X Y : Type 0} (f : X → Y) (p : Y → Bool) (q : X → Bool) (xs : List X) → All (λ x. p (f x) ≡ q x) xs → count_by p (map f xs) ≡ count_by q xs
count_same f p q [] same = refl
count_same f p q (x ∷ xs) same =
    let one_if : Bool → ℕ = λ b. cond b 1 0 in
    let here : one_if (p (f x)) ≡ one_if (q x) = ap one_if (All-head (λ x. p (f x) ≡ q x) x xs same) in
    let rest = count_same f p q xs (All-tail (λ x. p (f x) ≡ q x) x xs same) in
    omega (arith, sum_by-cons (λ y. cond (p y) 1 0) (f x) (map f xs), sum_by-cons (λ x. cond (q x) 1 0) x xs, here, rest)

-- some changed element passes exactly where an element passes the test that agrees
pub any_same : {X Y : Type 0} (f : X → Y) (p : Y → Bool) (q : X → Bool) (xs : List X) → All (λ x. p (f x) ≡ q x) xs → list_any p (map f xs) ≡ list_any q xs
any_same f p q [] same = refl
any_same f p q (x ∷ xs) same =
    ap (λ b. b || list_any p (map f xs)) (All-head (λ x. p (f x) ≡ q x) x xs same)
    ∙ ap (λ b. q x || b) (any_same f p q xs (All-tail (λ x. p (f x) ≡ q x) x xs same))

kept_here : {X Y : Type 0} (f : X → Y) (p : Y → Bool) (x : X) (xs : List X) (b : Bool) → filter p (map f xs)
    ≡ map f (filter (λ x. p (f x)) xs) → cond b (f x ∷ filter p (map f xs)) (filter p (map f xs))
    ≡ map f (cond b (x ∷ filter (λ x. p (f x)) xs) (filter (λ x. p (f x)) xs))
kept_here f p x xs true rest = ap (λ ys. f x ∷ ys) rest
kept_here f p x xs false rest = rest

-- the changed elements that pass are the changes of those that pass once changed
pub kept_of_map : {X Y : Type 0} (f : X → Y) (p : Y → Bool) (xs : List X) → filter p (map f xs) ≡ map f (filter (λ x. p (f x)) xs)
kept_of_map f p [] = refl
kept_of_map f p (x ∷ xs) = kept_here f p x xs (p (f x)) (kept_of_map f p xs)

-- a sum over changed elements is a sum over the elements before the change
pub sum_of_map : {X Y : Type 0} (f : X → Y) (n : Y → ℕ) (xs : List X) → sum_by n (map f xs) ≡ sum_by (λ x. n (f x)) xs
sum_of_map f n xs = fold-map (λ a y. a + n y) f 0 xs

-- what holds of each element that stands in a list holds of all of them
pub all_from_contains : {X : Type 0} (P : X → Type 0) (xs : List X) → ((x : X) → Contains xs x → P x) → All P xs
all_from_contains P xs each k d below = each (get_or xs k d) (Contains-get_or xs k d below)

-- related pairs stay so when changed, where the change relates those of the list
pub pairs_map_contained : {X Y : Type 0} (R : Y → Y → Type 0) (S : X → X → Type 0) (f : X → Y) (xs : List X) → AllPairs S xs
    → ((a b : X) → Contains xs a → Contains xs b → S a b → R (f a) (f b)) → AllPairs R (map f xs)
pairs_map_contained R S f [] pairs each i j d before within = absurd (omega arith)
pairs_map_contained R S f (x ∷ xs) pairs each i j d before within =
    let all = x ∷ xs in
    let j_within : j < length all = omega (arith, length-map all f) in
    let i_within : i < length all = omega arith in
    let a = get_or all i x in
    let b = get_or all j x in
    subst (λ u. R u (get_or (map f all) j d)) (sym (get_or-map f all i x d i_within))
    (subst (λ v. R (f a) v) (sym (get_or-map f all j x d j_within))
    (each a b (Contains-get_or all i x i_within) (Contains-get_or all j x j_within) (pairs i j x before j_within)))
