-- What is found of values.
use Rattle.std.proofs.Common.{◌≡◌, ◌∙◌, ℕ, zero, suc, ◌+◌, ◌<◌, List, [], ◌∷◌, ◌≤◌, length, get_or, drop, take, map, Option, Some, None, refl, ap, sym, arith, drop-cons}
use Rattle.std.specs.Borrow.{Bor}
use Rattle.std.proofs.lemmas.List.{get_or-map, get_or-take}
use Rattle.records.specs.Front.{IsFound}
use Rattle.records.specs.Record.{now}

-- what was found of a value is found of a text that says it
pub found_by : {A : Type 0} (Rule Other : A → Type 0) (r : Option A) → ((a : A) → Rule a → Other a) → ((a : A) → Other a → Rule a)
    → IsFound Rule r → IsFound Other r
found_by Rule Other (Some a) there back found = there a found
found_by Rule Other None there back none = λ a other. none a (back a other)

-- the values from a place on, one by one
abbrev pub one_by_one : Bor (List ℕ) → (count place : ℕ) → List (Bor (List ℕ)) → List (List ℕ)
one_by_one d zero i vs = []
one_by_one d (suc n) i vs = now (get_or vs i d) ∷ one_by_one d n (suc i) vs

-- the first of them
pub from_place : (d : Bor (List ℕ)) (n i : ℕ) (vs : List (Bor (List ℕ))) → i + n ≤ length vs → take n (map now (drop i vs)) ≡ one_by_one d n i vs
from_place d zero i vs e = refl
from_place d (suc n) i vs e =
    ap (λ (xs : List (Bor (List ℕ))). take (suc n) (map now xs)) (drop-cons vs i d (omega (arith, e)))
    ∙ ap (λ (ws : List (List ℕ)). now (get_or vs i d) ∷ ws) (from_place d n (suc i) vs (omega (arith, e)))

-- one value of these
pub first_value_at : (n : ℕ) (vs : List (Bor (List ℕ))) (ws : List (List ℕ)) (i : ℕ) (d : Bor (List ℕ)) → i < n → n ≤ length vs → take n (map now vs) ≡ ws
    → now (get_or vs i d) ≡ get_or ws i []
first_value_at n vs ws i d inside few e =
    sym (get_or-map now vs i d [] (omega (arith, inside, few)))
    ∙ sym (get_or-take n (map now vs) i [] inside)
    ∙ ap (λ (xs : List (List ℕ)). get_or xs i []) e

-- an element that there is none of
abbrev pub no_value : Bor (List ℕ)
no_value = record { ref_ptr = (0, 0); now = [] }
