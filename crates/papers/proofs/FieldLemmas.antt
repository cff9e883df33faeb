-- The fields of a record, one by one.
use Rattle.std.proofs.Common.{◌≡◌, ◌≢◌, ◌∙◌, ◌+◌, ◌<◌, ◌≤◌, ℕ, zero, suc, Bool, true, false, [], ◌∷◌, List, length, get_or, map, nat_eq, Option, Some, None, Bor, unwrap_or, option_map, ap, inl, inr, refl, arith, sym}
use Rattle.std.proofs.Math.Nat.{eq-or-lt_of_le}
use Rattle.std.proofs.lemmas.Cmp.{nat_list_eq_equiv}
use Rattle.std.proofs.lemmas.List.{get_or-map}
use Rattle.std.specs.Prelude.{not}
use Rattle.std.specs.Cmp.Lexicographic.{pointwise, same_text}
use Rattle.csv.specs.Records.{field_at}

-- the field at a place, or nothing behind the end
field_at-or : (fields : List (List ℕ)) (place : ℕ) → unwrap_or (field_at fields place) [] ≡ get_or fields place []
unfolding field_at
field_at-or [] place = refl
field_at-or (field ∷ fields) zero = refl
field_at-or (field ∷ fields) (suc place) = field_at-or fields place

unwrap-now : (found : Option (Bor (List ℕ))) (other : Bor (List ℕ)) → (unwrap_or found other).now ≡ unwrap_or (option_map (λ s. s.now) found) other.now
unwrap-now None other = refl
unwrap-now (Some field) other = refl

-- the same through a reference that may be there
pub field-or : (found : Option (Bor (List ℕ))) (other : Bor (List ℕ)) (fields : List (List ℕ)) (place : ℕ)
    → option_map (λ s. s.now) found ≡ field_at fields place → other.now ≡ [] → (unwrap_or found other).now ≡ get_or fields place []
field-or found other fields place is none =
    unwrap-now found other ∙ ap (λ text. unwrap_or text other.now) is ∙ ap (λ text. unwrap_or (field_at fields place) text) none ∙ field_at-or fields place

-- a field that is wanted, read through the list of them
wanted-at : (fields : List (Bor (List ℕ))) (place : ℕ) (other : Bor (List ℕ)) → place < length fields
    → get_or (map (λ f. f.now) fields) place [] ≡ (get_or fields place other).now
wanted-at fields place other within = get_or-map (λ f. f.now) fields place other [] within

-- a test that tells two texts apart
pub told-apart : (told : Bool) (a b : List ℕ) → told ≡ not (pointwise nat_eq a b) → told ≡ true → a ≢ b
told-apart told a b is apart same =
    let alike : pointwise nat_eq b b ≡ true = nat_list_eq_equiv.refl b in
    let none : true ≡ not (pointwise nat_eq a b) = sym apart ∙ is in
    let never : true ≡ false = rw (same, alike) at none in
    cc

-- and one that does not
pub told-alike : (told : Bool) (a b : List ℕ) → told ≡ not (pointwise nat_eq a b) → told ≡ false → a ≡ b
told-alike told a b is alike = same_text a b (by (pointwise nat_eq a b) (sym alike ∙ is))
  where
    by : (t : Bool) → false ≡ not t → true ≡ t
    by true h = refl
    by false h = cc

-- a field that differs from the one that is wanted makes another record
pub fields-differ : (fields : List (List ℕ)) (wanted : List (Bor (List ℕ))) (place : ℕ) (other : Bor (List ℕ)) → place < length wanted
    → get_or fields place [] ≢ (get_or wanted place other).now → fields ≢ map (λ f. f.now) wanted
fields-differ fields wanted place other within differ same =
    differ (ap (λ all. get_or all place []) same ∙ wanted-at wanted place other within)

-- one more field is the one that is wanted
pub fields-more : (fields : List (List ℕ)) (wanted : List (Bor (List ℕ))) (place : ℕ) (other : Bor (List ℕ)) → place < length wanted
    → ((k : ℕ) → k < place → get_or fields k [] ≡ get_or (map (λ f. f.now) wanted) k []) → get_or fields place [] ≡ (get_or wanted place other).now
    → (k : ℕ) → k < place + 1 → get_or fields k [] ≡ get_or (map (λ f. f.now) wanted) k []
fields-more fields wanted place other within so_far same k below =
    let upto : k ≤ place = omega (arith, below) in
    elim (eq-or-lt_of_le upto) [
      | inl here ↦ rw here (same ∙ sym (wanted-at wanted place other within))
      | inr less ↦ so_far k less
    ]
