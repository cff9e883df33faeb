-- What a value is that writes a number.
use Rattle.std.proofs.Common.{◌≡◌, ◌∙◌, ℕ, ℤ, pos, ◌^◌, ◌<◌, List, Option, Some, None, refl, ap, sym, subst, arith, w64, to_z, of_z}
use Rattle.std.specs.Prelude.{◌↔◌, IfSome, IsSome, decimal}
use Rattle.std.proofs.lemmas.Fmt.{decimal_injective}
use Rattle.std.proofs.lemmas.Int.{ints, to_z-of_z}
use Rattle.records.specs.Front.{IsFound}

-- what is made of the number that a value writes, and nothing else, is what the value writes
pub made_of : {A : Type 0} (Rule : A → Type 0) (number_of : A → ℕ) (Known : ℕ → Type 0) (value : List ℕ) (n : ℕ) (r : Option A)
    → n < 2 ^ 64 → value ≡ decimal n → ((a : A) → Rule a → number_of a < 2 ^ 64)
    → ((a : A) → number_of a ≡ n → Known n → Rule a) → ((a : A) → Rule a → Known (number_of a))
    → (IsSome r ↔ Known n) → IfSome r (λ a. number_of a ≡ n)
    → IsFound (λ a. Rule a × (value ≡ decimal (number_of a))) r
made_of Rule number_of Known value n (Some a) small is few keeps knows known same =
    (keeps a same (known.0 refl), is ∙ ap decimal (sym same))
made_of {A} Rule number_of Known value n None small is few keeps knows known same = λ a found.
    let equal : number_of a ≡ n = decimal_injective (number_of a) n (few a found.0) small (sym found.1 ∙ is) in
    let there : IsSome {T = A} None = known.1 (subst Known equal (knows a found.0)) in cc

-- the same of what its number is
pub read_as : (Rule : ℕ → Type 0) (value : List ℕ) (n : ℕ) (r : Option ℕ) → n < 2 ^ 64 → value ≡ decimal n
    → ((m : ℕ) → Rule m → m < 2 ^ 64) → (IsSome r ↔ Rule n) → IfSome r (λ m. m ≡ n)
    → IsFound (λ m. Rule m × (value ≡ decimal m)) r
read_as Rule value n r small is few known same =
    made_of Rule (λ m. m) Rule value n r small is few (λ m e rule. subst Rule (sym e) rule) (λ m rule. rule) known same

-- a number of 32 bits is the same as one of 64 with a sign
pub same_signed : (n : ℕ) (z : ℤ) → n < 2 ^ 32 → z ≡ pos n → to_z w64 (of_z w64 z) ≡ pos n
same_signed n z small e = ap (λ (y : ℤ). to_z w64 (of_z w64 y)) e ∙ to_z-of_z w64 (pos n) (omega (arith, ints))
