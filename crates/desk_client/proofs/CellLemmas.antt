-- What the cells of values hold.
use Rattle.std.proofs.Common.{◌≡◌, ◌∙◌, ℕ, ◌^◌, ◌<◌, ◌⊎◌, List, [], ◌∷◌, ◌++◌, Option, Some, None, refl, ap, sym, subst, arith, rules}
use Rattle.std.specs.Prelude.{◌↔◌, IfSome, IsSome}
use Rattle.records.specs.Cell.{Held, number, text}
use Rattle.records.proofs.MemberLemmas.{one_record}
use Rattle.desk_messages.specs.reply.Records.{count_text}
use Rattle.sts_fields.specs.Base.{year_of}
use Rattle.sts_fields.specs.declared.base.Base.{Base}
use Rattle.sts_fields.specs.declared.base.Base.TheVariants.{Y1993, Y2014, Y2035}

-- one cell holds one number
pub one_number : (m n : ℕ) → number m ≡ number n → m ≡ n
one_number m n e = cc

-- and one text
pub one_text : (a b : List ℕ) → text a ≡ text b → a ≡ b
one_text a b e = cc

-- a text has one number under a name
pub same_count : (name : List ℕ) (m n : ℕ) → m < 2 ^ 64 → n < 2 ^ 64 → count_text name m ≡ count_text name n → m ≡ n
same_count name m n small few e =
    let same = one_record (name ∷ []) (number m ∷ []) (number n ∷ []) [] [] (record { named = refl; tellable = (small, tt) })
    (record { named = refl; tellable = (few, tt) }) (ap (λ (t : List ℕ). t ++ []) e) in
    let one : number m ∷ [] ≡ number n ∷ [] = same.0 in cc

-- the value that is made of a number has the number's cell
pub made : {A : Type 0} (number_of : A → ℕ) (told : Held) (n : ℕ) (r : Option A) (a : A) → r ≡ Some a → IfSome r (λ b. number_of b ≡ n) → number n ≡ told
    → number (number_of a) ≡ told
made number_of told n r a is value holds = ap number (subst (λ o. IfSome o (λ b. number_of b ≡ n)) is value) ∙ holds

-- where none is made of it, no value has the cell
pub not_made : {A : Type 0} (Known : ℕ → Type 0) (told : Held) (n m : ℕ) (r : Option A) → r ≡ None → (IsSome r ↔ Known n) → number n ≡ told
    → Known m → number m ≡ told → ⊥
not_made {A} Known told n m r is known holds there e =
    let same : m ≡ n = one_number m n (e ∙ sym holds) in
    let some : IsSome {T = A} None = subst (λ (o : Option A). IsSome o) is (known.1 (subst Known same there)) in cc

-- a year that has a base date
abbrev pub IsYear : ℕ → Type 0
IsYear year = (year ≡ 1993) ⊎ (year ≡ 2014) ⊎ (year ≡ 2035)

-- that of a base date is one
pub year_known : (base : Base) → IsYear (year_of base)
year_known Y1993 = search rules
year_known Y2014 = search rules
year_known Y2035 = search rules

-- and has 32 bits
pub year_small : (base : Base) → year_of base < 2 ^ 32
year_small Y1993 = omega arith
year_small Y2014 = omega arith
year_small Y2035 = omega arith

-- a base date, by its year
pub same_year : (a b : Base) → year_of a ≡ year_of b → a ≡ b
same_year Y1993 Y1993 e = refl
same_year Y1993 Y2014 e = absurd (omega (arith, e))
same_year Y1993 Y2035 e = absurd (omega (arith, e))
same_year Y2014 Y1993 e = absurd (omega (arith, e))
same_year Y2014 Y2014 e = refl
same_year Y2014 Y2035 e = absurd (omega (arith, e))
same_year Y2035 Y1993 e = absurd (omega (arith, e))
same_year Y2035 Y2014 e = absurd (omega (arith, e))
same_year Y2035 Y2035 e = refl
