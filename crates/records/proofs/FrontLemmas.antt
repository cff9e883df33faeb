-- What stands at the front of a text stands there in one way.
use Rattle.std.proofs.Common.{◌≡◌, ◌≢◌, ◌∙◌, ℕ, ◌^◌, ◌<◌, ◌≤◌, true, false, true≢false, List, [], ◌∷◌, ◌++◌, length, take, drop, get_or, codes, refl, ap, sym, subst, append_assoc, arith}
use Rattle.std.specs.Prelude.{All, decimal, slice_index}
use Rattle.std.specs.Str.Parse.{AllDigits}
use Rattle.std.proofs.lemmas.Bool.Decides.{nat_tests}
use Rattle.std.proofs.lemmas.Fmt.{decimal_is_IsNumeral, decimal_injective}
use Rattle.std.proofs.lemmas.List.{append_cancel_left}
use Rattle.std.proofs.lemmas.List.Elements.{All-from_get_or, recursion_from_All}
use Rattle.std.proofs.lemmas.Str.Parse.{digit_at}
use Rattle.records.specs.Cell.{Held, number, text, nothing, IsBare, IsPlain, IsTellable, cell_text, in_quotes, is_plain}
use Rattle.records.specs.Front.{BeginsWithStop, LacksStop, is_stop}
use Rattle.records.proofs.CutLemmas.{cut, cut_at}

false≢true : false ≢ true
false≢true e = true≢false (sym e)

-- ---- texts in quotes

-- a plain text ends at one quotation mark
pub one_text : (a b x y : List ℕ) → IsPlain a → IsPlain b → a ++ (34 ∷ x) ≡ b ++ (34 ∷ y) → (a ≡ b) × (x ≡ y)
one_text a b x y pa pb e =
    let same = cut is_plain true false true≢false a b 34 34 x y pa pb refl refl e in
    let rest = same.1 in
    (same.0, cc)

-- ---- words in front of a comma or a brace

-- a word without a stop ends at one
pub one_word : (a b x y : List ℕ) → LacksStop a → LacksStop b → BeginsWithStop x → BeginsWithStop y → a ++ x ≡ b ++ y → (a ≡ b) × (x ≡ y)
one_word a b [] y la lb u v e = absurd (false≢true u)
one_word a b (c ∷ x) [] la lb u v e = absurd (false≢true v)
one_word a b (c ∷ x) (d ∷ y) la lb u v e = cut is_stop false true false≢true a b c d x y la lb u v e

digit_lacks : (b : ℕ) → 48 ≤ b → b ≤ 57 → is_stop b ≡ false
digit_lacks b low high = grind (arith, nat_tests)

-- the digits of a number have no stop among them
pub lacks_number : (n : ℕ) → n < 2 ^ 64 → LacksStop (decimal n)
lacks_number n small =
    recursion_from_All (λ byte. is_stop byte ≡ false) (decimal n) (All-from_get_or (λ byte. is_stop byte ≡ false) (decimal n) 0 (λ i inside.
    let is = digit_at (decimal n) i (decimal_is_IsNumeral n small).0.1 inside in
    digit_lacks (get_or (decimal n) i 0) is.0 is.1))

-- nor has any cell without quotation marks
pub lacks_stop : (cell : Held) → IsTellable cell → IsBare cell → LacksStop (cell_text cell)
lacks_stop (number n) is bare = lacks_number n is
lacks_stop (text bytes) is bare = absurd bare
lacks_stop nothing is bare = (refl, (refl, (refl, (refl, tt))))

-- ---- what was read

-- what a text begins with, in front of the quotation mark
pub text_found : (quoted rest behind : List ℕ) (n : ℕ) → All (λ byte. is_plain byte ≡ true) (take n quoted)
    → (n < length quoted → is_plain (slice_index quoted n) ≡ false) → rest ≡ drop n quoted → ((more : List ℕ) → rest ≢ 34 ∷ more)
    → (bytes more : List ℕ) → IsPlain bytes → quoted ≢ bytes ++ (34 ∷ more)
text_found quoted rest behind n before found is none bytes more plain e =
    none more (cut_at is_plain true false true≢false quoted rest n before found is bytes 34 more plain refl e).1

-- where no stop stands behind the first bytes that are none, no word stands in front of one
pub no_word : (whole rest : List ℕ) (n : ℕ) → All (λ byte. is_stop byte ≡ false) (take n whole)
    → (n < length whole → is_stop (slice_index whole n) ≡ true) → rest ≡ drop n whole → ¬ BeginsWithStop rest
    → (word more : List ℕ) → LacksStop word → BeginsWithStop more → whole ≢ word ++ more
no_word whole rest n before found is none word [] lacks begins e = false≢true begins
no_word whole rest n before found is none word (d ∷ more) lacks begins e =
    let same = cut_at is_stop false true false≢true whole rest n before found is word d more lacks begins e in
    none (subst BeginsWithStop (sym same.1) begins)

tails : (a b : ℕ) (x y : List ℕ) → a ∷ x ≡ b ∷ y → x ≡ y
tails a b x y e = cc

heads : (a b : ℕ) (x y : List ℕ) → a ∷ x ≡ b ∷ y → a ≡ b
heads a b x y e = cc

-- a number begins with a digit
number_begins : (n : ℕ) → n < 2 ^ 64 → (rest : List ℕ) (b : ℕ) (more : List ℕ) → decimal n ++ rest ≡ b ∷ more → (48 ≤ b) × (b ≤ 57)
number_begins n small rest b more e = by_digits (decimal n) refl
  where
    by_digits : (digits : List ℕ) → digits ≡ decimal n → (48 ≤ b) × (b ≤ 57)
    by_digits [] none = absurd (omega (arith, (decimal_is_IsNumeral n small).0.0, ap length none))
    by_digits (d ∷ digits) some =
        let is = digit_at (d ∷ digits) 0 (subst (AllDigits 10) (sym some) (decimal_is_IsNumeral n small).0.1) (omega arith) in
        let first : d ≡ b = heads d b (digits ++ rest) more (ap (λ (t : List ℕ). t ++ rest) some ∙ e) in
        (omega (arith, is.0, first), omega (arith, is.1, first))

-- no cell stands at a quotation mark but a text
pub no_quoted : (quoted : List ℕ) → ((bytes rest : List ℕ) → IsPlain bytes → BeginsWithStop rest → quoted ≢ bytes ++ (34 ∷ rest))
    → (cell : Held) (rest : List ℕ) → IsTellable cell → BeginsWithStop rest → 34 ∷ quoted ≢ cell_text cell ++ rest
no_quoted quoted none (number n) rest is begins = λ e. omega (arith, (number_begins n is rest 34 quoted (sym e)).0)
no_quoted quoted none (text bytes) rest is begins = λ e.
    none bytes rest is begins (tails 34 34 quoted ((bytes ++ 34 ∷ []) ++ rest) e ∙ append_assoc bytes (34 ∷ []) rest)
no_quoted quoted none nothing rest is begins = λ e. omega (arith, heads 34 110 quoted (117 ∷ 108 ∷ 108 ∷ rest) e)

-- ---- one cell

same_numbers : (m n : ℕ) (r q : List ℕ) → m < 2 ^ 64 → n < 2 ^ 64 → BeginsWithStop r → BeginsWithStop q → decimal m ++ r ≡ decimal n ++ q
    → (number m ≡ number n) × (r ≡ q)
same_numbers m n r q small few u v e =
    let same = one_word (decimal m) (decimal n) r q (lacks_number m small) (lacks_number n few) u v e in
    (ap number (decimal_injective m n small few same.0), same.1)

same_texts : (a b r q : List ℕ) → IsPlain a → IsPlain b → in_quotes a ++ r ≡ in_quotes b ++ q → (text a ≡ text b) × (r ≡ q)
same_texts a b r q plain other e =
    let same = one_text a b r q plain other
    (sym (append_assoc a (34 ∷ []) r) ∙ tails 34 34 ((a ++ 34 ∷ []) ++ r) ((b ++ 34 ∷ []) ++ q) e ∙ append_assoc b (34 ∷ []) q) in
    (ap text same.0, same.1)

-- the text of a cell in front of a stop is that of no other cell, and has one rest
pub one_cell : (a b : Held) (r q : List ℕ) → IsTellable a → IsTellable b → BeginsWithStop r → BeginsWithStop q → cell_text a ++ r ≡ cell_text b ++ q
    → (a ≡ b) × (r ≡ q)
one_cell (number m) (number n) r q is are u v = λ e. same_numbers m n r q is are u v e
one_cell (number m) (text b) r q is are u v = λ e.
    absurd (omega (arith, (number_begins m is r 34 ((b ++ 34 ∷ []) ++ q) e).0))
one_cell (number m) nothing r q is are u v = λ e.
    absurd (omega (arith, (number_begins m is r 110 (117 ∷ 108 ∷ 108 ∷ q) e).1))
one_cell (text a) (number n) r q is are u v = λ e.
    absurd (omega (arith, (number_begins n are q 34 ((a ++ 34 ∷ []) ++ r) (sym e)).0))
one_cell (text a) (text b) r q is are u v = λ e. same_texts a b r q is are e
one_cell (text a) nothing r q is are u v = λ e. absurd (omega (arith, heads 34 110 ((a ++ 34 ∷ []) ++ r) (117 ∷ 108 ∷ 108 ∷ q) e))
one_cell nothing (number n) r q is are u v = λ e.
    absurd (omega (arith, (number_begins n are q 110 (117 ∷ 108 ∷ 108 ∷ r) (sym e)).1))
one_cell nothing (text b) r q is are u v = λ e. absurd (omega (arith, heads 110 34 (117 ∷ 108 ∷ 108 ∷ r) ((b ++ 34 ∷ []) ++ q) e))
one_cell nothing nothing r q is are u v = λ e. (refl, append_cancel_left (codes "null") r q e)
