-- The last row by number, and how many rows there are.
use Rattle.std.proofs.Common.{◌≡◌, ℕ, suc, ◌+◌, ◌<ℤ◌, true, List, [], ◌∷◌, ◌++◌, length, get_or, map, take, reverse, Option, None, Some, IfSome, unwrap_or, option_map, pos, refl, sym, ap, ◌∙◌, arith}
use Rattle.std.specs.Prelude.{All, filter, slice_get}
use Rattle.std.specs.List.{last_or}
use Rattle.std.specs.Option.{option_to_list}
use Rattle.std.proofs.lemmas.Int.{ints}
use Rattle.std.proofs.lemmas.List.{reverse-append}
use Rattle.std.proofs.lemmas.List.Elements.{All-head, All-tail, recursion_from_All}
use Rattle.std.proofs.lemmas.Option.{slice_get-get_or}
use Rattle.sqlite.specs.Order.{Row}
use Rattle.sqlite_keyed.specs.Keyed.{IsKeyedBy}
use Rattle.office_rules.specs.Office.{AreNumbered}
use Rattle.book_tables.specs.row.Rows.{shown_number}

-- rows that are numbered on from a number
abbrev AreNumberedFrom : {X : Type 0} → (X → ℕ) → ℕ → List X → Type 0
AreNumberedFrom {X} number from xs = (i : ℕ) (x : X) → slice_get xs i ≡ Some x → number x ≡ i + from

further : {X : Type 0} (number : X → ℕ) (from : ℕ) (x : X) (xs : List X) → AreNumberedFrom number from (x ∷ xs) → AreNumberedFrom number (from + 1) xs
further number from x xs each i y there = let is = each (suc i) y there in omega (arith, is)

rise_from : {X : Type 0} (number : X → ℕ) (from : ℕ) (xs : List X) → AreNumberedFrom number from xs → IsKeyedBy (λ x. pos (number x)) xs
rise_from number from [] each = tt
rise_from number from (x ∷ xs) each = (
  recursion_from_All (λ y. pos (number x) <ℤ pos (number y)) xs (λ i d within.
      let first = each 0 x refl in
      let later = each (suc i) (get_or xs i d) (slice_get-get_or xs i d within) in
      grind (arith, ints, first, later)),
  rise_from number (from + 1) xs (further number from x xs each),
)

-- numbers that run from 1 rise
pub numbers_rise : {X : Type 0} (number : X → ℕ) (xs : List X) → AreNumbered number xs → IsKeyedBy (λ x. pos (number x)) xs
numbers_rise number xs numbered = rise_from number 1 xs numbered

count_from : {X : Type 0} (number : X → ℕ) (o : Option X) (from : ℕ) (xs : List X) → unwrap_or (option_map number o) 0 + 1 ≡ from
    → AreNumberedFrom number from xs
    → unwrap_or (option_map number (last_or o xs)) 0 + 1 ≡ from + length xs
count_from number o from [] is each = omega (arith, is)
count_from number o from (x ∷ xs) is each =
    let first = each 0 x refl in
    let rest = count_from number (Some x) (from + 1) xs (omega (arith, first)) (further number from x xs each) in
    omega (arith, rest)

-- the last number is how many there are
pub last_is_count : {X : Type 0} (number : X → ℕ) (xs : List X) → AreNumbered number xs → unwrap_or (option_map number (last_or None xs)) 0 ≡ length xs
last_is_count number xs numbered = let is = count_from number None 1 xs refl numbered in omega (arith, is)

last_keeps : {X : Type 0} (P : X → Type 0) (o : Option X) (xs : List X) → IfSome o P → All P xs → IfSome (last_or o xs) P
last_keeps P o [] first all = first
last_keeps P o (x ∷ xs) first all = last_keeps P (Some x) xs (All-head P x xs all) (All-tail P x xs all)

number_keeps : {X : Type 0} (number : X → ℕ) (P : ℕ → Type 0) (o : Option X) → IfSome o (λ x. P (number x)) → IfSome (option_map number o) P
number_keeps number P None kept = _
number_keeps number P (Some x) kept = kept

-- the last number keeps the rule that all numbers keep
pub last_number_keeps : {X : Type 0} (number : X → ℕ) (P : ℕ → Type 0) (xs : List X) → All (λ x. P (number x)) xs
    → IfSome (option_map number (last_or None xs)) P
last_number_keeps number P xs all = number_keeps number P (last_or None xs) (last_keeps (λ x. P (number x)) None xs _ all)

-- ---- the first row backwards

first_only : {X : Type 0} (before : List X) (x : X) (bs : List X) → take 1 ((before ++ x ∷ []) ++ bs) ≡ take 1 (before ++ x ∷ [])
first_only [] x bs = refl
first_only (a ∷ before) x bs = refl

last_first : {X : Type 0} (o : Option X) (xs : List X) → take 1 (reverse xs ++ option_to_list o) ≡ option_to_list (last_or o xs)
last_first None [] = refl
last_first (Some x) [] = refl
last_first o (x ∷ xs) =
    ap (λ l. take 1 (l ++ option_to_list o)) (reverse-append (x ∷ []) xs) ∙ first_only (reverse xs) x (option_to_list o) ∙ last_first (Some x) xs

no_more : {X : Type 0} (xs : List X) → xs ++ [] ≡ xs
no_more [] = refl
no_more (x ∷ xs) = ap (λ l. x ∷ l) (no_more xs)

one_shown : {X : Type 0} (number : X → ℕ) (xs : List X) → take 1 (map (λ x. shown_number (number x)) xs) ≡ map (λ x. shown_number (number x)) (take 1 xs)
one_shown number [] = refl
one_shown number (x ∷ xs) = refl

number_shown : {X : Type 0} (number : X → ℕ) (o : Option X) → map (λ x. shown_number (number x)) (option_to_list o)
    ≡ map shown_number (option_to_list (option_map number o))
number_shown number None = refl
number_shown number (Some x) = refl

-- the first row backwards shows the last number
pub last_number_shown : {X : Type 0} (number : X → ℕ) (xs : List X)
    → take 1 (map (λ x. shown_number (number x)) (reverse xs)) ≡ map shown_number (option_to_list (option_map number (last_or None xs)))
last_number_shown number xs =
    one_shown number (reverse xs) ∙ ap (map (λ x. shown_number (number x))) (ap (take 1) (sym (no_more (reverse xs))) ∙ last_first None xs)
    ∙ number_shown number (last_or None xs)

-- a test that all pass leaves the list as it is
pub all_pass : {X : Type 0} (xs : List X) → filter (λ _. true) xs ≡ xs
all_pass [] = refl
all_pass (x ∷ xs) = ap (λ l. x ∷ l) (all_pass xs)

-- of at most one row the first backwards is the first
pub only_backwards : {X : Type 0} (shown : X → Row) (o : Option X) → take 1 (map shown (reverse (option_to_list o))) ≡ map shown (option_to_list o)
only_backwards shown None = refl
only_backwards shown (Some x) = refl
