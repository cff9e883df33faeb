-- What follows for a caller: the one row of a look-up, the last row, and rows with a hidden number.
use Rattle.std.proofs.Common.{◌≡◌, ℤ, ◌≤◌, ◌<ℤ◌, arith, Bool, true, false, List, [], ◌∷◌, map, filter, find, take, length, reverse, option_map, slice_get, refl, sym, ap, ap₂, ◌∙◌, true≢false}
use Rattle.std.proofs.lemmas.Int.{ints}
use Rattle.std.proofs.lemmas.Option.{slice_get-map}
use Rattle.sqlite_value.specs.declared.value.Value.{Value}
use Rattle.sqlite_value.specs.Order.{Row}
use Rattle.sqlite_trees.specs.Tree.{IsAscending}
use Rattle.sqlite_keyed.specs.Keyed.{IsKeyedBy}
use Rattle.sqlite_keyed.specs.Rules.{AreApart}
use Rattle.sqlite_keyed.proofs.ListLemmas.{map-map, filter-map, filter_none, all_weaker, slice_get-filter, first_taken}
use Rattle.one_table.specs.Numbered.{AreHidden}

-- ---- at most one row

-- a test that cannot pass is false
pub unless_true : (b : Bool) → (b ≡ true → ⊥) → b ≡ false
unless_true true h = absurd (h refl)
unless_true false h = refl

-- where of two rows of the table at most one passes
pub few_pass : {X : Type 0} (R : X → X → Type 0) (p : X → Bool) (xs : List X) → IsAscending R xs
    → ((x y : X) → R x y → p x ≡ true → p y ≡ false) → length (filter p xs) ≤ 1
few_pass R p [] up apart = omega arith
few_pass R p (x ∷ xs) up apart = by_test (p x) refl (few_pass R p xs up.1 apart)
  where
    by_test : (b : Bool) → p x ≡ b → length (filter p xs) ≤ 1 → length (filter p (x ∷ xs)) ≤ 1
    by_test false is fewer = rw is fewer
    by_test true is fewer = rw (is, filter_none p xs (all_weaker (R x) (λ y. p y ≡ false) (λ y below. apart x y below is) xs up.0)) (omega arith)

-- the rows that pass have one key
pub few_of_key : {X : Type 0} (key : X → ℤ) (k : ℤ) (p : X → Bool) (xs : List X) → IsKeyedBy key xs → ((x : X) → p x ≡ true → key x ≡ k)
    → length (filter p xs) ≤ 1
few_of_key key k p xs keyed is = few_pass (λ a b. key a <ℤ key b) p xs keyed
    (λ x y below here. unless_true (p y) (λ there. let one : key x ≡ key y = is x here ∙ sym (is y there) in grind (arith, ints, below, one)))

-- a row that passes clashes with each other that does
pub few_apart : {X : Type 0} (clash : X → X → Bool) (p : X → Bool) (xs : List X) → AreApart clash xs
    → ((x y : X) → p x ≡ true → p y ≡ true → clash x y ≡ true) → length (filter p xs) ≤ 1
few_apart clash p xs apart clashes = few_pass (λ a b. clash a b ≡ false) p xs apart
    (λ x y differ here. unless_true (p y) (λ there. true≢false (sym (clashes x y here there) ∙ differ)))

-- ---- the first row

-- the first row of an answer is that of the first value that passes
pub first_row : {X : Type 0} (show : X → Row) (p : X → Bool) (xs : List X) (rows : List Row) → rows ≡ map show (filter p xs)
    → slice_get rows 0 ≡ option_map show (find p xs)
first_row show p xs rows is = ap (λ l. slice_get l 0) is ∙ slice_get-map show (filter p xs) 0 ∙ ap (option_map show) (slice_get-filter p xs)

-- ORDER BY .. DESC LIMIT 1
pub last_row : {X : Type 0} (show : X → Row) (ys : List X) (rows : List Row) → rows ≡ take 1 (map show (reverse ys)) → slice_get rows 0
    ≡ option_map show (slice_get (reverse ys) 0)
last_row show ys rows is = ap (λ l. slice_get l 0) is ∙ first_taken (map show (reverse ys)) ∙ slice_get-map show (reverse ys) 0

-- ---- rows with a hidden number

module _ {X : Type 0} (stored : X → Row) where
  -- the row of a value, behind its hidden number
  abbrev pub with_number : Value × X → Row
  with_number x = x.0 ∷ stored x.1

  -- the rows are the values beside their hidden numbers
  pub numbered : ((x : X) → (stored x ≡ []) → ⊥) → (rows : List Row) (xs : List X) → AreHidden stored rows xs → (both : List (Value × X))
      × (rows ≡ map with_number both) × (map (λ (x : Value × X). x.1) both ≡ xs)
  numbered some [] [] is = ([], refl, refl)
  numbered some [] (x ∷ xs) is = absurd (let e = ap length is in omega arith)
  numbered some (r ∷ rows) [] is = absurd (let e = ap length is in omega arith)
  numbered some ([] ∷ rows) (x ∷ xs) is = absurd (let first : [] ≡ stored x = cc in some x (sym first))
  numbered some ((v ∷ r) ∷ rows) (x ∷ xs) is =
      let first : r ≡ stored x = cc in
      let more = numbered some rows xs cc in
      ((v, x) ∷ more.0, ap₂ (λ a l. (v ∷ a) ∷ l) first more.1, ap (λ l. x ∷ l) more.2)

  -- a test that does not see the numbers
  pub without_numbers : {Y : Type 0} (show : X → Y) (p : X → Bool) (both : List (Value × X))
      → map (λ (x : Value × X). show x.1) (filter (λ (x : Value × X). p x.1) both) ≡ map show (filter p (map (λ (x : Value × X). x.1) both))
  without_numbers show p both = sym (map-map show (λ (x : Value × X). x.1) (filter (λ (x : Value × X). p x.1) both))
      ∙ ap (map show) (sym (filter-map p (λ (x : Value × X). x.1) both))
