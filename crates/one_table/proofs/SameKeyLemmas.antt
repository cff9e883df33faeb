-- Whether two rows have one key, where this is the number of a row, or a UNIQUE of a text and a
-- number.
use Rattle.std.proofs.Common.{◌≡◌, ℕ, ℤ, pos, ◌==◌, ◌&&◌, ◌||◌, Bool, true, false, List, [], ◌∷◌, bytes_eq, refl}
use Rattle.sqlite_value.specs.declared.value.Value.TheVariants.{Int, Text}
use Rattle.sqlite_value.specs.Keys.{first_key, plain}
use Rattle.sqlite_value.specs.Order.{Row}
use Rattle.one_table.specs.Upserting.{is_of_key}
use Rattle.one_table.proofs.TestsLemmas.{number_is, text_is}

alone : (a : Bool) → ((a && true) || false) ≡ a
alone true = refl
alone false = refl

both : (a b : Bool) → ((a && (b && true)) || false) ≡ (a && b)
both true b = alone b
both false b = refl

-- two rows have one rowid exactly if their numbers are equal
pub of_number : (a b : ℕ) (given there : Row) → is_of_key [] (0 ∷ []) (Int (pos a) ∷ given) (Int (pos b) ∷ there) ≡ (b == a)
unfolding first_key
of_number a b given there = rw (number_is b a) (alone (b == a))

-- two rows have one UNIQUE exactly if their texts and their numbers are equal
pub of_text_and_number : (a b : List ℕ) (m n : ℕ) (number other : ℤ) (given there : Row)
    → is_of_key ((true, 1 ∷ 2 ∷ [], plain) ∷ []) (1 ∷ 2 ∷ []) (Int number ∷ Text a ∷ Int (pos m) ∷ given)
    (Int other ∷ Text b ∷ Int (pos n) ∷ there) ≡ (bytes_eq b a && (n == m))
unfolding first_key
of_text_and_number a b m n number other given there = rw (text_is b a, number_is n m) (both (bytes_eq b a) (n == m))
