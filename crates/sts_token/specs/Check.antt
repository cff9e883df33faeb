-- The check of a token: sixteen bits over the 56 bits of seven bytes.
use Rattle.std.specs.Prelude.{ℕ, ◌/◌, ◌%◌, ◌==◌, List, [], ◌∷◌, map, if◌then◌else◌, bit_xor}
use Rattle.std.specs.List.{flat_map, fold}
use Rattle.std.specs.Int.{bit_at}

-- the bits of a byte, the lowest first
abbrev pub bits_of : ℕ → List ℕ
bits_of byte = map (bit_at byte) (0 ∷ 1 ∷ 2 ∷ 3 ∷ 4 ∷ 5 ∷ 6 ∷ 7 ∷ [])

-- the check after one more bit: shifted right, and A001 added where the bit shifted out is another
-- one
abbrev pub check_step : ℕ → ℕ → ℕ
check_step check bit = if check % 2 == bit then check / 2 else bit_xor (check / 2) 0xA001

-- the check of some bytes: their bits in order, starting from FFFF
unfoldable pub check_of : List ℕ → ℕ
check_of bytes = fold check_step 0xFFFF (flat_map bits_of bytes)
