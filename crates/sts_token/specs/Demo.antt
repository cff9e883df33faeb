-- The transform Demo: a Feistel network of four rounds on halves of 32 bits.
use Rattle.std.specs.Prelude.{ℕ, ◌+◌, ◌*◌, ◌/◌, ◌%◌, ◌^◌, List, [], ◌∷◌, bit_xor, reverse}
use Rattle.std.specs.Int.{rotate_left, w32}
use Rattle.std.specs.List.{fold}
use Rattle.sts_token.specs.Token.{BlockFunction}
use Rattle.sts_token.specs.declared.demo.Halves.{Halves}

-- a number of 64 bits as its halves, and back
abbrev pub halves_of : ℕ → Halves
halves_of number = record { left = number / 2 ^ 32; right = number % 2 ^ 32 }

abbrev pub joined : Halves → ℕ
joined halves = halves.left * 2 ^ 32 + halves.right

-- the round function: the sum of half and round key, modulo 2 ^ 32, rotated by 5 and by 12
abbrev pub mixed : ℕ → ℕ → ℕ
mixed half round_key =
    let sum = (half + round_key) % 2 ^ 32 in
    bit_xor (rotate_left w32 sum 5) (rotate_left w32 sum 12)

-- a round, and the round undone
abbrev pub after_round : Halves → ℕ → Halves
after_round halves round_key =
    record { left = halves.right; right = bit_xor halves.left (mixed halves.right round_key) }

abbrev pub before_round : Halves → ℕ → Halves
before_round halves round_key =
    record { left = bit_xor halves.right (mixed halves.left round_key); right = halves.left }

-- the key's high half, its low half, and each of them changed
abbrev pub round_keys : ℕ → List ℕ
round_keys key =
    let high = key / 2 ^ 32 in
    let low = key % 2 ^ 32 in
    high ∷ low ∷ bit_xor high 0xA5A5A5A5 ∷ bit_xor low 0x5A5A5A5A ∷ []

-- the rounds in order, and undone from the last one back
unfoldable pub demo_forward : BlockFunction
demo_forward key block = joined (fold after_round (halves_of block) (round_keys key))

unfoldable pub demo_inverse : BlockFunction
demo_inverse key block = joined (fold before_round (halves_of block) (reverse (round_keys key)))
