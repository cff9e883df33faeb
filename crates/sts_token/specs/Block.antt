-- The block of a token, and the number that a transformed block becomes.
use Rattle.std.specs.Prelude.{ℕ, ◌+◌, ◌*◌, ◌/◌, ◌%◌, ◌^◌}
use Rattle.std.specs.Int.{bytes_high_first}
use Rattle.sts_fields.specs.Amount.{code_of}
use Rattle.sts_token.specs.Check.{check_of}
use Rattle.sts_token.specs.Fields.{TokenFields}

-- the 48 bits before the check: subclass 4, rnd 4, tid 24, code 16, the first one highest
abbrev pub payload_of : ℕ → TokenFields → ℕ
payload_of subclass f = subclass * 2 ^ 44 + f.rnd * 2 ^ 40 + f.tid * 2 ^ 16 + code_of f.tenths

-- the check of a payload: that of its seven bytes, the highest first
abbrev pub check_of_payload : ℕ → ℕ
check_of_payload payload = check_of (bytes_high_first 7 payload)

-- the block of 64 bits: the payload, and its check in the sixteen low bits
abbrev pub block_of : ℕ → TokenFields → ℕ
block_of subclass f = payload_of subclass f * 2 ^ 16 + check_of_payload (payload_of subclass f)

-- the number of a transformed block: two of its bits, 28 and 27, move to the top, and the class, 0,
-- takes their place
abbrev pub number_of : ℕ → ℕ
number_of block = block / 2 ^ 27 % 4 * 2 ^ 64 + block / 2 ^ 29 * 2 ^ 29 + block % 2 ^ 27
