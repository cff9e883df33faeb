-- The cells of records: what they hold, and their texts.
use Rattle.std.specs.Prelude.{◌≡◌, ℕ, ◌^◌, ◌<◌, ◌&&◌, ◌==◌, Bool, true, not, nat_le, nat_lt}
use Rattle.std.specs.Prelude.{List, ◌∷◌, ◌++◌, [], codes, decimal, ⊤}
use Rattle.std.specs.List.{AllByRecursion}
use Rattle.records.specs.declared.cell.Cell.{Cell}
use Rattle.records.specs.declared.cell.Cell.TheVariants.{Number, Text, Nothing}

-- what a cell holds: a number, a text, or nothing
pub data Held : Type 0 where
  number : ℕ → Held
  text : List ℕ → Held
  nothing : Held

abbrev pub held : Cell → Held
held (Number n) = number n
held (Text bytes) = text bytes.now
held Nothing = nothing

-- a letter, a digit, a blank or another sign of ASCII, but neither a quotation mark nor a backslash
abbrev pub is_plain : ℕ → Bool
is_plain byte = nat_le 32 byte && (nat_lt byte 127 && (not (byte == 34) && not (byte == 92)))

-- a text that stands between quotation marks as it is
abbrev pub IsPlain : List ℕ → Type 0
IsPlain bytes = AllByRecursion (λ byte. is_plain byte ≡ true) bytes

-- what a record can tell: a number of 64 bits, a plain text, or nothing
abbrev pub IsTellable : Held → Type 0
IsTellable (number n) = n < 2 ^ 64
IsTellable (text bytes) = IsPlain bytes
IsTellable nothing = ⊤

-- a cell whose text has no quotation marks
abbrev pub IsBare : Held → Type 0
IsBare (number n) = ⊤
IsBare (text bytes) = ⊥
IsBare nothing = ⊤

-- a text between quotation marks
abbrev pub in_quotes : List ℕ → List ℕ
in_quotes bytes = 34 ∷ (bytes ++ 34 ∷ [])

-- a number in decimal digits, a text in quotation marks, and `null` for nothing
abbrev pub cell_text : Held → List ℕ
cell_text (number n) = decimal n
cell_text (text bytes) = in_quotes bytes
cell_text nothing = codes "null"
