-- The last line of a text.
use Rattle.std.specs.Prelude.{◌≡◌, ℕ, Bool, true, false, [], ◌∷◌, ◌++◌, eqb, take}
use Rattle.std.specs.Prelude.{if◌then◌else◌}
use Rattle.sts_fields.specs.Text.{Text}
use Rattle.terminal_advice.specs.declared.last_line.LastLine.{LastLine}

-- a line, and whether its end was there: what comes behind that belongs to the next
pub record Line : Type 0 where
  pub bytes : Text
  pub ended : Bool

-- what a further byte goes behind
abbrev pub begun : Line → Text
begun line = if line.ended then [] else line.bytes

-- a line feed ends a line
abbrev pub line_after : Line → ℕ → Line
line_after line byte =
    if eqb byte 10 then record { bytes = begun line; ended = true }
    else record { bytes = begun line ++ byte ∷ []; ended = false }

-- the last line when a text has come behind a line
abbrev pub line_along : Line → Text → Line
line_along line [] = line
line_along line (byte ∷ rest) = line_along (line_after line byte) rest

-- the last line of a text
abbrev pub last_line : Text → Line
last_line text = line_along (record { bytes = []; ended = false }) text

-- of a line no more is kept than its first 128 bytes
pub record IsKept (line : Line) (kept : LastLine) : Type 0 where
  pub bytes : kept.bytes.items ≡ take 128 line.bytes
  pub ended : kept.ended ≡ line.ended
