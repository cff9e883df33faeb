-- Texts.
use Rattle.std.specs.Prelude.{ℕ, List}

-- a text, as its bytes
abbrev pub Text : Type 0
Text = List ℕ

-- '-'
abbrev pub hyphen : ℕ
hyphen = 45

-- ':'
abbrev pub colon : ℕ
colon = 58
