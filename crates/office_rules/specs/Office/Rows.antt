-- The rows of an import.
use Rattle.std.specs.Prelude.{ℕ}

-- how many rows an import has at the most
abbrev pub greatest_rows : ℕ
greatest_rows = 10000
