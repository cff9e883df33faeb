-- Which paths are no names of files.
use Rattle.std.specs.Prelude.{Bool, ◌||◌, codes, eqb}
use Rattle.std.specs.Cmp.Lexicographic.{pointwise}
use Rattle.std.specs.List.{starts_with}
use Rattle.sts_fields.specs.Text.{Text}

-- what SQLite takes for a database in memory, or for the address of one
abbrev pub is_address : Text → Bool
is_address path = pointwise eqb path (codes ":memory:") || starts_with eqb path (codes "file:")
