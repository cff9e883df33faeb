-- A sum of numbers from 0 up, where 64 bits hold it, and the column that keeps it.
use Rattle.std.proofs.Common.{◌≡◌, ◌+◌, ◌<◌, ◌^◌, ℕ, pos, lt-ltb, ap, ◌∙◌}
use Rattle.sqlite_value.specs.declared.value.Value.TheVariants.{Int}
use Rattle.sqlite_schema.specs.declared.schema.Kind.TheVariants.{Integer}
use Rattle.sqlite_sql.specs.Ops.{binary}
use Rattle.sqlite_sql.specs.declared.ops.ArithOp.TheVariants.{Add}
use Rattle.sqlite_sql.specs.declared.ops.BinaryOp.TheVariants.{Arith}
use Rattle.sqlite_rules.specs.Cast.{cast}
use Rattle.sqlite_typed.proofs.TestLemmas.{sum_fits}
use Rattle.one_table.proofs.CastLemmas.{cast_int}

-- the sum of two numbers from 0 up, where 64 bits hold it
pub sum_is : (a b : ℕ) → a + b < 2 ^ 63 → binary (Arith Add) (Int (pos a)) (Int (pos b)) ≡ Int (pos (a + b))
sum_is a b low = sum_fits (pos a) (pos b) (lt-ltb (a + b) (2 ^ 63) low)

-- an INTEGER column keeps that sum as it is
pub cast_sum : (a b : ℕ) → a + b < 2 ^ 63 → cast Integer (binary (Arith Add) (Int (pos a)) (Int (pos b))) ≡ Int (pos (a + b))
cast_sum a b low = ap (cast Integer) (sum_is a b low) ∙ cast_int (pos (a + b))
