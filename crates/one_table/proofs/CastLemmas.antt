-- A column keeps a value of its own kind.
use Rattle.std.proofs.Common.{◌≡◌, ℤ, Bool, true, false, cond, refl}
use Rattle.sqlite_value.specs.declared.value.Value.{Value}
use Rattle.sqlite_value.specs.declared.value.Value.TheVariants.{Null, Int}
use Rattle.sqlite_sql.specs.Ops.{unary}
use Rattle.sqlite_schema.specs.declared.schema.Kind.TheVariants.{Integer}
use Rattle.sqlite_rules.specs.Cast.{cast}

either : (b : Bool) (x : Value) → cond b x x ≡ x
either true x = refl
either false x = refl

-- an INTEGER column keeps a whole number as it is
pub cast_int : (n : ℤ) → cast Integer (Int n) ≡ Int n
unfolding unary
cast_int n = either _ (Int n)

-- an INTEGER column keeps NULL as it is
pub cast_no_int : cast Integer Null ≡ Null
unfolding unary
cast_no_int = either _ Null
