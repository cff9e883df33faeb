-- The tests of WHERE at numbers from 0 up and at texts, as a look-up has them.
use Rattle.std.proofs.Common.{◌≡◌, ℕ, ◌==◌, nat_lt, nat_le, Option, is_some, false, not, List, pos, bytes_eq, arith, refl, ◌∙◌}
use Rattle.std.proofs.lemmas.Int.{ints}
use Rattle.std.proofs.lemmas.Map.Text.{is_eq-slice_cmp}
use Rattle.sqlite_value.specs.declared.keys.Collation.TheVariants.{Binary}
use Rattle.sqlite_value.specs.declared.value.Value.TheVariants.{Null, Int, Text}
use Rattle.sqlite_value.specs.Order.{value_cmp}
use Rattle.sqlite_sql.specs.declared.ops.BinaryOp.TheVariants.{Compare, Is}
use Rattle.sqlite_sql.specs.declared.ops.CompareOp.TheVariants.{Eq, Gt, Le}
use Rattle.sqlite_sql.specs.Ops.{binary, is_true}
use Rattle.sqlite_typed.specs.Columns.{or_null}
use Rattle.sqlite_typed.proofs.TestLemmas.{at_ints, at_texts, at_is_null}

-- `=` at two numbers tells whether they are equal
pub number_is : (a b : ℕ) → is_true (binary (Compare Eq Binary) (Int (pos a)) (Int (pos b))) ≡ (a == b)
number_is a b = at_ints false Eq (pos a) (pos b) ∙ grind (arith, ints)

-- `>` at two numbers tells whether the first is greater
pub number_above : (a b : ℕ) → is_true (binary (Compare Gt Binary) (Int (pos a)) (Int (pos b))) ≡ nat_lt b a
number_above a b = at_ints false Gt (pos a) (pos b)

-- `<=` at two numbers tells whether the first is no greater
pub number_up_to : (a b : ℕ) → is_true (binary (Compare Le Binary) (Int (pos a)) (Int (pos b))) ≡ nat_le a b
number_up_to a b = at_ints false Le (pos a) (pos b)

-- `=` at two texts tells whether their bytes are equal
pub text_is : (a b : List ℕ) → is_true (binary (Compare Eq Binary) (Text a) (Text b)) ≡ bytes_eq a b
text_is a b = at_texts false Eq a b ∙ is_eq-slice_cmp a b

-- IS NULL, of a number that may be absent
pub number_absent : (a : Option ℕ) → is_true (binary (Is Binary) (or_null (λ n. Int (pos n)) a) Null) ≡ not (is_some a)
unfolding value_cmp
number_absent a = at_is_null (λ n. Int (pos n)) false (λ n. refl) a
