-- Texts that are one, by their bytes.
use Rattle.std.proofs.Common.{◌≡◌, ◌≢◌, ℕ, Bool, true, false, List, sym, ◌∙◌}
use Rattle.std.specs.Prelude.{bytes_eq, not}
use Rattle.std.proofs.lemmas.Bool.{false≢true}
use Rattle.std.proofs.lemmas.Slice.Eq.{bytes_eq-Decides}

-- texts whose bytes compare as equal are one
pub text_same : (xs ys : List ℕ) → bytes_eq xs ys ≡ true → xs ≡ ys
text_same xs ys is = (bytes_eq-Decides xs ys).0 is

-- texts whose bytes compare as different are two
pub text_other : (xs ys : List ℕ) → bytes_eq xs ys ≡ false → xs ≢ ys
text_other xs ys other same = false≢true (sym other ∙ (bytes_eq-Decides xs ys).1 same)

-- a test that fails does not pass
pub is_false : (b : Bool) → b ≡ false → b ≡ true → ⊥
is_false b other is = false≢true (sym other ∙ is)

-- a test that is the opposite of another has that one as its opposite
pub turned : (b c : Bool) → b ≡ not c → c ≡ not b
turned b true e = cc
turned b false e = cc
