-- Numbers in decimal digits.
use Rattle.std.proofs.Common.{◌≡◌, ◌≢◌, ◌∙◌, ℕ, ◌^◌, ◌<◌, false, List, eqb, Result, Ok, Err, ap, sym, subst, arith}
use Rattle.std.specs.Prelude.{IsUtf8, decimal}
use Rattle.std.specs.Cmp.Lexicographic.{pointwise}
use Rattle.std.specs.Str.Parse.{ParsesUnsigned}
use Rattle.std.proofs.lemmas.Bool.Decides.{Decides-eqb}
use Rattle.std.proofs.lemmas.Slice.Eq.{slice_eq-Decides}
use Rattle.std.proofs.lemmas.Fmt.{IsAscii-decimal, parse-decimal}
use Rattle.std.proofs.lemmas.Str.{IsUtf8-from_ascii}

-- what is no text writes no number
pub not_text : (digits : List ℕ) → ¬ IsUtf8 digits → (n : ℕ) → n < 2 ^ 64 → digits ≢ decimal n
not_text digits none n small same =
    none (subst IsUtf8 (sym same) (IsUtf8-from_ascii (decimal n) (IsAscii-decimal n small)))

-- nor do digits that are not read
pub not_parsed : {E : Type 0} (digits : List ℕ) (error : E) → ParsesUnsigned 64 10 digits (Err error)
    → (n : ℕ) → n < 2 ^ 64 → digits ≢ decimal n
not_parsed digits error parsed n small same =
    let read : Err error ≡ Ok n = parse-decimal 64 n digits (Err error) small small same parsed in cc

-- what is read is the number that the digits write
pub is_parsed : {E : Type 0} (digits : List ℕ) (r : Result ℕ E) (m n : ℕ) → r ≡ Ok m → ParsesUnsigned 64 10 digits r
    → n < 2 ^ 64 → digits ≡ decimal n → decimal m ≡ digits
is_parsed digits r m n is parsed small same =
    let read = parse-decimal 64 n digits r small small same parsed in
    let equal : m ≡ n = cc in
    ap decimal equal ∙ sym same

-- texts that were compared and differ
pub unlike : (a b : List ℕ) → false ≡ pointwise eqb a b → a ≢ b
unlike a b differ same = grind (arith, slice_eq-Decides Decides-eqb a b false differ)
