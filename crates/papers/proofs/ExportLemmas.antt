-- The records of an export, one behind the other.
use Rattle.std.proofs.Common.{◌≡◌, ◌∙◌, ◌+◌, ◌<◌, ℕ, [], ◌∷◌, ◌++◌, Bool, false, List, length, get_or, take, ap, append_assoc, sym, arith, pos, ◌≤◌, w64, to_z, of_z, Some, Result, Ok, Err, IfOk, MatchResult, Vec, Global}
use Rattle.std.specs.Result.{IsErrAnd}
use Rattle.std.proofs.lemmas.List.{flat_map_more, take_more}
use Rattle.std.proofs.lemmas.List.Concat.{flat_map-append}
use Rattle.std.proofs.lemmas.Int.{ints, to_z-of_z}
use Rattle.std.specs.Fmt.{decimal}
use Rattle.std.specs.List.{flat_map}
use Rattle.papers.specs.Export.{export_fields, export_of, header_text, sale_record}
use Rattle.papers.specs.Text.{change_of}
use Rattle.sts_fields.specs.Base.{year_of}
use Rattle.office_rules.specs.declared.office.sale.Sale.{Sale}

-- one more sale adds its record
pub export_of-more : (header : Bool) (sales : List Sale) (i : ℕ) (sale : Sale) → i < length sales → sale ≡ get_or sales i sale
    → export_of header (take (i + 1) sales) ≡ export_of header (take i sales) ++ sale_record sale
unfolding export_of
export_of-more header sales i sale within at =
    ap (λ some. header_text header ++ flat_map sale_record some) (take_more sales i sale within)
    ∙ ap (λ last. header_text header ++ flat_map sale_record (take i sales ++ last ∷ [])) (sym at)
    ∙ sym (flat_map_more sale_record (header_text header) (take i sales) sale)

-- the fields of a sale, one by one
pub export_fields-are : (s : Sale) (number moment shift operator order_ref meter base tid tenths price tender change token : List ℕ)
    → number ≡ decimal s.number → moment ≡ decimal s.moment → shift ≡ decimal s.shift → operator ≡ s.operator → order_ref ≡ s.order_ref
    → meter ≡ s.meter → base ≡ decimal (year_of s.base) → tid ≡ decimal s.tid → tenths ≡ decimal s.tenths → price ≡ decimal s.price
    → tender ≡ decimal s.tender → change ≡ decimal (change_of s) → token ≡ s.digits
    → number ∷ moment ∷ shift ∷ operator ∷ order_ref ∷ meter ∷ base ∷ tid ∷ tenths ∷ price ∷ tender ∷ change ∷ token ∷ [] ≡ export_fields s
export_fields-are s number moment shift operator order_ref meter base tid tenths price tender change token e1 e2 e3 e4 e5 e6 e7 e8 e9 e10 e11 e12 e13 =
    rw (e1, e2, e3, e4, e5, e6, e7, e8, e9, e10, e11, e12, e13)

-- what an `into_inner` gives, with its error mapped: a vector that has the bytes that the writer
-- held
pub items_given : {E F : Type 0} (Q : E → F → Type 0) (r : Result (Vec ℕ Global) E) (s : Result (Vec ℕ Global) F) (held bytes : List ℕ)
    → Some held ≡ Some bytes → IfOk r (λ w. w.items ≡ held) → MatchResult r (λ w. s ≡ Ok w) (λ e. IsErrAnd s (Q e)) → IfOk s (λ w. w.items ≡ bytes)
items_given Q (Ok w) s held bytes same keeps given = let items : w.items ≡ bytes = cc in rw given items
items_given Q (Err e) (Ok w) held bytes same keeps failed = absurd failed
items_given Q (Err e) (Err f) held bytes same keeps failed = tt

-- a moment, read from the bits of a number of 64 bits with a sign
pub moment_of_bits : (moment : ℕ) → moment ≤ 4102444799 → to_z w64 (of_z w64 (pos moment)) ≡ pos moment
moment_of_bits moment last = to_z-of_z w64 (pos moment) (omega (arith, ints))

-- the sales of one list and then those of another
pub export_of-append : (header : Bool) (front back : List Sale) → export_of header (front ++ back) ≡ export_of header front ++ export_of false back
unfolding export_of
export_of-append header front back =
    ap (λ records. header_text header ++ records) (flat_map-append sale_record front back)
    ∙ sym (append_assoc (header_text header) (flat_map sale_record front) (flat_map sale_record back))
