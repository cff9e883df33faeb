-- The receipt of a sale, value by value.
use Rattle.std.proofs.Common.{◌≡◌, ◌∙◌, ℕ, zero, suc, ◌+◌, ◌*◌, ◌/◌, ◌%◌, ◌^◌, ◌<◌, ◌≤◌, List, [], ◌∷◌, ◌++◌, length, get_or, drop, take, map, codes, Option, Some, None, refl, ap, sym, subst, append_assoc, arith, drop-cons}
use Rattle.std.specs.Prelude.{decimal}
use Rattle.std.proofs.lemmas.Fmt.{decimal_digit}
use Rattle.std.proofs.lemmas.List.{append-nil, length-append, take_all}
use Rattle.office_rules.specs.declared.office.sale.Sale.{Sale}
use Rattle.papers.specs.Receipt.{receipt_of}
use Rattle.papers.specs.Text.{change_of, grouped, kwh_text, line, time_text}
use Rattle.sts_fields.specs.Amount.{IsRepresentable, greatest_amount}
use Rattle.sts_fields.specs.Moment.{IsMoment}
use Rattle.sts_token.specs.Token.{AreTwentyDigits}
use Rattle.desk_client.specs.Receipt.{IsToldReceipt, receipt_ends, receipt_values, spaced}
use Rattle.records.specs.Front.{IsFound}
use Rattle.desk_client.specs.Text.{LackStops, LacksStop, woven}
use Rattle.desk_client.proofs.ColumnLemmas.{same_start}
use Rattle.desk_client.proofs.FoundLemmas.{found_by}
use Rattle.desk_client.proofs.NumberLemmas.{same_number}
use Rattle.desk_client.proofs.PlainLemmas.{digit, plain_append, plain_digits, plain_number}
use Rattle.desk_client.proofs.ReportLemmas.{line-rest}

-- ---- the digits of a token

-- so many elements from a place on, one by one
abbrev pub elements : (n i : ℕ) → List ℕ → List ℕ
elements zero i xs = []
elements (suc n) i xs = get_or xs i 0 ∷ elements n (suc i) xs

from : (n i : ℕ) (xs : List ℕ) → i + n ≤ length xs → take n (drop i xs) ≡ elements n i xs
from zero i xs e = refl
from (suc n) i xs e = ap (take (suc n)) (drop-cons xs i 0 (omega (arith, e))) ∙ ap (λ (t : List ℕ). get_or xs i 0 ∷ t) (from n (suc i) xs (omega (arith, e)))

-- twenty digits, one by one
pub twenty : (xs : List ℕ) → length xs ≡ 20 → xs ≡ elements 20 0 xs
twenty xs e = sym (take_all 20 xs (omega (arith, e))) ∙ from 20 0 xs (omega (arith, e))

-- in groups of four they are as a paper has them
pub spaced-is : (xs : List ℕ) → AreTwentyDigits xs → spaced xs ≡ grouped xs
unfolding grouped
spaced-is xs are = ap grouped (sym (twenty xs are.twenty))

-- the digits among the bytes of a text
abbrev pub picked : List ℕ → List ℕ
picked v =
    get_or v 0 0 ∷ get_or v 1 0 ∷ get_or v 2 0 ∷ get_or v 3 0 ∷ get_or v 5 0 ∷ get_or v 6 0 ∷ get_or v 7 0 ∷ get_or v 8 0 ∷ get_or v 10 0 ∷ get_or v 11 0
    ∷ get_or v 12 0 ∷ get_or v 13 0 ∷ get_or v 15 0 ∷ get_or v 16 0 ∷ get_or v 17 0 ∷ get_or v 18 0 ∷ get_or v 20 0 ∷ get_or v 21 0 ∷ get_or v 22 0
    ∷ get_or v 23 0 ∷ []

-- they are the digits that were written so
pub picked-is : (value digits : List ℕ) → length digits ≡ 20 → value ≡ spaced digits → digits ≡ picked value
picked-is value digits len is = twenty digits len ∙ ap picked (sym is)

-- a text of five groups has its digits so
pub spaced-back : (value : List ℕ) → length value ≡ 24 → get_or value 4 0 ≡ 32 → get_or value 9 0 ≡ 32 → get_or value 14 0 ≡ 32 → get_or value 19 0 ≡ 32
    → value ≡ spaced (picked value)
spaced-back value len first second third fourth =
    sym (take_all 24 value (omega (arith, len))) ∙ from 24 0 value (omega (arith, len)) ∙ rw (first, second, third, fourth) refl

-- the same groups are of the same digits
pub same_digits : (value a b : List ℕ) → AreTwentyDigits a → AreTwentyDigits b → value ≡ spaced a → value ≡ grouped b → a ≡ b
same_digits value a b are be is same =
    picked-is value a are.twenty is ∙ sym (picked-is value b be.twenty (same ∙ sym (spaced-is b be)))

-- ---- an energy

-- its last digit is one byte
pub kwh-digit : (t : ℕ) → kwh_text t ≡ decimal (t / 10) ++ 46 ∷ (48 + t % 10) ∷ []
unfolding kwh_text
kwh-digit t = ap (λ (d : List ℕ). decimal (t / 10) ++ 46 ∷ d) (decimal_digit (t % 10) (omega arith))

-- its parts are those that a text was parted into
pub kwh_parts : (value whole last : List ℕ) (t : ℕ) → value ≡ whole ++ last → length last ≡ 2 → value ≡ kwh_text t
    → (whole ≡ decimal (t / 10)) × (last ≡ 46 ∷ (48 + t % 10) ∷ [])
kwh_parts value whole last t parts two is =
    let front = decimal (t / 10) in
    let back = 46 ∷ (48 + t % 10) ∷ [] in
    let same = sym parts ∙ is ∙ kwh-digit t in
    same_start whole front last back (omega (arith, ap length same, length-append whole last, length-append front back, two)) same

-- the amount that was made of its parts is the one whose energy it is
pub kwh_found : ((t : ℕ) → IsRepresentable t → t ≤ greatest_amount) → (value whole last : List ℕ) (w d : ℕ) (r : Option ℕ) → value ≡ whole ++ last
    → length last ≡ 2 → w < 2 ^ 32 → whole ≡ decimal w → d < 10 → last ≡ 46 ∷ (48 + d) ∷ []
    → IsFound (λ t. IsRepresentable t × (t ≡ w * 10 + d)) r → IsFound (λ t. IsRepresentable t × (value ≡ kwh_text t)) r
kwh_found greatest value whole last w d r parts two few whole-is small last-is found =
    found_by (λ t. IsRepresentable t × (t ≡ w * 10 + d)) (λ t. IsRepresentable t × (value ≡ kwh_text t)) r
    (λ t h.
    let front : w ≡ t / 10 = omega (arith, h.1, small) in
    let back : d ≡ t % 10 = omega (arith, h.1, small) in (
      h.0,
      parts ∙ ap (λ (a : List ℕ). a ++ last) (whole-is ∙ ap decimal front)
          ∙ ap (λ (b : List ℕ). decimal (t / 10) ++ b) (last-is ∙ ap (λ (n : ℕ). 46 ∷ (48 + n) ∷ []) back) ∙ sym (kwh-digit t),
    ))
    (λ t h.
    let read = kwh_parts value whole last t parts two h.1 in
    let few-t = greatest t h.0 in
    let front : w ≡ t / 10 = same_number whole w (t / 10) (omega (arith, few)) (omega (arith, few-t)) whole-is read.0 in
    let same : 46 ∷ (48 + d) ∷ [] ≡ 46 ∷ (48 + t % 10) ∷ [] = sym last-is ∙ read.1 in
    let ones : 48 + d ≡ 48 + t % 10 = ap (λ (l : List ℕ). get_or l 1 0) same in (
      h.0,
      omega (arith, front, ones),
    ))
    found

-- no energy has a stop in it
plain_kwh : (t : ℕ) → t < 2 ^ 64 → LacksStop (kwh_text t)
plain_kwh t small =
    subst LacksStop (sym (kwh-digit t))
    (plain_append (decimal (t / 10)) (46 ∷ (48 + t % 10) ∷ []) (plain_number (t / 10) (omega (arith, small)))
    (refl, (digit (48 + t % 10) (omega arith) (omega arith), tt)))

-- ---- all values

plain_spaced : (xs : List ℕ) → AreTwentyDigits xs → LacksStop (grouped xs)
plain_spaced xs are =
    let d : LacksStop (elements 20 0 xs) = subst LacksStop (twenty xs are.twenty) (plain_digits xs are.digits) in
    subst LacksStop (spaced-is xs are) (spread xs d)
  where
    spread : (xs : List ℕ) → LacksStop (elements 20 0 xs) → LacksStop (spaced xs)
    spread xs (a, (b, (c, (d, (e, (f, (g, (h, (i, (j, (k, (l, (m, (n, (o, (p, (q, (r, (s, (t, u)))))))))))))))))))) =
        (a, (b, (c, (d, (refl, (e, (f, (g, (h, (refl, (i, (j, (k, (l, (refl, (m, (n, (o, (p, (refl, (q, (r, (s, (t, u))))))))))))))))))))))))

-- no value of a receipt has a stop in it
pub plain_receipt : ((t : ℕ) → IsRepresentable t → t ≤ greatest_amount) → ((m : ℕ) → IsMoment m → LacksStop (time_text m)) → (s : Sale) → IsToldReceipt s
    → LackStops (receipt_values s)
plain_receipt greatest plain s told = (
  plain_number s.number (omega (arith, told.number.most)),
  (
    plain_digits s.meter told.meter.digits,
    (
      plain s.moment told.moment,
      (
        plain_kwh s.tenths (omega (arith, greatest s.tenths told.tenths)),
        (
          plain_number s.price (omega (arith, told.price, told.tender)),
          (
            plain_number s.tender (omega (arith, told.tender)),
            (plain_number (change_of s) (omega (arith, told.tender)), (plain_spaced s.digits told.digits.digits, tt)),
          ),
        ),
      ),
    ),
  ),
)

eight_lines : (a b c d e f g h rest : List ℕ)
    → (((((((a ++ b) ++ c) ++ d) ++ e) ++ f) ++ g) ++ h) ++ rest ≡ a ++ (b ++ (c ++ (d ++ (e ++ (f ++ (g ++ (h ++ rest)))))))
eight_lines a b c d e f g h rest = simp append_assoc

-- a receipt by its values
pub receipt-woven : (s : Sale) → receipt_of s ≡ codes "SALE " ++ woven (receipt_values s) receipt_ends []
unfolding receipt_of
receipt-woven s =
    let a = line (codes "SALE") (decimal s.number) in
    let b = line (codes "METER") s.meter in
    let c = line (codes "TIME") (time_text s.moment) in
    let d = line (codes "KWH") (kwh_text s.tenths) in
    let e = line (codes "PRICE") (decimal s.price) in
    let f = line (codes "TENDER") (decimal s.tender) in
    let g = line (codes "CHANGE") (decimal (change_of s)) in
    let h = line (codes "TOKEN") (grouped s.digits) in
    let t8 = codes "TOKEN " ++ (grouped s.digits ++ 10 ∷ []) in
    let t7 = codes "CHANGE " ++ (decimal (change_of s) ++ 10 ∷ t8) in
    let t6 = codes "TENDER " ++ (decimal s.tender ++ 10 ∷ t7) in
    let t5 = codes "PRICE " ++ (decimal s.price ++ 10 ∷ t6) in
    let t4 = codes "KWH " ++ (kwh_text s.tenths ++ 10 ∷ t5) in
    let t3 = codes "TIME " ++ (time_text s.moment ++ 10 ∷ t4) in
    let t2 = codes "METER " ++ (s.meter ++ 10 ∷ t3) in
    sym (append-nil (((((((a ++ b) ++ c) ++ d) ++ e) ++ f) ++ g) ++ h))
    ∙ eight_lines a b c d e f g h []
    ∙ ap (λ (t : List ℕ). a ++ (b ++ (c ++ (d ++ (e ++ (f ++ (g ++ t))))))) (line-rest (codes "TOKEN") (grouped s.digits) [])
    ∙ ap (λ (t : List ℕ). a ++ (b ++ (c ++ (d ++ (e ++ (f ++ t)))))) (line-rest (codes "CHANGE") (decimal (change_of s)) t8)
    ∙ ap (λ (t : List ℕ). a ++ (b ++ (c ++ (d ++ (e ++ t))))) (line-rest (codes "TENDER") (decimal s.tender) t7)
    ∙ ap (λ (t : List ℕ). a ++ (b ++ (c ++ (d ++ t)))) (line-rest (codes "PRICE") (decimal s.price) t6)
    ∙ ap (λ (t : List ℕ). a ++ (b ++ (c ++ t))) (line-rest (codes "KWH") (kwh_text s.tenths) t5)
    ∙ ap (λ (t : List ℕ). a ++ (b ++ t)) (line-rest (codes "TIME") (time_text s.moment) t4)
    ∙ ap (λ (t : List ℕ). a ++ t) (line-rest (codes "METER") s.meter t3)
    ∙ line-rest (codes "SALE") (decimal s.number) t2

-- lists of eight values are the same where each value is
pub same_eight : (a b c d e f g h a2 b2 c2 d2 e2 f2 g2 h2 : List ℕ) → a ≡ a2 → b ≡ b2 → c ≡ c2 → d ≡ d2 → e ≡ e2 → f ≡ f2 → g ≡ g2 → h ≡ h2
    → a ∷ b ∷ c ∷ d ∷ e ∷ f ∷ g ∷ h ∷ [] ≡ a2 ∷ b2 ∷ c2 ∷ d2 ∷ e2 ∷ f2 ∷ g2 ∷ h2 ∷ []
same_eight a b c d e f g h a2 b2 c2 d2 e2 f2 g2 h2 p1 p2 p3 p4 p5 p6 p7 p8 = rw (p1, p2, p3, p4, p5, p6, p7, p8) refl
