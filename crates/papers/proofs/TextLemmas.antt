-- How the parts of a line stand one behind the other.
use Rattle.std.proofs.Common.{◌≡◌, ◌∙◌, ℕ, ◌+◌, ◌*◌, ◌/◌, ◌%◌, ◌<◌, [], ◌∷◌, List, ◌++◌, length, map, slice_range, Result, Ok, ap, sym, refl, append_assoc, arith, lit<}
use Rattle.std.proofs.lemmas.List.FromFn.{length-map-range_with_len, map-range_with_len_more}
use Rattle.std.proofs.Padding.{padded_integral_right, styled_decimal_is}
use Rattle.std.specs.Fmt.{decimal, format_spec, styled_decimal}
use Rattle.std.specs.List.{join_with_byte, range_with_len}
use Rattle.papers.specs.Report.{sale_line}
use Rattle.papers.specs.Text.{change_of, groups, kwh_text, line, right, time_text}
use Rattle.sts_fields.specs.Calendar.{civil_at}
use Rattle.sts_fields.specs.Day.{iso_date, two_digits}
use Rattle.sts_fields.specs.declared.calendar.date_time.Civil.{Civil}
use Rattle.office_rules.specs.declared.office.sale.Sale.{Sale}

-- a line is its word, a space, its value and a line feed, each behind what was there
pub line-parts : (old word value : List ℕ) → (((old ++ word) ++ 32 ∷ []) ++ value) ++ 10 ∷ [] ≡ old ++ line word value
unfolding line
line-parts old word value = simp append_assoc

-- what `{:>n}` writes
pub styled-right : (places n : ℕ) → styled_decimal (format_spec 32 3 0 places 18446744073709551615) n ≡ right places (decimal n)
unfolding right
styled-right places n =
    let s = format_spec 32 3 0 places 18446744073709551615 in
    styled_decimal_is s n ∙ padded_integral_right s (decimal n) refl refl (λ e. cc) (λ e. cc) (lit< tt)

-- an energy, part behind part
pub kwh-parts : (tenths : ℕ) → (([] ++ decimal (tenths / 10)) ++ 46 ∷ []) ++ decimal (tenths % 10) ≡ kwh_text tenths
unfolding kwh_text
kwh-parts tenths = append_assoc (decimal (tenths / 10)) (46 ∷ []) (decimal (tenths % 10))

-- a date and a time of day, part behind part
pub time-parts : (moment : ℕ) (c : Civil) → c ≡ civil_at moment
    → ((((((((((((([] ++ two_digits (c.year / 100)) ++ two_digits (c.year % 100)) ++ 45 ∷ []) ++ two_digits c.month) ++ 45 ∷ [])
    ++ two_digits c.day) ++ 84 ∷ []) ++ two_digits c.hour) ++ 58 ∷ []) ++ two_digits c.minute) ++ 58 ∷ []) ++ two_digits c.second)
    ++ 90 ∷ []) ≡ time_text moment
unfolding time_text iso_date
time-parts moment c shown = rw shown (simp append_assoc)

-- the line of a sale is its number with a space, its meter, and its amounts with a space before
-- each and a line feed
pub sale_line-parts : (old number amounts : List ℕ) (s : Sale) → number ≡ right 10 (decimal s.number) ++ 32 ∷ []
    → amounts ≡ 32 ∷ (right 8 (decimal s.tenths) ++ 32
    ∷ (right 9 (decimal s.price) ++ 32 ∷ (right 9 (decimal s.tender) ++ 32 ∷ (right 9 (decimal (change_of s)) ++ 10 ∷ []))))
    → ((old ++ number) ++ s.meter) ++ amounts ≡ old ++ sale_line s
unfolding sale_line
sale_line-parts old number amounts s n a = rw (n, a) (simp append_assoc)

-- a result has one value
pub same-value : {T E : Type 0} (r : Result T E) (x y : T) → r ≡ Ok x → r ≡ Ok y → x ≡ y
same-value r x y p q = cc

-- one more piece behind others
join-more : (c : ℕ) (pieces : List (List ℕ)) (piece : List ℕ) → 0 < length pieces
    → join_with_byte c (pieces ++ piece ∷ []) ≡ join_with_byte c pieces ++ c ∷ piece
join-more c [] piece some = absurd (omega arith)
join-more c (x ∷ []) piece some = refl
join-more c (x ∷ y ∷ rest) piece some =
    ap (λ text. x ++ c ∷ text) (join-more c (y ∷ rest) piece (omega arith)) ∙ sym (append_assoc x (c ∷ join_with_byte c (y ∷ rest)) (c ∷ piece))

-- one more group of four digits
pub groups-more : (digits : List ℕ) (n : ℕ) → 0 < n
    → groups digits (n + 1) ≡ (groups digits n ++ 32 ∷ []) ++ slice_range digits (4 * n) (4 * n + 4)
groups-more digits n some =
    let f = λ (group : ℕ). slice_range digits (4 * group) (4 * group + 4) in
    let count = length-map-range_with_len f 0 n in
    ap (λ pieces. join_with_byte 32 pieces) (map-range_with_len_more f 0 n n (omega arith))
    ∙ join-more 32 (map f (range_with_len 0 n)) (f n) (omega arith)
    ∙ sym (append_assoc (groups digits n) (32 ∷ []) (f n))
