-- The report of a shift, part by part.
use Rattle.std.proofs.Common.{◌≡◌, ◌≢◌, ◌∙◌, ℕ, ◌+◌, ◌^◌, ◌<◌, ◌≤◌, List, [], ◌∷◌, ◌++◌, length, map, take, Option, Some, None, refl, ap, sym, subst, append_assoc, arith}
use Rattle.std.specs.Prelude.{◌↔◌, codes, decimal}
use Rattle.std.specs.Borrow.{Bor}
use Rattle.std.specs.List.{flat_map}
use Rattle.std.proofs.lemmas.List.{append_cancel_left, length-map}
use Rattle.std.proofs.lemmas.List.Sums.{sum_by-cons}
use Rattle.office_rules.specs.Law.Cash.{cash_of}
use Rattle.office_rules.specs.declared.office.sale.Sale.{Sale}
use Rattle.office_rules.specs.declared.office.shift.Shift.{Shift}
use Rattle.papers.specs.Report.{closed_text, report_of, sale_line, shift_head, sum_of_tenths, totals_text}
use Rattle.papers.specs.Text.{line, time_text}
use Rattle.sts_fields.specs.Amount.{IsRepresentable, greatest_amount}
use Rattle.desk_client.specs.Report.{AreOfSale, AreToldLines, EndsReport, FitColumns, HasHead, HasLine, IsReportOf, IsToldLine, IsToldShift, columns_text, head_ends, head_values}
use Rattle.sts_fields.specs.Moment.{IsMoment}
use Rattle.desk_client.specs.Page.{IsToldEnd}
use Rattle.records.specs.Record.{now}
use Rattle.desk_client.specs.Text.{LackStops, LacksStop, woven}
use Rattle.desk_client.specs.declared.report_line.Columns.{Columns}
use Rattle.desk_client.proofs.ColumnLemmas.{line_of_sale, no_letter, of_sale_fit, read_of_sale}
use Rattle.desk_client.proofs.PlainLemmas.{plain_letters}
use Rattle.desk_client.proofs.ReadingLemmas.{cut_off}
use Rattle.desk_client.proofs.WovenLemmas.{one_front}

-- a line, and what follows it
pub line-rest : (word value rest : List ℕ) → line word value ++ rest ≡ word ++ 32 ∷ (value ++ 10 ∷ rest)
unfolding line
line-rest word value rest = append_assoc (word ++ 32 ∷ value) (10 ∷ []) rest ∙ append_assoc word (32 ∷ value) (10 ∷ rest)

-- ---- the totals

-- each of them behind its word
pub totals-parts : (count tenths cash : ℕ) (rest : List ℕ)
    → codes "SALES " ++ (decimal count ++ 10 ∷ (codes "TENTHS " ++ (decimal tenths ++ 10 ∷ (codes "CASH " ++ (decimal cash ++ 10 ∷ rest)))))
    ≡ totals_text count tenths cash ++ rest
totals-parts count tenths cash rest =
    let first = line (codes "SALES") (decimal count) in
    let second = line (codes "TENTHS") (decimal tenths) in
    let third = line (codes "CASH") (decimal cash) in
    sym (append_assoc (first ++ second) third rest
    ∙ append_assoc first second (third ++ rest)
    ∙ ap (λ (t : List ℕ). first ++ (second ++ t)) (line-rest (codes "CASH") (decimal cash) rest)
    ∙ ap (λ (t : List ℕ). first ++ t) (line-rest (codes "TENTHS") (decimal tenths) (codes "CASH " ++ (decimal cash ++ 10 ∷ rest)))
    ∙ line-rest (codes "SALES") (decimal count) (codes "TENTHS " ++ (decimal tenths ++ 10 ∷ (codes "CASH " ++ (decimal cash ++ 10 ∷ rest)))))

-- totals that nothing stood before
totals-none : (count tenths cash : ℕ) → totals_text (0 + count) (0 + tenths) (0 + cash) ≡ totals_text count tenths cash
totals-none count tenths cash =
    ap (λ (n : ℕ). totals_text n (0 + tenths) (0 + cash)) (omega arith) ∙ ap (λ (n : ℕ). totals_text count n (0 + cash)) (omega arith)
    ∙ ap (λ (n : ℕ). totals_text count tenths n) (omega arith)

-- they are no line of a sale
no_totals : (s : Sale) (rest : List ℕ) (count tenths cash : ℕ) → IsToldLine s → sale_line s ++ rest ≢ totals_text count tenths cash
unfolding line
no_totals s rest count tenths cash told = no_letter s rest 83 _ (omega (arith, told.number.most)) (omega arith)

-- ---- the lines

-- a line more before it
pub ends_behind : ((t : ℕ) → IsRepresentable t → t ≤ greatest_amount) → (after count tenths cash : ℕ) (text : List ℕ) (c : Columns) (rest : List ℕ)
    → HasLine after text c rest → EndsReport after count tenths cash text ↔ EndsReport c.number (count + 1) (tenths + c.tenths) (cash + c.price) rest
ends_behind greatest after count tenths cash text c rest has = (forth, back)
  where
    s : Sale
    s = has.sale

    forth : EndsReport after count tenths cash text → EndsReport c.number (count + 1) (tenths + c.tenths) (cash + c.price) rest
    forth ends = by_sales ends.sales ends.lines ends.written
      where
        by_sales : (sales : List Sale) → AreToldLines after sales
            → text ≡ flat_map sale_line sales ++ totals_text (count + length sales) (tenths + sum_of_tenths sales) (cash + cash_of sales)
            → EndsReport c.number (count + 1) (tenths + c.tenths) (cash + c.price) rest
        by_sales [] lines written = absurd (no_totals s rest _ _ _ has.told (sym has.written ∙ written))
        by_sales (t ∷ sales) lines written =
            let behind = flat_map sale_line sales ++ totals_text (count + length (t ∷ sales)) (tenths + sum_of_tenths (t ∷ sales)) (cash + cash_of (t ∷ sales)) in
            let columns : columns_text c rest ≡ sale_line t ++ behind =
            line_of_sale c s rest has.columns ∙ sym has.written ∙ written ∙ append_assoc (sale_line t) (flat_map sale_line sales) _ in
            let read = read_of_sale greatest c t rest behind (of_sale_fit greatest c s has.told has.columns) lines.1 columns in
            let same = read.0 in
            let tenths-more = sum_by-cons (λ (s : Sale). s.tenths) t sales in
            let cash-more = sum_by-cons (λ (s : Sale). s.price) t sales in
            record {
              sales = sales;
              lines = subst (λ (n : ℕ). AreToldLines n sales) (sym same.number) lines.2;
              written = read.1
                  ∙ ap (λ (n : ℕ). flat_map sale_line sales ++ totals_text n (tenths + sum_of_tenths (t ∷ sales)) (cash + cash_of (t ∷ sales))) (omega arith)
                  ∙ ap (λ (n : ℕ). flat_map sale_line sales ++ totals_text (count + 1 + length sales) n (cash + cash_of (t ∷ sales))) (omega (arith, same.tenths, tenths-more))
                  ∙ ap (λ (n : ℕ). flat_map sale_line sales ++ totals_text (count + 1 + length sales) (tenths + c.tenths + sum_of_tenths sales) n) (omega (arith, same.price, cash-more));
            }

    back : EndsReport c.number (count + 1) (tenths + c.tenths) (cash + c.price) rest → EndsReport after count tenths cash text
    back ends =
        let sales = ends.sales in
        let are = has.columns in
        let tenths-more = sum_by-cons (λ (s : Sale). s.tenths) s sales in
        let cash-more = sum_by-cons (λ (s : Sale). s.price) s sales in
        record {
          sales = s ∷ sales;
          lines = (has.later, has.told, subst (λ (n : ℕ). AreToldLines n sales) are.number ends.lines);
          written = has.written ∙ ap (λ (t : List ℕ). sale_line s ++ t) (ends.written
              ∙ ap (λ (n : ℕ). flat_map sale_line sales ++ totals_text n (tenths + c.tenths + sum_of_tenths sales) (cash + c.price + cash_of sales)) (omega arith)
              ∙ ap (λ (n : ℕ). flat_map sale_line sales ++ totals_text (count + length (s ∷ sales)) n (cash + c.price + cash_of sales)) (omega (arith, are.tenths, tenths-more))
              ∙ ap (λ (n : ℕ). flat_map sale_line sales ++ totals_text (count + length (s ∷ sales)) (tenths + sum_of_tenths (s ∷ sales)) n) (omega (arith, are.price, cash-more)))
              ∙ sym (append_assoc (sale_line s) (flat_map sale_line sales) _);
        }

-- no line is left, so the totals are
pub ends_here : (after count tenths cash : ℕ) (text : List ℕ)
    → ((s : Sale) (rest : List ℕ) → IsToldLine s → after < s.number → text ≢ sale_line s ++ rest)
    → (text ≡ totals_text count tenths cash) ↔ EndsReport after count tenths cash text
ends_here after count tenths cash text none = (
  λ is.
      record {
        sales = [];
        lines = tt;
        written = is ∙ ap (λ (n : ℕ). totals_text n tenths cash) (omega arith) ∙ ap (λ (n : ℕ). totals_text (count + 0) n cash) (omega arith)
            ∙ ap (λ (n : ℕ). totals_text (count + 0) (tenths + 0) n) (omega arith);
      },
  λ ends. by_sales ends.sales ends.lines ends.written,
)
  where
    by_sales : (sales : List Sale) → AreToldLines after sales
        → text ≡ flat_map sale_line sales ++ totals_text (count + length sales) (tenths + sum_of_tenths sales) (cash + cash_of sales)
        → text ≡ totals_text count tenths cash
    by_sales [] lines written =
        written ∙ ap (λ (n : ℕ). totals_text n (tenths + 0) (cash + 0)) (omega arith) ∙ ap (λ (n : ℕ). totals_text count n (cash + 0)) (omega arith)
        ∙ ap (λ (n : ℕ). totals_text count tenths n) (omega arith)
    by_sales (s ∷ sales) lines written = absurd (none s _ lines.1 lines.0 (written ∙ append_assoc (sale_line s) (flat_map sale_line sales) _))

-- ---- the head

-- the lines of a shift by the values in them, and what follows them
pub head-parts : (shift : Shift) (rest : List ℕ)
    → shift_head shift ++ rest ≡ codes "SHIFT " ++ (decimal shift.number ++ (codes " " ++ woven (head_values shift) head_ends rest))
unfolding shift_head
head-parts shift rest =
    let first = line (codes "SHIFT") (decimal shift.number ++ 32 ∷ shift.operator) in
    let second = line (codes "OPENED") (time_text shift.opened) in
    let third = line (codes "CLOSED") (closed_text shift.closed) in
    append_assoc (first ++ second) third rest
    ∙ append_assoc first second (third ++ rest)
    ∙ ap (λ (t : List ℕ). first ++ (second ++ t)) (line-rest (codes "CLOSED") (closed_text shift.closed) rest)
    ∙ ap (λ (t : List ℕ). first ++ t) (line-rest (codes "OPENED") (time_text shift.opened) (codes "CLOSED " ++ (closed_text shift.closed ++ 10 ∷ rest)))
    ∙ line-rest (codes "SHIFT") (decimal shift.number ++ 32 ∷ shift.operator)
    (codes "OPENED " ++ (time_text shift.opened ++ 10 ∷ (codes "CLOSED " ++ (closed_text shift.closed ++ 10 ∷ rest))))
    ∙ ap (λ (t : List ℕ). codes "SHIFT " ++ t) (append_assoc (decimal shift.number) (32 ∷ shift.operator) _)

-- ---- the report

-- a report is its head, and then what ends a report
pub report_ends : (number : ℕ) (text rest : List ℕ) → HasHead number text rest → EndsReport 0 0 0 0 rest → IsReportOf number text
unfolding report_of
report_ends number text rest head ends =
    let lines = flat_map sale_line ends.sales in
    record {
      shift = head.shift;
      sales = ends.sales;
      told = head.told;
      named = head.named;
      lines = ends.lines;
      written = head.written
          ∙ ap (λ (t : List ℕ). shift_head head.shift ++ t) (ends.written ∙ ap (λ (t : List ℕ). lines ++ t) (totals-none _ _ _))
          ∙ sym (append_assoc (shift_head head.shift) lines _);
    }

-- and the other way round
pub report_begins : (number : ℕ) (text : List ℕ) → IsReportOf number text → (rest : List ℕ) × HasHead number text rest × EndsReport 0 0 0 0 rest
unfolding report_of
report_begins number text is =
    let lines = flat_map sale_line is.sales in
    let totals = totals_text (length is.sales) (sum_of_tenths is.sales) (cash_of is.sales) in (
      lines ++ totals,
      record { shift = is.shift; told = is.told; named = is.named; written = is.written ∙ append_assoc (shift_head is.shift) lines totals },
      record { sales = is.sales; lines = is.lines; written = ap (λ (t : List ℕ). lines ++ t) (sym (totals-none _ _ _)) },
    )

-- ---- one reading of a head

module _ (plain : (m : ℕ) → IsMoment m → LacksStop (time_text m)) where
  plain_closed : (end : Option ℕ) → IsToldEnd end → LacksStop (closed_text end)
  plain_closed None h = (refl, tt)
  plain_closed (Some m) h = plain m h

  -- no value of a head has a stop in it
  pub plain_head : (shift : Shift) → IsToldShift shift → LackStops (head_values shift)
  plain_head shift told = (plain_letters shift.operator told.operator.bytes, (plain shift.opened told.opened, (plain_closed shift.closed told.closed, tt)))

-- what stands behind the number of a head's shift
pub behind_number : (number : ℕ) (shift : Shift) (text first digits second rest : List ℕ) → digits ≡ decimal number → shift.number ≡ number
    → text ≡ codes "SHIFT " ++ first → first ≡ digits ++ second → text ≡ shift_head shift ++ rest
    → second ≡ codes " " ++ woven (head_values shift) head_ends rest
behind_number number shift text first digits second rest same named a b is =
    let behind = codes " " ++ woven (head_values shift) head_ends rest in
    let word = append_cancel_left (codes "SHIFT ") first (decimal shift.number ++ behind) (sym a ∙ is ∙ head-parts shift rest) in
    append_cancel_left digits second behind (sym b ∙ word ∙ ap (λ (d : List ℕ). d ++ behind) (ap decimal named ∙ sym same))

-- the values that were read there are a head's
pub head_read : (number : ℕ) (shift : Shift) (text first digits second : List ℕ) (of : List (Bor (List ℕ))) (rest : List ℕ) → digits ≡ decimal number
    → shift.number ≡ number → text ≡ codes "SHIFT " ++ first → first ≡ digits ++ second → second ≡ codes " " ++ woven (map now of) head_ends rest
    → take 3 (map now of) ≡ head_values shift → text ≡ shift_head shift ++ rest
head_read number shift text first digits second of rest same named a b values read =
    let woven-is = sym (cut_off (map now of) head_ends 3 rest (omega arith)) ∙ ap (λ (vs : List (List ℕ)). woven vs head_ends rest) read in
    a ∙ ap (λ (t : List ℕ). codes "SHIFT " ++ t) (b ∙ ap (λ (d : List ℕ). d ++ second) (same ∙ ap decimal (sym named))
    ∙ ap (λ (t : List ℕ). decimal shift.number ++ t) (values ∙ ap (λ (t : List ℕ). codes " " ++ t) woven-is))
    ∙ sym (head-parts shift rest)

-- and those of any head that stands there are the ones that were read
pub head_again : ((m : ℕ) → IsMoment m → LacksStop (time_text m)) → (shift : Shift) (second : List ℕ) (of : List (Bor (List ℕ))) (rest more : List ℕ)
    → IsToldShift shift → length of ≡ 13 → LackStops (map now of) → second ≡ codes " " ++ woven (map now of) head_ends rest
    → second ≡ codes " " ++ woven (head_values shift) head_ends more → take 3 (map now of) ≡ head_values shift
head_again plain shift second of rest more told len free read is =
    (one_front second (codes " ") (map now of) (head_values shift) head_ends rest more (omega (arith, len, length-map of now)) refl
    (refl, (refl, (refl, tt))) free (plain_head plain shift told) read is).0

-- a head ends at one place
pub one_head : ((m : ℕ) → IsMoment m → LacksStop (time_text m)) → (number : ℕ) (text rest more : List ℕ) → HasHead number text rest
    → HasHead number text more → rest ≡ more
one_head plain number text rest more a b =
    let second = codes " " ++ woven (head_values b.shift) head_ends more in
    let behind =
    behind_number number a.shift text (decimal number ++ second) (decimal number) second rest refl a.named
    (b.written ∙ head-parts b.shift more ∙ ap (λ (n : ℕ). codes "SHIFT " ++ (decimal n ++ second)) b.named) refl a.written in
    sym (one_front second (codes " ") (head_values b.shift) (head_values a.shift) head_ends more rest
    (omega arith) refl (refl, (refl, (refl, tt))) (plain_head plain b.shift b.told) (plain_head plain a.shift a.told) refl behind).1
