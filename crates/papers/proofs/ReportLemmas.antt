-- What stands in a report.
use Rattle.std.proofs.Common.{◌≡◌, ◌∙◌, ℕ, List, ◌∷◌, ◌++◌, length, ap, refl, append_assoc}
use Rattle.std.proofs.lemmas.List.Concat.{flat_map-append}
use Rattle.std.specs.Prelude.{codes, decimal}
use Rattle.papers.specs.Text.{line}
use Rattle.std.specs.List.{flat_map}
use Rattle.papers.specs.Report.{report_of, sale_line, shift_head, sum_of_tenths, totals_text}
use Rattle.office_rules.specs.Law.Cash.{cash_of}
use Rattle.office_rules.specs.declared.office.sale.Sale.{Sale}
use Rattle.office_rules.specs.declared.office.shift.Shift.{Shift}

-- its parts, each behind what was there
pub report-parts : (shift : Shift) (sales : List Sale)
    → (((shift_head shift ++ flat_map sale_line sales) ++ line (codes "SALES") (decimal (length sales)))
    ++ line (codes "TENTHS") (decimal (sum_of_tenths sales))) ++ line (codes "CASH") (decimal (cash_of sales)) ≡ report_of shift sales
unfolding report_of
report-parts shift sales = simp append_assoc

-- the totals end it
pub report-totals : (shift : Shift) (sales : List Sale) → (front : List ℕ)
    × (report_of shift sales ≡ front ++ totals_text (length sales) (sum_of_tenths sales) (cash_of sales))
unfolding report_of
report-totals shift sales = (shift_head shift ++ flat_map sale_line sales, refl)

-- each sale has its line in it
pub report-sale : (shift : Shift) (before after : List Sale) (s : Sale) → (front back : List ℕ)
    × (report_of shift (before ++ s ∷ after) ≡ front ++ sale_line s ++ back)
unfolding report_of
report-sale shift before after s =
    let sales = before ++ s ∷ after in
    let totals = totals_text (length sales) (sum_of_tenths sales) (cash_of sales) in
    let front = shift_head shift ++ flat_map sale_line before in (
      front,
      flat_map sale_line after ++ totals,
      ap (λ lines. shift_head shift ++ lines ++ totals) (flat_map-append sale_line before (s ∷ after)) ∙ simp append_assoc,
    )
