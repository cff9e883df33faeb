-- The cash of all shifts is the money of all sales: each sale lies in exactly one shift.
use Rattle.std.proofs.Common.{◌≡◌, ℕ, suc, ◌+◌, ◌<◌, ◌≤◌, Bool, true, false, cond, List, [], ◌∷◌, length, Some, refl, sym, ◌∙◌, ap, arith}
use Rattle.std.specs.Prelude.{◌==◌, All, filter, slice_get, sum_by}
use Rattle.std.proofs.lemmas.Bool.Decides.{nat_tests}
use Rattle.std.proofs.lemmas.List.Elements.{All-head, All-tail, All-weaker}
use Rattle.std.proofs.lemmas.List.Sums.{sum_by-cons}
use Rattle.office_rules.specs.Law.Cash.{AskForReports, cash_of, cash_of_reports}
use Rattle.office_rules.specs.Decision.Fold.{reply}
use Rattle.office_rules.specs.Law.Handed.{sales_of}
use Rattle.office_rules.specs.Office.Lookup.{sales_of_shift}
use Rattle.office_rules.specs.Office.{IsOffice, IsSaleRow, Office}
use Rattle.office_rules.specs.declared.office.sale.Sale.{Sale}
use Rattle.office_rules.specs.declared.office.shift.Shift.{Shift}
use Rattle.office_rules.specs.declared.decision.request.Stamped.{Stamped}
use Rattle.vend_core.proofs.LawLemmas.{reports_the_shift}
use Rattle.office_rules.proofs.OfficeLemmas.MapLemmas.{all_from_contains}

-- a sum of sums
sum_by_both : {X : Type 0} (f g h : X → ℕ) (xs : List X) → ((x : X) → h x ≡ f x + g x) → sum_by h xs ≡ sum_by f xs + sum_by g xs
sum_by_both f g h [] each = refl
sum_by_both f g h (x ∷ xs) each =
    let rest = sum_by_both f g h xs each in
    omega (arith, sum_by-cons f x xs, sum_by-cons g x xs, sum_by-cons h x xs, each x, rest)

sum_by_none : {X : Type 0} (f : X → ℕ) (xs : List X) → ((x : X) → f x ≡ 0) → sum_by f xs ≡ 0
sum_by_none f [] each = refl
sum_by_none f (x ∷ xs) each = omega (arith, sum_by-cons f x xs, each x, sum_by_none f xs each)

-- rows that are numbered on from a number
abbrev NumberedFrom : ℕ → List Shift → Type 0
NumberedFrom base rows = (i : ℕ) (row : Shift) → slice_get rows i ≡ Some row → row.number ≡ base + i + 1

rest_numbered : (base : ℕ) (row : Shift) (rows : List Shift) → NumberedFrom base (row ∷ rows) → NumberedFrom (base + 1) rows
rest_numbered base row rows numbered i other at = omega (arith, numbered (suc i) other at)

-- what a row of number k counts, and every other row nothing
abbrev counted : ℕ → ℕ → Shift → ℕ
counted v k shift = cond (k == shift.number) v 0

not_later : (v k base : ℕ) (rows : List Shift) → NumberedFrom base rows → k ≤ base → sum_by (counted v k) rows ≡ 0
not_later v k base [] numbered low = refl
not_later v k base (row ∷ rows) numbered low =
    let first = numbered 0 row refl in
    let rest = not_later v k (base + 1) rows (rest_numbered base row rows numbered) (omega arith) in
    let here : counted v k row ≡ 0 = grind (arith, nat_tests) in
    omega (arith, sum_by-cons (counted v k) row rows, here, rest)

once_here : (v k base : ℕ) (row : Shift) (rows : List Shift) (b : Bool) → (k == row.number) ≡ b → NumberedFrom base (row ∷ rows) → base < k
    → (base + 1 < k → sum_by (counted v k) rows ≡ v) → sum_by (counted v k) (row ∷ rows) ≡ v
once_here v k base row rows true is numbered high further =
    let first = numbered 0 row refl in
    let rest = not_later v k (base + 1) rows (rest_numbered base row rows numbered) (grind (arith, nat_tests)) in
    let here : counted v k row ≡ v = ap (λ b. cond b v 0) is in
    omega (arith, sum_by-cons (counted v k) row rows, here, rest)
once_here v k base row rows false is numbered high further =
    let first = numbered 0 row refl in
    let here : counted v k row ≡ 0 = ap (λ b. cond b v 0) is in
    let rest = further (grind (arith, nat_tests)) in
    omega (arith, sum_by-cons (counted v k) row rows, here, rest)

once : (v k base : ℕ) (rows : List Shift) → NumberedFrom base rows → base < k → k ≤ base + length rows → sum_by (counted v k) rows ≡ v
once v k base [] numbered high low = absurd (omega arith)
once v k base (row ∷ rows) numbered high low = once_here v k base row rows (k == row.number) refl numbered high
    (λ further. once v k (base + 1) rows (rest_numbered base row rows numbered) further (omega arith))

-- one more sale counts in its shift
cash_here : (s : Sale) (sales : List Sale) (shift : Shift) (b : Bool) → (s.shift == shift.number) ≡ b
    → cash_of (cond b (s ∷ filter (λ t. t.shift == shift.number) sales) (filter (λ t. t.shift == shift.number) sales))
    ≡ cond b s.price 0 + cash_of (filter (λ t. t.shift == shift.number) sales)
cash_here s sales shift true is = sum_by-cons (λ t. t.price) s (filter (λ t. t.shift == shift.number) sales)
cash_here s sales shift false is = omega arith

cash_over : (shifts : List Shift) (sales : List Sale) → NumberedFrom 0 shifts → All (λ s. (1 ≤ s.shift) × (s.shift ≤ length shifts)) sales
    → sum_by (λ shift. cash_of (filter (λ t. t.shift == shift.number) sales)) shifts ≡ cash_of sales
cash_over shifts [] numbered each = sum_by_none _ shifts (λ shift. refl)
cash_over shifts (s ∷ sales) numbered each =
    let rest = cash_over shifts sales numbered (All-tail (λ (s : Sale). (1 ≤ s.shift) × (s.shift ≤ length shifts)) s sales each) in
    let first = All-head (λ (s : Sale). (1 ≤ s.shift) × (s.shift ≤ length shifts)) s sales each in
    let both = sum_by_both (counted s.price s.shift) (λ shift. cash_of (filter (λ t. t.shift == shift.number) sales))
    (λ shift. cash_of (filter (λ t. t.shift == shift.number) (s ∷ sales))) shifts
    (λ shift. cash_here s sales shift (s.shift == shift.number) refl) in
    both ∙ ap (λ n. n + sum_by (λ shift. cash_of (filter (λ t. t.shift == shift.number) sales)) shifts)
    (once s.price s.shift 0 shifts numbered (omega (arith, first)) (omega (arith, first)))
    ∙ ap (λ n. s.price + n) rest ∙ sym (sum_by-cons (λ t. t.price) s sales)

shifts_add_up : (o : Office) → IsOffice o → sum_by (λ shift. cash_of (sales_of_shift o shift.number)) o.shifts ≡ cash_of o.sales
shifts_add_up o office =
    cash_over o.shifts o.sales (λ i row at. omega (arith, office.shift_numbers i row at))
    (All-weaker (IsSaleRow o) (λ s. (1 ≤ s.shift) × (s.shift ≤ length o.shifts)) (λ s row. row.shift) o.sales office.sales)

sums_same : {X : Type 0} (f g : X → ℕ) (xs : List X) → All (λ x. f x ≡ g x) xs → sum_by f xs ≡ sum_by g xs
sums_same f g [] same = refl
sums_same f g (x ∷ xs) same =
    let here = All-head (λ x. f x ≡ g x) x xs same in
    let rest = sums_same f g xs (All-tail (λ x. f x ≡ g x) x xs same) in
    omega (arith, sum_by-cons f x xs, sum_by-cons g x xs, here, rest)

-- the reports of all shifts hold the money of all sales
pub cash_adds_up : (forward : ℕ → ℕ → ℕ) (o : Office) (ats : ℕ → Stamped) → IsOffice o → AskForReports ats → cash_of_reports forward o ats ≡ cash_of o.sales
cash_adds_up forward o ats office ask =
    sums_same (λ (shift : Shift). cash_of (sales_of (reply forward o (ats shift.number)))) (λ shift. cash_of (sales_of_shift o shift.number)) o.shifts
    (all_from_contains (λ (shift : Shift). cash_of (sales_of (reply forward o (ats shift.number)))
    ≡ cash_of (sales_of_shift o shift.number)) o.shifts (λ shift there.
    ap (λ r. cash_of (sales_of r)) (reports_the_shift forward o (ats shift.number) shift office there (ask shift.number))))
    ∙ shifts_add_up o office
