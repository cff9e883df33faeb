-- The report of the only shift of an office tells the price of the only sale.
use Rattle.std.proofs.Common.{◌≡◌, inl, inr, ℕ, List, [], ◌∷◌, ◌++◌, length, Result, Ok, refl, sym, ◌∙◌, ap, arith}
use Rattle.std.specs.Prelude.{codes, decimal, sum_by}
use Rattle.std.proofs.lemmas.List.{append_assoc}
use Rattle.std.proofs.lemmas.List.Sums.{sum_by-cons}
use Rattle.sts_token.specs.Token.{BlockFunction}
use Rattle.office_rules.specs.Decision.Fold.{reply}
use Rattle.office_rules.specs.Law.Cash.{AskForReports, cash_of, cash_of_reports}
use Rattle.office_rules.specs.Law.Handed.{sales_of}
use Rattle.office_rules.specs.Office.{Office}
use Rattle.papers.specs.Report.{sum_of_tenths, totals_text}
use Rattle.papers.specs.Text.{line}
use Rattle.vend_core.specs.Lists.{IsServed}
use Rattle.office_rules.specs.declared.decision.answer.Answer.{Answer}
use Rattle.office_rules.specs.declared.decision.answer.Answer.TheVariants.{Report}
use Rattle.office_rules.specs.declared.decision.refusal.Refusal.{Refusal}
use Rattle.office_rules.specs.declared.decision.request.Request.{Request}
use Rattle.office_rules.specs.declared.decision.request.Request.TheVariants.{ShiftReport}
use Rattle.office_rules.specs.declared.decision.request.Stamped.{Stamped}
use Rattle.office_rules.specs.declared.office.sale.Sale.{Sale}
use Rattle.office_rules.specs.declared.office.shift.Shift.{Shift}

-- what is granted is what the rules answer: memory was not short
granted : (forward : BlockFunction) (o p : Office) (at : Stamped) (r : Result Answer Refusal) (answer : Answer)
    → IsServed forward o at r p → r ≡ Ok answer → reply forward o at ≡ Ok answer
granted forward o p at r answer (inl (r_is, p_is)) is = sym r_is ∙ is
granted forward o p at r answer (inr (r_is, p_is)) is = cc

-- the report of the only shift holds the price of the only sale, if those of all shifts hold the
-- money of all sales
pub cash_alone : (forward : BlockFunction) (o p : Office) (at : Stamped) (r : Result Answer Refusal) (shift told : Shift) (sale : Sale)
    (sales : List Sale) → IsServed forward o at r p → r ≡ Ok (Report told sales) → at.request ≡ ShiftReport shift.number
    → o.shifts ≡ shift ∷ [] → o.sales ≡ sale ∷ []
    → ((ats : ℕ → Stamped) → AskForReports ats → cash_of_reports forward o ats ≡ cash_of o.sales)
    → cash_of sales ≡ sale.price
cash_alone forward o p at r shift told sale sales served is request_is shifts_is sales_is law =
    let ats : ℕ → Stamped = λ n. record at { request = ShiftReport n } in
    let asked : ats shift.number ≡ at = ap (λ (q : Request). let a : Stamped = record at { request = q } in a) (sym request_is) in
    let answered : reply forward o (ats shift.number) ≡ Ok (Report told sales) =
    ap (λ (a : Stamped). reply forward o a) asked ∙ granted forward o p at r (Report told sales) served is in
    let cash : Shift → ℕ = λ s. cash_of (sales_of (reply forward o (ats s.number))) in
    let one_report : sum_by cash (shift ∷ []) ≡ cash shift = omega (arith, sum_by-cons cash shift []) in
    let one_sale : cash_of (sale ∷ []) ≡ sale.price = omega (arith, sum_by-cons (λ (s : Sale). s.price) sale []) in
    let reports : cash_of_reports forward o ats ≡ cash_of sales =
    ap (sum_by cash) shifts_is ∙ one_report ∙ ap (λ q. cash_of (sales_of q)) answered in
    sym reports ∙ law ats (λ n. refl) ∙ ap (λ (some : List Sale). cash_of some) sales_is ∙ one_sale

-- totals end with the line of the cash
pub ends_with_cash : (text front : List ℕ) (sales : List Sale) (cash : ℕ)
    → text ≡ front ++ totals_text (length sales) (sum_of_tenths sales) (cash_of sales) → cash_of sales ≡ cash
    → (front : List ℕ) × (text ≡ front ++ line (codes "CASH") (decimal cash))
ends_with_cash text front sales cash is cash_is =
    let before = line (codes "SALES") (decimal (length sales)) ++ line (codes "TENTHS") (decimal (sum_of_tenths sales)) in (
      front ++ before,
      is ∙ sym (append_assoc front before (line (codes "CASH") (decimal (cash_of sales))))
          ∙ ap (λ n. front ++ before ++ line (codes "CASH") (decimal n)) cash_is,
    )
