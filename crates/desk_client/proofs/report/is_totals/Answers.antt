use Rattle.std.proofs.Common.{◌≡◌, ◌≢◌, ◌∙◌, ℕ, List, [], ◌∷◌, ◌++◌, length, codes, Bool, ap, sym, refl, arith}
use Rattle.std.specs.Prelude.{IsTrue, decimal, ◌==◌}
use Rattle.std.proofs.lemmas.Bool.Decides.{nat_tests}
use Rattle.std.proofs.lemmas.List.{append-nil, append_cancel_left}
use Rattle.papers.specs.Report.{totals_text}
use Rattle.desk_client.proofs.ReportLemmas.{totals-parts}
use Rattle.desk_client.proofs.report.is_totals.Goals as goal

-- the totals, each behind its word
parts : (text : List ℕ) (count tenths cash : ℕ) → text ≡ totals_text count tenths cash
    → text ≡ codes "SALES " ++ (decimal count ++ 10 ∷ (codes "TENTHS " ++ (decimal tenths ++ 10 ∷ (codes "CASH " ++ (decimal cash ++ 10 ∷ [])))))
parts text count tenths cash is = is ∙ sym (append-nil (totals_text count tenths cash)) ∙ sym (totals-parts count tenths cash [])

-- what stands behind a word, a number and the end of their line is one text
behind_one : (text word digits rest more : List ℕ) → text ≡ word ++ (digits ++ 10 ∷ rest) → text ≡ word ++ (digits ++ 10 ∷ more) → rest ≡ more
behind_one text word digits rest more a b =
    let same = append_cancel_left digits (10 ∷ rest) (10 ∷ more) (append_cancel_left word (digits ++ 10 ∷ rest) (digits ++ 10 ∷ more) (sym a ∙ b)) in cc

-- nothing stands behind totals that are the whole
totals-one : (count tenths cash : ℕ) (rest : List ℕ) → totals_text count tenths cash ++ rest ≡ totals_text count tenths cash → rest ≡ []
totals-one count tenths cash rest e =
    append_cancel_left (totals_text count tenths cash) rest [] (e ∙ sym (append-nil (totals_text count tenths cash)))

-- a text that was looked at has no byte
empty_is : (rest : List ℕ) (b : Bool) → b ≡ (length rest == 0) → (IsTrue b → rest ≡ []) × (rest ≡ [] → IsTrue b)
empty_is [] b e = (λ t. refl, λ is. cc)
empty_is (x ∷ rest) b e = (λ t. absurd (grind (arith, nat_tests)), λ is. absurd cc)

pub returns-in_default : goal.returns-in_default
returns-in_default c =
    let s = c.args.sums.now in
    (λ t. absurd cc, λ is. absurd (c.in_default.ensures _ (parts c.args.text.now s.count s.tenths s.cash is)))

pub returns-in_default-behind_count : goal.returns-in_default-behind_count
returns-in_default-behind_count c =
    let s = c.args.sums.now in (
      λ t. absurd cc,
      λ is.
          let first = behind_one c.args.text.now (codes "SALES ") (decimal s.count) c.in-Some.behind_sales.now _ c.in-Some.ensures (parts c.args.text.now s.count s.tenths s.cash is) in
          absurd (c.in_default-behind_count.ensures _ first),
    )

pub returns-in-Some-behind_count-2 : goal.returns-in-Some-behind_count-2
returns-in-Some-behind_count-2 c =
    let s = c.args.sums.now in
    let rest = c.in-Some-behind_count-2.rest.now in
    let text : c.args.text.now ≡ totals_text s.count s.tenths s.cash ++ rest =
    c.in-Some.ensures ∙ ap (λ (t : List ℕ). codes "SALES " ++ (decimal s.count ++ 10 ∷ t)) (c.in-Some-behind_count.ensures
    ∙ ap (λ (t : List ℕ). codes "TENTHS " ++ (decimal s.tenths ++ 10 ∷ t)) c.in-Some-behind_count-2.ensures) ∙ totals-parts s.count s.tenths s.cash rest in
    let more = totals-one s.count s.tenths s.cash rest in
    let empty = empty_is rest c.is_empty.result c.is_empty.ensures in (
      λ yes. text ∙ ap (λ (t : List ℕ). totals_text s.count s.tenths s.cash ++ t) (empty.0 yes) ∙ append-nil (totals_text s.count s.tenths s.cash),
      λ is. empty.1 (more (sym text ∙ is)),
    )

pub returns-in-None : goal.returns-in-None
returns-in-None c =
    let s = c.args.sums.now in (
      λ t. absurd cc,
      λ is.
          let first = behind_one c.args.text.now (codes "SALES ") (decimal s.count) c.in-Some.behind_sales.now _ c.in-Some.ensures (parts c.args.text.now s.count s.tenths s.cash is) in
          let second = behind_one c.in-Some.behind_sales.now (codes "TENTHS ") (decimal s.tenths) c.in-Some-behind_count.behind_tenths.now _ c.in-Some-behind_count.ensures first in
          absurd (c.in-None.ensures _ second),
    )
