-- What a sale's tender buys by steps that are listed.
use Rattle.std.proofs.Common.{◌≡◌, ◌≤◌, ◌*◌, ◌^◌, ◌↔◌, Bool, false, true, inl, inr, ℕ, List, [], ◌∷◌, length, refl, sym, subst, arith}
use Rattle.std.specs.Prelude.{◌&&◌, ◌==◌, All, Any, IsTrue, bytes_eq, filter, sum_by, unwrap_or}
use Rattle.std.proofs.lemmas.Bool.{cases_Bool, false≢true}
use Rattle.std.proofs.lemmas.List.Elements.{All-contains, All-filter, All-weaker}
use Rattle.std.proofs.lemmas.List.Sums.{sum_by-le}
use Rattle.sts_fields.specs.Amount.{IsRepresentable, greatest_amount}
use Rattle.sts_fields.specs.Calendar.{month_at}
use Rattle.sts_fields.specs.Day.{day_at}
use Rattle.tariff.specs.Cost.{greatest_prior}
use Rattle.tariff.specs.Purchase.{IsPurchase}
use Rattle.tariff.specs.declared.step.Step.{Step}
use Rattle.vend_core.specs.Law.Reached.{IsBoughtByOne, sales_alone}
use Rattle.office_rules.specs.Office.Lookup.{prior}
use Rattle.office_rules.specs.Office.{IsSaleRow, Office, greatest_count}
use Rattle.office_rules.specs.declared.office.sale.Sale.{Sale}
use Rattle.book_tables.specs.Stands.{tenths_of}
use Rattle.audit_lists.specs.declared.reached.listed.ListedSteps.{ListedSteps}
use Rattle.audit_lists.specs.reached.Prices.{AreListed, Sells, bought_in}

-- the tenths of some sales, or none where there is none
pub tenths_or : (sales : List Sale) → unwrap_or (tenths_of sales) 0 ≡ sum_by (λ s. s.tenths) sales
tenths_or [] = refl
tenths_or (s ∷ more) = refl

few_left : (p : Sale → Bool) (xs : List Sale) → length (filter p xs) ≤ length xs
few_left p [] = omega arith
few_left p (x ∷ xs) = elim (cases_Bool (p x)) [ inl e ↦ rw e (omega (arith, few_left p xs)) | inr e ↦ rw e (omega (arith, few_left p xs)) ]

-- what was sold to a meter in a month is no more than a tariff takes before it
pub prior_within : ((t : ℕ) → IsRepresentable t → t ≤ greatest_amount) → 10 ^ 9 * greatest_amount ≤ greatest_prior
    → (o : Office) (sales : List Sale) → All (IsSaleRow o) sales → length sales ≤ greatest_count → (meter : List ℕ) (month : ℕ)
    → prior (sales_alone sales) meter month ≤ greatest_prior
prior_within greatest most o sales rows few meter month =
    let test = λ (s : Sale). bytes_eq s.meter meter && (month_at s.moment == month) in
    let each = All-weaker (IsSaleRow o) (λ (s : Sale). s.tenths ≤ greatest_amount) (λ s row. greatest s.tenths row.tenths)
    (filter test sales) (All-filter test (IsSaleRow o) sales rows) in
    let sum = sum_by-le (λ (s : Sale). s.tenths) greatest_amount (filter test sales) each in
    let fewer = few_left test sales in
    omega (arith, sum, fewer, few, most)

-- by one of the lists exactly if by steps that a tariff may have had
module _ (o : Office) (earlier : List Sale) (s : Sale) (listed : List ListedSteps) (are : AreListed o listed) (day before : ℕ)
    (day_is : day ≡ day_at s.moment) (before_is : before ≡ prior (sales_alone earlier) s.meter (month_at s.moment)) where
  abbrev Buys : ℕ → List Step → Type 0
  Buys n steps = IsPurchase steps n s.tender (bought_in s)

  -- the tender buys it by one of the lists exactly if by steps that a tariff may have had
  pub bought_or : (b : Bool) → (b ≡ true → Any (Sells day before s) listed) → (b ≡ false → All (λ l. ¬ Sells day before s l) listed)
      → IsTrue b ↔ IsBoughtByOne o earlier s
  bought_or true some none =
      let (i, l, within, is, sells) = some refl in
      let low = sells.from in
      let from : l.from ≤ day_at s.moment = omega (arith, low, day_is) in (
        λ _. record {
          steps = l.steps;
          are = (are (day_at s.moment) l.steps).1 (l, (i, within, is), from, refl);
          bought = subst (λ (n : ℕ). Buys n l.steps) before_is sells.bought;
        },
        λ _. refl,
      )
  bought_or false some none = (
    λ e. absurd (false≢true e),
    λ one.
        let l = (are (day_at s.moment) one.steps).0 one.are in
        let low = l.2 in
        let from : l.0.from ≤ day = omega (arith, low, day_is) in
        absurd (All-contains (λ (x : ListedSteps). ¬ Sells day before s x) listed l.0 (none refl) l.1
        (record {
          from = from;
          bought = subst (λ (n : ℕ). Buys n l.0.steps) (sym before_is)
              (subst (Buys (prior (sales_alone earlier) s.meter (month_at s.moment))) (sym l.3) one.bought);
        })),
  )
