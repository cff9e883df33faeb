-- The purchase by the greatest code is the purchase.
use Rattle.std.proofs.Common.{◌≡◌, ℕ, zero, suc, ◌^◌, ◌<◌, ◌≤◌, ◌↔◌, inl, inr, Bool, true, false, cond, leb, List, Option, Some, None, sym, ◌∙◌, ap, refl, subst, arith}
use Rattle.std.specs.Prelude.{option_map, MatchOption}
use Rattle.std.proofs.lemmas.Bool.{cases_lt}
use Rattle.std.proofs.lemmas.Bool.Decides.{nat_tests}
use Rattle.tariff.specs.declared.bought.Buy.{Buy}
use Rattle.tariff.specs.declared.step.Step.{Step}
use Rattle.tariff.specs.Cost.{cost_of}
use Rattle.tariff.specs.Purchase.{IsPurchase, bought, greatest_passing, purchase_of}
use Rattle.tariff.specs.MostTenths.{AreMost}
use Rattle.sts_fields.specs.Amount.{IsFloor, amount_of_code}
use Rattle.tariff.proofs.CodeLemmas.{AmountLaw, amount_of_code-representable, amount_of_code-rises, amount_of_code-some, code_from_representable}
use Rattle.tariff.proofs.CostLemmas.{cost_of-rises}

-- the greatest number from 1 to n that passes
record IsGreatestPassing (test : ℕ → Bool) (n k : ℕ) : Type 0 where
  some : 1 ≤ k
  within : k ≤ n
  passes : test k ≡ true
  greatest : (j : ℕ) → k < j → j ≤ n → test j ≡ false

-- what the greatest one that passes is, where some is or none
abbrev Passing : (ℕ → Bool) → ℕ → Option ℕ → Type 0
Passing test n r =
    MatchOption r ((j : ℕ) → 1 ≤ j → j ≤ n → test j ≡ false) (IsGreatestPassing test n)

-- a number that fails changes nothing below it
passing_more : (test : ℕ → Bool) (n : ℕ) (r : Option ℕ) → test (suc n) ≡ false → Passing test n r
    → Passing test (suc n) r
passing_more test n None fails none = λ j some within. elim (cases_lt j (suc n)) [
  | inl below ↦ none j some (omega arith)
  | inr top ↦ let at : j ≡ suc n = omega arith in rw at fails
]
passing_more test n (Some k) fails g = record {
  some = g.some;
  within = omega (arith, g.within);
  passes = g.passes;
  greatest = λ j above within. elim (cases_lt j (suc n)) [
    | inl below ↦ g.greatest j above (omega arith)
    | inr top ↦ let at : j ≡ suc n = omega arith in rw at fails
  ];
}

passing_step : (test : ℕ → Bool) (n : ℕ) (b : Bool) (r : Option ℕ) → test (suc n) ≡ b
    → Passing test n r → Passing test (suc n) (cond b (Some (suc n)) r)
passing_step test n true r is p = record { some = omega arith; within = omega arith; passes = is; greatest = λ j above within. absurd (omega arith) }
passing_step test n false r is p = passing_more test n r is p

greatest_passing-is : (test : ℕ → Bool) (n : ℕ) → Passing test n (greatest_passing test n)
unfolding greatest_passing
greatest_passing-is test zero = λ j some within. absurd (omega arith)
greatest_passing-is test (suc n) =
    passing_step test n (test (suc n)) (greatest_passing test n) refl (greatest_passing-is test n)

-- a tender covers the amount of this code, from 1 on, and of no greater one
record IsGreatestCode (steps : List Step) (prior tender code : ℕ) : Type 0 where
  some : 1 ≤ code
  covered : cost_of steps prior (amount_of_code code) ≤ tender
  greatest : (k : ℕ) → code < k → k < 2 ^ 16 → tender < cost_of steps prior (amount_of_code k)

-- the greatest code that a tender covers gives the purchase
purchase_from_code : AmountLaw → (steps : List Step) (prior tender code : ℕ) → code < 2 ^ 16
    → IsGreatestCode steps prior tender code
    → IsPurchase steps prior tender (bought steps prior tender (amount_of_code code))
purchase_from_code law steps prior tender code fits g = record {
  representable = amount_of_code-representable law code fits;
  some = amount_of_code-some law code g.some fits;
  price = refl;
  within = g.covered;
  greatest = λ t carried cheap.
      let other = code_from_representable law t carried in
      elim (cases_lt code other.0) [
        | inl above ↦
            let dear = g.greatest other.0 above other.1 in
            let same = ap (cost_of steps prior) other.2 in
            absurd (omega arith)
        | inr within ↦ subst (λ (u : ℕ). u ≤ amount_of_code code) other.2 (amount_of_code-rises law other.0 code within fits)
      ];
  change = omega (arith, g.covered);
}

-- a purchase is there exactly where a tenth costs no more than the tender
abbrev pub Outcome : List Step → ℕ → ℕ → Option Buy → Type 0
Outcome steps prior tender r =
    MatchOption r (tender < cost_of steps prior 1) (IsPurchase steps prior tender)

outcome_from_passing : AmountLaw → (steps : List Step) (prior tender : ℕ) (r : Option ℕ)
    → Passing (λ code. leb (cost_of steps prior (amount_of_code code)) tender) 65535 r
    → Outcome steps prior tender
    (option_map (λ code. bought steps prior tender (amount_of_code code)) r)
outcome_from_passing law steps prior tender None none =
    let dear = none 1 (omega arith) (omega arith) in grind (arith, nat_tests)
outcome_from_passing law steps prior tender (Some code) g =
    purchase_from_code law steps prior tender code (omega (arith, g.within)) (record {
      some = g.some;
      covered = let passes = g.passes in grind (arith, nat_tests);
      greatest =
          λ k above fits. let fails = g.greatest k above (omega arith) in grind (arith, nat_tests);
    })

-- what `purchase_of` computes is the purchase, or none where a tenth costs too much
pub purchase_of-is : AmountLaw → (steps : List Step) (prior tender : ℕ)
    → Outcome steps prior tender (purchase_of steps prior tender)
unfolding purchase_of
purchase_of-is law steps prior tender = outcome_from_passing law steps prior tender _
    (greatest_passing-is (λ code. leb (cost_of steps prior (amount_of_code code)) tender) 65535)

-- what is bought covers a tenth at least
pub purchase_covers : (steps : List Step) (prior tender : ℕ) (b : Buy)
    → IsPurchase steps prior tender b → cost_of steps prior 1 ≤ tender
purchase_covers steps prior tender b p =
    omega (arith, p.within, p.price, cost_of-rises steps prior 1 b.tenths p.some)

same_buy : (b c : Buy) → b.tenths ≡ c.tenths → b.price ≡ c.price → b.change ≡ c.change → b ≡ c
same_buy b c tenths price change =
    ap (λ t. record { tenths = t; price = b.price; change = b.change }) tenths
    ∙ ap (λ p. record { tenths = c.tenths; price = p; change = b.change }) price
    ∙ ap (λ r. record { tenths = c.tenths; price = c.price; change = r }) change

-- there is one purchase at most
pub one_purchase : (steps : List Step) (prior tender : ℕ) (b c : Buy)
    → IsPurchase steps prior tender b → IsPurchase steps prior tender c → b ≡ c
one_purchase steps prior tender b c p q =
    let up : b.tenths ≤ c.tenths =
    q.greatest b.tenths p.representable (omega (arith, p.price, p.within)) in
    let down : c.tenths ≤ b.tenths =
    p.greatest c.tenths q.representable (omega (arith, q.price, q.within)) in
    let tenths : b.tenths ≡ c.tenths = omega arith in
    let price : b.price ≡ c.price = p.price ∙ ap (cost_of steps prior) tenths ∙ sym q.price in
    same_buy b c tenths price (omega (arith, p.change, q.change))

-- an outcome is the one that `purchase_of` computes
pub same_outcome : (steps : List Step) (prior tender : ℕ) (r s : Option Buy)
    → Outcome steps prior tender r → Outcome steps prior tender s → r ≡ s
same_outcome steps prior tender None None dear costly = refl
same_outcome steps prior tender None (Some c) dear q =
    absurd (omega (arith, dear, purchase_covers steps prior tender c q))
same_outcome steps prior tender (Some b) None p costly =
    absurd (omega (arith, costly, purchase_covers steps prior tender b p))
same_outcome steps prior tender (Some b) (Some c) p q =
    ap Some (one_purchase steps prior tender b c p q)

-- an outcome is a purchase exactly where this is the one for the tender
pub computed_iff : (steps : List Step) (prior tender : ℕ) (b : Buy) (r : Option Buy)
    → Outcome steps prior tender r → (r ≡ Some b) ↔ IsPurchase steps prior tender b
computed_iff steps prior tender b None dear =
    (λ e. cc, λ p. absurd (omega (arith, dear, purchase_covers steps prior tender b p)))
computed_iff steps prior tender b (Some c) q = (
  λ e. let same : c ≡ b = cc in subst (IsPurchase steps prior tender) same q,
  λ p. ap Some (one_purchase steps prior tender c b q p),
)

-- an outcome is none exactly where the tender has no purchase
pub none_iff : (steps : List Step) (prior tender : ℕ) (r : Option Buy)
    → Outcome steps prior tender r → (r ≡ None) ↔ ((b : Buy) → ¬ IsPurchase steps prior tender b)
none_iff steps prior tender None dear =
    (λ e b p. omega (arith, dear, purchase_covers steps prior tender b p), λ never. refl)
none_iff steps prior tender (Some c) q = (λ e. cc, λ never. absurd (never c q))

-- an outcome is none exactly where a tenth costs more than the tender
pub too_little_iff : (steps : List Step) (prior tender : ℕ) (r : Option Buy)
    → Outcome steps prior tender r → (r ≡ None) ↔ (tender < cost_of steps prior 1)
too_little_iff steps prior tender None dear = (λ e. dear, λ d. refl)
too_little_iff steps prior tender (Some c) q =
    (λ e. cc, λ dear. absurd (omega (arith, dear, purchase_covers steps prior tender c q)))

-- where some purchase is affordable, `purchase_of` finds the purchase
found : (steps : List Step) (prior tender : ℕ) (r : Option Buy) → Outcome steps prior tender r
    → cost_of steps prior 1 ≤ tender → (b : Buy) × IsPurchase steps prior tender b
found steps prior tender None dear covered = absurd (omega (arith, dear, covered))
found steps prior tender (Some b) p covered = (b, p)

-- a greater tender buys no less
pub more_for_more : AmountLaw → (steps : List Step) (prior less more : ℕ) (b : Buy)
    → IsPurchase steps prior less b → less ≤ more
    → (c : Buy) × IsPurchase steps prior more c × (b.tenths ≤ c.tenths)
more_for_more law steps prior less more b p rises =
    let covered = purchase_covers steps prior less b p in
    let bought = found steps prior more _ (purchase_of-is law steps prior more) (omega arith) in (
      bought.0,
      bought.1,
      bought.1.greatest b.tenths p.representable
          (omega (arith, p.price, p.within)),
    )

-- the greatest amount up to the most tenths that a tender covers is the purchase
pub purchase_from_most : AmountLaw → (steps : List Step) (prior tender most a : ℕ)
    → AreMost steps prior tender most → 1 ≤ most → IsFloor most a
    → IsPurchase steps prior tender (bought steps prior tender a)
purchase_from_most law steps prior tender most a m some f =
    let covered : cost_of steps prior a ≤ tender =
    omega (arith, cost_of-rises steps prior a most f.within, m.covered) in
    let least = amount_of_code-representable law 1 (omega arith) in
    record {
      representable = f.representable;
      some = elim (cases_lt a 1) [
        | inl none ↦ absurd (f.none_between 1 least none some)
        | inr more ↦ more
      ];
      price = refl;
      within = covered;
      greatest = λ t carried cheap. elim (cases_lt a t) [
        | inl above ↦ absurd (f.none_between t carried above (elim (cases_lt most t) [
          | inl dear ↦ absurd (omega (arith, m.greatest t dear (law.greatest t carried)))
          | inr within ↦ within
        ]))
        | inr within ↦ within
      ];
      change = omega (arith, covered);
    }
