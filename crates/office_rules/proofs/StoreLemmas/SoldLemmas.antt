-- Whether something was sold, to a meter or since a day: which sales stand then.
use Rattle.std.proofs.Common.{◌≡◌, ◌≢◌, ℕ, ◌<◌, ◌↔◌, Bool, true, false, List, [], ◌∷◌, refl, sym, ◌∙◌, ap, arith}
use Rattle.std.specs.Prelude.{◌&&◌, ◌||◌, Contains, bytes_eq, nat_le, not}
use Rattle.std.specs.List.{list_any}
use Rattle.std.proofs.lemmas.Bool.{false≢true, le-leb, leb-false, leb-true}
use Rattle.std.proofs.lemmas.List.Folds.{list_any_at}
use Rattle.std.proofs.lemmas.Slice.Eq.{bytes_eq-Decides}
use Rattle.sts_fields.specs.Day.{day_at}
use Rattle.office_rules.specs.Office.Lookup.{WasSoldSince, WasSoldTo, has_sales, sold_since}
use Rattle.office_rules.specs.Office.{Office}
use Rattle.office_rules.specs.declared.office.sale.Sale.{Sale}
use Rattle.office_rules.proofs.OfficeLemmas.RowLemmas.{contains_first, contains_further}

-- what does not hold is false
pub false_where : (b : Bool) → (b ≡ true → ⊥) → b ≡ false
false_where true fails = absurd (fails refl)
false_where false fails = refl

module _ {X : Type 0} (p : X → Bool) where
  any_at : (x : X) (xs : List X) (b : Bool) → p x ≡ b
      → (list_any p xs ≡ true → (y : X) × Contains xs y × (p y ≡ true))
      → (b || list_any p xs) ≡ true → (y : X) × Contains (x ∷ xs) y × (p y ≡ true)
  any_at x xs true is further e = (x, contains_first x xs, is)
  any_at x xs false is further e =
      let y = further e in
      (y.0, contains_further x y.0 xs y.1, y.2)

  -- where some element passes, there is one
  pub any_found : (xs : List X) → list_any p xs ≡ true → (y : X) × Contains xs y × (p y ≡ true)
  any_found [] e = cc
  any_found (x ∷ xs) e = any_at x xs (p x) refl (any_found xs) e

  -- an element that passes is enough
  pub any_passes : (xs : List X) (y : X) → Contains xs y → p y ≡ true → list_any p xs ≡ true
  any_passes xs y there passes =
      list_any_at p xs there.0 y there.1 (ap p there.2 ∙ passes)

-- there is a sale to a meter exactly where one stands
pub sold_to_is : (o : Office) (number : List ℕ) → (has_sales o number ≡ true) ↔ WasSoldTo o number
sold_to_is o number = (
  λ e.
      let s = any_found (λ (s : Sale). bytes_eq s.meter number) o.sales e in
      (s.0, s.1, (bytes_eq-Decides s.0.meter number).0 s.2),
  λ sold. any_passes (λ (s : Sale). bytes_eq s.meter number) o.sales sold.0 sold.1
      ((bytes_eq-Decides sold.0.meter number).1 sold.2),
)

-- and there is none exactly where each sale is to another meter
pub not_sold_to_is : (o : Office) (number : List ℕ)
    → (has_sales o number ≡ false) ↔ ((s : Sale) → Contains o.sales s → s.meter ≢ number)
not_sold_to_is o number = (
  λ e s there same. false≢true (sym e ∙ (sold_to_is o number).1 (s, there, same)),
  λ none. false_where (has_sales o number) (λ e.
      let s = (sold_to_is o number).0 e in
      none s.0 s.1 s.2),
)

-- a sale was made since a day exactly where one stands that was
pub sold_since_is : (o : Office) (day : ℕ) → (sold_since o day ≡ true) ↔ WasSoldSince o day
sold_since_is o day = (
  λ e.
      let s = any_found (λ (s : Sale). nat_le day (day_at s.moment)) o.sales e in
      (s.0, s.1, leb-true day (day_at s.0.moment) s.2),
  λ sold. any_passes (λ (s : Sale). nat_le day (day_at s.moment)) o.sales sold.0 sold.1
      (le-leb day (day_at sold.0.moment) sold.2),
)

-- and none was exactly where each sale was made before the day
pub not_sold_since_is : (o : Office) (day : ℕ)
    → (sold_since o day ≡ false) ↔ ((s : Sale) → Contains o.sales s → day_at s.moment < day)
not_sold_since_is o day = (
  λ e s there.
      leb-false day (day_at s.moment)
      (false_where (nat_le day (day_at s.moment)) (λ since.
      false≢true (sym e ∙ (sold_since_is o day).1 (s, there, leb-true day (day_at s.moment) since)))),
  λ before. false_where (sold_since o day) (λ e.
      let s = (sold_since_is o day).0 e in
      let earlier = before s.0 s.1 in
      let since = s.2 in
      absurd (omega (arith, earlier, since))),
)

-- a withdrawal that passes both of its tests is one before which nothing was sold since the day
pub passed_both : (later sold : Bool) → (later && not sold) ≡ true → sold ≡ false
passed_both true false e = refl
passed_both true true e = cc
passed_both false sold e = cc
