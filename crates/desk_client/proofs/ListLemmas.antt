-- A list behind its front.
use Rattle.std.proofs.Common.{◌≡◌, ◌∙◌, ℕ, false, List, ◌++◌, map, ap, sym}
use Rattle.std.specs.List.{AllByRecursion}
use Rattle.std.proofs.lemmas.List.{append_cancel_left}
use Rattle.records.specs.List.{AreReadInOneWay, items_text}
use Rattle.records.proofs.ItemLemmas.{one_list}

-- a list behind a front, and what follows it
pub listed_so : (text p front rest list behind more : List ℕ) → p ≡ front → text ≡ p ++ rest → rest ≡ list ++ behind → behind ≡ more
    → text ≡ front ++ (list ++ more)
listed_so text p front rest list behind more is whole found so =
    whole ∙ ap (λ (f : List ℕ). f ++ rest) is ∙ ap (λ (r : List ℕ). front ++ r) (found ∙ ap (λ (b : List ℕ). list ++ b) so)

-- a text has one list behind its front, and one thing follows it
pub listed : {A : Type 0} (is_told : A → Type 0) (text_of : A → List ℕ) → AreReadInOneWay is_told text_of
    → (text p front rest after : List ℕ) (xs ys : List A) {more : List ℕ} → p ≡ front → text ≡ p ++ rest
    → rest ≡ items_text false (map text_of xs) ++ after → AllByRecursion is_told xs → AllByRecursion is_told ys
    → text ≡ front ++ (items_text false (map text_of ys) ++ more) → (map text_of xs ≡ map text_of ys) × (after ≡ more)
listed is_told text_of way text p front rest after xs ys {more} is whole found tx ty other =
    one_list is_told text_of way xs ys after more tx ty
    (sym found ∙ append_cancel_left front rest (items_text false (map text_of ys) ++ more) (ap (λ (f : List ℕ). f ++ rest) (sym is) ∙ sym whole ∙ other))
