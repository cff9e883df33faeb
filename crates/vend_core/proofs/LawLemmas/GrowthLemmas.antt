-- What an office that has grown keeps: sales and shifts, and the steps and keys that something was
-- sold by.
use Rattle.std.proofs.Common.{◌≡◌, ℕ, Bool, true, List, [], ◌++◌, Option, Some, refl, sym, ◌∙◌, ap, subst, arith}
use Rattle.std.specs.Prelude.{◌≤◌, Contains, is_some, slice_get}
use Rattle.std.proofs.lemmas.List.{append-nil, append_assoc}
use Rattle.std.proofs.lemmas.List.Elements.{Contains-append_left}
use Rattle.std.proofs.lemmas.Option.{same_Some}
use Rattle.sts_fields.specs.Base.{year_of}
use Rattle.sts_fields.specs.declared.base.Base.{Base}
use Rattle.tariff.specs.declared.step.Step.{Step}
use Rattle.office_rules.specs.Law.Growth.{BeginsWith, HasGrown, IsSameShift, SoldStepsStay, TariffsStay}
use Rattle.office_rules.specs.Office.Lookup.{WasSoldSince, WasSoldTo}
use Rattle.office_rules.specs.Office.{Office}
use Rattle.office_rules.specs.declared.office.meter.Meter.{Meter}
use Rattle.office_rules.specs.declared.office.sale.Sale.{Sale}
use Rattle.office_rules.specs.declared.office.shift.Shift.{Shift}

-- an office has grown out of itself, and out of what it had grown out of
pub same_shift : (s : Shift) → IsSameShift s s
same_shift s = record { number = refl; operator = refl; opened = refl; closed = λ some. refl }

-- steps that stay, whatever was sold
pub sold_steps_stay : (o p : Office) → TariffsStay o p → SoldStepsStay o p
sold_steps_stay o p stay = record { first = stay.first; dated = λ name day steps sold at. stay.dated name day steps at }

-- meters that were sold to keep their keys
abbrev pub SoldKeysStay : Office → Office → Type 0
SoldKeysStay o p =
    (number : List ℕ) (m n : Meter) → WasSoldTo o number → o.meters number ≡ Some m → p.meters number ≡ Some n → n.key ≡ m.key

-- they do where meters stay as they are
pub keys_stay : (o p : Office) → ((number : List ℕ) (m : Meter) → o.meters number ≡ Some m → p.meters number ≡ Some m) → SoldKeysStay o p
keys_stay o p stay number m n sold at now = ap (λ (k : Meter). k.key) (same_Some n m (sym now ∙ stay number m at))

-- what an office that has grown keeps of its names: steps and keys that something was sold by,
-- meters that are not moved back, bases
pub record NamesGrow (o p : Office) : Type 0 where
  pub tariffs : SoldStepsStay o p
  pub meters : (number : List ℕ) (m : Meter) → o.meters number ≡ Some m → (n : Meter) × (p.meters number ≡ Some n) × (year_of m.base ≤ year_of n.base)
  pub keys : SoldKeysStay o p
  pub bases : (number : List ℕ) (base : Base) → o.bases number base ≡ true → p.bases number base ≡ true

-- an office with the same names keeps all of that
pub names_same : (o p : Office) → p.tariffs ≡ o.tariffs → p.dated_steps ≡ o.dated_steps → p.meters ≡ o.meters → p.bases ≡ o.bases → NamesGrow o p
names_same o p tariffs dated meters bases = record {
  tariffs = record {
    first = λ name steps at. ap (λ (f : List ℕ → Option (List Step)). f name) tariffs ∙ at;
    dated = λ name day steps sold at. ap (λ (f : List ℕ → ℕ → Option (List Step)). f name day) dated ∙ at;
  };
  meters = λ number m at. (m, ap (λ (f : List ℕ → Option Meter). f number) meters ∙ at, omega arith);
  keys = keys_stay o p (λ number m at. ap (λ (f : List ℕ → Option Meter). f number) meters ∙ at);
  bases = λ number base had. ap (λ (f : List ℕ → Base → Bool). f number base) bases ∙ had;
}

-- where names, sales and shifts have grown
pub grown : (o p : Office) → NamesGrow o p → (rest : List Sale) → p.sales ≡ o.sales ++ rest
    → ((i : ℕ) (s : Shift) → slice_get o.shifts i ≡ Some s → (t : Shift) × (slice_get p.shifts i ≡ Some t) × IsSameShift s t) → HasGrown o p
grown o p names rest sales shifts = record {
  sales = (rest, sales);
  shifts = shifts;
  tariffs = names.tariffs;
  meters = names.meters;
  keys = names.keys;
  bases = names.bases;
}

-- an office that does not change counts as grown
pub grown_none : (o : Office) → HasGrown o o
grown_none o = grown o o (names_same o o refl refl refl refl) [] (sym (append-nil o.sales)) (λ i s at. (s, at, same_shift s))

same_shift_twice : (a b c : Shift) → IsSameShift a b → IsSameShift b c → IsSameShift a c
same_shift_twice a b c x y = record {
  number = y.number ∙ x.number;
  operator = y.operator ∙ x.operator;
  opened = y.opened ∙ x.opened;
  closed = λ some. y.closed (ap is_some (x.closed some) ∙ some) ∙ x.closed some;
}

-- what stands in a list still does in one that begins with it
stands_in : (sales more : List Sale) (s : Sale) → BeginsWith more sales → Contains sales s → Contains more s
stands_in sales more s begins there = subst (λ (l : List Sale). Contains l s) (sym begins.1) (Contains-append_left sales begins.0 s there)

-- what was sold was sold in the grown office too
pub sold_to_on : (o p : Office) (number : List ℕ) → HasGrown o p → WasSoldTo o number → WasSoldTo p number
sold_to_on o p number grown (s, there, is) = (s, stands_in o.sales p.sales s grown.sales there, is)

-- and so it was since a day
pub sold_since_on : (o p : Office) (day : ℕ) → HasGrown o p → WasSoldSince o day → WasSoldSince p day
sold_since_on o p day grown (s, there, is) = (s, stands_in o.sales p.sales s grown.sales there, is)

-- an office that grows and grows again has grown
pub grown_twice : (o p q : Office) → HasGrown o p → HasGrown p q → HasGrown o q
grown_twice o p q a b = record {
  sales = (a.sales.0 ++ b.sales.0, b.sales.1 ∙ ap (λ xs. xs ++ b.sales.0) a.sales.1 ∙ append_assoc o.sales a.sales.0 b.sales.0);
  shifts = λ i s at.
      let t = a.shifts i s at in
      let u = b.shifts i t.0 t.1 in
      (u.0, u.1, same_shift_twice s t.0 u.0 t.2 u.2);
  tariffs = record {
    first = λ name steps at. b.tariffs.first name steps (a.tariffs.first name steps at);
    dated = λ name day steps sold at. b.tariffs.dated name day steps (sold_since_on o p day a sold) (a.tariffs.dated name day steps sold at);
  };
  meters = λ number m at.
      let n = a.meters number m at in
      let k = b.meters number n.0 n.1 in
      (k.0, k.1, omega (arith, n.2, k.2));
  keys = λ number m n sold at now.
      let k = a.meters number m at in
      b.keys number k.0 n (sold_to_on o p number a sold) k.1 now ∙ a.keys number m k.0 sold at k.1;
  bases = λ number base had. b.bases number base (a.bases number base had);
}

-- a sale that stands in an office stands in what it has grown to
pub stands_on : (o p : Office) (s : Sale) → HasGrown o p → Contains o.sales s → Contains p.sales s
stands_on o p s grown there = stands_in o.sales p.sales s grown.sales there
