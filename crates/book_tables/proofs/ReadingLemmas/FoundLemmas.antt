-- What is found in the rows is what the office has.
use Rattle.std.proofs.Common.{◌≡◌, ◌≢◌, ℕ, Bool, true, false, List, get_or, Option, Some, None, IsSome, refl, sym, ◌∙◌, ap, subst, arith}
use Rattle.std.specs.Prelude.{◌&&◌, ◌==◌, AllPairs, bytes_eq, filter, find, is_none, is_some, map, option_map}
use Rattle.std.specs.Option.{option_to_list}
use Rattle.std.proofs.lemmas.Bool.{false≢true}
use Rattle.std.proofs.lemmas.Bool.Decides.{nat_tests}
use Rattle.std.proofs.lemmas.Option.{slice_get-get_or}
use Rattle.std.proofs.lemmas.Slice.Eq.{bytes_eq-Decides}
use Rattle.sts_fields.specs.Base.{base_eq, year_of}
use Rattle.sts_fields.specs.declared.base.Base.{Base}
use Rattle.tariff.specs.declared.step.Step.{Step}
use Rattle.office_rules.specs.Office.Lookup.{open_shift, sale_of_ref}
use Rattle.office_rules.specs.Office.{AreNumbered, IsBefore, IsOffice, NotBothOpen, Office}
use Rattle.office_rules.specs.declared.office.meter.Meter.{Meter}
use Rattle.office_rules.specs.declared.office.sale.Sale.{Sale}
use Rattle.office_rules.specs.declared.office.shift.Shift.{Shift}
use Rattle.book_tables.specs.reading.Found.{meters_numbered, tariffs_named}
use Rattle.book_tables.specs.row.Rows.{Rows}
use Rattle.book_tables.specs.Stands.{AreMembersOf}
use Rattle.book_tables.proofs.RowLemmas.RecordLemmas.{one_base}
use Rattle.book_tables.proofs.ListLemmas.{NotBothPass, first_is_all, none_pass, one_passes, pairs_weaker}

same_bytes : (a b : List ℕ) → bytes_eq a b ≡ true → a ≡ b
same_bytes a b is = (bytes_eq-Decides a b).0 is

is_same : (a b : List ℕ) → a ≡ b → bytes_eq a b ≡ true
is_same a b is = (bytes_eq-Decides a b).1 is

parts : (x y : Bool) → (x && y) ≡ true → (x ≡ true) × (y ≡ true)
parts true y e = (refl, e)
parts false y e = cc

fails : (b : Bool) → (b ≡ true → ⊥) → b ≡ false
fails true not = absurd (not refl)
fails false not = refl

none_some : {A : Type 0} (o : Option A) (x : A) → o ≡ None → o ≡ Some x → ⊥
none_some o x none some = cc

-- ---- meters

module _ (rows : Rows) (o : Office) (are : AreMembersOf rows o) (number : List ℕ) where
  has_number : List ℕ × Meter → Bool
  has_number r = bytes_eq r.0 number

  meter_cases : (there : Option Meter) → o.meters number ≡ there → filter has_number rows.meters ≡ option_to_list (option_map (λ m. (number, m)) there)
  unfolding has_number
  meter_cases None e =
      none_pass has_number rows.meters (λ r there. fails (has_number r) (λ passes.
      none_some (o.meters number) r.1 e (sym (ap o.meters (same_bytes r.0 number passes)) ∙ (are.meters r.0 r.1).1 there)))
  meter_cases (Some m) e =
      one_passes has_number rows.meters (number, m)
      (pairs_weaker (λ a b. a.0 ≢ b.0) (NotBothPass has_number) rows.meters
      (λ a b apart p q. apart (same_bytes a.0 number p ∙ sym (same_bytes b.0 number q))) are.meters_once)
      ((are.meters number m).0 e) (is_same number number refl)

  -- the rows of a meter's number are the office's meter under it, where there is one
  pub found_meter : meters_numbered rows number ≡ option_to_list (option_map (λ m. (number, m)) (o.meters number))
  unfolding has_number
  found_meter = meter_cases (o.meters number) refl

-- ---- tariffs

module _ (rows : Rows) (o : Office) (are : AreMembersOf rows o) (name : List ℕ) where
  has_name : List ℕ → Bool
  has_name r = bytes_eq r name

  tariff_cases : (there : Option (List Step)) → o.tariffs name ≡ there → filter has_name rows.tariffs ≡ option_to_list (option_map (λ _. name) there)
  unfolding has_name
  tariff_cases None e =
      none_pass has_name rows.tariffs (λ r there. fails (has_name r) (λ passes.
      let some : IsSome (o.tariffs r) = (are.tariffs r).1 there in
      let none : IsSome {T = List Step} None = subst (λ (v : Option (List Step)). IsSome v) (ap o.tariffs (same_bytes r name passes) ∙ e) some in
      false≢true none))
  tariff_cases (Some steps) e =
      one_passes has_name rows.tariffs name
      (pairs_weaker (λ a b. a ≢ b) (NotBothPass has_name) rows.tariffs
      (λ a b apart p q. apart (same_bytes a name p ∙ sym (same_bytes b name q))) are.tariffs_once)
      ((are.tariffs name).0 (subst (λ (v : Option (List Step)). IsSome v) (sym e) refl)) (is_same name name refl)

  -- the rows of a tariff's name are the name itself, where the office has such a tariff
  pub found_tariff : tariffs_named rows name ≡ option_to_list (option_map (λ _. name) (o.tariffs name))
  unfolding has_name
  found_tariff = tariff_cases (o.tariffs name) refl

second_of : {A B : Type 0} (a : A) (o : Option B) → map (λ (r : A × B). r.1) (option_to_list (option_map (λ b. (a, b)) o)) ≡ option_to_list o
second_of a None = refl
second_of a (Some b) = refl

-- what the rows of a meter's number have is the office's meter under it
pub meter_found : (rows : Rows) (o : Office) (number : List ℕ) → AreMembersOf rows o → map (λ r. r.1) (meters_numbered rows number)
    ≡ option_to_list (o.meters number)
meter_found rows o number are = ap (map (λ (r : List ℕ × Meter). r.1)) (found_meter rows o are number) ∙ second_of number (o.meters number)

-- ---- shifts and sales

numbers_differ : {X : Type 0} (number : X → ℕ) (xs : List X) → AreNumbered number xs → AllPairs (λ a b. number a ≢ number b) xs
numbers_differ number xs numbered i j d before within same =
    let a = numbered i (get_or xs i d) (slice_get-get_or xs i d (omega arith)) in
    let b = numbered j (get_or xs j d) (slice_get-get_or xs j d within) in
    omega (arith, a, b, same)

-- of numbered rows, those of a number are the first that has it, so at most one
pub found_numbered : {X : Type 0} (number : X → ℕ) (xs : List X) (n : ℕ) → AreNumbered number xs → filter (λ x. number x == n) xs
    ≡ option_to_list (find (λ x. number x == n) xs)
found_numbered number xs n numbered =
    first_is_all (λ x. number x == n) xs
    (pairs_weaker (λ a b. number a ≢ number b) (NotBothPass (λ x. number x == n)) xs (λ a b apart p q. apart (grind (arith, nat_tests)))
    (numbers_differ number xs numbered))

is_open : (closed : Option ℕ) → is_none closed ≡ true → is_some closed ≡ false
is_open None e = refl
is_open (Some x) e = cc

-- the open shifts of an operator are the one that the office looks up, if any
pub found_open : (o : Office) (operator : List ℕ) → IsOffice o → filter (λ s. bytes_eq s.operator operator && is_none s.closed) o.shifts
    ≡ option_to_list (open_shift o operator)
found_open o operator office =
    let test : Shift → Bool = λ s. bytes_eq s.operator operator && is_none s.closed in
    first_is_all test o.shifts
    (pairs_weaker NotBothOpen (NotBothPass test) o.shifts (λ a b apart p q.
    let in_a = parts (bytes_eq a.operator operator) (is_none a.closed) p in
    let in_b = parts (bytes_eq b.operator operator) (is_none b.closed) q in
    apart (is_open a.closed in_a.1) (is_open b.closed in_b.1)
    (same_bytes a.operator operator in_a.0 ∙ sym (same_bytes b.operator operator in_b.0))) office.one_open)

-- the sales of an operator under a ref are the one that the office looks up, if any
pub found_ref : (o : Office) (operator order_ref : List ℕ) → IsOffice o
    → filter (λ s. bytes_eq s.operator operator && bytes_eq s.order_ref order_ref) o.sales ≡ option_to_list (sale_of_ref o operator order_ref)
found_ref o operator order_ref office =
    let test : Sale → Bool = λ s. bytes_eq s.operator operator && bytes_eq s.order_ref order_ref in
    first_is_all test o.sales
    (pairs_weaker IsBefore (NotBothPass test) o.sales (λ a b before p q.
    let in_a = parts (bytes_eq a.operator operator) (bytes_eq a.order_ref order_ref) p in
    let in_b = parts (bytes_eq b.operator operator) (bytes_eq b.order_ref order_ref) q in
    before.order_ref (same_bytes a.operator operator in_a.0 ∙ sym (same_bytes b.operator operator in_b.0))
    (same_bytes a.order_ref order_ref in_a.1 ∙ sym (same_bytes b.order_ref order_ref in_b.1))) office.before)

same_number : (x y : ℕ) → (x == y) ≡ true → x ≡ y
same_number x y is = grind (arith, nat_tests)

-- the sales of an identifier, a meter and a base are the first such sale, if any
pub found_tid : (o : Office) (meter : List ℕ) (base : Base) (tid : ℕ) → IsOffice o
    → filter (λ s. bytes_eq s.meter meter && (base_eq s.base base && (s.tid == tid))) o.sales
    ≡ option_to_list (find (λ s. bytes_eq s.meter meter && (base_eq s.base base && (s.tid == tid))) o.sales)
found_tid o meter base tid office =
    let under : Sale → Bool = λ s. base_eq s.base base && (s.tid == tid) in
    let test : Sale → Bool = λ s. bytes_eq s.meter meter && under s in
    first_is_all test o.sales
    (pairs_weaker IsBefore (NotBothPass test) o.sales (λ a b before p q.
    let in_a = parts (bytes_eq a.meter meter) (under a) p in
    let in_b = parts (bytes_eq b.meter meter) (under b) q in
    let under_a = parts (base_eq a.base base) (a.tid == tid) in_a.1 in
    let under_b = parts (base_eq b.base base) (b.tid == tid) in_b.1 in
    before.tid (same_bytes a.meter meter in_a.0 ∙ sym (same_bytes b.meter meter in_b.0))
    (one_base a.base b.base (same_number (year_of a.base) (year_of base) under_a.0 ∙ sym (same_number (year_of b.base) (year_of base) under_b.0)))
    (same_number a.tid tid under_a.1 ∙ sym (same_number b.tid tid under_b.1))) office.before)
