-- The rows after a meter was added, or got a tariff, a base or a key, are the members of the office.
use Rattle.std.proofs.Common.{◌≡◌, ◌≢◌, ℕ, ◌⊎◌, inl, inr, Bool, true, false, List, [], ◌∷◌, ◌++◌, Option, Some, None, refl, sym, ◌∙◌, ap, subst}
use Rattle.std.specs.Prelude.{◌&&◌, ◌||◌, AllPairs, Contains, bytes_eq, if◌then◌else◌, map, option_map}
use Rattle.std.proofs.lemmas.Bool.{false≢true}
use Rattle.std.proofs.lemmas.List.Elements.{Contains-append_left, Contains-push, Contains-push_cases}
use Rattle.std.proofs.lemmas.Option.{same_Some}
use Rattle.std.proofs.lemmas.Slice.Eq.{bytes_eq-Decides}
use Rattle.sts_fields.specs.Base.{base_eq}
use Rattle.sts_fields.specs.declared.base.Base.{Base}
use Rattle.sts_fields.specs.declared.base.Base.TheVariants.{Y1993, Y2014, Y2035}
use Rattle.office_rules.specs.Decision.Edits.{applied, one_base_more, set_meter, with_base, with_key, with_tariff}
use Rattle.office_rules.specs.Office.{Office}
use Rattle.office_rules.specs.declared.decision.change.Edit.TheVariants as edits
use Rattle.office_rules.specs.declared.office.meter.Meter.{Meter}
use Rattle.book_tables.specs.writing.Edited.{edited}
use Rattle.book_tables.specs.row.Rows.{Rows}
use Rattle.book_tables.specs.Stands.{AreMembersOf}
use Rattle.book_tables.proofs.ListLemmas.{contains_map, map_source, pairs_map, pairs_push}
use Rattle.book_tables.proofs.WritingLemmas.PutLemmas.{both_are, both_so, not_free, put_cases, put_elsewhere, put_here, same_totals}

-- ---- a base more

same_year : (a b : Base) → base_eq a b ≡ true → a ≡ b
same_year Y1993 Y1993 e = refl
same_year Y2014 Y2014 e = refl
same_year Y2035 Y2035 e = refl
same_year a b e = absurd (false≢true e)

itself : (base : Base) → base_eq base base ≡ true
itself Y1993 = refl
itself Y2014 = refl
itself Y2035 = refl

either_is : (x y : Bool) → (x || y) ≡ true → (x ≡ true) ⊎ (y ≡ true)
either_is true y e = inl refl
either_is false y e = inr e

either_so : (x y : Bool) → (x ≡ true) ⊎ (y ≡ true) → (x || y) ≡ true
either_so true y e = refl
either_so false y (inl e) = absurd (false≢true e)
either_so false y (inr e) = e

module _ (rows : Rows) (o : Office) (are : AreMembersOf rows o) (number : List ℕ) (base : Base) (free : o.bases number base ≡ false) where
  abbrev more : List ℕ → Base → Bool
  more = one_base_more number base o.bases

  base_there : (q : List ℕ) (b : Base) → more q b ≡ true → Contains (rows.bases ++ (number, base) ∷ []) (q, b)
  base_there q b e = elim (either_is (bytes_eq q number && base_eq b base) (o.bases q b) e) [
    | inl new ↦
        let both = both_are (bytes_eq q number) (base_eq b base) new in
        let q_is = sym ((bytes_eq-Decides q number).0 both.0) in
        let b_is = sym (same_year b base both.1) in
        let is : (number, base) ≡ (q, b) = cc in
        subst (Contains (rows.bases ++ (number, base) ∷ [])) is (Contains-push rows.bases (number, base))
    | inr old ↦ Contains-append_left rows.bases ((number, base) ∷ []) (q, b) ((are.bases q b).0 old)
  ]

  base_back : (q : List ℕ) (b : Base) → Contains (rows.bases ++ (number, base) ∷ []) (q, b) → more q b ≡ true
  base_back q b there = either_so (bytes_eq q number && base_eq b base) (o.bases q b) (elim (Contains-push_cases rows.bases (number, base) (q, b) there) [
    | inl old ↦ inr ((are.bases q b).1 old)
    | inr new ↦
        let q_is : q ≡ number = sym (ap (λ (r : List ℕ × Base). r.0) new) in
        let b_is : base ≡ b = ap (λ (r : List ℕ × Base). r.1) new in
        inl (both_so (bytes_eq q number) (base_eq b base) ((bytes_eq-Decides q number).1 q_is) (subst (λ b. base_eq b base ≡ true) b_is (itself base)))
  ])

  bases_apart : AllPairs (λ a b. a ≢ b) (rows.bases ++ (number, base) ∷ [])
  bases_apart = pairs_push (λ a b. a ≢ b) rows.bases (number, base) are.bases_once (λ a there same.
      false≢true (sym free ∙ (are.bases number base).1 (subst (Contains rows.bases) same there)))

-- ---- a meter

module _ (rows : Rows) (o : Office) (are : AreMembersOf rows o) (number : List ℕ) (m : Meter) (free : o.meters number ≡ None)
    (no_base : o.bases number m.base ≡ false) where
  widened : Office
  widened = applied (edits.AddMeter number m) o

  meter_there : (q : List ℕ) (n : Meter) → widened.meters q ≡ Some n → Contains (rows.meters ++ (number, m) ∷ []) (q, n)
  unfolding widened
  meter_there q n e =
      elim (put_cases (bytes_eq q number) q number m n (o.meters q) refl e) [
        | inl here ↦
            let q_is = sym here.0 in
            let n_is = here.1 in
            let is : (number, m) ≡ (q, n) = cc in
            subst (Contains (rows.meters ++ (number, m) ∷ [])) is (Contains-push rows.meters (number, m))
        | inr old ↦ Contains-append_left rows.meters ((number, m) ∷ []) (q, n) ((are.meters q n).0 old)
      ]

  meter_back : (q : List ℕ) (n : Meter) → Contains (rows.meters ++ (number, m) ∷ []) (q, n) → widened.meters q ≡ Some n
  unfolding widened
  meter_back q n there =
      elim (Contains-push_cases rows.meters (number, m) (q, n) there) [
        | inl old ↦
            let found = (are.meters q n).1 old in
            put_elsewhere (bytes_eq q number) q number m (o.meters q) refl (not_free o.meters q number n free found) ∙ found
        | inr new ↦
            let q_is : q ≡ number = ap (λ (x : List ℕ × Meter). x.0) (sym new) in
            let n_is : m ≡ n = ap (λ (x : List ℕ × Meter). x.1) new in
            put_here (bytes_eq q number) q number m (o.meters q) refl q_is ∙ ap (λ (n : Meter). let v : Option Meter = Some n in v) n_is
      ]

  -- after a meter was added with its base, the rows are the members of the office
  pub meter_added : AreMembersOf (edited (edits.AddMeter number m) rows) (applied (edits.AddMeter number m) o)
  unfolding widened
  meter_added = record {
    tariffs = are.tariffs;
    steps = are.steps;
    meters = λ q n. (meter_there q n, meter_back q n);
    bases = λ q b. (base_there rows o are number m.base no_base q b, base_back rows o are number m.base no_base q b);
    dated_steps = are.dated_steps;
    shifts = are.shifts;
    sales = are.sales;
    totals = same_totals o.sales rows _ refl refl refl are.totals;
    tariffs_once = are.tariffs_once;
    steps_once = are.steps_once;
    meters_once = pairs_push (λ a b. a.0 ≢ b.0) rows.meters (number, m) are.meters_once (λ a there same.
        not_free o.meters a.0 number a.1 free ((are.meters a.0 a.1).1 there) same);
    bases_once = bases_apart rows o are number m.base no_base;
    dated_once = are.dated_once;
  }

-- ---- a meter's tariff, its present base, or its key

abbrev set_row : Bool → (Meter → Meter) → (List ℕ × Meter) → (List ℕ × Meter)
set_row b f r = if b then (r.0, f r.1) else r

set_number : (b : Bool) (f : Meter → Meter) (r : List ℕ × Meter) → (set_row b f r).0 ≡ r.0
set_number true f r = refl
set_number false f r = refl

set_of : (b : Bool) (q : List ℕ) (f : Meter → Meter) (m : Meter) (there : Option Meter) → there ≡ Some m
    → (if b then option_map f there else there) ≡ Some (set_row b f (q, m)).1
set_of true q f m there e = ap (option_map f) e
set_of false q f m there e = e

set_source : (b : Bool) (f : Meter → Meter) (n : Meter) (there : Option Meter) → (if b then option_map f there else there) ≡ Some n
    → (m : Meter) × (there ≡ Some m)
set_source true f n None e = cc
set_source true f n (Some m) e = (m, refl)
set_source false f n there e = (n, e)

module _ (rows : Rows) (o : Office) (are : AreMembersOf rows o) (number : List ℕ) (f : Meter → Meter) where
  abbrev set : List ℕ × Meter → List ℕ × Meter
  set r = set_row (bytes_eq r.0 number) f r

  set_is : (q : List ℕ) (m : Meter) → o.meters q ≡ Some m → set_meter number f o.meters q ≡ Some (set (q, m)).1
  set_is q m e = set_of (bytes_eq q number) q f m (o.meters q) e

  set_there : (q : List ℕ) (n : Meter) → set_meter number f o.meters q ≡ Some n → Contains (map set rows.meters) (q, n)
  set_there q n e =
      let old = set_source (bytes_eq q number) f n (o.meters q) e in
      let there = contains_map set rows.meters (q, old.0) ((are.meters q old.0).0 old.1) in
      let number_is = set_number (bytes_eq q number) f (q, old.0) in
      let meter_is : (set (q, old.0)).1 ≡ n = same_Some (set (q, old.0)).1 n (sym (set_is q old.0 old.1) ∙ e) in
      subst (Contains (map set rows.meters)) (same_pair (set (q, old.0)) q n number_is meter_is) there
    where
      same_pair : (x : List ℕ × Meter) (q : List ℕ) (n : Meter) → x.0 ≡ q → x.1 ≡ n → x ≡ (q, n)
      same_pair x q n e f = let pair : (x.0, x.1) ≡ (q, n) = cc in pair

  set_back : (q : List ℕ) (n : Meter) → Contains (map set rows.meters) (q, n) → set_meter number f o.meters q ≡ Some n
  set_back q n there =
      let old = map_source set rows.meters (q, n) there in
      let m = old.0.1 in
      let q_is : old.0.0 ≡ q = sym (set_number (bytes_eq old.0.0 number) f old.0) ∙ ap (λ (x : List ℕ × Meter). x.0) old.2 in
      let stood : o.meters old.0.0 ≡ Some m = (are.meters old.0.0 m).1 old.1 in
      let n_is : (set old.0).1 ≡ n = ap (λ (x : List ℕ × Meter). x.1) old.2 in
      sym (ap (set_meter number f o.meters) q_is) ∙ set_is old.0.0 m stood ∙ ap (λ (n : Meter). let v : Option Meter = Some n in v) n_is

  set_once : AllPairs (λ a b. a.0 ≢ b.0) (map set rows.meters)
  set_once = pairs_map (λ a b. a.0 ≢ b.0) set rows.meters (λ a b apart same.
      apart (sym (set_number (bytes_eq a.0 number) f a) ∙ same ∙ set_number (bytes_eq b.0 number) f b)) are.meters_once

-- after a meter got another tariff, they are too
pub tariff_set : (rows : Rows) (o : Office) (are : AreMembersOf rows o) (number name : List ℕ)
    → AreMembersOf (edited (edits.SetTariff number name) rows) (applied (edits.SetTariff number name) o)
tariff_set rows o are number name = record {
  tariffs = are.tariffs;
  steps = are.steps;
  meters = λ q n. (set_there rows o are number (with_tariff name) q n, set_back rows o are number (with_tariff name) q n);
  bases = are.bases;
  dated_steps = are.dated_steps;
  shifts = are.shifts;
  sales = are.sales;
  totals = same_totals o.sales rows _ refl refl refl are.totals;
  tariffs_once = are.tariffs_once;
  steps_once = are.steps_once;
  meters_once = set_once rows o are number (with_tariff name);
  bases_once = are.bases_once;
  dated_once = are.dated_once;
}

-- after a meter got another key, they are too
pub key_set : (rows : Rows) (o : Office) (are : AreMembersOf rows o) (number : List ℕ) (key : ℕ)
    → AreMembersOf (edited (edits.SetKey number key) rows) (applied (edits.SetKey number key) o)
key_set rows o are number key = record {
  tariffs = are.tariffs;
  steps = are.steps;
  meters = λ q n. (set_there rows o are number (with_key key) q n, set_back rows o are number (with_key key) q n);
  bases = are.bases;
  dated_steps = are.dated_steps;
  shifts = are.shifts;
  sales = are.sales;
  totals = same_totals o.sales rows _ refl refl refl are.totals;
  tariffs_once = are.tariffs_once;
  steps_once = are.steps_once;
  meters_once = set_once rows o are number (with_key key);
  bases_once = are.bases_once;
  dated_once = are.dated_once;
}

-- after a meter got a present base that it had not had, they are too
pub base_moved : (rows : Rows) (o : Office) (are : AreMembersOf rows o) (number : List ℕ) (base : Base) → o.bases number base ≡ false
    → AreMembersOf (edited (edits.MoveBase number base) rows) (applied (edits.MoveBase number base) o)
base_moved rows o are number base free = record {
  tariffs = are.tariffs;
  steps = are.steps;
  meters = λ q n. (set_there rows o are number (with_base base) q n, set_back rows o are number (with_base base) q n);
  bases = λ q b. (base_there rows o are number base free q b, base_back rows o are number base free q b);
  dated_steps = are.dated_steps;
  shifts = are.shifts;
  sales = are.sales;
  totals = same_totals o.sales rows _ refl refl refl are.totals;
  tariffs_once = are.tariffs_once;
  steps_once = are.steps_once;
  meters_once = set_once rows o are number (with_base base);
  bases_once = bases_apart rows o are number base free;
  dated_once = are.dated_once;
}
