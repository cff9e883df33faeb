-- The rows tell the office whose members they are.
use Rattle.std.proofs.Common.{◌≡◌, ◌≤◌, ℕ, arith, Bool, true, false, List, Option, Some, None, IsSome, refl, sym, ◌∙◌, ap, subst, [], ◌∷◌, suc, length}
use Rattle.std.proofs.Math.Path.{fun_ext}
use Rattle.std.specs.Prelude.{Contains, slice_get}
use Rattle.std.proofs.lemmas.Bool.{false≢true}
use Rattle.std.proofs.lemmas.Option.{same_Some}
use Rattle.sts_fields.specs.declared.base.Base.{Base}
use Rattle.tariff.specs.declared.step.Step.{Step}
use Rattle.office_rules.specs.Office.{IsOffice, Office}
use Rattle.office_rules.specs.declared.office.meter.Meter.{Meter}
use Rattle.book_tables.specs.row.Rows.{DatedStepRow, Rows, StepRow}
use Rattle.book_tables.specs.Stands.{AreMembersOf, HasDatedStep, HasStep}

-- of each place the two lists have the same
pub same_places : {X : Type 0} (xs ys : List X) → ((i : ℕ) (x : X) → slice_get xs i ≡ Some x → slice_get ys i ≡ Some x)
    → ((i : ℕ) (x : X) → slice_get ys i ≡ Some x → slice_get xs i ≡ Some x) → xs ≡ ys
same_places [] [] there back = refl
same_places [] (y ∷ ys) there back = let e = back 0 y refl in cc
same_places (x ∷ xs) [] there back = let e = there 0 x refl in cc
same_places (x ∷ xs) (y ∷ ys) there back =
    let first = there 0 x refl in
    let rest = same_places xs ys (λ i z. there (suc i) z) (λ i z. back (suc i) z) in
    cc

-- rows of the same names, steps, meters, bases and so on, whatever their totals
pub record SameMembers (a b : Rows) : Type 0 where
  pub tariffs : a.tariffs ≡ b.tariffs
  pub steps : a.steps ≡ b.steps
  pub meters : a.meters ≡ b.meters
  pub shifts : a.shifts ≡ b.shifts
  pub sales : a.sales ≡ b.sales
  pub bases : a.bases ≡ b.bases
  pub dated_steps : a.dated_steps ≡ b.dated_steps

module _ (a b : Rows) (same : SameMembers a b) (o p : Office) (these : AreMembersOf a o) (those : AreMembersOf b p) where
  -- a step of one office's tariff is one of the other's
  step_of_other : (r : StepRow) → HasStep o r → HasStep p r
  step_of_other r has = (those.steps r).1 (subst (λ l. Contains l r) same.steps ((these.steps r).0 has))

  dated_of_other : (r : DatedStepRow) → HasDatedStep o r → HasDatedStep p r
  dated_of_other r has = (those.dated_steps r).1 (subst (λ l. Contains l r) same.dated_steps ((these.dated_steps r).0 has))

  name_of_other : (name : List ℕ) → IsSome (o.tariffs name) → IsSome (p.tariffs name)
  name_of_other name some = (those.tariffs name).1 (subst (λ l. Contains l name) same.tariffs ((these.tariffs name).0 some))

  meter_of_other : (number : List ℕ) (m : Meter) → o.meters number ≡ Some m → p.meters number ≡ Some m
  meter_of_other number m e = (those.meters number m).1 (subst (λ l. Contains l (number, m)) same.meters ((these.meters number m).0 e))

  base_of_other : (number : List ℕ) (base : Base) → o.bases number base ≡ true → p.bases number base ≡ true
  base_of_other number base e = (those.bases number base).1 (subst (λ l. Contains l (number, base)) same.bases ((these.bases number base).0 e))

  step_there : (name : List ℕ) (xs ys : List Step) → o.tariffs name ≡ Some xs → p.tariffs name ≡ Some ys → (i : ℕ) (x : Step)
      → slice_get xs i ≡ Some x → slice_get ys i ≡ Some x
  step_there name xs ys e f i x at =
      let has = step_of_other (record { tariff = name; place = i; step = x }) (xs, e, at) in
      let is : has.0 ≡ ys = same_Some has.0 ys (sym has.1 ∙ f) in
      subst (λ (steps : List Step). slice_get steps i ≡ Some x) is has.2

  dated_there : (name : List ℕ) (day : ℕ) (xs ys : List Step) → o.dated_steps name day ≡ Some xs → p.dated_steps name day ≡ Some ys
      → (i : ℕ) (x : Step) → slice_get xs i ≡ Some x → slice_get ys i ≡ Some x
  dated_there name day xs ys e f i x at =
      let has = dated_of_other (record { tariff = name; day = day; place = i; step = x }) (xs, e, at) in
      let is : has.0 ≡ ys = same_Some has.0 ys (sym has.1 ∙ f) in
      subst (λ (steps : List Step). slice_get steps i ≡ Some x) is has.2

  -- what has steps in one office has some in the other
  some_dated : (name : List ℕ) (day : ℕ) (xs : List Step) → o.dated_steps name day ≡ Some xs → 1 ≤ length xs → p.dated_steps name day ≡ None → ⊥
  some_dated name day [] e some none = omega (arith, some)
  some_dated name day (x ∷ xs) e some none =
      let has = dated_of_other (record { tariff = name; day = day; place = 0; step = x }) (x ∷ xs, e, refl) in
      let is = has.1 in
      cc

turned : (a b : Rows) → SameMembers a b → SameMembers b a
turned a b same = record {
  tariffs = sym same.tariffs;
  steps = sym same.steps;
  meters = sym same.meters;
  shifts = sym same.shifts;
  sales = sym same.sales;
  bases = sym same.bases;
  dated_steps = sym same.dated_steps;
}

one_bool : (x y : Bool) → (x ≡ true → y ≡ true) → (y ≡ true → x ≡ true) → x ≡ y
one_bool true y there back = sym (there refl)
one_bool false true there back = back refl
one_bool false false there back = refl

-- an option is told by what it is when there is something
one_option : {A : Type 0} (x y : Option A) → ((a : A) → x ≡ Some a → y ≡ Some a) → ((a : A) → y ≡ Some a → x ≡ Some a) → x ≡ y
one_option None None there back = refl
one_option None (Some b) there back = back b refl
one_option (Some a) y there back = sym (there a refl)

none_is : {A : Type 0} (x : Option A) → IsSome x → x ≡ None → ⊥
none_is {A} None some e = absurd (false≢true some)
none_is (Some a) some e = cc

module _ (a b : Rows) (same : SameMembers a b) (o p : Office) (these : AreMembersOf a o) (those : AreMembersOf b p) where
  back : SameMembers b a
  back = turned a b same

  one_tariff : (name : List ℕ) (x y : Option (List Step)) → o.tariffs name ≡ x → p.tariffs name ≡ y → x ≡ y
  one_tariff name None None e f = refl
  one_tariff name (Some xs) (Some ys) e f =
      ap Some (same_places xs ys (step_there a b same o p these those name xs ys e f) (step_there b a back p o those these name ys xs f e))
  one_tariff name None (Some ys) e f =
      absurd (none_is (o.tariffs name) (name_of_other b a back p o those these name (subst (λ (v : Option (List Step)). IsSome v) (sym f) refl)) e)
  one_tariff name (Some xs) None e f =
      absurd (none_is (p.tariffs name) (name_of_other a b same o p these those name (subst (λ (v : Option (List Step)). IsSome v) (sym e) refl)) f)

  -- offices whose members are the same rows have the same tariff under each name
  pub same_tariff : (name : List ℕ) → o.tariffs name ≡ p.tariffs name
  same_tariff name = one_tariff name (o.tariffs name) (p.tariffs name) refl refl

  module _ (is_o : IsOffice o) (is_p : IsOffice p) where
    one_dated : (name : List ℕ) (day : ℕ) (x y : Option (List Step)) → o.dated_steps name day ≡ x → p.dated_steps name day ≡ y → x ≡ y
    one_dated name day None None e f = refl
    one_dated name day (Some xs) (Some ys) e f =
        ap Some (same_places xs ys (dated_there a b same o p these those name day xs ys e f) (dated_there b a back p o those these name day ys xs f e))
    one_dated name day None (Some ys) e f = absurd (some_dated b a back p o those these name day ys f (is_p.dated_steps name day ys f).priced.count.0 e)
    one_dated name day (Some xs) None e f = absurd (some_dated a b same o p these those name day xs e (is_o.dated_steps name day xs e).priced.count.0 f)

    -- two offices whose members are the same rows are one office
    pub one_office : o ≡ p
    one_office =
        let tariffs : o.tariffs ≡ p.tariffs = fun_ext same_tariff in
        let meters : o.meters ≡ p.meters = fun_ext (λ number. one_option (o.meters number) (p.meters number)
        (meter_of_other a b same o p these those number) (meter_of_other b a back p o those these number)) in
        let bases : o.bases ≡ p.bases = fun_ext (λ number. fun_ext
        (λ base. one_bool (o.bases number base) (p.bases number base) (base_of_other a b same o p these those number base)
        (base_of_other b a back p o those these number base))) in
        let dated : o.dated_steps ≡ p.dated_steps = fun_ext
        (λ name. fun_ext (λ day. one_dated name day (o.dated_steps name day) (p.dated_steps name day) refl refl)) in
        let O : Office = record { tariffs = o.tariffs; meters = o.meters; bases = o.bases; dated_steps = o.dated_steps; shifts = o.shifts; sales = o.sales } in
        let P : Office = record { tariffs = p.tariffs; meters = p.meters; bases = p.bases; dated_steps = p.dated_steps; shifts = p.shifts; sales = p.sales } in
        let shifts = sym these.shifts ∙ same.shifts ∙ those.shifts in
        let sales = sym these.sales ∙ same.sales ∙ those.sales in
        let one : O ≡ P = cc in
        one

-- one list of rows is the same as itself
pub itself : (rows : Rows) → SameMembers rows rows
itself rows = record { tariffs = refl; steps = refl; meters = refl; shifts = refl; sales = refl; bases = refl; dated_steps = refl }
