-- The bases of meters: the present one is the greatest that a meter had, and a move sets a later
-- one.
use Rattle.std.proofs.Common.{◌≡◌, ℕ, ◌<◌, ◌≤◌, Bool, true, false, List, Some, Result, Ok, Err, refl, sym, ◌∙◌, ap, arith}
use Rattle.std.specs.Prelude.{◌&&◌, ◌||◌, All, bytes_eq, nat_lt, if◌then◌else◌, option_map}
use Rattle.std.proofs.lemmas.Bool.{le-ltb, lt-ltb, ne_eqb}
use Rattle.std.proofs.lemmas.List.Elements.{All-weaker}
use Rattle.std.proofs.lemmas.Option.{same_Some}
use Rattle.std.proofs.lemmas.Slice.Eq.{bytes_eq-Decides}
use Rattle.sts_fields.specs.Base.{base_date, base_eq, year_of}
use Rattle.sts_fields.specs.declared.base.Base.{Base}
use Rattle.office_rules.specs.Decision.{decision_of, is_earlier, move_base, moved_unless}
use Rattle.office_rules.specs.Decision.Fold.{office_after, reply, reply_of, step, with_base}
use Rattle.office_rules.specs.Office.{IsOffice, IsSaleRow, Office}
use Rattle.vend_core.specs.Law.OfficeLaws.{IsGreatestBase, IsMoved}
use Rattle.office_rules.specs.declared.decision.answer.Answer.TheVariants as answers
use Rattle.office_rules.specs.declared.decision.change.Change.{Change}
use Rattle.office_rules.specs.declared.office.meter.Meter.{Meter}
use Rattle.office_rules.specs.declared.decision.refusal.Refusal.{Refusal}
use Rattle.office_rules.specs.declared.decision.refusal.Refusal.TheVariants as refusals
use Rattle.office_rules.specs.declared.decision.request.Request.TheVariants as requests
use Rattle.office_rules.specs.declared.decision.request.Stamped.{Stamped}
use Rattle.office_rules.proofs.DecisionLemmas.EditLemmas.{base_eq-refl}

-- each sale is under a base that its meter had
pub sales_have_bases : (o : Office) → IsOffice o → All (λ s. o.bases s.meter s.base ≡ true) o.sales
sales_have_bases o office = All-weaker (IsSaleRow o) (λ s. o.bases s.meter s.base ≡ true) (λ s row. row.base) o.sales office.sales

-- a meter's present base is the greatest of those that it had
pub present_is_greatest : (o : Office) (number : List ℕ) (m : Meter) → IsOffice o → o.meters number ≡ Some m → IsGreatestBase o number m.base
present_is_greatest o number m office there = record {
  had = (office.meters number m there).base;
  greatest = λ other had.
      let row = office.bases number other had in
      let same : row.meter ≡ m = same_Some row.meter m (sym row.meter_is ∙ there) in
      omega (arith, row.not_after, ap (λ (k : Meter). year_of k.base) same);
}

-- what a move decides, by its three tests
abbrev decided : List ℕ → Base → Bool → Bool → Bool → Result Change Refusal
decided number base same earlier before =
    moved_unless number base same earlier before

module _ (forward : ℕ → ℕ → ℕ) (o : Office) (at : Stamped) (number : List ℕ) (base : Base) (m : Meter) (there : o.meters number ≡ Some m)
    (asks : at.request ≡ requests.MoveBase number base) where
  move_is : decision_of forward o at.moment at.nibble at.request
      ≡ decided number base (base_eq m.base base) (is_earlier base m.base) (nat_lt at.moment (base_date base))
  move_is = ap (decision_of forward o at.moment at.nibble) asks ∙ ap (move_base number base at.moment) there

  decided_by : (same earlier before : Bool) → base_eq m.base base ≡ same → is_earlier base m.base ≡ earlier → nat_lt at.moment (base_date base) ≡ before
      → decision_of forward o at.moment at.nibble at.request ≡ decided number base same earlier before
  decided_by same earlier before x y z =
      move_is
      ∙ ap (λ (b : Bool). decided number base b (is_earlier base m.base) (nat_lt at.moment (base_date base))) x
      ∙ ap (λ (b : Bool). decided number base same b (nat_lt at.moment (base_date base))) y
      ∙ ap (λ (b : Bool). decided number base same earlier b) z

  -- a move to a later base that has begun is granted, and the meter has it then
  pub moves : year_of m.base < year_of base → base_date base ≤ at.moment → IsMoved forward o at number base m
  moves later begun =
      let differs : base_eq m.base base ≡ false = ne_eqb (year_of m.base) (year_of base) (λ same. omega (arith, later, same)) in
      let not_earlier : is_earlier base m.base ≡ false = le-ltb (year_of base) (year_of m.base) (omega (arith, later)) in
      let not_before : nat_lt at.moment (base_date base) ≡ false = le-ltb at.moment (base_date base) begun in
      let e = decided_by false false false differs not_earlier not_before in
      let here : bytes_eq number number ≡ true = (bytes_eq-Decides number number).1 refl in
      record {
        answered = ap reply_of e;
        present =
            ap (λ (r : Result Change Refusal). (office_after o r).meters number) e
            ∙ ap (λ (b : Bool). if b then option_map (with_base base) (o.meters number) else o.meters number) here
            ∙ ap (option_map (with_base base)) there;
        had =
            ap (λ (r : Result Change Refusal). (office_after o r).bases number base) e
            ∙ ap (λ (b : Bool). (b && base_eq base base) || o.bases number base) here
            ∙ ap (λ (b : Bool). b || o.bases number base) (base_eq-refl base);
      }

  -- a move to the base that the meter has is granted, and changes nothing
  pub moves_once : m.base ≡ base → (reply forward o at ≡ Ok answers.Done) × (step forward o at ≡ o)
  moves_once same =
      let is : base_eq m.base base ≡ true = ap (λ (b : Base). base_eq b base) same ∙ base_eq-refl base in
      let e = decided_by true (is_earlier base m.base) (nat_lt at.moment (base_date base)) is refl refl in
      (ap reply_of e, ap (office_after o) e)

  -- a move to an earlier base is refused
  pub moves_not_back : year_of base < year_of m.base → reply forward o at ≡ Err refusals.NotLater
  moves_not_back earlier =
      let differs : base_eq m.base base ≡ false = ne_eqb (year_of m.base) (year_of base) (λ same. omega (arith, earlier, same)) in
      let is : is_earlier base m.base ≡ true = lt-ltb (year_of base) (year_of m.base) earlier in
      ap reply_of (decided_by false true (nat_lt at.moment (base_date base)) differs is refl)

  -- a move to a later base is refused before the base begins
  pub moves_not_before : year_of m.base < year_of base → at.moment < base_date base → reply forward o at ≡ Err refusals.BeforeBase
  moves_not_before later before =
      let differs : base_eq m.base base ≡ false = ne_eqb (year_of m.base) (year_of base) (λ same. omega (arith, later, same)) in
      let not_earlier : is_earlier base m.base ≡ false = le-ltb (year_of base) (year_of m.base) (omega (arith, later)) in
      let is : nat_lt at.moment (base_date base) ≡ true = lt-ltb at.moment (base_date base) before in
      ap reply_of (decided_by false false true differs not_earlier is)
