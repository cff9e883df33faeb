-- The shift of a sale, and the later ones of its operator.
use Rattle.std.proofs.Common.{◌≡◌, ◌+◌, ◌≤◌, ℕ, List, length, inl, inr, arith}
use Rattle.std.specs.Prelude.{◌↔◌, IsTrue, min}
use Rattle.std.proofs.Math.Dec.{ltb}
use Rattle.std.proofs.lemmas.Bool.{cases_lt, lt-ltb, ltb-true}
use Rattle.std.proofs.lemmas.Option.{slice_get_within}
use Rattle.vend_core.specs.Law.Reached.{IsInOpenShift}
use Rattle.office_rules.specs.Office.{IsOffice, Office}
use Rattle.office_rules.specs.declared.office.sale.Sale.{Sale}
use Rattle.audit_lists.specs.reached.Lasts.{IsLastOf, NoneBetween}
use Rattle.audit_lists.specs.reached.Walk.{IsLatestOf}
use Rattle.audit_lists.proofs.ListLemmas.{at_contains, contains_at}

module _ (o : Office) (office : IsOffice o) (s : Sale) where
  module _ (earlier : List Sale) (latest : ℕ) (is : IsLatestOf earlier latest) where
    -- its shift was open, if its operator has no later one up to the latest that was sold in
    pub open_where : NoneBetween o.shifts s.shift (min (length o.shifts) latest) s.operator → IsInOpenShift o earlier s
    open_where none next there operator later =
        let at = at_contains o.shifts next there in
        let within = slice_get_within o.shifts at.0 next at.1 in
        let number : next.number ≡ at.0 + 1 = office.shift_numbers at.0 next at.1 in
        elim (cases_lt at.0 latest) [
          | inl before ↦ absurd (none at.0 next (omega (arith, later, number)) (omega (arith, within, before)) at.1 operator)
          | inr past ↦ (is next.number (omega (arith, number))).1 (omega (arith, past, number))
        ]

    not_open : (i : ℕ) → IsLastOf o.shifts (min (length o.shifts) latest) s.operator i → s.shift ≤ i → ¬ IsInOpenShift o earlier s
    not_open i last from was =
        let number : last.shift.number ≡ i + 1 = office.shift_numbers i last.shift last.there in
        let all = was last.shift (contains_at o.shifts i last.shift last.there) last.operator_is (omega (arith, number, from)) in
        let less = (is last.shift.number (omega (arith, number))).0 all in
        let below = last.before in
        omega (arith, less, number, below)

    -- by the place of the operator's last one of them
    pub open_some : (i : ℕ) → IsLastOf o.shifts (min (length o.shifts) latest) s.operator i → IsTrue (ltb i s.shift) ↔ IsInOpenShift o earlier s
    open_some i last = (
      λ e. let less = ltb-true i s.shift e in open_where (λ j x from below. last.after j x (omega (arith, from, less)) below),
      λ was. elim (cases_lt i s.shift) [
        | inl less ↦ lt-ltb i s.shift less
        | inr from ↦ absurd (not_open i last from was)
      ],
    )

    -- or where there is none
    pub open_none : NoneBetween o.shifts 0 (min (length o.shifts) latest) s.operator → IsInOpenShift o earlier s
    open_none none = open_where (λ j x from below. none j x (omega arith) below)
