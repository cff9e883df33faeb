-- The last shift of each operator, among some first ones.
use Rattle.std.specs.Prelude.{◌≡◌, ◌≢◌, ◌<◌, ◌+◌, ◌≤◌, ℕ, List, Option, Some, MatchOption}
use Rattle.std.specs.Prelude.{slice_get}
use Rattle.std.specs.BTreeMap.{BTreeMap, get_by}
use Rattle.std.specs.Cmp.Lexicographic.{slice_cmp}
use Rattle.std.specs.Ordering.{nat_cmp}
use Rattle.office_rules.specs.declared.office.shift.Shift.{Shift}
use denote.Ref.{Bor}

-- places, each under an operator's text
abbrev pub LastShifts : Type 0
LastShifts = BTreeMap (Bor (List ℕ)) ℕ

-- the place that a map has under an operator's text
abbrev pub last_shift_under : LastShifts → List ℕ → Option ℕ
last_shift_under lasts operator = get_by (λ k. slice_cmp nat_cmp operator k.now) lasts

-- no shift from one place up to another is of the operator
abbrev pub NoneBetween : List Shift → ℕ → ℕ → List ℕ → Type 0
NoneBetween shifts from end operator =
    (i : ℕ) (s : Shift) → from ≤ i → i < end → slice_get shifts i ≡ Some s
    → s.operator ≢ operator

-- the shift at a place is of the operator, and none after it is, before an end
pub record IsLastOf (shifts : List Shift) (end : ℕ) (operator : List ℕ) (place : ℕ) : Type 0 where
  pub shift : Shift
  pub before : place < end
  pub there : slice_get shifts place ≡ Some shift
  pub operator_is : shift.operator ≡ operator
  pub after : NoneBetween shifts (place + 1) end operator

-- under each operator a map has the place of its last one of the shifts before an end, where one is
abbrev pub AreLasts : LastShifts → List Shift → ℕ → Type 0
AreLasts lasts shifts end =
    (operator : List ℕ) → MatchOption (last_shift_under lasts operator)
    (NoneBetween shifts 0 end operator) (IsLastOf shifts end operator)
