-- Shifts of an operator, of which one was opened while another was open.
use Rattle.std.specs.Prelude.{◌≡◌, ◌<◌, ℕ, List, Some, true, is_none, slice_get}
use Rattle.vend_core.specs.Law.Reached.{IsClosedFirst}
use Rattle.office_rules.specs.declared.office.shift.Shift.{Shift}

-- the shift at a place comes after an open one of its operator
pub record IsAfterOpen (shifts : List Shift) (place : ℕ) : Type 0 where
  pub shift : Shift
  pub there : slice_get shifts place ≡ Some shift
  pub earlier_place : ℕ
  pub earlier : Shift
  pub before : earlier_place < place
  pub stands : slice_get shifts earlier_place ≡ Some earlier
  pub operator : earlier.operator ≡ shift.operator
  pub is_open : is_none earlier.closed ≡ true

-- each shift before an end was opened once those of its operator were closed that come before it
-- and are among so many first ones
abbrev pub AreClosedFirst : List Shift → ℕ → ℕ → Type 0
AreClosedFirst shifts n end =
    (i : ℕ) (s : Shift) → i < end → slice_get shifts i ≡ Some s
    → (j : ℕ) (a : Shift) → j < n → j < i → slice_get shifts j ≡ Some a → IsClosedFirst a s
