-- How an office grows: rows come at the end, and what was sold by stays.
use Rattle.std.specs.Prelude.{◌≡◌, ℕ, ◌≤◌, ◌++◌, true, List, Some, IsSome, slice_get}
use Rattle.sts_fields.specs.Base.{year_of}
use Rattle.sts_fields.specs.declared.base.Base.{Base}
use Rattle.tariff.specs.declared.step.Step.{Step}
use Rattle.office_rules.specs.Office.Lookup.{WasSoldSince, WasSoldTo}
use Rattle.office_rules.specs.Office.{Office}
use Rattle.office_rules.specs.declared.office.meter.Meter.{Meter}
use Rattle.office_rules.specs.declared.office.shift.Shift.{Shift}

-- the later list begins with the earlier one
abbrev pub BeginsWith : {Row : Type 0} → List Row → List Row → Type 0
BeginsWith {Row} later earlier = (rest : List Row) × (later ≡ earlier ++ rest)

-- a shift and the same one later: once it is closed it stays as it is
pub record IsSameShift (earlier later : Shift) : Type 0 where
  pub number : later.number ≡ earlier.number
  pub operator : later.operator ≡ earlier.operator
  pub opened : later.opened ≡ earlier.opened
  pub closed : IsSome earlier.closed → later.closed ≡ earlier.closed

-- an office and the same one later: its tariffs' first and further steps stand unchanged
pub record TariffsStay (earlier later : Office) : Type 0 where
  pub first : (name : List ℕ) (steps : List Step)
      → earlier.tariffs name ≡ Some steps → later.tariffs name ≡ Some steps
  pub dated : (name : List ℕ) (day : ℕ) (steps : List Step)
      → earlier.dated_steps name day ≡ Some steps → later.dated_steps name day ≡ Some steps

-- an office and the same one later: its tariffs' first steps stand unchanged, and so do the further
-- steps that sales of their day or of later days may be priced by
pub record SoldStepsStay (earlier later : Office) : Type 0 where
  pub first : (name : List ℕ) (steps : List Step)
      → earlier.tariffs name ≡ Some steps → later.tariffs name ≡ Some steps
  pub dated : (name : List ℕ) (day : ℕ) (steps : List Step) → WasSoldSince earlier day
      → earlier.dated_steps name day ≡ Some steps → later.dated_steps name day ≡ Some steps

-- an office and the same one later: its sales stand unchanged, its shifts but for their closing,
-- and its steps as far as something was sold by them; a meter is never moved back, a base that it
-- had is one that it had for good, and once it has a sale it keeps its key
pub record HasGrown (earlier later : Office) : Type 0 where
  pub sales : BeginsWith later.sales earlier.sales
  pub shifts : (i : ℕ) (s : Shift) → slice_get earlier.shifts i ≡ Some s
      → (t : Shift) × (slice_get later.shifts i ≡ Some t) × IsSameShift s t
  pub tariffs : SoldStepsStay earlier later
  pub meters : (number : List ℕ) (m : Meter) → earlier.meters number ≡ Some m
      → (n : Meter) × (later.meters number ≡ Some n) × (year_of m.base ≤ year_of n.base)
  pub keys : (number : List ℕ) (m n : Meter) → WasSoldTo earlier number
      → earlier.meters number ≡ Some m → later.meters number ≡ Some n → n.key ≡ m.key
  pub bases : (number : List ℕ) (base : Base)
      → earlier.bases number base ≡ true → later.bases number base ≡ true

-- an office and the same one later: its tariffs and meters stand unchanged
pub record HaveStayed (earlier later : Office) : Type 0 where
  pub tariffs : TariffsStay earlier later
  pub meters : (number : List ℕ) (m : Meter)
      → earlier.meters number ≡ Some m → later.meters number ≡ Some m
