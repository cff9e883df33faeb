-- The steps that the tariffs of an office may have had.
use Rattle.std.specs.Prelude.{◌≡◌, ◌↔◌, ◌-◌, ◌≤◌, ℕ, List, Some, Contains, slice_get}
use Rattle.tariff.specs.Purchase.{IsPurchase}
use Rattle.tariff.specs.declared.bought.Buy.{Buy}
use Rattle.tariff.specs.declared.fault.StepsFault.{StepsFault}
use Rattle.tariff.specs.declared.fault.StepsFault.TheVariants as steps_fault
use Rattle.tariff.specs.declared.step.Step.{Step}
use Rattle.vend_core.specs.Law.Reached.{AreStepsOfOne}
use Rattle.office_rules.specs.Office.{Office}
use Rattle.office_rules.specs.declared.office.sale.Sale.{Sale}
use Rattle.audit_rows.specs.declared.finding.Finding.{Finding}
use Rattle.audit_lists.specs.Keys.{IsNew, Key}
use Rattle.audit_lists.specs.Steps.{AreFirstUnder, AreSteps}
use Rattle.audit_lists.specs.Ties.{Each, EachBelow}
use Rattle.audit_lists.specs.declared.fault.OfficeFault.{OfficeFault}
use Rattle.audit_lists.specs.declared.fault.OfficeFault.TheVariants as fault
use Rattle.audit_lists.specs.declared.reached.listed.ListedSteps.{ListedSteps}

-- the row is the first one of a tariff and a day, and the list has all of their steps
pub record IsListOf {T : Type 0} (step : T → Step) (key : T → Key) (rows : List T) (row : T)
    (l : ListedSteps) : Type 0 where
  pub begins : (key row).3 ≡ 0
  pub from : l.from ≡ (key row).2
  pub steps : AreFirstUnder step key rows (key row) l.steps

-- there is such a list for each such one of the first rows, and no other list
pub record AreLists {T : Type 0} (step : T → Step) (key : T → Key) (rows : List T) (n : ℕ)
    (listed : List ListedSteps) : Type 0 where
  pub each : EachBelow (λ _ row. (key row).3 ≡ 0
      → (l : ListedSteps) × Contains listed l × IsListOf step key rows row l) rows n
  pub only : (l : ListedSteps) → Contains listed l
      → (i : ℕ) × (row : T) × (slice_get rows i ≡ Some row) × IsListOf step key rows row l

-- no two rows have one key, and those that are the first of a tariff and a day are the first of
-- steps that a tariff may have
pub record HaveLists {T : Type 0} (step : T → Step) (key : T → Key) (rows : List T) : Type 0 where
  pub once : Each (IsNew key rows) rows
  pub steps : Each (λ _ row. (key row).3 ≡ 0 → AreSteps step key rows (key row)) rows

-- the lists that begin by a day are those that some tariff of the office may have had on it
abbrev pub AreListed : Office → List ListedSteps → Type 0
AreListed o listed =
    (day : ℕ) (steps : List Step) → AreStepsOfOne o day steps
    ↔ ((l : ListedSteps) × Contains listed l × (l.from ≤ day) × (l.steps ≡ steps))

-- what a sale says that its tender bought
abbrev pub bought_in : Sale → Buy
bought_in s = record { tenths = s.tenths; price = s.price; change = s.tender - s.price }

-- what is told where steps of a row are not made: there was no memory, or the row is found
abbrev pub told_of_steps : Finding → StepsFault → OfficeFault
told_of_steps f steps_fault.Memory = fault.Memory
told_of_steps f _ = fault.Found f

-- the list begins by the day, and the tender buys what the sale says by its steps
pub record Sells (day prior : ℕ) (s : Sale) (l : ListedSteps) : Type 0 where
  pub from : l.from ≤ day
  pub bought : IsPurchase l.steps prior s.tender (bought_in s)
