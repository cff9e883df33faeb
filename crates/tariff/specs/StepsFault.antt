-- Why steps are no tariff's: the faults in the order of their tests, their numbers and names.
use Rattle.std.specs.Prelude.{◌≡◌, ℕ, ◌<◌, List, [], length, All, codes}
use Rattle.sts_fields.specs.Text.{Text}
use Rattle.tariff.specs.declared.fault.StepsFault.{StepsFault}
use Rattle.tariff.specs.declared.fault.StepsFault.TheVariants.{NoStep, TooMany, NotRising, BadPrice}
use Rattle.tariff.specs.declared.fault.StepsFault.TheVariants.{EndMissing, Memory, BadText}
use Rattle.tariff.specs.declared.step.Step.{Step}
use Rattle.tariff.specs.Steps.{HasCount, HasEnds, HasPrice, IsRising, IsSteps}

-- the fault is the first that the steps have; memory is wanted only where they have none
abbrev pub FirstFault : List Step → StepsFault → Type 0
FirstFault steps NoStep = steps ≡ []
FirstFault steps TooMany = 8 < length steps
FirstFault steps EndMissing = HasCount steps × ¬ HasEnds steps
FirstFault steps NotRising = HasCount steps × HasEnds steps × ¬ IsRising steps
FirstFault steps BadPrice = HasCount steps × HasEnds steps × IsRising steps × ¬ All HasPrice steps
FirstFault steps Memory = IsSteps steps
FirstFault steps BadText = ⊥

-- the number that a user meets
abbrev pub steps_fault_number : StepsFault → ℕ
steps_fault_number NoStep = 1
steps_fault_number TooMany = 2
steps_fault_number NotRising = 3
steps_fault_number BadPrice = 4
steps_fault_number EndMissing = 5
steps_fault_number Memory = 6
steps_fault_number BadText = 7

-- the name that a user meets
abbrev pub steps_fault_name : StepsFault → Text
steps_fault_name NoStep = codes "NoStep"
steps_fault_name TooMany = codes "TooMany"
steps_fault_name NotRising = codes "NotRising"
steps_fault_name BadPrice = codes "BadPrice"
steps_fault_name EndMissing = codes "EndMissing"
steps_fault_name Memory = codes "Memory"
steps_fault_name BadText = codes "BadText"
