-- Why a text is no day: the numbers and names of the faults.
use Rattle.std.specs.Prelude.{ℕ, codes}
use Rattle.sts_fields.specs.Text.{Text}
use Rattle.sts_fields.specs.declared.day_fault.DayFault.{DayFault}
use Rattle.sts_fields.specs.declared.day_fault.DayFault.TheVariants.{NotADay, Memory}

-- the number that a user meets
abbrev pub fault_number : DayFault → ℕ
fault_number NotADay = 1
fault_number Memory = 2

-- the name that a user meets
abbrev pub fault_name : DayFault → Text
fault_name NotADay = codes "NotADay"
fault_name Memory = codes "Memory"
