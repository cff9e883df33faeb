-- Why no identifier is given: the numbers and names of the faults.
use Rattle.std.specs.Prelude.{ℕ, codes}
use Rattle.sts_fields.specs.Text.{Text}
use Rattle.sts_fields.specs.declared.fault.TidFault.{TidFault}
use Rattle.sts_fields.specs.declared.fault.TidFault.TheVariants.{BeforeBase, PastEnd}
use Rattle.sts_fields.specs.declared.fault.TidFault.TheVariants.{IdentifiersSpent, IdentifierAhead}

-- the number that a user meets
abbrev pub tid_fault_number : TidFault → ℕ
tid_fault_number BeforeBase = 1
tid_fault_number PastEnd = 2
tid_fault_number IdentifiersSpent = 3
tid_fault_number IdentifierAhead = 4

-- the name that a user meets
abbrev pub tid_fault_name : TidFault → Text
tid_fault_name BeforeBase = codes "BeforeBase"
tid_fault_name PastEnd = codes "PastEnd"
tid_fault_name IdentifiersSpent = codes "IdentifiersSpent"
tid_fault_name IdentifierAhead = codes "IdentifierAhead"
