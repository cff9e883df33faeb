-- The numbers and names of the faults of opening.
use Rattle.std.specs.Prelude.{ℕ, List, codes}
use Rattle.book_opening.specs.declared.fault.OpenFault.{OpenFault}
use Rattle.book_opening.specs.declared.fault.OpenFault.TheVariants.{NotAnOffice, Store, Memory}

abbrev pub open_fault_number : OpenFault → ℕ
open_fault_number NotAnOffice = 1
open_fault_number Store = 3
open_fault_number Memory = 4

abbrev pub open_fault_name : OpenFault → List ℕ
open_fault_name NotAnOffice = codes "NotAnOffice"
open_fault_name Store = codes "Store"
open_fault_name Memory = codes "Memory"
