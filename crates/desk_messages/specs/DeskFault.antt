-- The status codes and the words of the faults of whole messages.
use Rattle.std.specs.Prelude.{ℕ, List, codes}
use Rattle.desk_messages.specs.declared.desk_fault.DeskFault.{DeskFault}
use Rattle.desk_messages.specs.declared.desk_fault.DeskFault.TheVariants.{NoRoute, Method, Clock}
use Rattle.desk_messages.specs.declared.desk_fault.DeskFault.TheVariants.{Body}

-- each fault has a status code of its own
abbrev pub desk_fault_status : DeskFault → ℕ
desk_fault_status NoRoute = 404
desk_fault_status (Method allowed) = 405
desk_fault_status Clock = 503
desk_fault_status Body = 422

-- the name of the fault
abbrev pub desk_fault_word : DeskFault → List ℕ
desk_fault_word NoRoute = codes "NoRoute"
desk_fault_word (Method allowed) = codes "Method"
desk_fault_word Clock = codes "Clock"
desk_fault_word Body = codes "Body"
