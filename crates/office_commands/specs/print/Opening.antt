-- What is printed of an opening.
use Rattle.std.specs.Prelude.{[], ◌∷◌, codes, decimal}
use Rattle.books.specs.Fault.{open_fault_name, open_fault_number}
use Rattle.book_opening.specs.declared.fault.OpenFault.{OpenFault}
use Rattle.sts_fields.specs.Text.{Text}
use Rattle.vend_ports.specs.print.Printed.{line_of}

-- its fault, by its number and its name
abbrev pub opening_line : OpenFault → Text
opening_line fault =
    line_of (codes "open" ∷ decimal (open_fault_number fault) ∷ open_fault_name fault ∷ [])
