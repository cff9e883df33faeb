-- What `import` does: a file of rows is read, and they are added to an office.
use Rattle.std.specs.Prelude.{◌⊎◌, ℕ, List, [], Result, Ok, Err}
use Rattle.sqlite_trees.specs.declared.store.Store.{Ghosts}
use Rattle.papers.specs.File.{AreFileRecords, Fields}
use Rattle.papers.specs.Import.{IsReading}
use Rattle.papers.specs.declared.file_kind.FileKind.{FileKind}
use Rattle.papers.specs.declared.row_fault.RowFault.{RowFault}
use Rattle.papers.specs.declared.row_fault.RowFault.TheVariants.{At, Memory}
use Rattle.office_rules.specs.declared.decision.refusal.Refusal.{Refusal}
use Rattle.office_rules.specs.declared.decision.refusal.Refusal.TheVariants as refusal
use Rattle.office_rules.specs.declared.decision.request.Request.TheVariants.{Import}
use Rattle.office_rules.specs.declared.office.row.Row.{Row}
use Rattle.office_commands.specs.port.Places.{Places}
use Rattle.sts_fields.specs.Text.{Text}
use Rattle.vend_ports.specs.port.Texts.{Texts}
use Rattle.vend_ports.specs.print.Printed.{read_fault_line, refusal_line}
use Rattle.office_commands.specs.commands.Asked.{IsAskedAt}
use Rattle.vend_ports.specs.print.Told.{Outputs, IsTold}
use Rattle.command_line.specs.declared.place.FilePlace.{FilePlace}
use Rattle.vend_ports.specs.declared.command_end.CommandEnd.{CommandEnd}
use Rattle.vend_ports.specs.declared.command_end.CommandEnd.TheVariants.{Refused}
use Rattle.vend_ports.specs.declared.port.file_fault.FileFault.{FileFault}

-- how a fault of the rows is told: as the office refuses a row
abbrev pub refusal_of_rows : RowFault → Refusal
refusal_of_rows (At row cause) = refusal.ImportRow row cause
refusal_of_rows Memory = refusal.Memory

-- rows that were read go to the office as one request; a fault is told, and no office is found
abbrev pub AreAdded : {S : Type 0} → Ghosts S → Places → (untouched : Type 0)
    → FilePlace → ℕ
    → Result (List Row) RowFault → Outputs → CommandEnd → Type 0
AreAdded store at untouched file moment (Ok rows) o end =
    IsAskedAt store at file.transform file.path.now file.wait moment (Import rows) o end
AreAdded store at untouched file moment (Err fault) o end =
    untouched × IsTold o [] (refusal_line (refusal_of_rows fault)) Refused end

-- the rows of these bytes, by their kind, are added to the office in the file
abbrev pub IsImported : {S : Type 0} → Ghosts S → Places → (untouched : Type 0)
    → FilePlace → FileKind → ℕ
    → List ℕ → Outputs → CommandEnd → Type 0
IsImported store at untouched file kind moment bytes o end =
    (records : List Fields) × (rows : Result (List Row) RowFault)
    × AreFileRecords bytes records × IsReading kind records rows
    × AreAdded store at untouched file moment rows o end

-- the file of rows has some bytes, which are imported; or it is not read, and that is told, and no
-- office is found
abbrev pub IsFileImported : {S : Type 0} → Ghosts S → Places → (untouched : Type 0)
    → Texts → FilePlace → FileKind → (csv : Text) → ℕ → Outputs → CommandEnd → Type 0
IsFileImported store at untouched texts file kind csv moment o end =
    ((bytes : List ℕ) × texts.reads csv bytes
    × IsImported store at untouched file kind moment bytes o end)
    ⊎ ((fault : FileFault) × texts.lacks csv fault × untouched
    × IsTold o [] (read_fault_line fault) Refused end)
