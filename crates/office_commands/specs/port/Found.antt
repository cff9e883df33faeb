-- What the port of this machine tells of the files that it opens.
use Rattle.std.specs.Prelude.{◌≡◌, ◌⊎◌, ◌++◌, true, false, IfSome, codes, string_bytes}
use Rattle.sqlite_disk.specs.declared.Disk as disk
use Rattle.sqlite_disk.specs.declared.calls.Calls as calls
use Rattle.sqlite_disk.specs.declared.modelled.Modelled.{Modelled}
use Rattle.sqlite_disk.specs.declared.start.Start.{Ghosts}
use Rattle.sqlite_std_file.specs.File.{IsFresh}
use Rattle.sqlite_std_file.specs.declared.host.Host.{Host}
use Rattle.sqlite_wal.specs.Files.{image_at, outcomes, seen_image}
use Rattle.sqlite_wal.specs.Recovery.{Image}
use Rattle.book_opening.specs.declared.fault.OpenFault.{OpenFault}
use Rattle.book_opening.specs.declared.fault.OpenFault.TheVariants.{Memory, Store}
use Rattle.sts_fields.specs.Text.{Text}
use Rattle.office_commands.specs.declared.port.new_log.LogName.{LogName}

-- these are a log and a database file that were just opened: nothing has happened to them since
abbrev pub AreFresh : {S : Type 0} → {g : calls.Ghosts Host} → {start : Ghosts S}
    → (log db : Modelled Host S g start) → Type 0
AreFresh log db = IsFresh true log × IsFresh false db

-- such files hold what they held as they were opened, and so does what a crash may leave of them
pub record HoldWhatWasFound {D S : Type 0} (disk : disk.Ghosts D) (start : Ghosts S) (log db : D)
    : Type 0 where
  pub present : seen_image disk log db ≡ image_at start
  pub crash : (image : Image) → outcomes disk log db image → image ≡ image_at start

-- files that are not opened were not looked into, so that this says nothing of what they hold
abbrev pub IsUnopenable : OpenFault → Type 0
IsUnopenable fault = (fault ≡ Store) ⊎ (fault ≡ Memory)

-- the name of a log: that of its database file, and `-wal` behind it
abbrev pub IsNameOfLog : Text → Type 0
IsNameOfLog name = (file : Text) × (name ≡ file ++ codes "-wal")

abbrev pub IsLogName : LogName → Type 0
IsLogName log = IfSome log.name (λ name. IsNameOfLog (string_bytes name))
