-- The files that keep offices, each at its path.
use Rattle.std.specs.Prelude.{◌≡◌, ◌≢◌, ◌⊎◌, ℕ, false, Option, None, Result}
use Rattle.sqlite_disk.specs.Disk.{MoreFaults}
use Rattle.sqlite_disk.specs.declared.Disk as disk
use Rattle.sqlite_disk.specs.declared.Files.{Files}
use Rattle.sqlite_wal.specs.Recovery.{Image}
use Rattle.audit.specs.declared.audited.Audited.{Audited}
use Rattle.audit_rows.specs.declared.finding.AuditFault.{AuditFault}
use Rattle.books.specs.Keeps.{Seen}
use Rattle.books.specs.Path.{AreTakenFrom, RefusesFiles}
use Rattle.book_opening.specs.declared.fault.OpenFault.{OpenFault}
use Rattle.book_opening.specs.declared.fault.OpenFault.TheVariants.{NotAnOffice, Store}
use Rattle.books.specs.declared.refused_files.RefusedFiles.{RefusedFiles}
use Rattle.sts_fields.specs.Text.{Text}
use Rattle.sts_token.specs.Token.{BlockFunction}
use Rattle.office_commands.specs.office.Audits.{AuditsIn}
use Rattle.office_commands.specs.office.Closed.{IsClosed}
use Rattle.office_commands.specs.office.Lost.{IsUnreopened}
use Rattle.office_commands.specs.office.Opened.{OpensIn, OpensThere}
use Rattle.office_commands.specs.office.Vacant.{AreMeasured, IsVacant}
use Rattle.office_commands.specs.port.Back.{lets_go_giving, lets_looked_go, lets_unopened_go}
use Rattle.office_commands.specs.declared.port.ports.OfficeFile as file
use Rattle.office_commands.specs.declared.port.ports.SaltSource as source

-- a call of one of the files failed, since it was this
abbrev pub HasFailed : {D : Type 0} → disk.Ghosts D → (before : D) → Files D → Type 0
HasFailed disk before found = MoreFaults (disk.faults before) (disk.faults found.log)
    ⊎ MoreFaults (disk.faults before) (disk.faults found.db)

-- No office was opened in two files: a call of one of them failed, or there was no salt for a new
-- log, and they were let go as they were found; or the office was refused. Then the files are
-- taken from what the refusal gave back, which says what they hold, and let go.
pub data IsUnopenedIn {D S : Type 0} (disk : disk.Ghosts D) (salts : source.Ghosts S)
    (lets_go : D → D → Type 0) (found : Files D) (fault : OpenFault) : Type 0 where
  unread : (before : D) → HasFailed disk before found
      → fault ≡ Store → lets_go found.log found.db → IsUnopenedIn disk salts lets_go found fault
  unsalted : (it : S) → salts.lacks it → fault ≡ Store → lets_go found.log found.db
      → IsUnopenedIn disk salts lets_go found fault
  refused : (left : Files D) → (refused : RefusedFiles D disk) → RefusesFiles found fault refused
      → AreTakenFrom refused left → lets_go left.log left.db
      → IsUnopenedIn disk salts lets_go found fault

-- No office was opened: no files were found at its path, or two were, and none was opened in them.
pub data IsUnopened {D S : Type 0} (disk : disk.Ghosts D) (salts : source.Ghosts S)
    (finds lets_go : D → D → Type 0) (fails : OpenFault → Type 0) (fault : OpenFault) : Type 0 where
  unfound : fails fault → IsUnopened disk salts finds lets_go fails fault
  unopened : (found : Files D) → finds found.log found.db
      → IsUnopenedIn disk salts lets_go found fault
      → IsUnopened disk salts finds lets_go fails fault

-- a file at a path: what it holds, that it was found, how an office was opened there and why none
-- was, how it is closed, and why it is not opened again; and where it is looked for and is not
-- made: that it was there, or that it was not, that it had none of the office's tables and was left
-- as it was, how an office was opened there, why no connection was made to it, and what its audit
-- answered, by the transform that was given, where one was
pub record Place : Type 1 where
  pub image : Image
  pub finds : Type 0
  pub opens : Seen → Type 0
  pub fails : OpenFault → Type 0
  pub closes : Seen → Type 0
  pub loses : Seen → OpenFault → Type 0
  pub meets : Type 0
  pub misses : Type 0
  pub vacant : Type 0
  pub opens_there : Seen → Type 0
  pub refuses : OpenFault → Type 0
  pub audits : (given : Option BlockFunction) → Result Audited AuditFault → Type 0

-- the file at each path, asked for by a command that waits for it for so many seconds while another
-- program has it
abbrev pub Places : Type 1
Places = Text → (wait : ℕ) → Place

-- the same file, where it is looked for and is not made
abbrev pub where_present : Place → Place
where_present place = record place {
  finds = place.meets;
  opens = place.opens_there;
  fails = place.refuses;
}

-- no files were opened at the path, and the fault names no file: none was looked into
abbrev pub IsUnfound : {H D S : Type 0} → file.Ghosts H D S → H → Text → (wait : ℕ) → OpenFault
    → Type 0
IsUnfound of office path wait fault = of.fails office path wait fault × (fault ≢ NotAnOffice)

-- what keeps offices has a file at each path, and this was given back of it
abbrev pub places_of : {H D S : Type 0} → (disk : disk.Ghosts D) → source.Ghosts S
    → file.Ghosts H D S → H → (back : Option (D × D))
    → Places
places_of {D = D} disk salts of office back path wait = record {
  image = of.image office path;
  finds = (log : D) × (db : D) × of.finds office path wait log db;
  opens = OpensIn disk (of.image office path);
  fails = IsUnopened disk salts (of.finds office path wait) (lets_go_giving of back false)
      (λ fault. IsUnfound of office path wait fault × (back ≡ None));
  closes = IsClosed disk (lets_go_giving of back);
  loses = IsUnreopened disk salts (lets_go_giving of back false);
  meets = (log : D) × (db : D) × of.meets office path wait log db;
  misses = of.misses office path wait × (back ≡ None);
  vacant = ((log : D) × (db : D) × of.meets office path wait log db)
      × IsVacant disk (of.image office path) (lets_looked_go of office path back);
  opens_there = OpensThere disk (of.image office path);
  refuses = IsUnopened disk salts (AreMeasured disk (of.meets office path wait))
      (lets_unopened_go of office path back)
      (λ fault. IsUnfound of office path wait fault × (back ≡ None));
  audits = AuditsIn disk (of.image office path) (lets_go_giving of back);
}
