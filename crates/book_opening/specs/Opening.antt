-- What the opening of an office makes of a database.
use Rattle.std.specs.Prelude.{◌≡◌, ◌≢◌, ◌<◌, ◌⊎◌, ℕ, zero, suc, ◌+◌, List, length, Option, None}
use Rattle.std.specs.Prelude.{Some, Result, IfErr, IfOk, IsTrue, OnOk}
use Rattle.sqlite.specs.Effect.{Database, IsDatabase}
use Rattle.sqlite.specs.Held.{Held, state}
use Rattle.sqlite.specs.State.{HasCleanDisk, IsUnchanged, State, Survives}
use Rattle.sqlite.specs.declared.error.Error.{Error}
use Rattle.sqlite.specs.declared.error.Error.TheVariants.{SqliteFailure}
use Rattle.sqlite.specs.declared.error.ErrorCode.TheVariants.{OutOfMemory}
use Rattle.sqlite_trees.specs.Tree.{Trees}
use Rattle.sqlite_trees.specs.declared.store.Store.{Ghosts}
use Rattle.one_table.specs.Committing.{FailsAtCommit, FailsInside, HasBeen, LeavesMade}
use Rattle.one_table.specs.Reading.{FailsPlainly}
use Rattle.one_table.specs.ReadsOnly.{ReadsOnly}
use Rattle.one_table.specs.declared.committing.CommitFault.TheVariants.{Unmade}
use Rattle.office_rules.specs.Office.{Office}
use Rattle.office_rules.specs.declared.office.sale.Sale.{Sale}
use Rattle.book_tables.specs.format.Format.{HasFormat}
use Rattle.book_tables.specs.Holds.{HasOffice, HasOfficeOf}
use Rattle.book_tables.specs.format.Making.{BringsOffice, FailsToBring, HandsOver}
use Rattle.book_tables.specs.reading.Questions.{the_last_sale, the_sale}
use Rattle.book_tables.specs.reading.Seen.{ShowsFirst}
use Rattle.book_tables.specs.row.Rows.{present_format}
use Rattle.book_tables.specs.declared.reading.pages.MeterRow.{MeterRow}
use Rattle.book_tables.specs.declared.error.TableError.{TableError}
use Rattle.book_tables.specs.declared.error.TableError.TheVariants as table
use Rattle.audit.specs.Shown.{AreOfficeRows}
use Rattle.audit_rows.specs.declared.finding.AuditFault.{AuditFault}
use Rattle.audit_rows.specs.declared.finding.AuditFault.TheVariants as audit
use Rattle.audit_rows.specs.declared.office_rows.OfficeRows.{OfficeRows}
use Rattle.book_states.specs.Health.{last_moment}
use Rattle.book_states.specs.Stores.{Stores, StoreStandsFor}
use Rattle.book_states.specs.Same.{IsSame}
use Rattle.book_opening.specs.NoOffice.{ShowsNoOffice}
use Rattle.book_opening.specs.declared.fault.OpenFault.{OpenFault}
use Rattle.book_opening.specs.declared.fault.OpenFault.TheVariants.{NotAnOffice, Store, Memory}
use Rattle.book_opening.specs.declared.sold_so_far.SoldSoFar.{SoldSoFar}

-- the tables of a format, where there are any, tell it, and their rows are those of an office
abbrev pub HasOfficesRows : ℕ → Database → Type 0
HasOfficesRows zero db = Unit {0}
HasOfficesRows (suc n) db = (rows : OfficeRows) × AreOfficeRows (suc n) db rows

-- The tables of a format were brought to the present one, in place of none or of those of an older
-- format, whose rows were an office's.
abbrev pub BringsTold : Database → Database → Type 0
BringsTold old new =
    (from : ℕ) × (from < present_format) × BringsOffice from old new × HasOfficesRows from old

-- while the connection is open, its database is sound and has the tables of a format, and these are
-- the meters and the sales of its office
abbrev pub IsSoundWith : ℕ → List MeterRow → List Sale → State → Type 0
IsSoundWith from meters sales s =
    IsTrue s.is_open → IsDatabase s.now × HasOfficeOf from s.now.schema
    × HandsOver s.now meters sales

-- the office may be brought to the present format in such a database
abbrev pub BringsSound : ℕ → List MeterRow → List Sale → Database → Database → Type 0
BringsSound from meters sales old new =
    IsDatabase old → HasOfficeOf from old.schema → HandsOver old meters sales
    → BringsOffice from old new

-- an open connection has the office in the present format
pub record IsBrought (from : ℕ) (old new : State) : Type 0 where
  pub was_open : IsTrue old.is_open
  pub is_open : IsTrue new.is_open
  pub brings : BringsOffice from old.now new.now

-- What is opened is an office of the present format, which stays as it is, or one of an older
-- format or of none, which is brought to it. Where tables are found, `about` tells their format;
-- where they are of an older one, all their rows were an office's.
pub record OpensAs (old new : State) : Type 0 where
  pub was_open : IsTrue old.is_open
  pub is_open : IsTrue new.is_open
  pub now : BringsTold old.now new.now
      ⊎ (HasOffice old.now.schema × HasFormat old.now present_format × (new.now ≡ old.now))

-- what an error of the database is answered as
abbrev pub fault_of : Error → OpenFault
fault_of (SqliteFailure OutOfMemory) = Memory
fault_of e = Store

abbrev pub fault_of_table : TableError → OpenFault
fault_of_table (table.Database e) = fault_of e
fault_of_table table.RowOfNoOffice = NotAnOffice

-- what is found by an audit is answered as: a row that is no office's, and tables of no format,
-- show that there is none
abbrev pub fault_of_audit : AuditFault → OpenFault
fault_of_audit (audit.Found f) = NotAnOffice
fault_of_audit audit.NoOffice = NotAnOffice
fault_of_audit (audit.Failed e) = fault_of e

-- a fault that names the file is answered only of one that is shown to be no office's
abbrev pub FaultFitsStore : State → OpenFault → Type 0
FaultFitsStore s NotAnOffice = ShowsNoOffice s
FaultFitsStore s Store = Unit {0}
FaultFitsStore s Memory = Unit {0}

-- what an office has sold so far: the number of the next sale and the moment of the last one
abbrev pub sold_by : Office → SoldSoFar
sold_by o = record { next_number = length o.sales + 1; last_moment = last_moment o }

-- the office that the store stands for has sold this so far
abbrev pub IsSoldSoFar : State → SoldSoFar → Type 0
IsSoldSoFar s sold = (o : Office) → StoreStandsFor s o → sold ≡ sold_by o

-- The next sale is the first where none is stored. Else the row of the last one shows a sale: its
-- moment is the last one, and the next number is the number after.
abbrev IsAfter : Database → Option ℕ → SoldSoFar → Type 0
IsAfter db None sold = (sold.next_number ≡ 1) × (sold.last_moment ≡ None)
IsAfter db (Some last) sold =
    (sale : Sale) × ShowsFirst (the_sale last) db (Some sale)
    × (sold.next_number ≡ last + 1) × (sold.last_moment ≡ Some sale.moment)

-- of the last number that is stored, whatever the other rows are
abbrev pub FollowsLast : Database → SoldSoFar → Type 0
FollowsLast db sold =
    (last : Option ℕ) × ShowsFirst the_last_sale db last × IsAfter db last sold

-- Where this is known the store was only looked at, and a fault that names the file is true of it.
abbrev pub Looks : {T : Type 0} → (State → Type 0) → State → State → Result T OpenFault → Type 0
Looks IsKnown old new result =
    ReadsOnly IsKnown IsUnchanged (λ (s _ : State). FaultFitsStore s) old new result

-- The office that the store stood for is held now, and it has sold this so far.
abbrev pub OpensAt : State → State → SoldSoFar → Type 0
OpensAt old new sold =
    (o : Office) → StoreStandsFor old o → Stores new o × (sold ≡ sold_by o)

-- A fault that names the file is true of it. A connection that is still open has what it had, and
-- what the store stood for it still stands for.
pub record Refuses (old new : State) (fault : OpenFault) : Type 0 where
  pub told : FaultFitsStore old fault
  pub same : IsSame old new
  pub kept : (o : Office) → StoreStandsFor old o → StoreStandsFor new o

-- what a crash may leave where the tables of a format are brought to the present one, beside what
-- it left before
abbrev pub LeavesPresent : ℕ → State → Trees → Type 0
LeavesPresent from old trees = IsTrue old.is_open × LeavesMade (BringsOffice from) old.now trees

-- of an opening: an office in the present format, of tables that were an office's before
abbrev pub LeavesBrought : State → Trees → Type 0
LeavesBrought old trees = IsTrue old.is_open × LeavesMade BringsTold old.now trees

-- a refusal leaves nothing new but after Store, where the commit may have been carried out
abbrev pub AfterStore : (Trees → Type 0) → OpenFault → Trees → Type 0
AfterStore Leaves Store trees = Leaves trees
AfterStore Leaves fault trees = ⊥

abbrev pub LeavesRefused : State → OpenFault → Trees → Type 0
LeavesRefused old fault trees = AfterStore (LeavesBrought old) fault trees

-- ---- why an opening fails

-- The tables of a format, or none, were being brought to the present one on this connection: a
-- write failed in the transaction that was begun for it, by the office's meters and sales, and
-- nothing of that is left; or all were made, and the commit failed, which is answered as a failure
-- of the store whatever the error is.
abbrev pub FailsToBringUp : {S : Type 0} → Ghosts S → ℕ → Held S → State → OpenFault → Type 0
FailsToBringUp g from conn new fault =
    ((meters : List MeterRow) × (sales : List Sale) × IsSoundWith from meters sales (state g conn)
    × (e : Error) × (fault ≡ fault_of e)
    × FailsInside g (FailsToBring g from meters sales) conn new (Unmade (table.Database e)))
    ⊎ ((fault ≡ Store)
    × ((e : Error)
    × HasBeen g (λ made. FailsAtCommit (BringsOffice from) (state g conn) made new e)))

-- The opening found the tables of an older format, or none, and failed to bring them up. The
-- connection had then what it had before.
pub record StopsBringing {S : Type 0} (g : Ghosts S) (old new : State) (fault : OpenFault) : Type 0
  where
    pub conn : Held S
    pub same : IsUnchanged old (state g conn)
    pub survives : Survives old (state g conn) (λ _. ⊥)
    pub from : ℕ
    pub older : from < present_format
    pub had : HasOfficeOf from old.now.schema
    pub fails : FailsToBringUp g from conn new fault

-- A look at the store failed: for want of memory, as where its schema is compared; by the disk; at
-- a connection that was shut; or at a limit on steps, where one is set.
abbrev pub FailsToLook : State → State → Error → Type 0
FailsToLook old new e =
    FailsPlainly old new e ⊎ ((e ≡ SqliteFailure OutOfMemory) × IsUnchanged old new)

-- Why an opening fails that does not name the file: a look at the store failed with an error that
-- is answered so, or the bringing of what was found.
abbrev pub FailsToOpen : {S : Type 0} → Ghosts S → State → State → OpenFault → Type 0
FailsToOpen g old new fault =
    fault ≢ NotAnOffice
    → ((e : Error) × (fault ≡ fault_of e) × FailsToLook old new e) ⊎ StopsBringing g old new fault

-- How an opening ends. The office that the store stood for is held, and what is opened was there or
-- was brought to the present format; or it is refused. A crash leaves what it left before, or the
-- office in the present format, which a refusal leaves after Store alone.
pub record EndsOpening (old new : State) (result : Result SoldSoFar OpenFault) : Type 0 where
  pub opens : HasCleanDisk new → IfOk result (OpensAt old new)
  pub finds : HasCleanDisk new → OnOk result (OpensAs old new)
  -- the sales of what is not brought up go on after the last row, which shows one
  pub follows : HasCleanDisk new
      → IfOk result (λ sold. BringsTold old.now new.now ⊎ FollowsLast old.now sold)
  pub refused : HasCleanDisk new → IfErr result (Refuses old new)
  pub survives : Survives old new (LeavesBrought old)
  pub risks : IfErr result (λ fault. Survives old new (LeavesRefused old fault))
