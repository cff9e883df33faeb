-- What is known of a database once it was audited.
use Rattle.std.specs.Prelude.{◌≡◌, ◌≤◌, ℕ, zero, suc, length, false, Option, Result, IfErr, IfOk}
use Rattle.std.specs.Prelude.{IsTrue}
use Rattle.sqlite.specs.Effect.{Database}
use Rattle.sqlite.specs.State.{HasCleanDisk, IsUnchanged, State, Survives}
use Rattle.one_table.specs.ReadsOnly.{ReadsOnly}
use Rattle.kept_order.specs.InOrder.{HasTablesInOrder}
use Rattle.sts_token.specs.Token.{BlockFunction}
use Rattle.vend_core.specs.Law.Reached.{IsPlausible}
use Rattle.office_rules.specs.Office.{IsOffice, Office}
use Rattle.book_tables.specs.Holds.{HasOfficeOf, StandsFor, rows_in}
use Rattle.book_tables.specs.Kept.{Kept, meters_kept, tariffs_kept}
use Rattle.book_tables.specs.Stands.{AreMembersOf}
use Rattle.book_tables.specs.format.Format.{TellsFormat}
use Rattle.book_tables.specs.row.Rows.{Rows, present_format}
use Rattle.audit_rows.specs.AllRows.{HasAllRows}
use Rattle.audit_rows.specs.declared.finding.AuditFault.{AuditFault}
use Rattle.audit_rows.specs.declared.office_rows.OfficeRows.{OfficeRows}
use Rattle.audit.specs.Fails.{AreWritten, Denies, IsFailure, StopsBy}
use Rattle.audit.specs.Shown.{HaveWholeShifts}
use Rattle.audit.specs.declared.audited.Audited.{Audited}

-- ---- the counts

-- those of the rows of a format
abbrev pub counted : ℕ → OfficeRows → Audited
counted n rows = record {
  format = n;
  tariffs = length rows.tariffs.items;
  meters = length rows.meters.items;
  shifts = length rows.shifts.items;
  sales = length rows.sales.items;
}

-- those where there are no tables
abbrev pub no_tables : Audited
no_tables = record { format = 0; tariffs = 0; meters = 0; shifts = 0; sales = 0 }

-- how many rows a table has, where the format has tables
abbrev pub count_in : ℕ → Kept → Database → ℕ
count_in zero k db = 0
count_in (suc n) k db = length (rows_in db k.table.name)

-- ---- it passes

-- The tables are those of the format that is told, which `about` tells too. Their rows are the
-- members of an office that requests may lead to, whose tokens the transform that is given wrote,
-- where one is; and the counts are its own. The database stands for it where its rows are in the
-- order of their numbers and no row of a shift lacks a column, neither of which a statement can
-- see; and each office that it stands for is such a one.
pub record IsSound (given : Option BlockFunction) (db : Database) (a : Audited) : Type 0 where
  pub known : a.format ≤ present_format
  pub has : HasOfficeOf a.format db.schema
  pub tells : TellsFormat a.format db
  pub rows : Rows
  pub read : 1 ≤ a.format → HasAllRows a.format db rows
  pub office : Office
  pub is : IsOffice office
  pub members : AreMembersOf rows office
  pub plausible : IsPlausible office
  pub written : AreWritten given office
  pub stands : HasTablesInOrder db → HaveWholeShifts db → StandsFor db office
  pub only : (o : Office) → StandsFor db o → IsPlausible o × AreWritten given o
  pub tariffs : count_in a.format tariffs_kept db ≡ a.tariffs
  pub meters : count_in a.format meters_kept db ≡ a.meters
  pub shifts : length office.shifts ≡ a.shifts
  pub sales : length office.sales ≡ a.sales

-- ---- both ways

-- What an audit answers is true of the database that the connection had, which is as it was: it is
-- sound, or what is found denies it. So one that stands for an office that requests may lead to,
-- whose tokens the transform that is given wrote, passes, unless a read fails or memory is lacking.
-- Outside a transaction its rows are in the order of their numbers. A crash leaves nothing that it
-- did not leave before.
pub record IsAuditOf (given : Option BlockFunction) (old new : State)
    (answer : Result Audited AuditFault) : Type 0 where
  pub passes : HasCleanDisk new → IsTrue old.is_open → IfOk answer (IsSound given old.now)
  pub reads : ReadsOnly (λ s. IsTrue s.is_open) IsUnchanged (StopsBy (Denies given)) old new answer
  pub honest : HasCleanDisk new → IsTrue old.is_open → (o : Office) → StandsFor old.now o
      → IsPlausible o → AreWritten given o → IfErr answer IsFailure
  pub ordered : IsTrue old.is_open → old.in_transaction ≡ false → HasTablesInOrder old.now
  pub survives : Survives old new (λ _. ⊥)
