-- Why a write of the office's tables fails.
use Rattle.std.proofs.Common.{◌≡◌, ℕ, List, [], ◌∷◌, IsErrAnd, IsTrue, Some, Result, Ok, Err, ap, subst, sym, ◌∙◌}
use Rattle.sqlite.specs.Order.{Row}
use Rattle.sqlite.specs.State.{HasCleanDisk, State}
use Rattle.sqlite.specs.declared.error.Error.{Error}
use Rattle.sqlite_schema.specs.declared.command.Command.{Command}
use Rattle.sqlite_schema.specs.declared.schema.Schema.{Schema}
use Rattle.sqlite_schema.specs.declared.schema.Table.{Table}
use Rattle.one_table.specs.InTransaction.{BeginsWith, FailsToWrite, IsUnderWay, ShowsInside}
use Rattle.one_table.specs.Merges.{FailsToTouch, FailsToUpsert, StandsForUpserts, Upserts, shown_row}
use Rattle.one_table.specs.Reading.{Means, MeansAs}
use Rattle.one_table.specs.Upserting.{IsUpsert, Merging, returning_as, upsert_as}
use Rattle.one_table.specs.declared.read_fault.ReadFault.{ReadFault}
use Rattle.one_table.specs.declared.read_fault.ReadFault.TheVariants as fault
use Rattle.one_table.proofs.UpsertTextLemmas.{means_upsert}
use Rattle.book_tables.specs.reading.Reading.{HasAllTables, told}
use Rattle.book_tables.specs.writing.Failing.{Ends, FailsToMerge, FailsToStore}
use Rattle.book_tables.specs.writing.Writes.{Write}
use Rattle.book_tables.specs.writing.Writing.{MergesTables}
use Rattle.book_tables.specs.declared.error.TableError.{TableError}
use Rattle.book_tables.specs.declared.error.TableError.TheVariants.{Database, RowOfNoOffice}

-- a write failed, which is told so
pub fails_to_store : {A : Type 0} {old new : State} {e : Error} (w : Write) (command : Command) (r : Result A TableError)
    → IsErrAnd r (λ x. x ≡ Database e) → (IsTrue old.is_open → Means old.now.schema w.sql command) → FailsToWrite command w.params old new e
    → Ends FailsToStore w old new r
fails_to_store w command (Ok x) told means fails = absurd told
fails_to_store {old = old} {new = new} w command (Err x) told means fails = (tt, subst (FailsToStore w old new) (sym told) (command, means, fails))

-- two failures that are the same result have the same error
pub same_error : {A : Type 0} (x y : TableError) → ◌≡◌ {A = Result A TableError} (Err x) (Err y) → x ≡ y
same_error x y e = cc

-- the error that a failure hands on
pub handed_on : {A B : Type 0} (e y : TableError) (r : Result A TableError) → IsErrAnd r (λ x. x ≡ e) → r ≡ Err y
    → ◌≡◌ {A = Result B TableError} (Err e) (Err y)
handed_on e y (Ok x) is known = absurd is
handed_on {B = B} e y (Err x) is known = ap (λ (z : TableError). let r : Result B TableError = Err z in r) (sym is ∙ same_error x y known)

-- what the text of an upsert means
pub means_merging : (sql : List ℕ) (s : Schema) (t : Table) (at : ℕ) (m : Merging) → IsUpsert t m sql → StandsForUpserts s at t
    → MeansAs s sql (upsert_as at t m) (Some (returning_as m))
means_merging sql s t at m is k = (means_upsert s at t k.has k.keys m sql is).0

-- an upsert failed, which is told so
pub fails_to_merge : {A : Type 0} (old new : State) (IsTold : Row → Type 0) (w : Write) (t : Table) (m : Merging) (at : ℕ) (why : ReadFault)
    (r : Result A TableError) → IsErrAnd r (λ x. x ≡ told why)
    → (IsTrue old.is_open → MeansAs old.now.schema w.sql (upsert_as at t m) (Some (returning_as m)))
    → FailsToTouch t m w.params old new at w.sql IsTold why → Ends (FailsToMerge IsTold) w old new r
fails_to_merge old new IsTold w t m at why (Ok x) is means fails = absurd is
fails_to_merge old new IsTold w t m at (fault.Database e) (Err x) is means fails =
    (tt, subst (FailsToMerge IsTold w old new) (sym is) (record { table = t; merging = m; at = at; means = means; fails = fails }))
fails_to_merge old new IsTold w t m at fault.Row (Err x) is means fails =
    (tt, subst (FailsToMerge IsTold w old new) (sym is) (record { table = t; merging = m; at = at; means = means; fails = fails }))

-- rows that begin so begin as what follows from it
pub begins_as : {P Q : Row → Type 0} → ((row : Row) → P row → Q row) → (rows : List Row) → BeginsWith P rows → BeginsWith Q rows
begins_as so [] begins = begins
begins_as so (row ∷ more) begins = so row begins

-- rows that are shown where a text is carried out, told otherwise
pub shows_as : {P Q : List Row → Type 0} {sql : List ℕ} {params : Row} {old new : State} → ((rows : List Row) → P rows → Q rows)
    → ShowsInside P sql params old new → ShowsInside Q sql params old new
shows_as so (it, showed) = (it, so it.tally.shown showed)

-- why an upsert fails, where other words say which rows are told
pub merge_as : {P Q : Row → Type 0} (w : Write) (old new : State) → ((row : Row) → Q row → P row) → (e : TableError)
    → FailsToMerge P w old new e → FailsToMerge Q w old new e
merge_as w old new so (Database e) why = record { table = why.table; merging = why.merging; at = why.at; means = why.means; fails = why.fails }
merge_as w old new so RowOfNoOffice why = record {
  table = why.table;
  merging = why.merging;
  at = why.at;
  means = why.means;
  fails = (why.fails.0, shows_as (λ rows none begins. none (begins_as so rows begins)) why.fails.1);
}

-- it is told that a row is no office's only where what is shown of the row that was written is none
pub false_row : {A : Type 0} {old new : State} (t : Table) (m : Merging) (params : Row) (at : ℕ) (IsReadable : Row → Type 0)
    (why : ReadFault) (r : Result A TableError) → IsErrAnd r (λ x. x ≡ told why) → FailsToUpsert t m params old new at IsReadable why
    → r ≡ Err RowOfNoOffice → (row : Row) × (¬ IsReadable (shown_row t m params row)) × Upserts t m params old new row
false_row t m params at IsReadable why (Ok x) is fails known = absurd is
false_row t m params at IsReadable (fault.Database e) (Err x) is fails known =
    absurd (let wrong : Database e ≡ RowOfNoOffice = sym is ∙ same_error x RowOfNoOffice known in cc)
false_row t m params at IsReadable fault.Row (Err x) is fails known = fails

-- what is left of the tables where a write that answers something fails, and why it does
pub merge_off : {T : Type 0} {w : Write} {Says : T → Row → Type 0} {Makes : T → State → State → Type 0} {old new : State} (e : TableError)
    (r : Result T TableError) → IsErrAnd r (λ x. x ≡ e)
    → (HasCleanDisk new → IsUnderWay old → HasAllTables old → FailsToMerge (λ row. (x : T) × Says x row) w old new e)
    → MergesTables w Says Makes old new r
merge_off e (Ok x) is fails = absurd is
merge_off {T = T} {w = w} {Says = Says} {old = old} {new = new} e (Err x) is fails = record {
  made = λ clean way has. tt;
  ends = λ clean way has. (tt, subst (FailsToMerge (λ row. (x : T) × Says x row) w old new) (sym is) (fails clean way has));
  told = λ clean way has. tt;
}
