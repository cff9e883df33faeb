-- Why a request, or a page, is answered that there was no memory or that the store failed.
use Rattle.std.specs.Prelude.{◌≡◌, ◌≢◌, ◌⊎◌, ℕ, ◌+◌, false, [], ◌∷◌, length, Option, None, Some, Result, Ok}
use Rattle.std.specs.Prelude.{Err, IsSome, IsTrue}
use Rattle.sqlite_disk.specs.Disk.{MoreFaults}
use Rattle.sqlite.specs.Effect.{Database}
use Rattle.sqlite.specs.State.{State}
use Rattle.sqlite.specs.declared.error.Error.{Error}
use Rattle.sqlite.specs.declared.error.Error.TheVariants.{SqliteFailure}
use Rattle.sqlite.specs.declared.error.ErrorCode.TheVariants.{OutOfMemory}
use Rattle.sts_token.specs.Token.{BlockFunction}
use Rattle.office_rules.specs.Decision.{MeterAccount, decision}
use Rattle.office_rules.specs.Decision.Facts.{AreFacts, IsUnlessMemory}
use Rattle.office_rules.specs.Office.{IsOffice, Office}
use Rattle.office_rules.specs.Law.Store.{Meets}
use Rattle.office_rules.specs.declared.decision.change.Change.{Change}
use Rattle.office_rules.specs.declared.decision.change.Edit.{Edit}
use Rattle.office_rules.specs.declared.decision.change.Edit.TheVariants.{AddRows, AddSale}
use Rattle.office_rules.specs.declared.decision.facts.Facts.{Facts}
use Rattle.office_rules.specs.declared.decision.refusal.Refusal.{Refusal}
use Rattle.office_rules.specs.declared.decision.refusal.Refusal.TheVariants.{Memory, Store}
use Rattle.office_rules.specs.declared.decision.request.Stamped.{Stamped}
use Rattle.office_decisions.specs.OverFacts.{decision_on}
use Rattle.book_tables.specs.writing.Failing.{FailsToWriteAll, IsRefused}
use Rattle.book_tables.specs.writing.Telling.{IsToldFalse}
use Rattle.book_tables.specs.writing.Writes.{new_sale, writes_of}
use Rattle.book_tables.specs.Holds.{HoldsMembers}
use Rattle.book_tables.specs.reading.Reading.{FailsToRead, HasAllTables}
use Rattle.book_tables.specs.declared.error.TableError.{TableError}
use Rattle.book_tables.specs.declared.error.TableError.TheVariants as table
use Rattle.book_states.specs.Changing.{IsMiscounted}
use Rattle.book_states.specs.FactsSeen.{AreFactsSeen}
use Rattle.book_states.specs.Members.{HasMembers}
use Rattle.book_states.specs.Spoilt.{IsSpoiltFor}

-- what is answered where the tables tell of this error: the store failed, unless they only found no
-- memory
abbrev pub refusal_for : TableError → Refusal
refusal_for (table.Database (SqliteFailure OutOfMemory)) = Memory
refusal_for e = Store

-- The disk failed more often than before; or the connection was shut; or a limit on steps is set,
-- which a statement may have reached; or this is so of the database.
abbrev pub HasFailedAt : (Database → Type 0) → State → State → Type 0
HasFailedAt IsSpoilt old new =
    MoreFaults old.faults new.faults
    ⊎ ((old.is_open ≡ false)
    ⊎ (IsSome old.step_limit
    ⊎ IsSpoilt old.now))

-- A read of the tables failed, and its error is answered so: of their rows only one of an answer to
-- the questions that were asked is a cause. Nothing has changed: an open connection is open still,
-- or the disk failed more often than before.
pub record IsToldOfRead (IsSpoilt : Database → Type 0) (refusal : Refusal) (old new : State)
    : Type 0 where
  pub error : TableError
  pub answered : refusal ≡ refusal_for error
  pub fails : FailsToRead old new error
  pub failed : refusal ≡ Store → HasFailedAt IsSpoilt old new
  pub still_open : IsTrue old.is_open → IsTrue new.is_open ⊎ MoreFaults old.faults new.faults

-- These are the facts of the request, where this is the number of the next sale: those of the
-- office whose members the tables hold. Whatever their rows are, each of these facts was seen in
-- them, so that no row that was looked at is one of no office.
pub record AreRead (at : Stamped) (next : ℕ) (s : State) (facts : Facts) : Type 0 where
  pub of_office : (o : Office) → IsOffice o → HasMembers s o → next ≡ length o.sales + 1
      → AreFacts o at facts
  pub seen : HasAllTables s → (count : ℕ) → next ≡ count + 1 → AreFactsSeen count at s.now facts

-- The facts of the request were read, and it was decided by them, of an office or of none: it is
-- decided so in any office that has these facts. Or there was no memory for it.
pub record IsDecidedByFacts (forward : BlockFunction) (at : Stamped) (next : ℕ) (s : State)
    (result : Result Change Refusal) : Type 0 where
  pub facts : Facts
  pub read : AreRead at next s facts
  pub exact : IsUnlessMemory result (decision_on forward at facts)
  pub decided : (o : Office) → AreFacts o at facts
      → IsUnlessMemory result (decision forward o at)

-- the tenths that the facts have of the meter of a sale in its month, before it
abbrev pub prior_of_account : Option MeterAccount → ℕ
prior_of_account None = 0
prior_of_account (Some account) = account.prior

-- the change was decided by the facts that were read, and these are the tenths of them
abbrev pub IsChangeRead : BlockFunction → Stamped → ℕ → State → Change → ℕ → Type 0
IsChangeRead forward at next s change prior =
    (it : IsDecidedByFacts forward at next s (Ok change))
    × (prior ≡ prior_of_account it.facts.account)

-- Before anything changed a read failed; or the facts were read, and by them the rules refuse the
-- request or there was no memory for its answer.
abbrev pub RefusesUnchanged : BlockFunction → Stamped → ℕ → State → State → Refusal → Type 0
RefusesUnchanged forward at next old new refusal =
    IsToldOfRead (IsSpoiltFor at) refusal old new
    ⊎ ((refusal ≢ Store) × IsDecidedByFacts forward at next old (Err refusal))

-- The error tells that a row is no office's, and one of the totals of a sale was told false by its
-- own writes. And an import of no rows is no edit of an office, whatever the rows are.
abbrev pub IsOfNoOffice : Edit → TableError → Database → Type 0
IsOfNoOffice (AddSale s) error old =
    (error ≡ table.RowOfNoOffice)
    × (limit : Option ℕ) × IsToldFalse (new_sale s ∷ []) s s.tid limit old
IsOfNoOffice (AddRows []) error old = Unit {0}
IsOfNoOffice edit error old = ⊥

-- The rows, while the connection was open, were those of no office that the edit meets: its own
-- writes show that.
abbrev pub MeetsNoOffice : Edit → TableError → State → Type 0
MeetsNoOffice edit error old =
    (IsTrue old.is_open → (o : Office) → IsOffice o → Meets edit o → ¬ HoldsMembers old.now o)
    × IsOfNoOffice edit error old.now

-- Why an edit fails inside its transaction: one of its writes does, for a cause; or what they tell
-- is no office's that the edit meets; or they told other tenths of a sale's month than those that
-- were read and its own.
abbrev pub FailsToMakeEdit : Edit → ℕ → State → State → TableError → Type 0
FailsToMakeEdit edit prior old new e =
    FailsToWriteAll (writes_of edit) old new e
    ⊎ (MeetsNoOffice edit e old
    ⊎ IsMiscounted edit prior old.now)

-- The disk failed more often than before; or the connection was shut; or the rules of the tables
-- refused one of the edit's writes, and this is their error; or what the writes tell is no office's
-- that the edit meets; or they told other tenths.
abbrev pub EditHasFailed : Edit → ℕ → TableError → State → State → Type 0
EditHasFailed edit prior error old new =
    MoreFaults old.faults new.faults
    ⊎ ((old.is_open ≡ false)
    ⊎ (((e : Error) × (error ≡ table.Database e) × IsRefused (writes_of edit) old e)
    ⊎ (MeetsNoOffice edit error old
    ⊎ IsMiscounted edit prior old.now)))
