-- What is looked up in the tables by reads alone.
use Rattle.std.specs.Prelude.{◌≡◌, ◌⊎◌, false, Result, IfErr, IfOk}
use Rattle.sqlite.specs.Effect.{Database}
use Rattle.sqlite.specs.State.{HasCleanDisk, State}
use Rattle.office_rules.specs.Office.{Office}
use Rattle.office_rules.specs.declared.decision.refusal.Refusal.{Refusal}
use Rattle.office_rules.specs.declared.decision.refusal.Refusal.TheVariants.{Memory, Store}
use Rattle.book_tables.specs.reading.Reading.{HasAllTables, OnlyReads}
use Rattle.book_tables.specs.declared.error.TableError.{TableError}
use Rattle.book_tables.specs.declared.error.TableError.TheVariants as table
use Rattle.book_states.specs.Failing.{IsToldOfRead}
use Rattle.book_states.specs.Members.{SaysOfOffice}
use Rattle.book_states.specs.Same.{ChangesNothing}
use Rattle.book_facts.specs.Lookups.{IsOfRules}

-- What is found is that of the office whose members the tables hold; it is what the reads gave of
-- the database, whatever rows stand there; a row of no office is told of only where one of an
-- answer to the questions that were asked is spoilt; and the tables are only read.
pub record LooksUp {T : Type 0} (Same : State → State → Type 0) (Says : Office → T → Type 0)
    (AreRead : Database → T → Type 0) (IsSpoilt : Database → Type 0) (old new : State)
    (result : Result T TableError) : Type 0 where
  pub facts : SaysOfOffice Says old new result
  pub shown : HasCleanDisk new → HasAllTables old → IfOk result (AreRead old.now)
  pub spoilt : HasCleanDisk new → HasAllTables old
      → IfErr result (λ e. e ≡ table.RowOfNoOffice → IsSpoilt old.now)
  pub reads : OnlyReads Same old new result

-- The same where nothing may be found by the rules: what is found, or a refusal of theirs.
pub record LooksUpByRules {T : Type 0} (Same : State → State → Type 0)
    (Says : Office → Result T Refusal → Type 0) (AreRead : Database → Result T Refusal → Type 0)
    (IsSpoilt : Database → Type 0) (old new : State)
    (result : Result (Result T Refusal) TableError) : Type 0 where
  pub looks : LooksUp Same Says AreRead IsSpoilt old new result
  pub rules : IfOk result (λ found. IfErr found IsOfRules)

-- What was given of the tables, outside a transaction, was seen in them, whatever their rows are,
-- and nothing was changed. Beside the refusals of its own, a call has those that tell why the
-- tables were not read: of their rows only one of an answer to its questions is a cause.
pub record TellsTables {A : Type 0} (Own : Refusal → Type 0)
    (IsSeen : Database → Result A Refusal → Type 0) (IsSpoilt : Database → Type 0)
    (old new : State) (given : Result A Refusal) : Type 0 where
  pub seen : HasCleanDisk new → HasAllTables old → IsSeen old.now given
  pub nothing : HasCleanDisk new → HasAllTables old → ChangesNothing old new
  pub clean : HasCleanDisk new → HasCleanDisk old
  pub failures : HasCleanDisk new → HasAllTables old
      → IfErr given (λ why. Own why ⊎ IsToldOfRead IsSpoilt why old new)
  pub refusals : IfErr given (λ why. Own why ⊎ ((why ≡ Memory) ⊎ (why ≡ Store)))
  pub outside : new.in_transaction ≡ false
