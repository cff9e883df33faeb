-- What books make of a call that only reads.
use Rattle.std.specs.Prelude.{◌≡◌, ◌↔◌, ◌⊎◌, false, true, Result, Err, IfErr}
use Rattle.sqlite.specs.Effect.{Database}
use Rattle.sqlite.specs.State.{HasCleanDisk}
use Rattle.vend_core.specs.Law.Life.{Life}
use Rattle.office_rules.specs.declared.decision.refusal.Refusal.{Refusal}
use Rattle.office_rules.specs.declared.decision.refusal.Refusal.TheVariants.{Memory, Store, Stopped}
use Rattle.book_states.specs.Failing.{IsToldOfRead}
use Rattle.book_states.specs.Others.{LeavesOthers}
use Rattle.book_states.specs.Same.{ChangesNothing}
use Rattle.books.specs.Keeps.{BooksHaveTables, KnowTheSame, Represents, Seen}

-- Books were read, and gave this. Every life that they kept they keep, and nothing was written.
-- They answer as stopped exactly where they were, and are stopped after a failure. Beside the
-- refusals of its own, a read has those that tell why the tables were not read: of their rows only
-- one of an answer to its questions is a cause. What is given was seen in the tables, whatever
-- their rows are.
pub record ReadsBooks {A : Type 0} (Own : Refusal → Type 0)
    (IsSeen : Database → Result A Refusal → Type 0) (IsSpoilt : Database → Type 0)
    (given : Result A Refusal) (old new : Seen) : Type 0 where
  pub keeps : (life : Life) → Represents life old → Represents life new
  pub tables : BooksHaveTables old → BooksHaveTables new
  pub others : HasCleanDisk new.state → BooksHaveTables old → LeavesOthers old.state new.state
  pub nothing : HasCleanDisk new.state → BooksHaveTables old → ChangesNothing old.state new.state
  pub clean : HasCleanDisk new.state → HasCleanDisk old.state
  pub health : KnowTheSame old new
  pub stopped : (given ≡ Err Stopped) ↔ (old.stopped ≡ true)
  pub stops : (new.stopped ≡ true) ↔ ((given ≡ Err Store) ⊎ (given ≡ Err Stopped))
  pub refusals : IfErr given
      (λ why. Own why ⊎ ((why ≡ Memory) ⊎ ((why ≡ Store) ⊎ (why ≡ Stopped))))
  pub failures : HasCleanDisk new.state → BooksHaveTables old → old.stopped ≡ false
      → IfErr given (λ why. Own why ⊎ IsToldOfRead IsSpoilt why old.state new.state)
  pub seen : HasCleanDisk new.state → BooksHaveTables old → old.stopped ≡ false
      → IsSeen old.state.now given

-- The same, and this is so of each life that the books kept.
pub record ReadsOfLife {A : Type 0} (OfLife : Life → Type 0) (Own : Refusal → Type 0)
    (IsSeen : Database → Result A Refusal → Type 0) (IsSpoilt : Database → Type 0)
    (given : Result A Refusal) (old new : Seen) : Type 0 where
  pub of_life : HasCleanDisk new.state → (life : Life) → Represents life old → OfLife life
  pub reads : ReadsBooks Own IsSeen IsSpoilt given old new
