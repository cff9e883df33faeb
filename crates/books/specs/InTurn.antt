-- What books make of many requests, one after another.
use Rattle.std.specs.Prelude.{◌≡◌, List, Result, length}
use Rattle.sqlite.specs.State.{HasCleanDisk}
use Rattle.sqlite_trees.specs.declared.store.Store.{Ghosts}
use Rattle.sts_token.specs.declared.transform.BlockTransform as block
use Rattle.vend_core.specs.Law.Life.{Life}
use Rattle.vend_core.specs.Law.LifeLaws.{extended_along}
use Rattle.office_rules.specs.declared.decision.answer.Answer.{Answer}
use Rattle.office_rules.specs.declared.decision.refusal.Refusal.{Refusal}
use Rattle.office_rules.specs.declared.decision.request.Stamped.{Stamped}
use Rattle.book_states.specs.Others.{LeavesOthers}
use Rattle.books.specs.Asking.{AreServedInTurn}
use Rattle.books.specs.Keeps.{BooksHaveTables, Represents, Seen, seen}
use Rattle.books.specs.Stopping.{StopAtFailure}
use Rattle.books.specs.declared.books.Books.{Books}

-- They replied so to all of them. Every life that they kept, they keep with these requests and
-- replies.
pub record ServeInTurn {S T : Type 0} {g : Ghosts S} {h : block.Ghosts T} (ats : List Stamped)
    (replies : List (Result Answer Refusal)) (old new : Books S T g h) : Type 0 where
  pub count : length replies ≡ length ats
  pub served : AreServedInTurn seen old ats replies new
  pub keeps : (life : Life) → Represents life (seen old)
      → Represents (extended_along life ats replies) (seen new)
  pub stops : StopAtFailure old.stopped replies new.stopped

-- They have the office's tables where they had them, and leave those of other names alone.
pub record LeaveTables (old new : Seen) : Type 0 where
  pub tables : BooksHaveTables old → BooksHaveTables new
  pub others : HasCleanDisk new.state → BooksHaveTables old → LeavesOthers old.state new.state
  pub clean : HasCleanDisk new.state → HasCleanDisk old.state
