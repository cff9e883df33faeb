-- What the conversation of a connection is, over books and over the lives that they keep.
use Rattle.std.specs.Prelude.{ℕ, ℤ, List, Option}
use Rattle.sqlite.specs.State.{HasCleanDisk}
use Rattle.vend_core.specs.Law.Life.{Life}
use Rattle.books.specs.Keeps.{Represents, Seen}
use Rattle.books.specs.Others.{LeavesOthers}
use Rattle.conversation.specs.Exchanges.{Timed, clocked}
use Rattle.conversation.specs.Run.{IsRun}
use Rattle.conversation.specs.Uses.{EndsBy, IsPaced, Use}
use Rattle.conversation.specs.declared.end.End.{End}
use Rattle.desk.specs.Answering.{answers_by, books_serve, life_serves, message_refusal_of}

-- A conversation was held over books with the answers of a clock, by these uses of its reader and
-- its writer, in turn, and ended so. Each message was answered at a moment that the clock gives.
-- While the disk returns what was written, every life that the books kept they keep as it went on
-- by the same conversation, and the tables of other names are left alone.
pub record Converses {B : Type 0} (see : B → Seen) (gives : ℤ → Type 0) (old new : Timed B)
    (unread left held holds : Option (List ℕ)) (uses : List Use) (end : End) : Type 0 where
  pub run : IsRun (clocked gives (answers_by (books_serve see))) message_refusal_of old new
      unread left held holds end
  pub paced : IsPaced (clocked gives (answers_by (books_serve see))) message_refusal_of old unread
      left held holds uses
  pub ends : EndsBy end uses
  pub clean : HasCleanDisk (see new.0).state → HasCleanDisk (see old.0).state
  pub lives : HasCleanDisk (see new.0).state → (life : Life) → Represents life (see old.0)
      → (after : Life)
      × IsRun (clocked gives (answers_by life_serves)) message_refusal_of (life, old.1)
      (after, new.1) unread left held holds end
      × Represents after (see new.0) × LeavesOthers (see old.0).state (see new.0).state
