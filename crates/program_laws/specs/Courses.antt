-- The lives of one office along connections that are served one after another.
use Rattle.std.specs.Prelude.{◌≡◌, ◌⊎◌, ℕ, zero, suc, List}
use Rattle.sqlite.specs.State.{HasCleanDisk}
use Rattle.books.specs.Headline.{with_last}
use Rattle.books.specs.Keeps.{Represents, Seen}
use Rattle.desk.specs.Answering.{answers_by, life_serves, message_refusal_of}
use Rattle.conversation.specs.Run.{IsRun}
use Rattle.conversation.specs.declared.end.End as conversation
use Rattle.sts_token.specs.Token.{BlockFunction}
use Rattle.vend_core.specs.Law.Life.{LeadTo, Life, MayLeave}
use Rattle.vend_core.specs.Law.LifeLaws.{opened}
use Rattle.office_rules.specs.Office.{Office}
use Rattle.vend_commands.specs.serving.Connections.{Service, service}
use Rattle.vend_commands.specs.port.Machines.{Way}

-- the lives that are over, and the one that goes on
pub record Course : Type 0 where
  pub over : List Life
  pub life : Life

abbrev pub course : List Life → Life → Course
course over life = record { over = over; life = life }

-- the same life goes on; or the next one does, of an office that the one before may leave
abbrev pub IsNext : BlockFunction → (old new : Course) → Type 0
IsNext forward old new = (new ≡ old)
    ⊎ ((o : Office) × MayLeave old.life o
    × (new ≡ course (with_last old.over old.life) (opened forward o)))

module _ {D R W : Type 0} (way : Way D R W) where
  -- A connection came in, the life went on by the conversation over its bytes, and it was let go by
  -- a door that knew how that had ended.
  pub record GoesOnBy (old new : Service D Course) : Type 0 where
    pub reader : R
    pub writer : W
    pub line : way.Line
    pub read : R
    pub written : W
    pub used : way.Line
    pub end : conversation.End
    pub held : D
    pub accepted : way.accepts old.door reader writer line held
    pub run : IsRun (answers_by life_serves) message_refusal_of (old.books.life, old.answers)
        (new.books.life, new.answers) (way.remaining reader) (way.remaining read)
        (way.contents writer) (way.contents written) end
    pub ended : way.ends held read written used end new.door
    pub over : new.books.over ≡ old.books.over

  -- by so many connections, one after another
  abbrev pub AreLived : BlockFunction → ℕ → (old new : Service D Course) → Type 0
  AreLived forward zero old new = new ≡ old
  AreLived forward (suc count) old new = (mid : Service D Course) × AreLived forward count old mid
      × ((next : Course) × IsNext forward mid.books next
      × GoesOnBy (service mid.door next mid.answers) new)

-- Books keep this life, after others that lead from an office to the one that it opened, and the
-- disk has returned what was written.
pub record KeepsLast (start : Office) (over : List Life) (life : Life) (books : Seen) : Type 0 where
  pub led : LeadTo start over life.opening
  pub kept : Represents life books
  pub clean : HasCleanDisk books.state

-- The lives of some books go on along so many connections, to lives of the same office of which
-- these books keep the last.
abbrev pub LiveOn : {D R W B : Type 0} → Office → Way D R W → BlockFunction → (B → Seen) → ℕ
    → Service D Course → Service D B → Type 0
LiveOn start way forward see count old new = (last : Course)
    × AreLived way forward count old (service new.door last new.answers)
    × KeepsLast start last.over last.life (see new.books)
