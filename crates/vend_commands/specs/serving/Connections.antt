-- Connections that are served one after another, each over the bytes of its own.
use Rattle.std.specs.Prelude.{◌≡◌, ◌⊎◌, ℕ, ℤ, zero, suc, ◌<◌, ◌&&◌, not, Bool, true, false}
use Rattle.std.specs.Prelude.{if◌then◌else◌, List, [], ◌++◌, Option, Result, Ok, Err}
use Rattle.sqlite.specs.State.{HasCleanDisk}
use Rattle.books.specs.Keeps.{Represents, Seen}
use Rattle.books.specs.Others.{LeavesOthers}
use Rattle.book_opening.specs.declared.fault.OpenFault.{OpenFault}
use Rattle.desk.specs.Answering.{answers_by, books_serve, life_serves, message_refusal_of}
use Rattle.conversation.specs.Exchanges.{clocked}
use Rattle.conversation.specs.Run.{IsRun}
use Rattle.conversation.specs.Uses.{EndsBy, Grows, IsPaced, Use}
use Rattle.conversation.specs.declared.end.End as conversation
use Rattle.sts_fields.specs.Text.{Text}
use Rattle.sts_token.specs.Token.{BlockFunction}
use Rattle.vend_core.specs.Law.Life.{Life}
use Rattle.vend_commands.specs.port.Machines.{Way}
use Rattle.office_commands.specs.office.Reopened.{IsReopened}
use Rattle.vend_ports.specs.print.Printed.{open_line, stopped_line}

-- what serves: the door, the books, and the answers that the clock has yet to give
pub record Service (D B : Type 0) : Type 0 where
  pub door : D
  pub books : B
  pub answers : Option (List ℤ)

abbrev pub service : {D B : Type 0} → D → B → Option (List ℤ) → Service D B
service door books answers = record { door = door; books = books; answers = answers }

-- Every life that books kept they keep as it went on so, and no table of another name has changed.
abbrev pub GoOn : (old new : Seen) → (Life → Life → Type 0) → Type 0
GoOn old new Goes = HasCleanDisk new.state → (life : Life) → Represents life old
    → (after : Life) × Goes life after × Represents after new × LeavesOthers old.state new.state

module _ {D R W B : Type 0} (way : Way D R W) (gives : ℤ → Type 0) (see : B → Seen) where
  -- A connection came in, the desk held its conversation over what it sends and what it is sent,
  -- at moments that the clock gives, and it was let go as the conversation left it, by a door that
  -- knew how that had ended. Each read and each write went through the connection's line. No more
  -- was read than the desk may ask for, nor before the replies to what came before it were written,
  -- and the last read or write is why the conversation ended so. Every life that the books kept
  -- goes on by that, and by nothing beside.
  pub record IsHeld (old new : Service D B) : Type 0 where
    pub reader : R
    pub writer : W
    pub line : way.Line
    pub read : R
    pub written : W
    pub used : way.Line
    pub end : conversation.End
    pub held : D
    pub accepted : way.accepts old.door reader writer line held
    pub run : IsRun (clocked gives (answers_by (books_serve see))) message_refusal_of
        (old.books, old.answers) (new.books, new.answers) (way.remaining reader)
        (way.remaining read) (way.contents writer) (way.contents written) end
    pub paced : (uses : List Use) × Grows (way.uses line) (way.uses used) uses
        × IsPaced (clocked gives (answers_by (books_serve see))) message_refusal_of
        (old.books, old.answers) (way.remaining reader) (way.remaining read)
        (way.contents writer) (way.contents written) uses × EndsBy end uses
    pub clean : HasCleanDisk (see new.books).state → HasCleanDisk (see old.books).state
    pub lives : GoOn (see old.books) (see new.books) (λ life after.
        IsRun (clocked gives (answers_by life_serves)) message_refusal_of (life, old.answers)
        (after, new.answers) (way.remaining reader) (way.remaining read) (way.contents writer)
        (way.contents written) end)
    pub ended : way.ends held read written used end new.door

module _ {D R W B : Type 0} (way : Way D R W) (see : B → Seen) where
  -- no connection could be had, and nothing else has changed
  pub record IsUnheld (old new : Service D B) : Type 0 where
    pub refused : way.refuses old.door new.door
    pub books : new.books ≡ old.books
    pub answers : new.answers ≡ old.answers

module _ {B : Type 0} (see : B → Seen) where
  -- books that are not stopped serve on; of those that are, the file is opened again
  abbrev pub AreReady : BlockFunction → (old new : B) → Type 0
  AreReady forward old new = (((see old).stopped ≡ false) × (new ≡ old))
      ⊎ (((see old).stopped ≡ true) × IsReopened forward (see old) (see new))

  -- it cannot be, for this fault
  abbrev pub AreLost : (Seen → OpenFault → Type 0) → B → OpenFault → Type 0
  AreLost loses old fault = ((see old).stopped ≡ true) × loses (see old) fault

-- what is printed of books once they are made ready: if they were stopped by a read that failed,
-- that they are open again
abbrev pub open_text : Seen → Text
open_text books = if (books.stopped && not books.write_failed) then open_line else []

-- and behind a connection: if a write had failed before it and one was made since, that they are
-- open again, since writes work
abbrev pub written_text : (had_failed : Bool) → Seen → Text
written_text had_failed books =
    if (had_failed && not books.write_failed) then open_line else []

-- and if it left them stopped, that they are
abbrev pub stopped_text : Seen → Text
stopped_text books = if books.stopped then stopped_line else []

abbrev pub end_text : (had_failed : Bool) → Seen → Text
end_text had_failed books = written_text had_failed books ++ stopped_text books

module _ {D R W B : Type 0} (way : Way D R W) (gives : ℤ → Type 0) (forward : BlockFunction)
    (see : B → Seen) where
  -- So many connections, one after another, and before each the books are made ready. What is
  -- printed by then, in that order, and nothing else: each time that a connection left the books
  -- stopped; and each time that they were open again, before the next one where a read had stopped
  -- them, and where a write had, behind the first one that left a write made.
  abbrev pub AreHeld : ℕ → (old new : Service D B) → (printed : Text) → Type 0
  AreHeld zero old new printed = (new ≡ old) × (printed ≡ [])
  AreHeld (suc count) old new printed = (mid : Service D B) × (before : Text)
      × AreHeld count old mid before
      × ((ready : B) × AreReady see forward mid.books ready
      × IsHeld way gives see (service mid.door ready mid.answers) new)
      × (printed ≡ before ++ (open_text (see mid.books)
      ++ end_text (see mid.books).write_failed (see new.books)))

  -- one could not be had after fewer than were asked for
  pub record IsRefused (asked : ℕ) (old new : Service D B) (printed : Text) : Type 0 where
    pub count : ℕ
    pub fewer : count < asked
    pub last : Service D B
    pub before : Text
    pub held : AreHeld count old last before
    pub ready : B
    pub are_ready : AreReady see forward last.books ready
    pub unheld : IsUnheld way see (service last.door ready last.answers) new
    pub printed_is : printed ≡ before ++ open_text (see last.books)

  -- after fewer the file of stopped books could not be opened again, and nothing else has changed
  -- since
  pub record IsLost (loses : Seen → OpenFault → Type 0) (asked : ℕ) (old : Service D B)
      (new_door : D) (left : Option (List ℤ)) (fault : OpenFault) (printed : Text) : Type 0 where
    pub count : ℕ
    pub fewer : count < asked
    pub last : Service D B
    pub held : AreHeld count old last printed
    pub lost : AreLost see loses last.books fault
    pub door : new_door ≡ last.door
    pub answers : left ≡ last.answers

  -- as many as were asked for, which is all; or fewer, for one of those causes; and this is printed
  abbrev pub AreServed : (Seen → OpenFault → Type 0) → ℕ → Service D B → D → Option (List ℤ)
      → Result (B × Bool) OpenFault → (printed : Text) → Type 0
  AreServed loses asked old door answers (Ok (books, true)) printed =
      AreHeld asked old (service door books answers) printed
  AreServed loses asked old door answers (Ok (books, false)) printed =
      IsRefused asked old (service door books answers) printed
  AreServed loses asked old door answers (Err fault) printed =
      IsLost loses asked old door answers fault printed
