-- One run is one step: the lives that it adds to those before, and what it does by them.
use Rattle.std.specs.Prelude.{◌≡◌, ◌⊎◌, List, [], ◌++◌, Some, Result, Ok, Err, Contains}
use Rattle.sqlite.specs.Files.{IsNothing}
use Rattle.sqlite_disk.specs.declared.Disk as disk
use Rattle.sqlite_wal.specs.Reads.{AreClean}
use Rattle.sqlite_wal.specs.Recovery.{Image}
use Rattle.office_rules.specs.Law.Handed.{sales_of}
use Rattle.vend_core.specs.Law.Life.{IsHanded, LeadTo, Life}
use Rattle.office_rules.specs.Office.{Office, empty_office}
use Rattle.office_rules.specs.declared.decision.answer.Answer.{Answer}
use Rattle.office_rules.specs.declared.decision.answer.Answer.TheVariants.{Reprinted, Sold}
use Rattle.office_rules.specs.declared.decision.refusal.Refusal.{Refusal}
use Rattle.office_rules.specs.declared.decision.refusal.Refusal.TheVariants.{Memory, Store}
use Rattle.office_rules.specs.declared.decision.request.Order.{Order}
use Rattle.office_rules.specs.declared.decision.request.Request.{Request}
use Rattle.office_rules.specs.declared.decision.request.Request.TheVariants.{Reprint, Sell}
use Rattle.office_rules.specs.declared.decision.request.Stamped.{Stamped}
use Rattle.office_rules.specs.declared.office.sale.Sale.{Sale}
use Rattle.book_opening.specs.declared.fault.OpenFault.{OpenFault}
use Rattle.books.specs.Path.{StandsIn}
use Rattle.office_commands.specs.print.Opening.{opening_line}
use Rattle.vend_ports.specs.print.Printed.{clock_line, file_line, refusal_line}
use Rattle.vend_ports.specs.print.Told.{IsTold, Outputs}
use Rattle.vend_ports.specs.declared.command_end.CommandEnd.{CommandEnd}
use Rattle.vend_ports.specs.declared.command_end.CommandEnd.TheVariants as how
use Rattle.program_laws.specs.runs.Files.{AreFoundSo, MayHold}
use Rattle.program_laws.specs.runs.Here.{Here, ProgramRun, use_of}
use Rattle.program_laws.specs.runs.Uses.{Living, LivesSo, RunQuestion, TellsSo, RunUse, asking_life}
use Rattle.program_laws.specs.runs.Uses.{connected, idle_life, many_lives, no_life, reading_life}
use Rattle.program_laws.specs.runs.Uses.{unconnected, unseen}

-- ---- what a run did

module _ {M : Type 0} {g : disk.Ghosts M} where
  -- these are the lives of what a run made of the file, after those before
  abbrev pub LivesIn : RunUse g → (before lives : List Life) → Type 0
  LivesIn unseen before lives = lives ≡ []
  LivesIn (unconnected found left) before lives = lives ≡ []
  LivesIn (connected image living last) before lives = LivesSo living before lives

-- this was asked and told in it
abbrev pub AsksSo : Living → RunQuestion → Type 0
AsksSo no_life q = ⊥
AsksSo (idle_life transform) q = ⊥
AsksSo (reading_life moment reading) q = ⊥
AsksSo (asking_life asked) q = q ≡ asked
AsksSo (many_lives way forward count door answers last left) q = ⊥

module _ {M : Type 0} {g : disk.Ghosts M} where
  abbrev pub AsksIn : RunUse g → RunQuestion → Type 0
  AsksIn unseen q = ⊥
  AsksIn (unconnected found left) q = ⊥
  AsksIn (connected image living last) q = AsksSo living q

  -- this sale was read in it, or a connection was told it, along these lives
  abbrev pub TellsIn : (made : RunUse g) → (before lives : List Life) → LivesIn made before lives
      → Sale → Type 0
  TellsIn unseen before lives is s = ⊥
  TellsIn (unconnected found left) before lives is s = ⊥
  TellsIn (connected image living last) before lives is s = TellsSo living before lives is s

-- why a command asks nothing of an office that would ask it a request: there was no room for the
-- words, or no moment, or no file, or no office was opened; that is told, and nothing else
pub data TellsNoRequest (o : Outputs) (end : CommandEnd) : Type 0 where
  no_room : IsTold o [] (refusal_line Memory) how.Refused end → TellsNoRequest o end
  no_moment : IsTold o [] clock_line how.Refused end → TellsNoRequest o end
  no_file : IsTold o [] file_line how.Refused end → TellsNoRequest o end
  no_office : (fault : OpenFault) → IsTold o [] (opening_line fault) how.Refused end
      → TellsNoRequest o end

-- why it does not print a sale that was made before: for that, or the store failed
abbrev pub FailsToPrint : Outputs → CommandEnd → Type 0
FailsToPrint o end = IsTold o [] (refusal_line Store) how.Refused end ⊎ TellsNoRequest o end

module _ {P D R W : Type 0} (here : Here P D R W) where
  -- the run asked this of the office
  abbrev pub Asks : ProgramRun here → RunQuestion → Type 0
  Asks run q = AsksIn (use_of here run) q

  -- The run got this sale to tell, in the reply to what it asked: a new one, the one that its order
  -- had made before, one that was asked for again by its number, or one of a shift's report.
  abbrev pub Gets : ProgramRun here → Sale → Type 0
  Gets run sale = (q : RunQuestion) × Asks run q × Contains (sales_of q.reply) sale

  -- the run asked this request of the office; or it told why it asked nothing
  abbrev pub AsksOrTells : ProgramRun here → Request → Type 0
  AsksOrTells run r = ((q : RunQuestion) × Asks run q × (q.request ≡ r))
      ⊎ TellsNoRequest run.o run.end

  -- The run told this sale along these lives: it got it, or read it, or its desk told a connection.
  abbrev pub Tells : (run : ProgramRun here) → (before lives : List Life)
      → LivesIn (use_of here run) before lives → Sale → Type 0
  Tells run before lives lived s = Gets run s ⊎ TellsIn (use_of here run) before lives lived s

-- ---- what it is in the lives

-- one of these lives sold this for the order: a run's, or one of a desk
abbrev pub AreSoldFor : List Life → Order → Sale → Type 0
AreSoldFor lives order s = (life : Life) × Contains lives life × (at : Stamped)
    × (at.request ≡ Sell order)
    × Contains life.exchanges (record { request = at; reply = Ok (Sold s) })

-- it is that answer, or there was no memory, or the store failed
abbrev pub IsUnlessFailed : Result Answer Refusal → Answer → Type 0
IsUnlessFailed reply answer =
    (reply ≡ Ok answer) ⊎ ((reply ≡ Err Memory) ⊎ (reply ≡ Err Store))

-- What the file holds stands for an office that these lives may leave, of which the first opened
-- this one: the empty office, if nothing has been made in it.
pub record IsOfOffice (start : Office) (lives : List Life) (image : Image) : Type 0 where
  pub office : Office
  pub stands : StandsIn image office
  pub lead : LeadTo start lives office
  pub begins : IsNothing image → LeadTo start lives empty_office

abbrev pub IsOf : Office → List Life → Image → Type 0
IsOf start lives image = ∥ IsOfOffice start lives image ∥₁

-- The run went on from lives by more, in which it did what it did. Whatever the file may hold after
-- it stands for an office that all of them may leave.
pub record Goes {P D R W : Type 0} (here : Here P D R W) (start : Office) (run : ProgramRun here)
    (lives more : List Life) : Type 0 where
  pub lived : LivesIn (use_of here run) lives more
  pub lead : (o : Office) × LeadTo start (lives ++ more) o
  pub left : (image : Image) → MayHold (use_of here run) (IsOf start lives) image
      → IsOf start (lives ++ more) image
  -- each sale that it told is handed out in them
  pub handed : (s : Sale) → Tells here run lives more lived s → IsHanded (lives ++ more) s
  -- what it sold for an order they sold for it
  pub sold : (q : RunQuestion) (order : Order) (s : Sale) → Asks here run q
      → q.request ≡ Sell order → q.reply ≡ Ok (Sold s) → AreSoldFor (lives ++ more) order s
  -- an order that any of them sold, a desk's too, gets that sale again, whatever the moment and the
  -- transform
  pub again : (q : RunQuestion) (order : Order) (s : Sale) → Asks here run q
      → q.request ≡ Sell order → AreSoldFor (lives ++ more) order s
      → IsUnlessFailed q.reply (Sold s)
  -- and the receipt of a sale that was handed out before it gets that sale
  pub printed : (q : RunQuestion) (s : Sale) → Asks here run q → q.request ≡ Reprint s.number
      → IsHanded lives s → IsUnlessFailed q.reply (Reprinted s)
  -- and the files that it gave back hold what a next run may find
  pub given : (log db : here.M) → run.back ≡ Some (log, db) → AreClean here.disk log db
      → AreFoundSo here.disk (record { log = log; db = db }) (IsOf start (lives ++ more))
