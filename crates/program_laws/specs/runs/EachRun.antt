-- What holds of each run on a machine, whatever lives were before it.
use Rattle.std.specs.Prelude.{◌≡◌, ◌⊎◌, ℕ, List, [], Ok}
use Rattle.sqlite.specs.Files.{IsNothing}
use Rattle.sqlite_wal.specs.Recovery.{Image}
use Rattle.vend_core.specs.Law.Life.{LeadTo, Life}
use Rattle.office_rules.specs.Office.{IsOffice, Office, empty_office}
use Rattle.office_rules.specs.declared.decision.answer.Answer.TheVariants.{Reprinted, Sold}
use Rattle.office_rules.specs.declared.decision.request.Order.{Order}
use Rattle.office_rules.specs.declared.decision.request.Request.TheVariants.{Reprint, Sell}
use Rattle.office_rules.specs.declared.office.sale.Sale.{Sale}
use Rattle.office_rules.specs.declared.decision.refusal.Refusal.TheVariants.{Memory}
use Rattle.desk_commands.specs.Exchanged.{Round}
use Rattle.books.specs.Path.{StandsIn}
use Rattle.office_commands.specs.office.Served.{TellsReply}
use Rattle.vend_ports.specs.print.Printed.{refusal_line}
use Rattle.vend_ports.specs.print.Told.{IsTold}
use Rattle.vend_ports.specs.declared.command_end.CommandEnd.TheVariants.{Refused}
use Rattle.program_laws.specs.Selling.{PrintsSale}
use Rattle.program_laws.specs.runs.Asked.{AsksDesk, WordsSellAtDesk}
use Rattle.program_laws.specs.runs.Files.{FindsImage, IsClean, LetsGoClean}
use Rattle.program_laws.specs.runs.Here.{Here, HoldsSo, ProgramRun, use_of}
use Rattle.program_laws.specs.runs.Steps.{Asks, AsksOrTells, Goes, IsOf}
use Rattle.program_laws.specs.runs.Uses.{RunQuestion}
use Rattle.program_laws.specs.runs.Words.{WordsRequest, selling}

pub record KeepsEachRun {P D R W : Type 0} (here : Here P D R W) : Type 0 where
  -- Where nothing was made yet there were no lives, and those to come begin with the empty office.
  -- Where the file stands for an office, however it came there, they begin with that one.
  pub begins : (image : Image) → IsNothing image → IsOf empty_office [] image
  pub begins_from : (start : Office) (image : Image) → ¬ IsNothing image → StandsIn image start
      → IsOf start [] image
  -- A run that finds what lives may leave goes on from them, as long as the disk returns what was
  -- written: by no life, by one, or by one for each time that its desk opened the file.
  pub goes_on : (start : Office) (lives : List Life) (o : Office) (run : ProgramRun here)
      → IsOffice start → LeadTo start lives o → FindsImage (use_of here run) (IsOf start lives)
      → IsClean (use_of here run) → ∥ ((more : List Life) × Goes here start run lives more) ∥₁
  -- It finds that where all that its ports can find is so.
  pub finds : (start : Office) (lives : List Life) (run : ProgramRun here)
      → HoldsSo here.disk here.of (here.office run.ports) (IsOf start lives)
      → FindsImage (use_of here run) (IsOf start lives)
  -- The disk returned what was written where the files that the run let go returned it: these
  -- files, and no others of their kind.
  pub clean : (run : ProgramRun here) → LetsGoClean (use_of here run) → IsClean (use_of here run)
  -- It asks of the office what its words ask. If they ask to sell an order or to print the receipt
  -- of a sale, it asks that, or tells why not.
  pub asks : (run : ProgramRun here) (q : RunQuestion) → Asks here run q
      → WordsRequest run.words q.request
  pub sells : (run : ProgramRun here) (order : Order) → WordsRequest run.words (Sell order)
      → AsksOrTells here run (Sell order)
  pub reprints : (run : ProgramRun here) (number : ℕ) → WordsRequest run.words (Reprint number)
      → AsksOrTells here run (Reprint number)
  -- If they ask a desk to sell an order, it asks that, or tells that there was no room for them.
  pub sells_at_desk : (run : ProgramRun here) (order : Order) → WordsSellAtDesk run.words order
      → ((rounds : List Round) × AsksDesk here run (selling order) rounds)
      ⊎ IsTold run.o [] (refusal_line Memory) Refused run.end
  -- It tells the reply that it got, and nothing else: of a sale and of a reprint the receipt.
  pub told : (run : ProgramRun here) (q : RunQuestion) → Asks here run q
      → TellsReply q.reply run.o run.end
  pub prints : (run : ProgramRun here) (q : RunQuestion) (s : Sale) → Asks here run q
      → (q.reply ≡ Ok (Sold s)) ⊎ (q.reply ≡ Ok (Reprinted s)) → PrintsSale s run.o run.end
