-- What holds of the lives that runs add one after another, each on a machine of its own.
use Rattle.std.specs.Prelude.{◌≡◌, ◌⊎◌, ◌≤◌, ℕ, List, ◌∷◌, ◌++◌, Ok, All, Contains, sum_by}
use Rattle.sqlite_wal.specs.Recovery.{Image}
use Rattle.sts_fields.specs.Text.{Text}
use Rattle.sts_token.specs.Meter.{Accepts, credit_of}
use Rattle.sts_token.specs.Token.{BlockFunction}
use Rattle.vend_core.specs.Law.Life.{IsHanded, LeadTo, Life}
use Rattle.vend_core.specs.Law.SoldTokens.{AreMadeFor, SimMeter, accepted_of, reads_by}
use Rattle.vend_core.specs.Law.SoldTokens.{tokens_of}
use Rattle.office_rules.specs.Law.NewSale.{fields_of}
use Rattle.office_rules.specs.Law.Cash.{AskForReports, cash_of, cash_of_reports}
use Rattle.office_rules.specs.Office.{IsOffice, Office}
use Rattle.office_rules.specs.declared.decision.answer.Answer.TheVariants.{Reprinted, Sold}
use Rattle.office_rules.specs.declared.decision.request.Order.{Order}
use Rattle.office_rules.specs.declared.decision.request.Request.TheVariants.{Reprint, Sell}
use Rattle.office_rules.specs.declared.decision.request.Stamped.{Stamped}
use Rattle.office_rules.specs.declared.office.sale.Sale.{Sale}
use Rattle.books.specs.Path.{StandsIn}
use Rattle.command_line.specs.declared.office_words.AskWords.{AskWords}
use Rattle.desk_commands.specs.Exchanged.{Round}
use Rattle.program_laws.specs.AtDesk.{came_in, sent_in}
use Rattle.program_laws.specs.Selling.{PrintsSale}
use Rattle.program_laws.specs.runs.Asked.{AsksDesk, CarriesIn, PrintsOfDesk}
use Rattle.program_laws.specs.runs.Asked.{PrintsSaleOrWhy}
use Rattle.program_laws.specs.runs.Files.{FindsImage, MayHold}
use Rattle.program_laws.specs.runs.Here.{Here, ProgramRun, use_of}
use Rattle.program_laws.specs.runs.Steps.{AreSoldFor, Asks, FailsToPrint, Goes, IsOf}
use Rattle.program_laws.specs.runs.Steps.{IsUnlessFailed, Tells, TellsIn}
use Rattle.program_laws.specs.runs.Uses.{RunQuestion}
use Rattle.program_laws.specs.runs.Words.{WordsRequest, selling}

-- a run on one machine, and a later one, maybe on another machine, that went on from it by lives of
-- runs between them
pub record ComesAfter {P D R W Q E S T : Type 0} (here : Here P D R W) (there : Here Q E S T)
    (start : Office) (first : ProgramRun here) (again : ProgramRun there) : Type 0 where
  pub before : List Life
  pub own : List Life
  pub between : List Life
  pub more : List Life
  pub went : Goes here start first before own
  pub goes : Goes there start again ((before ++ own) ++ between) more

pub record KeepsPromise {P D R W Q E S T : Type 0} (here : Here P D R W) (there : Here Q E S T)
    : Type 0 where
  -- whatever the next run finds of what a run may leave is of the lives up to that run
  pub follows : (start : Office) (run : ProgramRun here) (lives more : List Life)
      (next : ProgramRun there) → Goes here start run lives more
      → FindsImage (use_of there next) (MayHold (use_of here run) (IsOf start lives))
      → FindsImage (use_of there next) (IsOf start (lives ++ more))
  -- a sale that was handed out in them stands, unchanged, in whatever the file may hold
  pub stands : (start : Office) (lives : List Life) (image : Image) (s : Sale) → IsOffice start
      → IsOf start lives image → IsHanded lives s
      → ∥ ((o : Office) × StandsIn image o × Contains o.sales s) ∥₁
  -- no two different ones to a meter under one base date have one identifier, nor any two one
  -- number, nor any two of one operator one reference
  pub one_identifier : (start : Office) (lives : List Life) (o : Office) (a b : Sale)
      → IsOffice start → LeadTo start lives o → IsHanded lives a → IsHanded lives b
      → a.meter ≡ b.meter → a.base ≡ b.base → a.tid ≡ b.tid → a ≡ b
  pub one_number : (start : Office) (lives : List Life) (o : Office) (a b : Sale)
      → IsOffice start → LeadTo start lives o → IsHanded lives a → IsHanded lives b
      → a.number ≡ b.number → a ≡ b
  pub one_ref : (start : Office) (lives : List Life) (o : Office) (a b : Sale)
      → IsOffice start → LeadTo start lives o → IsHanded lives a → IsHanded lives b
      → a.operator ≡ b.operator → a.order_ref ≡ b.order_ref → a ≡ b
  -- what two of them sold for one order is one sale
  pub one_order : (start : Office) (lives : List Life) (o : Office) (order : Order) (a b : Sale)
      → IsOffice start → LeadTo start lives o → AreSoldFor lives order a
      → AreSoldFor lives order b → a ≡ b
  -- the same order again, at whatever moment and with whatever transform, gets the same sale
  pub sold_again : (start : Office) (first : ProgramRun here) (again : ProgramRun there)
      (order : Order) (s : Sale) (p q : RunQuestion) → ComesAfter here there start first again
      → Asks here first p → p.request ≡ Sell order → p.reply ≡ Ok (Sold s)
      → Asks there again q → q.request ≡ Sell order → IsUnlessFailed q.reply (Sold s)
  -- it does so where a desk had sold it too
  pub order_again : (start : Office) (again : ProgramRun there) (lives more : List Life)
      (order : Order) (s : Sale) (q : RunQuestion) → Goes there start again lives more
      → AreSoldFor lives order s → Asks there again q → q.request ≡ Sell order
      → IsUnlessFailed q.reply (Sold s)
  -- some words say one order; so the same words print the receipt of that sale, or tell that there
  -- was no memory, that the store failed, that there is no moment, or why no office was opened
  pub one_said : (words : List Text) (a b : Order) → WordsRequest words (Sell a)
      → WordsRequest words (Sell b) → a ≡ b
  pub same_sell : (start : Office) (first : ProgramRun here) (again : ProgramRun there)
      (order : Order) (s : Sale) (p : RunQuestion) → ComesAfter here there start first again
      → first.words ≡ again.words → Asks here first p → p.request ≡ Sell order
      → p.reply ≡ Ok (Sold s)
      → PrintsSale s again.o again.end ⊎ FailsToPrint again.o again.end
  -- a report of the receipt of a sale that was told before gets that sale
  pub printed_again : (start : Office) (first : ProgramRun here) (again : ProgramRun there)
      (s : Sale) (q : RunQuestion) (comes : ComesAfter here there start first again)
      → Tells here first comes.before comes.own comes.went.lived s
      → Asks there again q → q.request ≡ Reprint s.number → IsUnlessFailed q.reply (Reprinted s)
  -- so words that ask for it print its receipt, or why not
  pub same_receipt : (start : Office) (first : ProgramRun here) (again : ProgramRun there)
      (s : Sale) (comes : ComesAfter here there start first again)
      → Tells here first comes.before comes.own comes.went.lived s
      → WordsRequest again.words (Reprint s.number)
      → PrintsSale s again.o again.end ⊎ FailsToPrint again.o again.end
  -- Each sale in what a command printed of a desk is one that a run of `serve` told, where one of
  -- the run's connections carried what the command sent and what came to it. So it is handed out in
  -- the lives of that run.
  pub at_desk : (start : Office) (run : ProgramRun here) (lives more : List Life)
      (command : ProgramRun there) (ask : AskWords) (rounds : List Round)
      → IsOffice start → (goes : Goes here start run lives more)
      → AsksDesk there command ask rounds
      → CarriesIn (use_of here run) lives more goes.lived (sent_in rounds) (came_in rounds)
      → PrintsOfDesk (λ s. TellsIn (use_of here run) lives more goes.lived s
      × IsHanded (lives ++ more) s) command.o command.end
  -- A command that asked it to sell printed the receipt of a sale that these lives sold for the
  -- order, or why it printed none.
  pub sold_at_desk : (start : Office) (run : ProgramRun here) (lives more : List Life)
      (command : ProgramRun there) (order : Order) (rounds : List Round)
      → IsOffice start → (goes : Goes here start run lives more)
      → AsksDesk there command (selling order) rounds
      → CarriesIn (use_of here run) lives more goes.lived (sent_in rounds) (came_in rounds)
      → PrintsSaleOrWhy (AreSoldFor (lives ++ more) order) command.o command.end
  -- the reports of all shifts hold the money of all sales
  pub cash : (start : Office) (lives : List Life) (o : Office) (forward : BlockFunction)
      (ats : ℕ → Stamped) → IsOffice start → LeadTo start lives o → AskForReports ats
      → cash_of_reports forward o ats ≡ cash_of o.sales
  -- A simulated meter that has the transform of these lives and the key of the office credits what
  -- they sold to it under one base: in any order and with repeats the sum of the sales that it
  -- accepts, each once, which is at most what was sold; and in the order of sale it accepts each.
  pub credit : (start : Office) (lives : List Life) (o : Office) (m : SimMeter)
      (sales came : List Sale) → AreMadeFor start lives o m sales → All (Contains sales) came
      → credit_of (reads_by m) (tokens_of came)
      ≡ sum_by (λ s. s.tenths) (accepted_of (reads_by m) (tokens_of came) sales)
  pub at_most_sold : (start : Office) (lives : List Life) (o : Office) (m : SimMeter)
      (sales came : List Sale) → AreMadeFor start lives o m sales → All (Contains sales) came
      → credit_of (reads_by m) (tokens_of came) ≤ sum_by (λ s. s.tenths) sales
  pub in_order : (start : Office) (lives : List Life) (o : Office) (m : SimMeter)
      (earlier later : List Sale) (s : Sale) → AreMadeFor start lives o m (earlier ++ s ∷ later)
      → Accepts (reads_by m) (tokens_of earlier) s.digits (fields_of s)
