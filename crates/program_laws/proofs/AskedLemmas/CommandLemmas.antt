-- What a command printed that asked a desk, by what it asked.
use Rattle.std.proofs.Common.{ℕ, Bool, false, List, [], ◌++◌, Option, None, Some, inr, refl, sym, subst, append-nil}
use Rattle.std.specs.Prelude.{⊤}
use Rattle.clap.specs.Walk.{Row}
use Rattle.sqlite_trees.specs.declared.store.Store.{Ghosts}
use Rattle.sts_fields.specs.Text.{Text}
use Rattle.asks.specs.declared.ask.Ask.{Ask}
use Rattle.asks.specs.declared.ask.Ask.TheVariants.{Do}
use Rattle.asks.specs.declared.lookup.Lookup.{Lookup}
use Rattle.asks.specs.declared.lookup.Lookup.TheVariants as lookups
use Rattle.office_rules.specs.Office.{IsOffice}
use Rattle.office_rules.specs.declared.decision.refusal.Refusal.TheVariants.{Memory}
use Rattle.office_rules.specs.declared.decision.request.Request.TheVariants as requests
use Rattle.office_rules.specs.declared.office.sale.Sale.{Sale}
use Rattle.vend_core.specs.Law.Life.{IsLife, Life}
use Rattle.conversation.specs.Exchanges.{Timed}
use Rattle.desk_client.specs.Sent.{CanSend, ask_text}
use Rattle.command_line.specs.Asked.{AskFor, CommandAsks}
use Rattle.command_line.specs.Commands.{SaysOffice}
use Rattle.command_line.specs.Line.{command_in}
use Rattle.command_line.specs.declared.address.Address.{Address}
use Rattle.command_line.specs.declared.asked.Asked.{Asked}
use Rattle.command_line.specs.declared.asked.Asked.TheVariants as asks
use Rattle.command_line.specs.declared.office_words.AskWords.{AskWords}
use Rattle.command_line.specs.declared.office_words.AskWords.TheVariants as ask_words
use Rattle.command_line.specs.declared.office_words.OfficeWords.{OfficeWords}
use Rattle.command_line.specs.declared.place.Place.{Place}
use Rattle.command_line.specs.declared.place.Place.TheVariants.{Desk, File}
use Rattle.desk_commands.specs.AskedOfDesk.{IsAsked, IsAskedOfDesk, IsAskedOnce, WordsAsk, rows_fault_line}
use Rattle.desk_commands.specs.AskedOfDesk.IsAsked.{broken, no_room, replied, unsent}
use Rattle.desk_commands.specs.AskedOfDesk.IsAskedOnce.{asked, without_rows}
use Rattle.desk_commands.specs.Exchanged.{Calls, Round, one_round}
use Rattle.desk_commands.specs.ListedAtDesk.{page_stop_end, page_stop_errors}
use Rattle.program_laws.specs.AtDesk.{AskForOne, AskForPages, IsAskedByOne, IsSoldIn, came_in, sent_in}
use Rattle.program_laws.specs.runs.Asked.{AsksAt, AsksDeskSo, AsksIn, PrintsOfDesk, PrintsSaleOrWhy, rounds_asked, rounds_of_one, rounds_once}
use Rattle.program_laws.specs.runs.Asked.PrintsOfDesk.{nothing}
use Rattle.program_laws.proofs.AtDeskLemmas.ListLemmas.{OnePage}
use Rattle.program_laws.proofs.AtDeskLemmas.OneLemmas.{DeskLaws}
use Rattle.program_laws.proofs.AtDeskLemmas.PageLemmas.{CanAsk}
use Rattle.program_laws.proofs.AtDeskLemmas.SaidLemmas.{says_askable, says_listed}
use Rattle.program_laws.proofs.AskedLemmas.PrintsLemmas.{ask_prints, pages_print}
use Rattle.program_laws.proofs.AskedLemmas.SaysLemmas.{Sells, none_sells}
use Rattle.program_laws.proofs.AskedLemmas.TalkLemmas.{Talk}
use Rattle.vend_commands.specs.Run.{IsCarriedOut, IsOfficeAsked, IsProgramRun}
use Rattle.vend_commands.specs.Run.IsProgramRun.{answered, bad_word, explained}
use Rattle.vend_commands.specs.Run.IsProgramRun.{no_room as no_room_for_words}
use Rattle.vend_commands.specs.port.Machines.{Machine}
use Rattle.vend_ports.specs.port.Texts.{Texts}
use Rattle.vend_ports.specs.print.Printed.{net_line, refusal_line}
use Rattle.vend_ports.specs.print.Told.{IsTold, Outputs}
use Rattle.vend_ports.specs.declared.command_end.CommandEnd.{CommandEnd}
use Rattle.vend_ports.specs.declared.command_end.CommandEnd.TheVariants.{Refused}

-- What a command printed, whatever connection carried its rounds, and what the life sold by then.
abbrev pub PrintsOfRounds : (Sold : Life → Type 0) → List Round → Outputs → CommandEnd → Type 1
PrintsOfRounds Sold rounds o end = (old new : Timed Life) → IsOffice old.0.opening → IsLife new.0 → (Tells : Sale → Type 0)
    → Talk old new (sent_in rounds) (came_in rounds) Tells
    → PrintsOfDesk Tells o end × Sold new.0

-- where a sale was asked for
abbrev pub SellsFor : AskWords → Life → Outputs → CommandEnd → Type 0
SellsFor (ask_words.Ask (Do (requests.Sell order))) life o end = PrintsSaleOrWhy (IsSoldIn life order) o end
SellsFor asked_by life o end = ⊤

sells_for : (texts : Texts) (asked_by : AskWords) (ask : Ask) (life : Life) (o : Outputs) (end : CommandEnd) → WordsAsk texts asked_by ask
    → Sells ask life o end → SellsFor asked_by life o end
sells_for texts (ask_words.Ask (Do (requests.Sell order))) ask life o end (leaves, same) sells = subst (λ (a : Ask). Sells a life o end) same sells
sells_for texts asked_by ask life o end says sells = tt

none_sells_for : (asked_by : AskWords) (life : Life) (o : Outputs) (end : CommandEnd) (errors : List ℕ) → IsTold o [] errors Refused end
    → SellsFor asked_by life o end
none_sells_for (ask_words.Ask (Do (requests.Sell order))) life o end errors is = inr (errors, is)
none_sells_for asked_by life o end errors is = tt

-- what the words ask with a file that was read is asked by one message
asked_one : (texts : Texts) (asked_by : AskWords) (ask : Ask) → WordsAsk texts asked_by ask → AskForOne asked_by ask
asked_one texts (ask_words.Import kind path) ask (rows, read, is) = (rows, read.1, is)
asked_one texts (ask_words.Ask it) ask (leaves, is) = is
asked_one texts (ask_words.List list) ask none = absurd none
asked_one texts ask_words.Export ask none = absurd none

-- the bytes of one round are its own
one_talk : (old new : Timed Life) (message came : List ℕ) (Tells : Sale → Type 0)
    → Talk old new (sent_in (one_round message came)) (came_in (one_round message came)) Tells → Talk old new message came Tells
one_talk old new message came Tells talk =
    subst (λ (bytes : List ℕ). Talk old new bytes came Tells) (append-nil message)
    (subst (λ (bytes : List ℕ). Talk old new (message ++ []) bytes Tells) (append-nil came) talk)

-- what the words ask can be asked of a desk: one thing, or the pages of a list
abbrev CanBeAsked : Texts → AskWords → (json : Bool) → Type 0
CanBeAsked texts asked_by json = ((ask : Ask) → WordsAsk texts asked_by ask → CanSend ask × IsAskedByOne json ask)
    × ((list : Lookup) → AskForPages asked_by list → CanAsk list)

module _ (laws : DeskLaws) (one : OnePage) where
  ask_said : {calls : Calls} {uncalled : Type 0} {desk : Address} {json : Bool} (ask : Ask) (o : Outputs) (end : CommandEnd)
      (is : IsAsked calls uncalled desk json ask o end) → CanSend ask → IsAskedByOne json ask
      → PrintsOfRounds (λ life. Sells ask life o end) (rounds_of_one ask o end is) o end
  ask_said {json = json} ask o end (replied came had told is tells) can by_one old new opening life Tells talk =
      ask_prints laws ask json can by_one old new opening life came told o end is.reply tells Tells (one_talk old new (ask_text ask) came Tells talk)
  ask_said ask o end (broken came had none tells) can by_one old new opening life Tells talk =
      (nothing net_line tells, none_sells ask new.0 o end net_line tells)
  ask_said ask o end (unsent why tells) can by_one old new opening life Tells talk = (nothing net_line tells, none_sells ask new.0 o end net_line tells)
  ask_said ask o end (no_room idle tells) can by_one old new opening life Tells talk =
      (nothing (refusal_line Memory) tells, none_sells ask new.0 o end (refusal_line Memory) tells)

  module _ (texts : Texts) (calls : Calls) (uncalled : Type 0) (desk : Address) (o : Outputs) (end : CommandEnd) where
    once_said : (asked_by : AskWords) (json : Bool) (is : IsAskedOnce texts calls uncalled desk asked_by json o end) → CanBeAsked texts asked_by json
        → PrintsOfRounds (λ life. SellsFor asked_by life o end) (rounds_once o end is) o end
    once_said asked_by json (asked ask says is) can old new opening life Tells talk =
        let able = can.0 ask says in
        let prints = ask_said ask o end is able.0 able.1 old new opening life Tells talk in
        (prints.0, sells_for texts asked_by ask new.0 o end says prints.1)
    once_said asked_by json (without_rows fault lacks idle tells) can old new opening life Tells talk =
        (nothing (rows_fault_line fault) tells, none_sells_for asked_by new.0 o end (rows_fault_line fault) tells)

    asked_said : (asked_by : AskWords) (json : Bool) (is : IsAskedOfDesk texts calls uncalled desk asked_by json o end) → CanBeAsked texts asked_by json
        → PrintsOfRounds (λ life. SellsFor asked_by life o end) (rounds_asked texts calls uncalled desk asked_by json o end is) o end
    asked_said (ask_words.List list) json (leaves, it) can old new opening life Tells talk = (
      pages_print laws one list (can.1 list refl) json old new opening life it.rounds it.pages it.left it.are o end (page_stop_end it.stop)
          (page_stop_errors it.stop) it.told Tells talk,
      tt,
    )
    asked_said ask_words.Export json (leaves, it) can old new opening life Tells talk = (
      pages_print laws one (lookups.Sales 0) (can.1 (lookups.Sales 0) refl) false old new opening life it.rounds it.pages it.left it.are o end
          (page_stop_end it.stop) (page_stop_errors it.stop) it.told Tells talk,
      tt,
    )
    asked_said asked_by json is can old new opening life Tells talk = once_said asked_by json is can old new opening life Tells talk

  module _ {S D R W : Type 0} (store : Ghosts S) (m : Machine D R W) (o : Outputs) (end : CommandEnd) where
    office_said : (place : Place) (asked_by : AskWords) (json : Bool) (is : IsOfficeAsked store m place asked_by json o end)
        → CanBeAsked m.texts asked_by json → (ask : AskWords) (rounds : List Round)
        → AsksAt store m place asked_by json o end is ask rounds → PrintsOfRounds (λ life. SellsFor ask life o end) rounds o end
    office_said (Desk desk) asked_by json (untouched, shut, done) can ask rounds (same, rounds_are) =
        subst (λ (rounds : List Round). PrintsOfRounds (λ life. SellsFor ask life o end) rounds o end) (sym rounds_are)
        (subst (λ (ask : AskWords). PrintsOfRounds (λ life. SellsFor ask life o end)
        (rounds_asked m.texts m.loop.calls m.loop.leaves desk asked_by json o end done) o end) (sym same)
        (asked_said m.texts m.loop.calls m.loop.leaves desk o end asked_by json done can))
    office_said (File file) asked_by json is can ask rounds none = absurd none

    says_of : (words : OfficeWords) (command : Option (Text × List Row)) → CommandAsks command (asks.Office words)
        → (name : Text) × (rows : List Row) × SaysOffice name rows words
    says_of words None says = absurd says
    says_of words (Some (name, rows)) says = (name, rows, says.1)

    carried_said : (it : Asked) (is : IsCarriedOut store m it o end) (words : List Text) → AskFor words it → (ask : AskWords) (rounds : List Round)
        → AsksIn store m it o end is ask rounds → PrintsOfRounds (λ life. SellsFor ask life o end) rounds o end
    carried_said (asks.Office it) is words for ask rounds asked_so =
        let said = says_of it (command_in words) for.asks in
        office_said it.place it.ask it.json is
        (λ ask asked_it. says_askable said.0 said.1 it ask said.2 (asked_one m.texts it.ask ask asked_it), λ list listed. (says_listed said.0 said.1 it list said.2 listed).0)
        ask rounds asked_so
    carried_said other is words for ask rounds none = absurd none

  -- a command that asked a desk in these rounds
  pub command_said : {S D R W : Type 0} {store : Ghosts S} {m : Machine D R W} (words : List Text) (o : Outputs) (end : CommandEnd)
      (run : IsProgramRun store m words o end) (ask : AskWords) (rounds : List Round) → AsksDeskSo words o end run ask rounds
      → PrintsOfRounds (λ life. SellsFor ask life o end) rounds o end
  command_said {store = store} {m = m} words o end (answered it for done) ask rounds asked_so =
      carried_said store m o end it done words for ask rounds asked_so
  command_said words o end (bad_word idle none asks_none told) ask rounds asked_so = absurd asked_so
  command_said words o end (explained idle kind text among some says) ask rounds asked_so = absurd asked_so
  command_said words o end (no_room_for_words idle told) ask rounds asked_so = absurd asked_so
