-- A command that asked a desk, which a run of `serve` was, on the same machine or on another: what
-- a connection of the run carried, and what the command printed of it.
use Rattle.std.proofs.Common.{inl, inr}
use Rattle.std.specs.Prelude.{◌≡◌, ◌⊎◌, ◌<◌, ◌^◌, ℕ, zero, suc, Bool, List, [], ◌++◌, length}
use Rattle.std.specs.Prelude.{Contains, Option, Result, Ok}
use Rattle.std.specs.List.{flat_map}
use Rattle.sqlite_disk.specs.declared.Disk as disk
use Rattle.sqlite_trees.specs.declared.store.Store.{Ghosts}
use Rattle.sts_fields.specs.Text.{Text}
use Rattle.sts_token.specs.Token.{BlockFunction}
use Rattle.office_rules.specs.Law.Handed.{sales_of}
use Rattle.office_rules.specs.declared.decision.answer.Answer.{Answer}
use Rattle.office_rules.specs.declared.decision.refusal.Refusal.{Refusal}
use Rattle.office_rules.specs.declared.decision.request.Order.{Order}
use Rattle.office_rules.specs.declared.office.sale.Sale.{Sale}
use Rattle.vend_core.specs.Law.Life.{Life}
use Rattle.vend_core.specs.Law.LifeLaws.{opened}
use Rattle.book_tables.specs.declared.row.totals.Totals.{Totals}
use Rattle.asks.specs.declared.lookup.Lookup.{Lookup}
use Rattle.book_states.specs.declared.lookup.Found.{Found}
use Rattle.conversation.specs.Exchanges.{Timed}
use Rattle.conversation.specs.Run.{IsRun}
use Rattle.conversation.specs.declared.end.End.{End}
use Rattle.conversation.specs.declared.end.End.TheVariants.{Closed, BadMessage, ReadFault}
use Rattle.conversation.specs.declared.end.End.TheVariants.{WriteFault, Memory}
use Rattle.desk.specs.Answering.{answers_by, life_serves, message_refusal_of}
use Rattle.asks.specs.declared.ask.Ask.{Ask}
use Rattle.desk_client.specs.Sent.{ask_text}
use Rattle.command_line.specs.Asked.{AskFor}
use Rattle.command_line.specs.declared.address.Address.{Address}
use Rattle.command_line.specs.declared.asked.Asked.{Asked}
use Rattle.command_line.specs.declared.asked.Asked.TheVariants.{Office}
use Rattle.command_line.specs.declared.office_words.AskWords.{AskWords}
use Rattle.command_line.specs.declared.office_words.AskWords.TheVariants as ask_words
use Rattle.command_line.specs.declared.office_words.OfficeWords.{OfficeWords}
use Rattle.command_line.specs.declared.place.Place.{Place}
use Rattle.command_line.specs.declared.place.Place.TheVariants.{Desk}
use Rattle.desk_commands.specs.AskedOfDesk.{IsAsked, IsAskedOfDesk, IsAskedOnce}
use Rattle.desk_commands.specs.AskedOfDesk.IsAsked.{broken, no_room, replied, unsent}
use Rattle.desk_commands.specs.AskedOfDesk.IsAskedOnce.{asked, without_rows}
use Rattle.desk_commands.specs.Exchanged.{Calls, Round, one_round}
use Rattle.desk_commands.specs.print.ListTexts.{pages_text}
use Rattle.office_commands.specs.commands.LookedUp.{TellsFound}
use Rattle.office_commands.specs.office.Served.{TellsReply}
use Rattle.office_commands.specs.print.Totalled.{TellsTotals}
use Rattle.vend_commands.specs.Run.{IsCarriedOut, IsOfficeAsked, IsProgramRun}
use Rattle.vend_commands.specs.Run.IsProgramRun.{answered, bad_word, explained}
use Rattle.vend_commands.specs.Run.IsProgramRun.{no_room as no_room_for_words}
use Rattle.vend_commands.specs.port.Machines.{Machine, Way}
use Rattle.vend_commands.specs.serving.Connections.{Service, service}
use Rattle.vend_ports.specs.port.Texts.{Texts}
use Rattle.vend_ports.specs.print.Told.{IsTold, Outputs}
use Rattle.vend_ports.specs.declared.command_end.CommandEnd.{CommandEnd}
use Rattle.vend_ports.specs.declared.command_end.CommandEnd.TheVariants.{Refused}
use Rattle.program_laws.specs.Courses.{AreLived, Course, course}
use Rattle.program_laws.specs.SalesTold.{sales_found}
use Rattle.program_laws.specs.Selling.{PrintsSale}
use Rattle.program_laws.specs.runs.Here.{Here, ProgramRun}
use Rattle.program_laws.specs.runs.Steps.{LivesIn}
use Rattle.program_laws.specs.runs.Uses.{Living, LivesSo, RunUse, asking_life, connected, idle_life}
use Rattle.program_laws.specs.runs.Uses.{many_lives, no_life, reading_life, unconnected, unseen}
use Rattle.program_laws.specs.runs.Words.{selling}

-- ---- what a connection carried

-- What was read begins with what was sent, and what came begins what was written. Of what was said,
-- also of the end of a reply that was cut off, there are fewer bytes than 64 bits can count.
pub record Carries (read wrote said sent came : Text) : Type 0 where
  pub later : Text
  pub reads : read ≡ sent ++ later
  pub behind : Text
  pub writes : wrote ≡ came ++ behind
  pub few : length said < 2 ^ 64

-- so with what a conversation read and what it wrote
abbrev pub RunCarries : (old new : Timed Life) → (unread left held holds : Option (List ℕ))
    → (end : End)
    → IsRun (answers_by life_serves) message_refusal_of old new unread left held holds end
    → (sent came : Text) → Type 0
RunCarries old new unread left held holds Closed (input, all, inl (expects, said)) sent came =
    Carries input said.text said.text sent came
RunCarries old new unread left held holds Closed (input, all, inr said) sent came =
    Carries input said.text said.text sent came
RunCarries old new unread left held holds BadMessage (input, all, fault, said) sent came =
    Carries input said.text said.text sent came
RunCarries old new unread left held holds ReadFault (input, taken, expects, said) sent came =
    Carries input said.text said.text sent came
RunCarries old new unread left held holds WriteFault (input, all, text, appends, cut) sent came =
    Carries input text (cut.whole ++ cut.last) sent came
RunCarries old new unread left held holds Memory (input, all, text, appends, given) sent came =
    Carries input text text sent came

-- so with one of so many connections
abbrev pub ConnectionsCarry : {D R W : Type 0} → (way : Way D R W) → (forward : BlockFunction)
    → (count : ℕ) → (old new : Service D Course) → AreLived way forward count old new
    → (sent came : Text) → Type 0
ConnectionsCarry way forward zero old new same sent came = ⊥
ConnectionsCarry way forward (suc count) old new (mid, before, (next, is, goes)) sent came =
    ConnectionsCarry way forward count old mid before sent came
    ⊎ RunCarries (next.life, mid.answers) (new.books.life, new.answers)
    (way.remaining goes.reader) (way.remaining goes.read) (way.contents goes.writer)
    (way.contents goes.written) goes.end goes.run sent came

abbrev pub CarriesSo : (living : Living) → (before lives : List Life)
    → LivesSo living before lives → (sent came : Text) → Type 0
CarriesSo no_life before lives is sent came = ⊥
CarriesSo (idle_life transform) before lives is sent came = ⊥
CarriesSo (reading_life moment reading) before lives is sent came = ⊥
CarriesSo (asking_life q) before lives is sent came = ⊥
CarriesSo (many_lives way forward count door answers last_door left) before lives
    (office, last, next, lived, follows, all) sent came =
    ConnectionsCarry way forward count
    (service door (course before (opened forward office)) answers)
    (service last_door last left) lived sent came

module _ {M : Type 0} {g : disk.Ghosts M} where
  -- one of the connections of a run, along these lives, carried this
  abbrev pub CarriesIn : (made : RunUse g) → (before lives : List Life)
      → LivesIn made before lives → (sent came : Text) → Type 0
  CarriesIn unseen before lives is sent came = ⊥
  CarriesIn (unconnected found left) before lives is sent came = ⊥
  CarriesIn (connected image living last) before lives is sent came =
      CarriesSo living before lives is sent came

-- ---- what a command asked

-- the rounds of one ask: none where no message was sent whole and nothing came
abbrev pub rounds_of_one : {calls : Calls} → {uncalled : Type 0} → {desk : Address}
    → {json : Bool} → (ask : Ask) → (o : Outputs) → (end : CommandEnd)
    → IsAsked calls uncalled desk json ask o end → List Round
rounds_of_one ask o end (replied came had told is tells) = one_round (ask_text ask) came
rounds_of_one ask o end (broken came had none tells) = one_round (ask_text ask) came
rounds_of_one ask o end (unsent why tells) = []
rounds_of_one ask o end (no_room idle tells) = []

abbrev pub rounds_once : {texts : Texts} → {calls : Calls} → {uncalled : Type 0}
    → {desk : Address} → {asked_by : AskWords} → {json : Bool} → (o : Outputs) → (end : CommandEnd)
    → IsAskedOnce texts calls uncalled desk asked_by json o end → List Round
rounds_once o end (asked ask says is) = rounds_of_one ask o end is
rounds_once o end (without_rows fault lacks idle tells) = []

-- the rounds of a list are those that told the pages which are printed
abbrev pub rounds_asked : (texts : Texts) → (calls : Calls) → (uncalled : Type 0)
    → (desk : Address) → (asked_by : AskWords) → (json : Bool) → (o : Outputs)
    → (end : CommandEnd) → IsAskedOfDesk texts calls uncalled desk asked_by json o end
    → List Round
rounds_asked texts calls uncalled desk (ask_words.List list) json o end (leaves, listed) =
    listed.rounds
rounds_asked texts calls uncalled desk ask_words.Export json o end (leaves, listed) =
    listed.rounds
rounds_asked texts calls uncalled desk asked_by json o end is = rounds_once o end is

-- so of a command that asked an office
abbrev pub AsksAt : {S D R W : Type 0} → (store : Ghosts S) → (m : Machine D R W)
    → (place : Place) → (asked_by : AskWords) → (json : Bool) → (o : Outputs)
    → (end : CommandEnd) → IsOfficeAsked store m place asked_by json o end → AskWords
    → List Round → Type 0
AsksAt store m (Desk desk) asked_by json o end (untouched, shut, done) ask rounds =
    (ask ≡ asked_by) × (rounds
    ≡ rounds_asked m.texts m.loop.calls m.loop.leaves desk asked_by json o end done)
AsksAt store m place asked_by json o end done ask rounds = ⊥

-- a command asked a desk this, and these were its rounds
abbrev pub AsksIn : {S D R W : Type 0} → (store : Ghosts S) → (m : Machine D R W)
    → (it : Asked) → (o : Outputs) → (end : CommandEnd) → IsCarriedOut store m it o end
    → AskWords → List Round → Type 0
AsksIn store m (Office it) o end done ask rounds =
    AsksAt store m it.place it.ask it.json o end done ask rounds
AsksIn store m it o end done ask rounds = ⊥

abbrev pub AsksDeskSo : {S D R W : Type 0} → {store : Ghosts S} → {m : Machine D R W}
    → (words : List Text) → (o : Outputs) → (end : CommandEnd)
    → IsProgramRun store m words o end → AskWords → List Round → Type 0
AsksDeskSo {store = store} {m = m} words o end (answered it for done) ask rounds =
    AsksIn store m it o end done ask rounds
AsksDeskSo words o end (bad_word idle none asks_none told) ask rounds = ⊥
AsksDeskSo words o end (explained idle kind text among some says) ask rounds = ⊥
AsksDeskSo words o end (no_room_for_words idle told) ask rounds = ⊥

-- so in a run
abbrev pub AsksDesk : {P D R W : Type 0} → (here : Here P D R W) → ProgramRun here
    → AskWords → List Round → Type 0
AsksDesk here run ask rounds = AsksDeskSo run.words run.o run.end run.ran ask rounds

-- the words ask a desk to sell this order
abbrev pub WordsSellAtDesk : List Text → Order → Type 0
WordsSellAtDesk words order = (it : OfficeWords) × AskFor words (Office it)
    × ((desk : Address) × (it.place ≡ Desk desk)) × (it.ask ≡ selling order)

-- ---- what it printed

-- What a command printed of a desk: a reply; or what was looked up; or the totals of a shift; or
-- pages of a list, and why no further ones; or why it printed nothing. Of each sale in it this
-- holds.
pub data PrintsOfDesk (Tells : Sale → Type 0) (o : Outputs) (end : CommandEnd) : Type 0 where
  a_reply : (reply : Result Answer Refusal) → TellsReply reply o end
      → ((s : Sale) → Contains (sales_of reply) s → Tells s) → PrintsOfDesk Tells o end
  a_find : (json : Bool) → (lookup : Lookup) → (found : Result Found Refusal)
      → TellsFound json lookup found o end
      → ((s : Sale) → Contains (sales_found found) s → Tells s) → PrintsOfDesk Tells o end
  totals : (number : ℕ) → (totals : Result Totals Refusal) → TellsTotals number totals o end
      → PrintsOfDesk Tells o end
  some_pages : (json : Bool) → (pages : List Found) → (errors : Text) → (meant : CommandEnd)
      → IsTold o (pages_text json pages) errors meant end
      → ((s : Sale) → Contains (flat_map (λ page. sales_found (Ok page)) pages) s → Tells s)
      → PrintsOfDesk Tells o end
  nothing : (errors : Text) → IsTold o [] errors Refused end → PrintsOfDesk Tells o end

-- it printed the receipt of a sale of which this holds, and nothing else; or why it printed nothing
abbrev pub PrintsSaleOrWhy : (Sold : Sale → Type 0) → Outputs → CommandEnd → Type 0
PrintsSaleOrWhy Sold o end = ((s : Sale) × PrintsSale s o end × Sold s)
    ⊎ ((errors : Text) × IsTold o [] errors Refused end)
