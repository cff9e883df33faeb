-- A run of `serve` whose door saw that a connection was written what it waits for.
use Rattle.std.proofs.Common.{◌≡◌, ◌∙◌, ℕ, ℤ, ◌<◌, ◌^◌, List, [], ◌++◌, length, Bool, true, false, Option, None, Some, Result, Ok, Err, codes, eqb, inl, inr, sym, subst}
use Rattle.std.proofs.Math.Dec.{T}
use Rattle.std.specs.Io.KnownBytes.{Appends}
use Rattle.std.specs.Cmp.Lexicographic.{pointwise}
use Rattle.clap.specs.Kinds.{IsAmong}
use Rattle.clap.specs.Walk.{Row}
use Rattle.sqlite.specs.Files.{over_files}
use Rattle.sqlite_disk.specs.declared.Disk as disk
use Rattle.sqlite_disk.specs.declared.Files.{Files}
use Rattle.sqlite_wal.specs.Recovery.{Image}
use Rattle.sts_fields.specs.Text.{Text}
use Rattle.sts_token.specs.Token.{BlockFunction}
use Rattle.book_opening.specs.declared.fault.OpenFault.{OpenFault}
use Rattle.books.specs.Keeps.{Seen}
use Rattle.command_line.specs.Asked.{ArgumentsSay, CommandAsks}
use Rattle.command_line.specs.Commands.{SaysAsk, SaysAskWords, SaysLookup, SaysRequest, SaysServe}
use Rattle.command_line.specs.Line.{command_in}
use Rattle.command_line.specs.Said.{IsArgument}
use Rattle.command_line.specs.Values.{SaysConnections}
use Rattle.command_line.specs.declared.address.Address.{Address}
use Rattle.command_line.specs.declared.asked.Asked.{Asked}
use Rattle.command_line.specs.declared.asked.Asked.TheVariants as asks
use Rattle.command_line.specs.declared.commands.serve.ServeWords.{ServeWords}
use Rattle.command_line.specs.declared.office_words.AskWords.{AskWords}
use Rattle.command_line.specs.declared.office_words.AskWords.TheVariants as office
use Rattle.asks.specs.declared.ask.Ask.{Ask}
use Rattle.asks.specs.declared.ask.Ask.TheVariants as asked_of
use Rattle.asks.specs.declared.lookup.Lookup.{Lookup}
use Rattle.conversation.specs.Exchanges.{Timed}
use Rattle.conversation.specs.Run.{IsAll, IsRun}
use Rattle.conversation.specs.declared.end.End.{End}
use Rattle.conversation.specs.declared.end.End.TheVariants.{Closed, BadMessage, ReadFault, WriteFault, Memory}
use Rattle.desk.specs.Answering.{answers_by, life_serves, message_refusal_of}
use Rattle.office_commands.specs.port.Back.{lets_go_giving}
use Rattle.office_commands.specs.declared.port.ports.OfficeFile as file
use Rattle.office_commands.specs.declared.port.ports.SaltSource as source
use Rattle.office_rules.specs.declared.decision.request.Order.{Order}
use Rattle.office_rules.specs.declared.decision.request.Request.{Request}
use Rattle.office_rules.specs.declared.decision.request.Request.TheVariants as requests
use Rattle.program_laws.specs.Courses.{Course}
use Rattle.program_laws.specs.runs.Asked.{Carries, CarriesIn, CarriesSo, RunCarries}
use Rattle.program_laws.specs.runs.Here.{Here, use_of}
use Rattle.program_laws.specs.runs.Steps.{LivesIn}
use Rattle.program_laws.specs.runs.Uses.{LivesSo, RunEnding, ends_lost, files_let_go, many_lives, use_carried, use_run, use_served, use_serving, with_file}
use Rattle.vend_commands.specs.Run.{IsCarriedOut, IsProgramRun}
use Rattle.vend_commands.specs.Run.IsProgramRun.{answered, bad_word, explained, no_room}
use Rattle.vend_commands.specs.port.Machines.{Machine, Way}
use Rattle.vend_commands.specs.serving.Connections.{AreServed, Service}
use Rattle.vend_commands.specs.serving.Listening.{IsClosedAfter, IsServing, serving_end}
use Rattle.vend_commands.specs.serving.Listening.IsServing.{unheard, unopened, was_open}
use Rattle.vend_core.specs.Law.Life.{Life}
use Rattle.vend_ports.specs.print.Sink.{Sink}
use Rattle.vend_ports.specs.print.Told.{Outputs}
use Rattle.vend_ports.specs.declared.command_end.CommandEnd.{CommandEnd}
use Rattle.vend_ports.specs.declared.command_end.CommandEnd.TheVariants.{Done, Refused}
use Rattle.program_laws.proofs.LookupLemmas.{lookup_said}
use Rattle.law_witnesses.specs.Asking.{AreOneOrder, WordsServe}
use Rattle.law_witnesses.specs.Runs.{IsRunOf}

-- two orders of the same values are one
pub same_order : (one other : Order) → AreOneOrder one other → one ≡ other
same_order one other same =
    λ i. record { operator = same.operator i; order_ref = same.order_ref i; meter = same.meter i; tender = same.tender i }

-- ---- words that ask to serve ask for nothing else

abbrev IsServe : Text → Type 0
IsServe name = T (pointwise eqb name (codes "serve"))

no_request : (rows : List Row) (r : Request) → ¬ SaysRequest (codes "serve") rows r
no_request rows (requests.Sell order) says = subst IsServe says.0 tt
no_request rows (requests.SetTariff meter tariff) says = subst IsServe says.0 tt
no_request rows (requests.WithdrawSteps tariff from) says = subst IsServe says.0 tt
no_request rows (requests.MoveBase meter base) says = subst IsServe says.0 tt
no_request rows (requests.SetKey meter key) says = subst IsServe says.0 tt
no_request rows (requests.OpenShift operator) says = subst IsServe says.0 tt
no_request rows (requests.CloseShift operator) says = subst IsServe says.0 tt
no_request rows (requests.ShiftReport number) says = subst IsServe says.0 tt
no_request rows request says = says

no_lookup : (rows : List Row) (l : Lookup) → ¬ SaysLookup (codes "serve") rows l
no_lookup rows lookup says = elim ((lookup_said (codes "serve") rows lookup says).named) [
  | inl shows ↦ subst IsServe shows tt
  | inr (inl offers) ↦ subst IsServe offers tt
  | inr (inr totals) ↦ subst IsServe totals.0 tt
]

no_ask : (rows : List Row) (ask : Ask) → ¬ SaysAsk (codes "serve") rows ask
no_ask rows (asked_of.Import kind csv) says = says
no_ask rows (asked_of.Do request) says = no_request rows request says
no_ask rows (asked_of.Receipt number) says = subst IsServe says.0 tt
no_ask rows (asked_of.Look lookup) says = no_lookup rows lookup says

no_words : (rows : List Row) (words : AskWords) → ¬ SaysAskWords (codes "serve") rows words
no_words rows (office.Import kind csv) says = subst IsServe says.0 tt
no_words rows (office.Ask ask) says = no_ask rows ask says
no_words rows (office.List lookup) says = subst IsServe says.0 tt
no_words rows office.Export says = subst IsServe says.0 tt

-- it is asked to serve so many connections
abbrev Serves : ℕ → Asked → Type 0
Serves count (asks.Serve words) = words.connections ≡ count
Serves count it = ⊥

-- an argument says one number of connections
one_count : (x : Option Text) (m n : ℕ) → IsArgument SaysConnections x m → IsArgument SaysConnections x n → n ≡ m
one_count None m n a b = absurd a
one_count (Some text) m n a b = sym b.0.1 ∙ a.0.1

serves : (rows : List Row) (words : ServeWords) (it : Asked) → SaysServe rows words → ArgumentsSay (codes "serve") rows it → Serves words.connections it
serves rows words (asks.Serve other) one says = one_count _ words.connections other.connections one.connections says.1.connections
serves rows words (asks.Office other) one says = absurd (no_words rows other.ask says.ask)
serves rows words (asks.Trial other) one says = absurd (subst IsServe says.0 tt)
serves rows words (asks.Meter other) one says = absurd (subst IsServe says.0 tt)
serves rows words (asks.Quote other) one says = absurd (subst IsServe says.0 tt)
serves rows words (asks.Selfcheck other) one says = absurd (subst IsServe says.0 tt)
serves rows words (asks.Audit other) one says = absurd (subst IsServe says.0 tt)

serving_said : (found : Option (Text × List Row)) (words : ServeWords) (it : Asked) → CommandAsks found (asks.Serve words) → CommandAsks found it
    → Serves words.connections it
serving_said None words it one says = absurd one
serving_said (Some (name, rows)) words it one says =
    let Say : Text → Type 0 = λ n. ArgumentsSay n rows it in
    serves rows words it one.1.1 (subst Say one.1.0 says.1)

-- ---- what a connection carried

-- what a caller has who sent this and was sent that
pub record HasCarried (read wrote sent came : List ℕ) : Type 0 where
  pub later : List ℕ
  pub reads : read ≡ sent ++ later
  pub behind : List ℕ
  pub writes : wrote ≡ came ++ behind
  pub few : length wrote < 2 ^ 64

carries_of : (read input wrote text sent came : List ℕ) → read ≡ input → text ≡ wrote → HasCarried read wrote sent came → Carries input text text sent came
carries_of read input wrote text sent came same is it =
    let Few : List ℕ → Type 0 = λ bytes. length bytes < 2 ^ 64 in
    record {
      later = it.later;
      reads = sym same ∙ it.reads;
      behind = it.behind;
      writes = is ∙ it.writes;
      few = subst Few (sym is) it.few;
    }

-- a conversation that was said whole, over a reader of which all is known, and by which all that was written is known
closed_carries : (old new : Timed Life) (unread left held holds : Option (List ℕ)) (end : End)
    (run : IsRun (answers_by life_serves) message_refusal_of old new unread left held holds end) (read wrote sent came : List ℕ) → end ≡ Closed
    → unread ≡ Some read → held ≡ Some [] → holds ≡ Some wrote → HasCarried read wrote sent came
    → RunCarries old new unread left held holds end run sent came
closed_carries old new unread left held holds Closed (input, all, inl (expects, said)) read wrote sent came is was none has carried =
    let Input : Option (List ℕ) → Type 0 = λ u. IsAll u input in
    let Begins : Option (List ℕ) → Type 0 = λ h. Appends h holds said.text in
    let Ends : Option (List ℕ) → Type 0 = λ h. Appends (Some []) h said.text in
    let same : read ≡ input = subst Input was all in
    let text : wrote ≡ said.text = subst Ends has (subst Begins none said.written) in
    carries_of read input wrote said.text sent came same (sym text) carried
closed_carries old new unread left held holds Closed (input, all, inr said) read wrote sent came is was none has carried =
    let Input : Option (List ℕ) → Type 0 = λ u. IsAll u input in
    let Begins : Option (List ℕ) → Type 0 = λ h. Appends h holds said.text in
    let Ends : Option (List ℕ) → Type 0 = λ h. Appends (Some []) h said.text in
    let same : read ≡ input = subst Input was all in
    let text : wrote ≡ said.text = subst Ends has (subst Begins none said.written) in
    carries_of read input wrote said.text sent came same (sym text) carried
closed_carries old new unread left held holds BadMessage run read wrote sent came is was none has carried = absurd (cc)
closed_carries old new unread left held holds ReadFault run read wrote sent came is was none has carried = absurd (cc)
closed_carries old new unread left held holds WriteFault run read wrote sent came is was none has carried = absurd (cc)
closed_carries old new unread left held holds Memory run read wrote sent came is was none has carried = absurd (cc)

-- ---- the first of two connections

module _ {D R W : Type 0} (way : Way D R W) (sent came : List ℕ) where
  -- Where two connections come in by the door, one after another, the conversation of the first was said whole, over all that it sent, and
  -- wrote what carries that.
  pub record SeesFirst (door : D) : Type 0 where
    pub sees : (reader : R) (writer : W) (line : way.Line) (holding : D) (read : R) (written : W) (used : way.Line) (end : End) (between : D)
        (next : R) (other : W) (second : way.Line) (last : D)
        → way.accepts door reader writer line holding → way.ends holding read written used end between → way.accepts between next other second last
        → (end ≡ Closed) × (way.contents writer ≡ Some [])
        × ((all wrote : List ℕ) × (way.remaining reader ≡ Some all) × (way.contents written ≡ Some wrote) × HasCarried all wrote sent came)

  two_carry : (forward : BlockFunction) (door : D) (answers : Option (List ℤ)) (last_door : D) (left : Option (List ℤ)) → SeesFirst door
      → (before lives : List Life) (lived : LivesSo (many_lives way forward 2 door answers last_door left) before lives)
      → CarriesSo (many_lives way forward 2 door answers last_door left) before lives lived sent came
  two_carry forward door answers last_door left first before lives
      (office, last, next, (mid, (start, same, (one, is, goes)), (two, is_two, later)), follows, all) =
      let Accepts : Service D Course → Type 0 = λ s. way.accepts s.door goes.reader goes.writer goes.line goes.held in
      let seen = first.sees goes.reader goes.writer goes.line goes.held goes.read goes.written goes.used goes.end mid.door later.reader later.writer later.line
      later.held (subst Accepts same goes.accepted) goes.ended later.accepted in
      inl (inr (closed_carries (one.life, start.answers) (mid.books.life, mid.answers) _ _ _ _ goes.end goes.run seen.2.0 seen.2.1 sent came seen.0 seen.2.2
      seen.1 seen.2.3 seen.2.4))

  many_carry : (forward : BlockFunction) (count : ℕ) → count ≡ 2 → (door : D) (answers : Option (List ℤ)) (last_door : D) (left : Option (List ℤ))
      → SeesFirst door → (before lives : List Life) (lived : LivesSo (many_lives way forward count door answers last_door left) before lives)
      → CarriesSo (many_lives way forward count door answers last_door left) before lives lived sent came
  many_carry forward count two door answers last_door left first before lives =
      let Carry : ℕ → Type 0 = λ n. (lived : LivesSo (many_lives way forward n door answers last_door left) before lives)
      → CarriesSo (many_lives way forward n door answers last_door left) before lives lived sent came in
      subst Carry (sym two) (two_carry forward door answers last_door left first before lives)

  module _ {M B : Type 0} {g : disk.Ghosts M} (gives : ℤ → Type 0) (forward : BlockFunction) (see : B → Seen) (loses : Seen → OpenFault → Type 0)
      (ends : (old : Seen) (fault : OpenFault) → loses old fault → RunEnding g) (closes : Seen → Type 0)
      (shut : (books : Seen) → closes books → Files M) where
    served_carry : (wanted : ℕ) → wanted ≡ 2 → (old : Service D B) (door : D) (answers : Option (List ℤ)) (printed : Text) (image : Image)
        (served : Result (B × Bool) OpenFault) (are : AreServed way gives forward see loses wanted old door answers served printed)
        (closed : IsClosedAfter (λ books. closes (see books)) served) → Done ≡ serving_end served → SeesFirst old.door → (before lives : List Life)
        (lived : LivesIn (use_served way gives forward see loses ends closes shut wanted old door answers printed image served are closed) before lives)
        → CarriesIn (use_served way gives forward see loses ends closes shut wanted old door answers printed image served are closed) before lives lived sent came
    served_carry wanted two old door answers printed image (Ok (books, true)) are closed done first before lives lived =
        many_carry forward wanted two old.door old.answers door answers first before lives lived
    served_carry wanted two old door answers printed image (Ok (books, false)) are closed done first before lives lived = absurd (cc)
    served_carry wanted two old door answers printed image (Err fault) are closed done first before lives lived = absurd (cc)

-- ---- a run

module _ {M S H D R W : Type 0} (disk : disk.Ghosts M) (salts : source.Ghosts S) (of : file.Ghosts H M S) (office : H) (back : Option (M × M))
    (m : Machine D R W) (sent came : List ℕ) where
  -- the door of this machine sees that, wherever it listens
  abbrev pub SeesWherever : Type 0
  SeesWherever = (address : Address) (port : ℕ) (door : D) → m.way.listens m.door address port door → SeesFirst m.way sent came door

  abbrev here : Machine D R W
  here = with_file disk salts of office back m

  serving_carries : SeesWherever → (words : ServeWords) → words.connections ≡ 2 → (err_old err_new : Sink) (end : CommandEnd) → end ≡ Done
      → (is : IsServing (over_files {g = disk}) m.way here.at m.door m.clock words err_old err_new end) (before lives : List Life)
      (lived : LivesIn (use_serving disk salts of office back m words err_old err_new end is) before lives)
      → CarriesIn (use_serving disk salts of office back m words err_old err_new end is) before lives lived sent came
  serving_carries sees words two err_old err_new end done (unopened fault fails leaves told refused) before lives lived = absurd (cc)
  serving_carries sees words two err_old err_new end done (unheard old opens finds last deaf leaves closes refused) before lives lived = absurd (cc)
  serving_carries sees words two err_old err_new end done (was_open old opens finds were) before lives lived =
      served_carry m.way sent came _ _ _ _ (ends_lost {disk = disk} {salts = salts} {lets_go = lets_go_giving of back false}) _
      (files_let_go disk salts of office back m) words.connections two _ were.last were.left were.printed _ were.served were.are_served were.closed
      (sym done ∙ were.ends)
      (sees words.listen were.listens.port were.listening were.listens.listens) before lives lived

  carried_carries : SeesWherever → (it : Asked) → Serves 2 it → (o : Outputs) (end : CommandEnd) → end ≡ Done
      → (is : IsCarriedOut (over_files {g = disk}) here it o end) (before lives : List Life)
      (lived : LivesIn (use_carried disk salts of office back m it o end is) before lives)
      → CarriesIn (use_carried disk salts of office back m it o end is) before lives lived sent came
  carried_carries sees (asks.Serve words) two o end done (left, (silent, is)) before lives lived =
      serving_carries sees words two o.err_old o.err_new end done is before lives lived
  carried_carries sees it none o end done is before lives lived = absurd none

  run_carries : SeesWherever → (words : List Text) → WordsServe words 2 → (o : Outputs) (end : CommandEnd) → end ≡ Done
      → (is : IsProgramRun (over_files {g = disk}) here words o end) (before lives : List Life)
      (lived : LivesIn (use_run disk salts of office back m words o end is) before lives)
      → CarriesIn (use_run disk salts of office back m words o end is) before lives lived sent came
  run_carries sees words says o end done (answered it for is) before lives lived =
      let Two : ℕ → Type 0 = λ n. Serves n it in
      carried_carries sees it (subst Two says.2 (serving_said (command_in words) says.0 it says.1.asks for.asks)) o end done is before lives lived
  run_carries sees words says o end done (bad_word idle none asks_none told) before lives lived = absurd (asks_none (asks.Serve says.0) says.1)
  run_carries sees words says o end done (explained idle kind text among some explains) before lives lived =
      absurd (subst (IsAmong kind) says.1.no_fault among)
  run_carries sees words says o end done (no_room idle told) before lives lived = absurd (let refused : end ≡ Refused = told.2 in cc)

module _ {P D R W : Type 0} (here : Here P D R W) {ports : P} {words : List Text} {end : CommandEnd} {back : Option (here.M × here.M)}
    {printed : List ℕ} (it : IsRunOf here ports words end back printed) where
  -- A run of `serve` for two connections that ended as done carried this on the first, along whatever lives, where its door sees that.
  pub carries_first : (sent came : List ℕ)
      → ((address : Address) (port : ℕ) (door : D) → (here.rest ports back).way.listens (here.rest ports back).door address port door
      → SeesFirst (here.rest ports back).way sent came door)
      → WordsServe words 2 → end ≡ Done → (before lives : List Life) (lived : LivesIn (use_of here it.run) before lives)
      → CarriesIn (use_of here it.run) before lives lived sent came
  carries_first sent came sees says done before lives lived =
      let Sees : P → Option (here.M × here.M) → Type 0 =
      λ p b. (address : Address) (port : ℕ) (door : D) → (here.rest p b).way.listens (here.rest p b).door address port door
      → SeesFirst (here.rest p b).way sent came door in
      let OfPorts : P → Type 0 = λ p. Sees p it.run.back in
      let OfBack : Option (here.M × here.M) → Type 0 = λ b. Sees ports b in
      let Says : List Text → Type 0 = λ ws. WordsServe ws 2 in
      run_carries here.disk here.salts here.of (here.office it.run.ports) it.run.back (here.rest it.run.ports it.run.back) sent came
      (subst OfPorts (sym it.with_ports) (subst OfBack (sym it.gave) sees)) it.run.words (subst Says (sym it.by_words) says) it.run.o it.run.end
      (it.ended ∙ done) it.run.ran before lives lived
