-- What a run made of the file, whatever its words ask for.
use Rattle.std.proofs.Common.{◌≡◌, ℕ, Bool, true, false, List, [], Option, Some, None, Result, Ok, Err, inl, inr, refl, subst, sym, arith}
use Rattle.std.specs.Prelude.{option_map}
use Rattle.std.proofs.Math.Logic.{∥∥₁_map}
use Rattle.sqlite.specs.Files.{file_state, over_files}
use Rattle.sqlite.specs.Held.{Held}
use Rattle.sqlite.specs.State.{HasCleanDisk, IsLive, Opens}
use Rattle.sqlite_disk.specs.declared.Disk as disk
use Rattle.sqlite_disk.specs.declared.Files.{Files}
use Rattle.sqlite_store.specs.declared.store.FileStore.{FileStore}
use Rattle.sqlite_wal.proofs.LogLemmas.{SeenMayStay}
use Rattle.sqlite_wal.specs.Reads.{AreClean}
use Rattle.sqlite_wal.specs.Recovery.{Image}
use Rattle.sts_fields.specs.Text.{Text}
use Rattle.vend_core.specs.Law.Life.{Life}
use Rattle.office_rules.specs.Office.{Office}
use Rattle.office_rules.specs.declared.decision.request.Request.{Request}
use Rattle.office_rules.specs.declared.decision.request.Request.TheVariants as requests
use Rattle.office_rules.specs.declared.office.row.Row.{Row}
use Rattle.papers.specs.declared.file_kind.FileKind.{FileKind}
use Rattle.papers.specs.declared.row_fault.RowFault.{RowFault}
use Rattle.asks.specs.declared.ask.Ask.{Ask}
use Rattle.asks.specs.declared.ask.Ask.TheVariants as asks
use Rattle.asks.specs.declared.lookup.Lookup.{Lookup}
use Rattle.asks.specs.declared.lookup.Lookup.TheVariants as lookups
use Rattle.book_opening.specs.declared.fault.OpenFault.{OpenFault}
use Rattle.books.specs.Found.{FindsOffice}
use Rattle.books.specs.Keeps.{Seen, StoreStandsFor}
use Rattle.command_line.specs.Transform.{forward_of}
use Rattle.command_line.specs.declared.asked.Asked.{Asked}
use Rattle.command_line.specs.declared.asked.Asked.TheVariants as asked_for
use Rattle.command_line.specs.declared.commands.audit.AuditWords.{AuditWords}
use Rattle.command_line.specs.declared.commands.serve.ServeWords.{ServeWords}
use Rattle.command_line.specs.declared.office_words.AskWords.{AskWords}
use Rattle.command_line.specs.declared.office_words.AskWords.TheVariants as ask_words
use Rattle.command_line.specs.declared.place.FilePlace.{FilePlace}
use Rattle.command_line.specs.declared.place.Place.{Place as AskedPlace}
use Rattle.command_line.specs.declared.place.Place.TheVariants.{Desk, File}
use Rattle.command_line.specs.declared.transform.Shipped.{Shipped}
use Rattle.vend_commands.specs.Run.{IsCarriedOut, IsOfficeAsked, IsProgramRun}
use Rattle.vend_commands.specs.Run.IsProgramRun.{answered, bad_word, explained, no_room}
use Rattle.office_commands.specs.commands.Asked.{IsAskedAt}
use Rattle.office_commands.specs.commands.Audited.{IsAudited}
use Rattle.office_commands.specs.commands.Audited.IsAudited.{absent as audit_absent, looked as audit_looked, unopened as audit_unopened, vacant as audit_vacant}
use Rattle.office_commands.specs.commands.AtFile.{IsAskedOfFile, IsFoundInFile, IsOneAskedOfFile, IsRequestedOfFile}
use Rattle.office_commands.specs.commands.Imported.{AreAdded, IsFileImported, IsImported}
use Rattle.office_commands.specs.commands.LookedUp.{IsShown, IsShownAt}
use Rattle.office_commands.specs.commands.LookedUp.IsShownAt.{absent as shown_absent, present as shown_present, vacant as shown_vacant}
use Rattle.office_commands.specs.commands.Reported.{IsReported}
use Rattle.office_commands.specs.commands.Reported.IsReported.{absent as report_absent, present as report_present, vacant as report_vacant}
use Rattle.office_commands.specs.office.Closed.{IsClosed}
use Rattle.office_commands.specs.office.Lost.{LosesNothing}
use Rattle.office_commands.specs.office.Visited.{seen_in}
use Rattle.office_commands.specs.port.Back.{lets_go_giving}
use Rattle.office_commands.specs.port.Places.{where_present}
use Rattle.office_commands.specs.declared.office.paper.Paper.{Paper}
use Rattle.office_commands.specs.declared.office.paper.Paper.TheVariants.{Receipt, Sales, Shift, Totals}
use Rattle.office_commands.specs.declared.port.ports.OfficeFile as office_files
use Rattle.office_commands.specs.declared.port.ports.SaltSource as source
use Rattle.vend_commands.specs.port.Machines.{Machine}
use Rattle.vend_commands.specs.serving.Connections.{service}
use Rattle.vend_commands.specs.serving.Listening.{IsServing}
use Rattle.vend_commands.specs.serving.Listening.IsServing.{unheard as serve_unheard, unopened as serve_unopened, was_open as serve_open}
use Rattle.vend_ports.specs.commands.Timed.{IsTimed}
use Rattle.vend_ports.specs.print.Sink.{Sink}
use Rattle.vend_ports.specs.print.Told.{Outputs}
use Rattle.vend_ports.specs.declared.command_end.CommandEnd.{CommandEnd}
use Rattle.program_laws.specs.runs.Files.{IsLeftBy}
use Rattle.program_laws.specs.runs.Here.{HoldsSo}
use Rattle.program_laws.specs.runs.Readings.{empty_reading, reading_of}
use Rattle.program_laws.specs.runs.Words.{AskRequests, AskWordsRequest, AsksFile, Requests, WordsRequest}
use Rattle.program_laws.specs.runs.Uses.{RunUse, ends_lost, files_let_go, lives_asking, lives_empty, lives_printing, no_life, reading_life, use_added, use_asked, use_audited, use_carried, use_found, use_imported, use_of_file, use_of_office, use_one, use_refused, use_reported, use_requested, use_rows, use_run, use_serving, use_shown, use_shown_at, use_timed, unseen, with_file}
use Rattle.program_laws.proofs.RunsLemmas.CleanLemmas.{shut_clean}
use Rattle.program_laws.proofs.RunsLemmas.KeptLemmas.{Laws, none_more}
use Rattle.program_laws.proofs.RunsLemmas.LeftLemmas.{lost_none, lost_state}
use Rattle.program_laws.proofs.RunsLemmas.MadeLemmas.{GivesBack, IsMade, Reports, closed_gives, unseen_made}
use Rattle.program_laws.proofs.RunsLemmas.ServedLemmas.{served_made}
use Rattle.program_laws.proofs.RunsLemmas.VacantLemmas.{empty_tells, measured_so, not_lived, paper_empty, reading_empty, vacant_made}
use Rattle.program_laws.proofs.RunsLemmas.VisitLemmas.{asked_on, asked_tells, idle_on, looked_on, printed_on, printed_tells, refused_made, visited_made}

module _ {start : Office} (laws : Laws start) (Before : Image → Type 0) (lives : List Life) {M S H D R W : Type 0} (disk : disk.Ghosts M)
    (salts : source.Ghosts S) (of : office_files.Ghosts H M S) (office : H) (back : Option (M × M)) (m : Machine D R W)
    (opens : (c : Held (FileStore M disk)) (o : Office) → Opens (file_state c) → IsLive (file_state c)
    → FindsOffice (file_state c).committed.trees o → StoreStandsFor (file_state c) o) (loses : LosesNothing disk) (stays : SeenMayStay disk) where
  abbrev here : Machine D R W
  here = with_file disk salts of office back m

  abbrev Holds : Type 0
  Holds = HoldsSo disk of office Before

  -- what is asked is wanted
  module _ (Wants : Request → Type 0) where
    -- what is known of what this run made
    abbrev Made : Outputs → CommandEnd → RunUse disk → Type 0
    Made o end made = IsMade start Before lives Holds back Wants o end made

    nothing_made : (o : Outputs) (end : CommandEnd) → back ≡ None → Made o end unseen
    nothing_made o end none = unseen_made start Before lives Holds back Wants o end none

    -- what is given back as books are closed
    books_give : (books : Seen) → IsClosed disk (lets_go_giving of back) books → GivesBack disk back (IsLeftBy books.state)
    books_give books closes = closed_gives stays of back books.state closes

    -- the files that are let go then; if these are clean, the disk of the books was
    abbrev shut_files : (books : Seen) → IsClosed disk (lets_go_giving of back) books → Files M
    shut_files = files_let_go disk salts of office back m

    books_clean : (books : Seen) (closes : IsClosed disk (lets_go_giving of back) books)
        → AreClean disk (shut_files books closes).log (shut_files books closes).db → HasCleanDisk books.state
    books_clean books closes clean = shut_clean closes clean

    -- where no office was opened in what was found, or met
    unopened_made : (path : Text) (wait : ℕ) (fault : OpenFault) (why : (here.at path wait).fails fault) (o : Outputs) (end : CommandEnd)
        → Made o end (use_refused fault why)
    unopened_made path wait fault why o end = refused_made laws Before lives Holds back Wants o end
        (λ holds found finds. (holds path wait found (inl finds)).0) (λ fault fails. fails.1) (λ log db gone. gone.1) fault why

    unmet_made : (path : Text) (wait : ℕ) (fault : OpenFault) (why : (here.at path wait).refuses fault) (o : Outputs) (end : CommandEnd)
        → Made o end (use_refused fault why)
    unmet_made path wait fault why o end = refused_made laws Before lives Holds back Wants o end
        (λ holds files measured. measured_so disk Before (of.meets office path wait) (λ found meets. (holds path wait found (inr meets)).0) files measured)
        (λ fault fails. fails.1) (λ log db gone. gone.1) fault why

    -- the file holds at its path what its ports can find, or meet
    found_image : (path : Text) (wait : ℕ) → Holds → (here.at path wait).finds → Before (of.image office path)
    found_image path wait holds (log, db, finds) = (holds path wait (record { log = log; db = db }) (inl finds)).1

    met_image : (path : Text) (wait : ℕ) → Holds → (here.at path wait).meets → Before (of.image office path)
    met_image path wait holds (log, db, meets) = (holds path wait (record { log = log; db = db }) (inr meets)).1

    asking_made : (transform : Shipped) (path : Text) (wait moment : ℕ) (request : Request) → Wants request → (o : Outputs) (end : CommandEnd)
        (asks : IsAskedAt (over_files {g = disk}) here.at transform path wait moment request o end)
        → Made o end (use_asked disk salts of office back m transform path wait moment request o end asks)
    asking_made transform path wait moment request wants o end asks =
        visited_made laws Before lives Holds back Wants o end (here.at path wait) _ use_refused
        (lives_asking transform moment request o end) shut_files (λ fault why. unopened_made path wait fault why o end) (found_image path wait) books_give
        books_clean (asked_on laws lives (here.at path wait) moment request o end) (asked_tells Wants transform moment request wants o end) asks

    module _ (file : FilePlace) where
      -- what is done at a moment, or nothing
      timed_made : (Idle : Type 0) (At : ℕ → Type 0) (o : Outputs) (end : CommandEnd) (made : (moment : ℕ) → At moment → RunUse disk)
          → (Idle → back ≡ None) → ((moment : ℕ) (it : At moment) → Made o end (made moment it)) → (done : IsTimed Idle file.at m.clock At o end)
          → Made o end (use_timed Idle file.at m.clock At o end made done)
      timed_made Idle At o end made none each (Some moment, taken, done) = each moment done
      timed_made Idle At o end made none each (None, taken, idle) = nothing_made o end (none idle.0)

      module _ (wants : (rows : List Row) → Wants (requests.Import rows)) where
        adding_made : (moment : ℕ) (rows : Result (List Row) RowFault) (o : Outputs) (end : CommandEnd)
            (added : AreAdded (over_files {g = disk}) here.at here.untouched file moment rows o end)
            → Made o end (use_added disk salts of office back m file moment rows o end added)
        adding_made moment (Ok rows) o end added =
            asking_made file.transform file.path.now file.wait moment (requests.Import rows) (wants rows) o end added
        adding_made moment (Err fault) o end told = nothing_made o end told.0.1

        rows_made : (kind : FileKind) (moment : ℕ) (bytes : List ℕ) (o : Outputs) (end : CommandEnd)
            (imported : IsImported (over_files {g = disk}) here.at here.untouched file kind moment bytes o end)
            → Made o end (use_rows disk salts of office back m file kind moment bytes o end imported)
        rows_made kind moment bytes o end (records, rows, are, reading, added) = adding_made moment rows o end added

        importing_made : (kind : FileKind) (csv : Text) (moment : ℕ) (o : Outputs) (end : CommandEnd)
            (imported : IsFileImported (over_files {g = disk}) here.at here.untouched m.texts file kind csv moment o end)
            → Made o end (use_imported disk salts of office back m file kind csv moment o end imported)
        importing_made kind csv moment o end (inl (bytes, reads, imported)) = rows_made kind moment bytes o end imported
        importing_made kind csv moment o end (inr (fault, lacks, untouched, told)) = nothing_made o end untouched.1

      reporting_made : (paper : Paper) → ((r : Request) → Reports paper r → Wants r) → (o : Outputs) (end : CommandEnd)
          (reported : IsReported (over_files {g = disk}) here.at file paper o end)
          → Made o end (use_reported disk salts of office back m file paper o end reported)
      reporting_made paper wants o end (report_absent misses told) = nothing_made o end misses.1
      reporting_made paper wants o end (report_vacant (meets, vacant) printed) =
          let path = file.path.now in
          vacant_made laws Before lives opens Holds back Wants o end (of.image office path) (λ holds. met_image path file.wait holds meets)
          (λ log db gone. gone.1) (lives_empty paper o end printed) (paper_empty laws lives paper o end printed)
          (empty_tells Wants paper wants o end printed) vacant
      reporting_made paper wants o end (report_present visit) =
          let path = file.path.now in
          visited_made laws Before lives Holds back Wants o end (where_present (here.at path file.wait)) _ use_refused
          (lives_printing paper o end) shut_files (λ fault why. unmet_made path file.wait fault why o end)
          (met_image path file.wait) books_give books_clean (printed_on laws lives (where_present (here.at path file.wait)) paper o end)
          (printed_tells Wants paper wants o end) visit

      shown_made : (path : Text) (wait moment : ℕ) (paged : Bool) (lookup : Lookup) (json : Bool) (o : Outputs) (end : CommandEnd)
          (shown : IsShownAt (over_files {g = disk}) here.at path wait moment paged lookup json o end)
          → Made o end (use_shown_at disk salts of office back m path wait moment paged lookup json o end shown)
      shown_made path wait moment paged lookup json o end (shown_absent misses told) = nothing_made o end misses.1
      shown_made path wait moment paged lookup json o end (shown_vacant (meets, vacant) read) =
          vacant_made laws Before lives opens Holds back Wants o end (of.image office path) (λ holds. met_image path wait holds meets)
          (λ log db gone. gone.1) (reading_life moment (empty_reading moment paged lookup json o end read))
          (reading_empty laws lives moment paged lookup json o end read) (λ q asks. absurd asks) vacant
      shown_made path wait moment paged lookup json o end (shown_present visit) =
          visited_made laws Before lives Holds back Wants o end (where_present (here.at path wait)) _ use_refused
          (λ old new done. reading_life moment (reading_of moment paged lookup json old new o end done)) shut_files
          (λ fault why. unmet_made path wait fault why o end) (met_image path wait) books_give books_clean
          (looked_on laws lives (where_present (here.at path wait)) moment paged lookup json o end) (λ old new done q asks. absurd asks) visit

      showing_made : (paged : Bool) (lookup : Lookup) (json : Bool) (o : Outputs) (end : CommandEnd)
          (shown : IsShown (over_files {g = disk}) here.at here.untouched m.clock file paged lookup json o end)
          → Made o end (use_shown disk salts of office back m file paged lookup json o end shown)
      showing_made paged lookup json o end shown =
          timed_made here.untouched _ o end (λ at it. use_shown_at disk salts of office back m file.path.now file.wait at paged lookup json o end it)
          (λ idle. idle.1) (λ at it. shown_made file.path.now file.wait at paged lookup json o end it) shown

      -- a request at a moment
      requesting_made : (request : Request) → Wants request → (o : Outputs) (end : CommandEnd)
          (done : IsTimed here.untouched file.at m.clock
          (λ at. IsAskedAt (over_files {g = disk}) here.at file.transform file.path.now file.wait at request o end) o end)
          → Made o end (use_timed here.untouched file.at m.clock _ o end
          (λ at it. use_asked disk salts of office back m file.transform file.path.now file.wait at request o end it) done)
      requesting_made request wants o end done =
          timed_made here.untouched _ o end (λ at it. use_asked disk salts of office back m file.transform file.path.now file.wait at request o end it)
          (λ idle. idle.1) (λ at it. asking_made file.transform file.path.now file.wait at request wants o end it) done

      requested_made : (request : Request) → Wants request → (o : Outputs) (end : CommandEnd)
          (done : IsRequestedOfFile (over_files {g = disk}) here.at here.untouched m.clock file request o end)
          → Made o end (use_requested disk salts of office back m file request o end done)
      requested_made (requests.ShiftReport number) wants o end done =
          reporting_made (Shift number) (λ r is. subst Wants (sym is) wants) o end done
      requested_made request wants o end done = requesting_made request wants o end done

      found_made : (lookup : Lookup) (json : Bool) (o : Outputs) (end : CommandEnd)
          (done : IsFoundInFile (over_files {g = disk}) here.at here.untouched m.clock file lookup json o end)
          → Made o end (use_found disk salts of office back m file lookup json o end done)
      found_made (lookups.ShiftTotals number) json o end done = reporting_made (Totals number) (λ r none. absurd none) o end done
      found_made lookup json o end done = showing_made false lookup json o end done

      one_made : (ask : Ask) → ((r : Request) → AskRequests ask r → Wants r) → (json : Bool) (o : Outputs) (end : CommandEnd)
          (done : IsOneAskedOfFile (over_files {g = disk}) here.at here.untouched m.clock file ask json o end)
          → Made o end (use_one disk salts of office back m file ask json o end done)
      one_made (asks.Import kind bytes) wants json o end done =
          timed_made here.untouched _ o end (λ at it. use_rows disk salts of office back m file kind at bytes o end it) (λ idle. idle.1)
          (λ at it. rows_made (λ rows. wants (requests.Import rows) (rows, refl)) kind at bytes o end it) done
      one_made (asks.Do request) wants json o end done = requested_made request (wants request refl) o end done
      one_made (asks.Receipt number) wants json o end done = reporting_made (Receipt number) wants o end done
      one_made (asks.Look lookup) wants json o end done = found_made lookup json o end done

      asked_made : (ask : AskWords) → ((r : Request) → AskWordsRequest ask r → Wants r) → (json : Bool) (o : Outputs) (end : CommandEnd)
          (done : IsAskedOfFile (over_files {g = disk}) here.at here.untouched m.texts m.clock file ask json o end)
          → Made o end (use_of_file disk salts of office back m file ask json o end done)
      asked_made (ask_words.Import kind csv) wants json o end done =
          timed_made (here.untouched × m.texts.leaves) _ o end (λ at it. use_imported disk salts of office back m file kind csv.now at o end it)
          (λ idle. idle.0.1) (λ at it. importing_made (λ rows. wants (requests.Import rows) (rows, refl)) kind csv.now at o end it) done
      asked_made (ask_words.Ask ask) wants json o end (unread, done) = one_made ask wants json o end done
      asked_made (ask_words.List list) wants json o end (unread, done) = showing_made true list json o end done
      asked_made ask_words.Export wants json o end (unread, done) = reporting_made Sales (λ r none. absurd none) o end done

    audited_made : (words : AuditWords) (o : Outputs) (end : CommandEnd)
        (audited : IsAudited (here.at words.file.now words.wait) (option_map forward_of words.transform) o end)
        → Made o end (use_audited disk salts of office back m words o end audited)
    audited_made words o end (audit_absent misses told) = nothing_made o end misses.1
    audited_made words o end (audit_unopened fault why told) = unmet_made words.file.now words.wait fault why o end
    audited_made words o end (audit_vacant (meets, vacant) told) =
        vacant_made laws Before lives opens Holds back Wants o end (of.image office words.file.now)
        (λ holds. met_image words.file.now words.wait holds meets) (λ log db gone. gone.1) no_life (not_lived laws lives) (λ q asks. absurd asks) vacant
    audited_made words o end (audit_looked answer meets audit told) =
        let last = file_state audit.last in
        record {
          goes = λ found clean kept. ∥∥₁_map (kept.left (of.image office words.file.now) found) (λ was.
              let before : HasCleanDisk (file_state audit.first) = omega (arith, audit.audited.survives.clean, clean) in
              let at = audit.connected before in
              let stands = opens audit.first was.office at.opens at.live (was.stands (file_state audit.first).committed.trees at.found) in (
                [],
                refl,
                none_more laws lives last was.office was.lead (λ trees may. elim (audit.audited.survives.crash clean trees may) [
                  | inl then ↦ stands.left trees then
                  | inr none ↦ absurd none
                ]),
              ));
          told = λ q asks. absurd asks;
          finds = λ holds. met_image words.file.now words.wait holds meets;
          clean = shut_clean audit.closed;
          given = closed_gives stays of back last audit.closed;
        }

    serving_made : (words : ServeWords) (o : Outputs) (err_old err_new : Sink) (end : CommandEnd)
        (serving : IsServing (over_files {g = disk}) m.way here.at m.door m.clock words err_old err_new end)
        → Made o end (use_serving disk salts of office back m words err_old err_new end serving)
    serving_made words o err_old err_new end (serve_unopened fault fails leaves told ends) = unopened_made words.file.now words.wait fault fails o end
    serving_made words o err_old err_new end (serve_unheard old begins finds last deaf leaves closes ends) = record {
      goes = λ found clean kept. ∥∥₁_map (kept.left (of.image office words.file.now) found) (λ was.
          idle_on laws lives (here.at words.file.now words.wait) old old begins (λ life it. it) clean was.office was.stands was.lead);
      told = λ q asks. absurd asks;
      finds = λ holds. found_image words.file.now words.wait holds finds;
      clean = books_clean (seen_in old) closes;
      given = books_give (seen_in old) closes;
    }
    serving_made words o err_old err_new end (serve_open old begins finds were) =
        let place = here.at words.file.now words.wait in
        served_made m.way m.clock.reads (forward_of words.transform) seen_in laws Before back place.closes place.loses ends_lost shut_files lives Holds Wants o end
        books_give (lost_state laws opens loses) (λ old fault lost. lost_none back (λ log db gone. gone.1) old fault lost)
        books_clean (of.image office words.file.now) (λ holds. found_image words.file.now words.wait holds finds)
        words.connections (service were.listening old m.clock.answers) begins.opens were.last were.left were.printed were.served were.are_served were.closed

    office_made : (place : AskedPlace) (ask : AskWords) → ((r : Request) → AsksFile place ask r → Wants r) → (json : Bool) (o : Outputs) (end : CommandEnd)
        (done : IsOfficeAsked (over_files {g = disk}) here place ask json o end)
        → Made o end (use_of_office disk salts of office back m place ask json o end done)
    office_made (File file) ask wants json o end (offline, done) = asked_made file ask wants json o end done
    office_made (Desk desk) ask wants json o end done = nothing_made o end done.0.1

    -- what is asked for was done
    pub carried_made : (asked : Asked) → ((r : Request) → Requests asked r → Wants r) → (o : Outputs) (end : CommandEnd)
        (done : IsCarriedOut (over_files {g = disk}) here asked o end)
        → Made o end (use_carried disk salts of office back m asked o end done)
    carried_made (asked_for.Office words) wants o end done = office_made words.place words.ask wants words.json o end done
    carried_made (asked_for.Trial words) wants o end done = nothing_made o end done.0.0.1
    carried_made (asked_for.Meter words) wants o end done = nothing_made o end done.0.0.1
    carried_made (asked_for.Quote words) wants o end done = nothing_made o end done.0.0.1
    carried_made (asked_for.Serve words) wants o end (left, (silent, done)) = serving_made words o o.err_old o.err_new end done
    carried_made (asked_for.Selfcheck words) wants o end done = nothing_made o end done.0.1
    carried_made (asked_for.Audit words) wants o end (shut, done) = audited_made words o end done

  -- all that is known of what a run made
  pub run_made : (words : List Text) (o : Outputs) (end : CommandEnd) (it : IsProgramRun (over_files {g = disk}) here words o end)
      → Made (WordsRequest words) o end (use_run disk salts of office back m words o end it)
  run_made words o end (answered asked for done) = carried_made (WordsRequest words) asked (λ r wanted. (asked, for, wanted)) o end done
  run_made words o end (bad_word idle none asks_none told) = nothing_made (WordsRequest words) o end idle.0.1
  run_made words o end (explained idle kind text among some says) = nothing_made (WordsRequest words) o end idle.0.1
  run_made words o end (no_room idle told) = nothing_made (WordsRequest words) o end idle.0.1
