-- A request that the words of a run ask for is asked of its office, or why not is told.
use Rattle.std.proofs.Common.{◌≡◌, ◌⊎◌, ℕ, Bool, List, Option, Some, None, inl, inr, refl, sym, subst}
use Rattle.clap.specs.Kinds.{IsAmong}
use Rattle.sqlite.specs.Files.{over_files}
use Rattle.sqlite_disk.specs.declared.Disk as disk
use Rattle.sts_fields.specs.Moment.{first_moment}
use Rattle.sts_fields.specs.Text.{Text}
use Rattle.asks.specs.declared.ask.Ask.{Ask}
use Rattle.asks.specs.declared.ask.Ask.TheVariants as asks
use Rattle.office_rules.specs.declared.decision.request.Request.{Request}
use Rattle.office_rules.specs.declared.decision.request.Request.TheVariants as requests
use Rattle.office_rules.specs.declared.office.row.Row.{Row}
use Rattle.books.specs.Keeps.{Seen}
use Rattle.command_line.specs.Asked.{AskFor}
use Rattle.command_line.specs.declared.asked.Asked.{Asked}
use Rattle.command_line.specs.declared.asked.Asked.TheVariants.{Office}
use Rattle.command_line.specs.declared.office_words.AskWords.{AskWords}
use Rattle.command_line.specs.declared.office_words.AskWords.TheVariants as ask_words
use Rattle.command_line.specs.declared.place.FilePlace.{FilePlace}
use Rattle.command_line.specs.declared.place.Place.{Place}
use Rattle.command_line.specs.declared.place.Place.TheVariants.{Desk, File}
use Rattle.command_line.specs.declared.transform.Shipped.{Shipped}
use Rattle.command_line.specs.declared.transform.Shipped.TheVariants.{Plain}
use Rattle.vend_commands.specs.Run.{IsCarriedOut, IsOfficeAsked, IsProgramRun}
use Rattle.vend_commands.specs.Run.IsProgramRun.{answered, bad_word, explained, no_room as room_lacks}
use Rattle.vend_commands.specs.port.Machines.{Machine}
use Rattle.office_commands.specs.commands.Asked.{IsAskedAt}
use Rattle.office_commands.specs.commands.AtFile.{IsAskedOfFile, IsOneAskedOfFile, IsRequestedOfFile}
use Rattle.office_commands.specs.commands.Reported.{IsReported, PrintsEmpty, PrintsPaper}
use Rattle.office_commands.specs.commands.Reported.IsReported.{absent as report_absent, present as report_present, vacant as report_vacant}
use Rattle.office_commands.specs.office.Vacant.IsVacant.{blank as vacant_blank, without as vacant_without}
use Rattle.office_commands.specs.office.Visited.{seen_in}
use Rattle.office_commands.specs.office.Visited.IsVisited.{unopened as visit_unopened, visited as visit_opened}
use Rattle.office_commands.specs.declared.office.paper.Paper.{Paper}
use Rattle.office_commands.specs.declared.office.paper.Paper.TheVariants.{Receipt, Sales, Shift, Totals}
use Rattle.office_commands.specs.declared.port.ports.OfficeFile as office_files
use Rattle.office_commands.specs.declared.port.ports.SaltSource as source
use Rattle.vend_ports.specs.commands.Timed.{IsTimed}
use Rattle.vend_ports.specs.print.Told.{Outputs}
use Rattle.vend_ports.specs.declared.command_end.CommandEnd.{CommandEnd}
use Rattle.program_laws.specs.runs.Steps.{AsksIn, AsksSo, TellsNoRequest}
use Rattle.program_laws.specs.runs.Steps.TellsNoRequest.{no_file, no_moment, no_office, no_room}
use Rattle.program_laws.specs.runs.Uses.{RunQuestion, RunUse, empty_question, lives_empty, lives_printing, use_asked, use_carried, use_of_file, use_of_office, use_one, use_reported, use_requested, use_run, use_timed, with_file}
use Rattle.program_laws.specs.runs.Words.{AskRequests, AskWordsRequest, AsksFile, Requests}
use Rattle.program_laws.proofs.RunsLemmas.MadeLemmas.{Reports}

module _ {M S H D R W : Type 0} (disk : disk.Ghosts M) (salts : source.Ghosts S) (of : office_files.Ghosts H M S) (office : H) (back : Option (M × M))
    (m : Machine D R W) (r : Request) where
  abbrev here : Machine D R W
  here = with_file disk salts of office back m

  -- it was asked, or why not was told
  abbrev Answers : RunUse disk → Outputs → CommandEnd → Type 0
  Answers made o end = ((q : RunQuestion) × AsksIn made q × (q.request ≡ r)) ⊎ TellsNoRequest o end

  asking_answers : (transform : Shipped) (path : Text) (wait moment : ℕ) (request : Request) (o : Outputs) (end : CommandEnd)
      → r ≡ request → (asks : IsAskedAt (over_files {g = disk}) here.at transform path wait moment request o end)
      → Answers (use_asked disk salts of office back m transform path wait moment request o end asks) o end
  asking_answers transform path wait moment request o end is (visit_unopened fault fails told) = inr (no_office fault told)
  asking_answers transform path wait moment request o end is (visit_opened old new begins finds does closes) =
      inl (record { transform = transform; moment = moment; request = request; reply = does.reply }, refl, sym is)

  -- a paper that asks it did
  printed_asks : (paper : Paper) (o : Outputs) (end : CommandEnd) (old new : Seen) → Reports paper r → (does : PrintsPaper paper old new o end)
      → (q : RunQuestion) × AsksSo (lives_printing paper o end old new does) q × (q.request ≡ r)
  printed_asks (Shift number) o end old new is does =
      (record { transform = Plain; moment = first_moment; request = requests.ShiftReport number; reply = does.reply }, refl, sym is)
  printed_asks (Receipt number) o end old new is does =
      (record { transform = Plain; moment = first_moment; request = requests.Reprint number; reply = does.reply }, refl, sym is)
  printed_asks (Totals number) o end old new is does = absurd is
  printed_asks Sales o end old new is does = absurd is

  -- so did one of the empty office
  empty_asks : (paper : Paper) (o : Outputs) (end : CommandEnd) → Reports paper r → (done : PrintsEmpty paper o end)
      → (q : RunQuestion) × AsksSo (lives_empty paper o end done) q × (q.request ≡ r)
  empty_asks (Shift number) o end is done = (empty_question (requests.ShiftReport number), refl, sym is)
  empty_asks (Receipt number) o end is done = (empty_question (requests.Reprint number), refl, sym is)
  empty_asks (Totals number) o end is done = absurd is
  empty_asks Sales o end is done = absurd is

  module _ (file : FilePlace) where
    timed_answers : (request : Request) (o : Outputs) (end : CommandEnd) → r ≡ request
        → (done : IsTimed here.untouched file.at m.clock
        (λ at. IsAskedAt (over_files {g = disk}) here.at file.transform file.path.now file.wait at request o end) o end)
        → Answers (use_timed here.untouched file.at m.clock _ o end
        (λ at it. use_asked disk salts of office back m file.transform file.path.now file.wait at request o end it) done) o end
    timed_answers request o end is (Some moment, taken, done) = asking_answers file.transform file.path.now file.wait moment request o end is done
    timed_answers request o end is (None, taken, idle) = inr (no_moment idle.1)

    reporting_answers : (paper : Paper) (o : Outputs) (end : CommandEnd) → Reports paper r
        → (reported : IsReported (over_files {g = disk}) here.at file paper o end) → Answers (use_reported disk salts of office back m file paper o end reported) o end
    reporting_answers paper o end is (report_absent misses told) = inr (no_file told)
    reporting_answers paper o end is (report_vacant (meets, vacant_blank left at gone) printed) = inl (empty_asks paper o end is printed)
    reporting_answers paper o end is (report_vacant (meets, vacant_without conn left at taken gone) printed) = inl (empty_asks paper o end is printed)
    reporting_answers paper o end is (report_present (visit_unopened fault fails told)) = inr (no_office fault told)
    reporting_answers paper o end is (report_present (visit_opened old new begins finds does closes)) =
        inl (printed_asks paper o end (seen_in old) (seen_in new) is does)

    requested_answers : (request : Request) (o : Outputs) (end : CommandEnd) → r ≡ request
        → (done : IsRequestedOfFile (over_files {g = disk}) here.at here.untouched m.clock file request o end)
        → Answers (use_requested disk salts of office back m file request o end done) o end
    requested_answers (requests.ShiftReport number) o end is done = reporting_answers (Shift number) o end is done
    requested_answers request o end is done = timed_answers request o end is done

  module _ (no_import : (rows : List Row) → ¬ (r ≡ requests.Import rows)) where
    one_answers : (file : FilePlace) (ask : Ask) (json : Bool) (o : Outputs) (end : CommandEnd) → AskRequests ask r
        → (done : IsOneAskedOfFile (over_files {g = disk}) here.at here.untouched m.clock file ask json o end)
        → Answers (use_one disk salts of office back m file ask json o end done) o end
    one_answers file (asks.Import kind bytes) json o end (rows, is) done = absurd (no_import rows is)
    one_answers file (asks.Do request) json o end is done = requested_answers file request o end is done
    one_answers file (asks.Receipt number) json o end is done = reporting_answers file (Receipt number) o end is done
    one_answers file (asks.Look lookup) json o end is done = absurd is

    file_answers : (file : FilePlace) (ask : AskWords) (json : Bool) (o : Outputs) (end : CommandEnd) → AskWordsRequest ask r
        → (done : IsAskedOfFile (over_files {g = disk}) here.at here.untouched m.texts m.clock file ask json o end)
        → Answers (use_of_file disk salts of office back m file ask json o end done) o end
    file_answers file (ask_words.Import kind csv) json o end (rows, is) done = absurd (no_import rows is)
    file_answers file (ask_words.Ask ask) json o end is (unread, done) = one_answers file ask json o end is done
    file_answers file (ask_words.List list) json o end is done = absurd is
    file_answers file ask_words.Export json o end is done = absurd is

    office_answers : (place : Place) (ask : AskWords) (json : Bool) (o : Outputs) (end : CommandEnd) → AsksFile place ask r
        → (done : IsOfficeAsked (over_files {g = disk}) here place ask json o end)
        → Answers (use_of_office disk salts of office back m place ask json o end done) o end
    office_answers (File file) ask json o end is (offline, done) = file_answers file ask json o end is done
    office_answers (Desk desk) ask json o end is done = absurd is

    carried_answers : (asked : Asked) (o : Outputs) (end : CommandEnd) → Requests asked r
        → (done : IsCarriedOut (over_files {g = disk}) here asked o end) → Answers (use_carried disk salts of office back m asked o end done) o end
    carried_answers (Office words) o end is done = office_answers words.place words.ask words.json o end is done
    carried_answers asked o end is done = absurd is

    -- what words ask for, and nothing else, is asked each time, or why not is told
    pub run_answers : (words : List Text) (o : Outputs) (end : CommandEnd) (some : Asked) → AskFor words some
        → ((asked : Asked) → AskFor words asked → Requests asked r) → (it : IsProgramRun (over_files {g = disk}) here words o end)
        → Answers (use_run disk salts of office back m words o end it) o end
    run_answers words o end some asked_for same (answered asked for done) = carried_answers asked o end (same asked for) done
    run_answers words o end some asked_for same (bad_word idle none asks_none told) = absurd (asks_none some asked_for)
    run_answers words o end some asked_for same (explained idle kind text among some_text says) = absurd (subst (IsAmong kind) asked_for.no_fault among)
    run_answers words o end some asked_for same (room_lacks idle told) = inr (no_room told)
