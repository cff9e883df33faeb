-- What a command leaves, whatever it is asked and however it ends.
use Rattle.std.proofs.Common.{◌≡◌, ◌∙◌, ℕ, ◌≤◌, Bool, true, false, List, [], Option, Some, None, Result, Ok, Err, ap, inl, inr, subst, sym, arith}
use Rattle.std.specs.Prelude.{⊤, ◌==◌, option_map}
use Rattle.std.specs.Bool.{MatchBool}
use Rattle.sqlite_trees.specs.declared.store.Store.{Ghosts}
use Rattle.asks.specs.declared.ask.Ask.{Ask}
use Rattle.asks.specs.declared.ask.Ask.TheVariants as asks
use Rattle.asks.specs.declared.lookup.Lookup.{Lookup}
use Rattle.asks.specs.declared.lookup.Lookup.TheVariants.{ShiftTotals}
use Rattle.audit.specs.declared.audited.Audited.{Audited}
use Rattle.audit_rows.specs.declared.finding.AuditFault.{AuditFault}
use Rattle.audit_rows.specs.declared.finding.AuditFault.TheVariants.{Failed, Found, NoOffice}
use Rattle.book_opening.specs.declared.fault.OpenFault.{OpenFault}
use Rattle.book_states.specs.declared.lookup.Found.{Found as WhatIsFound}
use Rattle.book_tables.specs.declared.row.totals.Totals.{Totals}
use Rattle.books.specs.Keeps.{Seen}
use Rattle.command_line.specs.Transform.{forward_of}
use Rattle.command_line.specs.declared.address.Address.{Address}
use Rattle.command_line.specs.declared.asked.Asked.{Asked}
use Rattle.command_line.specs.declared.asked.Asked.TheVariants as commands
use Rattle.command_line.specs.declared.commands.serve.ServeWords.{ServeWords}
use Rattle.command_line.specs.declared.office_words.AskWords.{AskWords}
use Rattle.command_line.specs.declared.office_words.AskWords.TheVariants as ask_words
use Rattle.command_line.specs.declared.place.FilePlace.{FilePlace}
use Rattle.command_line.specs.declared.place.Place as places
use Rattle.command_line.specs.declared.place.Place.TheVariants.{File, Desk}
use Rattle.command_line.specs.declared.transform.Shipped.{Shipped}
use Rattle.desk_client.specs.declared.told.Told.{Told}
use Rattle.desk_client.specs.declared.told.Told.TheVariants as tells
use Rattle.desk_commands.specs.AskedOfDesk.{IsAsked, IsAskedOfDesk, IsAskedOnce, TellsTold}
use Rattle.desk_commands.specs.AskedOfDesk.IsAsked.{broken, no_room as desk_full, replied, unsent}
use Rattle.desk_commands.specs.AskedOfDesk.IsAskedOnce.{asked as desk_asked, without_rows}
use Rattle.desk_commands.specs.Exchanged.{Calls}
use Rattle.desk_commands.specs.ListedAtDesk.{IsListedAtDesk, page_stop_end}
use Rattle.desk_commands.specs.declared.list_at_desk.PageFault.{PageFault}
use Rattle.office_commands.specs.commands.Asked.{IsAskedAt}
use Rattle.office_commands.specs.commands.AtFile.{IsAskedOfFile, IsFoundInFile, IsOneAskedOfFile, IsRequestedOfFile}
use Rattle.office_commands.specs.commands.Audited.{IsAudited, TellsAudit}
use Rattle.office_commands.specs.commands.Audited.IsAudited.{absent, looked, unopened as audits_unopened, vacant as audits_vacant}
use Rattle.office_commands.specs.commands.Imported.{AreAdded, IsFileImported, IsImported}
use Rattle.office_commands.specs.commands.LookedUp.{IsRead, IsShown, IsShownAt, ReadsEmpty, TellsFound, TellsPage}
use Rattle.office_commands.specs.commands.LookedUp.IsShownAt.{absent as shown_absent, present as shown_present, vacant as shown_vacant}
use Rattle.office_commands.specs.commands.Reported.{IsReported, PrintsEmpty, PrintsPaper, empty_reply}
use Rattle.office_commands.specs.commands.Reported.IsReported.{absent as no_file, present, vacant}
use Rattle.office_commands.specs.declared.office.paper.Paper.{Paper}
use Rattle.office_commands.specs.declared.office.paper.Paper.TheVariants as papers
use Rattle.office_commands.specs.office.Served.{TellsReply}
use Rattle.office_commands.specs.office.Visited.{IsVisited, seen_in}
use Rattle.office_commands.specs.office.Visited.IsVisited.{unopened, visited}
use Rattle.office_commands.specs.port.Places.{Place, Places}
use Rattle.office_commands.specs.print.AuditLines.{no_office_line, sound_line}
use Rattle.office_commands.specs.print.Exported.{export_stop_end}
use Rattle.office_commands.specs.print.Totalled.{TellsTotals}
use Rattle.office_rules.specs.declared.decision.answer.Answer as core
use Rattle.office_rules.specs.declared.decision.refusal.Refusal.{Refusal}
use Rattle.office_rules.specs.declared.decision.request.Request.{Request}
use Rattle.office_rules.specs.declared.decision.request.Request.TheVariants.{Reprint, ShiftReport}
use Rattle.office_rules.specs.declared.office.row.Row.{Row}
use Rattle.papers.specs.declared.file_kind.FileKind.{FileKind}
use Rattle.papers.specs.declared.row_fault.RowFault.{RowFault}
use Rattle.sts_fields.specs.Text.{Text}
use Rattle.sts_token.specs.Token.{BlockFunction}
use Rattle.tariff.specs.Purchase.{purchase_of}
use Rattle.tariff.specs.declared.bought.Buy.{Buy}
use Rattle.vend_commands.specs.Run.{IsCarriedOut, IsOfficeAsked}
use Rattle.vend_commands.specs.commands.Selfchecked.IsSelfchecked.{agreed, failed}
use Rattle.vend_commands.specs.port.Machines.{Machine, Way}
use Rattle.vend_commands.specs.serving.Listening.{IsDeaf, IsServing, serving_end}
use Rattle.vend_commands.specs.serving.Listening.IsDeaf.{no_listener, no_room as deaf_for_room, no_text, not_told}
use Rattle.vend_commands.specs.serving.Listening.IsServing.{unheard, unopened as serves_unopened, was_open}
use Rattle.vend_ports.specs.Status.{exit_status_of}
use Rattle.vend_ports.specs.commands.Quoted.{quote_end}
use Rattle.vend_ports.specs.commands.Timed.{IsDoneAt, IsTimed}
use Rattle.vend_ports.specs.commands.Tried.{trial_end}
use Rattle.vend_ports.specs.declared.command_end.CommandEnd.{CommandEnd}
use Rattle.vend_ports.specs.declared.command_end.CommandEnd.TheVariants as how
use Rattle.vend_ports.specs.declared.trials.TrialFault.{TrialFault}
use Rattle.vend_ports.specs.port.Dial.{Dial}
use Rattle.vend_ports.specs.port.Texts.{Texts}
use Rattle.vend_ports.specs.print.Sink.{Sink}
use Rattle.vend_ports.specs.print.Told.{IsTold, Outputs}

-- both writers are still the same ones
pub record AreSame (o : Outputs) : Type 0 where
  pub out : o.new.name ≡ o.old.name
  pub err : o.err_new.name ≡ o.err_old.name

-- so after a command that was read, which ends with 0 or 1
pub record IsAnswered (o : Outputs) (end : CommandEnd) : Type 0 where
  pub same : AreSame o
  pub low : exit_status_of end ≤ 1

-- ---- what is told

-- what is told goes out by one writer each
pub told_same : (o : Outputs) (text errors : Text) (meant end : CommandEnd) → IsTold o text errors meant end → AreSame o
told_same o text errors meant end (put, told, is) = record { out = put.same; err = told.same }

end_low : (meant end : CommandEnd) → exit_status_of meant ≤ 1 → end ≡ meant → exit_status_of end ≤ 1
end_low meant end low is = subst (λ e. exit_status_of e ≤ 1) (sym is) low

-- what is told ends as it is meant to
pub told_answered : (o : Outputs) (text errors : Text) (meant end : CommandEnd) → exit_status_of meant ≤ 1 → IsTold o text errors meant end
    → IsAnswered o end
told_answered o text errors meant end low told =
    record { same = told_same o text errors meant end told; low = end_low meant end low told.2 }

done : (o : Outputs) (text errors : Text) (end : CommandEnd) → IsTold o text errors how.Done end → IsAnswered o end
done o text errors end told = told_answered o text errors how.Done end (omega arith) told

-- a refusal ends with 1
pub refused : (o : Outputs) (text errors : Text) (end : CommandEnd) → IsTold o text errors how.Refused end → IsAnswered o end
refused o text errors end told = told_answered o text errors how.Refused end (omega arith) told

reply_answered : (reply : Result core.Answer Refusal) (o : Outputs) (end : CommandEnd) → TellsReply reply o end → IsAnswered o end
reply_answered (Ok answer) o end (inl told) = done o _ _ end told
reply_answered (Ok answer) o end (inr (room, told)) = refused o _ _ end told
reply_answered (Err refusal) o end told = refused o _ _ end told

totals_answered : (number : ℕ) (totals : Result Totals Refusal) (o : Outputs) (end : CommandEnd) → TellsTotals number totals o end → IsAnswered o end
totals_answered number (Ok totals) o end told = done o _ _ end told
totals_answered number (Err refusal) o end told = refused o _ _ end told

stop_low : (stop : Option Refusal) → exit_status_of (export_stop_end stop) ≤ 1
stop_low None = omega arith
stop_low (Some refusal) = omega arith

found_answered : (json : Bool) (lookup : Lookup) (found : Result WhatIsFound Refusal) (o : Outputs) (end : CommandEnd)
    → TellsFound json lookup found o end → IsAnswered o end
found_answered json lookup (Ok what) o end (inl told) = done o _ _ end told
found_answered json lookup (Ok what) o end (inr (room, told)) = refused o _ _ end told
found_answered json lookup (Err refusal) o end told = refused o _ _ end told

page_answered : (json : Bool) (page : Result WhatIsFound Refusal) (o : Outputs) (end : CommandEnd) → TellsPage json page o end → IsAnswered o end
page_answered json (Ok page) o end (inl told) = done o _ _ end told
page_answered json (Ok page) o end (inr told) = refused o _ _ end told
page_answered json (Err refusal) o end told = refused o _ _ end told

-- ---- a moment and a visit

done_answered : (Idle : Type 0) (At : ℕ → Type 0) (o : Outputs) (end : CommandEnd) (moment : Option ℕ) → ((moment : ℕ) → At moment → IsAnswered o end)
    → IsDoneAt Idle At o end moment → IsAnswered o end
done_answered Idle At o end (Some moment) each is = each moment is
done_answered Idle At o end None each (idle, told) = refused o _ _ end told

timed_answered : (Idle : Type 0) (given : Option ℕ) (clock : Dial) (At : ℕ → Type 0) (o : Outputs) (end : CommandEnd)
    → ((moment : ℕ) → At moment → IsAnswered o end) → IsTimed Idle given clock At o end → IsAnswered o end
timed_answered Idle given clock At o end each (moment, taken, is) = done_answered Idle At o end moment each is

visit_answered : {S : Type 0} (store : Ghosts S) (place : Place) (transform : Shipped) (Does : (old new : Seen) → Type 0) (o : Outputs)
    (end : CommandEnd) → ((old new : Seen) → Does old new → IsAnswered o end) → IsVisited store place transform Does o end → IsAnswered o end
visit_answered store place transform Does o end each (unopened fault fails told) = refused o _ _ end told
visit_answered store place transform Does o end each (visited old new opened finds does closes) = each (seen_in old) (seen_in new) does

-- ---- an office in a file

asked_at_answered : {S : Type 0} (store : Ghosts S) (at : Places) (transform : Shipped) (file : Text) (wait moment : ℕ) (request : Request)
    (o : Outputs) (end : CommandEnd) → IsAskedAt store at transform file wait moment request o end → IsAnswered o end
asked_at_answered store at transform file wait moment request o end asked =
    visit_answered store _ _ _ o end (λ old new does. reply_answered does.reply o end does.told) asked

added_answered : {S : Type 0} (store : Ghosts S) (at : Places) (untouched : Type 0) (file : FilePlace) (moment : ℕ)
    (rows : Result (List Row) RowFault) (o : Outputs) (end : CommandEnd) → AreAdded store at untouched file moment rows o end → IsAnswered o end
added_answered store at untouched file moment (Ok rows) o end added =
    asked_at_answered store at file.transform file.path.now file.wait moment _ o end added
added_answered store at untouched file moment (Err fault) o end (left, told) = refused o _ _ end told

imported_answered : {S : Type 0} (store : Ghosts S) (at : Places) (untouched : Type 0) (file : FilePlace) (kind : FileKind) (moment : ℕ)
    (bytes : List ℕ) (o : Outputs) (end : CommandEnd) → IsImported store at untouched file kind moment bytes o end → IsAnswered o end
imported_answered store at untouched file kind moment bytes o end (records, rows, are, reading, added) =
    added_answered store at untouched file moment rows o end added

file_imported_answered : {S : Type 0} (store : Ghosts S) (at : Places) (untouched : Type 0) (texts : Texts) (file : FilePlace) (kind : FileKind)
    (csv : Text) (moment : ℕ) (o : Outputs) (end : CommandEnd) → IsFileImported store at untouched texts file kind csv moment o end → IsAnswered o end
file_imported_answered store at untouched texts file kind csv moment o end (inl (bytes, reads, imported)) =
    imported_answered store at untouched file kind moment bytes o end imported
file_imported_answered store at untouched texts file kind csv moment o end (inr (fault, lacks, left, told)) = refused o _ _ end told

paper_answered : (paper : Paper) (old new : Seen) (o : Outputs) (end : CommandEnd) → PrintsPaper paper old new o end → IsAnswered o end
paper_answered (papers.Shift number) old new o end is = reply_answered is.reply o end is.told
paper_answered (papers.Receipt number) old new o end is = reply_answered is.reply o end is.told
paper_answered (papers.Totals number) old new o end is = totals_answered number is.totals o end is.told
paper_answered papers.Sales old new o end is = told_answered o _ _ (export_stop_end is.stop) end (stop_low is.stop) is.told

empty_paper_answered : (paper : Paper) (o : Outputs) (end : CommandEnd) → PrintsEmpty paper o end → IsAnswered o end
empty_paper_answered (papers.Shift number) o end told = reply_answered (empty_reply (ShiftReport number)) o end told
empty_paper_answered (papers.Receipt number) o end told = reply_answered (empty_reply (Reprint number)) o end told
empty_paper_answered (papers.Totals number) o end told = refused o _ _ end told
empty_paper_answered papers.Sales o end (inl told) = done o _ _ end told
empty_paper_answered papers.Sales o end (inr told) = refused o _ _ end told

report_answered : {S : Type 0} (store : Ghosts S) (at : Places) (file : FilePlace) (paper : Paper) (o : Outputs) (end : CommandEnd)
    → IsReported store at file paper o end → IsAnswered o end
report_answered store at file paper o end (no_file misses told) = refused o _ _ end told
report_answered store at file paper o end (vacant is printed) = empty_paper_answered paper o end printed
report_answered store at file paper o end (present printed) =
    visit_answered store _ _ _ o end (λ old new prints. paper_answered paper old new o end prints) printed

read_answered : (moment : ℕ) (paged : Bool) (lookup : Lookup) (json : Bool) (old new : Seen) (o : Outputs) (end : CommandEnd)
    → IsRead moment paged lookup json old new o end → IsAnswered o end
read_answered moment false lookup json old new o end is = found_answered json lookup is.found o end is.told
read_answered moment true list json old new o end is = told_answered o _ _ (export_stop_end is.stop) end (stop_low is.stop) is.told

empty_read_answered : (moment : ℕ) (paged : Bool) (lookup : Lookup) (json : Bool) (o : Outputs) (end : CommandEnd)
    → ReadsEmpty moment paged lookup json o end → IsAnswered o end
empty_read_answered moment false lookup json o end (found, finds, told) = found_answered json lookup found o end told
empty_read_answered moment true list json o end (found, finds, told) = page_answered json found o end told

shown_at_answered : {S : Type 0} (store : Ghosts S) (at : Places) (file : Text) (wait moment : ℕ) (paged : Bool) (lookup : Lookup) (json : Bool)
    (o : Outputs) (end : CommandEnd) → IsShownAt store at file wait moment paged lookup json o end → IsAnswered o end
shown_at_answered store at file wait moment paged lookup json o end (shown_absent misses told) = refused o _ _ end told
shown_at_answered store at file wait moment paged lookup json o end (shown_vacant is read) = empty_read_answered moment paged lookup json o end read
shown_at_answered store at file wait moment paged lookup json o end (shown_present visit) =
    visit_answered store _ _ _ o end (λ old new is. read_answered moment paged lookup json old new o end is) visit

shown_answered : {S : Type 0} (store : Ghosts S) (at : Places) (untouched : Type 0) (clock : Dial) (file : FilePlace) (paged : Bool)
    (lookup : Lookup) (json : Bool) (o : Outputs) (end : CommandEnd) → IsShown store at untouched clock file paged lookup json o end → IsAnswered o end
shown_answered store at untouched clock file paged lookup json o end is =
    timed_answered untouched file.at clock _ o end (λ moment shown. shown_at_answered store at file.path.now file.wait moment paged lookup json o end
    shown) is

request_answered : {S : Type 0} (store : Ghosts S) (at : Places) (untouched : Type 0) (clock : Dial) (file : FilePlace) (request : Request)
    (o : Outputs) (end : CommandEnd) → IsRequestedOfFile store at untouched clock file request o end → IsAnswered o end
request_answered store at untouched clock file (ShiftReport number) o end is = report_answered store at file (papers.Shift number) o end is
request_answered store at untouched clock file request o end is =
    timed_answered untouched file.at clock _ o end (λ moment asked. asked_at_answered store at file.transform file.path.now file.wait moment request
    o end asked) is

lookup_answered : {S : Type 0} (store : Ghosts S) (at : Places) (untouched : Type 0) (clock : Dial) (file : FilePlace) (lookup : Lookup)
    (json : Bool) (o : Outputs) (end : CommandEnd) → IsFoundInFile store at untouched clock file lookup json o end → IsAnswered o end
lookup_answered store at untouched clock file (ShiftTotals number) json o end is = report_answered store at file (papers.Totals number) o end is
lookup_answered store at untouched clock file lookup json o end is = shown_answered store at untouched clock file false lookup json o end is

one_of_file_answered : {S : Type 0} (store : Ghosts S) (at : Places) (untouched : Type 0) (clock : Dial) (file : FilePlace) (ask : Ask)
    (json : Bool) (o : Outputs) (end : CommandEnd) → IsOneAskedOfFile store at untouched clock file ask json o end → IsAnswered o end
one_of_file_answered store at untouched clock file (asks.Import kind rows) json o end is =
    timed_answered untouched file.at clock _ o end (λ moment imported. imported_answered store at untouched file kind moment _ o end imported) is
one_of_file_answered store at untouched clock file (asks.Do request) json o end is = request_answered store at untouched clock file request o end is
one_of_file_answered store at untouched clock file (asks.Receipt number) json o end is = report_answered store at file (papers.Receipt number) o end is
one_of_file_answered store at untouched clock file (asks.Look lookup) json o end is = lookup_answered store at untouched clock file lookup json o end is

file_answered : {S : Type 0} (store : Ghosts S) (at : Places) (untouched : Type 0) (texts : Texts) (clock : Dial) (file : FilePlace)
    (ask : AskWords) (json : Bool) (o : Outputs) (end : CommandEnd) → IsAskedOfFile store at untouched texts clock file ask json o end → IsAnswered o end
file_answered store at untouched texts clock file (ask_words.Import kind csv) json o end is =
    timed_answered (untouched × texts.leaves) file.at clock _ o end (λ moment imported. file_imported_answered store at untouched texts file kind
    csv.now moment o end imported) is
file_answered store at untouched texts clock file (ask_words.Ask ask) json o end (left, is) =
    one_of_file_answered store at untouched clock file ask json o end is
file_answered store at untouched texts clock file (ask_words.List list) json o end (left, is) =
    shown_answered store at untouched clock file true list json o end is
file_answered store at untouched texts clock file ask_words.Export json o end (left, is) = report_answered store at file papers.Sales o end is

-- ---- one at a desk

told_at_desk_answered : (json : Bool) (ask : Ask) (told : Told) (o : Outputs) (end : CommandEnd) → TellsTold json ask told o end → IsAnswered o end
told_at_desk_answered json ask (tells.Granted granted) o end (inl told) = done o _ _ end told
told_at_desk_answered json ask (tells.Granted granted) o end (inr (room, told)) = refused o _ _ end told
told_at_desk_answered json ask (tells.Refused refusal) o end told = refused o _ _ end told
told_at_desk_answered json ask tells.NoMoment o end told = refused o _ _ end told

asked_answered : (calls : Calls) (uncalled : Type 0) (desk : Address) (json : Bool) (ask : Ask) (o : Outputs) (end : CommandEnd)
    → IsAsked calls uncalled desk json ask o end → IsAnswered o end
asked_answered calls uncalled desk json ask o end (replied came exchanged told is printed) = told_at_desk_answered json ask told o end printed
asked_answered calls uncalled desk json ask o end (broken came exchanged none told) = refused o _ _ end told
asked_answered calls uncalled desk json ask o end (unsent why told) = refused o _ _ end told
asked_answered calls uncalled desk json ask o end (desk_full left told) = refused o _ _ end told

once_answered : (texts : Texts) (calls : Calls) (uncalled : Type 0) (desk : Address) (ask : AskWords) (json : Bool) (o : Outputs)
    (end : CommandEnd) → IsAskedOnce texts calls uncalled desk ask json o end → IsAnswered o end
once_answered texts calls uncalled desk ask json o end (desk_asked it says asked) = asked_answered calls uncalled desk json it o end asked
once_answered texts calls uncalled desk ask json o end (without_rows fault lacks left told) = refused o _ _ end told

page_stop_low : (stop : Option PageFault) → exit_status_of (page_stop_end stop) ≤ 1
page_stop_low None = omega arith
page_stop_low (Some fault) = omega arith

listed_answered : (calls : Calls) (desk : Address) (list : Lookup) (json : Bool) (o : Outputs) (end : CommandEnd)
    → IsListedAtDesk calls desk list json o end → IsAnswered o end
listed_answered calls desk list json o end is = told_answered o _ _ (page_stop_end is.stop) end (page_stop_low is.stop) is.told

desk_answered : (texts : Texts) (calls : Calls) (uncalled : Type 0) (desk : Address) (ask : AskWords) (json : Bool) (o : Outputs)
    (end : CommandEnd) → IsAskedOfDesk texts calls uncalled desk ask json o end → IsAnswered o end
desk_answered texts calls uncalled desk (ask_words.List list) json o end (left, is) = listed_answered calls desk list json o end is
desk_answered texts calls uncalled desk ask_words.Export json o end (left, is) = listed_answered calls desk _ false o end is
desk_answered texts calls uncalled desk ask json o end is = once_answered texts calls uncalled desk ask json o end is

office_answered : {S D R W : Type 0} (store : Ghosts S) (m : Machine D R W) (place : places.Place) (ask : AskWords) (json : Bool) (o : Outputs)
    (end : CommandEnd) → IsOfficeAsked store m place ask json o end → IsAnswered o end
office_answered store m (File file) ask json o end (offline, is) = file_answered store m.at m.untouched m.texts m.clock file ask json o end is
office_answered store m (Desk address) ask json o end (untouched, shut, is) = desk_answered m.texts m.loop.calls m.loop.leaves address ask json o end is

-- ---- the other commands

trial_low : (fault : Option TrialFault) → exit_status_of (trial_end fault) ≤ 1
trial_low None = omega arith
trial_low (Some fault) = omega arith

quote_low : (bought : Option Buy) → exit_status_of (quote_end bought) ≤ 1
quote_low None = omega arith
quote_low (Some b) = omega arith

served_low : {B : Type 0} (served : Result (B × Bool) OpenFault) → exit_status_of (serving_end served) ≤ 1
served_low (Ok (books, true)) = omega arith
served_low (Ok (books, false)) = omega arith
served_low (Err fault) = omega arith

deaf_same : {D R W : Type 0} (way : Way D R W) (address : Address) (door last : D) (old new : Sink) → IsDeaf way address door last old new → new.name ≡ old.name
deaf_same way address door last old new (deaf_for_room same told) = told.same
deaf_same way address door last old new (no_listener fails told) = told.same
deaf_same way address door last old new (no_text port is_port listens told) = told.same
deaf_same way address door last old new (not_told port is_port listens cut told) = told.same

serving_answered : {S D R W : Type 0} (store : Ghosts S) (way : Way D R W) (at : Places) (door : D) (clock : Dial)
    (words : ServeWords) (old new : Sink) (end : CommandEnd)
    → IsServing store way at door clock words old new end → (new.name ≡ old.name) × (exit_status_of end ≤ 1)
serving_answered store way at door clock words old new end (serves_unopened fault fails shut told ends) =
    (told.same, end_low how.Refused end (omega arith) ends)
serving_answered store way at door clock words old new end (unheard books opens finds last deaf shut closes ends) =
    (deaf_same way words.listen door last old new deaf, end_low how.Refused end (omega arith) ends)
serving_answered store way at door clock words old new end (was_open books opens finds were) =
    (were.told.same ∙ were.listens.told.same, end_low (serving_end were.served) end (served_low were.served) were.ends)

counted_answered : (none : Bool) (audited : Audited) (o : Outputs) (end : CommandEnd)
    → MatchBool none (IsTold o no_office_line [] how.Refused end) (IsTold o (sound_line audited) [] how.Done end) → IsAnswered o end
counted_answered true audited o end told = refused o _ _ end told
counted_answered false audited o end told = done o _ _ end told

finding_answered : (answer : Result Audited AuditFault) (o : Outputs) (end : CommandEnd) → TellsAudit answer o end → IsAnswered o end
finding_answered (Ok audited) o end told = counted_answered (audited.format == 0) audited o end told
finding_answered (Err (Found finding)) o end (row, tells, told) = refused o _ _ end told
finding_answered (Err NoOffice) o end told = refused o _ _ end told
finding_answered (Err (Failed error)) o end told = refused o _ _ end told

audit_answered : (place : Place) (given : Option BlockFunction) (o : Outputs) (end : CommandEnd) → IsAudited place given o end → IsAnswered o end
audit_answered place given o end (absent misses told) = refused o _ _ end told
audit_answered place given o end (audits_unopened fault refuses told) = refused o _ _ end told
audit_answered place given o end (audits_vacant is told) = refused o _ _ end told
audit_answered place given o end (looked answer meets audits told) = finding_answered answer o end told

-- a command that was read, whatever it asks
pub answered : {S D R W : Type 0} (store : Ghosts S) (m : Machine D R W) (asked : Asked) (o : Outputs) (end : CommandEnd)
    → IsCarriedOut store m asked o end → IsAnswered o end
answered store m (commands.Office words) o end is = office_answered store m words.place words.ask words.json o end is
answered store m (commands.Trial words) o end (idle, is) =
    timed_answered ⊤ words.at m.clock _ o end (λ moment tried. told_answered o _ _ (trial_end tried.2) end (trial_low tried.2) tried.4) is
answered store m (commands.Meter words) o end (idle, told) = done o _ _ end told
answered store m (commands.Quote words) o end (idle, told) =
    let bought = purchase_of words.steps words.prior words.tender in
    told_answered o _ _ (quote_end bought) end (quote_low bought) told
answered store m (commands.Serve words) o end (left, is) =
    let ends = serving_answered store m.way m.at m.door m.clock words o.err_old o.err_new end is.1 in
    record { same = record { out = ap (λ s. s.name) is.0; err = ends.0 }; low = ends.1 }
answered store m (commands.Selfcheck words) o end (untouched, shut, agreed has told) = done o _ _ end told
answered store m (commands.Selfcheck words) o end (untouched, shut, failed fault why told) = refused o _ _ end told
answered store m (commands.Audit words) o end (shut, is) =
    audit_answered (m.at words.file.now words.wait) (option_map forward_of words.transform) o end is
