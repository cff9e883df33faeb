-- What a run of the program made of the file that its words name.
use Rattle.std.proofs.Common.{inl, inr}
use Rattle.std.specs.Prelude.{◌≡◌, ◌≢◌, ℕ, ℤ, ◌+◌, ◌%◌, Bool, true, false, List, [], ◌∷◌, ◌++◌}
use Rattle.std.specs.Prelude.{length, Option, Some, None, Result, Ok, Err, option_map}
use Rattle.sqlite.specs.Files.{file_state, image_of, over_files}
use Rattle.sqlite.specs.State.{State}
use Rattle.sqlite.specs.declared.file.Leftover.{Leftover}
use Rattle.sqlite_disk.specs.declared.Disk as disk
use Rattle.sqlite_disk.specs.declared.Files.{Files}
use Rattle.sqlite_store.specs.FileStore.{files as store_files}
use Rattle.sqlite_trees.specs.declared.store.Store.{Ghosts}
use Rattle.sqlite_wal.specs.Recovery.{Image}
use Rattle.sts_fields.specs.Moment.{first_moment}
use Rattle.sts_fields.specs.Text.{Text}
use Rattle.sts_token.specs.Token.{BlockFunction}
use Rattle.vend_core.specs.Law.Life.{Life}
use Rattle.vend_core.specs.Law.LifeLaws.{extended_by, opened}
use Rattle.office_rules.specs.Office.{Office, empty_office}
use Rattle.office_rules.specs.declared.decision.answer.Answer.{Answer}
use Rattle.office_rules.specs.declared.decision.refusal.Refusal.{Refusal}
use Rattle.office_rules.specs.declared.decision.refusal.Refusal.TheVariants.{Stopped}
use Rattle.office_rules.specs.declared.decision.request.Request.{Request}
use Rattle.office_rules.specs.declared.decision.request.Request.TheVariants as requests
use Rattle.office_rules.specs.declared.decision.request.Stamped.{Stamped}
use Rattle.office_rules.specs.declared.office.row.Row.{Row}
use Rattle.office_rules.specs.declared.office.sale.Sale.{Sale}
use Rattle.papers.specs.Export.{export_of}
use Rattle.papers.specs.declared.file_kind.FileKind.{FileKind}
use Rattle.papers.specs.declared.row_fault.RowFault.{RowFault}
use Rattle.asks.specs.declared.ask.Ask.{Ask}
use Rattle.asks.specs.declared.ask.Ask.TheVariants as asks
use Rattle.asks.specs.declared.lookup.Lookup.{Lookup}
use Rattle.asks.specs.declared.lookup.Lookup.TheVariants as lookups
use Rattle.book_opening.specs.declared.fault.OpenFault.{OpenFault}
use Rattle.books.specs.Headline.{with_last}
use Rattle.books.specs.Keeps.{Seen}
use Rattle.books.specs.declared.refused_files.RefusedFiles.TheVariants.{Connected, Unconnected}
use Rattle.command_line.specs.Transform.{forward_of}
use Rattle.command_line.specs.declared.asked.Asked.{Asked}
use Rattle.command_line.specs.declared.asked.Asked.TheVariants as asked_for
use Rattle.command_line.specs.declared.commands.audit.AuditWords.{AuditWords}
use Rattle.command_line.specs.declared.commands.serve.ServeWords.{ServeWords}
use Rattle.command_line.specs.declared.office_words.AskWords.{AskWords}
use Rattle.command_line.specs.declared.office_words.AskWords.TheVariants as ask_words
use Rattle.command_line.specs.declared.place.FilePlace.{FilePlace}
use Rattle.command_line.specs.declared.place.Place.{Place as AskedPlace}
use Rattle.command_line.specs.declared.place.Place.TheVariants.{Desk, File}
use Rattle.command_line.specs.declared.transform.Shipped.{Shipped}
use Rattle.command_line.specs.declared.transform.Shipped.TheVariants.{Plain}
use Rattle.vend_commands.specs.Run.{IsCarriedOut, IsOfficeAsked, IsProgramRun}
use Rattle.vend_commands.specs.Run.IsProgramRun.{answered, bad_word, explained, no_room}
use Rattle.office_commands.specs.commands.Asked.{IsAskedAt}
use Rattle.office_commands.specs.commands.Audited.{IsAudited}
use Rattle.office_commands.specs.commands.Audited.IsAudited.{absent as audit_absent}
use Rattle.office_commands.specs.commands.Audited.IsAudited.{looked as audit_looked}
use Rattle.office_commands.specs.commands.Audited.IsAudited.{unopened as audit_unopened}
use Rattle.office_commands.specs.commands.Audited.IsAudited.{vacant as audit_vacant}
use Rattle.office_commands.specs.commands.AtFile.{IsAskedOfFile, IsFoundInFile, IsOneAskedOfFile}
use Rattle.office_commands.specs.commands.AtFile.{IsRequestedOfFile}
use Rattle.office_commands.specs.commands.Imported.{AreAdded, IsFileImported, IsImported}
use Rattle.office_commands.specs.commands.LookedUp.{IsShown, IsShownAt}
use Rattle.office_commands.specs.commands.LookedUp.IsShownAt.{absent as shown_absent}
use Rattle.office_commands.specs.commands.LookedUp.IsShownAt.{present as shown_present}
use Rattle.office_commands.specs.commands.LookedUp.IsShownAt.{vacant as shown_vacant}
use Rattle.office_commands.specs.commands.Reported.{IsReported, PrintsEmpty, PrintsPaper, empty_reply}
use Rattle.office_commands.specs.commands.Reported.IsReported.{absent as report_absent}
use Rattle.office_commands.specs.commands.Reported.IsReported.{present as report_present}
use Rattle.office_commands.specs.commands.Reported.IsReported.{vacant as report_vacant}
use Rattle.vend_ports.specs.commands.Timed.{IsTimed}
use Rattle.office_commands.specs.office.Served.{IsServedAndTold}
use Rattle.office_commands.specs.office.Closed.{AreClosed, IsClosed}
use Rattle.office_commands.specs.office.Closed.AreClosed.{closed, unclosed}
use Rattle.office_commands.specs.office.Vacant.{IsVacant}
use Rattle.office_commands.specs.office.Vacant.IsVacant.{blank as vacant_blank}
use Rattle.office_commands.specs.office.Vacant.IsVacant.{without as vacant_without}
use Rattle.office_commands.specs.office.Visited.{IsVisited, seen_in}
use Rattle.office_commands.specs.office.Visited.IsVisited.{unopened as visit_unopened}
use Rattle.office_commands.specs.office.Visited.IsVisited.{visited as visit_opened}
use Rattle.office_commands.specs.office.Lost.{IsUnreopened}
use Rattle.office_commands.specs.office.Lost.IsUnreopened.{refused as lost_refused}
use Rattle.office_commands.specs.office.Lost.IsUnreopened.{unsalted as lost_unsalted}
use Rattle.office_commands.specs.port.Back.{is_untouched, lets_go_giving}
use Rattle.office_commands.specs.port.Places.{IsUnopened, Place, places_of, where_present}
use Rattle.vend_commands.specs.port.Machines.{Machine, Way}
use Rattle.office_commands.specs.port.Places.IsUnopened.{unfound, unopened as found_unopened}
use Rattle.office_commands.specs.port.Places.IsUnopenedIn.{refused, unread as not_read, unsalted}
use Rattle.vend_ports.specs.port.Dial.{Dial}
use Rattle.vend_ports.specs.print.Sink.{Sink}
use Rattle.vend_ports.specs.print.Told.{Outputs}
use Rattle.program_laws.specs.runs.Readings.{IsReadIn, IsSaleRead, Reading, empty_reading, exported}
use Rattle.program_laws.specs.runs.Readings.{reading_of}
use Rattle.vend_commands.specs.serving.Connections.{AreServed, Service, service}
use Rattle.program_laws.specs.Courses.{AreLived, Course, IsNext, course}
use Rattle.vend_commands.specs.serving.Listening.{IsClosedAfter, IsServing}
use Rattle.vend_commands.specs.serving.Listening.IsServing.{unheard as serve_unheard}
use Rattle.vend_commands.specs.serving.Listening.IsServing.{unopened as serve_unopened}
use Rattle.vend_commands.specs.serving.Listening.IsServing.{was_open as serve_open}
use Rattle.program_laws.specs.SalesTold.{ConnectionsTell}
use Rattle.office_commands.specs.declared.office.paper.Paper.{Paper}
use Rattle.office_commands.specs.declared.office.paper.Paper.TheVariants.{Receipt, Sales, Shift}
use Rattle.office_commands.specs.declared.office.paper.Paper.TheVariants.{Totals}
use Rattle.vend_ports.specs.declared.command_end.CommandEnd.{CommandEnd}
use Rattle.office_commands.specs.declared.port.ports.OfficeFile as office_files
use Rattle.office_commands.specs.declared.port.ports.SaltSource as source

-- ---- the lives of a run

-- a request that a run asked of the office at a moment, and the reply that it got and told
pub record RunQuestion : Type 0 where
  pub transform : Shipped
  pub moment : ℕ
  pub request : Request
  pub reply : Result Answer Refusal

-- how an office lived in a run: it was not opened, or nothing was asked of it, or something was
-- read at a moment, or one request was asked, or many along connections, whose lives follow those
-- before
pub data Living : Type 1 where
  no_life : Living
  idle_life : Shipped → Living
  reading_life : (moment : ℕ) → Reading → Living
  asking_life : RunQuestion → Living
  many_lives : {D R W : Type 0} → Way D R W → BlockFunction → (count : ℕ) → (door : D)
      → (answers : Option (List ℤ)) → (last : D) → (left : Option (List ℤ)) → Living

-- the life of one request, with the nibble of the next sale's number, in an office that runs
pub record IsAskedLife (q : RunQuestion) (life : Life) : Type 0 where
  pub at : Stamped
  pub at_moment : at.moment ≡ q.moment
  pub for_request : at.request ≡ q.request
  pub by_number : at.nibble ≡ (length life.opening.sales + 1) % 16
  pub life_is : life ≡ extended_by (opened (forward_of q.transform) life.opening) at q.reply
  pub running : q.reply ≢ Err Stopped

-- Lives went on along so many connections, after those before, from one that just opened an office.
-- Behind the last connection the same life goes on, or the next one was opened.
abbrev pub AreCoursed : {D R W : Type 0} → Way D R W → BlockFunction → ℕ → D → Option (List ℤ) → D
    → Option (List ℤ) → (before lives : List Life) → Type 0
AreCoursed way forward count door answers last_door left before lives =
    (office : Office) × (last : Course) × (next : Course)
    × AreLived way forward count (service door (course before (opened forward office)) answers)
    (service last_door last left)
    × IsNext forward last next × (before ++ lives ≡ with_last next.over next.life)

-- these are the lives that it lived so, after those before
abbrev pub LivesSo : Living → (before lives : List Life) → Type 0
LivesSo no_life before lives = lives ≡ []
LivesSo (idle_life transform) before lives =
    (office : Office) × (lives ≡ opened (forward_of transform) office ∷ [])
LivesSo (reading_life moment reading) before lives =
    (office : Office) × IsReadIn (opened (forward_of Plain) office) moment reading
    × (lives ≡ opened (forward_of Plain) office ∷ [])
LivesSo (asking_life q) before lives = (life : Life) × IsAskedLife q life × (lives ≡ life ∷ [])
LivesSo (many_lives way forward count door answers last left) before lives =
    AreCoursed way forward count door answers last left before lives

-- this sale was read in them, or a connection was told it along them
abbrev pub TellsSo : (living : Living) → (before lives : List Life) → LivesSo living before lives
    → Sale → Type 0
TellsSo no_life before lives is s = ⊥
TellsSo (idle_life transform) before lives is s = ⊥
TellsSo (reading_life moment reading) before lives (office, is, all) s =
    IsSaleRead (opened (forward_of Plain) office) reading s
TellsSo (asking_life q) before lives is s = ⊥
TellsSo (many_lives way forward count door answers last_door left) before lives
    (office, last, next, lived, follows, all) s =
    ConnectionsTell way forward count
    (service door (course before (opened forward office)) answers)
    (service last_door last left) lived s

-- ---- what a run made of the file

-- how the file was left: no connection was made to these files, in which nothing was ever written;
-- or in this state the last one was given up, and these were its files as they were let go; or then
-- its files were found again, no connection could be made to them, and this is what was left of
-- them
pub data RunEnding {M : Type 0} (g : disk.Ghosts M) : Type 1 where
  left_blank : (files : Files M) → RunEnding g
  let_go : State → (files : Files M) → RunEnding g
  cut_off : State → (found : Files M) → (left : Leftover M g) → RunEnding g

-- Nothing of the file was seen: none was found, or it was not looked into. Or it was found as these
-- files, and no connection could be made to them: then this is what was left of them. Or the file
-- held this, the office lived so, the empty one where the file had none, and it was left so.
pub data RunUse {M : Type 0} (g : disk.Ghosts M) : Type 1 where
  unseen : RunUse g
  unconnected : (found : Files M) → (left : Leftover M g) → RunUse g
  connected : (image : Image) → (living : Living) → (last : RunEnding g) → RunUse g

-- the files of a connection as they were let go, closed whole or not
abbrev pub closed_files : {M : Type 0} → {disk : disk.Ghosts M}
    → {LetsGo : (whole : Bool) → M → M → Type 0} → {s : State} → AreClosed disk LetsGo s → Files M
closed_files (closed conn last here seen closes files copied gone) = here
closed_files (unclosed conn last error seen closes fails gone) =
    record { log = (store_files last).0; db = (store_files last).1 }

-- where no office was opened
abbrev pub use_refused : {M S : Type 0} → {disk : disk.Ghosts M} → {salts : source.Ghosts S}
    → {finds lets_go : M → M → Type 0} → {fails : OpenFault → Type 0} → (fault : OpenFault)
    → IsUnopened disk salts finds lets_go fails fault → RunUse disk
use_refused fault (unfound none) = unseen
use_refused fault (found_unopened found finds (not_read before more is gone)) = unseen
use_refused fault (found_unopened found finds (unsalted it lacks is gone)) = unseen
use_refused {disk = disk} fault
    (found_unopened found finds (refused left (Connected last) why taken gone)) =
    connected (image_of disk found) no_life (let_go (file_state last) left)
use_refused fault (found_unopened found finds (refused left (Unconnected rest) why taken gone)) =
    unconnected found rest

-- a visit, by what is known where it opened none, by how the office lives in it, and by the files
-- that were let go as it was closed
abbrev pub use_visited : {M S : Type 0} → {disk : disk.Ghosts M} → {store : Ghosts S}
    → {place : Place} → {transform : Shipped} → {Does : (old new : Seen) → Type 0}
    → {o : Outputs} → {end : CommandEnd}
    → ((fault : OpenFault) → place.fails fault → RunUse disk)
    → ((old new : Seen) → Does old new → Living)
    → ((books : Seen) → place.closes books → Files M)
    → IsVisited store place transform Does o end → RunUse disk
use_visited if_refused lives left (visit_unopened fault fails told) = if_refused fault fails
use_visited {place = place} if_refused lives left (visit_opened old new opens finds does closes) =
    connected place.image (lives (seen_in old) (seen_in new) does)
    (let_go (seen_in new).state (left (seen_in new) closes))

-- a file that has none of the office's tables: the empty office lived so, and the file is as it was
abbrev pub use_vacant : {M : Type 0} → {disk : disk.Ghosts M} → (image : Image)
    → {lets_go : M → M → Type 0} → Living → IsVacant disk image lets_go → RunUse disk
use_vacant image living (vacant_blank left is gone) = connected image living (left_blank left)
use_vacant image living (vacant_without conn left is taken gone) =
    connected image living (let_go (file_state conn) left)

-- a request that was served, and a paper that was printed
abbrev pub lives_asking : (transform : Shipped) → (moment : ℕ) → (request : Request)
    → (o : Outputs) → (end : CommandEnd) → (old new : Seen)
    → IsServedAndTold moment request old new o end → Living
lives_asking transform moment request o end old new done = asking_life (record {
  transform = transform;
  moment = moment;
  request = request;
  reply = done.reply;
})

-- what was asked of the empty office
abbrev pub empty_question : Request → RunQuestion
empty_question request = record {
  transform = Plain;
  moment = first_moment;
  request = request;
  reply = empty_reply request;
}

abbrev pub lives_printing : (paper : Paper) → (o : Outputs) → (end : CommandEnd)
    → (old new : Seen) → PrintsPaper paper old new o end → Living
lives_printing (Shift number) o end old new done =
    lives_asking Plain first_moment (requests.ShiftReport number) o end old new done
lives_printing (Receipt number) o end old new done =
    lives_asking Plain first_moment (requests.Reprint number) o end old new done
lives_printing (Totals number) o end old new done = idle_life Plain
lives_printing Sales o end old new done = reading_life first_moment (exported done.text)

-- the same of a paper of the empty office
abbrev pub lives_empty : (paper : Paper) → (o : Outputs) → (end : CommandEnd)
    → PrintsEmpty paper o end → Living
lives_empty (Shift number) o end done = asking_life (empty_question (requests.ShiftReport number))
lives_empty (Receipt number) o end done = asking_life (empty_question (requests.Reprint number))
lives_empty (Totals number) o end done = idle_life Plain
lives_empty Sales o end (inl told) =
    reading_life first_moment (exported (export_of true empty_office.sales))
lives_empty Sales o end (inr told) = reading_life first_moment (exported [])

-- what is done at a moment, if there is one
abbrev pub use_timed : {M : Type 0} → {disk : disk.Ghosts M} → (Idle : Type 0)
    → (given : Option ℕ) → (clock : Dial) → (At : ℕ → Type 0) → (o : Outputs)
    → (end : CommandEnd) → ((moment : ℕ) → At moment → RunUse disk)
    → IsTimed Idle given clock At o end → RunUse disk
use_timed Idle given clock At o end at (Some moment, taken, done) = at moment done
use_timed Idle given clock At o end at (None, taken, idle) = unseen

-- the end of stopped books whose file was not opened again
abbrev pub ends_lost : {M S : Type 0} → {disk : disk.Ghosts M} → {salts : source.Ghosts S}
    → {lets_go : M → M → Type 0} → (old : Seen) → (fault : OpenFault)
    → IsUnreopened disk salts lets_go old fault → RunEnding disk
ends_lost old fault (lost_unsalted it lacks is conn seen left taken gone) = let_go old.state left
ends_lost old fault (lost_refused it salt draws conn seen (Connected last) why left taken gone) =
    let_go (file_state last) left
ends_lost old fault
    (lost_refused it salt draws conn seen (Unconnected rest) why left taken gone) =
    cut_off old.state why.2.here rest

-- connections that are served, by how lost books end, and by the files that were let go as others
-- were closed
abbrev pub use_served : {M D R W B : Type 0} → {disk : disk.Ghosts M} → (way : Way D R W)
    → (gives : ℤ → Type 0) → (forward : BlockFunction) → (see : B → Seen)
    → (loses : Seen → OpenFault → Type 0)
    → ((old : Seen) → (fault : OpenFault) → loses old fault → RunEnding disk)
    → (closes : Seen → Type 0) → ((books : Seen) → closes books → Files M) → (wanted : ℕ)
    → (old : Service D B) → (door : D) → (answers : Option (List ℤ)) → (printed : Text) → Image
    → (served : Result (B × Bool) OpenFault)
    → AreServed way gives forward see loses wanted old door answers served printed
    → IsClosedAfter (λ books. closes (see books)) served → RunUse disk
use_served way gives forward see loses ends closes left wanted old door answers printed image
    (Ok (books, true)) held shut = connected image
    (many_lives way forward wanted old.door old.answers door answers)
    (let_go (see books).state (left (see books) shut))
use_served way gives forward see loses ends closes left wanted old door answers printed image
    (Ok (books, false)) none shut = connected image
    (many_lives way forward none.count old.door old.answers none.last.door none.last.answers)
    (let_go (see books).state (left (see books) shut))
use_served way gives forward see loses ends closes left wanted old door answers printed image
    (Err fault) lost shut = connected image
    (many_lives way forward lost.count old.door old.answers lost.last.door lost.last.answers)
    (ends (see lost.last.books) fault lost.lost.1)

module _ {M S H D R W : Type 0} (disk : disk.Ghosts M) (salts : source.Ghosts S)
    (of : office_files.Ghosts H M S) (office : H) (back : Option (M × M)) (m : Machine D R W) where
  -- the machine, with this file of an office, of which this was given back
  abbrev pub with_file : Machine D R W
  with_file = record m {
    at = places_of disk salts of office back;
    untouched = is_untouched of office back;
  }

  -- the files of books as they were let go
  abbrev pub files_let_go : (books : Seen) → IsClosed disk (lets_go_giving of back) books → Files M
  files_let_go books closes = closed_files closes

  -- one request
  abbrev pub use_asked : (transform : Shipped) → (path : Text) → (wait moment : ℕ)
      → (request : Request) → (o : Outputs) → (end : CommandEnd)
      → IsAskedAt (over_files {g = disk}) with_file.at transform path wait moment request o end
      → RunUse disk
  use_asked transform path wait moment request o end asks =
      use_visited {place = with_file.at path wait} use_refused
      (lives_asking transform moment request o end) files_let_go asks

  abbrev pub use_added : (file : FilePlace) → (moment : ℕ)
      → (rows : Result (List Row) RowFault) → (o : Outputs) → (end : CommandEnd)
      → AreAdded (over_files {g = disk}) with_file.at with_file.untouched file moment rows o end
      → RunUse disk
  use_added file moment (Ok rows) o end added =
      use_asked file.transform file.path.now file.wait moment (requests.Import rows) o end added
  use_added file moment (Err fault) o end told = unseen

  abbrev pub use_rows : (file : FilePlace) → (kind : FileKind) → (moment : ℕ)
      → (bytes : List ℕ) → (o : Outputs) → (end : CommandEnd)
      → IsImported (over_files {g = disk}) with_file.at with_file.untouched file kind moment bytes
      o end → RunUse disk
  use_rows file kind moment bytes o end (records, rows, are, reading, added) =
      use_added file moment rows o end added

  abbrev pub use_imported : (file : FilePlace) → (kind : FileKind) → (csv : Text)
      → (moment : ℕ) → (o : Outputs) → (end : CommandEnd)
      → IsFileImported (over_files {g = disk}) with_file.at with_file.untouched m.texts file kind
      csv moment o end → RunUse disk
  use_imported file kind csv moment o end (inl (bytes, reads, imported)) =
      use_rows file kind moment bytes o end imported
  use_imported file kind csv moment o end (inr unread) = unseen

  abbrev pub use_reported : (file : FilePlace) → (paper : Paper) → (o : Outputs)
      → (end : CommandEnd) → IsReported (over_files {g = disk}) with_file.at file paper o end
      → RunUse disk
  use_reported file paper o end (report_absent misses told) = unseen
  use_reported file paper o end (report_vacant (meets, vacant) printed) =
      use_vacant (of.image office file.path.now) (lives_empty paper o end printed) vacant
  use_reported file paper o end (report_present visit) =
      use_visited {place = where_present (with_file.at file.path.now file.wait)} use_refused
      (lives_printing paper o end) files_let_go visit

  -- a look-up, or a list
  abbrev pub use_shown_at : (path : Text) → (wait moment : ℕ) → (paged : Bool)
      → (lookup : Lookup) → (json : Bool) → (o : Outputs) → (end : CommandEnd)
      → IsShownAt (over_files {g = disk}) with_file.at path wait moment paged lookup json o end
      → RunUse disk
  use_shown_at path wait moment paged lookup json o end (shown_absent misses told) = unseen
  use_shown_at path wait moment paged lookup json o end (shown_vacant (meets, vacant) read) =
      use_vacant (of.image office path)
      (reading_life moment (empty_reading moment paged lookup json o end read)) vacant
  use_shown_at path wait moment paged lookup json o end (shown_present visit) =
      use_visited {place = where_present (with_file.at path wait)} use_refused
      (λ old new done. reading_life moment
      (reading_of moment paged lookup json old new o end done)) files_let_go visit

  abbrev pub use_shown : (file : FilePlace) → (paged : Bool) → (lookup : Lookup)
      → (json : Bool) → (o : Outputs) → (end : CommandEnd)
      → IsShown (over_files {g = disk}) with_file.at with_file.untouched m.clock file paged lookup
      json o end → RunUse disk
  use_shown file paged lookup json o end done =
      use_timed with_file.untouched file.at m.clock _ o end
      (λ at it. use_shown_at file.path.now file.wait at paged lookup json o end it) done

  -- what is asked of the office in the file
  abbrev pub use_requested : (file : FilePlace) → (request : Request) → (o : Outputs)
      → (end : CommandEnd)
      → IsRequestedOfFile (over_files {g = disk}) with_file.at with_file.untouched m.clock file
      request o end → RunUse disk
  use_requested file (requests.ShiftReport number) o end done =
      use_reported file (Shift number) o end done
  use_requested file request o end done =
      use_timed with_file.untouched file.at m.clock _ o end
      (λ at it. use_asked file.transform file.path.now file.wait at request o end it) done

  abbrev pub use_found : (file : FilePlace) → (lookup : Lookup) → (json : Bool)
      → (o : Outputs) → (end : CommandEnd)
      → IsFoundInFile (over_files {g = disk}) with_file.at with_file.untouched m.clock file lookup
      json o end → RunUse disk
  use_found file (lookups.ShiftTotals number) json o end done =
      use_reported file (Totals number) o end done
  use_found file lookup json o end done = use_shown file false lookup json o end done

  abbrev pub use_one : (file : FilePlace) → (ask : Ask) → (json : Bool) → (o : Outputs)
      → (end : CommandEnd)
      → IsOneAskedOfFile (over_files {g = disk}) with_file.at with_file.untouched m.clock file ask
      json o end → RunUse disk
  use_one file (asks.Import kind rows) json o end done =
      use_timed with_file.untouched file.at m.clock _ o end
      (λ at it. use_rows file kind at rows o end it) done
  use_one file (asks.Do request) json o end done = use_requested file request o end done
  use_one file (asks.Receipt number) json o end done =
      use_reported file (Receipt number) o end done
  use_one file (asks.Look lookup) json o end done = use_found file lookup json o end done

  abbrev pub use_of_file : (file : FilePlace) → (ask : AskWords) → (json : Bool)
      → (o : Outputs) → (end : CommandEnd)
      → IsAskedOfFile (over_files {g = disk}) with_file.at with_file.untouched m.texts m.clock
      file ask json o end → RunUse disk
  use_of_file file (ask_words.Import kind csv) json o end done =
      use_timed (with_file.untouched × m.texts.leaves) file.at m.clock _ o end
      (λ at it. use_imported file kind csv.now at o end it) done
  use_of_file file (ask_words.Ask ask) json o end (unread, done) =
      use_one file ask json o end done
  use_of_file file (ask_words.List list) json o end (unread, done) =
      use_shown file true list json o end done
  use_of_file file ask_words.Export json o end (unread, done) = use_reported file Sales o end done

  abbrev pub use_serving : (words : ServeWords) → (err_old err_new : Sink) → (end : CommandEnd)
      → IsServing (over_files {g = disk}) m.way with_file.at m.door m.clock words err_old
      err_new end → RunUse disk
  use_serving words err_old err_new end (serve_unopened fault fails leaves told ends) =
      use_refused fault fails
  use_serving words err_old err_new end
      (serve_unheard old opens finds last deaf leaves closes ends) =
      connected (of.image office words.file.now) (idle_life words.transform)
      (let_go (seen_in old).state (files_let_go (seen_in old) closes))
  use_serving words err_old err_new end (serve_open old opens finds were) =
      use_served m.way m.clock.reads (forward_of words.transform) seen_in
      (with_file.at words.file.now words.wait).loses ends_lost
      (with_file.at words.file.now words.wait).closes files_let_go words.connections
      (service were.listening old m.clock.answers) were.last were.left were.printed
      (of.image office words.file.now) were.served were.are_served were.closed

  abbrev pub use_audited : (words : AuditWords) → (o : Outputs) → (end : CommandEnd)
      → IsAudited (with_file.at words.file.now words.wait) (option_map forward_of words.transform)
      o end → RunUse disk
  use_audited words o end (audit_absent misses told) = unseen
  use_audited words o end (audit_unopened fault why told) = use_refused fault why
  use_audited words o end (audit_vacant (meets, vacant) told) =
      use_vacant (of.image office words.file.now) no_life vacant
  use_audited words o end (audit_looked answer meets audit told) =
      connected (of.image office words.file.now) no_life
      (let_go (file_state audit.last) (closed_files audit.closed))

  -- of an office at a desk nothing is seen
  abbrev pub use_of_office : (place : AskedPlace) → (ask : AskWords) → (json : Bool)
      → (o : Outputs) → (end : CommandEnd)
      → IsOfficeAsked (over_files {g = disk}) with_file place ask json o end → RunUse disk
  use_of_office (File file) ask json o end (offline, done) = use_of_file file ask json o end done
  use_of_office (Desk desk) ask json o end done = unseen

  -- what is asked for
  abbrev pub use_carried : (asked : Asked) → (o : Outputs) → (end : CommandEnd)
      → IsCarriedOut (over_files {g = disk}) with_file asked o end → RunUse disk
  use_carried (asked_for.Office words) o end done =
      use_of_office words.place words.ask words.json o end done
  use_carried (asked_for.Trial words) o end done = unseen
  use_carried (asked_for.Meter words) o end done = unseen
  use_carried (asked_for.Quote words) o end done = unseen
  use_carried (asked_for.Serve words) o end (left, (silent, done)) =
      use_serving words o.err_old o.err_new end done
  use_carried (asked_for.Selfcheck words) o end done = unseen
  use_carried (asked_for.Audit words) o end (shut, done) = use_audited words o end done

  -- a run, whatever its words are
  abbrev pub use_run : (words : List Text) → (o : Outputs) → (end : CommandEnd)
      → IsProgramRun (over_files {g = disk}) with_file words o end → RunUse disk
  use_run words o end (answered asked for done) = use_carried asked o end done
  use_run words o end (bad_word idle none asks_none told) = unseen
  use_run words o end (explained idle kind text among some says) = unseen
  use_run words o end (no_room idle told) = unseen
