-- What a run made of a file that was not opened, and of one in which an office was visited.
use Rattle.std.proofs.Common.{◌≡◌, ◌∙◌, ℕ, ◌+◌, ◌%◌, Bool, true, false, List, [], ◌∷◌, ◌++◌, length, Option, None, refl, sym, ap, subst}
use Rattle.std.proofs.Math.Logic.{∥∥₁_map}
use Rattle.sqlite.specs.Files.{file_state, image_of, over_files}
use Rattle.sqlite.specs.State.{HasCleanDisk}
use Rattle.sqlite_disk.specs.declared.Disk as disk
use Rattle.sqlite_disk.specs.declared.Files.{Files}
use Rattle.sqlite_store.specs.declared.store.FileStore.{FileStore}
use Rattle.sqlite_trees.specs.declared.store.Store.{Ghosts}
use Rattle.sqlite_wal.specs.Reads.{AreClean}
use Rattle.sqlite_wal.specs.Recovery.{Image}
use Rattle.sts_fields.specs.Moment.{first_moment}
use Rattle.asks.specs.declared.lookup.Lookup.{Lookup}
use Rattle.vend_core.specs.Law.Life.{LeadTo, Life}
use Rattle.vend_core.specs.Law.LifeLaws.{extended_by, opened}
use Rattle.office_rules.specs.Office.{Office}
use Rattle.office_rules.specs.declared.decision.request.Request.{Request}
use Rattle.office_rules.specs.declared.decision.request.Request.TheVariants as requests
use Rattle.book_opening.specs.declared.fault.OpenFault.{OpenFault}
use Rattle.books.specs.Keeps.{Represents, Seen}
use Rattle.books.specs.Path.{StandsIn}
use Rattle.books.specs.declared.books.Books.{Books}
use Rattle.books.specs.declared.refused_files.RefusedFiles.TheVariants.{Connected, Unconnected}
use Rattle.command_line.specs.Transform.{forward_of, shipped}
use Rattle.office_commands.specs.declared.office.paper.Paper.{Paper}
use Rattle.office_commands.specs.declared.office.paper.Paper.TheVariants.{Receipt, Sales, Shift, Totals}
use Rattle.command_line.specs.declared.transform.Shipped.{Shipped}
use Rattle.command_line.specs.declared.transform.Shipped.TheVariants.{Plain}
use Rattle.office_commands.specs.commands.LookedUp.{IsRead}
use Rattle.office_commands.specs.commands.Reported.{PrintsPaper}
use Rattle.office_commands.specs.office.Served.{IsServedAndTold, TellsReply}
use Rattle.office_commands.specs.office.Visited.{IsOpenedAt, IsVisited, seen_in}
use Rattle.office_commands.specs.office.Visited.IsVisited.{unopened as visit_unopened, visited as visit_opened}
use Rattle.office_commands.specs.port.Places.{IsUnopened, Place}
use Rattle.office_commands.specs.port.Places.IsUnopened.{unfound, unopened as found_unopened}
use Rattle.office_commands.specs.port.Places.IsUnopenedIn.{refused, unread, unsalted}
use Rattle.office_commands.specs.declared.port.ports.SaltSource as source
use Rattle.vend_ports.specs.print.Told.{Outputs}
use Rattle.vend_ports.specs.declared.command_end.CommandEnd.{CommandEnd}
use Rattle.program_laws.specs.runs.Files.{AreFoundSo, IsLeftBy, MayHold}
use Rattle.program_laws.specs.runs.Readings.{IsReadIn, reading_of}
use Rattle.program_laws.specs.runs.Steps.{AsksSo}
use Rattle.program_laws.specs.runs.Uses.{Living, LivesSo, RunQuestion, RunUse, idle_life, lives_asking, lives_printing, reading_life, unconnected, use_refused, use_visited}
use Rattle.program_laws.proofs.RunsLemmas.CleanLemmas.{clean_left, taken_clean}
use Rattle.program_laws.proofs.RunsLemmas.KeptLemmas.{Kept, Laws, none_more, one_more, stays}
use Rattle.program_laws.proofs.RunsLemmas.LeftLemmas.{attempted}
use Rattle.program_laws.proofs.RunsLemmas.MadeLemmas.{GivesBack, IsMade, Reports, none_given, unseen_made}
use Rattle.program_laws.proofs.SellLemmas.{now_is}

-- ---- one life of a visit

-- the life that books lived in a visit, behind others, and what is left of it
abbrev pub LivedOne : (start : Office) → List Life → Living → Seen → Type 0
LivedOne start lives living new = (own : List Life) × LivesSo living lives own × Kept start (IsLeftBy new.state) (lives ++ own)

-- what was read was so in the present office of each life, which the books keep
is_read : (life : Life) (moment : ℕ) (paged : Bool) (lookup : Lookup) (json : Bool) (o : Outputs) (end : CommandEnd) (old new : Seen)
    (done : IsRead moment paged lookup json old new o end) → HasCleanDisk new.state → Represents life old
    → IsReadIn life moment (reading_of moment paged lookup json old new o end done)
is_read life moment false lookup json o end old new done clean kept = done.is_found clean life kept
is_read life moment true list json o end old new done clean kept = done.are clean life kept

read_keeps : (moment : ℕ) (paged : Bool) (lookup : Lookup) (json : Bool) (o : Outputs) (end : CommandEnd) (old new : Seen)
    → IsRead moment paged lookup json old new o end → (life : Life) → Represents life old → Represents life new
read_keeps moment false lookup json o end old new done = done.reads.keeps
read_keeps moment true list json o end old new done = done.reads.keeps

module _ {start : Office} (laws : Laws start) (lives : List Life) {S : Type 0} {store : Ghosts S} (place : Place) where
  module _ {transform : Shipped} where
    -- a request was served
    pub asked_on : (moment : ℕ) (request : Request) (o : Outputs) (end : CommandEnd) (old new : Books S Shipped store shipped)
        (begins : IsOpenedAt place transform old) (done : IsServedAndTold moment request (seen_in old) (seen_in new) o end)
        → HasCleanDisk (seen_in new).state → (office : Office) → StandsIn place.image office → LeadTo start lives office
        → LivedOne start lives (lives_asking transform moment request o end (seen_in old) (seen_in new) done) (seen_in new)
    asked_on moment request o end old new begins done clean office stands led =
        let forward = forward_of transform in
        let at = done.replied.0 in
        let asked = done.replied.1 in
        let replies = done.replied.2 in
        let life : Life = extended_by (opened forward office) at done.reply in
        let running = (begins.opens office stands (replies.clean clean)).running begins.running in (
          life ∷ [],
          (
            life,
            record {
              at = at;
              at_moment = asked.at_moment;
              for_request = asked.for_request;
              by_number = asked.by_number ∙ ap (λ n. n % 16) (running.next
                  ∙ ap (λ (p : Office). length p.sales + 1) (sym (now_is forward office running.present running.running)));
              life_is = refl;
              running = λ stopped. let was = replies.stopped.0 stopped in let runs = begins.running in cc;
            },
            refl,
          ),
          one_more laws lives (seen_in new) office led life refl (replies.keeps (opened forward office) (begins.opens office stands) clean),
        )

    -- nothing was asked, and the books keep what they kept
    pub idle_on : (old new : Books S Shipped store shipped) → IsOpenedAt place transform old
        → ((life : Life) → Represents life (seen_in old) → Represents life (seen_in new)) → HasCleanDisk (seen_in new).state
        → (office : Office) → StandsIn place.image office → LeadTo start lives office → LivedOne start lives (idle_life transform) (seen_in new)
    idle_on old new begins keeps clean office stands led =
        let life : Life = opened (forward_of transform) office in
        (life ∷ [], (office, refl), one_more laws lives (seen_in new) office led life refl (keeps life (begins.opens office stands) clean))

  -- a paper was printed
  pub printed_on : (paper : Paper) (o : Outputs) (end : CommandEnd) (old new : Books S Shipped store shipped)
      (begins : IsOpenedAt place Plain old) (done : PrintsPaper paper (seen_in old) (seen_in new) o end)
      → HasCleanDisk (seen_in new).state → (office : Office) → StandsIn place.image office → LeadTo start lives office
      → LivedOne start lives (lives_printing paper o end (seen_in old) (seen_in new) done) (seen_in new)
  printed_on (Shift number) o end old new begins done clean office stands led =
      asked_on first_moment (requests.ShiftReport number) o end old new begins done clean office stands led
  printed_on (Receipt number) o end old new begins done clean office stands led =
      asked_on first_moment (requests.Reprint number) o end old new begins done clean office stands led
  printed_on (Totals number) o end old new begins done clean office stands led = idle_on old new begins done.reads.keeps clean office stands led
  printed_on Sales o end old new begins done clean office stands led =
      let life : Life = opened (forward_of Plain) office in
      let kept = begins.opens office stands in (
        life ∷ [],
        (office, (done.sales clean life kept).begins, refl),
        one_more laws lives (seen_in new) office led life refl (done.reads.keeps life kept clean),
      )

  -- something was looked up, or listed
  pub looked_on : (moment : ℕ) (paged : Bool) (lookup : Lookup) (json : Bool) (o : Outputs) (end : CommandEnd) (old new : Books S Shipped store shipped)
      (begins : IsOpenedAt place Plain old) (done : IsRead moment paged lookup json (seen_in old) (seen_in new) o end)
      → HasCleanDisk (seen_in new).state → (office : Office) → StandsIn place.image office → LeadTo start lives office
      → LivedOne start lives (reading_life moment (reading_of moment paged lookup json (seen_in old) (seen_in new) o end done)) (seen_in new)
  looked_on moment paged lookup json o end old new begins done clean office stands led =
      let life : Life = opened (forward_of Plain) office in
      let kept = begins.opens office stands in (
        life ∷ [],
        (office, is_read life moment paged lookup json o end (seen_in old) (seen_in new) done clean kept, refl),
        one_more laws lives (seen_in new) office led life refl (read_keeps moment paged lookup json o end (seen_in old) (seen_in new) done life kept clean),
      )

module _ (Wants : Request → Type 0) where
  -- a request was told by its reply
  pub asked_tells : (transform : Shipped) (moment : ℕ) (request : Request) → Wants request → (o : Outputs) (end : CommandEnd) (old new : Seen)
      (done : IsServedAndTold moment request old new o end) (q : RunQuestion)
      → AsksSo (lives_asking transform moment request o end old new done) q → Wants q.request × TellsReply q.reply o end
  asked_tells transform moment request wants o end old new done q is =
      subst (λ (p : RunQuestion). Wants p.request × TellsReply p.reply o end) (sym is) (wants, done.told)

  -- so was a paper that is asked for
  pub printed_tells : (paper : Paper) → ((r : Request) → Reports paper r → Wants r) → (o : Outputs) (end : CommandEnd) (old new : Seen)
      (done : PrintsPaper paper old new o end) (q : RunQuestion) → AsksSo (lives_printing paper o end old new done) q
      → Wants q.request × TellsReply q.reply o end
  printed_tells (Shift number) wants o end old new done q is =
      asked_tells Plain first_moment (requests.ShiftReport number) (wants (requests.ShiftReport number) refl) o end old new done q is
  printed_tells (Receipt number) wants o end old new done q is =
      asked_tells Plain first_moment (requests.Reprint number) (wants (requests.Reprint number) refl) o end old new done q is
  printed_tells (Totals number) wants o end old new done q is = absurd is
  printed_tells Sales wants o end old new done q is = absurd is

-- ---- what a visit made, and a refusal

module _ {start : Office} (laws : Laws start) (Before : Image → Type 0) (lives : List Life) {M : Type 0} {disk : disk.Ghosts M}
    (Holds : Type 0) (back : Option (M × M)) (Wants : Request → Type 0) (o : Outputs) (end : CommandEnd) where
  -- what is known of what was made, on this disk
  abbrev pub Made : RunUse disk → Type 0
  Made made = IsMade start Before lives Holds back Wants o end made

  -- no office was opened
  pub refused_made : {S : Type 0} {salts : source.Ghosts S} {finds lets_go : M → M → Type 0} {fails : OpenFault → Type 0}
      → (Holds → (found : Files M) → finds found.log found.db → AreFoundSo disk found Before)
      → ((fault : OpenFault) → fails fault → back ≡ None) → ((log db : M) → lets_go log db → back ≡ None)
      → (fault : OpenFault) (why : IsUnopened disk salts finds lets_go fails fault) → Made (use_refused fault why)
  refused_made held unmade ungiven fault (unfound none) = unseen_made start Before lives Holds back Wants o end (unmade fault none)
  refused_made held unmade ungiven fault (found_unopened files finds (unread before more is gone)) =
      unseen_made start Before lives Holds back Wants o end (ungiven files.log files.db gone)
  refused_made held unmade ungiven fault (found_unopened files finds (unsalted it lacks is gone)) =
      unseen_made start Before lives Holds back Wants o end (ungiven files.log files.db gone)
  refused_made held unmade ungiven fault (found_unopened files finds (refused left (Connected last) why taken gone)) = record {
    goes = λ found clean kept. ∥∥₁_map (kept.left (image_of disk files) found) (λ here.
        let stands = why.kept clean here.office here.stands in
        ([], refl, none_more laws lives (file_state last) here.office here.lead (λ trees may. stands.left trees may)));
    told = λ q asks. absurd asks;
    finds = λ holds. (held holds files finds).0;
    clean = λ clean. taken_clean last left taken clean;
    given = none_given disk back (IsLeftBy (file_state last)) (ungiven left.log left.db gone);
  }
  refused_made held unmade ungiven fault (found_unopened files finds (refused left (Unconnected rest) why taken gone)) = record {
    goes = λ found clean kept.
        ∣ ([], refl, stays start (MayHold (unconnected files rest) Before) lives (attempted laws Before lives disk files rest (why.kept clean) found kept)) ∣₁;
    told = λ q asks. absurd asks;
    finds = λ holds. held holds files finds;
    clean = λ clean. clean_left rest clean;
    given = none_given disk back (MayHold (unconnected files rest) Before) (ungiven left.log left.db gone);
  }

  module _ (place : Place) {transform : Shipped} where
    -- a visit, where it is known what is done there
    pub visited_made : (Does : (old new : Seen) → Type 0) (if_refused : (fault : OpenFault) → place.fails fault → RunUse disk)
        (living : (old new : Seen) → Does old new → Living) (left : (books : Seen) → place.closes books → Files M)
        → ((fault : OpenFault) (why : place.fails fault) → Made (if_refused fault why)) → (Holds → place.finds → Before place.image)
        → ((books : Seen) → place.closes books → GivesBack disk back (IsLeftBy books.state))
        → ((books : Seen) (closes : place.closes books) → AreClean disk (left books closes).log (left books closes).db → HasCleanDisk books.state)
        → ((old new : Books (FileStore M disk) Shipped (over_files {g = disk}) shipped) (begins : IsOpenedAt place transform old)
        (does : Does (seen_in old) (seen_in new)) → HasCleanDisk (seen_in new).state → (office : Office) → StandsIn place.image office
        → LeadTo start lives office → LivedOne start lives (living (seen_in old) (seen_in new) does) (seen_in new))
        → ((old new : Seen) (does : Does old new) (q : RunQuestion) → AsksSo (living old new does) q → Wants q.request × TellsReply q.reply o end)
        → (visit : IsVisited (over_files {g = disk}) place transform Does o end) → Made (use_visited if_refused living left visit)
    visited_made Does if_refused living left refused_is held gives cleans lived tells (visit_unopened fault fails told) = refused_is fault fails
    visited_made Does if_refused living left refused_is held gives cleans lived tells (visit_opened old new begins finds does closes) = record {
      goes = λ found clean kept. ∥∥₁_map (kept.left place.image found) (λ here. lived old new begins does clean here.office here.stands here.lead);
      told = tells (seen_in old) (seen_in new) does;
      finds = λ holds. held holds finds;
      clean = cleans (seen_in new) closes;
      given = gives (seen_in new) closes;
    }
