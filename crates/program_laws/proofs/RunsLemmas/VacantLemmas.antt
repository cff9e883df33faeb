-- What a run made of a file that has none of the office's tables.
use Rattle.std.proofs.Common.{◌≡◌, Bool, true, false, List, [], ◌∷◌, ◌++◌, Option, None, Ok, Err, inl, inr, refl, sym, subst, append-nil, arith}
use Rattle.std.proofs.Math.Logic.{∥∥₁_map}
use Rattle.std.proofs.lemmas.List.Elements.{All-cons, All-nil}
use Rattle.std.specs.Prelude.{ℕ}
use Rattle.sqlite.specs.Files.{file_state}
use Rattle.sqlite.specs.Held.{Held}
use Rattle.sqlite.specs.State.{IsLive, Opens}
use Rattle.sqlite_disk.specs.declared.Disk as disk
use Rattle.sqlite_disk.specs.declared.Files.{Files}
use Rattle.sqlite_store.specs.declared.store.FileStore.{FileStore}
use Rattle.sqlite_wal.specs.Recovery.{Image}
use Rattle.papers.specs.Export.{export_of}
use Rattle.asks.specs.declared.lookup.Lookup.{Lookup}
use Rattle.vend_core.specs.Law.Life.{Exchange, IsLife, LeadTo, Life, present}
use Rattle.vend_core.specs.Law.LifeLaws.{extended_by, opened}
use Rattle.office_rules.specs.Decision.Requests.{IsStamped}
use Rattle.office_rules.specs.Decision.Fold.{after, replies_to}
use Rattle.office_rules.specs.Office.{Office, empty_office}
use Rattle.office_rules.specs.declared.decision.request.Request.{Request}
use Rattle.office_rules.specs.declared.decision.request.Request.TheVariants as requests
use Rattle.office_rules.specs.declared.decision.request.Stamped.{Stamped}
use Rattle.sts_fields.specs.Moment.{first_moment}
use Rattle.books.specs.Found.{FindsOffice}
use Rattle.books.specs.Keeps.{RecoversTo, StoreStandsFor}
use Rattle.command_line.specs.Transform.{forward_of, forward_range}
use Rattle.office_commands.specs.declared.office.paper.Paper.{Paper}
use Rattle.office_commands.specs.declared.office.paper.Paper.TheVariants.{Receipt, Sales, Shift, Totals}
use Rattle.command_line.specs.declared.transform.Shipped.TheVariants.{Plain}
use Rattle.office_commands.specs.commands.LookedUp.{ReadsEmpty}
use Rattle.office_commands.specs.commands.Reported.{PrintsEmpty, empty_reply}
use Rattle.office_commands.specs.office.Served.{TellsReply}
use Rattle.office_commands.specs.office.Vacant.{AreMeasured, IsVacant}
use Rattle.office_commands.specs.office.Vacant.IsVacant.{blank, without}
use Rattle.vend_ports.specs.print.Told.{Outputs}
use Rattle.vend_ports.specs.declared.command_end.CommandEnd.{CommandEnd}
use Rattle.program_laws.specs.runs.Files.{AreFoundSo, IsLeftBy, MayHoldAfter}
use Rattle.program_laws.specs.runs.Readings.{empty_reading}
use Rattle.program_laws.specs.runs.Steps.{AsksSo}
use Rattle.program_laws.specs.runs.Uses.{IsAskedLife, Living, LivesSo, RunQuestion, empty_question, left_blank, lives_empty, no_life, reading_life, use_vacant}
use Rattle.program_laws.proofs.RunsLemmas.CleanLemmas.{taken_clean}
use Rattle.program_laws.proofs.RunsLemmas.KeptLemmas.{Laws, kept_by}
use Rattle.program_laws.proofs.RunsLemmas.MadeLemmas.{IsMade, Reports, none_given}

-- ---- a life of the empty office

-- it was opened,
abbrev idle : Life
idle = opened (forward_of Plain) empty_office

abbrev IsStampedAt : Exchange → Type 0
IsStampedAt e = IsStamped e.request

idle_life : IsLife idle
unfolding replies_to
idle_life = record { range = forward_range Plain; stamped = All-nil IsStampedAt; replies = refl; stops = tt }

idle_empty : present idle ≡ empty_office
unfolding after
idle_empty = refl

-- and was asked this
abbrev first_asked : Request → Stamped
first_asked request = record { moment = first_moment; nibble = 1; nibble_in_range = omega arith; request = request }

abbrev asked : Request → Life
asked request = extended_by idle (first_asked request) (empty_reply request)

shift_life : (number : ℕ) → IsLife (asked (requests.ShiftReport number))
unfolding replies_to
shift_life number = record {
  range = forward_range Plain;
  stamped = All-cons IsStampedAt (record { request = first_asked (requests.ShiftReport number); reply = empty_reply (requests.ShiftReport number) }) []
      (record { moment = (omega arith, omega arith); request = tt }) (All-nil IsStampedAt);
  replies = refl;
  stops = tt;
}

sale_life : (number : ℕ) → IsLife (asked (requests.Reprint number))
unfolding replies_to
sale_life number = record {
  range = forward_range Plain;
  stamped = All-cons IsStampedAt (record { request = first_asked (requests.Reprint number); reply = empty_reply (requests.Reprint number) }) []
      (record { moment = (omega arith, omega arith); request = tt }) (All-nil IsStampedAt);
  replies = refl;
  stops = tt;
}

shift_empty : (number : ℕ) → present (asked (requests.ShiftReport number)) ≡ empty_office
unfolding after
shift_empty number = refl

sale_empty : (number : ℕ) → present (asked (requests.Reprint number)) ≡ empty_office
unfolding after
sale_empty number = refl

shift_asked : (number : ℕ) → IsAskedLife (empty_question (requests.ShiftReport number)) (asked (requests.ShiftReport number))
shift_asked number = record {
  at = first_asked (requests.ShiftReport number);
  at_moment = refl;
  for_request = refl;
  by_number = refl;
  life_is = refl;
  running = λ is. cc;
}

sale_asked : (number : ℕ) → IsAskedLife (empty_question (requests.Reprint number)) (asked (requests.Reprint number))
sale_asked number = record {
  at = first_asked (requests.Reprint number);
  at_moment = refl;
  for_request = refl;
  by_number = refl;
  life_is = refl;
  running = λ is. cc;
}

-- ---- lives that lead to the empty office

-- such lives go on by those that were lived so, and the office stays empty
abbrev pub StaysEmpty : Office → List Life → Living → Type 0
StaysEmpty start lives living = LeadTo start lives empty_office
    → (own : List Life) × LivesSo living lives own × LeadTo start (lives ++ own) empty_office

module _ {start : Office} (laws : Laws start) (lives : List Life) where
  on_by : LeadTo start lives empty_office → (life : Life) → IsLife life → life.opening ≡ empty_office → present life ≡ empty_office
      → LeadTo start (lives ++ life ∷ []) empty_office
  on_by led life is opening same = laws.goes_on lives life empty_office empty_office led is opening (inl (sym same))

  -- no life was lived
  pub not_lived : StaysEmpty start lives no_life
  not_lived led = ([], refl, subst (λ l. LeadTo start l empty_office) (sym (append-nil lives)) led)

  -- a paper was printed
  pub paper_empty : (paper : Paper) (o : Outputs) (end : CommandEnd) (done : PrintsEmpty paper o end)
      → StaysEmpty start lives (lives_empty paper o end done)
  unfolding after
  paper_empty (Shift number) o end done led =
      let life = asked (requests.ShiftReport number) in
      (life ∷ [], (life, shift_asked number, refl), on_by led life (shift_life number) refl (shift_empty number))
  paper_empty (Receipt number) o end done led =
      let life = asked (requests.Reprint number) in
      (life ∷ [], (life, sale_asked number, refl), on_by led life (sale_life number) refl (sale_empty number))
  paper_empty (Totals number) o end done led = (idle ∷ [], (empty_office, refl), on_by led idle idle_life refl idle_empty)
  paper_empty Sales o end (inl told) led =
      (idle ∷ [], (empty_office, ([], append-nil (export_of true [])), refl), on_by led idle idle_life refl idle_empty)
  paper_empty Sales o end (inr told) led =
      (idle ∷ [], (empty_office, (export_of true [], refl), refl), on_by led idle idle_life refl idle_empty)

  -- something was looked up, or listed
  pub reading_empty : (moment : ℕ) (paged : Bool) (lookup : Lookup) (json : Bool) (o : Outputs) (end : CommandEnd)
      (done : ReadsEmpty moment paged lookup json o end) → StaysEmpty start lives (reading_life moment (empty_reading moment paged lookup json o end done))
  unfolding after
  reading_empty moment false lookup json o end (found, finds, told) led =
      (idle ∷ [], (empty_office, inl finds, refl), on_by led idle idle_life refl idle_empty)
  reading_empty moment true list json o end (Ok page, finds, told) led =
      (idle ∷ [], (empty_office, (finds, refl), refl), on_by led idle idle_life refl idle_empty)
  reading_empty moment true list json o end (Err refusal, finds, told) led =
      (idle ∷ [], (empty_office, refl, refl), on_by led idle idle_life refl idle_empty)

-- a paper of the empty office that is asked for was told by its reply
pub empty_tells : (Wants : Request → Type 0) (paper : Paper) → ((r : Request) → Reports paper r → Wants r) → (o : Outputs) (end : CommandEnd)
    (done : PrintsEmpty paper o end) (q : RunQuestion) → AsksSo (lives_empty paper o end done) q → Wants q.request × TellsReply q.reply o end
empty_tells Wants (Shift number) wants o end done q is =
    subst (λ (p : RunQuestion). Wants p.request × TellsReply p.reply o end) (sym is) (wants (requests.ShiftReport number) refl, done)
empty_tells Wants (Receipt number) wants o end done q is =
    subst (λ (p : RunQuestion). Wants p.request × TellsReply p.reply o end) (sym is) (wants (requests.Reprint number) refl, done)
empty_tells Wants (Totals number) wants o end done q is = absurd is
empty_tells Wants Sales wants o end (inl told) q is = absurd is
empty_tells Wants Sales wants o end (inr told) q is = absurd is

-- ---- what was made

-- files of which only the lengths were taken hold what was found, and leave nothing else
pub measured_so : {M : Type 0} (disk : disk.Ghosts M) (Before : Image → Type 0) (meets : M → M → Type 0)
    → ((found : Files M) → meets found.log found.db → AreFoundSo disk found Before) → (files : Files M)
    → AreMeasured disk meets files.log files.db → AreFoundSo disk files Before
measured_so disk Before meets held files it =
    let so = held it.found it.met in (subst Before (sym it.seen) so.0, λ image out. so.1 image (it.crash image out))

module _ {start : Office} (laws : Laws start) (Before : Image → Type 0) (lives : List Life) {M : Type 0} {disk : disk.Ghosts M}
    (opens : (c : Held (FileStore M disk)) (o : Office) → Opens (file_state c) → IsLive (file_state c)
    → FindsOffice (file_state c).committed.trees o → StoreStandsFor (file_state c) o)
    (Holds : Type 0) (back : Option (M × M)) (Wants : Request → Type 0) (o : Outputs) (end : CommandEnd) where
  -- the file is as it was, and the empty office lived so
  pub vacant_made : (image : Image) {lets_go : M → M → Type 0} → (Holds → Before image) → ((log db : M) → lets_go log db → back ≡ None)
      → (living : Living) → StaysEmpty start lives living → ((q : RunQuestion) → AsksSo living q → Wants q.request × TellsReply q.reply o end)
      → (vacant : IsVacant disk image lets_go) → IsMade start Before lives Holds back Wants o end (use_vacant image living vacant)
  vacant_made image held ungiven living stays tells (blank left is gone) = record {
    goes = λ found clean kept. ∥∥₁_map (kept.left image found) (λ was.
        let own = stays (was.begins (is.nothing clean)) in (
          own.0,
          own.1,
          record {
            lead = (empty_office, own.2);
            left = λ after may. ∣ record {
              office = empty_office;
              stands = laws.new after (is.crash clean after may);
              lead = own.2;
              begins = λ nothing. own.2;
            } ∣₁;
          },
        ));
    told = tells;
    finds = held;
    clean = λ clean. clean;
    given = none_given disk back (MayHoldAfter {g = disk} (left_blank left)) (ungiven left.log left.db gone);
  }
  vacant_made image held ungiven living stays tells (without conn left is taken gone) = record {
    goes = λ found clean kept. ∥∥₁_map (kept.left image found) (λ was.
        let at = is.made.connected clean in
        let stands = opens conn was.office at.opens at.live (was.stands (file_state conn).committed.trees at.found) in
        let empty : was.office ≡ empty_office = is.only clean was.office was.stands in
        let own = stays (subst (λ (p : Office). LeadTo start lives p) empty was.lead) in (
          own.0,
          own.1,
          kept_by laws (lives ++ own.0) (file_state conn) (empty_office, own.2)
              (λ trees may. (empty_office, subst (λ (p : Office). RecoversTo trees p) empty (stands.left trees may), own.2)),
        ));
    told = tells;
    finds = held;
    clean = λ clean. taken_clean conn left taken clean;
    given = none_given disk back (IsLeftBy (file_state conn)) (ungiven left.log left.db gone);
  }
