-- What is known of what a run made of the file: the facts that all commands share.
use Rattle.std.proofs.Common.{◌≡◌, ◌∙◌, List, [], ◌++◌, Option, Some, None, refl, sym, subst}
use Rattle.std.specs.Prelude.{IfSome}
use Rattle.std.proofs.Math.Logic.{∥∥₁_map}
use Rattle.sqlite.specs.Closing.{IsCopied}
use Rattle.sqlite.specs.Files.{file_state}
use Rattle.sqlite.specs.Held.{Held}
use Rattle.sqlite.specs.State.{HasCleanDisk, State}
use Rattle.sqlite_disk.specs.declared.Disk as disk
use Rattle.sqlite_disk.specs.declared.Files.{Files}
use Rattle.sqlite_store.specs.Laws.{stays_at}
use Rattle.sqlite_store.specs.declared.store.FileStore.{FileStore}
use Rattle.sqlite_wal.proofs.LogLemmas.{SeenMayStay}
use Rattle.sqlite_wal.specs.Reads.{AreClean}
use Rattle.sqlite_wal.specs.Recovery.{Image}
use Rattle.vend_core.specs.Law.Life.{Life}
use Rattle.office_rules.specs.Office.{Office}
use Rattle.office_rules.specs.declared.decision.request.Request.{Request}
use Rattle.office_rules.specs.declared.decision.request.Request.TheVariants as requests
use Rattle.books.specs.Headline.{with_last}
use Rattle.books.specs.Keeps.{Seen}
use Rattle.office_commands.specs.office.Closed.{AreClosed, IsSeenAs}
use Rattle.office_commands.specs.office.Closed.AreClosed.{closed, unclosed}
use Rattle.office_commands.specs.office.Served.{TellsReply}
use Rattle.office_commands.specs.port.Back.{lets_go_giving}
use Rattle.office_commands.specs.declared.office.paper.Paper.{Paper}
use Rattle.office_commands.specs.declared.office.paper.Paper.TheVariants.{Receipt, Sales, Shift, Totals}
use Rattle.office_commands.specs.declared.port.ports.OfficeFile as file
use Rattle.vend_ports.specs.print.Told.{Outputs}
use Rattle.vend_ports.specs.declared.command_end.CommandEnd.{CommandEnd}
use Rattle.program_laws.specs.Courses.{Course, KeepsLast}
use Rattle.program_laws.specs.runs.Files.{AreFoundSo, EndsClean, FindsImage, IsClean, IsLeftBy, IsLetGoClean, LetsGoClean, MayHold, MayHoldAfter}
use Rattle.program_laws.specs.runs.Steps.{AsksIn, LivesIn}
use Rattle.program_laws.specs.runs.Uses.{RunEnding, RunQuestion, RunUse, unseen}
use Rattle.program_laws.proofs.RunsLemmas.KeptLemmas.{Kept, stays}

-- the lives that a run adds to those before
abbrev pub GoesOn : {M : Type 0} → {g : disk.Ghosts M} → (start : Office) → RunUse g → (Before : Image → Type 0) → List Life → Type 0
GoesOn start made Before lives = (own : List Life) × LivesIn made lives own × Kept start (MayHold made Before) (lives ++ own)

-- a paper asks this of an office: the report of a shift, or the sale of a receipt
abbrev pub Reports : Paper → Request → Type 0
Reports (Shift number) r = r ≡ requests.ShiftReport number
Reports (Receipt number) r = r ≡ requests.Reprint number
Reports (Totals number) r = ⊥
Reports Sales r = ⊥

-- ---- the files that are given back

-- what is given back of two files holds this
abbrev pub GivesBack : {M : Type 0} → (g : disk.Ghosts M) → (back : Option (M × M)) → (Holds : Image → Type 0) → Type 0
GivesBack {M} g back Holds = (log db : M) → back ≡ Some (log, db) → AreClean g log db → AreFoundSo g (record { log = log; db = db }) Holds

-- nothing is given back
pub none_given : {M : Type 0} (g : disk.Ghosts M) (back : Option (M × M)) (Holds : Image → Type 0) → back ≡ None → GivesBack g back Holds
none_given g back Holds none log db some clean = absurd (let never : None ≡ Some (log, db) = sym none ∙ some in cc)

-- a database file that was copied whole holds the last commit, which the connection might leave
copied_so : {M : Type 0} {g : disk.Ghosts M} → SeenMayStay g → (s : State) (conn : Held (FileStore M g)) (here : Files M) → IsSeenAs conn s → IsCopied conn here
    → AreFoundSo g here (IsLeftBy s)
copied_so stays s conn here seen copied =
    let trees = (file_state conn).committed.trees in
    let may : s.may_leave trees = seen.leaves trees (stays_at conn.store stays copied.was_open) in (
      ∥∥₁_map copied.seen.both (λ holds. (trees, may, holds)),
      λ image out. ∥∥₁_map (copied.left image out).both (λ holds. (trees, may, holds)),
    )

-- what is given back as a connection is closed holds what this might leave
pub closed_gives : {M S H : Type 0} {g : disk.Ghosts M} → SeenMayStay g → (of : file.Ghosts H M S) (back : Option (M × M)) (s : State)
    → AreClosed g (lets_go_giving of back) s → GivesBack g back (IsLeftBy s)
closed_gives {g = g} stays of back s (closed conn last here seen closes files copied gone) log db some clean =
    let is : (log, db) ≡ (here.log, here.db) = subst (λ b. IfSome b (λ it. it ≡ (here.log, here.db))) some gone.1 in
    let is_clean : AreClean g here.log here.db = subst (λ (f : _ × _). AreClean g f.0 f.1) is clean in
    subst (λ (f : _ × _). AreFoundSo g (record { log = f.0; db = f.1 }) (IsLeftBy s)) (sym is) (copied_so stays s conn here seen (copied is_clean))
closed_gives {g = g} stays of back s (unclosed conn last error seen closes fails gone) log db some clean = none_given g back (IsLeftBy s) gone.1 log db some clean

-- ---- what is known

-- Of a file that was lost: lives go on to what is left of it.
pub record LosesState {M : Type 0} {g : disk.Ghosts M} (start : Office) (old : Seen) (last : RunEnding g) : Type 0 where
  pub goes : EndsClean last → HasCleanDisk old.state
      × ((c : Course) → KeepsLast start c.over c.life old → ∥ Kept start (MayHoldAfter last) (with_last c.over c.life) ∥₁)
  pub clean : IsLetGoClean last → EndsClean last

-- What is known of it: by which lives it goes on from what was found; that what it asked was wanted, and what it told; that it found what its
-- ports can find, and had a clean disk where the files were clean that it let go; and what the files hold that it gave back.
pub record IsMade {M : Type 0} {g : disk.Ghosts M} (start : Office) (Before : Image → Type 0) (lives : List Life) (Holds : Type 0)
    (back : Option (M × M)) (Wants : Request → Type 0) (o : Outputs) (end : CommandEnd) (made : RunUse g) : Type 0 where
  pub goes : FindsImage made Before → IsClean made → Kept start Before lives → ∥ GoesOn start made Before lives ∥₁
  pub told : (q : RunQuestion) → AsksIn made q → Wants q.request × TellsReply q.reply o end
  pub finds : Holds → FindsImage made Before
  pub clean : LetsGoClean made → IsClean made
  pub given : GivesBack g back (MayHold made Before)

module _ {M : Type 0} {g : disk.Ghosts M} (start : Office) (Before : Image → Type 0) (lives : List Life) (Holds : Type 0)
    (back : Option (M × M)) (Wants : Request → Type 0) (o : Outputs) (end : CommandEnd) where
  -- a file of which nothing was seen
  pub unseen_made : back ≡ None → IsMade {g = g} start Before lives Holds back Wants o end unseen
  unseen_made none = record {
    goes = λ found clean kept. ∣ ([], refl, stays start Before lives kept) ∣₁;
    told = λ q asks. absurd asks;
    finds = λ holds. tt;
    clean = λ clean. tt;
    given = none_given g back Before none;
  }
