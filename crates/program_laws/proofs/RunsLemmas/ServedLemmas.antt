-- The lives along connections that are served, and what is left behind the last one.
use Rattle.std.proofs.Common.{◌≡◌, ◌∙◌, ℕ, ℤ, zero, suc, Bool, true, false, List, [], ◌∷◌, ◌++◌, Option, None, Result, Ok, Err, inl, inr, refl, sym, ap, subst, append_assoc, append-nil}
use Rattle.std.proofs.Math.Logic.{∥∥₁_elim, ∥∥₁_map}
use Rattle.sqlite.specs.State.{HasCleanDisk}
use Rattle.sqlite_disk.specs.declared.Disk as disk
use Rattle.sqlite_disk.specs.declared.Files.{Files}
use Rattle.sqlite_wal.specs.Reads.{AreClean}
use Rattle.sqlite_wal.specs.Recovery.{Image}
use Rattle.sts_fields.specs.Text.{Text}
use Rattle.sts_token.specs.Token.{BlockFunction}
use Rattle.vend_core.specs.Law.Life.{LeadTo, Life}
use Rattle.vend_core.specs.Law.LifeLaws.{opened}
use Rattle.office_rules.specs.Office.{Office}
use Rattle.office_rules.specs.declared.decision.request.Request.{Request}
use Rattle.book_opening.specs.declared.fault.OpenFault.{OpenFault}
use Rattle.books.specs.Headline.{with_last}
use Rattle.books.specs.Keeps.{Represents, Seen}
use Rattle.books.specs.Path.{StandsIn}
use Rattle.vend_ports.specs.print.Told.{Outputs}
use Rattle.vend_ports.specs.declared.command_end.CommandEnd.{CommandEnd}
use Rattle.vend_commands.specs.port.Machines.{Way}
use Rattle.vend_commands.specs.serving.Connections.{AreHeld, AreReady, AreServed, Service, service}
use Rattle.vend_commands.specs.serving.Listening.{IsClosedAfter}
use Rattle.program_laws.specs.Courses.{AreLived, Course, IsNext, KeepsLast, course}
use Rattle.program_laws.specs.runs.Files.{IsLeftBy, MayHoldAfter}
use Rattle.program_laws.specs.runs.Uses.{AreCoursed, RunEnding, use_served}
use Rattle.program_laws.proofs.CourseLemmas.{live_on, next_course, ready_clean}
use Rattle.program_laws.proofs.RunsLemmas.KeptLemmas.{Kept, Laws, last_kept}
use Rattle.program_laws.proofs.RunsLemmas.MadeLemmas.{GivesBack, IsMade, LosesState, none_given}

-- the lives that are over are those from before, and then some
lived_over : {D R W : Type 0} (way : Way D R W) (forward : BlockFunction) (count : ℕ) (old new : Service D Course)
    → AreLived way forward count old new → (more : List Life) × (new.books.over ≡ old.books.over ++ more)
lived_over way forward zero old new same = ([], ap (λ s. s.books.over) same ∙ sym (append-nil old.books.over))
lived_over way forward (suc count) old new (mid, lived, (next, inl same, goes)) =
    let so_far = lived_over way forward count old mid lived in
    (so_far.0, goes.over ∙ (ap (λ (c : Course). c.over) same ∙ so_far.1))
lived_over way forward (suc count) old new (mid, lived, (next, inr (o, left, is), goes)) =
    let so_far = lived_over way forward count old mid lived in
    let last = mid.books.life ∷ [] in
    (so_far.0 ++ last, goes.over ∙ (ap (λ (c : Course). c.over) is ∙ (ap (λ l. l ++ last) so_far.1 ∙ append_assoc old.books.over so_far.0 last)))

-- so are all of them, with the one that goes on
next_own : (before more : List Life) (forward : BlockFunction) (last next : Course) → last.over ≡ before ++ more → IsNext forward last next
    → (own : List Life) × (before ++ own ≡ with_last next.over next.life)
next_own before more forward last next over (inl same) =
    let one = next.life ∷ [] in
    (more ++ one, sym (ap (λ l. l ++ one) (ap (λ (c : Course). c.over) same ∙ over) ∙ append_assoc before more one))
next_own before more forward last next over (inr (o, left, is)) =
    let one = next.life ∷ [] in
    let then = last.life ∷ [] in
    let all : next.over ≡ before ++ (more ++ then) = ap (λ (c : Course). c.over) is ∙ (ap (λ l. l ++ then) over ∙ append_assoc before more then) in
    ((more ++ then) ++ one, sym (ap (λ l. l ++ one) all ∙ append_assoc before (more ++ then) one))

module _ {D R W B : Type 0} (way : Way D R W) (gives : ℤ → Type 0) (forward : BlockFunction) (see : B → Seen) {start : Office} (laws : Laws start) where
  held_clean : (count : ℕ) (old new : Service D B) (printed : Text) → AreHeld way gives forward see count old new printed
      → HasCleanDisk (see new.books).state → HasCleanDisk (see old.books).state
  held_clean zero old new printed (same, none) clean = subst (λ (s : Service D B). HasCleanDisk (see s.books).state) same clean
  held_clean (suc count) old new printed (mid, before, held, (ready, are, one), all) clean =
      held_clean count old mid before held (ready_clean way forward see laws.goes_on mid.books ready are (one.clean clean))

  -- Lives go on along the connections to what is kept of the last one.
  coursed_on : (After : Image → Type 0) (lives : List Life) (count : ℕ) (old last : Service D B) (printed : Text)
      → AreHeld way gives forward see count old last printed → HasCleanDisk (see last.books).state
      → ((c : Course) → KeepsLast start c.over c.life (see last.books)
      → ∥ ((next : Course) × IsNext forward c next × Kept start After (with_last next.over next.life)) ∥₁)
      → (office : Office) → LeadTo start lives office → Represents (opened forward office) (see old.books)
      → ∥ ((own : List Life) × AreCoursed way forward count old.door old.answers last.door last.answers lives own × Kept start After (lives ++ own)) ∥₁
  coursed_on After lives count old last printed held clean follows office led begins =
      let first : Course = course lives (opened forward office) in
      ∥∥₁_elim (live_on way gives forward see laws.goes_on count old last printed held clean first
      (record { led = led; kept = begins; clean = held_clean count old last printed held clean })) squash₁ (λ lived.
      ∥∥₁_map (follows lived.0 lived.2) (λ next.
      let over = lived_over way forward count (service old.door first old.answers) (service last.door lived.0 last.answers) lived.1 in
      let own = next_own lives over.0 forward lived.0 next.0 over.1 next.1 in (
        own.0,
        (office, lived.0, next.0, lived.1, next.1, own.1),
        subst (λ l. Kept start After l) (sym own.1) next.2,
      )))

  module _ {M : Type 0} {disk : disk.Ghosts M} (Before : Image → Type 0) (back : Option (M × M)) (closes : Seen → Type 0)
      (loses : Seen → OpenFault → Type 0) (if_lost : (old : Seen) (fault : OpenFault) → loses old fault → RunEnding disk)
      (left : (books : Seen) → closes books → Files M) (lives : List Life)
      (Holds : Type 0) (Wants : Request → Type 0) (o : Outputs) (end : CommandEnd)
      (closed_so : (books : Seen) → closes books → GivesBack disk back (IsLeftBy books.state))
      (lost_so : (old : Seen) (fault : OpenFault) (lost : loses old fault) → LosesState start old (if_lost old fault lost))
      (none : (old : Seen) (fault : OpenFault) → loses old fault → back ≡ None)
      (cleans : (books : Seen) (closed : closes books) → AreClean disk (left books closed).log (left books closed).db → HasCleanDisk books.state)
      (image : Image) (held : Holds → Before image) (wanted : ℕ) (old : Service D B)
      (opens : (office : Office) → StandsIn image office → Represents (opened forward office) (see old.books))
      (door : D) (answers : Option (List ℤ)) (printed : Text) where
    -- what a run made that served connections
    pub served_made : (served : Result (B × Bool) OpenFault) (are : AreServed way gives forward see loses wanted old door answers served printed)
        (closed : IsClosedAfter (λ books. closes (see books)) served) → IsMade start Before lives Holds back Wants o end
        (use_served way gives forward see loses if_lost closes left wanted old door answers printed image served are closed)
    served_made (Ok (books, true)) are closed = record {
      goes = λ found clean kept. ∥∥₁_elim (kept.left image found) squash₁ (λ here.
          coursed_on (IsLeftBy (see books).state) lives wanted old (service door books answers) printed are clean
          (λ c last. ∣ (c, inl refl, last_kept laws c.over c.life (see books) last) ∣₁) here.office here.lead (opens here.office here.stands));
      told = λ q asks. absurd asks;
      finds = held;
      clean = cleans (see books) closed;
      given = closed_so (see books) closed;
    }
    served_made (Ok (books, false)) are closed =
        let ready = subst (λ (b : B). AreReady see forward are.last.books b) (sym are.unheld.books) are.are_ready in
        record {
          goes = λ found clean kept. ∥∥₁_elim (kept.left image found) squash₁ (λ here.
              coursed_on (IsLeftBy (see books).state) lives are.count old are.last are.before are.held
              (ready_clean way forward see laws.goes_on are.last.books books ready clean)
              (λ c last. ∥∥₁_map (next_course way forward see laws.goes_on are.last.books books ready clean c last)
              (λ next. (next.0, next.1, last_kept laws next.0.over next.0.life (see books) next.2))) here.office here.lead (opens here.office here.stands));
          told = λ q asks. absurd asks;
          finds = held;
          clean = cleans (see books) closed;
          given = closed_so (see books) closed;
        }
    served_made (Err fault) are closed =
        let last = if_lost (see are.last.books) fault are.lost.1 in
        let so = lost_so (see are.last.books) fault are.lost.1 in
        record {
          goes = λ found clean kept. ∥∥₁_elim (kept.left image found) squash₁ (λ here.
              let goes = so.goes clean in
              coursed_on (MayHoldAfter last) lives are.count old are.last printed are.held goes.0
              (λ c here. ∥∥₁_map (goes.1 c here) (λ kept. (c, inl refl, kept))) here.office here.lead (opens here.office here.stands));
          told = λ q asks. absurd asks;
          finds = held;
          clean = so.clean;
          given = none_given disk back (MayHoldAfter last) (none (see are.last.books) fault are.lost.1);
        }
