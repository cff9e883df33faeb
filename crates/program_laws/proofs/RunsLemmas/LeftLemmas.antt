-- What is left of files to which no connection could be made, and of a file that a desk lost.
use Rattle.std.proofs.Common.{◌≡◌, ◌⊎◌, ◌∙◌, ℕ, List, [], ◌∷◌, Option, None, inl, inr, refl, sym, ap, subst, arith}
use Rattle.std.proofs.Math.Logic.{∥∥₁_elim, ∥∥₁_map}
use Rattle.sqlite.proofs.FileLemmas.{is_something}
use Rattle.sqlite.specs.Files.{HoldsDatabase, IsEmpty, IsNothing, LeavesFiles, file_state, image_of}
use Rattle.sqlite.specs.Held.{Held}
use Rattle.sqlite.specs.State.{HasCleanDisk, IsLive, Opens}
use Rattle.sqlite.specs.declared.file.Leftover.{Leftover}
use Rattle.sqlite.specs.declared.file.Leftover.TheVariants as leftover
use Rattle.sqlite_disk.specs.declared.Disk as disk
use Rattle.sqlite_disk.specs.declared.Files.{Files}
use Rattle.sqlite_store.specs.declared.store.FileStore.{FileStore}
use Rattle.sqlite_trees.specs.Objects.{catalog_tree}
use Rattle.sqlite_trees.specs.Tree.{Trees}
use Rattle.sqlite_trees.specs.View.{doubt}
use Rattle.sqlite_wal.specs.Files.{outcomes}
use Rattle.sqlite_wal.specs.Recovery.{Image}
use Rattle.vend_core.specs.Law.Life.{LeadTo, Life}
use Rattle.office_rules.specs.Office.{Office, empty_office}
use Rattle.book_opening.specs.declared.fault.OpenFault.{OpenFault}
use Rattle.books.specs.Found.{FindsOffice}
use Rattle.books.specs.Headline.{with_last}
use Rattle.books.specs.Keeps.{Seen, StoreStandsFor}
use Rattle.books.specs.Path.{StandsIn}
use Rattle.books.specs.declared.refused_files.RefusedFiles.TheVariants.{Connected, Unconnected}
use Rattle.office_commands.specs.office.Closed.{IsSeenAs}
use Rattle.office_commands.specs.office.Lost.{IsLeftOf, IsUnreopened, LosesNothing, RefusesNext}
use Rattle.office_commands.specs.office.Lost.IsUnreopened.{refused as lost_refused, unsalted as lost_unsalted}
use Rattle.office_commands.specs.declared.port.ports.SaltSource as source
use Rattle.program_laws.specs.Courses.{Course, KeepsLast}
use Rattle.program_laws.specs.runs.Files.{AreFoundSo, IsLeftBy, MayLeaveOf}
use Rattle.program_laws.specs.runs.Steps.{IsOf}
use Rattle.program_laws.specs.runs.Uses.{ends_lost}
use Rattle.program_laws.proofs.RunsLemmas.CleanLemmas.{clean_left, closed_clean, taken_clean}
use Rattle.program_laws.proofs.RunsLemmas.KeptLemmas.{Kept, Laws, kept_by, last_kept}
use Rattle.program_laws.proofs.RunsLemmas.MadeLemmas.{LosesState}

-- a list that is empty in some way is empty
none_listed : {X : Type 0} (xs : List X) → ∥ xs ≡ [] ∥₁ → xs ≡ []
none_listed [] is = refl
none_listed (x ∷ xs) is = absurd (∥∥₁_elim is (λ a b. absurd a) (λ (none : (x ∷ xs) ≡ []). let no : ⊥ = cc in no))

module _ {start : Office} (laws : Laws start) (Before : Image → Type 0) (lives : List Life) where
  -- an empty database in place of nothing stands for the empty office
  begun_stands : (before after : Image) → IsNothing before → ∥ ((db : Trees) × HoldsDatabase after db × IsEmpty db) ∥₁ → StandsIn after empty_office
  begun_stands before after nothing empty trees may =
      let is_none : (at : ℕ) → ((db : Trees) → IsEmpty db → db at ≡ []) → trees at ≡ [] =
      λ at of. none_listed (trees at) (∥∥₁_map empty (λ it. ap (λ (t : Trees). t at) (may.holds it.0 it.1) ∙ of it.0 it.2)) in
      let is_empty : IsEmpty trees = (λ tree low. is_none tree (λ db it. it.0 tree low), is_none catalog_tree (λ db it. it.1)) in
      laws.new before nothing trees (record { holds = λ db held. absurd (is_something before db held nothing); reads = inr (nothing, is_empty) })

  -- what stands for the empty office is of lives that lead to it
  of_none : (image : Image) → StandsIn image empty_office → LeadTo start lives empty_office → IsOf start lives image
  of_none image stands led = ∣ record { office = empty_office; stands = stands; lead = led; begins = λ nothing. led } ∣₁

  -- what a crash may leave of files to which no connection was made stands for what they stood for
  left_over : {D : Type 0} (g : disk.Ghosts D) (files : Files D) (rest : Leftover D g) → LeavesFiles files rest → Before (image_of g files)
      → ((image : Image) → outcomes g files.log files.db image → Before image) → Kept start Before lives
      → (image : Image) → MayLeaveOf {g = g} files rest image → IsOf start lives image
  left_over g files (leftover.Files now) leaves found may kept image left = kept.left image (may image (leaves image left))
  left_over g files (leftover.Store now) leaves found may kept image may_be = ∥∥₁_elim (kept.left (image_of g files) found) squash₁ (λ was.
      ∥∥₁_map may_be (λ left.
      let trees = left.0 in
      let holds = left.2 in
      let here = leaves trees left.1 in
      let finds : FindsOffice trees was.office = was.stands trees (record { holds = here.1; reads = here.0 }) in
      record {
        office = was.office;
        stands = λ t it. subst (λ (x : Trees). FindsOffice x was.office) (sym (it.holds trees holds)) finds;
        lead = was.lead;
        begins = λ nothing. absurd (is_something image trees holds nothing);
      }))
  left_over g files (leftover.Unopened now) (inr some) found may kept image (nothing, left) = absurd (some.0 nothing)
  left_over g files (leftover.Unopened now) (inl (none, leaves)) found may kept image (nothing, left) =
      ∥∥₁_elim (kept.left (image_of g files) found) squash₁ (λ was.
      let led = was.begins nothing in
      elim (leaves image left) [
        | inl old ↦ kept.left image (may image old)
        | inr (inl still) ↦ of_none image (laws.new image still) led
        | inr (inr empty) ↦ of_none image (begun_stands (image_of g files) image nothing empty) led
      ])

  -- so lives go on by an attempt to make a connection
  pub attempted : {D : Type 0} (g : disk.Ghosts D) (files : Files D) (rest : Leftover D g) → LeavesFiles files rest → AreFoundSo g files Before
      → Kept start Before lives → Kept start (λ image. Before image ⊎ MayLeaveOf {g = g} files rest image) lives
  attempted g files rest leaves found kept = record {
    lead = kept.lead;
    left = λ image may. elim may [
      | inl before ↦ kept.left image before
      | inr here ↦ left_over g files rest leaves found.0 found.1 kept image here
    ];
  }

-- ---- a file that is lost

module _ {start : Office} (laws : Laws start) {M : Type 0} {disk : disk.Ghosts M}
    (finds : (c : Held (FileStore M disk)) (o : Office) → Opens (file_state c) → IsLive (file_state c)
    → FindsOffice (file_state c).committed.trees o → StoreStandsFor (file_state c) o) (loses : LosesNothing disk) where
  -- a connection that was made again, over which no office was opened, leaves what the one before it might leave
  refused_again : (old : Seen) (fault : OpenFault) (conn last : Held (FileStore M disk)) → IsSeenAs conn old.state
      → RefusesNext conn fault last → HasCleanDisk (file_state last)
      → HasCleanDisk old.state × ((c : Course) → KeepsLast start c.over c.life old → ∥ Kept start (IsLeftBy (file_state last)) (with_last c.over c.life) ∥₁)
  refused_again old fault conn last seen why clean =
      let first = file_state why.first in
      let next = why.next (omega (arith, why.survives.clean, clean)) in (
        ap doubt seen.is_clean ∙ next.clean,
        λ c here. ∥∥₁_map next.left (λ may.
            let is = here.kept here.clean in
            let some = is.left first.committed.trees (seen.leaves first.committed.trees may) in
            let stands = (why.refuses clean).kept some.0 (finds why.first some.0 next.opens next.live (laws.shows first.committed.trees some.0 some.2)) in
            let led : LeadTo start (with_last c.over c.life) some.0 = laws.goes_on c.over c.life c.life.opening some.0 here.led is.is_life refl some.1 in
            kept_by laws (with_last c.over c.life) (file_state last) (some.0, led) (λ trees left. (some.0, stands.left trees left, led))),
      )

  -- so lives go on to what is left of a file that was not opened again
  pub lost_state : {S : Type 0} {salts : source.Ghosts S} {lets_go : M → M → Type 0} (old : Seen) (fault : OpenFault)
      (lost : IsUnreopened disk salts lets_go old fault) → LosesState start old (ends_lost old fault lost)
  lost_state old fault (lost_unsalted it lacks is conn seen left taken gone) = record {
    goes = λ clean. (clean, λ c here. ∣ last_kept laws c.over c.life old here ∣₁);
    clean = λ clean. ap doubt seen.is_clean ∙ taken_clean conn left taken clean;
  }
  lost_state old fault (lost_refused it salt draws conn seen (Connected last) why left taken gone) = record {
    goes = refused_again old fault conn last seen why;
    clean = λ clean. taken_clean last left taken clean;
  }
  lost_state old fault (lost_refused it salt draws conn seen (Unconnected rest) why left taken gone) =
      let lost = why.2 in
      let by_books : (image : Image) → IsLeftOf {g = disk} conn image → IsLeftBy old.state image =
      λ image may. ∥∥₁_map may (λ it. (it.0, seen.leaves it.0 it.1, it.2)) in
      record {
        goes = λ clean. (
          clean.0,
          λ c here.
              let holds = loses conn why.0 rest lost clean.1 in
              ∣ attempted laws (IsLeftBy old.state) (with_last c.over c.life) disk lost.here rest (lost.kept clean.2)
              (by_books (image_of disk lost.here) holds.present, λ image out. by_books image (holds.crash image out))
              (last_kept laws c.over c.life old here) ∣₁,
        );
        clean = λ clean. (
          ap doubt seen.is_clean ∙ closed_clean conn lost.last lost.here.log lost.here.db lost.closed lost.files clean.0,
          clean.0,
          clean_left rest clean.1,
        );
      }

-- nothing is given back of it
pub lost_none : {M S : Type 0} {disk : disk.Ghosts M} {salts : source.Ghosts S} {lets_go : M → M → Type 0} (back : Option (M × M))
    → ((log db : M) → lets_go log db → back ≡ None) → (old : Seen) (fault : OpenFault) → IsUnreopened disk salts lets_go old fault → back ≡ None
lost_none back none old fault (lost_unsalted it lacks is conn seen left taken gone) = none left.log left.db gone
lost_none back none old fault (lost_refused it salt draws conn seen refused why left taken gone) = none left.log left.db gone
