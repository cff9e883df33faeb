-- What lives lead to, and what a connection leaves that was let go.
use Rattle.std.proofs.Common.{◌≡◌, List, [], ◌∷◌, ◌++◌, inl, refl, sym, subst, append-nil}
use Rattle.std.proofs.Math.Logic.{∥∥₁_map}
use Rattle.sqlite.proofs.FileLemmas.{is_something}
use Rattle.sqlite.specs.Files.{HoldsDatabase, IsNothing}
use Rattle.sqlite.specs.State.{State}
use Rattle.sqlite_trees.specs.Tree.{Trees}
use Rattle.sqlite_wal.specs.Recovery.{Image}
use Rattle.vend_core.specs.Law.Life.{IsLife, LeadTo, Life, MayLeave, present}
use Rattle.office_rules.specs.Office.{Office, empty_office}
use Rattle.books.specs.Found.{FindsOffice}
use Rattle.books.specs.Keeps.{IsRepresented, RecoversTo, Seen}
use Rattle.books.specs.Path.{StandsIn}
use Rattle.program_laws.specs.Courses.{KeepsLast}
use Rattle.program_laws.specs.runs.Files.{IsLeftBy}
use Rattle.program_laws.specs.runs.Steps.{IsOf, IsOfOffice}

-- that lives go on, and that what is left is found
pub record Laws (start : Office) : Type 0 where
  pub new : (image : Image) → IsNothing image → StandsIn image empty_office
  pub goes_on : (lives : List Life) (life : Life) (o p : Office) → LeadTo start lives o → IsLife life → life.opening ≡ o → MayLeave life p
      → LeadTo start (lives ++ life ∷ []) p
  pub held : (image : Image) (trees : Trees) (o : Office) → HoldsDatabase image trees → RecoversTo trees o → StandsIn image o
  pub shows : (trees : Trees) (o : Office) → RecoversTo trees o → FindsOffice trees o

-- these lives lead on, and whatever the file may hold is of them
pub record Kept (start : Office) (Before : Image → Type 0) (lives : List Life) : Type 0 where
  pub lead : (o : Office) × LeadTo start lives o
  pub left : (image : Image) → Before image → IsOf start lives image

-- what is kept of some lives is kept of these and no more
pub stays : (start : Office) (Before : Image → Type 0) (lives : List Life) → Kept start Before lives → Kept start Before (lives ++ [])
stays start Before lives kept = subst (λ l. Kept start Before l) (sym (append-nil lives)) kept

module _ {start : Office} (laws : Laws start) where
  -- a database that is left is of lives that lead to its office
  pub of_left : (lives : List Life) (image : Image) (trees : Trees) (o : Office) → HoldsDatabase image trees → RecoversTo trees o → LeadTo start lives o
      → IsOfOffice start lives image
  of_left lives image trees o holds recovers led = record {
    office = o;
    stands = laws.held image trees o holds recovers;
    lead = led;
    begins = λ nothing. absurd (is_something image trees holds nothing);
  }

  -- so is what a connection leaves whose every outcome is of them
  pub kept_by : (lives : List Life) (s : State) → (o : Office) × LeadTo start lives o
      → ((trees : Trees) → s.may_leave trees → (p : Office) × RecoversTo trees p × LeadTo start lives p) → Kept start (IsLeftBy s) lives
  kept_by lives s lead recovers = record {
    lead = lead;
    left = λ after left. ∥∥₁_map left (λ may.
        let some = recovers may.0 may.1 in
        of_left lives after may.0 some.0 may.2 some.1 some.2);
  }

  -- one life more, of books that were let go
  pub one_more : (lives : List Life) (books : Seen) (o : Office) → LeadTo start lives o → (life : Life) → life.opening ≡ o
      → IsRepresented life books → Kept start (IsLeftBy books.state) (lives ++ life ∷ [])
  one_more lives books o led life opening kept =
      kept_by (lives ++ life ∷ []) books.state (present life, laws.goes_on lives life o (present life) led kept.is_life opening (inl refl)) (λ trees may.
      let some = kept.left trees may in
      (some.0, some.2, laws.goes_on lives life o some.0 led kept.is_life opening some.1))

  -- so do books that keep the last of some lives
  pub last_kept : (over : List Life) (life : Life) (books : Seen) → KeepsLast start over life books → Kept start (IsLeftBy books.state) (over ++ life ∷ [])
  last_kept over life books here = one_more over books life.opening here.led life refl (here.kept here.clean)

  -- none more: what is left stands for the office that was found
  pub none_more : (lives : List Life) (s : State) (o : Office) → LeadTo start lives o → ((trees : Trees) → s.may_leave trees → RecoversTo trees o)
      → Kept start (IsLeftBy s) (lives ++ [])
  none_more lives s o led recovers = stays start (IsLeftBy s) lives (kept_by lives s (o, led) (λ trees may. (o, recovers trees may, led)))
