-- An office that is opened again where its books have stopped.
use Rattle.std.specs.Prelude.{◌≡◌, ◌⊎◌, false, None}
use Rattle.book_opening.specs.Opening.{BringsTold}
use Rattle.book_tables.specs.Holds.{HasOffice}
use Rattle.book_tables.specs.format.Format.{HasFormat}
use Rattle.book_tables.specs.row.Rows.{present_format}
use Rattle.books.specs.Keeps.{RecoversTo, Represents, Seen}
use Rattle.one_table.specs.Committing.{LeavesMade}
use Rattle.sqlite.specs.Effect.{Database}
use Rattle.sqlite.specs.State.{HasCleanDisk, IsLive, Opens, State}
use Rattle.sqlite_trees.specs.Tree.{Trees}
use Rattle.sts_token.specs.Token.{BlockFunction}
use Rattle.vend_core.specs.Law.LifeLaws.{opened}
use Rattle.office_rules.specs.Office.{Office}

-- A connection was opened with what another one may have left, and a crash leaves nothing else. No
-- limit on the steps of a statement is set.
pub record IsNextOf (old new : State) : Type 0 where
  pub clean : HasCleanDisk old
  pub opens : Opens new
  pub live : IsLive new
  pub left : ∥ old.may_leave new.committed.trees ∥₁
  pub settled : (trees : Trees) → new.may_leave trees → trees ≡ new.committed.trees
  pub unlimited : new.step_limit ≡ None

-- The database of these trees is the one that is open now, or was brought to the present format.
-- Either way tables of other names stay as they are, and a crash leaves what it was or what it is.
pub record GoesOnFrom (trees : Trees) (now : State) : Type 0 where
  pub found : Database
  pub has : found.trees ≡ trees
  pub opens : BringsTold found now.now
      ⊎ (HasOffice found.schema × HasFormat found present_format × (now.now ≡ found))
  pub crash : (left : Trees) → now.may_leave left
      → (left ≡ trees) ⊎ LeavesMade BringsTold found left

-- books opened what others may have left: they keep the life that opens the office that this stands
-- for
abbrev pub OpensLeft : BlockFunction → (old new : Seen) → Type 0
OpensLeft forward old new = (trees : Trees) × old.state.may_leave trees
    × ((o : Office) → RecoversTo trees o → Represents (opened forward o) new)
    × GoesOnFrom trees new.state

-- the next life of an office began where others stopped
pub record IsNextLife (forward : BlockFunction) (old new : Seen) : Type 0 where
  pub clean : HasCleanDisk old.state
  pub left : ∥ OpensLeft forward old new ∥₁
  pub unlimited : new.state.step_limit ≡ None

-- the file of books was opened again, by others that go on: where a write failed, it still has
pub record IsReopened (forward : BlockFunction) (old new : Seen) : Type 0 where
  pub running : new.stopped ≡ false
  pub writes : new.write_failed ≡ old.write_failed
  pub next : HasCleanDisk new.state → IsNextLife forward old new
