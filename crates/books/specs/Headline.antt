-- The lives of an office of which books keep the last one.
use Rattle.std.specs.Prelude.{List, [], ◌∷◌, ◌++◌}
use Rattle.sqlite.specs.State.{HasCleanDisk}
use Rattle.sqlite_trees.specs.declared.store.Store.{Ghosts}
use Rattle.sts_token.specs.declared.transform.BlockTransform as block
use Rattle.vend_core.specs.Law.Life.{AreLives, Life, present}
use Rattle.office_rules.specs.Office.{Office}
use Rattle.books.specs.Keeps.{Represents, Seen, seen}
use Rattle.books.specs.declared.books.Books.{Books}

-- Books keep this life, after others that lead from the empty office to the one that it opened, and
-- the disk has returned what was written.
pub record RepresentTheLast (lives : List Life) (life : Life) (books : Seen) : Type 0 where
  pub led : AreLives lives life.opening
  pub kept : Represents life books
  pub clean : HasCleanDisk books.state

-- all of them
abbrev pub with_last : List Life → Life → List Life
with_last lives life = lives ++ life ∷ []

-- This holds of all lives of which books over such a store and with such a transform keep the last
-- one, of the present office, and of what is seen of the books.
abbrev pub OverLives : {S T : Type 0} → Ghosts S → block.Ghosts T
    → (List Life → Office → Seen → Type 0) → Type 0
OverLives {S} {T} store transform Holds =
    (lives : List Life) (life : Life) (books : Books S T store transform)
    → RepresentTheLast lives life (seen books)
    → Holds (with_last lives life) (present life) (seen books)
