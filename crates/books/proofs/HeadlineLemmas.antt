-- From what books keep to the lives of an office.
use Rattle.std.proofs.Common.{◌≡◌, ◌++◌, ◌∷◌, [], List, refl, inl}
use Rattle.sqlite_trees.specs.Tree.{Trees}
use Rattle.vend_core.specs.Law.Life.{AreLives, IsLife, Life, MayLeave, present}
use Rattle.office_rules.specs.Office.{Office}
use Rattle.books.specs.Headline.{RepresentTheLast, with_last}
use Rattle.book_states.specs.Stores.{RecoversTo}
use Rattle.books.specs.Keeps.{Seen}

module _ (goes_on : (lives : List Life) (life : Life) (o p : Office) → AreLives lives o → IsLife life → life.opening ≡ o → MayLeave life p
    → AreLives (lives ++ life ∷ []) p)
    (lives : List Life) (life : Life) (books : Seen) (h : RepresentTheLast lives life books) where
  -- the lives lead to each office that the last one may leave
  pub lead_to : (p : Office) → MayLeave life p → AreLives (with_last lives life) p
  lead_to p left = goes_on lives life life.opening p h.led (h.kept h.clean).is_life refl left

  -- the lives up to the present one lead to the office as it is now
  pub lead_on : AreLives (with_last lives life) (present life)
  lead_on = lead_to (present life) (inl refl)

  -- to the office that a crash may leave, too
  pub leave : (trees : Trees) → books.state.may_leave trees → (o : Office) × RecoversTo trees o × AreLives (with_last lives life) o
  leave trees left = let p = (h.kept h.clean).left trees left in (p.0, p.2, lead_to p.0 p.1)
