-- What is left as it was.
use Rattle.std.specs.Prelude.{◌≡◌, IsTrue}
use Rattle.sqlite.specs.State.{State, Survives}

-- A connection that is open was open, and has what it had. It holds of one that is shut too, of
-- which nothing was read.
pub record IsSame (old new : State) : Type 0 where
  pub was_open : IsTrue new.is_open → IsTrue old.is_open
  pub now_is : IsTrue new.is_open → new.now ≡ old.now

-- the same, and a crash leaves nothing new
pub record ChangesNothing (old new : State) : Type 0 where
  pub same : IsSame old new
  pub survives : Survives old new (λ _. ⊥)
