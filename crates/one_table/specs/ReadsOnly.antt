-- What is left of what is only read.
use Rattle.std.specs.Prelude.{◌≡◌, false, Result, IfErr, OnErr, OnOk}
use Rattle.sqlite.specs.State.{HasCleanDisk, IsUnchanged, State, Survives}
use Rattle.one_table.specs.Answer.{IsLeft}

-- Where this is known of what is read: what is the same where the read succeeds; what is left where
-- it fails, and why it does; and that a crash leaves nothing else. In any case no transaction is
-- begun.
pub record ReadsOnly {T E : Type 0} (IsKnown : State → Type 0) (Same : State → State → Type 0)
    (Fails : State → State → E → Type 0) (old new : State) (result : Result T E) : Type 0 where
  pub same : HasCleanDisk new → IsKnown old → OnOk result (Same old new)
  pub kept : HasCleanDisk new → IsKnown old → OnErr result (IsLeft old new)
  pub mode : old.in_transaction ≡ false → new.in_transaction ≡ false
  pub faults : HasCleanDisk new → IsKnown old → IfErr result (Fails old new)
  pub survives : IsKnown old → Survives old new (λ _. ⊥)

-- The same inside a transaction, which `KeepsTransaction` says of any statement: what is only read
-- leaves the connection as it was, or it fails for a reason.
pub record ReadsInside {T E : Type 0} (IsKnown : State → Type 0)
    (Fails : State → State → E → Type 0) (old new : State) (result : Result T E) : Type 0 where
  pub same : HasCleanDisk new → IsKnown old → OnOk result (IsUnchanged old new)
  pub kept : HasCleanDisk new → IsKnown old → OnErr result (IsLeft old new)
  pub faults : HasCleanDisk new → IsKnown old → IfErr result (Fails old new)
