-- What a writer holds after a text was handed to it.
use Rattle.std.specs.Prelude.{◌≡◌, ℕ, ◌<◌, ⊤, List, length, take, Option, Result, Ok, Err}
use Rattle.std.specs.Io.KnownBytes.{Appends, Keeps}
use Rattle.papers.specs.declared.fault.TextFault.{TextFault}
use Rattle.papers.specs.declared.fault.TextFault.TheVariants.{Memory, Write}

-- a fault leaves what the writer held: as it was for want of memory, and else with a beginning of
-- the text behind it, but not all of it
abbrev pub IsLeftByFault : Option (List ℕ) → Option (List ℕ) → List ℕ → TextFault → Type 0
IsLeftByFault old new text Memory = Keeps old new
IsLeftByFault old new text Write = (n : ℕ) × (n < length text) × Appends old new (take n text)

-- the text stands whole behind what the writer held, or it failed and left that
abbrev pub IsWritten : {A : Type 0} → Option (List ℕ) → Option (List ℕ) → List ℕ
    → Result A TextFault → Type 0
IsWritten old new text (Ok _) = Appends old new text
IsWritten old new text (Err fault) = IsLeftByFault old new text fault

-- a write of some bytes failed, or took none of them
abbrev pub TakesNothing : {E : Type 0} → List ℕ → Result ℕ E → Type 0
TakesNothing text (Ok taken) = (0 < length text) × (taken ≡ 0)
TakesNothing text (Err _) = ⊤

-- where a text was not handed over for the writer's sake, a write to it failed or took no byte
abbrev pub BlamesWriter : {A : Type 0} → Result A TextFault → Type 0 → Type 0
BlamesWriter (Ok _) failed = ⊤
BlamesWriter (Err Memory) failed = ⊤
BlamesWriter (Err Write) failed = failed
