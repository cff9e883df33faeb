-- What is known of a writer.
use Rattle.std.specs.Prelude.{ℕ, Bool, List, Option}

-- the bytes that a writer holds, where they are known
abbrev pub Held : Type 0
Held = Option (List ℕ)

-- a writer: what it holds, whether a write to it has failed, and which one it is
pub record Sink : Type 0 where
  pub held : Held
  pub failed : Bool
  pub name : ℕ

-- a writer of which this is known
abbrev pub writer : Held → (failed : Bool) → (name : ℕ) → Sink
writer held failed name = record { held = held; failed = failed; name = name }
