-- A clock.
use Rattle.std.specs.Prelude.{ℤ, List, Option}
use Rattle.conversation.specs.declared.clock.Clock as clocks

-- What is told of it: the answers that it has yet to give, where they are known, and of one that it
-- gave, that it was read.
pub record Dial : Type 1 where
  pub answers : Option (List ℤ)
  pub reads : ℤ → Type 0

abbrev pub dial_of : {C : Type 0} → clocks.Ghosts C → C → Dial
dial_of of clock = record { answers = of.answers clock; reads = of.reads clock }
