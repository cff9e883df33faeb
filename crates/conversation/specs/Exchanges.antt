-- What is exchanged in a conversation: messages and replies, and what answering does to the office.
--
-- An office is any type of values. How one answers is a relation `step`, between the office before
-- an exchange and the office after it.
use Rattle.std.specs.Prelude.{◌≡◌, ℕ, ℤ, ◌⊎◌, false, List, [], ◌∷◌, Option, None, Some, IfSome}
use Rattle.conversation.specs.Clock.{Gives}
use Rattle.conversation.specs.message.Messages.{Message, BeginsMessage}

-- a message, what the clock gave for it, if it was read, and the bytes of the reply
pub record MessageExchange : Type 0 where
  pub message : Message
  pub now : Option ℤ
  pub reply : List ℕ

-- what may be read of a clock for one message
abbrev pub ReadsClock : Option (List ℤ) → Option ℤ → Option (List ℤ) → Type 0
ReadsClock old None new = new ≡ old
ReadsClock old (Some now) new = Gives old now new

-- an office with the answers of a clock, where they are known
abbrev pub Timed : Type 0 → Type 0
Timed O = O × Option (List ℤ)

-- the office answered, by what its clock gave
abbrev pub timed : {O : Type 0} → (O → MessageExchange → O → Type 0) → Timed O → MessageExchange
    → Timed O → Type 0
timed step old x new = step old.0 x new.0 × ReadsClock old.1 x.now new.1

-- the office answered, and the moment, where the clock was read for it, is one that it gives
abbrev pub clocked : {O : Type 0} → (gives : ℤ → Type 0) → (O → MessageExchange → O → Type 0) → O
    → MessageExchange → O → Type 0
clocked gives step old x new = step old x new × IfSome x.now gives

-- the office gave up on the reply to this message: it is as before, or answered it all the same
abbrev pub GaveUp : {O : Type 0} → (O → MessageExchange → O → Type 0) → Timed O → Message
    → Timed O → Type 0
GaveUp step old message new =
    (now : Option ℤ) × ReadsClock old.1 now new.1
    × ((new.0 ≡ old.0)
    ⊎ ((reply : List ℕ)
    × step old.0 (record { message = message; now = now; reply = reply }) new.0))

-- one exchange after another, each once, from one office to another
abbrev pub Exchanged : {O : Type 0} → (O → MessageExchange → O → Type 0) → O
    → List MessageExchange → O → Type 0
Exchanged step old [] new = new ≡ old
Exchanged {O} step old (x ∷ xs) new = (mid : O) × step old x mid × Exchanged step mid xs new

-- the input begins with these messages, of which none ends the conversation, and the rest follows
abbrev pub BeginsMessages : List ℕ → List Message → List ℕ → Type 0
BeginsMessages input [] rest = input ≡ rest
BeginsMessages input (m ∷ ms) rest =
    (after : List ℕ) × BeginsMessage input m after × (m.closes ≡ false)
    × BeginsMessages after ms rest
