-- An exchange with a desk: messages, one after another, and what comes of each.
use Rattle.std.specs.Prelude.{◌≡◌, ◌⊎◌, ⊤, ◌<◌, ◌≤◌, ◌+◌, ℕ, Bool, true, false, List, [], ◌∷◌, ◌++◌}
use Rattle.std.specs.Prelude.{length, take, Option, Some, None}
use Rattle.std.specs.Io.KnownBytes.{Appends, Consumes, Keeps}
use Rattle.command_line.specs.declared.address.Address.{Address}
use Rattle.desk_client.specs.Reply.{longest_reply_body, longest_reply_head}
use Rattle.sts_fields.specs.Text.{Text}
use Rattle.vend_ports.specs.print.Sink.{Held}
use Rattle.vend_ports.specs.declared.port.loopback.Loopback as loopback

-- a message that a desk was sent, and what came then
pub record Round : Type 0 where
  pub message : Text
  pub came : Text

-- the rounds of one message
abbrev pub one_round : (message came : Text) → List Round
one_round message came = record { message = message; came = came } ∷ []

-- What connections with desks tell: that one was had on which these rounds were held, each message
-- sent whole and nothing more; that one was had on which a message behind these rounds was cut off;
-- and that none could be had.
pub record Calls : Type 1 where
  pub exchanges : Address → List Round → Type 0
  pub breaks : Address → List Round → (message : Text) → Type 0
  pub misses : Address → Type 0

-- a message was sent on a stream, and then these bytes came on it
pub record IsRound {S : Type 0} (remaining contents : S → Held) (fresh last : S)
    (message came : Text) : Type 0 where
  pub sent : S
  pub wrote : Appends (contents fresh) (contents sent) message
  pub read : Consumes (remaining sent) (remaining last) came

-- a beginning of a message was sent on a stream, and not all of it
abbrev pub IsCutOff : {S : Type 0} → (contents : S → Held) → (fresh last : S) → (message : Text)
    → Type 0
IsCutOff contents fresh last message =
    (count : ℕ) × (count < length message)
    × Appends (contents fresh) (contents last) (take count message)

-- rounds on a stream, one after another
abbrev pub AreRounds : {S : Type 0} → (remaining contents : S → Held) → List Round
    → (fresh last : S) → Type 0
AreRounds remaining contents [] fresh last = last ≡ fresh
AreRounds {S = S} remaining contents (round ∷ rounds) fresh last =
    (between : S) × IsRound remaining contents fresh between round.message round.came
    × AreRounds remaining contents rounds between last

-- a connection was had, these rounds were held on it, and it was let go then
pub record Exchanges {N S : Type 0} (of : loopback.Ghosts N S) (remaining contents : S → Held)
    (net : N) (desk : Address) (rounds : List Round) : Type 0 where
  pub fresh : S
  pub last : S
  pub calls : of.calls net desk fresh
  pub held : AreRounds remaining contents rounds fresh last
  pub ended : of.ends S last

-- a connection was had, these rounds were held on it, a message was cut off behind them, and it was
-- let go then
pub record Breaks {N S : Type 0} (of : loopback.Ghosts N S) (remaining contents : S → Held)
    (net : N) (desk : Address) (rounds : List Round) (message : Text) : Type 0 where
  pub fresh : S
  pub between : S
  pub last : S
  pub calls : of.calls net desk fresh
  pub held : AreRounds remaining contents rounds fresh between
  pub cut : IsCutOff contents between last message
  pub ended : of.ends S last

abbrev pub calls_of : {N S : Type 0} → loopback.Ghosts N S → (remaining contents : S → Held) → N
    → Calls
calls_of of remaining contents net = record {
  exchanges = Exchanges of remaining contents net;
  breaks = Breaks of remaining contents net;
  misses = of.misses net;
}

-- the most bytes that are read of a reply
abbrev pub longest_reply : ℕ
longest_reply = longest_reply_head + longest_reply_body

-- some bytes came behind those that were there, or none did
abbrev pub ComesBehind : (unread left : Held) → (old new : List ℕ) → (some : Bool) → Type 0
ComesBehind unread left old new true =
    (came : List ℕ) × Consumes unread left came × (new ≡ old ++ came)
ComesBehind unread left old new false = Keeps unread left × (new ≡ old)

-- some bytes came, for which there was no room
abbrev pub IsRead : (unread left : Held) → Type 0
IsRead unread left = (came : List ℕ) × Consumes unread left came

-- a message was cut off on a stream; or it was sent whole, and there was no room for what came
abbrev pub IsUnheld : {S : Type 0} → (remaining contents : S → Held) → (fresh last : S)
    → (message : Text) → Type 0
IsUnheld remaining contents fresh last message = IsCutOff contents fresh last message
    ⊎ ((came : Text) × IsRound remaining contents fresh last message came)

-- why there is nothing to look at that came of a message behind these rounds: there was no
-- connection; or the message was cut off; or it was sent whole, and there was no room for what came
pub data IsUnsent (calls : Calls) (desk : Address) (rounds : List Round) (message : Text)
    : Type 0 where
  unreached : calls.misses desk → rounds ≡ [] → IsUnsent calls desk rounds message
  unsent : calls.breaks desk rounds message → IsUnsent calls desk rounds message
  unread : (came : Text) → calls.exchanges desk (rounds ++ one_round message came)
      → IsUnsent calls desk rounds message

-- the desk was sent one message, and this came; or why there is nothing to look at
abbrev pub IsExchanged : {A : Type 0} → (A → Text) → Calls → Address → (message : Text)
    → Option A → Type 0
IsExchanged bytes calls desk message (Some came) =
    calls.exchanges desk (one_round message (bytes came))
IsExchanged bytes calls desk message None = IsUnsent calls desk [] message
