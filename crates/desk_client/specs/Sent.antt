-- The message of an ask, as it is sent.
use Rattle.std.specs.Prelude.{◌≢◌, ℕ, ℤ, pos, ◌≤◌, List, length, ⊤}
use Rattle.conversation.specs.message.Framing.{longest_body}
use Rattle.sts_fields.specs.Moment.{IsMoment}
use Rattle.asks.specs.Ask.{IsAskable, body_of, row_by, target_of}
use Rattle.asks.specs.Parts.{parts_of}
use Rattle.asks.specs.declared.ask.Ask.{Ask}
use Rattle.asks.specs.declared.ask.Bulk.{Bulk}
use Rattle.asks.specs.declared.ask.Bulk.TheVariants.{Nothing, Rows, Steps}
use Rattle.asks.specs.declared.endpoint.Grants.{Grants}
use Rattle.desk_client.specs.Message.{message_bytes}

-- the bytes of the message of an ask
abbrev pub ask_text : Ask → List ℕ
ask_text ask = message_bytes (row_by ask).method (target_of ask) (body_of ask)

-- what the reply is to tell, where what is asked is granted
abbrev pub wanted_by : Ask → Grants
wanted_by ask = (row_by ask).grants

-- the rows of a file fit into a body; values and steps are short enough
abbrev pub FitsBody : Bulk → Type 0
FitsBody Nothing = ⊤
FitsBody (Rows csv) = length csv ≤ longest_body
FitsBody (Steps steps) = ⊤

-- an ask that can be sent: a message can have it, and its file fits into a body
pub record CanSend (ask : Ask) : Type 0 where
  pub askable : IsAskable ask
  pub fits : FitsBody (parts_of ask).bulk

-- the clock gave a second that is no moment of an office
abbrev pub IsNoMoment : ℤ → Type 0
IsNoMoment second = (moment : ℕ) → IsMoment moment → pos moment ≢ second
