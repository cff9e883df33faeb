-- Whole replies, and what their first bytes are.
use Rattle.std.specs.Prelude.{◌≡◌, ◌≢◌, ◌+◌, ◌^◌, ◌<◌, ◌≤◌, ℕ, List, ◌++◌, length, decimal}
use Rattle.std.specs.Prelude.{Option, ⊤}
use Rattle.desk_client.specs.Start.{BeginsAs, IsDated, head_end, start_text}
use Rattle.desk_client.specs.Told.{IsStart, IsTellable, told_start, told_text}
use Rattle.desk_client.specs.declared.reply.Reading.{Reading}
use Rattle.desk_client.specs.declared.reply.Reading.TheVariants.{Whole, NeedHead, NeedBody}
use Rattle.desk_client.specs.declared.reply.Reading.TheVariants.{OutOfForm}
use Rattle.desk_client.specs.declared.start.Start.{Start}
use Rattle.desk_client.specs.declared.start.Start.TheVariants.{Json, Paper, Missing, Forbidden}
use Rattle.desk_client.specs.declared.start.Start.TheVariants.{Unfit, Unable}
use Rattle.desk_client.specs.declared.told.Told.{Told}
use Rattle.asks.specs.declared.endpoint.Grants.{Grants}

-- a start, the length of a body, perhaps a date, an empty line and what follows
abbrev pub head_bytes : Start → ℕ → Option (List ℕ) → List ℕ → List ℕ
head_bytes start len dated rest = start_text start ++ (decimal len ++ (head_end dated ++ rest))

-- the bytes of the whole reply that tells this, with a date or without
abbrev pub reply_text : Option (List ℕ) → Told → List ℕ
reply_text dated told =
    head_bytes (told_start told) (length (told_text told)) dated (told_text told)

-- the most bytes of a body, and more than any head has
abbrev pub longest_reply_body : ℕ
longest_reply_body = 67108864

abbrev pub longest_reply_head : ℕ
longest_reply_head = 140

-- the start is a refusal's
abbrev pub IsRefusing : Start → Type 0
IsRefusing Json = ⊥
IsRefusing Paper = ⊥
IsRefusing Missing = ⊤
IsRefusing Forbidden = ⊤
IsRefusing Unfit = ⊤
IsRefusing Unable = ⊤

-- the text is a whole reply to a message that wants this, whatever its date
pub record IsReply (asked : Grants) (text : List ℕ) (told : Told) : Type 0 where
  pub tellable : IsTellable asked told
  pub short : length (told_text told) ≤ longest_reply_body
  pub dated : Option (List ℕ)
  pub is_dated : IsDated dated
  pub is_text : text ≡ reply_text dated told

-- no head of a reply to what is asked stands at the front of the input
abbrev pub HasNoHead : Grants → List ℕ → Type 0
HasNoHead asked input =
    (start : Start) (len : ℕ) (dated : Option (List ℕ)) (rest : List ℕ)
    → IsStart asked start → len < 2 ^ 64 → IsDated dated
    → input ≢ head_bytes start len dated rest

-- the input begins as a reply to what is asked may begin
abbrev pub MayBegin : Grants → List ℕ → Type 0
MayBegin asked input = (start : Start) × IsStart asked start × BeginsAs input start

-- a head stands at the front of the input, and of its body, which may be read, so many bytes are
-- missing
pub record LacksBody (asked : Grants) (input : List ℕ) (missing : ℕ) : Type 0 where
  pub start : Start
  pub len : ℕ
  pub dated : Option (List ℕ)
  pub rest : List ℕ
  pub is_start : IsStart asked start
  pub is_dated : IsDated dated
  pub front : input ≡ head_bytes start len dated rest
  pub lacks : length rest + missing ≡ len
  pub few : len ≤ longest_reply_body

-- what each answer says of the bytes that came so far
abbrev pub IsReplyReading : Grants → List ℕ → Reading → Type 0
IsReplyReading asked input (Whole told) = IsReply asked input told
IsReplyReading asked input NeedHead =
    (length input < longest_reply_head)
    × ((told : Told) → ¬ IsReply asked input told)
    × HasNoHead asked input
    × MayBegin asked input
IsReplyReading asked input (NeedBody missing) =
    (0 < missing)
    × ((more : List ℕ) (told : Told) → IsReply asked (input ++ more) told → length more ≡ missing)
    × (length input + missing ≤ longest_reply_head + longest_reply_body)
    × LacksBody asked input missing
IsReplyReading asked input OutOfForm =
    (more : List ℕ) (told : Told) → ¬ IsReply asked (input ++ more) told
