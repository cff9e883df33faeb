-- The one conversation of an input.
use Rattle.std.specs.Prelude.{◌≡◌, ℕ, ℤ, List, ◌++◌, map, Option}
use Rattle.conversation.specs.Conversation.{last_words, replies_of}
use Rattle.conversation.specs.Exchanges.{MessageExchange}
use Rattle.conversation.specs.message.Messages.{AgreeBy, Ending, Stop, ended}
use Rattle.desk.specs.Along.{Served}
use Rattle.desk.specs.Answering.{message_refusal_of}

-- what the clock gave for each
abbrev pub moments_of : List MessageExchange → List (Option ℤ)
moments_of xs = map (λ x. x.now) xs

-- what a desk writes in a conversation: the replies, and the last words where it ends so
abbrev pub conversation_text : List MessageExchange → Ending → List ℕ
conversation_text xs ending = replies_of xs ++ last_words message_refusal_of ending

-- Two conversations of an input that stops so are one: the same exchanges, by which the same is
-- asked at the same moments, and the same comes of it. Where the input ended they end alike, and
-- what is written is the same, to its last byte. Where its reader failed, one may end by the
-- refusal of what is no head, and the other without a word.
pub record IsOneConversation (stop : Stop) (xs ys : List MessageExchange) (e f : Ending)
    (served others : List Served) : Type 0 where
  pub exchanges : xs ≡ ys
  pub asked : served ≡ others
  pub ends : AgreeBy stop e f
  pub written : stop ≡ ended → conversation_text xs e ≡ conversation_text ys f
