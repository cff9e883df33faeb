-- What two readings of one input have in common.
use Rattle.std.specs.Prelude.{◌≡◌, ℕ, List, [], ◌++◌}
use Rattle.std.specs.List.{flat_map}
use Rattle.conversation.specs.Conversation.{interim_for, last_words}
use Rattle.conversation.specs.Exchanges.{MessageExchange}
use Rattle.conversation.specs.message.Messages.{Ending, Message, Messages, ended}

-- what is written for a message that is replied to by its target
abbrev pub echo_of : Message → List ℕ
echo_of m = interim_for m.expects ++ m.target

-- the text is the targets of the input's messages, one after another, with the interim replies that
-- messages expect; a refusal is empty
pub record IsEchoed (input text : List ℕ) : Type 0 where
  pub messages : List Message
  pub ending : Ending
  pub are : Messages ended input messages ending
  pub text_is : text ≡ flat_map echo_of messages ++ last_words (λ _. []) ending

-- a message is replied to by its target, over no office
abbrev pub Echoes : {O : Type 0} → O → MessageExchange → O → Type 0
Echoes old exchange new = exchange.reply ≡ exchange.message.target
