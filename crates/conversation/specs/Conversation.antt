-- The conversation that an input has: its messages, answered one after another, and what is
-- written.
use Rattle.std.specs.Prelude.{◌≡◌, ℕ, ◌<◌, ◌⊎◌, Bool, true, false, List, [], ◌++◌, length, map, take}
use Rattle.std.specs.Prelude.{codes}
use Rattle.std.specs.List.{flat_map}
use Rattle.conversation.specs.declared.message.message_fault.MessageFault.{MessageFault}
use Rattle.conversation.specs.Exchanges.{MessageExchange, Exchanged, BeginsMessages}
use Rattle.conversation.specs.message.Messages.{Stop, ended, Message, BeginsMessage}
use Rattle.conversation.specs.message.Messages.{BeginsExpecting, IsTold}
use Rattle.conversation.specs.message.Messages.{IsMessageRefused, Ending, finished, closing, broken}
use Rattle.conversation.specs.message.Messages.{refused, Messages}

abbrev pub messages_of : List MessageExchange → List Message
messages_of xs = map (λ x. x.message) xs

-- the interim reply, by which the body of a message may be sent (RFC 9110, section 15.2.1)
unfoldable pub interim : List ℕ
interim = codes "HTTP/1.1 100 Continue\r\n\r\n"

-- what is written before the reply to a message that expects it, or doesn't
abbrev pub interim_for : Bool → List ℕ
interim_for true = interim
interim_for false = []

-- what is written for a message: the interim reply, if it expects one, and the reply
abbrev pub text_of : MessageExchange → List ℕ
text_of x = interim_for x.message.expects ++ x.reply

-- what is written for messages, one after another
abbrev pub replies_of : List MessageExchange → List ℕ
replies_of xs = flat_map text_of xs

-- what an ending adds to the replies: a message that is cut may have got an interim one
abbrev pub last_words : (MessageFault → List ℕ) → Ending → List ℕ
last_words refusal (refused fault) = refusal fault
last_words refusal (finished expects) = interim_for expects
last_words refusal closing = []
last_words refusal (broken expects) = interim_for expects

-- the messages of the input were exchanged for the text, from the old office to the new one
pub record Conversation
    {O : Type 0} (step : O → MessageExchange → O → Type 0) (refusal : MessageFault → List ℕ)
    (stop : Stop) (input : List ℕ) (old : O) (text : List ℕ) (ending : Ending) (new : O)
    : Type 0 where
  pub exchanges : List MessageExchange
  pub messages : Messages stop input (messages_of exchanges) ending
  pub served : Exchanged step old exchanges new
  pub text_is : text ≡ replies_of exchanges ++ last_words refusal ending

-- the messages at the front of the input were exchanged for the text, and the rest is left
pub record Progress
    {O : Type 0} (step : O → MessageExchange → O → Type 0)
    (input rest : List ℕ) (old : O) (text : List ℕ) (new : O) : Type 0 where
  pub exchanges : List MessageExchange
  pub begins : BeginsMessages input (messages_of exchanges) rest
  pub served : Exchanged step old exchanges new
  pub text_is : text ≡ replies_of exchanges

-- the text is what is written for the message at the front of the input
pub record IsMessageReply
    {O : Type 0} (step : O → MessageExchange → O → Type 0)
    (input : List ℕ) (old : O) (text : List ℕ) (new : O) : Type 0 where
  pub exchange : MessageExchange
  pub rest : List ℕ
  pub begins : BeginsMessage input exchange.message rest
  pub answered : step old exchange new
  pub text_is : text ≡ text_of exchange

-- the text refuses the front of the input, which ends there
pub record IsRefusal
    {O : Type 0} (refusal : MessageFault → List ℕ)
    (input : List ℕ) (old : O) (text : List ℕ) (new : O) : Type 0 where
  pub fault : MessageFault
  pub is_refused : IsMessageRefused ended input fault
  pub text_is : text ≡ refusal fault
  pub same : new ≡ old

-- the text is the interim reply to the message at the front of the input, which was not answered
-- yet
pub record IsInterim
    {O : Type 0} (input : List ℕ) (old : O) (text : List ℕ) (new : O) : Type 0 where
  pub expects : BeginsExpecting input
  pub text_is : text ≡ interim
  pub same : new ≡ old

-- the text is the next one that is written for the input
abbrev pub IsNextText : {O : Type 0} → (O → MessageExchange → O → Type 0)
    → (MessageFault → List ℕ) → List ℕ → O → List ℕ → O → Type 0
IsNextText step refusal input old text new =
    IsMessageReply step input old text new
    ⊎ (IsRefusal refusal input old text new ⊎ IsInterim input old text new)

-- a writer failed: it took the texts for some messages whole, and then a beginning of the next one
pub record IsCutOff
    {O : Type 0} (step : O → MessageExchange → O → Type 0) (refusal : MessageFault → List ℕ)
    (input : List ℕ) (old : O) (written : List ℕ) (new : O) : Type 0 where
  pub rest : List ℕ
  pub whole : List ℕ
  pub mid : O
  pub before : Progress step input rest old whole mid
  pub last : List ℕ
  pub is_last : IsNextText step refusal rest mid last new
  pub part : ℕ
  pub short : part < length last
  pub written_is : written ≡ whole ++ take part last

-- memory was short: the replies to some messages were written, and the next one may have been
-- answered; it may have got an interim reply, if it expects one
pub record IsGivenUp
    {O : Type 0} (step : O → MessageExchange → O → Type 0) (gave_up : O → Message → O → Type 0)
    (input : List ℕ) (old : O) (text : List ℕ) (new : O) : Type 0 where
  pub rest : List ℕ
  pub mid : O
  pub whole : List ℕ
  pub before : Progress step input rest old whole mid
  pub told : Bool
  pub expects : IsTold rest told
  pub text_is : text ≡ whole ++ interim_for told
  pub after : (new ≡ mid)
      ⊎ ((m : Message) × (after : List ℕ) × BeginsMessage rest m after × gave_up mid m new)
