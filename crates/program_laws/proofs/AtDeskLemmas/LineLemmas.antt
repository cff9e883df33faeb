-- A conversation over what one ask sends is one exchange, that of the ask.
use Rattle.std.proofs.Common.{◌≡◌, ◌∙◌, ℕ, ℤ, pos, false, List, [], ◌∷◌, ◌++◌, Option, None, Some, inl, inr, refl, sym, ap, subst, append-nil}
use Rattle.vend_core.specs.Law.Life.{Life}
use Rattle.asks.specs.Ask.{message_of}
use Rattle.asks.specs.declared.ask.Ask.{Ask}
use Rattle.conversation.specs.Conversation.{Conversation, last_words, messages_of, replies_of, text_of}
use Rattle.conversation.specs.Exchanges.{Exchanged, MessageExchange, Timed, timed}
use Rattle.conversation.specs.message.Messages.{BeginsMessage, Ending, Message, Messages, ended, finished}
use Rattle.conversation.proofs.InterimLemmas.{reply_alone}
use Rattle.conversation.proofs.ReadingLemmas.{one_reading}
use Rattle.desk.specs.Answering.{Comes, answers_by, life_serves, message_refusal_of}
use Rattle.desk_messages.specs.Meaning.{MessageHasFault}
use Rattle.desk_messages.specs.declared.desk_fault.DeskFault.{DeskFault}
use Rattle.desk_messages.specs.declared.desk_fault.DeskFault.TheVariants as faults
use Rattle.desk_messages.specs.declared.reply.outcome.Outcome.{Outcome}
use Rattle.desk_client.specs.Sent.{CanSend, ask_text}
use Rattle.program_laws.specs.AtDesk.{IsAnsweredAt}
use Rattle.program_laws.proofs.AtDeskLemmas.OneLemmas.{DeskLaws}

-- no message has a fault without the clock
fault_read : (m : Message) (fault : DeskFault) → ¬ MessageHasFault m None fault
fault_read m faults.NoRoute (names, (second, given)) = absurd cc
fault_read m (faults.Method allowed) (is, (second, given)) = absurd cc
fault_read m faults.Clock (kind, values, is, outside) = let none : None ≡ Some outside.second = outside.given in absurd cc
fault_read m faults.Body (kind, values, moment, body, comes) = let none : None ≡ Some (pos moment) = comes.given in absurd cc

-- so whatever came of one, the clock was read for it
pub clock_read : (m : Message) (outcome : Outcome) (old new : Life) → ¬ Comes life_serves m None outcome old new
clock_read m outcome old new (inl (fault, has, is, same)) = fault_read m fault has
clock_read m outcome old new (inr (moment, ask, asks, serves)) = let none : None ≡ Some (pos moment) = asks.comes.given in absurd cc

module _ (laws : DeskLaws) (ask : Ask) (can : CanSend ask) where
  -- an exchange of its message was one at a second of the clock
  at_second : (old new : Timed Life) (came : List ℕ) (x : MessageExchange) (now : Option ℤ) → x.now ≡ now → x.message ≡ message_of ask
      → timed (answers_by life_serves) old x new
      → came ≡ x.reply → (second : ℤ) × IsAnsweredAt second old (ask_text ask) came new
  at_second old new came x (Some second) given message answered whole = (
    second,
    record {
      exchange = x;
      read =
          subst (λ (m : Message). BeginsMessage (ask_text ask) m []) (sym message)
          (subst (λ (text : List ℕ). BeginsMessage text (message_of ask) []) (append-nil (ask_text ask)) (laws.sent ask [] can));
      given = given;
      answered = answered;
      whole = whole;
    },
  )
  at_second old new came x None given message answered whole =
      absurd (clock_read x.message answered.0.0 old.0 new.0 (subst (λ (now : Option ℤ). Comes life_serves x.message now answered.0.0 old.0 new.0) given answered.0.1))

  -- its bytes are one message, and then nothing
  whole_message : Messages ended (ask_text ask) (message_of ask ∷ []) (finished false)
  whole_message = ([], subst (λ (text : List ℕ). BeginsMessage text (message_of ask) []) (append-nil (ask_text ask)) (laws.sent ask [] can), inl (refl, refl))

  one_exchange : (old new : Timed Life) (came : List ℕ) (xs : List MessageExchange) → messages_of xs ≡ message_of ask ∷ []
      → Exchanged (timed (answers_by life_serves)) old xs new
      → came ≡ replies_of xs → (second : ℤ) × IsAnsweredAt second old (ask_text ask) came new
  one_exchange old new came [] messages served text = absurd cc
  one_exchange old new came (x ∷ y ∷ xs) messages served text = absurd cc
  one_exchange old new came (x ∷ []) messages (mid, step, same) text =
      let message : x.message ≡ message_of ask = cc in
      at_second old new came x x.now refl message (subst (λ (o : Timed Life). timed (answers_by life_serves) old x o) (sym same) step)
      (text ∙ append-nil (text_of x) ∙ reply_alone x (ap (λ (m : Message). m.expects) message))

  -- where a desk read just these bytes, and all that it wrote came, it answered the ask
  pub line_answers : (old new : Timed Life) (came : List ℕ) (ending : Ending)
      → Conversation (timed (answers_by life_serves)) message_refusal_of ended (ask_text ask) old came ending new
      → (second : ℤ) × IsAnsweredAt second old (ask_text ask) came new
  line_answers old new came ending held =
      let same = one_reading ended (ask_text ask) (messages_of held.exchanges) (message_of ask ∷ []) ending (finished false) held.messages whole_message in
      let words : last_words message_refusal_of ending ≡ [] = ap (λ e. last_words message_refusal_of e) same.1 in
      one_exchange old new came held.exchanges same.0 held.served
      (held.text_is ∙ ap (λ (text : List ℕ). replies_of held.exchanges ++ text) words ∙ append-nil (replies_of held.exchanges))
