-- Messages that are answered one after another, and what that comes to.
use Rattle.std.proofs.Common.{◌≡◌, ℕ, Bool, false, List, [], ◌∷◌, ◌++◌, take, refl, ap, sym, subst, ◌∙◌, append_assoc, append-nil}
use Rattle.std.specs.Prelude.{MatchBool}
use Rattle.std.proofs.lemmas.List.{map-append}
use Rattle.std.proofs.lemmas.Grind.{flat_map-append}
use Rattle.conversation.specs.declared.message.message_fault.MessageFault.{MessageFault}
use Rattle.conversation.specs.Conversation.{interim_for, messages_of, replies_of, last_words, text_of, Conversation, Progress, IsCutOff, IsGivenUp}
use Rattle.conversation.specs.Exchanges.{MessageExchange, Exchanged, BeginsMessages}
use Rattle.conversation.specs.message.Messages.{Stop, Message, BeginsMessage, Ending, closing, Messages}
use Rattle.conversation.proofs.MessageLemmas.{BeginsWith-append}

-- how a message and its reply lead from one state to the next
abbrev pub Step : Type 0 → Type 1
Step O = O → MessageExchange → O → Type 0

-- a message at the front of an input is still there when more input follows
pub BeginsMessage-append : (input : List ℕ) (m : Message) (after more : List ℕ) → BeginsMessage input m after
    → BeginsMessage (input ++ more) m (after ++ more)
BeginsMessage-append input m after more x = record {
  head = x.head;
  begins = rw (← append_assoc m.body after more) (BeginsWith-append input x.head (m.body ++ after) more x.begins);
  target = x.target;
  framed = x.framed;
}

BeginsMessages-append : (input : List ℕ) (ms : List Message) (rest more : List ℕ) → BeginsMessages input ms rest
    → BeginsMessages (input ++ more) ms (rest ++ more)
BeginsMessages-append input [] rest more x = ap (λ bytes. bytes ++ more) x
BeginsMessages-append input (m ∷ ms) rest more x =
    (x.0 ++ more, BeginsMessage-append input m x.0 more x.1, x.2, BeginsMessages-append x.0 ms rest more x.3)

BeginsMessages-trans : (a : List ℕ) (ms : List Message) (b : List ℕ) (ns : List Message) (c : List ℕ) → BeginsMessages a ms b
    → BeginsMessages b ns c → BeginsMessages a (ms ++ ns) c
BeginsMessages-trans a [] b ns c x y = subst (λ bytes. BeginsMessages bytes ns c) (sym x) y
BeginsMessages-trans a (m ∷ ms) b ns c x y = (x.0, x.1, x.2, BeginsMessages-trans x.0 ms b ns c x.3 y)

Exchanged-trans : {O : Type 0} (step : O → MessageExchange → O → Type 0) (a : O) (xs : List MessageExchange) (b : O) (ys : List MessageExchange) (c : O)
    → Exchanged step a xs b → Exchanged step b ys c → Exchanged step a (xs ++ ys) c
Exchanged-trans step a [] b ys c x y = subst (λ o. Exchanged step o ys c) x y
Exchanged-trans step a (e ∷ xs) b ys c x y = (x.0, x.1, Exchanged-trans step x.0 xs b ys c x.2 y)

-- messages that were answered, and those of the rest
Messages-after : (stop : Stop) (input : List ℕ) (ms : List Message) (rest : List ℕ) (ns : List Message) (ending : Ending)
    → BeginsMessages input ms rest → Messages stop rest ns ending → Messages stop input (ms ++ ns) ending
Messages-after stop input [] rest ns ending x y = subst (λ bytes. Messages stop bytes ns ending) (sym x) y
Messages-after stop input (m ∷ ms) rest ns ending x y =
    let later = Messages-after stop x.0 ms rest ns ending x.3 y in
    (x.0, x.1, subst (λ (b : Bool). MatchBool b ((ms ++ ns ≡ []) × (ending ≡ closing)) (Messages stop x.0 (ms ++ ns) ending)) (sym x.2) later)

messages_of-append : (xs ys : List MessageExchange) → messages_of (xs ++ ys) ≡ messages_of xs ++ messages_of ys
messages_of-append = map-append _

replies_of-append : (xs ys : List MessageExchange) → replies_of (xs ++ ys) ≡ replies_of xs ++ replies_of ys
replies_of-append = flat_map-append _

-- where nothing was answered, the whole input is left
pub progress_none : {O : Type 0} (step : O → MessageExchange → O → Type 0) (input : List ℕ) (old : O) → Progress step input input old [] old
progress_none step input old = record { exchanges = []; begins = refl; served = refl; text_is = refl }

-- an answered message that does not close the conversation is progress by what is written for it
pub progress_one : {O : Type 0} (step : O → MessageExchange → O → Type 0) (input : List ℕ) (m : Message) (after : List ℕ) (x : MessageExchange) (old new : O)
    → BeginsMessage input m after → m.closes ≡ false → x.message ≡ m → step old x new → Progress step input after old (text_of x) new
progress_one step input m after x old new begins goes_on same answered = record {
  exchanges = x ∷ [];
  begins = (after, subst (λ n. BeginsMessage input n after) (sym same) begins, ap (λ n. n.closes) same ∙ goes_on, refl);
  served = (new, answered, refl);
  text_is = sym (append-nil (text_of x));
}

-- messages that were answered, and then more of what they left, are progress together
pub progress_trans : {O : Type 0} (step : O → MessageExchange → O → Type 0) (a b c : List ℕ) (old mid new : O) (first second : List ℕ)
    → Progress step a b old first mid → Progress step b c mid second new → Progress step a c old (first ++ second) new
progress_trans step a b c old mid new first second x y = record {
  exchanges = x.exchanges ++ y.exchanges;
  begins = rw messages_of-append (BeginsMessages-trans a _ b _ c x.begins y.begins);
  served = Exchanged-trans step old x.exchanges mid y.exchanges new x.served y.served;
  text_is = ap (λ bytes. bytes ++ second) x.text_is ∙ ap (λ bytes. replies_of x.exchanges ++ bytes) y.text_is ∙ sym (replies_of-append x.exchanges y.exchanges);
}

-- what was answered stays so when more input follows, which is left too
pub progress-append : {O : Type 0} (step : O → MessageExchange → O → Type 0) (input rest more : List ℕ) (old new : O) (text : List ℕ)
    → Progress step input rest old text new → Progress step (input ++ more) (rest ++ more) old text new
progress-append step input rest more old new text x = record {
  exchanges = x.exchanges;
  begins = BeginsMessages-append input _ rest more x.begins;
  served = x.served;
  text_is = x.text_is;
}

-- a conversation on what answered messages left is one with them on the whole input
pub conversation_after : {O : Type 0} (step : O → MessageExchange → O → Type 0) (refusal : MessageFault → List ℕ) (stop : Stop)
    (input rest : List ℕ) (old mid new : O) (first second : List ℕ) (ending : Ending) → Progress step input rest old first mid
    → Conversation step refusal stop rest mid second ending new → Conversation step refusal stop input old (first ++ second) ending new
conversation_after step refusal stop input rest old mid new first second ending x y = record {
  exchanges = x.exchanges ++ y.exchanges;
  messages = rw messages_of-append (Messages-after stop input _ rest _ ending x.begins y.messages);
  served = Exchanged-trans step old x.exchanges mid y.exchanges new x.served y.served;
  text_is =
      ap (λ bytes. bytes ++ second) x.text_is ∙ ap (λ bytes. replies_of x.exchanges ++ bytes) y.text_is
      ∙ sym (append_assoc (replies_of x.exchanges) (replies_of y.exchanges) (last_words refusal ending))
      ∙ ap (λ bytes. bytes ++ last_words refusal ending) (sym (replies_of-append x.exchanges y.exchanges));
}

-- the same where the writer failed within a text
pub cut_off_after : {O : Type 0} (step : O → MessageExchange → O → Type 0) (refusal : MessageFault → List ℕ)
    (input rest : List ℕ) (old mid new : O) (first second : List ℕ) → Progress step input rest old first mid
    → IsCutOff step refusal rest mid second new → IsCutOff step refusal input old (first ++ second) new
cut_off_after step refusal input rest old mid new first second x y = record {
  rest = y.rest;
  whole = first ++ y.whole;
  mid = y.mid;
  before = progress_trans step input rest y.rest old mid y.mid first y.whole x y.before;
  last = y.last;
  is_last = y.is_last;
  part = y.part;
  short = y.short;
  written_is = ap (λ bytes. first ++ bytes) y.written_is ∙ sym (append_assoc first y.whole (take y.part y.last));
}

-- the same where memory was short
pub given_up_after : {O : Type 0} (step : O → MessageExchange → O → Type 0) (gave_up : O → Message → O → Type 0)
    (input rest : List ℕ) (old mid new : O) (first second : List ℕ) → Progress step input rest old first mid
    → IsGivenUp step gave_up rest mid second new → IsGivenUp step gave_up input old (first ++ second) new
given_up_after step gave_up input rest old mid new first second x y = record {
  rest = y.rest;
  mid = y.mid;
  whole = first ++ y.whole;
  before = progress_trans step input rest y.rest old mid y.mid first y.whole x y.before;
  told = y.told;
  expects = y.expects;
  text_is = ap (λ bytes. first ++ bytes) y.text_is ∙ sym (append_assoc first y.whole (interim_for y.told));
  after = y.after;
}
