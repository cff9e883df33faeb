-- What is replied to the messages of an input by a service that tells each its target.
use Rattle.std.proofs.Common.{◌≡◌, ◌∙◌, ◌++◌, ◌⊎◌, ℕ, ℤ, List, [], ◌∷◌, Option, Some, refl, ap, sym, subst, inl, inr}
use Rattle.std.specs.List.{flat_map}
use Rattle.conversation.specs.Conversation.{interim_for, last_words, messages_of, replies_of}
use Rattle.conversation.specs.Exchanges.{Exchanged, MessageExchange, Timed, clocked, timed}
use Rattle.conversation.specs.Run.{IsRun, IsSaid}
use Rattle.conversation.specs.declared.end.End.TheVariants.{Closed}
use Rattle.conversation.specs.declared.message.message_fault.MessageFault.{MessageFault}
use Rattle.conversation.specs.message.Messages.{Ending, Message, Messages, closing, ended, finished}
use Rattle.law_witnesses.specs.Readings.{Echoes, IsEchoed, echo_of}

-- what is written is the targets, and interim replies
replies-are : {O : Type 0} (gives : ℤ → Type 0) (old : Timed O) (xs : List MessageExchange) (new : Timed O)
    → Exchanged (timed (clocked gives Echoes)) old xs new
    → replies_of xs ≡ flat_map echo_of (messages_of xs)
replies-are gives old [] new h = refl
replies-are gives old (x ∷ xs) new (mid, one, others) =
    ap (λ reply. (interim_for x.message.expects ++ reply) ++ replies_of xs) one.0.0
    ∙ ap (λ rest. echo_of x.message ++ rest) (replies-are gives mid xs new others)

said : {O : Type 0} (gives : ℤ → Type 0) (refusal : MessageFault → List ℕ) (old new : Timed O)
    (text input : List ℕ) (ending : Ending) → last_words refusal ending ≡ last_words (λ _. []) ending
    → IsSaid (clocked gives Echoes) refusal old new (Some []) (Some text) ended input ending → IsEchoed input text
said gives refusal old new text input ending words s =
    let exchanges = s.conversation.exchanges in
    record {
      messages = messages_of exchanges;
      ending = ending;
      are = s.conversation.messages;
      text_is = s.written ∙ s.conversation.text_is ∙ ap (λ t. replies_of exchanges ++ t) words
          ∙ ap (λ t. t ++ last_words (λ _. []) ending) (replies-are gives old exchanges new s.conversation.served);
    }

-- a conversation that was held to its end told all targets of its input
pub echoed : {O : Type 0} (gives : ℤ → Type 0) (refusal : MessageFault → List ℕ) (old new : Timed O)
    (unread left : Option (List ℕ)) (held input text : List ℕ) → unread ≡ Some input → held ≡ []
    → IsRun (clocked gives Echoes) refusal old new unread left (Some held) (Some text) Closed → IsEchoed input text
echoed gives refusal old new unread left held input text all empty ran =
    let Unread : Option (List ℕ) → Type 0 =
    λ u. IsRun (clocked gives Echoes) refusal old new u left (Some held) (Some text) Closed in
    let Held : List ℕ → Type 0 =
    λ h. IsRun (clocked gives Echoes) refusal old new (Some input) left (Some h) (Some text) Closed in
    let closed : Held [] = subst Held empty (subst Unread all ran) in
    let Goal : List ℕ → Type 0 = λ i. IsEchoed i text in
    subst Goal (sym closed.1)
    (elim closed.2 [
      | inl (expects, s) ↦ said gives refusal old new text closed.0 (finished expects) refl s
      | inr s ↦ said gives refusal old new text closed.0 closing refl s
    ])

-- two texts of one input's targets are one, where an input has the same messages however it is read
pub same_targets : (input one other : List ℕ)
    → ((ms ns : List Message) (e f : Ending) → Messages ended input ms e → Messages ended input ns f → (ms ≡ ns) × (e ≡ f))
    → IsEchoed input one → IsEchoed input other → one ≡ other
same_targets input one other law a b =
    let same = law a.messages b.messages a.ending b.ending a.are b.are in
    a.text_is ∙ ap (λ ms. flat_map echo_of ms ++ last_words (λ _. []) a.ending) same.0
    ∙ ap (λ e. flat_map echo_of b.messages ++ last_words (λ _. []) e) same.1 ∙ sym b.text_is
