-- A conversation over a life, and the requests that its messages asked.
use Rattle.std.proofs.Common.{◌≡◌, ◌∙◌, ◌⊎◌, ◌++◌, ℕ, ℤ, List, [], Option, Some, inl, inr, subst, sym}
use Rattle.sqlite.specs.State.{HasCleanDisk}
use Rattle.books.specs.Keeps.{Represents, Seen}
use Rattle.conversation.proofs.WiderLemmas.{run_wider, unclocked}
use Rattle.conversation.specs.Exchanges.{Exchanged, MessageExchange, Timed, clocked, timed}
use Rattle.conversation.specs.Run.{IsRun, IsSaid}
use Rattle.conversation.specs.Uses.{Use}
use Rattle.conversation.specs.declared.end.End.{End}
use Rattle.conversation.specs.declared.end.End.TheVariants.{Closed}
use Rattle.conversation.specs.message.Messages.{Ending, closing, ended, finished}
use Rattle.desk.specs.Along.{AreAsked, GoesBy, Served}
use Rattle.desk.specs.Answering.{answers_by, life_serves, message_refusal_of}
use Rattle.desk.specs.Converses.{Converses}
use Rattle.desk.specs.OneConversation.{conversation_text}
use Rattle.office_rules.specs.Office.{empty_office}
use Rattle.sts_token.specs.Token.{BlockFunction}
use Rattle.vend_core.specs.Law.Life.{Life}
use Rattle.vend_core.specs.Law.LifeLaws.{opened}
use Rattle.program_laws.proofs.CourseLemmas.{exchanged_opening}
use Rattle.law_witnesses.specs.Talks.{IsTalk}

-- a life goes on along a conversation by what its messages asked
abbrev pub GoesAlong : Type 0
GoesAlong = (old new : Timed Life) (xs : List MessageExchange) → Exchanged (timed (answers_by life_serves)) old xs new
    → (served : List Served) × AreAsked xs served × GoesBy old.0 served new.0

module _ (law : GoesAlong) (forward : BlockFunction) (answers : Option (List ℤ)) (new : Timed Life) (books : Seen) (clean : HasCleanDisk books.state)
    (kept : Represents new.0 books) (text input : List ℕ) where
  said : (ending : Ending) → IsSaid (answers_by life_serves) message_refusal_of (opened forward empty_office, answers) new (Some []) (Some text) ended input ending
      → (talk : IsTalk input books) × (text ≡ conversation_text talk.exchanges talk.ending)
  said ending s =
      let xs = s.conversation.exchanges in
      let along = law (opened forward empty_office, answers) new xs s.conversation.served in (
        record {
          exchanges = xs;
          ending = ending;
          messages = s.conversation.messages;
          served = along.0;
          asked = along.1;
          forward = forward;
          life = new.0;
          goes = along.2;
          keeps = record { led = exchanged_opening (opened forward empty_office, answers) new xs s.conversation.served; kept = kept; clean = clean };
        },
        s.written ∙ s.conversation.text_is,
      )

-- a conversation over a new office that ended with its input is one with all of it
pub talk_of : GoesAlong → {B : Type 0} {see : B → Seen} {gives : ℤ → Type 0} {old new : Timed B} {unread left held holds : Option (List ℕ)}
    {uses : List Use} {end : End} → Converses see gives old new unread left held holds uses end → end ≡ Closed
    → (forward : BlockFunction) → Represents (opened forward empty_office) (see old.0) → HasCleanDisk (see new.0).state
    → (text input : List ℕ) → unread ≡ Some input → held ≡ Some [] → holds ≡ Some text
    → (talk : IsTalk input (see new.0)) × (text ≡ conversation_text talk.exchanges talk.ending)
talk_of law {B} {see} {gives} {old} {new} {unread} {left} {held} {holds} {uses} {end} converses is forward kept clean text input all empty written =
    let lives = converses.lives clean (opened forward empty_office) kept in
    let after : Timed Life = (lives.0, new.1) in
    let ran = run_wider (clocked gives (answers_by life_serves)) (answers_by life_serves) (unclocked (answers_by life_serves) gives)
    message_refusal_of (opened forward empty_office, old.1) after unread left held holds end lives.1 in
    let Runs : End → Option (List ℕ) → Option (List ℕ) → Option (List ℕ) → Type 0 =
    λ e u h w. IsRun (answers_by life_serves) message_refusal_of (opened forward empty_office, old.1) after u left h w e in
    let AtEnd : End → Type 0 = λ e. Runs e unread held holds in
    let OfAll : Option (List ℕ) → Type 0 = λ u. Runs Closed u held holds in
    let Held : Option (List ℕ) → Type 0 = λ h. Runs Closed (Some input) h holds in
    let Written : Option (List ℕ) → Type 0 = λ w. Runs Closed (Some input) (Some []) w in
    let closed : Written (Some text) = subst Written written (subst Held empty (subst OfAll all (subst AtEnd is ran))) in
    let Goal : List ℕ → Type 0 = λ i. (talk : IsTalk i (see new.0)) × (text ≡ conversation_text talk.exchanges talk.ending) in
    subst Goal (sym closed.1)
    (elim closed.2 [
      | inl (expects, s) ↦ said law forward old.1 after (see new.0) clean lives.2 text closed.0 (finished expects) s
      | inr s ↦ said law forward old.1 after (see new.0) clean lives.2 text closed.0 closing s
    ])
