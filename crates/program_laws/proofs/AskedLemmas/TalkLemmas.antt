-- What the conversation of a connection is for the one who asked on it, however it ended.
use Rattle.std.proofs.Common.{◌≡◌, ◌∙◌, ℕ, ◌<◌, ◌^◌, Bool, true, false, List, [], ◌∷◌, ◌++◌, length, take, Option, inl, inr, refl, sym, ap, subst, append-nil, length-append, arith}
use Rattle.std.specs.Prelude.{MatchBool}
use Rattle.std.proofs.lemmas.List.{length-take-le}
use Rattle.conversation.specs.Conversation.{Conversation, IsCutOff, IsGivenUp, IsNextText, interim_for, last_words, messages_of, replies_of, text_of}
use Rattle.conversation.specs.Exchanges.{BeginsMessages, Exchanged, GaveUp, MessageExchange, Timed, timed}
use Rattle.conversation.specs.Run.{IsRun}
use Rattle.conversation.specs.declared.end.End as conversation
use Rattle.conversation.specs.declared.end.End.TheVariants.{Closed, BadMessage, ReadFault, WriteFault, Memory}
use Rattle.conversation.specs.declared.message.message_fault.MessageFault.TheVariants as faults
use Rattle.conversation.specs.message.Heads.{BeginsWithHead}
use Rattle.conversation.specs.message.Messages.{BeginsExpecting, BeginsMessage, EndsAs, Ending, IsTold, Message, Messages, Stop, broken, closing, ended, failed, finished, refused}
use Rattle.conversation.proofs.InterimLemmas.{leaves_office}
use Rattle.desk.specs.Answering.{answers_by, life_serves, message_refusal_of}
use Rattle.office_rules.specs.declared.office.sale.Sale.{Sale}
use Rattle.vend_core.specs.Law.Life.{Life}
use Rattle.program_laws.specs.SalesTold.{ExchangesTell, RunTells}
use Rattle.program_laws.specs.runs.Asked.{Carries, RunCarries}
use Rattle.program_laws.proofs.AtDeskLemmas.RoundLemmas.{no_cut, no_fault, not_end, some_length, some_text}
use Rattle.program_laws.proofs.AskedLemmas.LifeLemmas.{GoesFrom, answered_goes, goes_none, late_goes}

-- ---- the messages of an input

-- an input that begins with a message does not end there, however it stops
not_failed : (input : List ℕ) (m : Message) (rest : List ℕ) (e : Ending) → BeginsMessage input m rest → ¬ EndsAs failed input e
not_failed input m rest (finished expects) begins ends = ends
not_failed input m rest closing begins ends = ends
not_failed input m rest (broken expects) begins (inl (none, short, untold)) = none begins.head (m.body ++ rest) begins.begins
not_failed input m rest (broken expects) begins (inr cut) = no_cut input m rest expects begins cut
not_failed input m rest (refused faults.Head) begins ends =
    ends [] begins.head (m.body ++ rest) (subst (λ (bytes : List ℕ). BeginsWithHead bytes begins.head (m.body ++ rest)) (sym (append-nil input)) begins.begins)
not_failed input m rest (refused faults.Method) begins ends = no_fault input m rest faults.Method begins ends
not_failed input m rest (refused faults.Host) begins ends = no_fault input m rest faults.Host begins ends
not_failed input m rest (refused faults.Coding) begins ends = no_fault input m rest faults.Coding begins ends
not_failed input m rest (refused faults.Length) begins ends = no_fault input m rest faults.Length begins ends
not_failed input m rest (refused faults.Body) begins ends = no_fault input m rest faults.Body begins ends

goes_on : (stop : Stop) (input : List ℕ) (m : Message) (rest : List ℕ) (e : Ending) → BeginsMessage input m rest → ¬ EndsAs stop input e
goes_on ended input m rest e begins ends = not_end input m rest e (some_length input (some_text input m rest begins)) begins ends
goes_on failed input m rest e begins ends = not_failed input m rest e begins ends

-- The input begins with these messages, one after another up to one that closes the conversation,
-- and then this holds of what is left.
abbrev pub Reads : List ℕ → List Message → (List ℕ → Type 0) → Type 0
Reads input [] Then = Then input
Reads input (m ∷ ms) Then = (after : List ℕ) × BeginsMessage input m after × (m.closes ≡ false → Reads after ms Then)

reads_all : (stop : Stop) (input : List ℕ) (ms : List Message) (ending : Ending) → Messages stop input ms ending → (Then : List ℕ → Type 0)
    → ((rest : List ℕ) → EndsAs stop rest ending → Then rest)
    → Reads input ms Then
reads_all stop input [] ending ends Then last = last input ends
reads_all stop input (m ∷ ms) ending (after, begins, match) Then last = (
  after,
  begins,
  λ stays. reads_all stop after ms ending
      (subst (λ (b : Bool). MatchBool b ((ms ≡ []) × (ending ≡ closing)) (Messages stop after ms ending)) stays match) Then last,
)

reads_front : (input : List ℕ) (ms : List Message) (rest : List ℕ) → BeginsMessages input ms rest → (Then : List ℕ → Type 0) → Then rest → Reads input ms Then
reads_front input [] rest same Then last = subst Then (sym same) last
reads_front input (m ∷ ms) rest (after, begins, stays, more) Then last = (after, begins, λ goes. reads_front after ms rest more Then last)

-- ---- what the one who asks has of it

-- Why there are no further whole replies: no message follows; or nothing was written; or the next
-- message expects an interim reply; or what is written for it was cut off, whose bytes a number of
-- 64 bits can count.
pub data Stops (rest tail : List ℕ) (mid new : Timed Life) : Type 0 where
  no_more : ((m : Message) (after : List ℕ) → ¬ BeginsMessage rest m after) → Stops rest tail mid new
  unsaid : tail ≡ [] → Stops rest tail mid new
  cut_short : (x : MessageExchange) (after : List ℕ) → BeginsMessage rest x.message after → timed (answers_by life_serves) mid x new → (part : ℕ)
      → part < length (text_of x) → length (text_of x) < 2 ^ 64 → tail ≡ take part (text_of x) → Stops rest tail mid new
  expecting : BeginsExpecting rest → Stops rest tail mid new

told_stops : (rest : List ℕ) (told : Bool) (mid new : Timed Life) → IsTold rest told → Stops rest (interim_for told) mid new
told_stops rest true mid new expects = expecting expects
told_stops rest false mid new none = unsaid refl

-- The exchanges of a connection, on which this was sent and came, and the sales that they told.
pub record Talk (old new : Timed Life) (sent came : List ℕ) (Tells : Sale → Type 0) : Type 0 where
  pub exchanges : List MessageExchange
  pub mid : Timed Life
  pub served : Exchanged (timed (answers_by life_serves)) old exchanges mid
  pub goes : GoesFrom mid.0 new.0
  pub later : List ℕ
  pub tail : List ℕ
  pub reads : Reads (sent ++ later) (messages_of exchanges) (λ rest. Stops rest tail mid new)
  pub behind : List ℕ
  pub text : came ++ behind ≡ replies_of exchanges ++ tail
  pub few : length (came ++ behind) < 2 ^ 64
  pub tells : (s : Sale) → ExchangesTell old exchanges mid served s → Tells s

module _ (old new : Timed Life) (sent came : List ℕ) (Tells : Sale → Type 0) where
  -- a conversation that was said whole
  said_talk : (stop : Stop) (input text : List ℕ) (ending : Ending)
      → (said : Conversation (timed (answers_by life_serves)) message_refusal_of stop input old text ending new) → Carries input text text sent came
      → ((s : Sale) → ExchangesTell old said.exchanges new said.served s → Tells s) → Talk old new sent came Tells
  said_talk stop input text ending said carries tells = record {
    exchanges = said.exchanges;
    mid = new;
    served = said.served;
    goes = goes_none new.0 new.0 refl;
    later = carries.later;
    tail = last_words message_refusal_of ending;
    reads =
        reads_all stop (sent ++ carries.later) (messages_of said.exchanges) ending
        (subst (λ (bytes : List ℕ). Messages stop bytes (messages_of said.exchanges) ending) carries.reads said.messages)
        (λ rest. Stops rest (last_words message_refusal_of ending) new new)
        (λ rest ends. no_more (λ m after begins. goes_on stop rest m after ending begins ends));
    behind = carries.behind;
    text = sym carries.writes ∙ said.text_is;
    few = subst (λ (bytes : List ℕ). length bytes < 2 ^ 64) carries.writes carries.few;
    tells = tells;
  }

  -- one whose last text was cut off
  cut_talk : (input text : List ℕ) (cut : IsCutOff (timed (answers_by life_serves)) message_refusal_of input old text new)
      → Carries input text (cut.whole ++ cut.last) sent came
      → ((s : Sale) → ExchangesTell old cut.before.exchanges cut.mid cut.before.served s → Tells s) → Talk old new sent came Tells
  cut_talk input text cut carries tells =
      let tail = take cut.part cut.last in
      let most : length cut.last < 2 ^ 64 = omega (arith, carries.few, length-append cut.whole cut.last) in
      record {
        exchanges = cut.before.exchanges;
        mid = cut.mid;
        served = cut.before.served;
        goes = elim cut.is_last [
          | inl reply ↦ answered_goes cut.mid new reply.exchange reply.answered
          | inr other ↦ goes_none cut.mid.0 new.0 (ap (λ (l : Timed Life). l.0) (leaves_office message_refusal_of cut.rest cut.mid cut.last new other))
        ];
        later = carries.later;
        tail = tail;
        reads =
            reads_front (sent ++ carries.later) (messages_of cut.before.exchanges) cut.rest
            (subst (λ (bytes : List ℕ). BeginsMessages bytes (messages_of cut.before.exchanges) cut.rest) carries.reads cut.before.begins)
            (λ rest. Stops rest tail cut.mid new) (stops most cut.is_last);
        behind = carries.behind;
        text = sym carries.writes ∙ cut.written_is ∙ ap (λ (whole : List ℕ). whole ++ tail) cut.before.text_is;
        few =
            omega (
              arith,
              carries.few,
              ap length (sym carries.writes ∙ cut.written_is),
              length-append cut.whole tail,
              length-append cut.whole cut.last,
              length-take-le cut.part cut.last (omega (arith, cut.short)),
              cut.short,
            );
        tells = tells;
      }
    where
      stops : length cut.last < 2 ^ 64
          → IsNextText (timed (answers_by life_serves)) message_refusal_of cut.rest cut.mid cut.last new
          → Stops cut.rest (take cut.part cut.last) cut.mid new
      stops most (inl reply) =
          cut_short reply.exchange reply.rest reply.begins reply.answered cut.part (subst (λ (bytes : List ℕ). cut.part < length bytes) reply.text_is cut.short)
          (subst (λ (bytes : List ℕ). length bytes < 2 ^ 64) reply.text_is most) (ap (λ (bytes : List ℕ). take cut.part bytes) reply.text_is)
      stops most (inr (inr told)) = expecting told.expects
      stops most (inr (inl refusal)) =
          no_more (λ m after begins. goes_on ended cut.rest m after (refused refusal.fault) begins refusal.is_refused)

  -- one that was given up for want of memory
  given_talk : (input text : List ℕ) (given : IsGivenUp (timed (answers_by life_serves)) (GaveUp (answers_by life_serves)) input old text new)
      → Carries input text text sent came
      → ((s : Sale) → ExchangesTell old given.before.exchanges given.mid given.before.served s → Tells s) → Talk old new sent came Tells
  given_talk input text given carries tells = record {
    exchanges = given.before.exchanges;
    mid = given.mid;
    served = given.before.served;
    goes = late_goes given.rest given.mid new given.after;
    later = carries.later;
    tail = interim_for given.told;
    reads =
        reads_front (sent ++ carries.later) (messages_of given.before.exchanges) given.rest
        (subst (λ (bytes : List ℕ). BeginsMessages bytes (messages_of given.before.exchanges) given.rest) carries.reads given.before.begins)
        (λ rest. Stops rest (interim_for given.told) given.mid new) (told_stops given.rest given.told given.mid new given.expects);
    behind = carries.behind;
    text = sym carries.writes ∙ given.text_is ∙ ap (λ (whole : List ℕ). whole ++ interim_for given.told) given.before.text_is;
    few = subst (λ (bytes : List ℕ). length bytes < 2 ^ 64) carries.writes carries.few;
    tells = tells;
  }

-- what a connection carried is such a conversation
pub talk : (old new : Timed Life) (unread left held holds : Option (List ℕ)) (end : conversation.End)
    (run : IsRun (answers_by life_serves) message_refusal_of old new unread left held holds end) (sent came : List ℕ)
    → RunCarries old new unread left held holds end run sent came
    → Talk old new sent came (RunTells old new unread left held holds end run)
talk old new unread left held holds Closed (input, all, inl (expects, said)) sent came carries =
    said_talk old new sent came (RunTells old new unread left held holds Closed (input, all, inl (expects, said))) ended input said.text (finished expects)
    said.conversation carries
    (λ s told. told)
talk old new unread left held holds Closed (input, all, inr said) sent came carries =
    said_talk old new sent came (RunTells old new unread left held holds Closed (input, all, inr said)) ended input said.text closing said.conversation carries
    (λ s told. told)
talk old new unread left held holds BadMessage (input, all, fault, said) sent came carries =
    said_talk old new sent came (RunTells old new unread left held holds BadMessage (input, all, fault, said)) ended input said.text (refused fault)
    said.conversation carries (λ s told. told)
talk old new unread left held holds ReadFault (input, taken, expects, said) sent came carries =
    said_talk old new sent came (RunTells old new unread left held holds ReadFault (input, taken, expects, said)) failed input said.text (broken expects)
    said.conversation carries
    (λ s told. told)
talk old new unread left held holds WriteFault (input, all, text, appends, cut) sent came carries =
    cut_talk old new sent came (RunTells old new unread left held holds WriteFault (input, all, text, appends, cut)) input text cut carries (λ s told. inl told)
talk old new unread left held holds Memory (input, all, text, appends, given) sent came carries =
    given_talk old new sent came (RunTells old new unread left held holds Memory (input, all, text, appends, given)) input text given carries (λ s told. told)
