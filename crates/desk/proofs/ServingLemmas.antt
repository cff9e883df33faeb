-- The lives that books keep, by the messages that they answer.
use Rattle.std.proofs.Common.{◌≡◌, ◌∙◌, ℕ, ℤ, ◌+◌, ◌%◌, inl, inr, Bool, true, false, List, length, Option, Some, Result, Ok, Err, refl, ap, sym, subst}
use Rattle.std.specs.Prelude.{IfOk, IfSome, OnErr}
use Rattle.sqlite.specs.State.{HasCleanDisk, State}
use Rattle.vend_core.specs.Law.Life.{Life, present}
use Rattle.vend_core.specs.Law.LifeLaws.{extended_by}
use Rattle.office_rules.specs.declared.decision.answer.Answer.{Answer}
use Rattle.office_rules.specs.declared.decision.refusal.Refusal.{Refusal}
use Rattle.office_rules.specs.declared.decision.refusal.Refusal.TheVariants.{Stopped}
use Rattle.office_rules.specs.declared.decision.request.Request.{Request}
use Rattle.office_rules.specs.declared.decision.request.Stamped.{Stamped}
use Rattle.office_rules.specs.declared.decision.request.Request.TheVariants as requests
use Rattle.papers.specs.declared.row_fault.RowFault.TheVariants.{At, Memory}
use Rattle.books.specs.Asking.{IsAsked, Replies, ReplyAt}
use Rattle.books.specs.Keeps.{Represents, Seen}
use Rattle.books.specs.Others.{LeavesOthers}
use Rattle.books.proofs.OthersLemmas.{kept_tables, others_same, others_then}
use Rattle.asks.specs.declared.ask.Ask.{Ask}
use Rattle.asks.specs.declared.ask.Ask.TheVariants as asks
use Rattle.conversation.specs.Exchanges.{MessageExchange, GaveUp, ReadsClock, Timed, clocked, timed}
use Rattle.conversation.specs.message.Messages.{Message}
use Rattle.conversation.specs.Run.{IsRun}
use Rattle.conversation.specs.Uses.{EndsBy, IsPaced, Use}
use Rattle.conversation.specs.declared.end.End.{End}
use Rattle.conversation.specs.declared.message.message_fault.MessageFault.{MessageFault}
use Rattle.conversation.proofs.FollowLemmas.{Follows, clocked_follows, run_along, run_well}
use Rattle.desk.specs.Answering.{Comes, IsReplied, IsServed, LifeReplies, Serving, answers_by, books_serve, life_serves, message_refusal_of}
use Rattle.desk.specs.Converses.{Converses}
use Rattle.desk_messages.specs.Meaning.{IsMeaning}
use Rattle.desk_messages.specs.reply.HttpDate.{moment_given}
use Rattle.desk_messages.specs.reply.Text.{reply_to}
use Rattle.desk_messages.specs.declared.desk_fault.DeskFault.{DeskFault}
use Rattle.desk_messages.specs.declared.reply.form.Form.{Form}
use Rattle.desk_messages.specs.declared.reply.form.Form.TheVariants.{Json, Paper}
use Rattle.desk_messages.specs.declared.meaning.Meaning.{Meaning}
use Rattle.desk_messages.specs.declared.meaning.Meaning.TheVariants as meanings
use Rattle.desk_messages.specs.declared.reply.outcome.Outcome.{Outcome}
use Rattle.desk_messages.specs.declared.reply.outcome.Outcome.TheVariants.{Faulty}

-- a message asks something, which is served
pub comes_asked_of : {O E : Type 0} (serves : Serving O) (m : Message) (now : Option ℤ) (meaning : Meaning) (moment : ℕ) (ask : Ask)
    (r : Result Outcome E) (old new : O) → IsMeaning m now meaning → meaning ≡ meanings.Asks moment ask
    → IfOk r (λ outcome. IsServed serves moment ask outcome old new) → IfOk r (λ outcome. Comes serves m now outcome old new)
comes_asked_of serves m now meaning moment ask (Ok outcome) old new is means served =
    inr (moment, ask, subst (λ x. IsMeaning m now x) means is, served)
comes_asked_of serves m now meaning moment ask (Err error) old new is means served = tt

-- a message asks nothing, and the office is as before
pub comes_told : {O : Type 0} (serves : Serving O) (m : Message) (now : Option ℤ) (meaning : Meaning) (fault : DeskFault) (outcome : Outcome)
    (old office : O) → IsMeaning m now meaning → meaning ≡ meanings.Told fault → outcome ≡ Faulty fault → office ≡ old
    → Comes serves m now outcome old office
comes_told serves m now meaning fault outcome old office is means same kept = inl (fault, subst (λ x. IsMeaning m now x) means is, same, kept)

-- what comes of a message at the second that the clock gave
pub comes_at : {O : Type 0} (serves : Serving O) (m : Message) (given second : ℤ) (outcome : Outcome) (old new : O) → given ≡ second
    → Comes serves m (Some given) outcome old new → Comes serves m (Some second) outcome old new
comes_at serves m given second outcome old new same comes = subst (λ z. Comes serves m (Some z) outcome old new) same comes

-- and the text of its reply
pub told_at : {A E : Type 0} (items : A → List ℕ) (m : Message) (given second : ℤ) (dated : Option ℕ) (outcome : Outcome) (r : Result A E) → given ≡ second
    → dated ≡ moment_given (Some given) → IfOk r (λ text. items text ≡ reply_to m.method dated outcome m.closes)
    → IfOk r (λ text. items text ≡ reply_to m.method (moment_given (Some second)) outcome m.closes)
told_at items m given second dated outcome r same is told =
    subst (λ d. IfOk r (λ text. items text ≡ reply_to m.method d outcome m.closes)) (is ∙ ap (λ z. moment_given (Some z)) same) told

-- a message was answered, by the text that a result has
pub was_answered : {O A E : Type 0} (serves : Serving O) (gives : ℤ → Type 0) (items : A → List ℕ) (old new : Timed O) (m : Message) (now : Option ℤ)
    (outcome : Outcome) (r : Result A E)
    → ReadsClock old.1 now new.1 → IfSome now gives → Comes serves m now outcome old.0 new.0 → IfOk r (λ text. items text ≡ reply_to m.method (moment_given now) outcome m.closes)
    → IfOk r (λ reply. (x : MessageExchange) × (x.message ≡ m) × (x.reply ≡ items reply) × timed (clocked gives (answers_by serves)) old x new)
was_answered serves gives items old new m now outcome (Ok reply) reads gave comes text =
    (record { message = m; now = now; reply = items reply }, refl, refl, (((outcome, comes, text), gave), reads))
was_answered serves gives items old new m now outcome (Err error) reads gave comes text = tt

-- a message was answered, and there was no memory for the text
pub was_given_up : {O A E : Type 0} (serves : Serving O) (gives : ℤ → Type 0) (old new : Timed O) (m : Message) (now : Option ℤ)
    (outcome : Outcome) (r : Result A E)
    → ReadsClock old.1 now new.1 → IfSome now gives → Comes serves m now outcome old.0 new.0 → OnErr r (GaveUp (clocked gives (answers_by serves)) old m new)
was_given_up serves gives old new m now outcome (Ok reply) reads gave comes = tt
was_given_up serves gives old new m now outcome (Err error) reads gave comes =
    (now, reads, inr (reply_to m.method (moment_given now) outcome m.closes, ((outcome, comes, refl), gave)))

unless_true : (b : Bool) → ¬ (b ≡ true) → b ≡ false
unless_true true not = absurd (not refl)
unless_true false not = refl

-- the number that books count with is that of their life
by_number : (life : Life) (moment : ℕ) (request : Request) (reply : Result Answer Refusal) (at : Stamped) (old new : Seen) → Represents life old
    → HasCleanDisk old.state → IsAsked moment request old at → Replies at reply old new
    → ¬ (reply ≡ Err Stopped) → at.nibble ≡ (length (present life).sales + 1) % 16
by_number life moment request reply at old new keeps clean asked replies unstopped =
    let present_is = (keeps clean).running (unless_true old.stopped (λ was. unstopped (replies.stopped.1 was))) in
    asked.by_number ∙ ap (λ n. n % 16) (present_is.next ∙ ap (λ o. length o.sales + 1) (sym present_is.running.present))

-- a life goes on by what the books that keep it reply
served_life : (life : Life) (moment : ℕ) (request : Request) (reply : Result Answer Refusal) (old new : Seen) → Represents life old
    → ReplyAt moment request reply old new → HasCleanDisk new.state
    → (after : Life) × LifeReplies moment request reply life after × Represents after new
served_life life moment request reply old new keeps (at, asked, replies) clean = (
  extended_by life at reply,
  (
    at,
    record {
      at_moment = asked.at_moment;
      for_request = asked.for_request;
      by_number = by_number life moment request reply at old new keeps (replies.clean clean) asked replies;
    },
    refl,
  ),
  replies.keeps life keeps,
)

-- books keep a life, and have left the tables of other names as they were
abbrev KeepsFrom : State → Life → Seen → Type 0
KeepsFrom start life books = Represents life books × LeavesOthers start books.state

module _ {B : Type 0} (see : B → Seen) (start : State) where
  -- a life went on as the books were served
  abbrev Follow : ℕ → Ask → Outcome → Life → B → Type 0
  Follow moment ask outcome life new = (after : Life) × IsServed life_serves moment ask outcome life after × KeepsFrom start after (see new)

  reply_back : (moment : ℕ) (form : Form) (request : Request) (outcome : Outcome) (old new : B)
      → IsReplied (books_serve see) moment form request outcome old new → HasCleanDisk (see new).state → HasCleanDisk (see old).state
  reply_back moment form request outcome old new (reply, is, (at, asked, replies)) clean = replies.clean clean

  -- what is served leaves no clean disk behind an unclean one
  served_back : (moment : ℕ) (ask : Ask) (outcome : Outcome) (old new : B) → IsServed (books_serve see) moment ask outcome old new
      → HasCleanDisk (see new).state → HasCleanDisk (see old).state
  served_back moment (asks.Import kind csv) outcome old new (Ok rows, read, replied) clean =
      reply_back moment Json (requests.Import rows) outcome old new replied clean
  served_back moment (asks.Import kind csv) outcome old new (Err (At row cause), read, (is, same)) clean =
      subst (λ b. HasCleanDisk (see b).state) same clean
  served_back moment (asks.Import kind csv) outcome old new (Err Memory, read, none) clean = absurd none
  served_back moment (asks.Do request) outcome old new replied clean = reply_back moment Json request outcome old new replied clean
  served_back moment (asks.Receipt sale) outcome old new replied clean =
      reply_back moment Paper (requests.Reprint sale) outcome old new replied clean
  served_back moment (asks.Look lookup) outcome old new (found, is, finds) clean = finds.0.reads.clean clean

  reply_follows : (moment : ℕ) (form : Form) (request : Request) (outcome : Outcome) (life : Life) (old new : B) → KeepsFrom start life (see old)
      → IsReplied (books_serve see) moment form request outcome old new → HasCleanDisk (see new).state
      → (after : Life) × IsReplied life_serves moment form request outcome life after × KeepsFrom start after (see new)
  reply_follows moment form request outcome life old new kept (reply, is, (at, asked, replies)) clean =
      let goes = served_life life moment request reply (see old) (see new) kept.0 (at, asked, replies) clean in (
        goes.0,
        (reply, is, goes.1),
        (goes.2, others_then start (see old).state (see new).state kept.1 (replies.others clean (kept_tables life (see old) kept.0))),
      )

  -- as books are served, so is the life that they keep
  served_follows : (moment : ℕ) (ask : Ask) (outcome : Outcome) (life : Life) (old new : B) → KeepsFrom start life (see old)
      → IsServed (books_serve see) moment ask outcome old new → HasCleanDisk (see new).state → Follow moment ask outcome life new
  served_follows moment (asks.Import kind csv) outcome life old new kept (Ok rows, read, replied) clean =
      let goes = reply_follows moment Json (requests.Import rows) outcome life old new kept replied clean in
      (goes.0, (Ok rows, read, goes.1), goes.2)
  served_follows moment (asks.Import kind csv) outcome life old new kept (Err (At row cause), read, (is, same)) clean =
      (life, (Err (At row cause), read, (is, refl)), subst (λ b. KeepsFrom start life (see b)) (sym same) kept)
  served_follows moment (asks.Import kind csv) outcome life old new kept (Err Memory, read, none) clean = absurd none
  served_follows moment (asks.Do request) outcome life old new kept replied clean = reply_follows moment Json request outcome life old new kept replied clean
  served_follows moment (asks.Receipt sale) outcome life old new kept replied clean =
      reply_follows moment Paper (requests.Reprint sale) outcome life old new kept replied clean
  served_follows moment (asks.Look lookup) outcome life old new kept (found, is, finds) clean = (
    life,
    (found, is, (finds.0.of_life clean life kept.0, refl)),
    (finds.0.reads.keeps life kept.0, others_then start (see old).state (see new).state kept.1 (finds.0.reads.others clean (kept_tables life (see old) kept.0))),
  )

books_follow : {B : Type 0} (see : B → Seen) (start : State)
    → Follows (answers_by (books_serve see)) (answers_by life_serves) (λ life books. KeepsFrom start life (see books)) (λ books. HasCleanDisk (see books).state)
books_follow {B} see start = record { back = back; next = next }
  where
    step : B → MessageExchange → B → Type 0
    step = answers_by (books_serve see)

    back : (old : B) (x : MessageExchange) (new : B) → step old x new → HasCleanDisk (see new).state → HasCleanDisk (see old).state
    back old x new (outcome, inl (fault, has, is, same), text) clean = subst (λ b. HasCleanDisk (see b).state) same clean
    back old x new (outcome, inr (moment, ask, asked, served), text) clean = served_back see start moment ask outcome old new served clean

    next : (life : Life) (old : B) (x : MessageExchange) (new : B) → KeepsFrom start life (see old) → step old x new → HasCleanDisk (see new).state
        → (after : Life) × answers_by life_serves life x after × KeepsFrom start after (see new)
    next life old x new kept (outcome, inl (fault, has, is, same), text) clean =
        (life, (outcome, inl (fault, has, is, refl), text), subst (λ b. KeepsFrom start life (see b)) (sym same) kept)
    next life old x new kept (outcome, inr (moment, ask, asked, served), text) clean =
        let goes = served_follows see start moment ask outcome life old new kept served clean in
        (goes.0, (outcome, inr (moment, ask, asked, goes.1), text), goes.2)

module _ {B : Type 0} (see : B → Seen) (gives : ℤ → Type 0) (refusal : MessageFault → List ℕ) (old new : Timed B)
    (unread left held holds : Option (List ℕ)) (end : End)
    (is_run : IsRun (clocked gives (answers_by (books_serve see))) refusal old new unread left held holds end) (clean : HasCleanDisk (see new.0).state) where
  -- books are followed by the lives that they keep, at the moments of the clock
  follow : (start : State)
      → Follows (clocked gives (answers_by (books_serve see))) (clocked gives (answers_by life_serves))
      (λ life books. KeepsFrom start life (see books)) (λ books. HasCleanDisk (see books).state)
  follow start =
      clocked_follows (answers_by (books_serve see)) (answers_by life_serves) (λ life books. KeepsFrom start life (see books))
      (λ books. HasCleanDisk (see books).state) gives
      (books_follow see start)

  -- a life that books kept went on along a run of them, which left other tables alone
  run_kept : (life : Life) → Represents life (see old.0)
      → (after : Life) × IsRun (clocked gives (answers_by life_serves)) refusal (life, old.1) (after, new.1) unread left held holds end
      × KeepsFrom (see old.0).state after (see new.0)
  run_kept life keeps =
      let start = (see old.0).state in
      run_along (clocked gives (answers_by (books_serve see))) (clocked gives (answers_by life_serves)) (λ l books. KeepsFrom start l (see books))
      (λ books. HasCleanDisk (see books).state) (follow start)
      refusal life old new unread left held holds end (keeps, others_same start) is_run clean

  -- the disk was clean before it
  run_clean : HasCleanDisk (see old.0).state
  run_clean =
      let start = (see old.0).state in
      run_well (clocked gives (answers_by (books_serve see))) (clocked gives (answers_by life_serves)) (λ l books. KeepsFrom start l (see books))
      (λ books. HasCleanDisk (see books).state) (follow start)
      refusal old new unread left held holds end is_run clean

-- a run over books is a conversation of them, and of the lives that they keep
pub converses : {B : Type 0} (see : B → Seen) (gives : ℤ → Type 0) (old new : Timed B) (unread left held holds : Option (List ℕ)) (uses : List Use) (end : End)
    → IsRun (clocked gives (answers_by (books_serve see))) message_refusal_of old new unread left held holds end
    → IsPaced (clocked gives (answers_by (books_serve see))) message_refusal_of old unread left held holds uses → EndsBy end uses
    → Converses see gives old new unread left held holds uses end
converses see gives old new unread left held holds uses end ran paced ends = record {
  run = ran;
  paced = paced;
  ends = ends;
  clean = λ clean. run_clean see gives message_refusal_of old new unread left held holds end ran clean;
  lives = λ clean life keeps.
      let kept = run_kept see gives message_refusal_of old new unread left held holds end ran clean life keeps in
      (kept.0, kept.1, kept.2.0, kept.2.1);
}
