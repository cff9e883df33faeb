-- A life before its last requests is a life, and along a conversation a life goes on.
use Rattle.std.proofs.Common.{◌≡◌, ◌⊎◌, ◌∙◌, ℕ, Bool, List, [], ◌∷◌, ◌++◌, length, Option, Result, Ok, Err, inl, inr, refl, sym, ap, subst, append-nil, append_assoc, arith}
use Rattle.std.specs.Prelude.{filter, map}
use Rattle.std.proofs.lemmas.List.{map-append}
use Rattle.std.proofs.lemmas.List.Elements.{filter-append}
use Rattle.sts_token.specs.Token.{BlockFunction}
use Rattle.conversation.specs.Exchanges.{Exchanged, GaveUp, MessageExchange, Timed, timed}
use Rattle.conversation.specs.message.Messages.{BeginsMessage, Message}
use Rattle.conversation.specs.Run.{IsRun}
use Rattle.conversation.specs.declared.end.End as conversation
use Rattle.conversation.specs.declared.end.End.TheVariants.{Closed, BadMessage, ReadFault, WriteFault, Memory}
use Rattle.conversation.proofs.InterimLemmas.{leaves_office}
use Rattle.desk.specs.Answering.{answers_by, life_serves, message_refusal_of}
use Rattle.office_rules.specs.Decision.Fold.{replies_to, reply, step}
use Rattle.office_rules.specs.Decision.Requests.{IsStamped}
use Rattle.office_rules.specs.Office.{Office}
use Rattle.office_rules.specs.declared.decision.answer.Answer.{Answer}
use Rattle.office_rules.specs.declared.decision.refusal.Refusal.{Refusal}
use Rattle.office_rules.specs.declared.decision.refusal.Refusal.TheVariants.{Store, Stopped}
use Rattle.office_rules.specs.declared.decision.request.Stamped.{Stamped}
use Rattle.vend_core.specs.Law.Life.{Exchange, IsLife, Life, StopsAtDoubt, acknowledged, acknowledges, replies_acknowledged}
use Rattle.vend_core.specs.Law.LifeLaws.{extended, opened}
use Rattle.program_laws.proofs.CourseLemmas.{answered_on}
use Rattle.program_laws.proofs.AtDeskLemmas.RuleLemmas.{front_keeps}

abbrev Reply : Type 0
Reply = Result Answer Refusal

abbrev passes : Exchange → Bool
passes e = acknowledges e.reply

abbrev request_in : Exchange → Stamped
request_in e = e.request

abbrev reply_in : Exchange → Reply
reply_in e = e.reply

-- ---- the front of a life

-- what some of a list's members give, and then what others do
taken_apart : {B : Type 0} (f : Exchange → B) (es more : List Exchange)
    → map f (filter passes (es ++ more)) ≡ map f (filter passes es) ++ map f (filter passes more)
taken_apart f es more = ap (λ (es : List Exchange). map f es) (filter-append passes es more) ∙ map-append f (filter passes es) (filter passes more)

same_count : (es : List Exchange) → length (map reply_in es) ≡ length (map request_in es)
same_count [] = refl
same_count (e ∷ es) = omega (arith, same_count es)

-- the first replies are those to the first requests
front_replies : (forward : BlockFunction) (o : Office) (ats more : List Stamped) (rs others : List Reply) → length rs ≡ length ats
    → rs ++ others ≡ replies_to forward o (ats ++ more) → rs ≡ replies_to forward o ats
unfolding replies_to
front_replies forward o [] more [] others few same = refl
front_replies forward o [] more (r ∷ rs) others few same = absurd (omega (arith, few))
front_replies forward o (at ∷ ats) more [] others few same = absurd (omega (arith, few))
front_replies forward o (at ∷ ats) more (r ∷ rs) others few same =
    let first : r ≡ reply forward o at = cc in
    let rest : rs ++ others ≡ replies_to forward (step forward o at) (ats ++ more) = cc in
    let front = front_replies forward (step forward o at) ats more rs others (omega (arith, few)) rest in
    ap (λ (x : Reply). x ∷ rs) first ∙ ap (λ (xs : List Reply). reply forward o at ∷ xs) front

front_stops : (rs others : List Reply) → StopsAtDoubt (rs ++ others) → StopsAtDoubt rs
front_stops [] others stops = tt
front_stops (Ok answer ∷ rs) others stops = front_stops rs others stops
front_stops (Err Store ∷ rs) others stops = front_keeps (λ (r : Reply). r ≡ Err Stopped) rs others stops
front_stops (Err Stopped ∷ rs) others stops = front_keeps (λ (r : Reply). r ≡ Err Stopped) rs others stops
front_stops (Err refusal ∷ rs) others stops = front_stops rs others stops

-- before its last exchanges it was a life, too
life_before : (life : Life) (more : List Exchange) → IsLife (extended life more) → IsLife life
life_before life more is =
    let given : replies_acknowledged life ++ map reply_in (filter passes more) ≡ replies_to life.forward life.opening
    (acknowledged life ++ map request_in (filter passes more)) =
    sym (taken_apart reply_in life.exchanges more) ∙ is.replies
    ∙ ap (λ (ats : List Stamped). replies_to life.forward life.opening ats) (taken_apart request_in life.exchanges more) in
    record {
      range = is.range;
      stamped = front_keeps (λ (e : Exchange). IsStamped e.request) life.exchanges more is.stamped;
      replies =
          front_replies life.forward life.opening (acknowledged life) (map request_in (filter passes more)) (replies_acknowledged life)
          (map reply_in (filter passes more)) (same_count (filter passes life.exchanges)) given;
      stops =
          front_stops (map reply_in life.exchanges) (map reply_in more)
          (subst StopsAtDoubt (map-append reply_in life.exchanges more) is.stops);
    }

-- ---- how a life goes on

-- it goes on by some exchanges, or by none
abbrev pub GoesFrom : (old new : Life) → Type 0
GoesFrom old new = (more : List Exchange) × (new ≡ extended old more)

-- a life that is the same went on by none
pub goes_none : (old new : Life) → new ≡ old → GoesFrom old new
goes_none old new same = ([], same ∙ sym (ap (λ es. extended (opened old.forward old.opening) es) (append-nil old.exchanges)))

-- one that went on twice went on
pub goes_through : (old mid new : Life) → GoesFrom old mid → GoesFrom mid new → GoesFrom old new
goes_through old mid new (es, first) (more, last) = (
  es ++ more,
  last ∙ ap (λ (l : Life). extended l more) first
      ∙ ap (λ all. extended (opened old.forward old.opening) all) (append_assoc old.exchanges es more),
)

-- what a life went on from is a life
pub life_from : (old new : Life) → GoesFrom old new → IsLife new → IsLife old
life_from old new (more, is) life = life_before old more (subst IsLife is life)

-- and it opened the same office
pub opening_from : (old new : Life) → GoesFrom old new → new.opening ≡ old.opening
opening_from old new (more, is) = ap (λ (l : Life). l.opening) is

-- ---- along a conversation

-- a life goes on by an exchange
pub answered_goes : (old new : Timed Life) (x : MessageExchange) → timed (answers_by life_serves) old x new → GoesFrom old.0 new.0
answered_goes old new x step = elim (answered_on old new x step) [
  | inl (at, reply, goes) ↦ (record { request = at; reply = reply } ∷ [], goes)
  | inr same ↦ goes_none old.0 new.0 same
]

-- by many
pub exchanged_goes : (old new : Timed Life) (xs : List MessageExchange) → Exchanged (timed (answers_by life_serves)) old xs new → GoesFrom old.0 new.0
exchanged_goes old new [] same = goes_none old.0 new.0 (ap (λ (l : Timed Life). l.0) same)
exchanged_goes old new (x ∷ xs) (mid, first, rest) = goes_through old.0 mid.0 new.0 (answered_goes old mid x first) (exchanged_goes mid new xs rest)

-- by one whose reply was given up, or by none
pub late_goes : (rest : List ℕ) (mid new : Timed Life)
    → (new ≡ mid) ⊎ ((m : Message) × (after : List ℕ) × BeginsMessage rest m after × GaveUp (answers_by life_serves) mid m new) → GoesFrom mid.0 new.0
late_goes rest mid new (inl same) = goes_none mid.0 new.0 (ap (λ (l : Timed Life). l.0) same)
late_goes rest mid new (inr (m, after, begins, (now, reads, inl same))) = goes_none mid.0 new.0 same
late_goes rest mid new (inr (m, after, begins, (now, reads, inr (reply, step)))) =
    answered_goes mid new (record { message = m; now = now; reply = reply }) (step, reads)

-- and along a whole conversation
pub run_goes : (old new : Timed Life) (unread left held holds : Option (List ℕ)) (end : conversation.End)
    → IsRun (answers_by life_serves) message_refusal_of old new unread left held holds end → GoesFrom old.0 new.0
run_goes old new unread left held holds Closed (input, all, inl (expects, said)) = exchanged_goes old new said.conversation.exchanges said.conversation.served
run_goes old new unread left held holds Closed (input, all, inr said) = exchanged_goes old new said.conversation.exchanges said.conversation.served
run_goes old new unread left held holds BadMessage (input, all, fault, said) = exchanged_goes old new said.conversation.exchanges said.conversation.served
run_goes old new unread left held holds ReadFault (input, taken, expects, said) = exchanged_goes old new said.conversation.exchanges said.conversation.served
run_goes old new unread left held holds WriteFault (input, all, text, appends, cut) =
    let before = exchanged_goes old cut.mid cut.before.exchanges cut.before.served in
    elim cut.is_last [
      | inl reply ↦ goes_through old.0 cut.mid.0 new.0 before (answered_goes cut.mid new reply.exchange reply.answered)
      | inr other ↦ goes_through old.0 cut.mid.0 new.0 before
          (goes_none cut.mid.0 new.0 (ap (λ (l : Timed Life). l.0) (leaves_office message_refusal_of cut.rest cut.mid cut.last new other)))
    ]
run_goes old new unread left held holds Memory (input, all, text, appends, given) =
    goes_through old.0 given.mid.0 new.0 (exchanged_goes old given.mid given.before.exchanges given.before.served)
    (late_goes given.rest given.mid new given.after)
