-- What a selfcheck does and finds.
use Rattle.std.proofs.Common.{◌≡◌, ◌⊎◌, ◌∙◌, arith, ℕ, List, [], Option, Some, None, Result, Ok, Err, ap, inl, inr, refl, subst, sym}
use Rattle.std.specs.Prelude.{Contains, IfErr, IsErrAnd, OnOk}
use Rattle.books.specs.Asking.{ReplyAt}
use Rattle.books.specs.Keeps.{Represents, Seen}
use Rattle.vend_core.specs.Law.Life.{Life}
use Rattle.vend_core.specs.Law.LifeLaws.{extended_by}
use Rattle.office_rules.specs.declared.decision.answer.Answer.{Answer}
use Rattle.office_rules.specs.declared.decision.refusal.Refusal.{Refusal}
use Rattle.office_rules.specs.declared.decision.request.Request.{Request}
use Rattle.conversation.specs.declared.end.End as conversation
use Rattle.conversation.specs.declared.end.End.TheVariants.{Closed, BadMessage, ReadFault, WriteFault, Memory}
use Rattle.vend_commands.specs.commands.Selfchecked.{AreReplies, ConversesWithItself, HasNoReplies, IsGranted, IsPrepared, IsUnprepared, add_flat, add_selfcheck_meter, clock_moment, fault_in_memory, fault_over_net, messages, open_selfcheck_shift, preparing}
use Rattle.vend_commands.specs.commands.Selfchecked.{ConversesOver, Disagrees}
use Rattle.vend_commands.specs.commands.Selfchecked.Disagrees.{no_room, unlike}
use Rattle.vend_commands.specs.commands.Selfchecked.HasNoReplies.{cut_off}
use Rattle.office_rules.specs.declared.decision.refusal.Refusal.TheVariants as refusal
use Rattle.sts_fields.specs.Text.{Text}
use Rattle.vend_ports.specs.declared.port.loopback.Loopback as loopback
use Rattle.sts_token.specs.Token.{BlockFunction}
use Rattle.vend_ports.specs.print.Sink.{Held}
use Rattle.vend_commands.specs.declared.selfcheck.fault.SelfcheckFault.{SelfcheckFault}
use Rattle.vend_commands.specs.declared.selfcheck.fault.SelfcheckFault.TheVariants.{Net, Refused}

-- what holds where something went well, told by what follows from it
pub on_ok : {A E P Q : Type 0} (r : Result A E) → OnOk r P → (P → Q) → OnOk r Q
on_ok (Ok u) holds so = so holds
on_ok (Err e) holds so = tt

-- the same of what went wrong, and of a fault that is passed on
pub on_err : {A E : Type 0} {P Q : E → Type 0} (r : Result A E) → IfErr r P → ((e : E) → P e → Q e) → IfErr r Q
on_err (Ok u) holds so = tt
on_err (Err e) holds so = so e holds

-- what holds of a fault holds of what went wrong, where that fault was passed on
pub passed_on : {A E : Type 0} (P : E → Type 0) (r : Result A E) (f : E) → IsErrAnd r (λ x. x ≡ f) → P f → IfErr r P
passed_on P (Ok a) f is p = tt
passed_on P (Err e) f is p = subst P (sym is) p

-- the requests that prepare an office
pub first_request : Contains preparing add_flat
first_request = (0, omega arith, refl)

-- the second one adds the meter of the selfcheck
pub second_request : Contains preparing add_selfcheck_meter
second_request = (1, omega arith, refl)

-- the third one opens its shift
pub third_request : Contains preparing open_selfcheck_shift
third_request = (2, omega arith, refl)

-- books that granted a request keep the life that went on by it
pub granted : (reply : Result Answer Refusal) (answer : Answer) (moment : ℕ) (request : Request) (old new : Seen) → reply ≡ Ok answer
    → moment ≡ clock_moment → ReplyAt moment request reply old new
    → (life : Life) → Represents life old → (after : Life) × IsGranted request life after × Represents after new
granted reply answer moment request old new is now (at, asked, replied) life keeps = (
  extended_by life at reply,
  record {
    at = at;
    answer = answer;
    at_moment = asked.at_moment ∙ now;
    for_request = asked.for_request;
    goes_on = ap (extended_by life at) is;
  },
  replied.keeps life keeps,
)

-- books that refused it, refused it at the clock's moment
pub refused_so : (reply : Result Answer Refusal) (why : Refusal) (moment : ℕ) (request : Request) (old new : Seen) → reply ≡ Err why
    → moment ≡ clock_moment → ReplyAt moment request reply old new → ReplyAt clock_moment request (Err why) old new
refused_so reply why moment request old new is now replied =
    subst (λ m. ReplyAt m request (Err why) old new) now (subst (λ r. ReplyAt moment request r old new) is replied)

-- the request that was refused is one of those that prepare an office
pub ungranted : {B : Type 0} (see : B → Seen) (request same : Request) (why : Refusal) (old new : B) → request ≡ same
    → Contains preparing same → ReplyAt clock_moment request (Err why) (see old) (see new) → IsUnprepared see (Refused why)
ungranted see request same why old new is among replied =
    inr (same, among, old, new, subst (λ r. ReplyAt clock_moment r (Err why) (see old) (see new)) is replied)

-- an end of which nothing is told is the whole conversation's
pub whole_in_memory : (end : conversation.End) → fault_in_memory end ≡ None → end ≡ Closed
whole_in_memory Closed is = refl
whole_in_memory BadMessage is = absurd (cc)
whole_in_memory ReadFault is = absurd (cc)
whole_in_memory WriteFault is = absurd (cc)
whole_in_memory Memory is = absurd (cc)

-- the same of a conversation over the network
pub whole_over_net : (end : conversation.End) → fault_over_net end ≡ None → end ≡ Closed
whole_over_net Closed is = refl
whole_over_net BadMessage is = absurd (cc)
whole_over_net ReadFault is = absurd (cc)
whole_over_net WriteFault is = absurd (cc)
whole_over_net Memory is = absurd (cc)

-- what a whole conversation over memory wrote is the replies
pub replies_so : (forward : BlockFunction) (life : Life) (held text : List ℕ) (end : conversation.End) (told : Option SelfcheckFault)
    → IsPrepared forward life → held ≡ [] → ConversesWithItself life (Some messages) (Some held) (Some text) end → told
    ≡ fault_in_memory end → told ≡ None → AreReplies forward text
replies_so forward life held text end told prepared fresh converses is none =
    let closed = whole_in_memory end (sym is ∙ none) in (
      life,
      prepared,
      subst (λ (h : List ℕ). ConversesWithItself life (Some messages) (Some h) (Some text) Closed) fresh
          (subst (ConversesWithItself life (Some messages) (Some held) (Some text)) closed converses),
    )

-- one that was cut gives none
pub cut_so : {B : Type 0} (see : B → Seen) (forward : BlockFunction) (life : Life) (held : List ℕ) (holds : Held) (end : conversation.End)
    (told : Option SelfcheckFault) (fault : SelfcheckFault) → IsPrepared forward life → held ≡ []
    → ConversesWithItself life (Some messages) (Some held) holds end → told ≡ fault_in_memory end → told ≡ Some fault → HasNoReplies see forward fault
cut_so see forward life held holds end told fault prepared fresh converses is some =
    cut_off life prepared holds end (subst (λ (h : List ℕ). ConversesWithItself life (Some messages) (Some h) holds end) fresh converses) (sym is ∙ some)

-- what came back was not read to its end
pub not_read : {N S B : Type 0} (of : loopback.Ghosts N S) (remaining contents : S → Held) (net : N) (forward : BlockFunction)
    (see : B → Seen) (fault : SelfcheckFault) (text : Text) → AreReplies forward text → (near : S)
    → ConversesOver of remaining contents net forward near Closed → (fault ≡ Net) ⊎ (fault ≡ Refused refusal.Memory)
    → Disagrees of remaining contents net forward see fault
not_read of remaining contents net forward see fault text replies near answered (inl is) = unlike text replies near answered is
not_read of remaining contents net forward see fault text replies near answered (inr is) = no_room is
