-- The interim reply to a message that expects one.
use Rattle.std.proofs.Common.{◌≡◌, ◌⊎◌, ℕ, inl, inr, Bool, true, false, List, [], ◌++◌, refl, ap, sym, ◌∙◌, append_assoc, append-nil}
use Rattle.std.proofs.lemmas.Bool.{false≢true}
use Rattle.conversation.specs.declared.message.framing.Framing.{Framing}
use Rattle.conversation.specs.declared.message.message_fault.MessageFault.{MessageFault}
use Rattle.conversation.specs.declared.wants.Wants.{Wants}
use Rattle.conversation.specs.declared.wants.Wants.TheVariants.{Head, Body}
use Rattle.conversation.specs.Conversation.{interim, interim_for, text_of, IsInterim, IsRefusal}
use Rattle.conversation.specs.Exchanges.{MessageExchange}
use Rattle.conversation.specs.message.Heads.{HasNoHead}
use Rattle.conversation.specs.message.Messages.{ended, BeginsExpecting, BeginsFaulty, BeginsMessage, IsTold, LacksBody, Message}
use Rattle.conversation.specs.message.Next.{IsRefusedEver}
use Rattle.conversation.specs.Parts.{is_due}
use Rattle.conversation.specs.Wants.{IsAwaited, told_of}
use Rattle.conversation.proofs.MessageLemmas.{BeginsWith-append}
use Rattle.conversation.proofs.ReadingLemmas.{NoHead, no_empty_head, ok_same, refused_now, said_once}

-- ---- what stands at the front

-- an input that begins with the head of a message that expects an interim reply does so whatever
-- follows
pub BeginsExpecting-append : (input more : List ℕ) → BeginsExpecting input → BeginsExpecting (input ++ more)
BeginsExpecting-append input more x = record {
  head = x.head;
  rest = x.rest ++ more;
  framing = x.framing;
  begins = BeginsWith-append input x.head x.rest more x.begins;
  framed = x.framed;
  expects = x.expects;
}

-- an interim reply that may have been written may have been so whatever follows
pub IsTold-append : (input more : List ℕ) (told : Bool) → IsTold input told → IsTold (input ++ more) told
IsTold-append input more true x = BeginsExpecting-append input more x
IsTold-append input more false x = tt

-- the message at the front expects what was written for it
pub told_message : (input : List ℕ) (m : Message) (rest : List ℕ) (told : Bool) → IsTold input told → BeginsMessage input m rest
    → told ≡ true → m.expects ≡ true
told_message input m rest true x y is =
    let said = said_once input x.head y.head _ _ _ _ x.begins y.begins x.framed y.framed in
    sym (ap (λ (f : Framing). f.expects) (ok_same _ _ said)) ∙ x.expects
told_message input m rest false x y is = absurd (false≢true is)

-- and so does one that lacks its body
pub told_lack : (input : List ℕ) (missing : ℕ) (expects told : Bool) → IsTold input told → LacksBody input missing expects
    → told ≡ true → expects ≡ true
told_lack input missing expects true x y is =
    let said = said_once input x.head y.head _ _ _ _ x.begins y.begins x.framed y.framed in
    sym y.expects_so ∙ sym (ap (λ (f : Framing). f.expects) (ok_same _ _ said)) ∙ x.expects
told_lack input missing expects false x y is = absurd (false≢true is)

-- for a message that lacks its body what it expects may have been written
pub lack_told : (input : List ℕ) (missing : ℕ) (expects : Bool) → LacksBody input missing expects → IsTold input expects
lack_told input missing true x =
    record { head = x.head; rest = x.body; framing = x.framing; begins = x.begins; framed = x.framed; expects = x.expects_so }
lack_told input missing false x = tt

-- and for what is awaited
pub awaited_told : (rest : List ℕ) (w : Wants) → IsAwaited rest w → IsTold rest (told_of w)
awaited_told rest (Head count) is = tt
awaited_told rest (Body count told) is = lack_told rest count told is

-- nothing was written for what is no head
pub headless_untold : (input : List ℕ) (told : Bool) → HasNoHead input → IsTold input told → told ≡ false
headless_untold input true none x = absurd (none x.head x.rest x.begins)
headless_untold input false none x = refl

-- nor where no input is left
pub nothing_untold : (told : Bool) → IsTold [] told → told ≡ false
nothing_untold told = headless_untold [] told no_empty_head

no_faulty : (input : List ℕ) (fault : MessageFault) → BeginsExpecting input → BeginsFaulty input fault ⊎ NoHead ended input fault → ⊥
no_faulty input fault x (inl y) = let said = said_once input x.head y.head _ _ _ _ x.begins y.begins x.framed y.faulty in cc
no_faulty input fault x (inr y) = y.none x.head x.rest x.begins

-- nor for a message that is refused
pub refused_untold : (input : List ℕ) (fault : MessageFault) (told : Bool) → IsRefusedEver input fault → IsTold input told → told ≡ false
refused_untold input fault true ever x = absurd (no_faulty input fault x (refused_now input fault ever))
refused_untold input fault false ever x = refl

-- ---- what is written

-- what was written and what is due are what is expected
pub told_due : (expects told : Bool) → (told ≡ true → expects ≡ true) → interim_for told ++ interim_for (is_due expects told) ≡ interim_for expects
told_due true true is = append-nil interim
told_due false true is = absurd (false≢true (is refl))
told_due true false is = refl
told_due false false is = refl

-- what was written for a message, with what is due and the reply, is the whole text for it
pub told_text : (x : MessageExchange) (m : Message) (told : Bool) → x.message ≡ m → (told ≡ true → m.expects ≡ true)
    → interim_for told ++ (interim_for (is_due m.expects told) ++ x.reply) ≡ text_of x
told_text x m told same is =
    sym (append_assoc (interim_for told) (interim_for (is_due m.expects told)) x.reply)
    ∙ ap (λ bytes. bytes ++ x.reply) (told_due m.expects told is)
    ∙ ap (λ (n : Message). interim_for n.expects ++ x.reply) (sym same)

-- for a message that expects no interim reply its reply alone is written
pub reply_alone : (x : MessageExchange) → x.message.expects ≡ false → text_of x ≡ x.reply
reply_alone x none = ap (λ b. interim_for b ++ x.reply) none

-- ---- for the crates above

-- an input whose message expects no interim reply does not begin with the head of one that does
pub expects_none : (input : List ℕ) (m : Message) (rest : List ℕ) → BeginsMessage input m rest → m.expects ≡ false → ¬ BeginsExpecting input
expects_none input m rest begins none x = false≢true (sym none ∙ told_message input m rest true x begins refl)

-- a text that is no reply leaves the office as it was
pub leaves_office : {O : Type 0} (refusal : MessageFault → List ℕ) (input : List ℕ) (old : O) (text : List ℕ) (new : O)
    → IsRefusal refusal input old text new ⊎ IsInterim input old text new → new ≡ old
leaves_office refusal input old text new (inl refuses) = refuses.same
leaves_office refusal input old text new (inr told) = told.same
