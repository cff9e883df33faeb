-- What `selfcheck` does: the desk answers two messages over memory, and the replies over a
-- connection of the machine with itself are compared with those.
use Rattle.std.specs.Prelude.{◌≡◌, ◌⊎◌, ℕ, pos, List, [], ◌∷◌, ◌++◌, Contains, Option, Some}
use Rattle.std.specs.Prelude.{None, Ok, Err, codes}
use Rattle.book_opening.specs.declared.fault.OpenFault.TheVariants as opening
use Rattle.books.specs.Asking.{ReplyAt}
use Rattle.books.specs.Keeps.{Seen}
use Rattle.desk.specs.Answering.{answers_by, life_serves, message_refusal_of}
use Rattle.conversation.specs.Exchanges.{Timed}
use Rattle.desk_messages.specs.reply.Text.{line_end}
use Rattle.conversation.specs.Run.{IsAll, IsRun}
use Rattle.conversation.specs.declared.end.End as conversation
use Rattle.conversation.specs.declared.end.End.TheVariants.{Closed, WriteFault}
use Rattle.sts_fields.specs.Text.{Text}
use Rattle.sts_fields.specs.declared.base.Base.TheVariants.{Y2014}
use Rattle.sts_token.specs.Token.{BlockFunction}
use Rattle.vend_core.specs.Law.Life.{Life}
use Rattle.vend_core.specs.Law.LifeLaws.{extended_by, opened}
use Rattle.office_rules.specs.Office.{empty_office}
use Rattle.office_rules.specs.declared.decision.answer.Answer.{Answer}
use Rattle.office_rules.specs.declared.decision.refusal.Refusal.{Refusal}
use Rattle.office_rules.specs.declared.decision.refusal.Refusal.TheVariants as refusal
use Rattle.office_rules.specs.declared.decision.request.Request.{Request}
use Rattle.office_rules.specs.declared.decision.request.Request.TheVariants.{AddTariff, AddMeter}
use Rattle.office_rules.specs.declared.decision.request.Request.TheVariants.{OpenShift}
use Rattle.office_rules.specs.declared.decision.request.Stamped.{Stamped}
use Rattle.vend_ports.specs.print.Printed.{net_line, refusal_line, selfcheck_line}
use Rattle.office_commands.specs.print.Opening.{opening_line}
use Rattle.vend_ports.specs.port.Sent.{IsSent}
use Rattle.vend_ports.specs.print.Sink.{Held}
use Rattle.vend_ports.specs.print.Told.{IsTold, Outputs}
use Rattle.vend_ports.specs.declared.command_end.CommandEnd.{CommandEnd}
use Rattle.vend_ports.specs.declared.command_end.CommandEnd.TheVariants.{Done, Refused as IsRefused}
use Rattle.vend_ports.specs.declared.port.loopback.Loopback as loopback
use Rattle.vend_commands.specs.declared.selfcheck.fault.SelfcheckFault.{SelfcheckFault}
use Rattle.vend_commands.specs.declared.selfcheck.fault.SelfcheckFault.TheVariants.{Net, Unopened}
use Rattle.vend_commands.specs.declared.selfcheck.fault.SelfcheckFault.TheVariants.{Refused}

-- ---- the office

-- the moment at which its clock stands, in Unix seconds: 2014-01-01T00:00:30Z
abbrev pub clock_moment : ℕ
clock_moment = 1388534430

abbrev pub flat_name : Text
flat_name = codes "flat"

-- a tariff of 100 cents a kWh, a meter that has it, and a shift
abbrev pub add_flat : Request
add_flat = AddTariff flat_name (record { ends = None; price = 100 } ∷ [])

abbrev pub add_selfcheck_meter : Request
add_selfcheck_meter =
    AddMeter (codes "12345678903") (record { base = Y2014; tariff = flat_name; key = 0 })

abbrev pub open_selfcheck_shift : Request
open_selfcheck_shift = OpenShift (codes "ann")

-- the life went on by this request, at the moment of the clock, and it was granted
pub record IsGranted (request : Request) (old new : Life) : Type 0 where
  pub at : Stamped
  pub answer : Answer
  pub at_moment : at.moment ≡ clock_moment
  pub for_request : at.request ≡ request
  pub goes_on : new ≡ extended_by old at (Ok answer)

-- by each of these, in order, and by nothing beside
abbrev pub AreGranted : List Request → Life → Life → Type 0
AreGranted [] old new = new ≡ old
AreGranted (request ∷ requests) old new =
    (mid : Life) × IsGranted request old mid × AreGranted requests mid new

-- what prepares an office to sell to a meter
abbrev pub preparing : List Request
preparing = add_flat ∷ add_selfcheck_meter ∷ open_selfcheck_shift ∷ []

-- the life of an empty office that was prepared so
abbrev pub IsPrepared : BlockFunction → Life → Type 0
IsPrepared forward life = AreGranted preparing (opened forward empty_office) life

-- Books refused one of these requests so.
abbrev pub IsUngranted : {B : Type 0} → (B → Seen) → Refusal → Type 0
IsUngranted {B} see refusal = (request : Request) × Contains preparing request
    × (old : B) × (new : B) × ReplyAt clock_moment request (Err refusal) (see old) (see new)

-- why no office was prepared: the store failed, or there was no room for the books or for a tariff,
-- or books refused
abbrev pub IsUnprepared : {B : Type 0} → (B → Seen) → SelfcheckFault → Type 0
IsUnprepared see Net = ⊥
IsUnprepared see (Unopened fault) = (fault ≡ opening.Store) ⊎ (fault ≡ opening.Memory)
IsUnprepared see (Refused why) = (why ≡ refusal.Memory) ⊎ IsUngranted see why

-- ---- the conversation

-- a sale, and right behind its body a call for the receipt
abbrev pub messages : Text
messages = codes "POST /sales HTTP/1.1" ++ line_end ++ codes "Host: d" ++ line_end
    ++ codes "Content-Length: 64" ++ line_end ++ line_end
    ++ codes "{\"meter\":\"12345678903\",\"operator\":\"ann\",\"ref\":\"A-1\",\"tender\":10}"
    ++ codes "GET /sales/1/receipt HTTP/1.1" ++ line_end ++ codes "Host: d" ++ line_end ++ line_end

-- the desk held a conversation from this life on, at the moment of the clock, and it ended so
abbrev pub ConversesWithItself : Life → (unread held holds : Held) → conversation.End → Type 0
ConversesWithItself life unread held holds end = (after : Timed Life) × (left : Held)
    × IsRun (answers_by life_serves) message_refusal_of (life, Some (pos clock_moment ∷ [])) after
    unread left held holds end

-- all that was read was answered, and what is written now is the replies
abbrev pub IsAnsweredFrom : Life → (unread held holds : Held) → Type 0
IsAnsweredFrom life unread held holds = ConversesWithItself life unread held holds Closed

-- what is told of a conversation over memory that ended so, where all there is room for is written;
-- and of one over a connection
abbrev pub fault_in_memory : conversation.End → Option SelfcheckFault
fault_in_memory Closed = None
fault_in_memory WriteFault = Some (Refused refusal.Memory)
fault_in_memory end = Some Net

abbrev pub fault_over_net : conversation.End → Option SelfcheckFault
fault_over_net Closed = None
fault_over_net end = Some Net

-- the text is the replies of an office that was prepared to these messages
abbrev pub AreReplies : BlockFunction → Text → Type 0
AreReplies forward text =
    (life : Life) × IsPrepared forward life
    × IsAnsweredFrom life (Some messages) (Some []) (Some text)

-- why there are none: no office was prepared, or there is no room for the desk, or the conversation
-- was cut
pub data HasNoReplies {B : Type 0} (see : B → Seen) (forward : BlockFunction)
    (fault : SelfcheckFault) : Type 0 where
  no_office : IsUnprepared see fault → HasNoReplies see forward fault
  no_desk : fault ≡ Refused refusal.Memory → HasNoReplies see forward fault
  cut_off : (life : Life) → IsPrepared forward life → (holds : Held) (end : conversation.End)
      → ConversesWithItself life (Some messages) (Some []) holds end
      → fault_in_memory end ≡ Some fault
      → HasNoReplies see forward fault

module _ {N S : Type 0} (of : loopback.Ghosts N S) (remaining contents : S → Held) (net : N)
    (forward : BlockFunction) where
  -- A connection was had, on which the messages were sent and nothing more, and the desk of an
  -- office so prepared held its conversation over the other end, which ended so. What it wrote
  -- comes back on this stream.
  pub record ConversesOver (near : S) (end : conversation.End) : Type 0 where
    pub reader : S
    pub writer : S
    pub written : S
    pub connects : of.connects net messages near reader writer
    pub sent : IsSent contents (of.joins net) messages near
    pub life : Life
    pub prepared : IsPrepared forward life
    pub converses :
        ConversesWithItself life (remaining reader) (contents writer) (contents written) end

  -- it answered all, and what came back, where that is known, was exactly the replies that it
  -- writes over memory
  pub record AgreesOver : Type 0 where
    pub text : Text
    pub replies : AreReplies forward text
    pub near : S
    pub answered : ConversesOver near Closed
    pub received : IsAll (remaining near) text

  -- why it is not told that it did: there are no replies over memory, or no office was prepared for
  -- the connection; or there was no room for the desk or for what came back; or no connection could
  -- be had; or the conversation over it was cut; or it answered all, and what came back was
  -- something else or was not read to its end
  pub data Disagrees {B : Type 0} (see : B → Seen) (fault : SelfcheckFault) : Type 0 where
    in_memory : HasNoReplies see forward fault → Disagrees see fault
    unprepared : IsUnprepared see fault → Disagrees see fault
    no_room : fault ≡ Refused refusal.Memory → Disagrees see fault
    unconnected : of.lacks net → fault ≡ Net → Disagrees see fault
    cut : (near : S) (end : conversation.End) → ConversesOver near end
        → fault_over_net end ≡ Some fault → Disagrees see fault
    unlike : (text : Text) → AreReplies forward text → (near : S) → ConversesOver near Closed
        → fault ≡ Net → Disagrees see fault

-- ---- what is told

abbrev pub selfcheck_fault_line : SelfcheckFault → Text
selfcheck_fault_line Net = net_line
selfcheck_fault_line (Unopened fault) = opening_line fault
selfcheck_fault_line (Refused refusal) = refusal_line refusal

-- the same replies came over a connection, and that is told; or why they did not
pub data IsSelfchecked (Agrees : Type 0) (Disagrees : SelfcheckFault → Type 0) (o : Outputs)
    (end : CommandEnd) : Type 0 where
  agreed : Agrees → IsTold o selfcheck_line [] Done end → IsSelfchecked Agrees Disagrees o end
  failed : (fault : SelfcheckFault) → Disagrees fault
      → IsTold o [] (selfcheck_fault_line fault) IsRefused end
      → IsSelfchecked Agrees Disagrees o end
