-- What is printed of a list that a running desk has: its members, page by page, each page asked for
-- by a message of one connection.
use Rattle.std.specs.Prelude.{◌≡◌, ◌≢◌, ◌⊎◌, ⊤, Bool, true, List, [], ◌∷◌, ◌++◌, length, Option}
use Rattle.std.specs.Prelude.{Some, None, Result, Ok, Err}
use Rattle.std.specs.Borrow.{Bor}
use Rattle.asks.specs.declared.ask.Ask.TheVariants.{Look}
use Rattle.asks.specs.declared.lookup.Lookup.{Lookup}
use Rattle.asks.specs.declared.lookup.Lookup.TheVariants as lookups
use Rattle.book_states.specs.declared.lookup.Found.{Found}
use Rattle.command_line.specs.declared.address.Address.{Address}
use Rattle.desk_client.specs.Answers.{IsReplyTo}
use Rattle.desk_client.specs.Page.{HasTokens, IsToldPage, page_as_read}
use Rattle.desk_client.specs.Sent.{ask_text}
use Rattle.desk_client.specs.declared.page.PageKind.{PageKind}
use Rattle.desk_client.specs.declared.page.PageKind.TheVariants as kinds
use Rattle.desk_client.specs.declared.told.Granted.TheVariants as grants
use Rattle.desk_client.specs.declared.told.Told.{Told}
use Rattle.desk_client.specs.declared.told.Told.TheVariants as tells
use Rattle.sts_fields.specs.Text.{Text}
use Rattle.office_rules.specs.declared.decision.refusal.Refusal.TheVariants as refusals
use Rattle.desk_commands.specs.Exchanged.{Calls, IsRound, IsUnheld, IsUnsent, Round}
use Rattle.desk_commands.specs.PageOrder.{ComesAfter}
use Rattle.desk_commands.specs.print.ListTexts.{pages_text}
use Rattle.desk_commands.specs.print.Pages.{IsPagePut, list_behind, most_pages}
use Rattle.vend_ports.specs.print.Printed.{clock_line, net_line, refusal_line}
use Rattle.vend_ports.specs.print.Sink.{Held, Sink}
use Rattle.vend_ports.specs.print.Told.{IsTold, Outputs, Takes}
use Rattle.vend_ports.specs.declared.command_end.CommandEnd.{CommandEnd}
use Rattle.vend_ports.specs.declared.command_end.CommandEnd.TheVariants.{Done, Refused}
use Rattle.desk_commands.specs.declared.list_at_desk.PageFault.{PageFault}
use Rattle.desk_commands.specs.declared.list_at_desk.PageFault.TheVariants as faults

-- ---- pages

-- A list is looked up by its first page. Any other look-up is none.
abbrev pub IsNoList : Lookup → Type 0
IsNoList (lookups.Tariffs after) = ⊥
IsNoList (lookups.Meters after) = ⊥
IsNoList (lookups.Shifts after) = ⊥
IsNoList (lookups.Sales after) = ⊥
IsNoList lookup = ⊤

-- what the pages of a list have; any other look-up has no pages
abbrev pub page_kind : Lookup → PageKind
page_kind (lookups.Tariffs after) = kinds.Tariffs
page_kind (lookups.Meters after) = kinds.Meters
page_kind (lookups.Shifts after) = kinds.Shifts
page_kind lookup = kinds.Sales

-- a whole reply came that tells a text for a page
abbrev pub IsTextReply : Lookup → (came : Text) → (body : Bor Text) → Type 0
IsTextReply list came body = IsReplyTo (Look list) came (tells.Granted (grants.Page body))

-- a whole reply came that tells this page of the list; its members come after what was asked for,
-- and the digits of its sales can be a token's
pub record IsPageReply (list : Lookup) (came : Text) (page : Found) : Type 0 where
  pub body : Bor Text
  pub reply : IsTextReply list came body
  pub told : IsToldPage (page_kind list) page
  pub order : ComesAfter list page
  pub tokens : HasTokens page
  pub text : body.now ≡ page_as_read page

-- These rounds told these pages of a list: the first, and each next one the first of the list
-- behind the one before it. What is left is the list behind the last of them.
abbrev pub TellPages : Option Lookup → List Round → List Found → (left : Option Lookup) → Type 0
TellPages list [] [] left = left ≡ list
TellPages (Some list) (round ∷ rounds) (page ∷ pages) left =
    (round.message ≡ ask_text (Look list)) × IsPageReply list round.came page
    × TellPages (list_behind page) rounds pages left
TellPages list rounds pages left = ⊥

-- ---- why there are no more of them

-- why no further page is printed, as it is told
abbrev pub page_fault_line : PageFault → Text
page_fault_line faults.NoMessage = refusal_line refusals.Memory
page_fault_line faults.Unsent = net_line
page_fault_line (faults.Refused refusal) = refusal_line refusal
page_fault_line faults.NoMoment = clock_line
page_fault_line faults.OutOfForm = net_line
page_fault_line faults.Memory = refusal_line refusals.Memory

-- the text is no page of the list, or one whose members do not come after what was asked for, or
-- one with a sale whose digits can be no token's
abbrev pub IsOtherText : Lookup → Text → Type 0
IsOtherText list text = (page : Found) → IsToldPage (page_kind list) page → ComesAfter list page
    → HasTokens page → text ≢ page_as_read page

-- why a text is not printed as a page of a list: it is none, or there is no room for its page
abbrev pub IsNoPageText : Lookup → Text → PageFault → Type 0
IsNoPageText list text faults.OutOfForm = IsOtherText list text
IsNoPageText list text faults.Memory = ⊤
IsNoPageText list text fault = ⊥

-- why what came is not printed as the next page of a list: a refusal; that the desk's clock has no
-- moment; what is no whole reply, or tells no page of the list, or that no list was asked for; or a
-- text, and there is no room for its page or for what is printed of it
abbrev pub IsNoPage : Lookup → (came : Text) → PageFault → Type 0
IsNoPage list came faults.NoMessage = ⊥
IsNoPage list came faults.Unsent = ⊥
IsNoPage list came (faults.Refused refusal) =
    IsReplyTo (Look list) came (tells.Refused refusal)
IsNoPage list came faults.NoMoment = IsReplyTo (Look list) came tells.NoMoment
IsNoPage list came faults.OutOfForm = ((told : Told) → ¬ IsReplyTo (Look list) came told)
    ⊎ (((body : Bor Text) × IsTextReply list came body × IsOtherText list body.now)
    ⊎ IsNoList list)
IsNoPage list came faults.Memory = (body : Bor Text) × IsTextReply list came body

-- what came tells this page of the list, or it does not, for this fault
abbrev pub IsPageIn : Lookup → (came : Text) → Result Found PageFault → Type 0
IsPageIn list came (Ok page) = IsPageReply list came page
IsPageIn list came (Err fault) = IsNoPage list came fault

-- ---- one page

-- A message that asks for the first page of a list was sent on a stream, and what came tells this
-- page, or it does not; or the message was cut off, or there was no room for what came; or there
-- was none for the message, and the stream is as it was.
abbrev pub IsPageAsked : {S : Type 0} → (remaining contents : S → Held) → Lookup
    → (fresh last : S) → Result Found PageFault → Type 0
IsPageAsked remaining contents list fresh last (Err faults.NoMessage) = last ≡ fresh
IsPageAsked remaining contents list fresh last (Err faults.Unsent) =
    IsUnheld remaining contents fresh last (ask_text (Look list))
IsPageAsked remaining contents list fresh last page = (came : Text)
    × IsRound remaining contents fresh last (ask_text (Look list)) came
    × IsPageIn list came page

-- it is printed, and the list behind it is to follow; or nothing is printed
abbrev pub IsPagePrinted : {S : Type 0} → (remaining contents : S → Held) → Lookup
    → (json first : Bool) → (fresh last : S) → (before after : Sink)
    → Result (Option Lookup) PageFault → Type 0
IsPagePrinted remaining contents list json first fresh last before after (Ok next) =
    (page : Found) × IsPageAsked remaining contents list fresh last (Ok page)
    × IsPagePut page json first before after next
IsPagePrinted remaining contents list json first fresh last before after (Err fault) =
    IsPageAsked remaining contents list fresh last (Err fault) × Takes before after []

-- ---- all pages

-- the rounds, and one more that asks for the next page of a list
abbrev pub and_next : List Round → Lookup → (came : Text) → List Round
and_next rounds list came =
    rounds ++ record { message = ask_text (Look list); came = came } ∷ []

-- A page is not printed, for this fault: there was no room for the message for it, no connection,
-- no room for what came, or what came is no page.
abbrev pub IsPageStop : Calls → Address → List Round → (left : Option Lookup) → PageFault → Type 0
IsPageStop calls desk rounds left faults.NoMessage = calls.exchanges desk rounds
IsPageStop calls desk rounds left faults.Unsent = (list : Lookup) × (left ≡ Some list)
    × IsUnsent calls desk rounds (ask_text (Look list))
IsPageStop calls desk rounds left fault = (list : Lookup) × (left ≡ Some list) × (came : Text)
    × calls.exchanges desk (and_next rounds list came) × IsNoPage list came fault

-- It stops behind the last page; or as the output took no more, or there are more pages than an
-- office in a file can have; or at a page that is not printed.
abbrev pub IsDeskStop : Calls → Address → List Round → List Found → (left : Option Lookup)
    → (failed : Bool) → Option PageFault → Type 0
IsDeskStop calls desk rounds pages left failed None = calls.exchanges desk rounds
    × ((left ≡ None) ⊎ ((failed ≡ true) ⊎ (length pages ≡ most_pages)))
IsDeskStop calls desk rounds pages left failed (Some fault) =
    IsPageStop calls desk rounds left fault

-- what is told of a stop, and how the command ends
abbrev pub page_stop_errors : Option PageFault → Text
page_stop_errors None = []
page_stop_errors (Some fault) = page_fault_line fault

abbrev pub page_stop_end : Option PageFault → CommandEnd
page_stop_end None = Done
page_stop_end (Some fault) = Refused

-- The pages of a list are printed as a desk told them, up to the last one, which is not full; or
-- those before one that did not come, and then why; or those up to one that the output did not
-- take.
pub record IsListedAtDesk (calls : Calls) (desk : Address) (list : Lookup) (json : Bool)
    (o : Outputs) (end : CommandEnd) : Type 0 where
  pub rounds : List Round
  pub pages : List Found
  pub left : Option Lookup
  pub stop : Option PageFault
  pub told : IsTold o (pages_text json pages) (page_stop_errors stop) (page_stop_end stop) end
  pub are : TellPages (Some list) rounds pages left
  pub stops : IsDeskStop calls desk rounds pages left o.new.failed stop
