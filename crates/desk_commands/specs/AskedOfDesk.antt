-- What a command does that asks a running desk: it sends a message, or one for each page of a list,
-- and prints of the replies what the command on the file would print. It opens no file of an office
-- and has no clock.
use Rattle.std.specs.Prelude.{◌≡◌, ◌⊎◌, ◌<◌, ◌≤◌, ℕ, Bool, false, List, [], length}
use Rattle.asks.specs.declared.ask.Ask.{Ask}
use Rattle.asks.specs.declared.ask.Ask.TheVariants.{Import, Look}
use Rattle.asks.specs.declared.lookup.Lookup.TheVariants as lookups
use Rattle.book_states.specs.declared.lookup.Found.TheVariants as found
use Rattle.conversation.specs.message.Framing.{longest_body}
use Rattle.desk_client.specs.Answers.{IsReplyTo}
use Rattle.desk_client.specs.Sent.{ask_text}
use Rattle.desk_client.specs.declared.told.Granted.{Granted}
use Rattle.desk_client.specs.declared.told.Granted.TheVariants as grants
use Rattle.desk_client.specs.declared.told.Told.{Told}
use Rattle.desk_client.specs.declared.told.Told.TheVariants as tells
use Rattle.papers.specs.Receipt.{receipt_of}
use Rattle.sts_fields.specs.Text.{Text}
use Rattle.office_rules.specs.declared.decision.refusal.Refusal.TheVariants as refusals
use Rattle.office_rules.specs.declared.office.sale.Sale.{Sale}
use Rattle.command_line.specs.declared.address.Address.{Address}
use Rattle.command_line.specs.declared.office_words.AskWords.{AskWords}
use Rattle.command_line.specs.declared.office_words.AskWords.TheVariants as words
use Rattle.vend_ports.specs.print.Printed.{added_line, clock_line, done_line, file_line, net_line}
use Rattle.vend_ports.specs.print.Printed.{read_fault_line, refusal_line, shift_line}
use Rattle.vend_ports.specs.print.Printed.{withdrawn_line}
use Rattle.desk_commands.specs.ListedAtDesk.{IsListedAtDesk}
use Rattle.desk_commands.specs.Exchanged.{Calls, IsUnsent, one_round}
use Rattle.vend_ports.specs.port.Texts.{Texts}
use Rattle.desk_commands.specs.print.FoundTexts.{IsMadeWhole, found_text}
use Rattle.desk_commands.specs.print.TotalsLine.{totals_line}
use Rattle.vend_ports.specs.print.Told.{IsTold, Outputs}
use Rattle.desk_commands.specs.declared.at_desk.RowsFault.{RowsFault}
use Rattle.desk_commands.specs.declared.at_desk.RowsFault.TheVariants.{Unread, TooLong}
use Rattle.vend_ports.specs.declared.command_end.CommandEnd.{CommandEnd}
use Rattle.vend_ports.specs.declared.command_end.CommandEnd.TheVariants.{Done, Refused}

-- ---- the ask

-- the rows of an import are the bytes of its file, as many as a desk takes
abbrev pub AreRowsFor : Texts → (path : Text) → (rows : List ℕ) → Type 0
AreRowsFor texts path rows = texts.reads path rows × (length rows ≤ longest_body)

-- why there are none: the file cannot be read, or has more bytes than a desk takes
abbrev pub HasNoRows : Texts → (path : Text) → RowsFault → Type 0
HasNoRows texts path (Unread fault) = texts.lacks path fault
HasNoRows texts path TooLong =
    (bytes : List ℕ) × texts.reads path bytes × (longest_body < length bytes)

-- the words ask this one thing: the import of the rows of their file; or what they say, and then no
-- file is read
abbrev pub WordsAsk : Texts → AskWords → Ask → Type 0
WordsAsk texts (words.Import kind path) ask =
    (rows : List ℕ) × AreRowsFor texts path.now rows × (ask ≡ Import kind rows)
WordsAsk texts (words.Ask it) ask = texts.leaves × (ask ≡ it)
WordsAsk texts (words.List list) ask = ⊥
WordsAsk texts words.Export ask = ⊥

-- they name a file of rows that a desk cannot be asked with, for this fault
abbrev pub WordsLackRows : Texts → AskWords → RowsFault → Type 0
WordsLackRows texts (words.Import kind path) fault = HasNoRows texts path.now fault
WordsLackRows texts (words.Ask it) fault = ⊥
WordsLackRows texts (words.List list) fault = ⊥
WordsLackRows texts words.Export fault = ⊥

-- ---- what is told

-- a sale that was sold is told as its receipt, and one that was looked up as `show sale` has it
abbrev pub told_sale_text : (json : Bool) → Ask → Sale → Text
told_sale_text json (Look lookup) s = found_text json lookup (found.Sale s)
told_sale_text json ask s = receipt_of s

-- what is granted, as the command on the file prints it
abbrev pub granted_output : (json : Bool) → Ask → Granted → Text
granted_output json ask grants.Done = done_line
granted_output json ask (grants.Imported count) = added_line count
granted_output json ask (grants.Withdrawn count) = withdrawn_line count
granted_output json ask (grants.Shift number) = shift_line number
granted_output json ask (grants.Sale sale) = told_sale_text json ask sale
granted_output json ask (grants.Paper text) = text.now
granted_output json ask (grants.Meter m) =
    found_text json (lookups.Meter m.number) (found.Meter m)
granted_output json ask (grants.Quote q) =
    found_text json (lookups.Quote q.meter q.tender) (found.Quote q)
granted_output json ask (grants.Totals shift totals) = totals_line shift totals
granted_output json ask (grants.Page text) = text.now

-- a text that is made whole in memory before it is printed
abbrev pub SaleNeedsRoom : (json : Bool) → Ask → Sale → Type 0
SaleNeedsRoom json (Look lookup) s = IsMadeWhole json lookup (found.Sale s)
SaleNeedsRoom json ask s = ⊥

abbrev pub NeedsRoom : (json : Bool) → Ask → Granted → Type 0
NeedsRoom json ask grants.Done = ⊥
NeedsRoom json ask (grants.Imported count) = ⊥
NeedsRoom json ask (grants.Withdrawn count) = ⊥
NeedsRoom json ask (grants.Shift number) = ⊥
NeedsRoom json ask (grants.Sale sale) = SaleNeedsRoom json ask sale
NeedsRoom json ask (grants.Paper text) = ⊥
NeedsRoom json ask (grants.Meter m) =
    IsMadeWhole json (lookups.Meter m.number) (found.Meter m)
NeedsRoom json ask (grants.Quote q) =
    IsMadeWhole json (lookups.Quote q.meter q.tender) (found.Quote q)
NeedsRoom json ask (grants.Totals shift totals) = ⊥
NeedsRoom json ask (grants.Page text) = ⊥

abbrev pub TellsGranted : (json : Bool) → Ask → Granted → Outputs → CommandEnd → Type 0
TellsGranted json ask granted o end =
    IsTold o (granted_output json ask granted) [] Done end
    ⊎ (NeedsRoom json ask granted × IsTold o [] (refusal_line refusals.Memory) Refused end)

-- what a reply tells is printed: what is granted; a refusal; or that the desk's clock has no moment
abbrev pub TellsTold : (json : Bool) → Ask → Told → Outputs → CommandEnd → Type 0
TellsTold json ask (tells.Granted granted) o end = TellsGranted json ask granted o end
TellsTold json ask (tells.Refused refusal) o end =
    IsTold o [] (refusal_line refusal) Refused end
TellsTold json ask tells.NoMoment o end = IsTold o [] clock_line Refused end

abbrev pub rows_fault_line : RowsFault → Text
rows_fault_line (Unread fault) = read_fault_line fault
rows_fault_line TooLong = file_line

-- ---- one ask

-- It is asked by one message, and what the reply to it tells is printed. Whatever else came of the
-- message, it is told that no reply did. Where there was no room for the message, no desk was
-- called.
pub data IsAsked (calls : Calls) (uncalled : Type 0) (desk : Address) (json : Bool) (ask : Ask)
    (o : Outputs) (end : CommandEnd) : Type 0 where
  replied : (came : Text) → calls.exchanges desk (one_round (ask_text ask) came)
      → (told : Told) → IsReplyTo ask came told → TellsTold json ask told o end
      → IsAsked calls uncalled desk json ask o end
  broken : (came : Text) → calls.exchanges desk (one_round (ask_text ask) came)
      → ((told : Told) → ¬ IsReplyTo ask came told)
      → IsTold o [] net_line Refused end → IsAsked calls uncalled desk json ask o end
  unsent : IsUnsent calls desk [] (ask_text ask) → IsTold o [] net_line Refused end
      → IsAsked calls uncalled desk json ask o end
  no_room : uncalled → IsTold o [] (refusal_line refusals.Memory) Refused end
      → IsAsked calls uncalled desk json ask o end

-- the words ask a desk one thing; or they name a file of rows that it cannot be asked with, and it
-- is not called
pub data IsAskedOnce (texts : Texts) (calls : Calls) (uncalled : Type 0) (desk : Address)
    (asked_by : AskWords) (json : Bool) (o : Outputs) (end : CommandEnd) : Type 0 where
  asked : (ask : Ask) → WordsAsk texts asked_by ask → IsAsked calls uncalled desk json ask o end
      → IsAskedOnce texts calls uncalled desk asked_by json o end
  without_rows : (fault : RowsFault) → WordsLackRows texts asked_by fault → uncalled
      → IsTold o [] (rows_fault_line fault) Refused end
      → IsAskedOnce texts calls uncalled desk asked_by json o end

-- ---- the command

-- The words ask a desk one thing, or for the pages of a list. An export is the list of all sales,
-- and never JSON.
abbrev pub IsAskedOfDesk : Texts → Calls → (uncalled : Type 0) → Address → AskWords
    → (json : Bool) → Outputs → CommandEnd → Type 0
IsAskedOfDesk texts calls uncalled desk (words.List list) json o end =
    texts.leaves × IsListedAtDesk calls desk list json o end
IsAskedOfDesk texts calls uncalled desk words.Export json o end =
    texts.leaves × IsListedAtDesk calls desk (lookups.Sales 0) false o end
IsAskedOfDesk texts calls uncalled desk asked_by json o end =
    IsAskedOnce texts calls uncalled desk asked_by json o end
