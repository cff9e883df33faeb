-- What messages mean: what one asks of the office and at which moment, or why it asks nothing.
--
-- The clock is read for each message. A target and a method are looked at first, then what the
-- clock gave, and then the body.
use Rattle.std.specs.Prelude.{◌≡◌, ◌≢◌, ℕ, ℤ, pos, List, Option, Some, Result, ⊤}
use Rattle.sts_fields.specs.Moment.{IsMoment}
use Rattle.papers.specs.File.{AreFileRecords, Fields}
use Rattle.papers.specs.Import.{IsReading}
use Rattle.papers.specs.declared.file_kind.FileKind.{FileKind}
use Rattle.papers.specs.declared.row_fault.RowFault.{RowFault}
use Rattle.office_rules.specs.declared.office.row.Row.{Row}
use Rattle.conversation.specs.message.Messages.{Message}
use Rattle.asks.specs.Ask.{Asks, IsReadOf, row_by}
use Rattle.asks.specs.Parts.{parts_of}
use Rattle.asks.specs.declared.ask.Ask.{Ask}
use Rattle.asks.specs.declared.ask.Ask.TheVariants.{Look}
use Rattle.asks.specs.declared.endpoint.Grants.{Grants}
use Rattle.asks.specs.declared.endpoint.Grants.TheVariants as grants
use Rattle.asks.specs.declared.kind.AskKind.{AskKind}
use Rattle.asks.specs.declared.lookup.Lookup.{Lookup}
use Rattle.asks.specs.declared.value.Value.{Value}
use Rattle.desk_messages.specs.declared.desk_fault.DeskFault.{DeskFault}
use Rattle.desk_messages.specs.declared.desk_fault.DeskFault.TheVariants as faults
use Rattle.desk_messages.specs.declared.reply.form.Form.{Form}
use Rattle.desk_messages.specs.declared.reply.form.Form.TheVariants.{Json, Paper}
use Rattle.desk_messages.specs.declared.meaning.Meaning.{Meaning}
use Rattle.desk_messages.specs.declared.meaning.Meaning.TheVariants as meanings
use Rattle.desk_messages.specs.Routes.{IsAllowed, IsAskedFor, NamesNothing}

-- the form in which a sale is told that is granted so
abbrev pub form_of : Grants → Form
form_of grants.Paper = Paper
form_of granted = Json

-- the form in which a sale that is looked up is told
abbrev pub lookup_form : Lookup → Form
lookup_form lookup = form_of (row_by (Look lookup)).grants

-- the bytes are a file, and this is what it reads as: its rows, or its first fault
abbrev pub AreRead : FileKind → List ℕ → Result (List Row) RowFault → Type 0
AreRead kind csv read =
    (records : List Fields) × AreFileRecords csv records × IsReading kind records read

-- the clock gave this moment of the office
pub record IsGiven (now : Option ℤ) (moment : ℕ) : Type 0 where
  pub given : now ≡ Some (pos moment)
  pub is_moment : IsMoment moment

-- what it gave is no moment of the office
pub record IsOutside (now : Option ℤ) : Type 0 where
  pub second : ℤ
  pub given : now ≡ Some second
  pub outside : (moment : ℕ) → IsMoment moment → pos moment ≢ second

-- it gave something
abbrev pub IsRead : Option ℤ → Type 0
IsRead now = (second : ℤ) × (now ≡ Some second)

-- the message asks this of the office at this moment
pub record MessageAsks (m : Message) (now : Option ℤ) (moment : ℕ) (ask : Ask) : Type 0 where
  pub comes : IsGiven now moment
  pub asks : Asks m ask

-- the target and the method ask for values of this kind
abbrev pub IsFor : Message → AskKind → List Value → Type 0
IsFor m kind values = IsAskedFor m.target m.method kind values

-- the body says nothing that is asked with values of this kind
pub record IsNoBody (m : Message) (kind : AskKind) (values : List Value) : Type 0 where
  pub is_for : IsFor m kind values
  pub none : (ask : Ask) → ¬ IsReadOf kind values m.body (parts_of ask)

-- why a message asks nothing of the office; for one that has no route it does not matter what the
-- clock gave
abbrev pub MessageHasFault : Message → Option ℤ → DeskFault → Type 0
MessageHasFault m now faults.NoRoute = NamesNothing m.target × IsRead now
MessageHasFault m now (faults.Method allowed) = IsAllowed m.target m.method allowed × IsRead now
MessageHasFault m now faults.Clock =
    (kind : AskKind) × (values : List Value) × IsFor m kind values × IsOutside now
MessageHasFault m now faults.Body =
    (kind : AskKind) × (values : List Value) × (moment : ℕ) × IsNoBody m kind values
    × IsGiven now moment

-- what a message means, with what the clock gave for it
abbrev pub IsMeaning : Message → Option ℤ → Meaning → Type 0
IsMeaning m now (meanings.Asks moment ask) = MessageAsks m now moment ask
IsMeaning m now (meanings.Told fault) = MessageHasFault m now fault
IsMeaning m now meanings.Memory = ⊤
