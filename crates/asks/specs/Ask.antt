-- What messages ask: the message of an ask, and the ask of a message.
use Rattle.std.specs.Prelude.{◌≡◌, ℕ, List, None, Some, Result, Ok, Err, false}
use Rattle.conversation.specs.declared.message.method.Method.{Method}
use Rattle.conversation.specs.declared.message.method.Method.TheVariants.{Get, Head, Post, Delete}
use Rattle.conversation.specs.message.Messages.{Message}
use Rattle.asks.specs.Body.{BodySays, FitsShape, body_text}
use Rattle.asks.specs.Endpoint.{Row, endpoint_of}
use Rattle.asks.specs.Parts.{Parts, ask_of, parts_of}
use Rattle.asks.specs.Target.{Names, target_kinds, target_text}
use Rattle.asks.specs.Value.{AreOf}
use Rattle.asks.specs.declared.ask.Ask.{Ask}
use Rattle.asks.specs.declared.fault.AskFault.{AskFault}
use Rattle.asks.specs.declared.fault.AskFault.TheVariants.{OutsideRule, Memory}
use Rattle.asks.specs.declared.kind.AskKind.{AskKind}
use Rattle.asks.specs.declared.value.Value.{Value}

-- the row of some parts, and of an ask
abbrev pub row_at : Parts → Row
row_at p = endpoint_of p.kind

abbrev pub row_by : Ask → Row
row_by ask = row_at (parts_of ask)

-- the target of an ask
abbrev pub target_of : Ask → List ℕ
target_of ask = target_text (row_by ask) (parts_of ask).target

-- its body
abbrev pub body_of : Ask → List ℕ
body_of ask = body_text (row_by ask).shape (parts_of ask).body (parts_of ask).bulk

-- the message that asks it; the conversation goes on after it, and it expects no interim reply
abbrev pub message_of : Ask → Message
message_of ask = record {
  method = (row_by ask).method;
  target = target_of ask;
  body = body_of ask;
  closes = false;
  expects = false;
}

-- the parts are those that their row wants, each by its rule
pub record AreAskable (p : Parts) : Type 0 where
  pub target : AreOf (target_kinds (row_at p)) p.target
  pub body : FitsShape (row_at p).shape p.body p.bulk

-- An ask that a message can have: its values keep the rules of their kinds. The import of rows that
-- were read is none.
abbrev pub IsAskable : Ask → Type 0
IsAskable ask = AreAskable (parts_of ask)

-- the method of the rows that a message of this method asks for: HEAD asks for those of GET
abbrev pub row_method : Method → Method
row_method Get = Get
row_method Head = Get
row_method Post = Post
row_method Delete = Delete

-- a message has these parts
pub record HasParts (m : Message) (p : Parts) : Type 0 where
  pub askable : AreAskable p
  pub method : (row_at p).method ≡ row_method m.method
  pub target : m.target ≡ target_text (row_at p) p.target
  pub body : BodySays (row_at p).shape p.body p.bulk m.body

-- a message asks this
abbrev pub Asks : Message → Ask → Type 0
Asks m ask = HasParts m (parts_of ask)

-- ---- as they are read

-- the parts are those of a kind and of values of its target, and what a body says
pub record IsReadOf (kind : AskKind) (target : List Value) (body : List ℕ) (p : Parts)
    : Type 0 where
  pub of_kind : p.kind ≡ kind
  pub of_target : p.target ≡ target
  pub fits : FitsShape (endpoint_of kind).shape p.body p.bulk
  pub says : BodySays (endpoint_of kind).shape p.body p.bulk body

-- the ask of these parts was found, or there is none
abbrev pub IsAskOf : Parts → Result Ask AskFault → Type 0
IsAskOf p (Ok ask) = ask_of p ≡ Some ask
IsAskOf p (Err OutsideRule) = ask_of p ≡ None
IsAskOf p (Err Memory) = ⊥
