-- The table of asks: how each kind is asked, and what it grants.
use Rattle.std.specs.Prelude.{ℕ, List, [], ◌∷◌, codes, map}
use Rattle.conversation.specs.declared.message.method.Method.{Method}
use Rattle.conversation.specs.declared.message.method.Method.TheVariants.{Get, Post, Delete}
use Rattle.records.specs.Record.{now}
use Rattle.asks.specs.declared.endpoint.Body.{Body}
use Rattle.asks.specs.declared.endpoint.Body.TheVariants as bodies
use Rattle.asks.specs.declared.endpoint.Endpoint.{Endpoint}
use Rattle.asks.specs.declared.endpoint.Grants.{Grants}
use Rattle.asks.specs.declared.endpoint.Grants.TheVariants as grants
use Rattle.asks.specs.declared.endpoint.Slot.{Slot}
use Rattle.asks.specs.declared.kind.AskKind.{AskKind}
use Rattle.asks.specs.declared.kind.AskKind.TheVariants as kinds
use Rattle.asks.specs.declared.value.ValueKind.{ValueKind}
use Rattle.asks.specs.declared.value.ValueKind.TheVariants as values

-- a value of a target: its kind, and what stands before it behind its slash
pub record Place : Type 0 where
  pub front : List ℕ
  pub kind : ValueKind

-- a body: not looked at, a file of rows, or an object with members of these names and kinds
pub data Shape : Type 0 where
  unread : Shape
  rows : Shape
  object : List (List ℕ) → List ValueKind → Shape

-- a row of the table: the method, the values of the target and what stands behind them, the body,
-- and what is granted
pub record Row : Type 0 where
  pub method : Method
  pub places : List Place
  pub end : List ℕ
  pub shape : Shape
  pub grants : Grants

-- ---- rows as they are in the code

abbrev pub place_of : Slot → Place
place_of slot = record { front = slot.front.now; kind = slot.kind }

abbrev pub shape_of : Body → Shape
shape_of bodies.Unread = unread
shape_of bodies.Rows = rows
shape_of (bodies.Object names kinds) = object (map now names.now) kinds.now

abbrev pub row_of : Endpoint → Row
row_of endpoint = record {
  method = endpoint.method;
  places = map place_of endpoint.slots.now;
  end = endpoint.end.now;
  shape = shape_of endpoint.body;
  grants = endpoint.grants;
}

-- ---- the table

-- a row that is asked by GET
abbrev pub reading : List Place → List ℕ → Grants → Row
reading places end grants =
    record { method = Get; places = places; end = end; shape = unread; grants = grants }

-- one that is asked by POST, with a body of this shape
abbrev pub posting : List Place → List ℕ → Shape → Grants → Row
posting places end shape grants =
    record { method = Post; places = places; end = end; shape = shape; grants = grants }

abbrev pub place : List ℕ → ValueKind → Place
place front kind = record { front = front; kind = kind }

abbrev pub meter : Place
meter = place (codes "meters/") values.Meter

abbrev pub tariff : Place
tariff = place (codes "tariffs/") values.Tariff

abbrev pub shift : Place
shift = place (codes "shifts/") values.Number

abbrev pub sale : Place
sale = place (codes "sales/") values.Number

-- an object with one member
abbrev pub member : List ℕ → ValueKind → Shape
member name kind = object (name ∷ []) (kind ∷ [])

abbrev pub endpoint_of : AskKind → Row
endpoint_of kinds.ImportMeters = posting [] (codes "imports/meters") rows grants.Imported
endpoint_of kinds.ImportTariffs = posting [] (codes "imports/tariffs") rows grants.Imported
endpoint_of kinds.AddTariff =
    posting [] (codes "tariffs")
    (object (codes "name" ∷ codes "steps" ∷ []) (values.Tariff ∷ [])) grants.Done
endpoint_of kinds.AddSteps =
    posting (tariff ∷ []) (codes "steps")
    (object (codes "from" ∷ codes "steps" ∷ []) (values.Day ∷ [])) grants.Done
endpoint_of kinds.WithdrawSteps =
    record {
      method = Delete;
      places = tariff ∷ place (codes "steps/") values.Day ∷ [];
      end = [];
      shape = unread;
      grants = grants.Withdrawn;
    }
endpoint_of kinds.AddMeter =
    posting [] (codes "meters")
    (object (codes "base" ∷ codes "key" ∷ codes "meter" ∷ codes "tariff" ∷ [])
    (values.Base ∷ values.Key ∷ values.Meter ∷ values.Tariff ∷ [])) grants.Done
endpoint_of kinds.SetTariff =
    posting (meter ∷ []) (codes "tariff") (member (codes "tariff") values.Tariff) grants.Done
endpoint_of kinds.MoveBase =
    posting (meter ∷ []) (codes "base") (member (codes "base") values.Base) grants.Done
endpoint_of kinds.SetKey =
    posting (meter ∷ []) (codes "key") (member (codes "key") values.Key) grants.Done
endpoint_of kinds.OpenShift =
    posting [] (codes "shifts") (member (codes "operator") values.Operator) grants.Shift
endpoint_of kinds.CloseShift =
    posting [] (codes "shifts/close") (member (codes "operator") values.Operator) grants.Shift
endpoint_of kinds.Sell =
    posting [] (codes "sales")
    (object (codes "meter" ∷ codes "operator" ∷ codes "ref" ∷ codes "tender" ∷ [])
    (values.Meter ∷ values.Operator ∷ values.Ref ∷ values.Tender ∷ [])) grants.Sale
endpoint_of kinds.Reprint = reading (sale ∷ []) [] grants.Sale
endpoint_of kinds.Receipt = reading (sale ∷ []) (codes "receipt") grants.Paper
endpoint_of kinds.ShiftReport = reading (shift ∷ []) [] grants.Paper
endpoint_of kinds.Health = reading [] (codes "health") grants.Health
endpoint_of kinds.Meter = reading (meter ∷ []) [] grants.Meter
endpoint_of kinds.LastSale = reading (meter ∷ []) (codes "last") grants.Paper
endpoint_of kinds.SaleOfRef =
    reading (place (codes "operators/") values.Operator ∷ place (codes "sales/") values.Ref ∷ [])
    [] grants.Sale
endpoint_of kinds.Quote =
    reading (meter ∷ place (codes "quote?tender=") values.Tender ∷ []) [] grants.Quote
endpoint_of kinds.ShiftTotals = reading (shift ∷ []) (codes "totals") grants.Totals
endpoint_of kinds.FirstTariffs = reading [] (codes "tariffs?after=") grants.Tariffs
endpoint_of kinds.TariffsAfter =
    reading (place (codes "tariffs?after=") values.Tariff ∷ []) [] grants.Tariffs
endpoint_of kinds.FirstMeters = reading [] (codes "meters?after=") grants.Meters
endpoint_of kinds.MetersAfter =
    reading (place (codes "meters?after=") values.Meter ∷ []) [] grants.Meters
endpoint_of kinds.ShiftsAfter =
    reading (place (codes "shifts?after=") values.Start ∷ []) [] grants.Shifts
endpoint_of kinds.SalesAfter =
    reading (place (codes "sales?after=") values.Start ∷ []) [] grants.Sales

-- all kinds, in the order of the code
abbrev pub all_kinds : List AskKind
all_kinds =
    kinds.ImportMeters ∷ kinds.ImportTariffs ∷ kinds.AddTariff ∷ kinds.AddSteps
    ∷ kinds.WithdrawSteps ∷ kinds.AddMeter ∷ kinds.SetTariff ∷ kinds.MoveBase ∷ kinds.SetKey
    ∷ kinds.OpenShift ∷ kinds.CloseShift ∷ kinds.Sell ∷ kinds.Reprint ∷ kinds.Receipt
    ∷ kinds.ShiftReport ∷ kinds.Health ∷ kinds.Meter ∷ kinds.LastSale ∷ kinds.SaleOfRef
    ∷ kinds.Quote ∷ kinds.ShiftTotals ∷ kinds.FirstTariffs ∷ kinds.TariffsAfter
    ∷ kinds.FirstMeters ∷ kinds.MetersAfter ∷ kinds.ShiftsAfter ∷ kinds.SalesAfter ∷ []
