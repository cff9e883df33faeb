-- The bodies of asks.
use Rattle.std.specs.Prelude.{◌≡◌, ℕ, ◌+◌, List, [], ◌∷◌, ◌++◌, IsUtf8, Option, None, Some, length, map, ⊤}
use Rattle.std.specs.Borrow.{Bor}
use Rattle.serde_json.specs.Data.{Data}
use Rattle.serde_json.specs.Find.{get}
use Rattle.serde_json.specs.Read.{read}
use Rattle.records.specs.Cell.{Held, text}
use Rattle.records.specs.Json.{HasMembers, IsObject, cell_data}
use Rattle.records.specs.Record.{record_text}
use Rattle.tariff.specs.Steps.{IsSteps}
use Rattle.tariff.specs.StepsText.{steps_text}
use Rattle.tariff.specs.declared.step.Step.{Step}
use Rattle.asks.specs.Endpoint.{Shape, unread, rows, object}
use Rattle.asks.specs.Value.{AreOf, cell_of}
use Rattle.asks.specs.declared.ask.Bulk.{Bulk}
use Rattle.asks.specs.declared.ask.Bulk.TheVariants.{Nothing, Rows, Steps}
use Rattle.asks.specs.declared.value.Value.{Value}
use Rattle.asks.specs.declared.value.ValueKind.{ValueKind}

-- the cell of steps is their text; rows have none
abbrev pub bulk_cells : Bulk → List Held
bulk_cells Nothing = []
bulk_cells (Rows csv) = []
bulk_cells (Steps steps) = text (steps_text steps) ∷ []

-- the cells of steps, if there are any
abbrev pub steps_cells : Option (Bor (List Step)) → List Held
steps_cells None = []
steps_cells (Some steps) = text (steps_text steps.now) ∷ []

-- the cells of an object: those of the values, and of steps behind them
abbrev pub body_cells : List Value → Bulk → List Held
body_cells values bulk = map cell_of values ++ bulk_cells bulk

-- the rows that a body has
abbrev pub rows_text : Bulk → List ℕ
rows_text Nothing = []
rows_text (Rows csv) = csv
rows_text (Steps steps) = []

-- the body of a shape that tells these: rows as they are, or the record of the cells
abbrev pub body_text : Shape → List Value → Bulk → List ℕ
body_text unread values bulk = []
body_text rows values bulk = rows_text bulk
body_text (object names kinds) values bulk = record_text names (body_cells values bulk)

-- steps are told exactly where there is one name more than kinds
abbrev pub FitsNames : List (List ℕ) → List ValueKind → Bulk → Type 0
FitsNames names kinds Nothing = length names ≡ length kinds
FitsNames names kinds (Rows csv) = ⊥
FitsNames names kinds (Steps steps) = (length names ≡ length kinds + 1) × IsSteps steps

abbrev pub IsNothing : Bulk → Type 0
IsNothing Nothing = ⊤
IsNothing (Rows csv) = ⊥
IsNothing (Steps steps) = ⊥

abbrev pub AreRows : Bulk → Type 0
AreRows Nothing = ⊥
AreRows (Rows csv) = ⊤
AreRows (Steps steps) = ⊥

-- what a body of this shape has to tell
abbrev pub FitsShape : Shape → List Value → Bulk → Type 0
FitsShape unread values bulk = AreOf [] values × IsNothing bulk
FitsShape rows values bulk = AreOf [] values × AreRows bulk
FitsShape (object names kinds) values bulk = AreOf kinds values × FitsNames names kinds bulk

-- the body is the text of this value
pub record IsJson (body : List ℕ) (json : Data) : Type 0 where
  pub text : IsUtf8 body
  pub reads : read body ≡ Some json

-- the body is JSON, an object with exactly these members, in whatever order
pub record SaysCells (names : List (List ℕ)) (cells : List Held) (body : List ℕ) : Type 0 where
  pub json : Data
  pub is_json : IsJson body json
  pub members : IsObject json names cells

-- the body says these: one that is not looked at may be any, and one of rows is the rows
abbrev pub BodySays : Shape → List Value → Bulk → List ℕ → Type 0
BodySays unread values bulk body = ⊤
BodySays rows values bulk body = body ≡ rows_text bulk
BodySays (object names kinds) values bulk body = SaysCells names (body_cells values bulk) body

-- ---- a body as it is read

-- the values are those of the kinds, and the members of these names tell them, and what is beside
-- them
pub record AreMembers (names : List (List ℕ)) (kinds : List ValueKind) (json : Data)
    (values : List Value) (bulk : Bulk) : Type 0 where
  pub are : AreOf kinds values
  pub named : FitsNames names kinds bulk
  pub members : HasMembers json names (body_cells values bulk)

-- the body says them as an object
pub record SaysObject (names : List (List ℕ)) (kinds : List ValueKind) (body : List ℕ)
    (values : List Value) (bulk : Bulk) : Type 0 where
  pub are : AreOf kinds values
  pub named : FitsNames names kinds bulk
  pub says : SaysCells names (body_cells values bulk) body

-- a member is the text of these steps
pub record AreStepsAt (name : List ℕ) (json : Data) (steps : List Step) : Type 0 where
  pub are : IsSteps steps
  pub told : get name json ≡ Some (cell_data (text (steps_text steps)))
