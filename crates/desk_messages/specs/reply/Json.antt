-- Lists and tariffs as values of JSON.
use Rattle.std.specs.Prelude.{List, [], ◌∷◌, All, codes, map}
use Rattle.serde_json.specs.Data.{Data, Items, array, item, member, no_items, object}
use Rattle.records.specs.Cell.{text}
use Rattle.records.specs.Json.{members_data, record_data}
use Rattle.sts_fields.specs.Day.{IsDay}
use Rattle.tariff.specs.Steps.{IsSteps}
use Rattle.tariff.specs.StepsText.{steps_text}
use Rattle.office_rules.specs.Name.{IsName}
use Rattle.book_states.specs.declared.lookup.LaterSteps.{LaterSteps}
use Rattle.book_states.specs.declared.lookup.ListedTariff.{ListedTariff}
use Rattle.desk_messages.specs.reply.Lists.{later_cells, later_names}

-- the array of these values, in their order
abbrev pub items_of : List Data → Items
items_of [] = no_items
items_of (d ∷ ds) = item d (items_of ds)

abbrev pub array_of : List Data → Data
array_of ds = array (items_of ds)

abbrev pub later_data : LaterSteps → Data
later_data l = record_data later_names (later_cells l)

-- a tariff
abbrev pub tariff_data : ListedTariff → Data
tariff_data t =
    object (member (codes "later") (array_of (map later_data t.later.items))
    (members_data (codes "name" ∷ codes "steps" ∷ [])
    (text t.name ∷ text (steps_text t.steps) ∷ [])))

-- steps from a later day on, by the rules
pub record IsTellableLater (l : LaterSteps) : Type 0 where
  pub from : IsDay l.from
  pub steps : IsSteps l.steps

-- a tariff by the rules
pub record IsTellableTariff (t : ListedTariff) : Type 0 where
  pub name : IsName t.name
  pub steps : IsSteps t.steps
  pub later : All IsTellableLater t.later.items
