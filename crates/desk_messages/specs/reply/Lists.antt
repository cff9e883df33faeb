-- The lists of an office: the texts of tariffs, which have lists of their own, and of pages.
use Rattle.std.specs.Prelude.{ℕ, true, List, [], ◌∷◌, ◌++◌, codes}
use Rattle.records.specs.Cell.{Held, text}
use Rattle.records.specs.List.{records_text}
use Rattle.records.specs.Record.{members_text}
use Rattle.tariff.specs.StepsText.{steps_text}
use Rattle.book_states.specs.declared.lookup.LaterSteps.{LaterSteps}
use Rattle.book_states.specs.declared.lookup.ListedTariff.{ListedTariff}
-- the date of a day as YYYY-MM-DD
pub use Rattle.asks.specs.Value.{beginning, day_text}

-- the steps that a tariff has from a later day on: the day and the steps as they are added
abbrev pub later_names : List (List ℕ)
later_names = codes "from" ∷ codes "steps" ∷ []

abbrev pub later_cells : LaterSteps → List Held
later_cells l = text (day_text l.from) ∷ text (steps_text l.steps) ∷ []

-- a tariff: its later steps, its name, and its steps on the day
abbrev pub tariff_text : ListedTariff → List ℕ
tariff_text t =
    codes "{\"later\":" ++ (records_text later_names later_cells t.later.items
    ++ members_text true (codes "name" ∷ codes "steps" ∷ [])
    (text t.name ∷ text (steps_text t.steps) ∷ []))
