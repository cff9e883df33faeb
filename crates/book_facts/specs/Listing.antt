-- What the members of a page are made of.
use Rattle.std.specs.Prelude.{◌≡◌, ℕ, List, Option, Some, None}
use Rattle.office_rules.specs.Office.Lookup.{steps_on}
use Rattle.office_rules.specs.Office.{Office}
use Rattle.book_tables.specs.declared.reading.pages.MeterRow.{MeterRow}
use Rattle.book_facts.specs.Lookups.{AreLaterSteps}
use Rattle.book_states.specs.declared.lookup.ListedMeter.{ListedMeter}
use Rattle.book_states.specs.declared.lookup.ListedTariff.{ListedTariff}

-- a meter as a list has it, without its key
abbrev pub listed_meter : MeterRow → ListedMeter
listed_meter row =
    record { number = row.number; base = row.meter.base; tariff = row.meter.tariff }

-- what is told of a tariff: its steps on a day, and those that begin later
pub record TellsSteps (o : Office) (day : ℕ) (t : ListedTariff) : Type 0 where
  pub steps : t.steps ≡ steps_on o t.name day
  pub later : AreLaterSteps (o.dated_steps t.name) day t.later.items

-- this is told of the tariff of a name; where nothing is, the office has none of the name
abbrev pub TellsOf : Office → ℕ → List ℕ → Option ListedTariff → Type 0
TellsOf o day name None = o.tariffs name ≡ None
TellsOf o day name (Some t) = (t.name ≡ name) × TellsSteps o day t
