-- All members of a list by texts, as its pages have them together.
use Rattle.std.specs.Prelude.{ℕ, Bool, List, All, AllPairs, Contains, IsSome, map}
use Rattle.std.specs.List.{flat_map}
use Rattle.book_facts.specs.Lookups.{IsListedMeter, IsListedTariff}
use Rattle.book_states.specs.declared.lookup.ListedMeter.{ListedMeter}
use Rattle.book_states.specs.declared.lookup.ListedTariff.{ListedTariff}
use Rattle.book_lists.specs.Pages.{ComesBefore}
use Rattle.sts_fields.specs.Text.{Text}
use Rattle.office_rules.specs.Office.{Office}
use Rattle.desk_commands.specs.print.ListTexts.{meter_line, meter_names, table_text, tariff_lines}
use Rattle.desk_commands.specs.print.ListTexts.{tariff_names}

-- all keys after a text, in the order of their bytes, each once
pub record AreAllAfter (Has : Text → Type 0) (after : Text) (keys : List Text) : Type 0 where
  pub there : All (λ key. Has key × ComesBefore after key) keys
  pub in_order : AllPairs ComesBefore keys
  pub whole : (key : Text) → Has key → ComesBefore after key → Contains keys key

-- all tariffs after a name, and all meters after a number
pub record AreAllTariffs (o : Office) (day : ℕ) (after : Text) (tariffs : List ListedTariff)
    : Type 0 where
  pub each : All (IsListedTariff o day) tariffs
  pub all : AreAllAfter (λ name. IsSome (o.tariffs name)) after (map (λ t. t.name) tariffs)

pub record AreAllMeters (o : Office) (after : Text) (meters : List ListedMeter) : Type 0 where
  pub each : All (IsListedMeter o) meters
  pub all : AreAllAfter (λ number. IsSome (o.meters number)) after (map (λ m. m.number) meters)

-- their tables
abbrev pub whole_tariffs_text : (named : Bool) → List ListedTariff → Text
whole_tariffs_text named tariffs = table_text named tariff_names (flat_map tariff_lines tariffs)

abbrev pub whole_meters_text : (named : Bool) → List ListedMeter → Text
whole_meters_text named meters = table_text named meter_names (flat_map meter_line meters)
