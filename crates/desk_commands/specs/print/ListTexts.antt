-- What is printed of a page of a list.
use Rattle.std.specs.Prelude.{Bool, true, false, List, [], ◌∷◌, ◌++◌, codes, decimal, if◌then◌else◌}
use Rattle.std.specs.List.{flat_map}
use Rattle.asks.specs.Value.{day_text}
use Rattle.book_states.specs.declared.lookup.Found.{Found}
use Rattle.book_states.specs.declared.lookup.Found.TheVariants as found
use Rattle.book_states.specs.declared.lookup.LaterSteps.{LaterSteps}
use Rattle.book_states.specs.declared.lookup.ListedMeter.{ListedMeter}
use Rattle.book_states.specs.declared.lookup.ListedShift.{ListedShift}
use Rattle.book_states.specs.declared.lookup.ListedTariff.{ListedTariff}
use Rattle.papers.specs.Export.{export_of}
use Rattle.sts_fields.specs.Base.{year_of}
use Rattle.sts_fields.specs.Text.{Text}
use Rattle.tariff.specs.StepsText.{steps_text}
use Rattle.desk_commands.specs.print.FoundTexts.{json_line, number_or_none}
use Rattle.vend_ports.specs.print.Printed.{table_row_of}

-- lines, behind the names of their fields where these are asked for
abbrev pub table_text : (named : Bool) → (names : List Text) → (lines : Text) → Text
table_text named names lines = (if named then table_row_of names else []) ++ lines

-- the steps that a tariff has from a later day on
abbrev pub later_line : (name : Text) → LaterSteps → Text
later_line name l = table_row_of (name ∷ day_text l.from ∷ steps_text l.steps ∷ [])

-- a tariff: its steps on the day of the moment, and a line for each later day
abbrev pub tariff_names : List Text
tariff_names = codes "tariff" ∷ codes "from" ∷ codes "steps" ∷ []

abbrev pub tariff_lines : ListedTariff → Text
tariff_lines t = table_row_of (t.name ∷ codes "-" ∷ steps_text t.steps ∷ [])
    ++ flat_map (later_line t.name) t.later.items

-- a meter; its key is none of the fields
abbrev pub meter_names : List Text
meter_names = codes "meter" ∷ codes "base" ∷ codes "tariff" ∷ []

abbrev pub meter_line : ListedMeter → Text
meter_line m = table_row_of (m.number ∷ decimal (year_of m.base) ∷ m.tariff ∷ [])

-- a shift with its totals; its moments are Unix seconds, and an open one has a hyphen for its end
abbrev pub shift_names : List Text
shift_names = codes "shift" ∷ codes "operator" ∷ codes "opened" ∷ codes "closed" ∷ codes "sales"
    ∷ codes "tenths" ∷ codes "cash" ∷ []

abbrev pub listed_shift_line : ListedShift → Text
listed_shift_line l = table_row_of (decimal l.shift.number ∷ l.shift.operator
    ∷ decimal l.shift.opened ∷ number_or_none l.shift.closed ∷ decimal l.totals.sales
    ∷ decimal l.totals.tenths ∷ decimal l.totals.cash ∷ [])

abbrev pub shift_rows_text : (named : Bool) → List ListedShift → Text
shift_rows_text named shifts = table_text named shift_names (flat_map listed_shift_line shifts)

-- The text of a page: as JSON on a line, or a line for each member, the first page's behind the
-- names of the fields. Sales are those of an export.
abbrev pub page_text : (json first : Bool) → Found → Text
page_text true first page = json_line page
page_text false first (found.Tariffs page) =
    table_text first tariff_names (flat_map tariff_lines page.items)
page_text false first (found.Meters page) =
    table_text first meter_names (flat_map meter_line page.items)
page_text false first (found.Shifts page) = shift_rows_text first page.items
page_text false first (found.Sales page) = export_of first page.items
page_text false first page = []

-- the text of pages, one behind another
abbrev pub pages_text : (json : Bool) → List Found → Text
pages_text json [] = []
pages_text json (page ∷ pages) =
    page_text json true page ++ flat_map (page_text json false) pages
