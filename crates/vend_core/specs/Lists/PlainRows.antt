-- An office in plain lists of rows, and what the rows keep so that each can be looked up.
use Rattle.std.specs.Prelude.{◌≡◌, ℕ, ◌≤◌, ◌&&◌, ◌==◌, Bool, List, [], ◌∷◌, ◌++◌, Option, Some}
use Rattle.std.specs.Prelude.{IsSome, All, filter, length, map, not, bytes_eq, if◌then◌else◌}
use Rattle.std.specs.List.{list_any}
use Rattle.std.specs.Map.{lookup}
use Rattle.sts_fields.specs.Base.{base_eq}
use Rattle.sts_fields.specs.declared.base.Base.{Base}
use Rattle.sts_fields.specs.Tid.{last_tid}
use Rattle.tariff.specs.declared.step.Step.{Step}
use Rattle.office_rules.specs.Office.{Office, greatest_count}
use Rattle.office_rules.specs.declared.office.meter.Meter.{Meter}
use Rattle.office_rules.specs.declared.office.row.Row.{Row}
use Rattle.office_rules.specs.declared.office.row.Row.TheVariants as kinds
use Rattle.office_rules.specs.declared.office.sale.Sale.{Sale}
use Rattle.office_rules.specs.declared.office.shift.Shift.{Shift}

-- what the first row under a name has
abbrev pub row_of : {X : Type 0} → List (List ℕ × X) → List ℕ → Option X
row_of rows name = lookup (bytes_eq name) rows

-- whether a row has the base under the number
abbrev pub has_base : List (List ℕ × Base) → List ℕ → Base → Bool
has_base rows number base = list_any (λ row. bytes_eq number row.0 && base_eq base row.1) rows

-- the steps of the first row under a name and a first day
abbrev pub steps_from : List ((List ℕ × ℕ) × List Step) → List ℕ → ℕ → Option (List Step)
steps_from rows name day = lookup (λ k. bytes_eq name k.0 && (day == k.1)) rows

-- the rows that are not those of a name and a first day
abbrev pub rows_without : List ℕ → ℕ → List ((List ℕ × ℕ) × List Step)
    → List ((List ℕ × ℕ) × List Step)
rows_without name day rows =
    filter (λ row. not (bytes_eq name row.0.0 && (day == row.0.1))) rows

-- the office that the rows stand for
abbrev pub office_of_rows : List (List ℕ × List Step) → List (List ℕ × Meter)
    → List (List ℕ × Base) → List ((List ℕ × ℕ) × List Step) → List Shift → List Sale → Office
office_of_rows tariffs meters bases dated_steps shifts sales =
    record {
      tariffs = λ name. row_of tariffs name;
      meters = λ number. row_of meters number;
      bases = λ number base. has_base bases number base;
      dated_steps = λ name day. steps_from dated_steps name day;
      shifts = shifts;
      sales = sales;
    }

-- a meter's tariff is one of the office's
abbrev pub HaveTariffs : List (List ℕ × List Step) → List (List ℕ × Meter) → Type 0
HaveTariffs tariffs meters = (number : List ℕ) (m : Meter) → row_of meters number ≡ Some m
    → IsSome (row_of tariffs m.tariff)

-- what a sale needs of the sales before it: identifiers of 24 bits, and at most a thousand million
-- of them
pub record AreSales (sales : List Sale) : Type 0 where
  pub tids : All (λ s. s.tid ≤ last_tid) sales
  pub count : length sales ≤ greatest_count

-- a row with this meter, where it has this number
abbrev pub row_put : List ℕ → Meter → (List ℕ × Meter) → (List ℕ × Meter)
row_put number m row = if bytes_eq row.0 number then (row.0, m) else row

-- the tariffs, the further steps and the meters among an import's rows, the last one in front
abbrev pub tariffs_of : List Row → List (List ℕ × List Step)
tariffs_of [] = []
tariffs_of (kinds.Tariff name steps ∷ rest) = tariffs_of rest ++ (name, steps) ∷ []
tariffs_of (kinds.Steps name day steps ∷ rest) = tariffs_of rest
tariffs_of (kinds.Meter number m ∷ rest) = tariffs_of rest

abbrev pub dated_steps_of : List Row → List ((List ℕ × ℕ) × List Step)
dated_steps_of [] = []
dated_steps_of (kinds.Tariff name steps ∷ rest) = dated_steps_of rest
dated_steps_of (kinds.Steps name day steps ∷ rest) =
    dated_steps_of rest ++ ((name, day), steps) ∷ []
dated_steps_of (kinds.Meter number m ∷ rest) = dated_steps_of rest

abbrev pub meters_of : List Row → List (List ℕ × Meter)
meters_of [] = []
meters_of (kinds.Tariff name steps ∷ rest) = meters_of rest
meters_of (kinds.Steps name day steps ∷ rest) = meters_of rest
meters_of (kinds.Meter number m ∷ rest) = meters_of rest ++ (number, m) ∷ []

-- the base of a meter's row, and those of many
abbrev pub base_row : (List ℕ × Meter) → (List ℕ × Base)
base_row row = (row.0, row.1.base)

abbrev pub bases_of : List Row → List (List ℕ × Base)
bases_of rows = map base_row (meters_of rows)
