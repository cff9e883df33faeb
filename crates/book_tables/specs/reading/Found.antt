-- What the rows have of what is looked up.
use Rattle.std.specs.Prelude.{ℕ, List, bytes_eq, filter}
use Rattle.office_rules.specs.declared.office.meter.Meter.{Meter}
use Rattle.book_tables.specs.row.Rows.{Rows}

-- the rows of a tariff's name and of a meter's number
abbrev pub tariffs_named : Rows → List ℕ → List (List ℕ)
tariffs_named rows name = filter (λ r. bytes_eq r name) rows.tariffs

abbrev pub meters_numbered : Rows → List ℕ → List (List ℕ × Meter)
meters_numbered rows number = filter (λ r. bytes_eq r.0 number) rows.meters
