-- Which rows of the office's tables a write leaves, whatever they are: all but its own.
use Rattle.std.specs.Prelude.{◌≡◌, ℕ, Bool, false, not, ◌&&◌, List, [], ◌∷◌, ◌++◌, bytes_eq, codes}
use Rattle.std.specs.Prelude.{filter}
use Rattle.std.specs.List.{AllByRecursion, list_all, list_any}
use Rattle.std.specs.Ordering.{is_eq}
use Rattle.sqlite.specs.Effect.{Database}
use Rattle.sqlite.specs.Order.{Row}
use Rattle.sqlite_value.specs.Order.{column, value_cmp}
use Rattle.sqlite.specs.declared.types.Value.{Value}
use Rattle.sqlite.specs.declared.types.Value.TheVariants.{Text}
use Rattle.one_table.specs.Numbered.{IsInOrder}
use Rattle.sts_fields.specs.Base.{year_of}
use Rattle.sts_fields.specs.Calendar.{month_at}
use Rattle.sts_fields.specs.declared.base.Base.{Base}
use Rattle.office_rules.specs.declared.office.sale.Sale.{Sale}
use Rattle.book_tables.specs.Holds.{rows_in, table_names}
use Rattle.book_tables.specs.row.Rows.{DatedStepRow, StepRow, number}

-- A key of stored rows: places and the value at each. At place 0 is the number of a row, and the
-- columns follow.
abbrev pub Key : Type 0
Key = List (ℕ × Value)

-- whether a row has the key, as SQL compares values
abbrev pub has_key : Key → Row → Bool
has_key key row = list_all (λ part. is_eq (value_cmp (column row part.0) part.1)) key

-- keys, each in the table of a name; and whether a row of a table has one of them
abbrev pub Keys : Type 0
Keys = List (List ℕ × Key)

abbrev pub is_own : Keys → List ℕ → Row → Bool
is_own keys name row = list_any (λ own. bytes_eq own.0 name && has_key own.1 row) keys

-- the rows of a table that have none of the keys, in their order
abbrev pub others_in : Keys → Database → List ℕ → List Row
others_in keys db name = filter (λ row. not (is_own keys name row)) (rows_in db name)

-- Rows stand in these tables in the order of their numbers. SQLite keeps them so, but no clause of
-- `sqlite` says it of a database that is found.
abbrev pub AreInOrder : List (List ℕ) → Database → Type 0
AreInOrder names db = AllByRecursion (λ name. IsInOrder (rows_in db name)) names

-- Each table of the office has the rows that it had but for those of these keys, whatever they are:
-- with a false row too. Rows that stood in order still do.
pub record KeepsRows (keys : Keys) (old new : Database) : Type 0 where
  pub others : AllByRecursion
      (λ name. others_in keys new name ≡ others_in keys old name) table_names
  pub order : AreInOrder table_names old → AreInOrder table_names new

-- no row of the table of a name has the key, whatever its rows are
abbrev pub HasNone : List ℕ → Key → Database → Type 0
HasNone name key db = AllByRecursion (λ row. has_key key row ≡ false) (rows_in db name)

-- ---- the keys of what is written

abbrev pub sale_key : ℕ → Keys
sale_key n = (codes "sales", (0, number n) ∷ []) ∷ []

abbrev pub shift_keys : ℕ → Keys
shift_keys n = (codes "shifts", (0, number n) ∷ []) ∷ []

abbrev pub meter_keys : List ℕ → Keys
meter_keys meter = (codes "meters", (1, Text meter) ∷ []) ∷ []

abbrev pub base_keys : List ℕ → Base → Keys
base_keys meter base =
    (codes "meter_bases", (1, Text meter) ∷ (2, number (year_of base)) ∷ []) ∷ []

abbrev pub name_keys : List ℕ → Keys
name_keys name = (codes "tariffs", (1, Text name) ∷ []) ∷ []

abbrev pub step_keys : StepRow → Keys
step_keys r = (codes "tariff_steps", (1, Text r.tariff) ∷ (2, number r.place) ∷ []) ∷ []

abbrev pub dated_step_key : DatedStepRow → Keys
dated_step_key r =
    (codes "dated_steps", (1, Text r.tariff) ∷ (2, number r.day) ∷ (3, number r.place) ∷ []) ∷ []

abbrev pub last_id_keys : (List ℕ × Base) → Keys
last_id_keys key =
    (codes "last_ids", (1, Text key.0) ∷ (2, number (year_of key.1)) ∷ []) ∷ []

abbrev pub month_keys : (List ℕ × ℕ) → Keys
month_keys key = (codes "month_tenths", (1, Text key.0) ∷ (2, number key.1) ∷ []) ∷ []

abbrev pub shift_totals_key : ℕ → Keys
shift_totals_key n = (codes "shift_totals", (0, number n) ∷ []) ∷ []

-- ---- those of several writes

abbrev pub tariff_keys : List ℕ → Keys
tariff_keys name =
    (codes "tariffs", (1, Text name) ∷ []) ∷ (codes "tariff_steps", (1, Text name) ∷ []) ∷ []

abbrev pub dated_key : List ℕ → ℕ → Key
dated_key name day = (1, Text name) ∷ (2, number day) ∷ []

abbrev pub dated_keys : List ℕ → ℕ → Keys
dated_keys name day = (codes "dated_steps", dated_key name day) ∷ []

abbrev pub totals_keys : Sale → Keys
totals_keys s =
    last_id_keys (s.meter, s.base) ++ month_keys (s.meter, month_at s.moment)
    ++ shift_totals_key s.shift
