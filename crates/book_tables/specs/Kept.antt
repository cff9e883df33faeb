-- The tables of the office, in one list. A format has those that came up to it, and format 0 is
-- that there is nothing yet.
use Rattle.std.specs.Prelude.{ℕ, Bool, true, false, not, List, [], ◌∷◌, filter, map, nat_le}
use Rattle.sqlite.specs.Order.{Row}
use Rattle.sqlite.specs.Table.{Table}
use Rattle.book_tables.specs.row.Rows.{Rows, about_rows, base_columns, dated_columns}
use Rattle.book_tables.specs.row.Rows.{last_id_columns, meter_columns, month_columns, sale_row}
use Rattle.book_tables.specs.row.Rows.{shift_row, step_columns, tariff_columns, totals_row}
use Rattle.book_tables.specs.Tables.{about_table, dated_steps_table, last_ids_table}
use Rattle.book_tables.specs.Tables.{meter_bases_table, meters_table, month_tenths_table}
use Rattle.book_tables.specs.Tables.{sales_table, shift_totals_table, shifts_table}
use Rattle.book_tables.specs.Tables.{tariff_steps_table, tariffs_table}
use Rattle.book_tables.specs.Texts.{about_text, dated_steps_text, last_ids_text, meter_bases_text}
use Rattle.book_tables.specs.Texts.{meters_text, month_tenths_text, sales_text, shift_totals_text}
use Rattle.book_tables.specs.Texts.{shifts_text, tariff_steps_text, tariffs_text}

-- a table, the text that makes it, the format that brings it, whether its rows have numbers of
-- their own, and what is stored of the rows of an office where `about` tells this format: without
-- hidden numbers
pub record Kept : Type 0 where
  pub table : Table
  pub text : List ℕ
  pub since : ℕ
  pub is_numbered : Bool
  pub stored : ℕ → Rows → List Row

abbrev kept_since : ℕ → List ℕ → Table → Bool → (ℕ → Rows → List Row) → Kept
kept_since since text table is_numbered stored = record {
  table = table;
  text = text;
  since = since;
  is_numbered = is_numbered;
  stored = stored;
}

abbrev pub about_kept : Kept
about_kept = kept_since 1 about_text (about_table 0) true (λ told rows. about_rows told)

abbrev pub tariffs_kept : Kept
tariffs_kept =
    kept_since 1 tariffs_text (tariffs_table 0) false (λ told rows. map tariff_columns rows.tariffs)

abbrev pub steps_kept : Kept
steps_kept = kept_since 1 tariff_steps_text (tariff_steps_table 0) false
    (λ told rows. map step_columns rows.steps)

abbrev pub meters_kept : Kept
meters_kept =
    kept_since 1 meters_text (meters_table 0) false (λ told rows. map meter_columns rows.meters)

abbrev pub shifts_kept : Kept
shifts_kept =
    kept_since 1 shifts_text (shifts_table 0) true (λ told rows. map shift_row rows.shifts)

abbrev pub sales_kept : Kept
sales_kept = kept_since 1 sales_text (sales_table 0) true (λ told rows. map sale_row rows.sales)

abbrev pub last_ids_kept : Kept
last_ids_kept = kept_since 2 last_ids_text (last_ids_table 0) false
    (λ told rows. map last_id_columns rows.last_ids)

abbrev pub month_tenths_kept : Kept
month_tenths_kept =
    kept_since 2 month_tenths_text (month_tenths_table 0) false
    (λ told rows. map month_columns rows.month_tenths)

abbrev pub shift_totals_kept : Kept
shift_totals_kept =
    kept_since 2 shift_totals_text (shift_totals_table 0) true
    (λ told rows. map totals_row rows.shift_totals)

abbrev pub bases_kept : Kept
bases_kept = kept_since 3 meter_bases_text (meter_bases_table 0) false
    (λ told rows. map base_columns rows.bases)

abbrev pub dated_steps_kept : Kept
dated_steps_kept =
    kept_since 4 dated_steps_text (dated_steps_table 0) false
    (λ told rows. map dated_columns rows.dated_steps)

-- all tables, in the order in which they are made
abbrev pub kept : List Kept
kept =
    about_kept ∷ tariffs_kept ∷ steps_kept ∷ meters_kept ∷ shifts_kept ∷ sales_kept ∷ last_ids_kept
    ∷ month_tenths_kept ∷ shift_totals_kept ∷ bases_kept ∷ dated_steps_kept ∷ []

-- the tables of a format, and those that come later
abbrev pub upto : ℕ → List Kept
upto n = filter (λ k. nat_le k.since n) kept

abbrev pub later : ℕ → List Kept
later n = filter (λ k. not (nat_le k.since n)) kept

abbrev pub kept_names : List Kept → List (List ℕ)
kept_names ks = map (λ k. k.table.name) ks

abbrev pub kept_texts : List Kept → List (List ℕ)
kept_texts ks = map (λ k. k.text) ks

abbrev pub kept_tables : List Kept → List Table
kept_tables ks = map (λ k. k.table) ks
