-- What the lists ask: each a SELECT over one of the tables.
use Rattle.std.specs.Prelude.{ℕ, List, [], ◌∷◌, ◌++◌, codes}
use Rattle.sqlite.specs.declared.types.Value.TheVariants.{Text}
use Rattle.sts_fields.specs.Day.{IsDay}
use Rattle.office_rules.specs.Name.{IsMeterNo, IsName}
use Rattle.office_rules.specs.declared.office.shift.Shift.{Shift}
use Rattle.book_tables.specs.Kept.{dated_steps_kept, meters_kept, shifts_kept, tariffs_kept}
use Rattle.book_tables.specs.reading.Questions.{Question, question}
use Rattle.book_tables.specs.row.Rows.{meter_columns, number, shown_number, shown_shift}
use Rattle.book_tables.specs.row.Rows.{tariff_columns}
use Rattle.book_tables.specs.row.Values.{AreMeterValues, AreShiftValues}
use Rattle.book_tables.specs.declared.reading.pages.MeterRow.{MeterRow}
use Rattle.book_lists.specs.Pages.{page_size}

abbrev pub tariffs_after_text : List ℕ
tariffs_after_text = codes "SELECT name FROM tariffs WHERE name > ?1 ORDER BY name LIMIT ?2"

abbrev pub the_tariffs_after : List ℕ → Question (List ℕ)
the_tariffs_after after =
    question tariffs_kept tariff_columns IsName tariffs_after_text
    (Text after ∷ number page_size ∷ [])

abbrev pub meters_after_text : List ℕ
meters_after_text =
    codes "SELECT meter, base, tariff, secret FROM meters WHERE meter > ?1 ORDER BY meter LIMIT ?2"

abbrev pub the_meters_after : List ℕ → Question MeterRow
the_meters_after after =
    question meters_kept (λ m. meter_columns (m.number, m.meter))
    (λ m. IsMeterNo m.number × AreMeterValues m.meter) meters_after_text
    (Text after ∷ number page_size ∷ [])

abbrev pub shifts_after_text : List ℕ
shifts_after_text =
    codes "SELECT number, operator, opened, closed FROM shifts WHERE number > ?1 ORDER BY number "
    ++ codes "LIMIT ?2"

abbrev pub the_shifts_after : ℕ → Question Shift
the_shifts_after after =
    question shifts_kept shown_shift AreShiftValues shifts_after_text
    (number after ∷ number page_size ∷ [])

abbrev pub next_day_text : List ℕ
next_day_text =
    codes "SELECT day FROM dated_steps WHERE tariff = ?1 AND day > ?2 ORDER BY day LIMIT 1"

abbrev pub the_next_day : List ℕ → ℕ → Question ℕ
the_next_day name day =
    question dated_steps_kept shown_number IsDay next_day_text (Text name ∷ number day ∷ [])
