-- What the statement that lists shifts finds.
use Rattle.std.proofs.Common.{◌≡◌, ◌∙◌, ℕ, [], ◌∷◌, filter, nat_lt, pos, take, refl, sym, subst}
use Rattle.std.specs.Prelude.{Bool}
use Rattle.std.proofs.lemmas.List.{take-map}
use Rattle.std.proofs.lemmas.List.Elements.{All-filter, All-same, All-take}
use Rattle.sqlite_sql.specs.Term.{col}
use Rattle.sqlite_typed.proofs.TestLemmas.{last_term}
use Rattle.one_table.proofs.ListedLemmas.{first_by_key}
use Rattle.one_table.proofs.TestsLemmas.{number_above}
use Rattle.office_rules.specs.declared.office.shift.Shift.{Shift}
use Rattle.book_tables.specs.Kept.{shifts_kept}
use Rattle.book_tables.specs.reading.Reading.{AreOfOffice}
use Rattle.book_tables.specs.row.Rows.{Rows, number, shown_shift}
use Rattle.book_tables.specs.row.Values.{AreShiftValues}
use Rattle.book_tables.specs.Tables.{shifts_table}
use Rattle.book_tables.proofs.ReadingLemmas.ListingLemmas.{Lists}
use Rattle.book_tables.proofs.ReadingLemmas.SaleListLemmas.{IsRising, numbered_rise}
use Rattle.book_tables.proofs.ReadingLemmas.ShiftLemmas.{shifts_keep_values}
use Rattle.book_tables.proofs.ReadingLemmas.ShiftTexts.{shift_names}
use Rattle.book_tables.proofs.RowLemmas.RecordLemmas.{one_shown_shift}
use Rattle.book_lists.proofs.ListTexts.{shifts_after_asks, shifts_after_query, shifts_after_text}

shifts_rise : (rows : Rows) → AreOfOffice rows → IsRising (λ (s : Shift). s.number) rows.shifts
shifts_rise rows (o, office, are) =
    subst (IsRising (λ (s : Shift). s.number)) (sym are.shifts) (numbered_rise (λ (s : Shift). s.number) o.shifts office.shift_numbers)

module _ (after limit : ℕ) where
  abbrev is_after : Shift → Bool
  is_after s = nat_lt after s.number

  -- what a page of shifts has
  pub shifts_after : Lists shifts_kept shifts_after_text (number after ∷ number limit ∷ []) shown_shift AreShiftValues
      (λ rows found. found ≡ take limit (filter is_after rows.shifts))
  shifts_after = record {
    table = shifts_table;
    query = shifts_after_query;
    names = shift_names;
    asks = shifts_after_asks after limit;
    stands = λ s has. has.0.has;
    one = λ a b keeps_a keeps_b same. one_shown_shift a b same;
    kept = λ rows of_office found is.
        All-same AreShiftValues found (take limit (filter is_after rows.shifts)) is
        (All-take AreShiftValues limit (filter is_after rows.shifts) (All-filter is_after AreShiftValues rows.shifts (shifts_keep_values rows of_office)));
    answers = λ db rows held of_office answer is. (
      take limit (filter is_after rows.shifts),
      refl,
      first_by_key (record { holds_them = held.1.1; passes = λ s. last_term (number_above s.number after); shows = λ s. refl }) 0
          (λ s. pos s.number) (λ s. refl) (col 0 1) answer (shifts_rise rows of_office) is
          ∙ take-map shown_shift limit (filter is_after rows.shifts),
    );
  }
