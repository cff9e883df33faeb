-- What the statements on the table of shifts find.
use Rattle.std.proofs.Common.{◌≡◌, ℕ, List, [], ◌∷◌, length, map, take, reverse, Option, None, Some, unwrap_or, option_map, pos, refl, sym, ap, subst, ◌∙◌, ◌≤◌}
use Rattle.std.specs.Prelude.{◌&&◌, ◌==◌, All, Bool, bytes_eq, codes, filter, find, is_none}
use Rattle.std.specs.List.{last_or}
use Rattle.std.specs.Option.{option_to_list}
use Rattle.std.proofs.lemmas.List.Elements.{All-weaker}
use Rattle.sqlite.specs.declared.types.Value.TheVariants.{Int, Null, Text}
use Rattle.sqlite_sql.specs.Ops.{binary, is_true}
use Rattle.sqlite_sql.specs.Term.{lit}
use Rattle.sqlite_sql.specs.declared.ops.BinaryOp.TheVariants.{Is}
use Rattle.sqlite_typed.proofs.TestLemmas.{last_term, then_term}
use Rattle.sqlite_value.specs.declared.keys.Collation.TheVariants.{Binary}
use Rattle.one_table.proofs.ListedLemmas.{last_by_key, one_row}
use Rattle.one_table.proofs.TestsLemmas.{number_absent, number_is, text_is}
use Rattle.office_rules.specs.Office.{AreNumbered, IsOffice, Office}
use Rattle.office_rules.specs.declared.office.shift.Shift.{Shift}
use Rattle.book_tables.specs.reading.Reading.{AreOfOffice}
use Rattle.book_tables.specs.Kept.{shifts_kept}
use Rattle.book_tables.specs.row.Rows.{Rows, number, optional, shown_number, shown_shift}
use Rattle.book_tables.specs.Tables.{shifts_table}
use Rattle.book_tables.specs.row.Values.{AreShiftValues, IsNumber}
use Rattle.book_tables.proofs.ReadingLemmas.FindLemmas.{Finds}
use Rattle.book_tables.proofs.ReadingLemmas.FoundLemmas.{found_numbered, found_open}
use Rattle.book_tables.proofs.ReadingLemmas.LastLemmas.{all_pass, last_is_count, last_number_keeps, last_number_shown, numbers_rise, only_backwards}
use Rattle.book_tables.proofs.ReadingLemmas.ReadLemmas.{few, found_keeps}
use Rattle.book_tables.proofs.RowLemmas.RecordLemmas.{one_number, one_shown_shift}
use Rattle.book_tables.proofs.ReadingLemmas.ShiftTexts.{last_shift_asks, last_shift_query, last_shift_text, open_shift_asks, open_shift_query, open_shift_text, shift_names, shift_numbered_asks, shift_numbered_query, shift_numbered_text}
use Rattle.book_tables.proofs.RowLemmas.ValueLemmas.{shifts_keep}

-- what holds of the shifts of each office
shifts_of : (P : List Shift → Type 0) → ((o : Office) → IsOffice o → P o.shifts) → (rows : Rows) → AreOfOffice rows → P rows.shifts
shifts_of P each rows (o, office, are) = subst P (sym are.shifts) (each o office)

-- the shifts in the rows of an office keep the rules of their values
pub shifts_keep_values : (rows : Rows) → AreOfOffice rows → All AreShiftValues rows.shifts
shifts_keep_values = shifts_of (All AreShiftValues) shifts_keep

numbered : (rows : Rows) → AreOfOffice rows → AreNumbered (λ (s : Shift). s.number) rows.shifts
numbered = shifts_of (AreNumbered (λ (s : Shift). s.number)) (λ o office. office.shift_numbers)

-- a test that at most one shift of an office passes
abbrev IsOfOne : (Shift → Bool) → Type 0
IsOfOne p = (o : Office) → IsOffice o → filter p o.shifts ≡ option_to_list (find p o.shifts)

-- so it is with the office's rows
one_of_rows : (p : Shift → Bool) → IsOfOne p → (rows : Rows) → AreOfOffice rows → filter p rows.shifts ≡ option_to_list (find p rows.shifts)
one_of_rows p one = shifts_of (λ shifts. filter p shifts ≡ option_to_list (find p shifts)) one

-- ---- the shift of a number

module _ (n : ℕ) where
  abbrev has_number : Shift → Bool
  has_number s = s.number == n

  of_one_number : IsOfOne has_number
  of_one_number o office = found_numbered (λ (s : Shift). s.number) o.shifts n office.shift_numbers

  -- the text finds the shift of the number
  pub shift_numbered : Finds shifts_kept shift_numbered_text (number n ∷ []) shown_shift AreShiftValues (λ rows. find has_number rows.shifts)
  shift_numbered = record {
    table = shifts_table;
    query = shift_numbered_query;
    names = shift_names;
    asks = shift_numbered_asks n;
    stands = λ s has. has.0.has;
    one = λ a b keeps_a keeps_b same. one_shown_shift a b same;
    kept = λ rows of_office. found_keeps has_number AreShiftValues rows.shifts (shifts_keep_values rows of_office);
    answers = λ db rows held of_office answer is.
        let one = one_of_rows has_number of_one_number rows of_office in
        one_row (record { holds_them = held.1.1; passes = λ s. last_term (number_is s.number n); shows = λ s. refl }) answer is
        (subst (λ (l : List Shift). length l ≤ 1) (sym one) (few (find has_number rows.shifts))) ∙ ap (map shown_shift) one;
  }

-- ---- the open shift of an operator

-- IS NULL
closed_absent : (closed : Option ℕ) → is_true (binary (Is Binary) (optional closed) Null) ≡ is_none closed
closed_absent None = number_absent None
closed_absent (Some secs) = number_absent (Some secs)

module _ (operator : List ℕ) where
  abbrev is_open : Shift → Bool
  is_open s = bytes_eq s.operator operator && is_none s.closed

  of_one_open : IsOfOne is_open
  of_one_open o office = found_open o operator office

  -- the text finds the open shift of the operator
  pub open_shift : Finds shifts_kept open_shift_text (Text operator ∷ []) shown_shift AreShiftValues (λ rows. find is_open rows.shifts)
  open_shift = record {
    table = shifts_table;
    query = open_shift_query;
    names = shift_names;
    asks = open_shift_asks operator;
    stands = λ s has. has.0.has;
    one = λ a b keeps_a keeps_b same. one_shown_shift a b same;
    kept = λ rows of_office. found_keeps is_open AreShiftValues rows.shifts (shifts_keep_values rows of_office);
    answers = λ db rows held of_office answer is.
        last_by_key (record {
          holds_them = held.1.1;
          passes = λ s. then_term (text_is s.operator operator)
              (last_term (closed_absent s.closed));
          shows = λ s. refl;
        })
        0 (λ s. pos s.number) (λ s. refl) (lit (Int (pos 1))) answer (numbers_rise (λ (s : Shift). s.number) rows.shifts (numbered rows of_office)) is
        ∙ ap (λ (l : List Shift). take 1 (map shown_shift (reverse l))) (one_of_rows is_open of_one_open rows of_office)
        ∙ only_backwards shown_shift (find is_open rows.shifts);
  }

-- ---- the number of the last shift

-- the number of the last shift, or 0 where there is none, is how many shifts there are
pub last_shift_counts : (rows : Rows) → AreOfOffice rows → unwrap_or (option_map (λ (s : Shift). s.number) (last_or None rows.shifts)) 0 ≡ length rows.shifts
last_shift_counts rows of_office = last_is_count (λ (s : Shift). s.number) rows.shifts (numbered rows of_office)

-- the text finds the number of the last shift
pub last_shift_number : Finds shifts_kept last_shift_text [] shown_number IsNumber (λ rows. option_map (λ s. s.number) (last_or None rows.shifts))
last_shift_number = record {
  table = shifts_table;
  query = last_shift_query;
  names = codes "number" ∷ [];
  asks = last_shift_asks;
  stands = λ s has. has.0.has;
  one = λ a b keeps_a keeps_b same. one_number a b same;
  kept = λ rows of_office. last_number_keeps (λ s. s.number) IsNumber rows.shifts
      (All-weaker AreShiftValues (λ s. IsNumber s.number) (λ s keeps. keeps.number) rows.shifts (shifts_keep_values rows of_office));
  answers = λ db rows held of_office answer is.
      last_by_key (record { holds_them = held.1.1; passes = λ s. refl; shows = λ s. refl }) 0 (λ s. pos s.number) (λ s. refl) (lit (Int (pos 1))) answer
      (numbers_rise (λ (s : Shift). s.number) rows.shifts (numbered rows of_office)) is
      ∙ ap (λ (l : List Shift). take 1 (map (λ (s : Shift). shown_number s.number) (reverse l))) (all_pass rows.shifts)
      ∙ last_number_shown (λ (s : Shift). s.number) rows.shifts;
}
