-- What the statements on the table of meters find.
use Rattle.std.proofs.Common.{drop, get_or, ◌≡◌, ◌≢◌, ℕ, List, [], ◌∷◌, length, map, Option, None, Some, IfSome, option_map, refl, sym, ap, subst, ◌∙◌, ◌≤◌}
use Rattle.std.specs.Prelude.{All, Bool, bytes_eq, filter, find}
use Rattle.std.specs.Option.{option_to_list}
use Rattle.std.proofs.lemmas.List.Elements.{Contains-get_or}
use Rattle.std.proofs.lemmas.Slice.Eq.{bytes_eq-Decides}
use Rattle.sqlite.specs.Order.{Row}
use Rattle.sqlite.specs.declared.types.Value.TheVariants.{Text}
use Rattle.sqlite_typed.proofs.TestLemmas.{last_term}
use Rattle.one_table.proofs.HiddenLemmas.{one_hidden}
use Rattle.one_table.proofs.TestsLemmas.{text_is}
use Rattle.book_tables.specs.reading.Reading.{AreOfOffice}
use Rattle.book_tables.proofs.ReadingLemmas.FindLemmas.{Finds}
use Rattle.book_tables.proofs.ReadingLemmas.ReadLemmas.{few, found_keeps}
use Rattle.book_tables.proofs.ListLemmas.{NotBothPass, first_is_all, pairs_weaker}
use Rattle.office_rules.specs.Name.{IsMeterNo}
use Rattle.office_rules.specs.declared.office.meter.Meter.{Meter}
use Rattle.book_tables.specs.declared.reading.pages.MeterRow.{MeterRow}
use Rattle.book_tables.specs.Kept.{meters_kept}
use Rattle.book_tables.specs.row.Rows.{Rows, meter_columns, shown_meter}
use Rattle.book_tables.specs.Tables.{meters_table}
use Rattle.book_tables.specs.row.Values.{AreMeterValues}
use Rattle.book_tables.proofs.RowLemmas.RecordLemmas.{one_shown_meter}
use Rattle.book_tables.proofs.ReadingLemmas.OneRowTexts.{meter_names, meter_numbered_asks, meter_numbered_query, meter_numbered_text}
use Rattle.book_tables.proofs.RowLemmas.ValueLemmas.{meters_keep}

-- the meters in the rows of an office keep the rules of their values
pub meters_keep_values : (rows : Rows) → AreOfOffice rows → All (λ (r : List ℕ × Meter). AreMeterValues r.1) rows.meters
meters_keep_values rows (o, office, are) i d within =
    let r = get_or rows.meters i d in
    meters_keep o office r.0 r.1 ((are.meters r.0 r.1).1 (Contains-get_or rows.meters i d within))

-- ---- the meter of a number

second_keeps : (o : Option (List ℕ × Meter)) → IfSome o (λ r. AreMeterValues r.1) → IfSome (option_map (λ (r : List ℕ × Meter). r.1) o) AreMeterValues
second_keeps None kept = _
second_keeps (Some r) kept = kept

second_shown : (o : Option (List ℕ × Meter)) → map (λ (r : List ℕ × Meter). shown_meter r.1) (option_to_list o)
    ≡ map shown_meter (option_to_list (option_map (λ (r : List ℕ × Meter). r.1) o))
second_shown None = refl
second_shown (Some r) = refl

module _ (number : List ℕ) where
  abbrev has_number : List ℕ × Meter → Bool
  has_number r = bytes_eq r.0 number

  only_one : (rows : Rows) → AreOfOffice rows → filter has_number rows.meters ≡ option_to_list (find has_number rows.meters)
  only_one rows (o, office, are) =
      first_is_all has_number rows.meters
      (pairs_weaker (λ a b. a.0 ≢ b.0) (NotBothPass has_number) rows.meters
      (λ a b apart p q. apart ((bytes_eq-Decides a.0 number).0 p ∙ sym ((bytes_eq-Decides b.0 number).0 q))) are.meters_once)

  -- the text finds the meter of the number
  pub meter_numbered : Finds meters_kept meter_numbered_text (Text number ∷ []) shown_meter AreMeterValues
      (λ rows. option_map (λ r. r.1) (find has_number rows.meters))
  meter_numbered = record {
    table = meters_table;
    query = meter_numbered_query;
    names = meter_names;
    asks = meter_numbered_asks number;
    stands = λ s has. has.0.has;
    one = λ a b keeps_a keeps_b same. one_shown_meter a b keeps_a.key keeps_b.key same;
    kept = λ rows of_office. second_keeps (find has_number rows.meters)
        (found_keeps has_number (λ r. AreMeterValues r.1) rows.meters (meters_keep_values rows of_office));
    answers = λ db rows held of_office answer is.
        let one = only_one rows of_office in
        one_hidden (record {
          holds_them = held.1.1.0;
          some = λ r none. cc;
          passes = λ hidden r. last_term (text_is r.0 number);
          shows = λ hidden r. refl;
        }) answer is
        (subst (λ (l : List (List ℕ × Meter)). length l ≤ 1) (sym one) (few (find has_number rows.meters)))
        ∙ ap (map (λ (r : List ℕ × Meter). shown_meter r.1)) one ∙ second_shown (find has_number rows.meters);
  }

-- ---- a meter under its number

-- what a row shows of it
abbrev pub shown_row : MeterRow → Row
shown_row m = meter_columns (m.number, m.meter)

-- the number is a meter's, and the meter keeps the rules of its values
abbrev pub keeps_row : MeterRow → Type 0
keeps_row m = IsMeterNo m.number × AreMeterValues m.meter

-- a row shows one such meter alone
pub one_shown_row : (a b : MeterRow) → keeps_row a → keeps_row b → shown_row a ≡ shown_row b → a ≡ b
one_shown_row a b keeps_a keeps_b e =
    let shown : shown_meter a.meter ≡ shown_meter b.meter = ap (drop 1) e in
    let meter : a.meter ≡ b.meter = one_shown_meter a.meter b.meter keeps_a.1.key keeps_b.1.key shown in
    let A : MeterRow = record { number = a.number; meter = a.meter } in
    let B : MeterRow = record { number = b.number; meter = b.meter } in
    let same : A ≡ B = cc in
    same
