-- What the statement that looks for a first day finds.
use Rattle.std.proofs.Common.{◌≡◌, ◌∙◌, ◌↔◌, ◌≤◌, ℕ, true, List, [], ◌∷◌, Option, None, Some, IfSome, IsSome, arith, filter, map, nat_le, refl, sym, ap, subst}
use Rattle.std.specs.Prelude.{◌&&◌, Bool, Contains, bytes_eq}
use Rattle.std.specs.Option.{option_to_list}
use Rattle.std.proofs.lemmas.Bool.{and_from, and_parts, false≢true}
use Rattle.std.proofs.lemmas.Bool.Decides.{nat_tests}
use Rattle.std.proofs.lemmas.List.Elements.{All-contains}
use Rattle.std.proofs.lemmas.Slice.Eq.{bytes_eq-Decides}
use Rattle.sqlite.specs.declared.types.Value.TheVariants.{Text}
use Rattle.sqlite_typed.proofs.TestLemmas.{last_term, then_term}
use Rattle.sts_fields.specs.Day.{IsDay}
use Rattle.sts_fields.specs.Tid.{IsLast}
use Rattle.tariff.specs.declared.step.Step.{Step}
use Rattle.office_rules.specs.Office.Lookup.{IsLatest, greatest_of, latest}
use Rattle.office_rules.specs.Office.{IsOffice, Office}
use Rattle.one_table.proofs.TestsLemmas.{number_up_to, text_is}
use Rattle.book_tables.specs.Kept.{dated_steps_kept}
use Rattle.book_tables.specs.reading.Reading.{IsFirstDay, IsLastBegun}
use Rattle.book_tables.specs.row.Rows.{DatedStepRow, Rows, dated_columns, number, shown_number}
use Rattle.book_tables.specs.Stands.{AreMembersOf}
use Rattle.book_tables.specs.Tables.{dated_steps_table}
use Rattle.book_tables.proofs.ReadingLemmas.DatedTexts.{day_names, first_day_asks, first_day_query, first_day_text}
use Rattle.book_tables.proofs.ReadingLemmas.FindLemmas.{Finds}
use Rattle.book_tables.proofs.ReadingLemmas.LatestLemmas.{greatest_hidden}
use Rattle.book_tables.proofs.ListLemmas.{contains_map, contains_none, map_source}
use Rattle.book_tables.proofs.RowLemmas.RecordLemmas.{one_number}
use Rattle.book_tables.proofs.ReadingLemmas.StepLemmas.{passes_there, there_passes}

-- the day on which the steps of a row begin
abbrev pub day_of : DatedStepRow → ℕ
day_of r = r.day

none_such : {X : Type 0} (o : Option X) → ((x : X) → o ≡ Some x → ⊥) → o ≡ None
none_such None none = refl
none_such (Some x) none = absurd (none x refl)

is_some_by : {X : Type 0} (o : Option X) (x : X) → o ≡ Some x → IsSome o
is_some_by {X} o x e = subst (λ (v : Option X). IsSome v) (sym e) refl

-- what a law says of the greatest of some numbers
abbrev pub TellsGreatest : Type 0
TellsGreatest = (used : List ℕ) (last : Option ℕ) → IsLast used last ↔ (last ≡ greatest_of used)

-- ---- the days on which steps of a tariff begin

module _ (name : List ℕ) (day : ℕ) where
  -- the row is of the tariff, and its steps begin on the day or before
  abbrev pub is_until : DatedStepRow → Bool
  is_until r = bytes_eq r.tariff name && nat_le r.day day

  name_of : (r : DatedStepRow) → is_until r ≡ true → r.tariff ≡ name
  name_of r passes = (bytes_eq-Decides r.tariff name).0 (and_parts (bytes_eq r.tariff name) (nat_le r.day day) passes).0

  not_after : (r : DatedStepRow) → is_until r ≡ true → r.day ≤ day
  not_after r passes = let is = (and_parts (bytes_eq r.tariff name) (nat_le r.day day) passes).1 in grind (arith, nat_tests)

  begun_until : (r : DatedStepRow) → r.tariff ≡ name → r.day ≤ day → is_until r ≡ true
  begun_until r named before = and_from (bytes_eq r.tariff name) (nat_le r.day day) ((bytes_eq-Decides r.tariff name).1 named) (grind (arith, nat_tests))

  -- the days up to the day on which steps of the tariff begin, one for each row
  abbrev pub days_until : Rows → List ℕ
  days_until rows = map day_of (filter is_until rows.dated_steps)

  -- ---- those of an office

  module _ (rows : Rows) (o : Office) (office : IsOffice o) (are : AreMembersOf rows o) where
    -- steps begin on each of the days
    begin_on : (first : ℕ) → Contains (days_until rows) first → (first ≤ day) × ((steps : List Step) × (o.dated_steps name first ≡ Some steps))
    begin_on first there =
        let from = map_source day_of (filter is_until rows.dated_steps) first there in
        let parts = there_passes is_until rows.dated_steps from.0 from.1 in
        let has = (are.dated_steps from.0).1 parts.0 in
        let before : first ≤ day = subst (λ n. n ≤ day) from.2 (not_after from.0 parts.1) in
        let same : o.dated_steps name first ≡ o.dated_steps from.0.tariff from.0.day =
        ap (o.dated_steps name) (sym from.2) ∙ ap (λ n. o.dated_steps n from.0.day) (sym (name_of from.0 parts.1)) in
        (before, (has.0, same ∙ has.1))

    -- each day on which steps begin is one of the days
    there_begin : (first : ℕ) (steps : List Step) → o.dated_steps name first ≡ Some steps → first ≤ day → Contains (days_until rows) first
    there_begin first [] e before = absurd (omega (arith, (office.dated_steps name first [] e).priced.count.0))
    there_begin first (s ∷ steps) e before =
        let r : DatedStepRow = record { tariff = name; day = first; place = 0; step = s } in
        let there = (are.dated_steps r).0 (s ∷ steps, e, refl) in
        contains_map day_of (filter is_until rows.dated_steps) r (passes_there is_until rows.dated_steps r there (begun_until r refl before))

    first_day : (found : Option ℕ) → IsLast (days_until rows) found → IsFirstDay (o.dated_steps name) day found
    first_day None none = λ first before. none_such (o.dated_steps name first)
        (λ steps e. contains_none first (subst (λ ns. Contains ns first) none (there_begin first steps e before)))
    first_day (Some first) (there, least) =
        let begins = begin_on first there in
        record {
          not_after = begins.0;
          there = is_some_by (o.dated_steps name first) begins.1.0 begins.1.1;
          none_between = λ other after before. none_such (o.dated_steps name other) (λ steps e.
              let low : other ≤ first = All-contains (λ n. n ≤ first) (days_until rows) other least (there_begin other steps e before) in
              omega (arith, low, after));
        }

    keeps_day : (found : Option ℕ) → IsLast (days_until rows) found → IfSome found IsDay
    keeps_day None none = _
    keeps_day (Some first) (there, least) =
        let begins = begin_on first there in
        (office.dated_steps name first begins.1.0 begins.1.1).in_range

  module _ (tells : TellsGreatest) where
    -- what is found tells the day
    pub first_day_is : (rows : Rows) (o : Office) → IsOffice o → AreMembersOf rows o → (found : Option ℕ) → found
        ≡ greatest_of (days_until rows) → IsFirstDay (o.dated_steps name) day found
    first_day_is rows o office are found is = first_day rows o office are found ((tells (days_until rows) found).1 is)

    -- the text finds the last day up to the day on which steps of the tariff begin
    pub first_day_until : Finds dated_steps_kept first_day_text (Text name ∷ number day ∷ []) shown_number IsDay (λ rows. greatest_of (days_until rows))
    first_day_until = record {
      table = dated_steps_table;
      query = first_day_query;
      names = day_names;
      asks = first_day_asks name day;
      stands = λ s has. has.0.has;
      one = λ a b keeps_a keeps_b same. one_number a b same;
      kept = λ rows of_office. keeps_day rows of_office.0 of_office.1 of_office.2 (greatest_of (days_until rows))
          ((tells (days_until rows) (greatest_of (days_until rows))).1 refl);
      answers = λ db rows held of_office answer is.
          let found = greatest_hidden {stored = dated_columns} {xs = rows.dated_steps} {p = is_until} day_of
          (record {
            holds_them = held.1.1.0;
            some = λ r none. cc;
            passes = λ hidden r. then_term (text_is r.tariff name) (last_term (number_up_to r.day day));
            shows = λ hidden r. refl;
          }) 2
          (λ hidden r. refl) answer is in
          found.2 ∙ ap (λ (o : Option ℕ). map shown_number (option_to_list o)) ((tells (days_until rows) found.0).0 found.1);
    }

-- ---- the steps that begin on that day are the latest

module _ (dated : ℕ → Option (List Step)) (day : ℕ) where
  -- the steps that begin on the last first day are the latest on the day
  pub latest_begun : ((steps : List Step) → (latest dated day ≡ Some steps) ↔ IsLatest dated day steps) → (first : ℕ)
      → IsLastBegun dated day first → dated first ≡ latest dated day
  latest_begun tells first begun = by_steps (dated first) refl
    where
      by_steps : (there : Option (List Step)) → dated first ≡ there → dated first ≡ latest dated day
      by_steps None e = absurd (false≢true (let some : IsSome {T = List Step} None = subst (λ (o : Option (List Step)). IsSome o) e begun.there in some))
      by_steps (Some steps) e = e ∙ sym ((tells steps).1 (record { first = first; not_after = begun.not_after; there = e; none_between = begun.none_between }))
