-- What the statement that looks for the next day finds.
use Rattle.std.proofs.Common.{◌≡◌, ◌∙◌, ◌<◌, ◌≤◌, ℕ, true, List, [], ◌∷◌, Option, None, Some, IfSome, IsSome, arith, filter, map, nat_lt, refl, sym, ap, subst}
use Rattle.std.specs.Prelude.{◌&&◌, Bool, Contains, bytes_eq}
use Rattle.std.proofs.lemmas.Bool.{and_from, and_parts}
use Rattle.std.proofs.lemmas.Bool.Decides.{nat_tests}
use Rattle.std.proofs.lemmas.List.Elements.{All-contains}
use Rattle.std.proofs.lemmas.Slice.Eq.{bytes_eq-Decides}
use Rattle.sqlite.specs.declared.types.Value.TheVariants.{Text}
use Rattle.sqlite_typed.proofs.TestLemmas.{last_term, then_term}
use Rattle.sts_fields.specs.Day.{IsDay}
use Rattle.tariff.specs.declared.step.Step.{Step}
use Rattle.office_rules.specs.Office.{IsOffice, Office}
use Rattle.one_table.proofs.TestsLemmas.{number_above, text_is}
use Rattle.book_tables.specs.Kept.{dated_steps_kept}
use Rattle.book_tables.specs.row.Rows.{DatedStepRow, Rows, dated_columns, number, shown_number}
use Rattle.book_tables.specs.Stands.{AreMembersOf}
use Rattle.book_tables.specs.Tables.{dated_steps_table}
use Rattle.book_tables.proofs.ListLemmas.{contains_map, contains_none, map_source}
use Rattle.book_tables.proofs.ReadingLemmas.DatedDayLemmas.{day_of}
use Rattle.book_tables.proofs.ReadingLemmas.DatedTexts.{day_names}
use Rattle.book_tables.proofs.ReadingLemmas.FindLemmas.{Finds}
use Rattle.book_tables.proofs.ReadingLemmas.StepLemmas.{passes_there, there_passes}
use Rattle.book_tables.proofs.RowLemmas.RecordLemmas.{one_number}
use Rattle.book_lists.specs.Days.{IsNextDay}
use Rattle.book_lists.proofs.LeastLemmas.{IsLeast, least_hidden, least_is, least_of}
use Rattle.book_lists.proofs.ListTexts.{next_day_asks, next_day_query, next_day_text}

none_such : {X : Type 0} (o : Option X) → ((x : X) → o ≡ Some x → ⊥) → o ≡ None
none_such None none = refl
none_such (Some x) none = absurd (none x refl)

module _ (name : List ℕ) (day : ℕ) where
  abbrev is_later : DatedStepRow → Bool
  is_later r = bytes_eq r.tariff name && nat_lt day r.day

  name_of : (r : DatedStepRow) → is_later r ≡ true → r.tariff ≡ name
  name_of r passes = (bytes_eq-Decides r.tariff name).0 (and_parts (bytes_eq r.tariff name) (nat_lt day r.day) passes).0

  later : (r : DatedStepRow) → is_later r ≡ true → day < r.day
  later r passes = let is = (and_parts (bytes_eq r.tariff name) (nat_lt day r.day) passes).1 in grind (arith, nat_tests)

  begins_later : (r : DatedStepRow) → r.tariff ≡ name → day < r.day → is_later r ≡ true
  begins_later r named after = and_from (bytes_eq r.tariff name) (nat_lt day r.day) ((bytes_eq-Decides r.tariff name).1 named) (grind (arith, nat_tests))

  -- the later days on which steps of the tariff begin
  abbrev later_days : Rows → List ℕ
  later_days rows = map day_of (filter is_later rows.dated_steps)

  module _ (rows : Rows) (o : Office) (office : IsOffice o) (are : AreMembersOf rows o) where
    -- steps begin on each of the days
    begin_on : (next : ℕ) → Contains (later_days rows) next → (day < next) × ((steps : List Step) × (o.dated_steps name next ≡ Some steps))
    begin_on next there =
        let from = map_source day_of (filter is_later rows.dated_steps) next there in
        let parts = there_passes is_later rows.dated_steps from.0 from.1 in
        let has = (are.dated_steps from.0).1 parts.0 in
        let after : day < next = subst (λ n. day < n) from.2 (later from.0 parts.1) in
        let same : o.dated_steps name next ≡ o.dated_steps from.0.tariff from.0.day =
        ap (o.dated_steps name) (sym from.2) ∙ ap (λ n. o.dated_steps n from.0.day) (sym (name_of from.0 parts.1)) in
        (after, (has.0, same ∙ has.1))

    -- each later day on which steps begin is one of the days
    there_begin : (next : ℕ) (steps : List Step) → o.dated_steps name next ≡ Some steps → day < next → Contains (later_days rows) next
    there_begin next [] e after = absurd (omega (arith, (office.dated_steps name next [] e).priced.count.0))
    there_begin next (s ∷ steps) e after =
        let r : DatedStepRow = record { tariff = name; day = next; place = 0; step = s } in
        let there = (are.dated_steps r).0 (s ∷ steps, e, refl) in
        contains_map day_of (filter is_later rows.dated_steps) r (passes_there is_later rows.dated_steps r there (begins_later r refl after))

    least_is_next : (found : Option ℕ) → IsLeast (later_days rows) found → IsNextDay (o.dated_steps name) day found
    least_is_next None none = λ next after. none_such (o.dated_steps name next)
        (λ steps e. contains_none next (subst (λ ns. Contains ns next) none (there_begin next steps e after)))
    least_is_next (Some next) (there, least) =
        let begins = begin_on next there in
        record {
          after = begins.0;
          there = subst (λ (v : Option (List Step)). IsSome v) (sym begins.1.1) refl;
          none_between = λ other after before. none_such (o.dated_steps name other) (λ steps e.
              let low : next ≤ other = All-contains (λ n. next ≤ n) (later_days rows) other least (there_begin other steps e after) in
              omega (arith, low, before));
        }

    -- what is found tells the next day
    pub next_day_is : (found : Option ℕ) → found ≡ least_of (later_days rows) → IsNextDay (o.dated_steps name) day found
    next_day_is found is = least_is_next found (subst (IsLeast (later_days rows)) (sym is) (least_is (later_days rows)))

    keeps_day : (found : Option ℕ) → IsLeast (later_days rows) found → IfSome found IsDay
    keeps_day None none = _
    keeps_day (Some next) (there, least) =
        let begins = begin_on next there in
        (office.dated_steps name next begins.1.0 begins.1.1).in_range

  -- the next day is found
  pub next_day : Finds dated_steps_kept next_day_text (Text name ∷ number day ∷ []) shown_number IsDay (λ rows. least_of (later_days rows))
  next_day = record {
    table = dated_steps_table;
    query = next_day_query;
    names = day_names;
    asks = next_day_asks name day;
    stands = λ s has. has.0.has;
    one = λ a b keeps_a keeps_b same. one_number a b same;
    kept = λ rows of_office. keeps_day rows of_office.0 of_office.1 of_office.2 (least_of (later_days rows)) (least_is (later_days rows));
    answers = λ db rows held of_office answer is.
        least_hidden {stored = dated_columns} {xs = rows.dated_steps} {p = is_later} day_of
        (record {
          holds_them = held.1.1.0;
          some = λ r none. cc;
          passes = λ hidden r. then_term (text_is r.tariff name) (last_term (number_above r.day day));
          shows = λ hidden r. refl;
        }) 2
        (λ hidden r. refl) answer is;
  }
