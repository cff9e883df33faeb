-- What the statement that lists a tariff's steps finds.
use Rattle.std.proofs.Common.{◌≡◌, ◌∙◌, ◌+◌, ◌-◌, ℕ, List, [], ◌∷◌, ◌≢◌, ◌⊎◌, inl, inr, Option, None, Some, IfSome, Result, Ok, Err, IfOk, IfErr, arith, filter, length, map, pos, slice_get, unwrap_or, refl, sym, ap, subst, IsPermutation}
use Rattle.std.specs.Prelude.{All, Bool, Contains, bytes_eq}
use Rattle.std.proofs.lemmas.List.Elements.{All-nil, All-same}
use Rattle.std.proofs.lemmas.Slice.Eq.{bytes_eq-Decides}
use Rattle.sqlite.specs.State.{IsUnchanged, State}
use Rattle.sqlite.specs.declared.error.Error.TheVariants.{SqliteFailure}
use Rattle.sqlite.specs.declared.error.ErrorCode.TheVariants.{OutOfMemory}
use Rattle.sqlite.specs.declared.types.Value.TheVariants.{Text}
use Rattle.sqlite_typed.proofs.TestLemmas.{last_term}
use Rattle.tariff.specs.Steps.{IsSteps}
use Rattle.tariff.specs.declared.step.Step.{Step}
use Rattle.office_rules.specs.Office.{IsOffice, Office}
use Rattle.one_table.specs.Listed.{no_limit}
use Rattle.one_table.proofs.HiddenLemmas.{rising_hidden}
use Rattle.one_table.proofs.TestsLemmas.{text_is}
use Rattle.book_tables.specs.reading.Reading.{AreOfOffice, FailsToReadOf, TableHolds}
use Rattle.book_tables.specs.Kept.{Kept, steps_kept}
use Rattle.book_tables.specs.row.Rows.{Rows, StepRow, shown_step}
use Rattle.book_tables.specs.Stands.{AreApart, AreMembersOf}
use Rattle.book_tables.specs.Tables.{tariff_steps_table}
use Rattle.book_tables.specs.row.Values.{AreStepValues}
use Rattle.book_tables.specs.declared.error.TableError.{TableError}
use Rattle.book_tables.specs.declared.error.TableError.TheVariants.{Database, RowOfNoOffice}
use Rattle.book_tables.proofs.ReadingLemmas.ListingLemmas.{Lists}
use Rattle.book_tables.proofs.MemberLemmas.{itself, same_tariff}
use Rattle.book_tables.proofs.RowLemmas.RecordLemmas.{one_shown_step}
use Rattle.book_tables.proofs.ReadingLemmas.StepLemmas.{DifferInKey, pairs_that_pass, passes_there, permuted, row_there, rows_differ, rows_from, rows_rise, there_passes, there_row}
use Rattle.book_tables.proofs.ReadingLemmas.StepTexts.{step_names, steps_of_asks, steps_of_query, steps_of_text}
use Rattle.book_tables.proofs.RowLemmas.ValueLemmas.{steps_keep}

abbrev place_of : StepRow → ℕ
place_of r = r.place

-- what is listed of a tariff, and of none
abbrev pub listed_of : Option (List Step) → List Step
listed_of tariff = unwrap_or tariff []

-- ---- a tariff is told by what is listed of it

-- two that list the same are the same, as a tariff that is there has a step at least
pub one_tariff : (a b : Option (List Step)) → IfSome a IsSteps → IfSome b IsSteps → listed_of a ≡ listed_of b → a ≡ b
one_tariff None None in_a in_b same = refl
one_tariff None (Some steps) in_a in_b same = absurd (omega (arith, in_b.count.0, ap length same))
one_tariff (Some steps) None in_a in_b same = absurd (omega (arith, in_a.count.0, ap length same))
one_tariff (Some steps) (Some others) in_a in_b same = cc

-- the steps that an office has under a tariff's name keep the rules of steps
pub tariff_keeps : (o : Office) → IsOffice o → (name : List ℕ) (tariff : Option (List Step)) → o.tariffs name ≡ tariff → IfSome tariff IsSteps
tariff_keeps o office name None e = _
tariff_keeps o office name (Some steps) e = (office.tariffs name steps e).priced

abbrev IsMemory : TableError → Type 0
IsMemory e = e ≡ Database (SqliteFailure OutOfMemory)

-- what is made of the list: this tariff, where the list is of a tariff or of none
pub makes : (shown : List Step) (r : Result (Option (List Step)) TableError) → IfOk r (λ made. listed_of made ≡ shown) → IfOk r (λ made. IfSome made IsSteps)
    → (tariff : Option (List Step)) → IfSome tariff IsSteps → shown ≡ listed_of tariff → IfOk r (λ made. made ≡ tariff)
makes shown (Err e) is steps tariff keeps same = is
makes shown (Ok made) is steps tariff keeps same = one_tariff made tariff steps keeps (is ∙ same)

of_a_tariff : (shown : List Step) (tariff : Option (List Step)) → IfSome tariff IsSteps → shown ≡ listed_of tariff → shown ≢ [] → IsSteps shown
of_a_tariff shown None keeps same some = absurd (some same)
of_a_tariff shown (Some steps) keeps same some = subst IsSteps (sym same) keeps

values_keep : (o : Office) → IsOffice o → (name : List ℕ) (tariff : Option (List Step)) → o.tariffs name ≡ tariff → All AreStepValues (listed_of tariff)
values_keep o office name None e = All-nil AreStepValues
values_keep o office name (Some steps) e = steps_keep o office name steps e

-- why nothing is made of a list: it is of no office, or there was no memory
module _ (k : Kept) (steps_in : Office → Option (List Step)) (keeps : (o : Office) → IsOffice o → IfSome (steps_in o) IsSteps) where
  -- a list that makes no steps is why a read fails: want of memory, or rows of no office
  pub fails_to_make : (shown : List Step) (old new : State) → IsUnchanged old new
      → ((rows : Rows) → TableHolds k old.now rows → AreOfOffice rows → (o : Office) → IsOffice o → AreMembersOf rows o → shown ≡ listed_of (steps_in o))
      → {A : Type 0} (r : Result A TableError) → IfErr r (λ e. IsMemory e ⊎ ((e ≡ RowOfNoOffice) × (shown ≢ []) × ¬ IsSteps shown))
      → IfErr r (FailsToReadOf (TableHolds k) old new)
  fails_to_make shown old new same are (Ok x) why = why
  fails_to_make shown old new same are (Err e) (inl is) = subst (FailsToReadOf (TableHolds k) old new) (sym is) (inr (refl, same))
  fails_to_make shown old new same are (Err e) (inr (is, some, none)) =
      subst (FailsToReadOf (TableHolds k) old new) (sym is) (
        λ rows held of_office.
            let (o, office, members) = of_office in
            none (of_a_tariff shown (steps_in o) (keeps o office) (are rows held of_office o office members) some),
        same,
      )

-- ---- the steps of the tariff of a name

module _ (name : List ℕ) where
  abbrev is_of_tariff : StepRow → Bool
  is_of_tariff r = bytes_eq r.tariff name

  module _ (rows : Rows) (o : Office) (are : AreMembersOf rows o) where
    abbrev tariff_rows : Option (List Step) → List StepRow
    tariff_rows tariff = rows_from name 0 (listed_of tariff)

    row_is : (tariff : Option (List Step)) → o.tariffs name ≡ tariff → (r : StepRow) → Contains (filter is_of_tariff rows.steps) r
        → Contains (tariff_rows tariff) r
    row_is tariff e r there =
        let parts = there_passes is_of_tariff rows.steps r there in
        let named : r.tariff ≡ name = (bytes_eq-Decides r.tariff name).0 parts.1 in
        let has = (are.steps r).1 parts.0 in
        let same : listed_of tariff ≡ has.0 = sym (ap listed_of e) ∙ ap (λ n. listed_of (o.tariffs n)) (sym named) ∙ ap listed_of has.1 in
        let at : 0 + r.place ≡ r.place = omega arith in
        let R : StepRow = record { tariff = r.tariff; place = r.place; step = r.step } in
        let here : record { tariff = name; place = 0 + r.place; step = r.step } ≡ R = cc in
        subst (Contains (tariff_rows tariff)) here (there_row name 0 (listed_of tariff) r.place r.step
        (subst (λ (steps : List Step). slice_get steps r.place ≡ Some r.step) (sym same) has.2))

    is_row : (tariff : Option (List Step)) → o.tariffs name ≡ tariff → (r : StepRow) → Contains (tariff_rows tariff) r
        → Contains (filter is_of_tariff rows.steps) r
    is_row None e r there = absurd (let none = (row_there name 0 [] r there).2 in cc)
    is_row (Some steps) e r there =
        let at = row_there name 0 steps r there in
        let whole : r.place - 0 ≡ r.place = omega arith in
        let has = (are.steps r).0 (steps, ap o.tariffs at.0 ∙ e, subst (λ place. slice_get steps place ≡ Some r.step) whole at.2) in
        passes_there is_of_tariff rows.steps r has ((bytes_eq-Decides r.tariff name).1 at.0)

    rows_are : IsPermutation (filter is_of_tariff rows.steps) (tariff_rows (o.tariffs name))
    rows_are =
        permuted place_of (filter is_of_tariff rows.steps) (tariff_rows (o.tariffs name))
        (pairs_that_pass AreApart (DifferInKey place_of) is_of_tariff rows.steps
        (λ a b p q apart. apart ((bytes_eq-Decides a.tariff name).0 p ∙ sym ((bytes_eq-Decides b.tariff name).0 q))) are.steps_once)
        (rows_differ name 0 (listed_of (o.tariffs name)))
        (row_is (o.tariffs name) refl) (is_row (o.tariffs name) refl)

  shown_are : (first : ℕ) (steps : List Step) → map (λ (r : StepRow). shown_step r.step) (rows_from name first steps) ≡ map shown_step steps
  shown_are first [] = refl
  shown_are first (s ∷ steps) = ap (λ rows. shown_step s ∷ rows) (shown_are (first + 1) steps)

  -- what is listed of the office's tariff
  abbrev pub AreStepsOf : Rows → List Step → Type 0
  AreStepsOf rows found = (o : Office) → AreMembersOf rows o → found ≡ listed_of (o.tariffs name)

  -- the text lists the steps of the tariff, in the order of their places
  pub steps_of : Lists steps_kept steps_of_text (Text name ∷ []) shown_step AreStepValues AreStepsOf
  steps_of = record {
    table = tariff_steps_table;
    query = steps_of_query;
    names = step_names;
    asks = steps_of_asks name;
    stands = λ s has. has.0.has;
    one = λ a b keeps_a keeps_b same. one_shown_step a b same;
    kept = λ rows of_office found are. All-same AreStepValues found (listed_of (of_office.0.tariffs name)) (are of_office.0 of_office.2)
        (values_keep of_office.0 of_office.1 name (of_office.0.tariffs name) refl);
    answers = λ db rows held of_office answer is.
        let o = of_office.0 in
        let found = listed_of (o.tariffs name) in (
          found,
          λ other those. ap listed_of (same_tariff rows rows (itself rows) o other of_office.2 those name),
          rising_hidden (record {
            holds_them = held.1.1.0;
            some = λ r none. cc;
            passes = λ hidden r. last_term (text_is r.tariff name);
            shows = λ hidden r. refl;
          }) 2 (λ r. pos r.place) (λ hidden r. refl) no_limit answer
              (rows_from name 0 found) (rows_are rows o of_office.2) (rows_rise name 0 found) is ∙ shown_are 0 found,
        );
  }
