-- What the statement that lists the steps from a day on finds.
use Rattle.std.proofs.Common.{◌≡◌, ◌∙◌, ℕ, List, [], ◌∷◌, Option, None, Some, IfSome, pos, refl, ap}
use Rattle.std.specs.Prelude.{All}
use Rattle.std.proofs.lemmas.List.Elements.{All-nil, All-same}
use Rattle.sqlite.specs.declared.types.Value.TheVariants.{Text}
use Rattle.sqlite_typed.proofs.TestLemmas.{last_term, then_term}
use Rattle.tariff.specs.Steps.{IsSteps}
use Rattle.tariff.specs.declared.step.Step.{Step}
use Rattle.office_rules.specs.Office.{IsOffice, Office}
use Rattle.one_table.specs.Listed.{no_limit}
use Rattle.one_table.proofs.HiddenLemmas.{rising_hidden}
use Rattle.one_table.proofs.TestsLemmas.{number_is, text_is}
use Rattle.book_tables.specs.Kept.{dated_steps_kept}
use Rattle.book_tables.specs.row.Rows.{Rows, number, shown_step}
use Rattle.book_tables.specs.Stands.{AreMembersOf}
use Rattle.book_tables.specs.Tables.{dated_steps_table}
use Rattle.book_tables.specs.row.Values.{AreStepValues}
use Rattle.book_tables.proofs.ReadingLemmas.DatedLemmas.{dated_are, dated_from, dated_rise, dated_shown}
use Rattle.book_tables.proofs.ReadingLemmas.DatedTexts.{steps_from_asks, steps_from_query, steps_from_text}
use Rattle.book_tables.proofs.ReadingLemmas.ListingLemmas.{Lists}
use Rattle.book_tables.proofs.MemberLemmas.{itself, one_office}
use Rattle.book_tables.proofs.RowLemmas.RecordLemmas.{one_shown_step}
use Rattle.book_tables.proofs.ReadingLemmas.StepListLemmas.{listed_of}
use Rattle.book_tables.proofs.ReadingLemmas.StepTexts.{step_names}

-- the steps that an office's tariff has from a day on keep the rules of steps
pub dated_keep : (o : Office) → IsOffice o → (name : List ℕ) (day : ℕ) (steps : Option (List Step)) → o.dated_steps name day ≡ steps → IfSome steps IsSteps
dated_keep o office name day None e = _
dated_keep o office name day (Some steps) e = (office.dated_steps name day steps e).priced

values_keep : (steps : Option (List Step)) → IfSome steps IsSteps → All AreStepValues (listed_of steps)
values_keep None keeps = All-nil AreStepValues
values_keep (Some steps) keeps = λ i d below. (keeps.ends_fit i d below, keeps.prices i d below)

module _ (name : List ℕ) (day : ℕ) where
  -- what is listed of the office's steps from the day on
  abbrev pub AreStepsFrom : Rows → List Step → Type 0
  AreStepsFrom rows found = (o : Office) → IsOffice o → AreMembersOf rows o → found ≡ listed_of (o.dated_steps name day)

  -- the text lists the steps of the tariff from the day on, in the order of their places
  pub steps_from : Lists dated_steps_kept steps_from_text (Text name ∷ number day ∷ []) shown_step AreStepValues AreStepsFrom
  steps_from = record {
    table = dated_steps_table;
    query = steps_from_query;
    names = step_names;
    asks = steps_from_asks name day;
    stands = λ s has. has.0.has;
    one = λ a b keeps_a keeps_b same. one_shown_step a b same;
    kept = λ rows of_office found are.
        let o = of_office.0 in
        All-same AreStepValues found (listed_of (o.dated_steps name day)) (are o of_office.1 of_office.2)
        (values_keep (o.dated_steps name day) (dated_keep o of_office.1 name day (o.dated_steps name day) refl));
    answers = λ db rows held of_office answer is.
        let o = of_office.0 in
        let found = listed_of (o.dated_steps name day) in (
          found,
          λ other other_office those. ap (λ (o : Office). listed_of (o.dated_steps name day))
              (one_office rows rows (itself rows) o other of_office.2 those of_office.1 other_office),
          rising_hidden (record {
            holds_them = held.1.1.0;
            some = λ r none. cc;
            passes = λ hidden r. then_term (text_is r.tariff name) (last_term (number_is r.day day));
            shows = λ hidden r. refl;
          }) 3
              (λ r. pos r.place) (λ hidden r. refl) no_limit answer
              (dated_from name day 0 found) (dated_are name day rows o of_office.2) (dated_rise name day 0 found) is ∙ dated_shown name day 0 found,
        );
  }
