-- An import that was granted and comes again, where nothing in between changed what its rows may have
-- added, changes nothing.
use Rattle.std.proofs.Common.{◌≡◌, ℕ, ◌+◌, Bool, true, false, List, [], ◌∷◌, Option, Some, None, Result, Ok, Err, is_some, refl, sym, ◌∙◌, ap, subst}
use Rattle.std.specs.Prelude.{◌&&◌, ◌==◌, All, bytes_eq, nat_lt, if◌then◌else◌}
use Rattle.sts_fields.specs.Day.{day_at}
use Rattle.std.proofs.lemmas.List.Elements.{All-cons, All-contains, All-head, All-nil, All-tail}
use Rattle.std.proofs.lemmas.Option.{none-some}
use Rattle.std.proofs.lemmas.Slice.Eq.{bytes_eq-Decides}
use Rattle.std.proofs.lemmas.Bool.Decides.{Decides-eqb}
use Rattle.tariff.specs.StepsEq.{steps_eq-equiv}
use Rattle.tariff.specs.declared.step.Step.{Step}
use Rattle.office_rules.specs.Decision.{◌>>=◌, at_row, add_meter, add_rows, add_steps, add_tariff, changed, decision_of, import, meter_eq, new_rows, row_decision, steps_eq, unchanged, added_if_later}
use Rattle.office_rules.specs.Decision.Edits.{office_after, with_rows}
use Rattle.office_rules.specs.Decision.Fold.{after, reply, reply_of, step}
use Rattle.office_rules.specs.Law.Growth.{HaveStayed}
use Rattle.vend_core.specs.Law.Imports.{ImportsNothing, LeavesRow, LeavesRows}
use Rattle.office_rules.specs.Office.{Office}
use Rattle.office_rules.specs.declared.decision.answer.Answer.{Answer}
use Rattle.office_rules.specs.declared.decision.answer.Answer.TheVariants as answers
use Rattle.office_rules.specs.declared.decision.change.Change.{Change}
use Rattle.office_rules.specs.declared.decision.change.Edit.{Edit}
use Rattle.office_rules.specs.declared.decision.change.Edit.TheVariants as edits
use Rattle.office_rules.specs.declared.office.meter.Meter.{Meter}
use Rattle.office_rules.specs.declared.decision.refusal.Refusal.{Refusal}
use Rattle.office_rules.specs.declared.decision.refusal.Refusal.TheVariants as refusals
use Rattle.office_rules.specs.declared.decision.request.Request.TheVariants as requests
use Rattle.office_rules.specs.declared.decision.request.Stamped.{Stamped}
use Rattle.office_rules.specs.declared.office.row.Row.{Row}
use Rattle.office_rules.specs.declared.office.row.Row.TheVariants as kinds
use Rattle.office_rules.proofs.DecisionLemmas.{same_Ok}
use Rattle.office_rules.proofs.DecisionLemmas.ImportLemmas.{after_add, new_rows_keep, takes, taken_office}
use Rattle.office_rules.proofs.DecisionLemmas.EditLemmas.{base_eq-refl}
use Rattle.office_rules.proofs.OfficeLemmas.MapLemmas.{all_from_contains}
use Rattle.office_rules.proofs.OfficeLemmas.RowLemmas.{both_true}
use Rattle.office_rules.proofs.DecisionLemmas.StayLemmas.{stayed_by_row, still_there, stayed_none, stayed_twice}
use Rattle.vend_core.proofs.LawLemmas.LeaveLemmas.{RowStays, row_stays, step_leaves}

-- a row that stands in an office: on whatever day, it would be granted, and change nothing
abbrev pub Stands : Office → Row → Type 0
Stands o row = (today : ℕ) → row_decision o today row ≡ unchanged answers.Done

not_unchanged : (edit : Edit) (answer : Answer) → changed edit answer ≡ unchanged answers.Done → ⊥
not_unchanged edit answer e = none-some edit (sym (ap (λ (c : Change). c.edit) (same_Ok _ _ e)))

stands_tariff : (name : List ℕ) (steps : List Step) (there later : Option (List Step))
    → ((s : List Step) → there ≡ Some s → later ≡ Some s) → add_tariff name steps there ≡ unchanged answers.Done
    → add_tariff name steps later ≡ unchanged answers.Done
stands_tariff name steps None later stays e = absurd (not_unchanged (edits.AddTariff name steps) answers.Done e)
stands_tariff name steps (Some there) later stays e = ap (add_tariff name steps) (stays there refl) ∙ e

stands_meter : (number : List ℕ) (m : Meter) (there later : Option Meter) (has had : Bool)
    → ((k : Meter) → there ≡ Some k → later ≡ Some k) → add_meter number m there has ≡ unchanged answers.Done
    → add_meter number m later had ≡ unchanged answers.Done
stands_meter number m None later true had stays e = absurd (not_unchanged (edits.AddMeter number m) answers.Done e)
stands_meter number m None later false had stays e = cc
stands_meter number m (Some there) later has had stays e = ap (λ k. add_meter number m k had) (stays there refl) ∙ e

no_unchanged_day : (name : List ℕ) (day : ℕ) (steps : List Step) (b : Bool)
    → added_if_later name day steps b ≡ unchanged answers.Done → ⊥
no_unchanged_day name day steps true e = not_unchanged (edits.AddSteps name day steps) answers.Done e
no_unchanged_day name day steps false e = cc

stands_steps : (name : List ℕ) (day today : ℕ) (steps : List Step) (has had : Bool) (there later : Option (List Step))
    → (has ≡ true → had ≡ true) → ((s : List Step) → there ≡ Some s → later ≡ Some s) → add_steps name day steps today has there
    ≡ unchanged answers.Done → add_steps name day steps today had later ≡ unchanged answers.Done
stands_steps name day today steps false had there later has_still stays e = cc
stands_steps name day today steps true had None later has_still stays e = absurd (no_unchanged_day name day steps (nat_lt today day) e)
stands_steps name day today steps true had (Some there) later has_still stays e =
    ap (λ (l : Option (List Step)). add_steps name day steps today had l) (stays there refl)
    ∙ ap (λ (b : Bool). add_steps name day steps today b (Some there)) (has_still refl) ∙ e

stands_still : (o p : Office) (row : Row) → RowStays o p row → Stands o row → Stands p row
stands_still o p (kinds.Tariff name steps) stays stands today = stands_tariff name steps (o.tariffs name) (p.tariffs name) stays (stands today)
stands_still o p (kinds.Steps name day steps) stays stands today =
    stands_steps name day today steps (is_some (o.tariffs name)) (is_some (p.tariffs name)) (o.dated_steps name day) (p.dated_steps name day)
    (still_there (o.tariffs name) (p.tariffs name) stays.0) stays.1 (stands today)
stands_still o p (kinds.Meter number m) stays stands today =
    stands_meter number m (o.meters number) (p.meters number) (is_some (o.tariffs m.tariff)) (is_some (p.tariffs m.tariff)) stays (stands today)

-- rows that stand still do after a request that leaves them, and after many
pub step_stand : (forward : ℕ → ℕ → ℕ) (o : Office) (at : Stamped) (rows : List Row) → LeavesRows rows at → All (Stands o) rows
    → All (Stands (step forward o at)) rows
step_stand forward o at rows leaves stand = all_from_contains (Stands (step forward o at)) rows (λ row there.
    stands_still o (step forward o at) row (step_leaves forward o at row (All-contains (LeavesRow at.request) rows row leaves there))
    (All-contains (Stands o) rows row stand there))

-- and so they do after many
pub after_stand : (forward : ℕ → ℕ → ℕ) (o : Office) (ats : List Stamped) (rows : List Row) → All (LeavesRows rows) ats → All (Stands o) rows
    → All (Stands (after forward o ats)) rows
unfolding after
after_stand forward o [] rows leave stand = stand
after_stand forward o (at ∷ ats) rows leave stand =
    after_stand forward (step forward o at) ats rows (All-tail (LeavesRows rows) at ats leave)
    (step_stand forward o at rows (All-head (LeavesRows rows) at ats leave) stand)

-- a row that was granted stands
same_bytes : (text : List ℕ) → bytes_eq text text ≡ true
same_bytes text = (bytes_eq-Decides text text).1 refl

same_meter : (m : Meter) → meter_eq m m ≡ true
same_meter m = both_true _ _ (both_true _ _ (base_eq-refl m.base) (same_bytes m.tariff)) ((Decides-eqb m.key m.key).1 refl)

passed_stands : (o : Office) (b : Bool) (change : Change) → (if b then unchanged answers.Done else Err refusals.Differs) ≡ Ok change
    → (office_after o (Ok change) ≡ o) × ((if b then unchanged answers.Done else Err refusals.Differs) ≡ unchanged answers.Done)
passed_stands o true change e = (ap (λ (c : Change). office_after o (Ok c)) (sym (same_Ok _ change e)), refl)
passed_stands o false change e = cc

granted_tariff : (o : Office) (name : List ℕ) (steps : List Step) (there : Option (List Step)) (change : Change) → o.tariffs name ≡ there
    → add_tariff name steps there ≡ Ok change → Stands (office_after o (Ok change)) (kinds.Tariff name steps)
granted_tariff o name steps None change is e today =
    subst (λ (c : Change). row_decision (office_after o (Ok c)) today (kinds.Tariff name steps) ≡ unchanged answers.Done) (same_Ok _ change e)
    (ap (λ (b : Bool). add_tariff name steps (if b then Some steps else o.tariffs name)) (same_bytes name)
    ∙ ap (λ (b : Bool). if b then unchanged answers.Done else Err refusals.Differs) (steps_eq-equiv.refl steps))
granted_tariff o name steps (Some there) change is e today =
    let passed = passed_stands o (steps_eq there steps) change e in
    subst (λ (p : Office). row_decision p today (kinds.Tariff name steps) ≡ unchanged answers.Done) (sym passed.0) (ap (add_tariff name steps) is ∙ passed.1)

-- steps that were added stand on whatever day
added_day : (o : Office) (name : List ℕ) (day : ℕ) (steps : List Step) (b : Bool) (change : Change) → is_some (o.tariffs name) ≡ true
    → added_if_later name day steps b ≡ Ok change
    → Stands (office_after o (Ok change)) (kinds.Steps name day steps)
added_day o name day steps true change has e today =
    subst (λ (c : Change). row_decision (office_after o (Ok c)) today (kinds.Steps name day steps) ≡ unchanged answers.Done) (same_Ok _ change e)
    (ap (λ (b : Bool). add_steps name day steps today b (if bytes_eq name name && (day == day) then Some steps else o.dated_steps name day)) has
    ∙ ap (λ (b : Bool). add_steps name day steps today true (if b then Some steps else o.dated_steps name day))
    (both_true _ _ (same_bytes name) ((Decides-eqb day day).1 refl))
    ∙ ap (λ (b : Bool). if b then unchanged answers.Done else Err refusals.Differs) (steps_eq-equiv.refl steps))
added_day o name day steps false change has e today = cc

granted_steps : (o : Office) (name : List ℕ) (day before : ℕ) (steps : List Step) (has : Bool) (there : Option (List Step))
    (change : Change) → is_some (o.tariffs name) ≡ has → o.dated_steps name day ≡ there → add_steps name day steps before has there
    ≡ Ok change → Stands (office_after o (Ok change)) (kinds.Steps name day steps)
granted_steps o name day before steps false there change has_is is e today = cc
granted_steps o name day before steps true None change has_is is e today = added_day o name day steps (nat_lt before day) change has_is e today
granted_steps o name day before steps true (Some there) change has_is is e today =
    let passed = passed_stands o (steps_eq there steps) change e in
    subst (λ (p : Office). row_decision p today (kinds.Steps name day steps) ≡ unchanged answers.Done) (sym passed.0)
    (ap (λ (b : Bool). add_steps name day steps today b (o.dated_steps name day)) has_is ∙ ap (add_steps name day steps today true) is ∙ passed.1)

granted_meter : (o : Office) (number : List ℕ) (m : Meter) (there : Option Meter) (has : Bool) (change : Change) → o.meters number ≡ there
    → is_some (o.tariffs m.tariff) ≡ has → add_meter number m there has ≡ Ok change → Stands (office_after o (Ok change)) (kinds.Meter number m)
granted_meter o number m None true change is there e today =
    subst (λ (c : Change). row_decision (office_after o (Ok c)) today (kinds.Meter number m) ≡ unchanged answers.Done) (same_Ok _ change e)
    (ap (λ (b : Bool). add_meter number m (if b then Some m else o.meters number) (is_some (o.tariffs m.tariff))) (same_bytes number)
    ∙ ap (λ (b : Bool). if b then unchanged answers.Done else Err refusals.Differs) (same_meter m))
granted_meter o number m None false change is there e today = cc
granted_meter o number m (Some k) has change is there e today =
    let passed = passed_stands o (meter_eq k m) change e in
    subst (λ (p : Office). row_decision p today (kinds.Meter number m) ≡ unchanged answers.Done) (sym passed.0)
    (ap (λ (f : Option Meter). add_meter number m f (is_some (o.tariffs m.tariff))) is ∙ passed.1)

granted_stands : (o : Office) (today : ℕ) (row : Row) (change : Change) → row_decision o today row ≡ Ok change → Stands (office_after o (Ok change)) row
granted_stands o today (kinds.Tariff name steps) change e = granted_tariff o name steps (o.tariffs name) change refl e
granted_stands o today (kinds.Steps name day steps) change e =
    granted_steps o name day today steps (is_some (o.tariffs name)) (o.dated_steps name day) change refl refl e
granted_stands o today (kinds.Meter number m) change e = granted_meter o number m (o.meters number) (is_some (o.tariffs m.tariff)) change refl refl e

module _ (today : ℕ) where
  new_rows_stay : (o : Office) (number : ℕ) (rows new : List Row) → new_rows o today number rows ≡ Ok new → HaveStayed o (with_rows new o)
  new_rows_stay o number rows new e =
      new_rows_keep (HaveStayed o) (λ row. Unit {0}) today
      (λ p row any stayed. stayed_twice o p (office_after p (row_decision p today row)) stayed (stayed_by_row p today row)) o number
      rows new (λ i d within. tt) (stayed_none o) e

  -- so all rows stand after an import that was granted
  new_rows_stand : (o : Office) (number : ℕ) (rows new : List Row) → new_rows o today number rows ≡ Ok new → All (Stands (with_rows new o)) rows
  new_rows_stand o number [] new e = All-nil (Stands (with_rows new o))
  new_rows_stand o number (row ∷ rest) new e =
      let t = takes o today number row rest new e in
      let p = office_after o (Ok t.change) in
      let q = with_rows t.more p in
      subst (λ (r : Office). All (Stands r) (row ∷ rest)) (sym (taken_office o today number row rest new t))
      (All-cons (Stands q) row rest (stands_still p q row (row_stays p q (new_rows_stay p (number + 1) rest t.more t.further) row) (granted_stands o today row t.change t.granted))
      (new_rows_stand p (number + 1) rest t.more t.further))

  -- where all rows stand, none is new
  none_new : (o : Office) (number : ℕ) (rows : List Row) → All (Stands o) rows → new_rows o today number rows ≡ Ok []
  none_new o number [] stand = refl
  none_new o number (row ∷ rest) stand =
      ap (λ (r : Result Change Refusal). at_row number r >>=
      (λ change. new_rows (office_after o (Ok change)) today (number + 1) rest >>=
      (λ new. Ok (if is_some change.edit then row ∷ new else new)))) (All-head (Stands o) row rest stand today)
      ∙ ap (λ (r : Result (List Row) Refusal). r >>= (λ new. Ok new)) (none_new o (number + 1) rest (All-tail (Stands o) row rest stand))

  -- an import that was granted leaves an office in which all its rows stand
  granted_import : (o : Office) (rows : List Row) (r : Result (List Row) Refusal) (new : ℕ) → new_rows o today 1 rows ≡ r
      → reply_of (r >>= add_rows) ≡ Ok (answers.Imported new) → All (Stands (office_after o (r >>= add_rows))) rows
  granted_import o rows (Err refusal) new e granted = cc
  granted_import o rows (Ok added) new e granted = subst (λ (p : Office). All (Stands p) rows) (sym (after_add o added)) (new_rows_stand o 1 rows added e)

-- an import of rows that all stand is granted and changes nothing
pub imports_nothing : (forward : ℕ → ℕ → ℕ) (o : Office) (at : Stamped) (rows : List Row) → at.request ≡ requests.Import rows
    → All (Stands o) rows → ImportsNothing forward o at
imports_nothing forward o at rows asks stand =
    let decided : decision_of forward o at.moment at.nibble at.request ≡ unchanged (answers.Imported 0) =
    ap (decision_of forward o at.moment at.nibble) asks ∙ ap (λ (r : Result (List Row) Refusal). r >>= add_rows) (none_new (day_at at.moment) o 1 rows stand) in
    (ap reply_of decided, ap (office_after o) decided)

-- after an import that was granted all its rows stand
pub rows_stand : (forward : ℕ → ℕ → ℕ) (o : Office) (at : Stamped) (rows : List Row) (new : ℕ) → at.request ≡ requests.Import rows
    → reply forward o at ≡ Ok (answers.Imported new) → All (Stands (step forward o at)) rows
rows_stand forward o at rows new asks granted =
    let decided : decision_of forward o at.moment at.nibble at.request ≡ import o (day_at at.moment) rows =
    ap (decision_of forward o at.moment at.nibble) asks in
    subst (λ (r : Result Change Refusal). All (Stands (office_after o r)) rows) (sym decided)
    (granted_import (day_at at.moment) o rows (new_rows o (day_at at.moment) 1 rows) new refl (ap reply_of (sym decided) ∙ granted))

-- a granted import that comes again changes nothing, where all that came in between leaves its rows
pub imported_again : (forward : ℕ → ℕ → ℕ) (o : Office) (at again : Stamped) (between : List Stamped) (rows : List Row) (new : ℕ)
    → at.request ≡ requests.Import rows → again.request ≡ requests.Import rows → reply forward o at ≡ Ok (answers.Imported new)
    → All (LeavesRows rows) between → ImportsNothing forward (after forward (step forward o at) between) again
imported_again forward o at again between rows new asks asks_again granted leave =
    let p = step forward o at in
    imports_nothing forward (after forward p between) again rows asks_again
    (after_stand forward p between rows leave (rows_stand forward o at rows new asks granted))
