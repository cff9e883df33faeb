-- An import taken apart: what it makes of an office is what its new rows make, one after another.
use Rattle.std.proofs.Common.{◌≡◌, ℕ, ◌+◌, ◌⊎◌, inl, inr, Bool, true, false, List, [], ◌∷◌, ◌++◌, Option, Some, None, Result, Ok, Err, is_some, refl, sym, ◌∙◌, ap, subst}
use Rattle.std.specs.Prelude.{All, nat_lt, if◌then◌else◌}
use Rattle.std.proofs.lemmas.List.Elements.{All-head, All-tail}
use Rattle.tariff.specs.declared.step.Step.{Step}
use Rattle.office_rules.specs.Decision.{add_meter, add_rows, add_steps, add_tariff, at_row, import, meter_eq, new_rows, row_decision, steps_eq, unchanged, added_if_later}
use Rattle.office_rules.specs.Decision.Edits.{office_after, with_row, with_rows, RowsFit}
use Rattle.office_rules.specs.Office.{Office}
use Rattle.office_rules.specs.declared.decision.answer.Answer.{Answer}
use Rattle.office_rules.specs.declared.decision.change.Change.{Change}
use Rattle.office_rules.specs.declared.office.meter.Meter.{Meter}
use Rattle.office_rules.specs.declared.decision.refusal.Refusal.{Refusal}
use Rattle.office_rules.specs.declared.decision.refusal.Refusal.TheVariants as refusals
use Rattle.office_rules.specs.declared.office.row.Row.{Row}
use Rattle.office_rules.specs.declared.office.row.Row.TheVariants as kinds
use Rattle.office_rules.proofs.DecisionLemmas.{after_test, bind_ok, same_Ok}

-- a row that is granted stands there already, or is put under its name
abbrev pub Grants : Office → Row → Change → Type 0
Grants o row change =
    ((is_some change.edit ≡ false) × (office_after o (Ok change) ≡ o))
    ⊎ ((is_some change.edit ≡ true) × (office_after o (Ok change) ≡ with_row row o) × RowsFit (row ∷ []) o)

stands_if : (o : Office) (row : Row) (b : Bool) (answer : Answer) (refusal : Refusal) (change : Change)
    → (if b then unchanged answer else Err refusal) ≡ Ok change → Grants o row change
stands_if o row true answer refusal change e = subst (Grants o row) (same_Ok _ _ e) (inl (refl, refl))
stands_if o row false answer refusal change e = cc

tariff_grants : (o : Office) (name : List ℕ) (steps : List Step) (there : Option (List Step)) (change : Change)
    → add_tariff name steps there ≡ Ok change → Grants o (kinds.Tariff name steps) change
tariff_grants o name steps None change e = subst (Grants o (kinds.Tariff name steps)) (same_Ok _ _ e) (inr (refl, refl, tt))
tariff_grants o name steps (Some there) change e = stands_if o (kinds.Tariff name steps) (steps_eq there steps) _ _ change e

day_grants : (o : Office) (name : List ℕ) (day : ℕ) (steps : List Step) (b : Bool) (change : Change)
    → added_if_later name day steps b ≡ Ok change → Grants o (kinds.Steps name day steps) change
day_grants o name day steps true change e = subst (Grants o (kinds.Steps name day steps)) (same_Ok _ _ e) (inr (refl, refl, tt))
day_grants o name day steps false change e = cc

steps_grants : (o : Office) (name : List ℕ) (day today : ℕ) (steps : List Step) (has : Bool) (there : Option (List Step)) (change : Change)
    → add_steps name day steps today has there ≡ Ok change → Grants o (kinds.Steps name day steps) change
steps_grants o name day today steps false there change e = cc
steps_grants o name day today steps true (Some there) change e = stands_if o (kinds.Steps name day steps) (steps_eq there steps) _ _ change e
steps_grants o name day today steps true None change e = day_grants o name day steps (nat_lt today day) change e

meter_grants : (o : Office) (number : List ℕ) (m : Meter) (there : Option Meter) (has : Bool) (change : Change)
    → is_some (o.tariffs m.tariff) ≡ has → add_meter number m there has ≡ Ok change → Grants o (kinds.Meter number m) change
meter_grants o number m (Some there) has change is e = stands_if o (kinds.Meter number m) (meter_eq there m) _ _ change e
meter_grants o number m None true change is e = subst (Grants o (kinds.Meter number m)) (same_Ok _ _ e) (inr (refl, refl, (is, tt)))
meter_grants o number m None false change is e = cc

-- the decision on a row, if it grants it, changes nothing or puts just that row
pub row_grants : (o : Office) (today : ℕ) (row : Row) (change : Change) → row_decision o today row ≡ Ok change → Grants o row change
row_grants o today (kinds.Tariff name steps) change e = tariff_grants o name steps (o.tariffs name) change e
row_grants o today (kinds.Steps name day steps) change e = steps_grants o name day today steps (is_some (o.tariffs name)) (o.dated_steps name day) change e
row_grants o today (kinds.Meter number m) change e = meter_grants o number m (o.meters number) (is_some (o.tariffs m.tariff)) change refl e

at_row_ok : (number : ℕ) (r : Result Change Refusal) (change : Change) → at_row number r ≡ Ok change → r ≡ Ok change
at_row_ok number (Ok c) change e = e
at_row_ok number (Err refusals.Differs) change e = cc
at_row_ok number (Err refusals.NoTariff) change e = cc
at_row_ok number (Err refusals.DayPast) change e = cc
at_row_ok number (Err refusal) change e = cc

-- the first row is granted, and the new rows are it, where it is new, and those among the rest
pub record Takes (o : Office) (today number : ℕ) (row : Row) (rest new : List Row) : Type 0 where
  pub change : Change
  pub more : List Row
  pub granted : row_decision o today row ≡ Ok change
  pub further : new_rows (office_after o (Ok change)) today (number + 1) rest ≡ Ok more
  pub new_is : new ≡ (if is_some change.edit then row ∷ more else more)
  pub grants : Grants o row change

-- where an import finds its new rows, its first row is granted, and the rest after it
pub takes : (o : Office) (today number : ℕ) (row : Row) (rest new : List Row) → new_rows o today number (row ∷ rest) ≡ Ok new
    → Takes o today number row rest new
takes o today number row rest new e =
    let a = bind_ok (at_row number (row_decision o today row)) _ new e in
    let b = bind_ok (new_rows (office_after o (Ok a.0)) today (number + 1) rest) _ new a.2 in
    let granted = at_row_ok number (row_decision o today row) a.0 a.1 in
    record {
      change = a.0;
      more = b.0;
      granted = granted;
      further = b.1;
      new_is = sym (same_Ok _ new b.2);
      grants = row_grants o today row a.0 granted;
    }

-- the office with the new rows is the one after the first row, with those among the rest
with_rest : (o : Office) (row : Row) (more : List Row) (change : Change) → Grants o row change
    → with_rows (if is_some change.edit then row ∷ more else more) o ≡ with_rows more (office_after o (Ok change))
with_rest o row more change (inl (none, same)) =
    ap (λ (b : Bool). with_rows (if b then row ∷ more else more) o) none ∙ ap (with_rows more) (sym same)
with_rest o row more change (inr (some, put, fits)) =
    ap (λ (b : Bool). with_rows (if b then row ∷ more else more) o) some ∙ ap (with_rows more) (sym put)

-- all new rows make the office that the first row and then the rest make
pub taken_office : (o : Office) (today number : ℕ) (row : Row) (rest new : List Row) (t : Takes o today number row rest new)
    → with_rows new o ≡ with_rows t.more (office_after o (Ok t.change))
taken_office o today number row rest new t = ap (λ (rows : List Row). with_rows rows o) t.new_is ∙ with_rest o row t.more t.change t.grants

-- the new rows fit, one after another
fits_first : (o : Office) (row : Row) (more : List Row) → RowsFit (row ∷ []) o → RowsFit more (with_row row o) → RowsFit (row ∷ more) o
fits_first o (kinds.Tariff name steps) more first rest = rest
fits_first o (kinds.Steps name day steps) more first rest = rest
fits_first o (kinds.Meter number m) more first rest = (first.0, rest)

fits_grant : (o : Office) (row : Row) (more : List Row) (change : Change) → Grants o row change → RowsFit more (office_after o (Ok change))
    → RowsFit (if is_some change.edit then row ∷ more else more) o
fits_grant o row more change (inl (none, same)) fits =
    subst (λ (b : Bool). RowsFit (if b then row ∷ more else more) o) (sym none) (subst (RowsFit more) same fits)
fits_grant o row more change (inr (some, put, first)) fits =
    subst (λ (b : Bool). RowsFit (if b then row ∷ more else more) o) (sym some) (fits_first o row more first (subst (RowsFit more) put fits))

-- an import's new rows fit: a meter's tariff is there, or in a row before it
pub new_rows_fit : (o : Office) (today number : ℕ) (rows new : List Row) → new_rows o today number rows ≡ Ok new → RowsFit new o
new_rows_fit o today number [] new e = subst (λ (rows : List Row). RowsFit rows o) (same_Ok _ new e) tt
new_rows_fit o today number (row ∷ rest) new e =
    let t = takes o today number row rest new e in
    subst (λ (rows : List Row). RowsFit rows o) (sym t.new_is)
    (fits_grant o row t.more t.change t.grants (new_rows_fit (office_after o (Ok t.change)) today (number + 1) rest t.more t.further))

-- adding the new rows makes the office with them, also where there are none
pub after_add : (o : Office) (new : List Row) → office_after o (add_rows new) ≡ with_rows new o
after_add o [] = refl
after_add o (row ∷ rest) = refl

-- what each row keeps, an import keeps
module _ (P : Office → Type 0) (Q : Row → Type 0) (today : ℕ)
    (each : (o : Office) (row : Row) → Q row → P o → P (office_after o (row_decision o today row))) where
  -- what each row keeps holds of the office with an import's new rows
  pub new_rows_keep : (o : Office) (number : ℕ) (rows new : List Row) → All Q rows → P o → new_rows o today number rows ≡ Ok new → P (with_rows new o)
  new_rows_keep o number [] new are holds e = subst (λ (rows : List Row). P (with_rows rows o)) (same_Ok _ new e) holds
  new_rows_keep o number (row ∷ rest) new are holds e =
      let t = takes o today number row rest new e in
      let here : P (office_after o (Ok t.change)) = subst (λ (r : Result Change Refusal). P (office_after o r)) t.granted
      (each o row (All-head Q row rest are) holds) in
      subst P (sym (taken_office o today number row rest new t))
      (new_rows_keep (office_after o (Ok t.change)) (number + 1) rest t.more (All-tail Q row rest are) here t.further)

  -- what each row keeps holds after an import, be it granted or refused
  pub import_keeps : (o : Office) (rows : List Row) → All Q rows → P o → P (office_after o (import o today rows))
  import_keeps o rows are holds =
      after_test (λ r. P (office_after o r)) (new_rows o today 1 rows) add_rows (λ refusal. holds)
      (λ new e. subst P (sym (after_add o new)) (new_rows_keep o 1 rows new are holds e))

-- rows in front of new ones, which are found to be such later
abbrev pub ahead : List Row → Result (List Row) Refusal → Result (List Row) Refusal
ahead taken (Ok new) = Ok (taken ++ new)
ahead taken (Err refusal) = Err refusal
