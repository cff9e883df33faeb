-- The edit of a granted request meets what it needs in the office: what a row that is added meets.
use Rattle.std.proofs.Common.{◌≡◌, ℕ, ◌+◌, ◌<◌, inl, inr, Bool, true, false, List, [], ◌∷◌, Option, Some, None, Result, Ok, Err, is_some, refl, sym, ◌∙◌, ap, subst, if◌then◌else◌, arith}
use Rattle.std.specs.Prelude.{All, IsSome, nat_lt}
use Rattle.std.proofs.lemmas.Bool.{false≢true}
use Rattle.std.proofs.lemmas.List.Elements.{All-head, All-tail}
use Rattle.std.proofs.lemmas.Option.{none-some, same_Some}
use Rattle.sts_fields.specs.Base.{year_of}
use Rattle.sts_fields.specs.declared.base.Base.{Base}
use Rattle.tariff.specs.Steps.{IsSteps}
use Rattle.tariff.specs.declared.step.Step.{Step}
use Rattle.office_rules.specs.Decision.{add_meter, add_rows, add_steps, add_tariff, import, meter_eq, new_rows, row_decision, steps_eq, unchanged, added_if_later}
use Rattle.office_rules.specs.Decision.Edits.{office_after}
use Rattle.office_rules.specs.Name.{IsName}
use Rattle.office_rules.specs.Office.{IsBaseRow, IsOffice, Office}
use Rattle.office_rules.specs.Decision.Requests.{IsMeter, IsRow}
use Rattle.office_rules.specs.Law.Store.{MeetRows, Meets, MeetsMeter, MeetsRow, MeetsSteps}
use Rattle.office_rules.specs.declared.decision.answer.Answer.{Answer}
use Rattle.office_rules.specs.declared.decision.change.Change.{Change}
use Rattle.office_rules.specs.declared.decision.change.Edit.{Edit}
use Rattle.office_rules.specs.declared.office.meter.Meter.{Meter}
use Rattle.office_rules.specs.declared.decision.refusal.Refusal.{Refusal}
use Rattle.office_rules.specs.declared.office.row.Row.{Row}
use Rattle.office_rules.specs.declared.office.row.Row.TheVariants as kinds
use Rattle.office_rules.proofs.DecisionLemmas.{after_test, same_Ok}
use Rattle.office_rules.proofs.DecisionLemmas.ImportLemmas.{Grants, takes}
use Rattle.office_rules.proofs.OfficeLemmas.{by_row}

-- the edit of a granted request, where there is one, meets what it needs
abbrev pub EditMeets : Office → Result Change Refusal → Type 0
EditMeets o (Ok change) = (edit : Edit) → change.edit ≡ Some edit → Meets edit o
EditMeets o (Err refusal) = Unit {0}

-- without an edit there is nothing that must be met
pub if_unchanged : (o : Office) (edit : Edit) → ◌≡◌ {A = Option Edit} None (Some edit) → Meets edit o
if_unchanged o edit is = absurd (none-some edit is)

-- a change that makes an edit has no other, so it is enough that this one meets its needs
pub if_changed : (o : Office) (e : Edit) → Meets e o → (edit : Edit) → Some e ≡ Some edit → Meets edit o
if_changed o e meets edit is = subst (λ (k : Edit). Meets k o) (same_Some e edit is) meets

-- a test between no change and a refusal makes no edit
pub if_tested : (o : Office) (b : Bool) (a : Answer) (e : Refusal)
    → EditMeets o (if b then unchanged a else Err e)
if_tested o true a e = if_unchanged o
if_tested o false a e = tt

-- a tariff, steps or a meter that is added
tariff_meets : (o : Office) (name : List ℕ) (steps : List Step) (there : Option (List Step))
    → IsName name → IsSteps steps → o.tariffs name ≡ there
    → EditMeets o (add_tariff name steps there)
tariff_meets o name steps None named priced e = if_changed o _ (named, priced, e)
tariff_meets o name steps (Some there) named priced e = if_tested o (steps_eq there steps) _ _

-- only an office's meters had bases, and none that is later than the present one
not_had : (o : Office) (number : List ℕ) (base : Base) (had : Bool) → IsOffice o
    → o.bases number base ≡ had → (IsBaseRow o number base → ⊥) → had ≡ false
not_had o number base true office is none = absurd (none (office.bases number base is))
not_had o number base false office is none = refl

no_base : (o : Office) (number : List ℕ) → IsOffice o → o.meters number ≡ None → (base : Base)
    → o.bases number base ≡ false
no_base o number office free base =
    not_had o number base (o.bases number base) office refl
    (λ row. none-some row.meter (sym free ∙ row.meter_is))

-- a base later than a meter's present one is none that the meter had
pub not_moved_yet : (o : Office) (number : List ℕ) (base : Base) (m : Meter) → IsOffice o
    → o.meters number ≡ Some m → year_of m.base < year_of base → o.bases number base ≡ false
not_moved_yet o number base m office there later =
    not_had o number base (o.bases number base) office refl (λ row.
    let same : row.meter ≡ m = same_Some row.meter m (sym row.meter_is ∙ there) in
    let earlier = row.not_after in
    absurd (omega (arith, later, earlier, ap (λ (k : Meter). year_of k.base) same)))

meets_meter : (o : Office) (number : List ℕ) (m : Meter) → IsOffice o → IsMeter number m
    → o.meters number ≡ None → IsSome (o.tariffs m.tariff) → MeetsMeter o number m
meets_meter o number m office is free there = record {
  values = is;
  free = free;
  no_base = no_base o number office free;
  tariff = there;
}

meter_meets : (o : Office) (number : List ℕ) (m : Meter) (there : Option Meter) (has : Bool)
    → IsOffice o → IsMeter number m → o.meters number ≡ there → is_some (o.tariffs m.tariff) ≡ has
    → EditMeets o (add_meter number m there has)
meter_meets o number m (Some there) has office is meter_is has_is =
    if_tested o (meter_eq there m) _ _
meter_meets o number m None true office is meter_is has_is =
    if_changed o _ (meets_meter o number m office is meter_is has_is)
meter_meets o number m None false office is meter_is has_is = tt

meets_steps : (o : Office) (name : List ℕ) (day : ℕ) (steps : List Step)
    → IsRow (kinds.Steps name day steps) → IsSome (o.tariffs name) → o.dated_steps name day ≡ None
    → MeetsSteps o name day steps
meets_steps o name day steps is there free =
    record { named = is.0; in_range = is.1; priced = is.2; tariff = there; free = free }

day_meets : (o : Office) (name : List ℕ) (day : ℕ) (steps : List Step) (b : Bool)
    → MeetsSteps o name day steps
    → EditMeets o (added_if_later name day steps b)
day_meets o name day steps true meets = if_changed o _ meets
day_meets o name day steps false meets = tt

steps_meet : (o : Office) (name : List ℕ) (day today : ℕ) (steps : List Step) (has : Bool)
    (there : Option (List Step)) → IsRow (kinds.Steps name day steps)
    → is_some (o.tariffs name) ≡ has → o.dated_steps name day ≡ there
    → EditMeets o (add_steps name day steps today has there)
steps_meet o name day today steps false there is has_is e = tt
steps_meet o name day today steps true (Some there) is has_is e =
    if_tested o (steps_eq there steps) _ _
steps_meet o name day today steps true None is has_is e =
    day_meets o name day steps (nat_lt today day) (meets_steps o name day steps is has_is e)

-- the edit of a row that is granted meets what it needs
pub row_meets : (o : Office) (today : ℕ) (row : Row) → IsOffice o → IsRow row
    → EditMeets o (row_decision o today row)
row_meets o today (kinds.Tariff name steps) office is =
    tariff_meets o name steps (o.tariffs name) is.0 is.1 refl
row_meets o today (kinds.Steps name day steps) office is =
    steps_meet o name day today steps (is_some (o.tariffs name)) (o.dated_steps name day) is refl
    refl
row_meets o today (kinds.Meter number m) office is =
    meter_meets o number m (o.meters number) (is_some (o.tariffs m.tariff)) office is refl refl

-- a row that is new was free
not_new : (b : Bool) (answer : Answer) (refusal : Refusal) (change : Change)
    → (if b then unchanged answer else Err refusal) ≡ Ok change → is_some change.edit ≡ true → ⊥
not_new true answer refusal change e new =
    false≢true (ap (λ (c : Change). is_some c.edit) (same_Ok _ change e) ∙ new)
not_new false answer refusal change e new = cc

new_tariff_meets : (o : Office) (name : List ℕ) (steps : List Step) (there : Option (List Step))
    (change : Change) → IsName name → IsSteps steps → o.tariffs name ≡ there
    → add_tariff name steps there ≡ Ok change → is_some change.edit ≡ true
    → MeetsRow (kinds.Tariff name steps) o
new_tariff_meets o name steps None change named priced is e new = (named, priced, is)
new_tariff_meets o name steps (Some there) change named priced is e new =
    absurd (not_new (steps_eq there steps) _ _ change e new)

new_steps_meet : (o : Office) (name : List ℕ) (day today : ℕ) (steps : List Step) (has : Bool)
    (there : Option (List Step)) (change : Change) → IsRow (kinds.Steps name day steps)
    → is_some (o.tariffs name) ≡ has → o.dated_steps name day ≡ there
    → add_steps name day steps today has there ≡ Ok change → is_some change.edit ≡ true
    → MeetsRow (kinds.Steps name day steps) o
new_steps_meet o name day today steps false there change is has_is free e new = cc
new_steps_meet o name day today steps true (Some there) change is has_is free e new =
    absurd (not_new (steps_eq there steps) _ _ change e new)
new_steps_meet o name day today steps true None change is has_is free e new =
    meets_steps o name day steps is has_is free

new_meter_meets : (o : Office) (number : List ℕ) (m : Meter) (there : Option Meter) (has : Bool)
    (change : Change) → IsOffice o → IsMeter number m → o.meters number ≡ there
    → is_some (o.tariffs m.tariff) ≡ has → add_meter number m there has ≡ Ok change
    → is_some change.edit ≡ true → MeetsRow (kinds.Meter number m) o
new_meter_meets o number m (Some there) has change office is meter_is has_is e new =
    absurd (not_new (meter_eq there m) _ _ change e new)
new_meter_meets o number m None true change office is meter_is has_is e new =
    meets_meter o number m office is meter_is has_is
new_meter_meets o number m None false change office is meter_is has_is e new = cc

new_row_meets : (o : Office) (today : ℕ) (row : Row) (change : Change) → IsOffice o → IsRow row
    → row_decision o today row ≡ Ok change → is_some change.edit ≡ true → MeetsRow row o
new_row_meets o today (kinds.Tariff name steps) change office is e new =
    new_tariff_meets o name steps (o.tariffs name) change is.0 is.1 refl e new
new_row_meets o today (kinds.Steps name day steps) change office is e new =
    new_steps_meet o name day today steps (is_some (o.tariffs name)) (o.dated_steps name day) change
    is refl refl e new
new_row_meets o today (kinds.Meter number m) change office is e new =
    new_meter_meets o number m (o.meters number)
    (is_some (o.tariffs m.tariff)) change office is refl refl e new

-- so are the new rows of an import, one after another
new_rows_meet : (o : Office) (today number : ℕ) (rows new : List Row) → IsOffice o → All IsRow rows
    → new_rows o today number rows ≡ Ok new → MeetRows new o
new_rows_meet o today number [] new office are e =
    subst (λ (rows : List Row). MeetRows rows o) (same_Ok _ new e) tt
new_rows_meet o today number (row ∷ rest) new office are e =
    let t = takes o today number row rest new e in
    let is = All-head IsRow row rest are in
    let next : IsOffice (office_after o (Ok t.change)) =
    subst (λ (r : Result Change Refusal). IsOffice (office_after o r)) t.granted
    (by_row o office today row is) in
    subst (λ (rows : List Row). MeetRows rows o) (sym t.new_is)
    (first_meets is t.change t.more t.granted t.grants
    (new_rows_meet (office_after o (Ok t.change)) today (number + 1) rest t.more next
    (All-tail IsRow row rest are) t.further))
  where
    first_meets : IsRow row → (change : Change) (more : List Row)
        → row_decision o today row ≡ Ok change → Grants o row change
        → MeetRows more (office_after o (Ok change))
        → MeetRows (if is_some change.edit then row ∷ more else more) o
    first_meets is change more granted (inl (none, same)) meet =
        subst (λ (b : Bool). MeetRows (if b then row ∷ more else more) o) (sym none)
        (subst (MeetRows more) same meet)
    first_meets is change more granted (inr (some, put, fits)) meet =
        subst (λ (b : Bool). MeetRows (if b then row ∷ more else more) o) (sym some) (
          new_row_meets o today row change office is granted some,
          subst (MeetRows more) put meet,
        )

rows_meet : (o : Office) (new : List Row) → MeetRows new o → EditMeets o (add_rows new)
rows_meet o [] meet = if_unchanged o
rows_meet o (row ∷ rest) meet = if_changed o _ (omega arith, meet)

-- the new rows of an import that is granted meet what they need
pub if_import : (o : Office) (today : ℕ) (rows : List Row) → IsOffice o → All IsRow rows
    → EditMeets o (import o today rows)
if_import o today rows office are =
    after_test (EditMeets o) (new_rows o today 1 rows) add_rows (λ refusal. tt)
    (λ new e. rows_meet o new (new_rows_meet o today 1 rows new office are e))
