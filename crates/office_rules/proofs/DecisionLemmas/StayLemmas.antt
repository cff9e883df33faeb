-- Tariffs and meters stay as they are, whatever is asked, but for SetTariff and MoveBase.
use Rattle.std.proofs.Common.{◌≡◌, ℕ, Bool, true, false, List, Option, Some, None, Err, is_some, refl, ◌∙◌, ap, arith}
use Rattle.std.specs.Prelude.{◌&&◌, ◌==◌, bytes_eq, nat_lt, if◌then◌else◌}
use Rattle.std.proofs.lemmas.Bool.Decides.{nat_tests}
use Rattle.std.proofs.lemmas.Slice.Eq.{bytes_eq-Decides}
use Rattle.tariff.specs.declared.step.Step.{Step}
use Rattle.office_rules.specs.Decision.{add_meter, add_steps, add_tariff, meter_eq, row_decision, steps_eq, unchanged, added_if_later}
use Rattle.office_rules.specs.Decision.Edits.{office_after}
use Rattle.office_rules.specs.Law.Growth.{HaveStayed, TariffsStay}
use Rattle.office_rules.specs.Office.{Office}
use Rattle.office_rules.specs.declared.decision.answer.Answer.{Answer}
use Rattle.office_rules.specs.declared.office.meter.Meter.{Meter}
use Rattle.office_rules.specs.declared.decision.refusal.Refusal.{Refusal}
use Rattle.office_rules.specs.declared.decision.refusal.Refusal.TheVariants as refusals
use Rattle.office_rules.specs.declared.office.row.Row.{Row}
use Rattle.office_rules.specs.declared.office.row.Row.TheVariants as kinds

-- tariffs stay where the office does not change
pub tariffs_stay_none : (o : Office) → TariffsStay o o
tariffs_stay_none o = record { first = λ name steps at. at; dated = λ name day steps at. at }

-- tariffs that stay over one change and over the next stay over both
pub tariffs_stay_twice : (o p q : Office) → TariffsStay o p → TariffsStay p q → TariffsStay o q
tariffs_stay_twice o p q first next = record {
  first = λ name steps at. next.first name steps (first.first name steps at);
  dated = λ name day steps at. next.dated name day steps (first.dated name day steps at);
}

-- tariffs and meters stay where the office does not change
pub stayed_none : (o : Office) → HaveStayed o o
stayed_none o = record { tariffs = tariffs_stay_none o; meters = λ number m at. at }

-- tariffs and meters that stay over one change and over the next stay over both
pub stayed_twice : (o p q : Office) → HaveStayed o p → HaveStayed p q → HaveStayed o q
stayed_twice o p q first next = record {
  tariffs = tariffs_stay_twice o p q first.tariffs next.tariffs;
  meters = λ number m at. next.meters number m (first.meters number m at);
}

-- a row that is put where there is none leaves the others
pub put_beside : {A : Type 0} (b : Bool) (q name : List ℕ) (x y : A) (rows : List ℕ → Option A) → bytes_eq q name ≡ b → rows name ≡ None
    → rows q ≡ Some y → (if b then Some x else rows q) ≡ Some y
put_beside true q name x y rows is none at = let here : rows q ≡ rows name = ap rows ((bytes_eq-Decides q name).0 is) in cc
put_beside false q name x y rows is none at = at

-- they stay where a test decides between no change and a refusal
pub stayed_if : (o : Office) (b : Bool) (answer : Answer) (refusal : Refusal) → HaveStayed o (office_after o (if b then unchanged answer else Err refusal))
stayed_if o true answer refusal = stayed_none o
stayed_if o false answer refusal = stayed_none o

-- they stay when a tariff is added, is refused, or stands there already
pub stayed_by_tariff : (o : Office) (name : List ℕ) (steps : List Step) (there : Option (List Step)) → o.tariffs name ≡ there
    → HaveStayed o (office_after o (add_tariff name steps there))
stayed_by_tariff o name steps None none = record {
  tariffs = record {
    first = λ q s at. put_beside (bytes_eq q name) q name steps s o.tariffs refl none at;
    dated = λ q day s at. at;
  };
  meters = λ number m at. at;
}
stayed_by_tariff o name steps (Some there) at = stayed_if o (steps_eq there steps) _ _

-- the same of steps under a name and a first day
steps_beside : (n k : Bool) (q name : List ℕ) (d day : ℕ) (x y : List Step) (rows : List ℕ → ℕ → Option (List Step)) → bytes_eq q name ≡ n
    → (d == day) ≡ k → rows name day ≡ None → rows q d ≡ Some y → (if n && k then Some x else rows q d) ≡ Some y
steps_beside true true q name d day x y rows named is none at =
    let same : d ≡ day = grind (arith, nat_tests) in
    let here : rows q d ≡ rows name day = ap (λ (n : List ℕ). rows n d) ((bytes_eq-Decides q name).0 named) ∙ ap (rows name) same in
    cc
steps_beside true false q name d day x y rows named is none at = at
steps_beside false k q name d day x y rows named is none at = at

stayed_by_day : (o : Office) (name : List ℕ) (day : ℕ) (steps : List Step) (b : Bool) → o.dated_steps name day ≡ None
    → HaveStayed o (office_after o (added_if_later name day steps b))
stayed_by_day o name day steps true none = record {
  tariffs = record {
    first = λ q s at. at;
    dated = λ q d s at. steps_beside (bytes_eq q name) (d == day) q name d day steps s o.dated_steps refl refl none at;
  };
  meters = λ number m at. at;
}
stayed_by_day o name day steps false none = stayed_none o

-- the same when further steps are added, are refused, or stand there already
pub stayed_by_steps : (o : Office) (name : List ℕ) (day today : ℕ) (steps : List Step) (has : Bool) (there : Option (List Step))
    → o.dated_steps name day ≡ there → HaveStayed o (office_after o (add_steps name day steps today has there))
stayed_by_steps o name day today steps false there at = stayed_none o
stayed_by_steps o name day today steps true (Some there) at = stayed_if o (steps_eq there steps) _ _
stayed_by_steps o name day today steps true None none = stayed_by_day o name day steps (nat_lt today day) none

-- the same when a meter is added, is refused, or stands there already
pub stayed_by_meter : (o : Office) (number : List ℕ) (m : Meter) (there : Option Meter) (has : Bool) → o.meters number ≡ there
    → HaveStayed o (office_after o (add_meter number m there has))
stayed_by_meter o number m (Some there) has at = stayed_if o (meter_eq there m) _ _
stayed_by_meter o number m None false none = stayed_none o
stayed_by_meter o number m None true none = record {
  tariffs = record { first = λ name steps at. at; dated = λ name day steps at. at };
  meters = λ q k at. put_beside (bytes_eq q number) q number m k o.meters refl none at;
}

-- they stay whatever row is decided on
pub stayed_by_row : (o : Office) (today : ℕ) (row : Row) → HaveStayed o (office_after o (row_decision o today row))
stayed_by_row o today (kinds.Tariff name steps) = stayed_by_tariff o name steps (o.tariffs name) refl
stayed_by_row o today (kinds.Steps name day steps) = stayed_by_steps o name day today steps (is_some (o.tariffs name)) (o.dated_steps name day) refl
stayed_by_row o today (kinds.Meter number m) = stayed_by_meter o number m (o.meters number) (is_some (o.tariffs m.tariff)) refl

-- a row that differs from what the office has differs from it later too
differs_tariff : (name : List ℕ) (steps : List Step) (there later : Option (List Step))
    → ((s : List Step) → there ≡ Some s → later ≡ Some s) → add_tariff name steps there ≡ Err refusals.Differs
    → add_tariff name steps later ≡ Err refusals.Differs
differs_tariff name steps None later stays e = cc
differs_tariff name steps (Some there) later stays e = ap (add_tariff name steps) (stays there refl) ∙ e

differs_meter : (number : List ℕ) (m : Meter) (there later : Option Meter) (has had : Bool)
    → ((k : Meter) → there ≡ Some k → later ≡ Some k) → add_meter number m there has ≡ Err refusals.Differs → add_meter number m later had
    ≡ Err refusals.Differs
differs_meter number m None later true had stays e = cc
differs_meter number m None later false had stays e = cc
differs_meter number m (Some there) later has had stays e = ap (λ k. add_meter number m k had) (stays there refl) ∙ e

-- if something was there, and what was there stays, something is there later
pub still_there : {A : Type 0} (there later : Option A) → ((x : A) → there ≡ Some x → later ≡ Some x) → is_some there ≡ true → is_some later ≡ true
still_there None later stays e = cc
still_there (Some x) later stays e = ap is_some (stays x refl)

differs_steps : (name : List ℕ) (day today : ℕ) (steps : List Step) (has had : Bool) (there later : Option (List Step))
    → (has ≡ true → had ≡ true) → ((s : List Step) → there ≡ Some s → later ≡ Some s) → add_steps name day steps today has there
    ≡ Err refusals.Differs → add_steps name day steps today had later ≡ Err refusals.Differs
differs_steps name day today steps false had there later has_still stays e = cc
differs_steps name day today steps true had (Some there) later has_still stays e =
    ap (λ (l : Option (List Step)). add_steps name day steps today had l) (stays there refl)
    ∙ ap (λ (b : Bool). add_steps name day steps today b (Some there)) (has_still refl) ∙ e
differs_steps name day today steps true had None later has_still stays e = absurd (not_differs (nat_lt today day) e)
  where
    not_differs : (b : Bool) → added_if_later name day steps b ≡ Err refusals.Differs → ⊥
    not_differs true e = cc
    not_differs false e = cc

-- a row of any kind that is refused as differing is refused so in the later office
pub differs_still : (o p : Office) (today : ℕ) (row : Row) → HaveStayed o p → row_decision o today row ≡ Err refusals.Differs
    → row_decision p today row ≡ Err refusals.Differs
differs_still o p today (kinds.Tariff name steps) stayed e = differs_tariff name steps (o.tariffs name) (p.tariffs name) (stayed.tariffs.first name) e
differs_still o p today (kinds.Steps name day steps) stayed e =
    differs_steps name day today steps (is_some (o.tariffs name)) (is_some (p.tariffs name)) (o.dated_steps name day) (p.dated_steps name day)
    (still_there (o.tariffs name) (p.tariffs name) (stayed.tariffs.first name)) (stayed.tariffs.dated name day) e
differs_still o p today (kinds.Meter number m) stayed e =
    differs_meter number m (o.meters number) (p.meters number) (is_some (o.tariffs m.tariff)) (is_some (p.tariffs m.tariff)) (stayed.meters number) e
