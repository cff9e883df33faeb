-- The edit of a granted request fits the office: its meter's tariff is there, its identifier is in
-- range, and there is room.
use Rattle.std.proofs.Common.{◌≡◌, ℕ, ◌≤◌, Bool, true, false, List, [], ◌∷◌, Option, Some, None, Result, Ok, Err, IsSome, is_some, length, nat_lt, refl, sym, ap, subst, inl, inr, arith, ◌⊎◌}
use Rattle.std.proofs.lemmas.Bool.Decides.{nat_tests}
use Rattle.std.proofs.lemmas.Option.{none-some, same_Some}
use Rattle.sts_fields.specs.Tid.{fresh_after, last_tid}
use Rattle.sts_fields.specs.Day.{day_at}
use Rattle.tariff.specs.declared.step.Step.{Step}
use Rattle.office_rules.specs.Decision.{MeterAccount, add_rows, add_steps, add_tariff, decision, decision_of, import, is_new, new_rows, account_of, sell, added_if_later}
use Rattle.office_rules.specs.Decision.Facts.{IsUnlessMemory, TakesMemory}
use Rattle.vend_core.specs.Lists.{AddsRow, CopiesList, Fits, sets_only}
use Rattle.office_rules.specs.Decision.Edits.{RowsFit}
use Rattle.office_rules.specs.Office.Lookup.{open_shift}
use Rattle.office_rules.specs.Office.{Office}
use Rattle.office_rules.specs.declared.decision.change.Change.{Change}
use Rattle.office_rules.specs.declared.decision.change.Edit.{Edit}
use Rattle.office_rules.specs.declared.decision.refusal.Refusal.{Refusal}
use Rattle.office_rules.specs.declared.decision.request.Order.{Order}
use Rattle.office_rules.specs.declared.decision.request.Request.{Request}
use Rattle.office_rules.specs.declared.decision.request.Request.TheVariants.{AddTariff, AddSteps, WithdrawSteps, AddMeter, Import, SetTariff, MoveBase, SetKey, OpenShift, CloseShift, Sell, Reprint, ShiftReport}
use Rattle.office_rules.specs.declared.decision.request.Stamped.{Stamped}
use Rattle.office_rules.specs.declared.decision.change.Edit.TheVariants as edits
use Rattle.office_rules.specs.declared.office.row.Row.{Row}
use Rattle.office_rules.specs.declared.office.shift.Shift.{Shift}
use Rattle.office_rules.specs.declared.office.sale.Sale.{Sale}
use Rattle.office_rules.proofs.DecisionLemmas.{after_test, sale_change, sell_ok}
use Rattle.office_rules.proofs.DecisionLemmas.ImportLemmas.{new_rows_fit}
use Rattle.vend_core.proofs.LawLemmas.DecidedLemmas.{Each, by_decision, same_sale}

-- the edit of a granted request, where there is one, fits
abbrev pub EditFits : Office → Result Change Refusal → Type 0
EditFits o (Ok change) = (edit : Edit) → change.edit ≡ Some edit → Fits edit o
EditFits o (Err refusal) = Unit {0}

if_unchanged : (o : Office) (edit : Edit) → ◌≡◌ {A = Option Edit} None (Some edit) → Fits edit o
if_unchanged o edit is = absurd (none-some edit is)

if_changed : (o : Office) (e : Edit) → Fits e o → (edit : Edit) → Some e ≡ Some edit → Fits edit o
if_changed o e fits edit is = subst (λ (k : Edit). Fits k o) (same_Some e edit is) fits

if_rows : (o : Office) (new : List Row) → RowsFit new o → EditFits o (add_rows new)
if_rows o [] fits = if_unchanged o
if_rows o (row ∷ rest) fits = if_changed o _ fits

if_import : (o : Office) (today : ℕ) (rows : List Row) → EditFits o (import o today rows)
if_import o today rows =
    after_test (EditFits o) (new_rows o today 1 rows) add_rows (λ refusal. tt)
    (λ new is. if_rows o new (new_rows_fit o today 1 rows new is))

-- an identifier is given only within its range, and a sale only where there is room
in_range : (now : ℕ) (last : Option ℕ) (tid : ℕ) → fresh_after now last ≡ Ok tid → tid ≤ last_tid
in_range now last tid is = grind (arith, nat_tests)

sale_fits : (o : Office) (forward : ℕ → ℕ → ℕ) (moment nibble : ℕ) (order : Order) (shift : Option Shift) (meter : Option MeterAccount) (s : Sale)
    → sell forward moment nibble order shift meter (length o.sales) ≡ Ok (sale_change s) → Fits (edits.AddSale s) o
sale_fits o forward moment nibble order shift meter s e =
    let sold = sell_ok forward moment nibble order shift meter (length o.sales) (sale_change s) e in
    let same = same_sale s _ sold.change_is in
    (subst (λ tid. tid ≤ last_tid) (sym (ap (λ (t : Sale). t.tid) same)) (in_range sold.now sold.facts.last sold.tid sold.fresh_is), sold.room)

fits_each : (forward : ℕ → ℕ → ℕ) (o : Office) (moment nibble : ℕ) (request : Request) → Each (EditFits o) o forward moment nibble request
fits_each forward o moment nibble (AddTariff name steps) = λ free. if_changed o _ tt
fits_each forward o moment nibble (AddSteps name day steps) = λ free later. if_changed o _ tt
fits_each forward o moment nibble (WithdrawSteps name day) = λ later. if_changed o _ tt
fits_each forward o moment nibble (AddMeter number m) = λ free has. if_changed o _ has
fits_each forward o moment nibble (Import rows) = if_import o (day_at moment) rows
fits_each forward o moment nibble (SetTariff number name) = λ has. if_changed o _ has
fits_each forward o moment nibble (MoveBase number base) = if_changed o _ tt
fits_each forward o moment nibble (SetKey number key) = if_changed o _ tt
fits_each forward o moment nibble (OpenShift operator) = λ s number. if_changed o _ tt
fits_each forward o moment nibble (CloseShift operator) = λ s. if_changed o _ tt
fits_each forward o moment nibble (Sell order) = λ s sold.
    if_changed o _ (sale_fits o forward moment nibble order (open_shift o order.operator) (account_of o order.meter moment) s sold)
fits_each forward o moment nibble (Reprint number) = tt
fits_each forward o moment nibble (ShiftReport number) = tt

-- whatever is requested, the edit of the decision fits the office
pub decision_fits : (forward : ℕ → ℕ → ℕ) (o : Office) (moment nibble : ℕ) (request : Request) → EditFits o (decision_of forward o moment nibble request)
decision_fits forward o moment nibble request =
    by_decision (EditFits o) o (λ refusal own. tt) (λ answer stand. if_unchanged o) forward moment nibble request
    (fits_each forward o moment nibble request)

-- the edit of a request that was decided fits
pub fits_if_decided : (forward : ℕ → ℕ → ℕ) (o : Office) (at : Stamped) (change : Change) (edit : Edit)
    → IsUnlessMemory (Ok change) (decision forward o at) → change.edit ≡ Some edit → Fits edit o
fits_if_decided forward o at change edit (inl is) edits =
    subst (EditFits o) (sym is) (decision_fits forward o at.moment at.nibble at.request) edit edits
fits_if_decided forward o at change edit (inr is) edits = cc

-- an edit that was decided, and that does more than set a row, adds one
adds_if_not_set : (edit : Edit) (b : Bool) → b ≡ sets_only edit → (sets_only edit ≡ true → ⊥) → sets_only edit ≡ false
adds_if_not_set edit true is sets_not = absurd (sets_not (sym is))
adds_if_not_set edit false is sets_not = sym is

-- an edit that was decided and does not only set a row is one that adds a row
pub adds_if_decided : (forward : ℕ → ℕ → ℕ) (o : Office) (at : Stamped) (change : Change) (edit : Edit)
    → IsUnlessMemory (Ok change) (decision forward o at) → change.edit ≡ Some edit → (sets_only edit ≡ true → ⊥) → AddsRow (decision forward o at)
adds_if_decided forward o at change edit (inl is) edits sets_not =
    subst AddsRow is (edit, edits, adds_if_not_set edit (sets_only edit) refl sets_not)
adds_if_decided forward o at change edit (inr is) edits sets_not = cc

-- ---- want of memory

room_for_tariff : (name : List ℕ) (steps : List Step) (there : Option (List Step)) → is_new (add_tariff name steps there) ≡ Ok true
    → IsSome there ⊎ AddsRow (add_tariff name steps there)
room_for_tariff name steps None new = inr (edits.AddTariff name steps, refl, refl)
room_for_tariff name steps (Some there) new = inl refl

room_for_day : (name : List ℕ) (day : ℕ) (steps : List Step) (later : Bool)
    → is_new (added_if_later name day steps later) ≡ Ok true
    → AddsRow (added_if_later name day steps later)
room_for_day name day steps true new = (edits.AddSteps name day steps, refl, refl)
room_for_day name day steps false new = cc

room_for_steps : (name : List ℕ) (day : ℕ) (steps : List Step) (today : ℕ) (tariff there : Option (List Step))
    → is_new (add_steps name day steps today (is_some tariff) there) ≡ Ok true
    → (IsSome tariff × IsSome there) ⊎ AddsRow (add_steps name day steps today (is_some tariff) there)
room_for_steps name day steps today None there new = cc
room_for_steps name day steps today (Some first) (Some there) new = inl (refl, refl)
room_for_steps name day steps today (Some first) None new = inr (room_for_day name day steps (nat_lt today day) new)

-- what takes memory to be decided copies a list, or adds a row
pub room_if_taken : (forward : ℕ → ℕ → ℕ) (o : Office) (moment nibble : ℕ) (request : Request) → TakesMemory o moment request
    → CopiesList o moment request ⊎ AddsRow (decision_of forward o moment nibble request)
room_if_taken forward o moment nibble (AddTariff name steps) takes = room_for_tariff name steps (o.tariffs name) takes
room_if_taken forward o moment nibble (AddSteps name day steps) takes =
    room_for_steps name day steps (day_at moment) (o.tariffs name) (o.dated_steps name day) takes
room_if_taken forward o moment nibble (WithdrawSteps name day) takes = absurd takes
room_if_taken forward o moment nibble (AddMeter number m) takes = absurd takes
room_if_taken forward o moment nibble (Import rows) takes = inl tt
room_if_taken forward o moment nibble (SetTariff number name) takes = absurd takes
room_if_taken forward o moment nibble (MoveBase number base) takes = absurd takes
room_if_taken forward o moment nibble (SetKey number key) takes = absurd takes
room_if_taken forward o moment nibble (OpenShift operator) takes = absurd takes
room_if_taken forward o moment nibble (CloseShift operator) takes = absurd takes
room_if_taken forward o moment nibble (Sell order) takes = absurd takes
room_if_taken forward o moment nibble (Reprint number) takes = absurd takes
room_if_taken forward o moment nibble (ShiftReport number) takes = inl takes
