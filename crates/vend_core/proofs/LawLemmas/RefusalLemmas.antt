-- The rules refuse for reasons of the request's own: never for memory, for the store, or because
-- the office stopped.
use Rattle.std.proofs.Common.{◌≡◌, ◌≢◌, ℕ, ◌+◌, true, false, List, [], ◌∷◌, Result, Ok, Err, refl, sym, ◌∙◌, ap}
use Rattle.std.proofs.lemmas.Bool.{false≢true}
use Rattle.sts_fields.specs.Day.{day_at}
use Rattle.office_rules.specs.Decision.{◌>>=◌, add_rows, at_row, import, new_rows, row_decision}
use Rattle.office_rules.specs.Decision.Fold.{reply, reply_of}
use Rattle.vend_core.specs.Law.Life.{acknowledges}
use Rattle.office_rules.specs.Office.{Office}
use Rattle.office_rules.specs.Decision.Edits.{office_after}
use Rattle.office_rules.specs.declared.decision.change.Change.{Change}
use Rattle.office_rules.specs.declared.decision.refusal.Refusal.{Refusal}
use Rattle.office_rules.specs.declared.decision.refusal.Refusal.TheVariants as refusals
use Rattle.office_rules.specs.declared.decision.request.Request.{Request}
use Rattle.office_rules.specs.declared.decision.request.Request.TheVariants as requests
use Rattle.office_rules.specs.declared.decision.request.Stamped.{Stamped}
use Rattle.office_rules.specs.declared.office.row.Row.{Row}
use Rattle.office_rules.specs.declared.office.row.Row.TheVariants as kinds
use Rattle.vend_core.proofs.LawLemmas.DecidedLemmas.{Each, EachRow, IsOwn, by_decision, by_row}

-- a row that is granted is granted, and a refusal is the row's own
own_each_row : (o : Office) (today : ℕ) (row : Row) → EachRow IsOwn o today row
own_each_row o today (kinds.Tariff name steps) = λ free. refl
own_each_row o today (kinds.Steps name day steps) = λ free later. refl
own_each_row o today (kinds.Meter number m) = λ free has. refl

own_row : (o : Office) (today : ℕ) (row : Row) → IsOwn (row_decision o today row)
own_row o today row = by_row IsOwn o (λ refusal own. own) (λ answer stand. refl) today row (own_each_row o today row)

own_at_row : (number : ℕ) (r : Result Change Refusal) → IsOwn r → IsOwn (at_row number r)
own_at_row number (Ok change) own = refl
own_at_row number (Err refusals.Differs) own = refl
own_at_row number (Err refusals.NoTariff) own = refl
own_at_row number (Err refusals.DayPast) own = refl
own_at_row number (Err refusal) own = own

-- a refusal, where there is one, is the request's own
abbrev RefusesOwn : {A : Type 0} → Result A Refusal → Type 0
RefusesOwn {A} r = (refusal : Refusal) → r ≡ Err refusal → IsOwn (Err refusal)

own_after : {A B : Type 0} (r : Result A Refusal) (f : A → Result B Refusal) → RefusesOwn r → ((x : A) → RefusesOwn (f x)) → RefusesOwn (r >>= f)
own_after (Ok x) f own rest = rest x
own_after (Err e) f own rest = λ refusal is. own refusal cc

own_refusal : (r : Result Change Refusal) → IsOwn r → RefusesOwn r
own_refusal r own refusal is = ap (λ q. acknowledges (reply_of q)) (sym is) ∙ own

own_new_rows : (o : Office) (today number : ℕ) (rows : List Row) → RefusesOwn (new_rows o today number rows)
own_new_rows o today number [] = λ refusal is. cc
own_new_rows o today number (row ∷ rest) =
    own_after (at_row number (row_decision o today row)) _
    (own_refusal (at_row number (row_decision o today row)) (own_at_row number (row_decision o today row) (own_row o today row)))
    (λ change. own_after (new_rows (office_after o (Ok change)) today (number + 1) rest) _
    (own_new_rows (office_after o (Ok change)) today (number + 1) rest) (λ new refusal is. cc))

own_rows : (new : List Row) → IsOwn (add_rows new)
own_rows [] = refl
own_rows (row ∷ rest) = refl

own_added : (r : Result (List Row) Refusal) → RefusesOwn r → IsOwn (r >>= add_rows)
own_added (Ok new) own = own_rows new
own_added (Err refusal) own = own refusal refl

own_import : (o : Office) (today : ℕ) (rows : List Row) → IsOwn (import o today rows)
own_import o today rows = own_added (new_rows o today 1 rows) (own_new_rows o today 1 rows)

own_each : (forward : ℕ → ℕ → ℕ) (o : Office) (moment nibble : ℕ) (request : Request) → Each IsOwn o forward moment nibble request
own_each forward o moment nibble (requests.AddTariff name steps) = λ free. refl
own_each forward o moment nibble (requests.AddSteps name day steps) = λ free later. refl
own_each forward o moment nibble (requests.WithdrawSteps name day) = λ later. refl
own_each forward o moment nibble (requests.AddMeter number m) = λ free has. refl
own_each forward o moment nibble (requests.Import rows) = own_import o (day_at moment) rows
own_each forward o moment nibble (requests.SetTariff number name) = λ has. refl
own_each forward o moment nibble (requests.MoveBase number base) = refl
own_each forward o moment nibble (requests.SetKey number key) = refl
own_each forward o moment nibble (requests.OpenShift operator) = λ s number. refl
own_each forward o moment nibble (requests.CloseShift operator) = λ s. refl
own_each forward o moment nibble (requests.Sell order) = λ s sold. refl
own_each forward o moment nibble (requests.Reprint number) = tt
own_each forward o moment nibble (requests.ShiftReport number) = tt

-- each reply of the rules is a grant or a refusal for a reason of the request's own
pub own_reply : (forward : ℕ → ℕ → ℕ) (o : Office) (at : Stamped) → acknowledges (reply forward o at) ≡ true
own_reply forward o at =
    by_decision IsOwn o (λ refusal own. own) (λ answer stand. refl) forward at.moment at.nibble at.request
    (own_each forward o at.moment at.nibble at.request)

-- so the rules never tell that memory is short, the store failed or the office stopped
pub never_answers : (forward : ℕ → ℕ → ℕ) (o : Office) (at : Stamped) (refusal : Refusal) → acknowledges (Err refusal) ≡ false
    → reply forward o at ≢ Err refusal
never_answers forward o at refusal own e = false≢true (sym own ∙ ap acknowledges (sym e) ∙ own_reply forward o at)
