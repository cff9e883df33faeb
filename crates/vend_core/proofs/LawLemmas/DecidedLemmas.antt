-- What holds of each refusal for a reason of the request's own, of each answer that changes nothing
-- and of each change that is asked for holds of every decision.
use Rattle.std.proofs.Common.{◌≡◌, ℕ, ◌+◌, Bool, true, false, List, [], ◌∷◌, Option, Some, None, Result, Ok, Err, length, refl, sym, ◌∙◌, ap, subst}
use Rattle.std.specs.Prelude.{◌&&◌, ◌==◌, All, Contains, IsSome, bytes_eq, if◌then◌else◌, is_some, nat_lt, not}
use Rattle.std.specs.Option.{ok_or}
use Rattle.std.proofs.lemmas.List.Elements.{All-contains_itself, All-cons, All-filter, All-nil}
use Rattle.sts_fields.specs.Base.{base_date, base_eq}
use Rattle.sts_fields.specs.Day.{day_at}
use Rattle.sts_fields.specs.Tid.{fresh_after, minute_of}
use Rattle.sts_fields.specs.declared.base.Base.{Base}
use Rattle.sts_fields.specs.declared.fault.TidFault.{TidFault}
use Rattle.sts_fields.specs.declared.fault.TidFault.TheVariants.{BeforeBase, PastEnd, IdentifiersSpent, IdentifierAhead}
use Rattle.tariff.specs.Purchase.{purchase_of}
use Rattle.tariff.specs.declared.step.Step.{Step}
use Rattle.office_rules.specs.Decision.{◌>>=◌, MeterAccount, account_of, add_meter, add_steps, add_tariff, changed, close_shift, decision_of, import, is_earlier, meter_eq, move_base, open_a_shift, or_refusal, report, reprint, row_decision, sell, sell_once, set_key, set_tariff, steps_eq, unchanged, withdraw_steps}
use Rattle.office_rules.specs.Decision.Fold.{reply_of}
use Rattle.office_rules.specs.Law.Handed.{sales_in}
use Rattle.office_rules.specs.Office.Lookup.{has_sales, open_shift, sale_numbered, sale_of_ref, sales_of_shift, shift_numbered, sold_since}
use Rattle.office_rules.specs.Office.{Office, greatest_count}
use Rattle.vend_core.specs.Law.Life.{acknowledges}
use Rattle.office_rules.specs.declared.decision.answer.Answer.{Answer}
use Rattle.office_rules.specs.declared.decision.answer.Answer.TheVariants as answers
use Rattle.office_rules.specs.declared.decision.change.Change.{Change}
use Rattle.office_rules.specs.declared.decision.change.Edit.{Edit}
use Rattle.office_rules.specs.declared.decision.change.Edit.TheVariants as edits
use Rattle.office_rules.specs.declared.decision.refusal.Refusal.{Refusal}
use Rattle.office_rules.specs.declared.decision.refusal.Refusal.TheVariants as refusals
use Rattle.office_rules.specs.declared.decision.request.Order.{Order}
use Rattle.office_rules.specs.declared.decision.request.Request.{Request}
use Rattle.office_rules.specs.declared.decision.request.Request.TheVariants as requests
use Rattle.office_rules.specs.declared.office.meter.Meter.{Meter}
use Rattle.office_rules.specs.declared.office.row.Row.{Row}
use Rattle.office_rules.specs.declared.office.row.Row.TheVariants as kinds
use Rattle.office_rules.specs.declared.office.sale.Sale.{Sale}
use Rattle.office_rules.specs.declared.office.shift.Shift.{Shift}
use Rattle.office_rules.proofs.DecisionLemmas.{sale_change, sell_ok}
use Rattle.office_rules.proofs.OfficeLemmas.RowLemmas.{found, parts_true}

-- changes that add a sale and answer with it are the same for the same sale alone
pub same_sale : (s t : Sale) → sale_change s ≡ sale_change t → s ≡ t
same_sale s t e = same_answer s t (ap (λ (c : Change). c.answer) e)
  where
    same_answer : (s t : Sale) → ◌≡◌ {A = Answer} (answers.Sold s) (answers.Sold t) → s ≡ t
    same_answer s t e = cc

-- the decision is granted, or refused for a reason of the request's own
abbrev pub IsOwn : Result Change Refusal → Type 0
IsOwn r = acknowledges (reply_of r) ≡ true

-- so it is through each test of a sale
own_there : {A : Type 0} (o : Option A) (refusal : Refusal) (f : A → Result Change Refusal) → IsOwn (Err refusal) → ((x : A) → IsOwn (f x))
    → IsOwn (ok_or o refusal >>= f)
own_there None refusal f own rest = own
own_there (Some x) refusal f own rest = rest x

own_minute : {A : Type 0} (r : Result A TidFault) (f : A → Result Change Refusal) → ((x : A) → IsOwn (f x)) → IsOwn (or_refusal r >>= f)
own_minute (Ok x) f rest = rest x
own_minute (Err BeforeBase) f rest = refl
own_minute (Err PastEnd) f rest = refl
own_minute (Err IdentifiersSpent) f rest = refl
own_minute (Err IdentifierAhead) f rest = refl

-- what holds where a number is had, and where there is no room for one
by_room : (P : Result Change Refusal → Type 0) (count : ℕ) (b : Bool) (f : ℕ → Result Change Refusal) → P (Err refusals.OfficeFull)
    → ((x : ℕ) → P (f x)) → P ((if b then Ok (count + 1) else Err refusals.OfficeFull) >>= f)
by_room P count true f full rest = rest (count + 1)
by_room P count false f full rest = full

own_sale : (forward : ℕ → ℕ → ℕ) (moment nibble : ℕ) (order : Order) (shift : Option Shift) (meter : Option MeterAccount) (count : ℕ)
    → IsOwn (sell forward moment nibble order shift meter count)
own_sale forward moment nibble order shift meter count =
    own_there shift refusals.NoShift _ refl (λ s. own_there meter refusals.NoMeter _ refl (λ m.
    own_minute (minute_of m.meter.base moment) _ (λ now. own_minute (fresh_after now m.last) _ (λ tid.
    own_there (purchase_of m.steps m.prior order.tender) refusals.TooLittle _ refl (λ buy.
    by_room IsOwn count (nat_lt count greatest_count) _ refl (λ number. refl))))))

module _ (P : Result Change Refusal → Type 0) (o : Office) where
  -- P holds of the change that a row asks for, where the row is new and fits
  abbrev pub EachRow : ℕ → Row → Type 0
  EachRow today (kinds.Tariff name steps) = o.tariffs name ≡ None → P (changed (edits.AddTariff name steps) answers.Done)
  EachRow today (kinds.Steps name day steps) =
      o.dated_steps name day ≡ None → nat_lt today day ≡ true → P (changed (edits.AddSteps name day steps) answers.Done)
  EachRow today (kinds.Meter number m) =
      o.meters number ≡ None → IsSome (o.tariffs m.tariff) → P (changed (edits.AddMeter number m) answers.Done)

  -- P holds of the change that a request asks for; of an import it holds whatever comes of it
  abbrev pub Each : (ℕ → ℕ → ℕ) → ℕ → ℕ → Request → Type 0
  Each forward moment nibble (requests.AddTariff name steps) = EachRow (day_at moment) (kinds.Tariff name steps)
  Each forward moment nibble (requests.AddSteps name day steps) = EachRow (day_at moment) (kinds.Steps name day steps)
  Each forward moment nibble (requests.WithdrawSteps name day) =
      nat_lt (day_at moment) day ≡ true → P (changed (edits.WithdrawSteps name day) (answers.Withdrawn 1))
  Each forward moment nibble (requests.AddMeter number m) = EachRow (day_at moment) (kinds.Meter number m)
  Each forward moment nibble (requests.Import rows) = P (import o (day_at moment) rows)
  Each forward moment nibble (requests.SetTariff number name) = IsSome (o.tariffs name) → P (changed (edits.SetTariff number name) answers.Done)
  Each forward moment nibble (requests.MoveBase number base) = P (changed (edits.MoveBase number base) answers.Done)
  Each forward moment nibble (requests.SetKey number key) = P (changed (edits.SetKey number key) answers.Done)
  Each forward moment nibble (requests.OpenShift operator) = (s : Shift) (number : ℕ) → P (changed (edits.OpenShift s) (answers.Opened number))
  Each forward moment nibble (requests.CloseShift operator) = (s : Shift) → P (changed (edits.CloseShift s.number moment) (answers.Closed s.number))
  Each forward moment nibble (requests.Sell order) = (s : Sale)
      → sell forward moment nibble order (open_shift o order.operator) (account_of o order.meter moment) (length o.sales) ≡ Ok (sale_change s)
      → P (Ok (sale_change s))
  Each forward moment nibble request = Unit {0}

  module _ (refused : (refusal : Refusal) → IsOwn (Err refusal) → P (Err refusal))
      (granted : (answer : Answer) → All (Contains o.sales) (sales_in answer) → P (unchanged answer)) where
    no_sale : All (Contains o.sales) []
    no_sale = All-nil (Contains o.sales)

    one_sale : (s : Sale) → Contains o.sales s → All (Contains o.sales) (s ∷ [])
    one_sale s there = All-cons (Contains o.sales) s [] there no_sale

    -- a test between an answer and a refusal, between no change and more, between a refusal and more
    by_test : (b : Bool) (answer : Answer) (refusal : Refusal) → All (Contains o.sales) (sales_in answer) → IsOwn (Err refusal)
        → P (if b then unchanged answer else Err refusal)
    by_test true answer refusal stand own = granted answer stand
    by_test false answer refusal stand own = refused refusal own

    by_kept : (b : Bool) (r : Result Change Refusal) → P r → P (if b then unchanged answers.Done else r)
    by_kept true r rest = granted answers.Done no_sale
    by_kept false r rest = rest

    by_bar : (b : Bool) (refusal : Refusal) (r : Result Change Refusal) → IsOwn (Err refusal) → P r → P (if b then Err refusal else r)
    by_bar true refusal r own rest = refused refusal own
    by_bar false refusal r own rest = rest

    by_day : (b : Bool) (edit : Edit) (answer : Answer) → (b ≡ true → P (changed edit answer)) → P (if b then changed edit answer else Err refusals.DayPast)
    by_day true edit answer each = each refl
    by_day false edit answer each = refused refusals.DayPast refl

    by_tariff : (name : List ℕ) (steps : List Step) (there : Option (List Step)) → (there ≡ None → P (changed (edits.AddTariff name steps) answers.Done))
        → P (add_tariff name steps there)
    by_tariff name steps None each = each refl
    by_tariff name steps (Some there) each = by_test (steps_eq there steps) answers.Done refusals.Differs no_sale refl

    by_steps : (name : List ℕ) (day today : ℕ) (steps : List Step) (has : Bool) (there : Option (List Step))
        → (there ≡ None → nat_lt today day ≡ true → P (changed (edits.AddSteps name day steps) answers.Done))
        → P (add_steps name day steps today has there)
    by_steps name day today steps false there each = refused refusals.NoTariff refl
    by_steps name day today steps true (Some there) each = by_test (steps_eq there steps) answers.Done refusals.Differs no_sale refl
    by_steps name day today steps true None each = by_day (nat_lt today day) (edits.AddSteps name day steps) answers.Done (each refl)

    by_meter : (number : List ℕ) (m : Meter) (there : Option Meter) (has : Bool)
        → (there ≡ None → has ≡ true → P (changed (edits.AddMeter number m) answers.Done)) → P (add_meter number m there has)
    by_meter number m (Some there) has each = by_test (meter_eq there m) answers.Done refusals.Differs no_sale refl
    by_meter number m None true each = each refl refl
    by_meter number m None false each = refused refusals.NoTariff refl

    -- what holds of refusals, of answers and of the change that a row asks for holds of its decision
    pub by_row : (today : ℕ) (row : Row) → EachRow today row → P (row_decision o today row)
    by_row today (kinds.Tariff name steps) each = by_tariff name steps (o.tariffs name) each
    by_row today (kinds.Steps name day steps) each = by_steps name day today steps (is_some (o.tariffs name)) (o.dated_steps name day) each
    by_row today (kinds.Meter number m) each = by_meter number m (o.meters number) (is_some (o.tariffs m.tariff)) each

    by_withdraw : (name : List ℕ) (day today : ℕ) (has : Bool) (there : Option (List Step)) (sold : Bool)
        → (nat_lt today day ≡ true → P (changed (edits.WithdrawSteps name day) (answers.Withdrawn 1)))
        → P (withdraw_steps name day today has there sold)
    by_withdraw name day today false there sold each = refused refusals.NoTariff refl
    by_withdraw name day today true None sold each = granted (answers.Withdrawn 0) no_sale
    by_withdraw name day today true (Some there) sold each =
        by_day (nat_lt today day && not sold) (edits.WithdrawSteps name day) (answers.Withdrawn 1)
        (λ both. each (parts_true (nat_lt today day) (not sold) both).0)

    by_set : (number name : List ℕ) (there : Option Meter) (has : Bool) → (has ≡ true → P (changed (edits.SetTariff number name) answers.Done))
        → P (set_tariff number name there has)
    by_set number name None has each = refused refusals.NoMeter refl
    by_set number name (Some m) false each = refused refusals.NoTariff refl
    by_set number name (Some m) true each = by_kept (bytes_eq m.tariff name) _ (each refl)

    by_move : (number : List ℕ) (base : Base) (moment : ℕ) (there : Option Meter) → P (changed (edits.MoveBase number base) answers.Done)
        → P (move_base number base moment there)
    by_move number base moment None each = refused refusals.NoMeter refl
    by_move number base moment (Some m) each =
        by_kept (base_eq m.base base) _ (by_bar (is_earlier base m.base) _ _ refl
        (by_bar (nat_lt moment (base_date base)) _ _ refl each))

    by_key : (number : List ℕ) (key : ℕ) (there : Option Meter) (sold : Bool) → P (changed (edits.SetKey number key) answers.Done)
        → P (set_key number key there sold)
    by_key number key None sold each = refused refusals.NoMeter refl
    by_key number key (Some m) sold each = by_kept (m.key == key) _ (by_bar sold _ _ refl each)

    by_open : (moment : ℕ) (operator : List ℕ) (there : Option Shift) (count : ℕ)
        → ((s : Shift) (number : ℕ) → P (changed (edits.OpenShift s) (answers.Opened number))) → P (open_a_shift moment operator there count)
    by_open moment operator (Some there) count each = refused refusals.ShiftOpen refl
    by_open moment operator None count each =
        by_room P count (nat_lt count greatest_count) _ (refused refusals.OfficeFull refl) (λ number. each _ number)

    by_close : (moment : ℕ) (there : Option Shift)
        → ((s : Shift) → P (changed (edits.CloseShift s.number moment) (answers.Closed s.number))) → P (close_shift moment there)
    by_close moment None each = refused refusals.NoShift refl
    by_close moment (Some s) each = each s

    module _ (forward : ℕ → ℕ → ℕ) (moment nibble : ℕ) where
      by_sold : (order : Order) (shift : Option Shift) (meter : Option MeterAccount) (count : ℕ) (r : Result Change Refusal)
          → sell forward moment nibble order shift meter count ≡ r
          → ((s : Sale) → sell forward moment nibble order shift meter count ≡ Ok (sale_change s) → P (Ok (sale_change s))) → P r
      by_sold order shift meter count (Err refusal) e each =
          refused refusal (ap (λ (r : Result Change Refusal). acknowledges (reply_of r)) (sym e)
          ∙ own_sale forward moment nibble order shift meter count)
      by_sold order shift meter count (Ok change) e each =
          let is = (sell_ok forward moment nibble order shift meter count change e).change_is in
          subst (λ (c : Change). P (Ok c)) (sym is) (each _ (e ∙ ap Ok is))

      by_sell : (order : Order) (first : Option Sale) (shift : Option Shift) (meter : Option MeterAccount) (count : ℕ)
          → sale_of_ref o order.operator order.order_ref ≡ first
          → ((s : Sale) → sell forward moment nibble order shift meter count ≡ Ok (sale_change s) → P (Ok (sale_change s)))
          → P (sell_once forward moment nibble order first shift meter count)
      by_sell order None shift meter count e each = by_sold order shift meter count _ refl each
      by_sell order (Some first) shift meter count e each =
          by_test _ (answers.Sold first) refusals.RefReused (one_sale first (found _ o.sales first e).0) refl

      by_reprint : (number : ℕ) (sale : Option Sale) → sale_numbered o number ≡ sale → P (reprint sale)
      by_reprint number None e = refused refusals.NoSale refl
      by_reprint number (Some s) e = granted (answers.Reprinted s) (one_sale s (found _ o.sales s e).0)

      by_report : (shift : Option Shift) (number : ℕ) → P (report shift (sales_of_shift o number))
      by_report None number = refused refusals.NoSuchShift refl
      by_report (Some s) number =
          granted (answers.Report s (sales_of_shift o number))
          (All-filter (λ t. t.shift == number) (Contains o.sales) o.sales (All-contains_itself o.sales))

      -- what holds of refusals, of answers and of the change that is asked for holds of each decision
      pub by_decision : (request : Request) → Each forward moment nibble request → P (decision_of forward o moment nibble request)
      by_decision (requests.AddTariff name steps) each = by_row (day_at moment) (kinds.Tariff name steps) each
      by_decision (requests.AddSteps name day steps) each = by_row (day_at moment) (kinds.Steps name day steps) each
      by_decision (requests.WithdrawSteps name day) each =
          by_withdraw name day (day_at moment) (is_some (o.tariffs name)) (o.dated_steps name day) (sold_since o day) each
      by_decision (requests.AddMeter number m) each = by_row (day_at moment) (kinds.Meter number m) each
      by_decision (requests.Import rows) each = each
      by_decision (requests.SetTariff number name) each = by_set number name (o.meters number) (is_some (o.tariffs name)) each
      by_decision (requests.MoveBase number base) each = by_move number base moment (o.meters number) each
      by_decision (requests.SetKey number key) each = by_key number key (o.meters number) (has_sales o number) each
      by_decision (requests.OpenShift operator) each = by_open moment operator (open_shift o operator) (length o.shifts) each
      by_decision (requests.CloseShift operator) each = by_close moment (open_shift o operator) each
      by_decision (requests.Sell order) each =
          by_sell order (sale_of_ref o order.operator order.order_ref) (open_shift o order.operator) (account_of o order.meter moment)
          (length o.sales) refl each
      by_decision (requests.Reprint number) each = by_reprint number (sale_numbered o number) refl
      by_decision (requests.ShiftReport number) each = by_report (shift_numbered o number) number
