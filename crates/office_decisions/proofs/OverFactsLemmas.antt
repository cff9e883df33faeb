-- What is decided by the facts of an office is what that office decides.
use Rattle.std.proofs.Common.{◌≡◌, ◌∙◌, ◌+◌, ◌<◌, ◌∷◌, [], ℕ, Bool, true, false, List, Option, Some, None, Result, Ok, Err, ap, arith, drop, get_or, inl, inr, is_some, length, refl, subst, sym, ◌⊎◌}
use Rattle.std.specs.Prelude.{◌&&◌, ◌==◌, IfErr, IsNone, IsSome, bytes_eq, if◌then◌else◌, option_map, slice_get, unwrap_or}
use Rattle.std.specs.Result.{IsErrAnd}
use Rattle.std.proofs.lemmas.List.{drop_more, length-drop}
use Rattle.std.proofs.lemmas.Option.{slice_get-get_or}
use Rattle.sts_fields.specs.Day.{day_at}
use Rattle.sts_token.specs.Token.{BlockFunction}
use Rattle.tariff.specs.declared.step.Step.{Step}
use Rattle.office_rules.specs.Decision.{◌>>=◌, MeterAccount, account_of, add_meter, add_rows, add_steps, add_tariff, at_row, close_shift, decision_of, move_base, new_rows, open_a_shift, report, reprint, row_decision, sell, sell_once, set_key, set_tariff, withdraw_steps, keyed_unless}
use Rattle.office_rules.specs.Decision.Edits.{with_row, with_rows}
use Rattle.office_rules.specs.Decision.Facts.{AreFactsOf, AreNewSaleFacts, AreRowsFacts, has_other_key, meter_found, report_found, row_facts}
use Rattle.office_rules.specs.Law.Growth.{HaveStayed}
use Rattle.office_rules.specs.Office.{Office}
use Rattle.office_rules.specs.Office.Lookup.{has_sales, open_shift, sale_of_ref, sales_of_shift, shift_numbered, sold_since}
use Rattle.office_rules.specs.declared.decision.change.Change.{Change}
use Rattle.office_rules.specs.declared.decision.facts.Facts.{Facts}
use Rattle.office_rules.specs.declared.decision.refusal.Refusal.{Refusal}
use Rattle.office_rules.specs.declared.decision.refusal.Refusal.TheVariants as refusals
use Rattle.office_rules.specs.declared.decision.request.Order.{Order}
use Rattle.office_rules.specs.declared.decision.request.Request.{Request}
use Rattle.office_rules.specs.declared.decision.request.Request.TheVariants as requests
use Rattle.office_rules.specs.declared.decision.request.Stamped.{Stamped}
use Rattle.office_rules.specs.declared.decision.row_facts.RowFacts.{RowFacts}
use Rattle.office_rules.specs.declared.office.meter.Meter.{Meter}
use Rattle.office_rules.specs.declared.office.row.Row.{Row}
use Rattle.office_rules.specs.declared.office.row.Row.TheVariants as kinds
use Rattle.office_rules.specs.declared.office.sale.Sale.{Sale}
use Rattle.office_rules.specs.declared.office.shift.Shift.{Shift}
use Rattle.office_rules.proofs.DecisionLemmas.ImportLemmas.{ahead, row_grants}
use Rattle.office_rules.proofs.DecisionLemmas.StayLemmas.{differs_still, stayed_none}
use Rattle.office_decisions.proofs.ImportWalkLemmas.{ahead_more, office_more, rows_at, stays_on, taken_more, walks_first}
use Rattle.office_decisions.proofs.TakenLemmas.{same_meter_decision}
use Rattle.office_decisions.specs.OverFacts.{DecidesByFacts, Shows, decision_on_of, import_on, meter_there, new_rows_on, office_showing, some_tariff, tariff_stands, tariff_there}

-- ---- what was found of a row

is_there : (b : Bool) → b ≡ is_some (some_tariff b)
is_there true = refl
is_there false = refl

-- an office that was made to show what was found of a row shows it
pub shows_made : (row : Row) (f : Option RowFacts) → Shows (office_showing row f) row f
shows_made (kinds.Tariff name steps) f = refl
shows_made (kinds.Steps name day steps) f = (is_there (tariff_stands f), refl)
shows_made (kinds.Meter number m) f = (refl, λ none. is_there (tariff_there f))

own_meter : (there : Option Meter) (has : Bool)
    → (meter_there (Some (meter_found there has)) ≡ there) × (there ≡ None → tariff_there (Some (meter_found there has)) ≡ has)
own_meter None has = (refl, λ none. refl)
own_meter (Some m) has = (refl, λ none. absurd (let e = none in cc))

shows_own : (o : Office) (row : Row) → Shows o row (Some (row_facts o row))
shows_own o (kinds.Tariff name steps) = refl
shows_own o (kinds.Steps name day steps) = (refl, refl)
shows_own o (kinds.Meter number m) = own_meter (o.meters number) (is_some (o.tariffs m.tariff))

-- an office shows its own facts
pub shows_found : (o : Office) (row : Row) (f : Option RowFacts) → f ≡ Some (row_facts o row) → Shows o row f
shows_found o row f is = subst (Shows o row) (sym is) (shows_own o row)

-- ---- two offices that have the same under a name, with rows

module _ (q : List ℕ) where
  put_same : {A : Type 0} (b : Bool) (x : A) (s t : Option A) → s ≡ t → (if b then Some x else s) ≡ (if b then Some x else t)
  put_same {A} b x s t same = ap (λ (r : Option A). if b then Some x else r) same

  put_stands : {A : Type 0} (b : Bool) (x : A) (s t : Option A) → is_some s ≡ is_some t → is_some (if b then Some x else s) ≡ is_some (if b then Some x else t)
  put_stands true x s t same = refl
  put_stands false x s t same = same

  put_none : {A : Type 0} (b : Bool) (x : A) (s : Option A) → (if b then Some x else s) ≡ None → s ≡ None
  put_none true x s none = absurd (let e = none in cc)
  put_none false x s none = none

  tariffs_on : (rows : List Row) (o p : Office) → o.tariffs q ≡ p.tariffs q → (with_rows rows o).tariffs q ≡ (with_rows rows p).tariffs q
  tariffs_on [] o p same = same
  tariffs_on (kinds.Tariff name steps ∷ rest) o p same = tariffs_on rest (with_row (kinds.Tariff name steps) o) (with_row (kinds.Tariff name steps) p)
      (put_same (bytes_eq q name) steps (o.tariffs q) (p.tariffs q) same)
  tariffs_on (kinds.Steps name day steps ∷ rest) o p same =
      tariffs_on rest (with_row (kinds.Steps name day steps) o) (with_row (kinds.Steps name day steps) p) same
  tariffs_on (kinds.Meter number m ∷ rest) o p same = tariffs_on rest (with_row (kinds.Meter number m) o) (with_row (kinds.Meter number m) p) same

  stands_on : (rows : List Row) (o p : Office) → is_some (o.tariffs q) ≡ is_some (p.tariffs q)
      → is_some ((with_rows rows o).tariffs q) ≡ is_some ((with_rows rows p).tariffs q)
  stands_on [] o p same = same
  stands_on (kinds.Tariff name steps ∷ rest) o p same = stands_on rest (with_row (kinds.Tariff name steps) o) (with_row (kinds.Tariff name steps) p)
      (put_stands (bytes_eq q name) steps (o.tariffs q) (p.tariffs q) same)
  stands_on (kinds.Steps name day steps ∷ rest) o p same =
      stands_on rest (with_row (kinds.Steps name day steps) o) (with_row (kinds.Steps name day steps) p) same
  stands_on (kinds.Meter number m ∷ rest) o p same = stands_on rest (with_row (kinds.Meter number m) o) (with_row (kinds.Meter number m) p) same

  dated_on : (d : ℕ) (rows : List Row) (o p : Office) → o.dated_steps q d ≡ p.dated_steps q d
      → (with_rows rows o).dated_steps q d ≡ (with_rows rows p).dated_steps q d
  dated_on d [] o p same = same
  dated_on d (kinds.Tariff name steps ∷ rest) o p same =
      dated_on d rest (with_row (kinds.Tariff name steps) o) (with_row (kinds.Tariff name steps) p) same
  dated_on d (kinds.Steps name day steps ∷ rest) o p same =
      dated_on d rest (with_row (kinds.Steps name day steps) o) (with_row (kinds.Steps name day steps) p)
      (put_same (bytes_eq q name && (d == day)) steps (o.dated_steps q d) (p.dated_steps q d) same)
  dated_on d (kinds.Meter number m ∷ rest) o p same = dated_on d rest (with_row (kinds.Meter number m) o) (with_row (kinds.Meter number m) p) same

  meters_on : (rows : List Row) (o p : Office) → o.meters q ≡ p.meters q → (with_rows rows o).meters q ≡ (with_rows rows p).meters q
  meters_on [] o p same = same
  meters_on (kinds.Tariff name steps ∷ rest) o p same =
      meters_on rest (with_row (kinds.Tariff name steps) o) (with_row (kinds.Tariff name steps) p) same
  meters_on (kinds.Steps name day steps ∷ rest) o p same =
      meters_on rest (with_row (kinds.Steps name day steps) o) (with_row (kinds.Steps name day steps) p) same
  meters_on (kinds.Meter number m ∷ rest) o p same = meters_on rest (with_row (kinds.Meter number m) o) (with_row (kinds.Meter number m) p)
      (put_same (bytes_eq q number) m (o.meters q) (p.meters q) same)

  no_meter_below : (rows : List Row) (o : Office) → (with_rows rows o).meters q ≡ None → o.meters q ≡ None
  no_meter_below [] o none = none
  no_meter_below (kinds.Tariff name steps ∷ rest) o none = no_meter_below rest (with_row (kinds.Tariff name steps) o) none
  no_meter_below (kinds.Steps name day steps ∷ rest) o none = no_meter_below rest (with_row (kinds.Steps name day steps) o) none
  no_meter_below (kinds.Meter number m ∷ rest) o none =
      put_none (bytes_eq q number) m (o.meters q) (no_meter_below rest (with_row (kinds.Meter number m) o) none)

-- a row is decided alike in two offices that show the same of it, with the same rows
pub same_row : (o p : Office) (today : ℕ) (taken : List Row) (row : Row) (f : Option RowFacts) → Shows o row f → Shows p row f
    → row_decision (with_rows taken o) today row ≡ row_decision (with_rows taken p) today row
same_row o p today taken (kinds.Tariff name steps) f a b = ap (add_tariff name steps) (tariffs_on name taken o p (sym a ∙ b))
same_row o p today taken (kinds.Steps name day steps) f a b =
    ap (λ (has : Bool). add_steps name day steps today has ((with_rows taken o).dated_steps name day)) (stands_on name taken o p (sym a.0 ∙ b.0))
    ∙ ap (add_steps name day steps today (is_some ((with_rows taken p).tariffs name))) (dated_on name day taken o p (sym a.1 ∙ b.1))
same_row o p today taken (kinds.Meter number m) f a b =
    let same = sym a.0 ∙ b.0 in
    same_meter_decision number m ((with_rows taken o).meters number) ((with_rows taken p).meters number)
    (is_some ((with_rows taken o).tariffs m.tariff)) (is_some ((with_rows taken p).tariffs m.tariff)) (meters_on number taken o p same)
    (λ none. let gone = no_meter_below number taken p none in stands_on m.tariff taken o p (sym (a.1 (same ∙ gone)) ∙ b.1 gone))

-- ---- the rows of an import

same_bind : {A B : Type 0} (x : Result A Refusal) (f g : A → Result B Refusal) → ((a : A) → x ≡ Ok a → f a ≡ g a) → (x >>= f) ≡ (x >>= g)
same_bind (Ok a) f g same = same a refl
same_bind (Err e) f g same = refl

row_was_granted : (number : ℕ) (r : Result Change Refusal) (change : Change) → at_row number r ≡ Ok change → r ≡ Ok change
row_was_granted number (Ok c) change e = e
row_was_granted number (Err refusals.Differs) change e = cc
row_was_granted number (Err refusals.NoTariff) change e = cc
row_was_granted number (Err refusals.DayPast) change e = cc
row_was_granted number (Err refusal) change e = cc

-- the facts at a place, and those behind it
found_at : (fs : List RowFacts) (i : ℕ) (f : RowFacts) (further : List RowFacts) → drop i fs ≡ f ∷ further
    → (slice_get fs i ≡ Some f) × (drop (i + 1) fs ≡ further)
found_at fs i f further are =
    let long : i < length fs = omega (arith, length-drop i fs, ap length are) in
    let parts : get_or fs i f ∷ drop (i + 1) fs ≡ f ∷ further = sym (drop_more fs i f long) ∙ are in
    let head : get_or fs i f ≡ f = cc in
    let tail : drop (i + 1) fs ≡ further = cc in
    (slice_get-get_or fs i f long ∙ ap Some head, tail)

module _ (o : Office) (today : ℕ) (fs : List RowFacts) where
  -- the rows from here on are decided by the facts as in the office
  abbrev Decides : List Row → Type 0
  Decides rows = (taken : List Row) (i : ℕ) → HaveStayed o (with_rows taken o) → AreRowsFacts o today rows (drop i fs)
      → new_rows (with_rows taken o) today (i + 1) rows ≡ new_rows_on taken today i rows fs

  further_are : (row : Row) (rest taken : List Row) (change : Change) (further : List RowFacts) → HaveStayed o (with_rows taken o)
      → row_decision (with_rows taken o) today row ≡ Ok change
      → (row_decision o today row ≡ Err refusals.Differs) ⊎ AreRowsFacts o today rest further → AreRowsFacts o today rest further
  further_are row rest taken change further stayed granted (inl differs) =
      let still = differs_still o (with_rows taken o) today row stayed differs in cc
  further_are row rest taken change further stayed granted (inr are) = are

  one_more : (row : Row) (rest : List Row) → Decides rest → Decides (row ∷ rest)
  one_more row rest go taken i stayed facts =
      let p = with_rows taken o in
      let w = walks_first o today row rest (drop i fs) facts in
      let at = found_at fs i w.first w.further w.are in
      let found = at.0 ∙ ap Some w.first_is in
      let same = same_row (office_showing row (slice_get fs i)) o today taken row (slice_get fs i) (shows_made row (slice_get fs i))
      (shows_found o row (slice_get fs i) found) in
      let told : Change → Result (List Row) Refusal = λ change.
      new_rows_on (taken_more taken row change) today (i + 1) rest fs >>= (λ new. Ok (if is_some change.edit then row ∷ new else new)) in
      same_bind (at_row (i + 1) (row_decision p today row)) _ told (λ change is.
      let granted = row_was_granted (i + 1) (row_decision p today row) change is in
      let are = subst (AreRowsFacts o today rest) (sym at.1) (further_are row rest taken change w.further stayed granted w.rest_are) in
      ap (λ (r : Result (List Row) Refusal). r >>= (λ new. let all : Result (List Row) Refusal = Ok (if is_some change.edit then row ∷ new else new) in all))
      (ap (λ (q : Office). new_rows q today (i + 1 + 1) rest) (sym (office_more taken row change o (row_grants p today row change granted)))
      ∙ go (taken_more taken row change) (i + 1) (stays_on o today taken row change stayed granted) are))
      ∙ ap (λ (r : Result Change Refusal). at_row (i + 1) r >>= told) (sym same)

  -- rows are decided by their facts as an office decides them that has these
  pub rows_decided : (rows : List Row) → Decides rows
  rows_decided [] = λ taken i stayed facts. refl
  rows_decided (row ∷ rest) = one_more row rest (rows_decided rest)

-- ---- the requests

module _ (name : List ℕ) (day : ℕ) (steps : List Step) (today : ℕ) where
  dated_decided : (has has_tariff : Bool) (there known : Option (List Step)) → has_tariff ≡ has → (has_tariff ≡ true → known ≡ there)
      → add_steps name day steps today has there ≡ add_steps name day steps today has_tariff known
  dated_decided has false there known is rest = ap (λ (b : Bool). add_steps name day steps today b there) (sym is)
  dated_decided has true there known is rest =
      ap (λ (b : Bool). add_steps name day steps today b there) (sym is) ∙ ap (add_steps name day steps today true) (sym (rest refl))

withdrawal_decided : (name : List ℕ) (day today : ℕ) (has has_tariff sold told : Bool) (there known : Option (List Step)) → has_tariff ≡ has
    → (has_tariff ≡ true → known ≡ there) → (has_tariff ≡ true → IsSome known → told ≡ sold)
    → withdraw_steps name day today has there sold ≡ withdraw_steps name day today has_tariff known told
withdrawal_decided name day today has false sold told there known is steps sales = ap (λ (b : Bool). withdraw_steps name day today b there sold) (sym is)
withdrawal_decided name day today has true sold told there None is steps sales =
    ap (λ (b : Bool). withdraw_steps name day today b there sold) (sym is)
    ∙ ap (λ (k : Option (List Step)). withdraw_steps name day today true k sold) (sym (steps refl))
withdrawal_decided name day today has true sold told there (Some k) is steps sales =
    ap (λ (b : Bool). withdraw_steps name day today b there sold) (sym is)
    ∙ ap (λ (k : Option (List Step)). withdraw_steps name day today true k sold) (sym (steps refl))
    ∙ ap (withdraw_steps name day today true (Some k)) (sym (sales refl refl))

-- whether there are sales decides only where the key is another one
by_other_key : (number : List ℕ) (key : ℕ) (same sold told : Bool) → ((if same then false else true) ≡ true → told ≡ sold)
    → keyed_unless number key same sold
    ≡ (keyed_unless number key same told)
by_other_key number key true sold told sales = refl
by_other_key number key false sold told sales = ap (keyed_unless number key false) (sym (sales refl))

key_decided : (number : List ℕ) (key : ℕ) (there known : Option Meter) (sold told : Bool) → known ≡ there
    → (has_other_key key known ≡ true → told ≡ sold) → set_key number key there sold ≡ set_key number key known told
key_decided number key there None sold told is sales = ap (λ (k : Option Meter). set_key number key k sold) (sym is)
key_decided number key there (Some k) sold told is sales =
    ap (λ (k : Option Meter). set_key number key k sold) (sym is) ∙ by_other_key number key (k.key == key) sold told sales

added_decided : (number : List ℕ) (m : Meter) (there known : Option Meter) (has has_tariff : Bool) → known ≡ there → (IsNone known → has_tariff ≡ has)
    → add_meter number m there has ≡ add_meter number m known has_tariff
added_decided number m there None has has_tariff is rest =
    ap (λ (k : Option Meter). add_meter number m k has) (sym is) ∙ ap (add_meter number m None) (sym (rest refl))
added_decided number m there (Some k) has has_tariff is rest = ap (λ (k : Option Meter). add_meter number m k has) (sym is)

set_decided : (number name : List ℕ) (there known : Option Meter) (has has_tariff : Bool) → known ≡ there → (IsSome known → has_tariff ≡ has)
    → set_tariff number name there has ≡ set_tariff number name known has_tariff
set_decided number name there None has has_tariff is rest = ap (λ (k : Option Meter). set_tariff number name k has) (sym is)
set_decided number name there (Some k) has has_tariff is rest =
    ap (λ (k : Option Meter). set_tariff number name k has) (sym is) ∙ ap (set_tariff number name (Some k)) (sym (rest refl))

opened_decided : (moment : ℕ) (operator : List ℕ) (there known : Option Shift) (count told : ℕ) → known ≡ there → (IsNone known → told ≡ count)
    → open_a_shift moment operator there count ≡ open_a_shift moment operator known told
opened_decided moment operator there None count told is rest =
    ap (λ (k : Option Shift). open_a_shift moment operator k count) (sym is) ∙ ap (open_a_shift moment operator None) (sym (rest refl))
opened_decided moment operator there (Some k) count told is rest = ap (λ (k : Option Shift). open_a_shift moment operator k count) (sym is)

module _ (forward : BlockFunction) (moment nibble : ℕ) (order : Order) where
  sold_decided : (shift open_one : Option Shift) (account known : Option MeterAccount) (count told : ℕ) → open_one ≡ shift
      → (IsSome open_one → known ≡ account) → (IsSome open_one → IsSome known → told ≡ count)
      → sell forward moment nibble order shift account count ≡ sell forward moment nibble order open_one known told
  sold_decided shift None account known count told is rest counts = ap (λ (s : Option Shift). sell forward moment nibble order s account count) (sym is)
  sold_decided shift (Some s) account None count told is rest counts =
      ap (λ (s : Option Shift). sell forward moment nibble order s account count) (sym is)
      ∙ ap (λ (a : Option MeterAccount). sell forward moment nibble order (Some s) a count) (sym (rest refl))
  sold_decided shift (Some s) account (Some a) count told is rest counts =
      ap (λ (s : Option Shift). sell forward moment nibble order s account count) (sym is)
      ∙ ap (λ (a : Option MeterAccount). sell forward moment nibble order (Some s) a count) (sym (rest refl))
      ∙ ap (sell forward moment nibble order (Some s) (Some a)) (sym (counts refl refl))

  once_decided : (o : Office) (f : Facts) (first known : Option Sale) → known ≡ first → (IsNone known → AreNewSaleFacts o moment order f)
      → sell_once forward moment nibble order first (open_shift o order.operator) (account_of o order.meter moment) (length o.sales)
      ≡ sell_once forward moment nibble order known f.open_shift f.account f.sale_count
  once_decided o f first None is rest =
      let new = rest refl in
      ap (λ (k : Option Sale). sell_once forward moment nibble order k (open_shift o order.operator) (account_of o order.meter moment) (length o.sales))
      (sym is)
      ∙ sold_decided (open_shift o order.operator) f.open_shift (account_of o order.meter moment) f.account (length o.sales) f.sale_count new.open_shift
      new.account new.sale_count
  once_decided o f first (Some k) is rest =
      ap (λ (k : Option Sale). sell_once forward moment nibble order k (open_shift o order.operator) (account_of o order.meter moment) (length o.sales))
      (sym is)

report_decided : (s : Option Shift) (sales : List Sale) → report s sales ≡ report_found (option_map (λ s. (s, sales)) s)
report_decided None sales = refl
report_decided (Some s) sales = refl

module _ (forward : BlockFunction) (o : Office) (moment nibble : ℕ) (f : Facts) where
  request_decided : (request : Request) → AreFactsOf o moment request f → decision_of forward o moment nibble request ≡ decision_on_of forward moment nibble request f
  request_decided (requests.AddTariff name steps) is = ap (add_tariff name steps) (sym is)
  request_decided (requests.AddSteps name day steps) is =
      dated_decided name day steps (day_at moment) (is_some (o.tariffs name)) f.has_tariff (o.dated_steps name day) f.dated_steps is.has_tariff is.dated_steps
  request_decided (requests.WithdrawSteps name day) is =
      withdrawal_decided name day (day_at moment) (is_some (o.tariffs name)) f.has_tariff (sold_since o day) f.sold_since (o.dated_steps name day)
      f.dated_steps is.has_tariff is.dated_steps is.sold_since
  request_decided (requests.AddMeter number m) is =
      added_decided number m (o.meters number) f.meter (is_some (o.tariffs m.tariff)) f.has_tariff is.meter is.has_tariff
  request_decided (requests.Import rows) is =
      ap (λ (r : Result (List Row) Refusal). r >>= add_rows) (rows_decided o (day_at moment) is.0 rows [] 0 (stayed_none o) is.2)
      ∙ ap (λ (known : Option (List RowFacts)). import_on (day_at moment) rows (unwrap_or known [])) (sym is.1)
  request_decided (requests.SetTariff number name) is =
      set_decided number name (o.meters number) f.meter (is_some (o.tariffs name)) f.has_tariff is.meter is.has_tariff
  request_decided (requests.MoveBase number base) is = ap (move_base number base moment) (sym is)
  request_decided (requests.SetKey number key) is =
      key_decided number key (o.meters number) f.meter (has_sales o number) f.has_sales is.meter is.has_sales
  request_decided (requests.OpenShift operator) is =
      opened_decided moment operator (open_shift o operator) f.open_shift (length o.shifts) f.shift_count is.open_shift is.shift_count
  request_decided (requests.CloseShift operator) is = ap (close_shift moment) (sym is)
  request_decided (requests.Sell order) is =
      once_decided forward moment nibble order o f (sale_of_ref o order.operator order.order_ref) f.first_sale is.first_sale is.new_sale
  request_decided (requests.Reprint number) is = ap reprint (sym is)
  request_decided (requests.ShiftReport number) is = report_decided (shift_numbered o number) (sales_of_shift o number) ∙ ap report_found (sym is)

-- an office that has the facts decides as they do
pub decides_by_facts : (forward : BlockFunction) (o : Office) (at : Stamped) (f : Facts) → DecidesByFacts forward o at f
decides_by_facts forward o at f = request_decided forward o at.moment at.nibble f at.request

-- ---- one row further, by the facts

-- the import's new rows are those taken so far and those of the rows to come
pub walks_on_facts : (today : ℕ) (rows taken : List Row) (fs : List RowFacts) (i : ℕ) (row : Row) (change : Change) → i < length rows → row ≡ get_or rows i row
    → row_decision (with_rows taken (office_showing row (slice_get fs i))) today row ≡ Ok change
    → new_rows_on [] today 0 rows fs ≡ ahead taken (new_rows_on taken today i (drop i rows) fs)
    → new_rows_on [] today 0 rows fs ≡ ahead (taken_more taken row change) (new_rows_on (taken_more taken row change) today (i + 1) (drop (i + 1) rows) fs)
walks_on_facts today rows taken fs i row change within is granted so_far =
    let rest = drop (i + 1) rows in
    so_far ∙ ap (λ (l : List Row). ahead taken (new_rows_on taken today i l fs)) (rows_at rows i row within is)
    ∙ ap (λ (r : Result Change Refusal). ahead taken (at_row (i + 1) r >>= (λ change. new_rows_on (taken_more taken row change) today (i + 1) rest fs >>=
    (λ new. Ok (if is_some change.edit then row ∷ new else new))))) granted
    ∙ ahead_more taken row (is_some change.edit) (new_rows_on (taken_more taken row change) today (i + 1) rest fs)

stops_with : (taken : List Row) (x : Result Change Refusal) (e : Refusal) (f : Change → Result (List Row) Refusal) → x ≡ Err e → ahead taken (x >>= f) ≡ Err e
stops_with taken (Ok change) e f is = absurd (let same = is in cc)
stops_with taken (Err x) e f is = let same : x ≡ e = cc in ap (λ (e : Refusal). let r : Result (List Row) Refusal = Err e in r) same

-- a row that is refused refuses the import
pub refused_here : (today : ℕ) (rows taken : List Row) (fs : List RowFacts) (i : ℕ) (row : Row) (e : Refusal) → i < length rows → row ≡ get_or rows i row
    → at_row (i + 1) (row_decision (with_rows taken (office_showing row (slice_get fs i))) today row) ≡ Err e
    → new_rows_on [] today 0 rows fs ≡ ahead taken (new_rows_on taken today i (drop i rows) fs) → new_rows_on [] today 0 rows fs ≡ Err e
refused_here today rows taken fs i row e within is refused so_far =
    so_far ∙ ap (λ (l : List Row). ahead taken (new_rows_on taken today i l fs)) (rows_at rows i row within is)
    ∙ stops_with taken (at_row (i + 1) (row_decision (with_rows taken (office_showing row (slice_get fs i))) today row)) e _ refused

-- what is so of the error that a result has is so of the result
pub on_err : {T : Type 0} (P : Refusal → Type 0) (r : Result T Refusal) (e : Refusal) → IsErrAnd r (λ x. x ≡ e) → P e → IfErr r P
on_err P (Ok x) e is here = absurd is
on_err P (Err x) e is here = subst P (sym is) here
