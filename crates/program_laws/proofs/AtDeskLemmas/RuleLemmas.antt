-- What an office answers to each request, by its rules alone.
use Rattle.std.proofs.Common.{◌≡◌, ◌∙◌, ℕ, ◌+◌, ◌<◌, ◌≤◌, Bool, true, false, cond, List, [], ◌∷◌, ◌++◌, length, Option, None, Some, Result, Ok, Err, refl, sym, ap, subst, arith}
use Rattle.std.specs.Prelude.{◌&&◌, ◌==◌, ⊤, All, Contains, IfErr, IfSome, filter, map, nat_lt, not, is_some, if◌then◌else◌, bytes_eq}
use Rattle.std.specs.Option.{ok_or}
use Rattle.std.proofs.lemmas.Bool.Decides.{Decides-eqb, nat_tests}
use Rattle.std.proofs.lemmas.Slice.Eq.{bytes_eq-Decides}
use Rattle.std.proofs.lemmas.List.Elements.{All-contains, All-contains_itself, All-filter, All-map, All-weaker, Contains-append_left}
use Rattle.sts_fields.specs.Base.{base_eq, base_date}
use Rattle.sts_fields.specs.Day.{day_at}
use Rattle.sts_fields.specs.Tid.{fresh_after, minute_of}
use Rattle.sts_fields.specs.declared.base.Base.{Base}
use Rattle.sts_fields.specs.declared.fault.TidFault.{TidFault}
use Rattle.sts_fields.specs.declared.fault.TidFault.TheVariants as tids
use Rattle.sts_token.specs.Token.{BlockFunction, KeepsRange}
use Rattle.tariff.specs.Purchase.{purchase_of}
use Rattle.tariff.specs.declared.step.Step.{Step}
use Rattle.office_rules.specs.Decision.{◌>>=◌, MeterAccount, account_of, add_meter, add_rows, add_steps, add_tariff, at_row, changed, close_shift, decision_of, import, is_earlier, meter_eq, move_base, new_rows, open_a_shift, or_refusal, row_decision, sell_once, set_key, set_tariff, steps_eq, unchanged, withdraw_steps, moved_unless, keyed_unless, added_if_later, withdrawn_if_free}
use Rattle.office_rules.specs.Decision.Fold.{after, office_after, replies_to, reply, reply_of, step}
use Rattle.office_rules.specs.Decision.Requests.{IsStamped}
use Rattle.vend_core.specs.Law.Life.{Exchange, IsLife, Life, acknowledged, acknowledges, present, replies_acknowledged}
use Rattle.vend_core.specs.Law.LifeLaws.{IsReadingRequest, extended_by}
use Rattle.office_rules.specs.Office.Lookup.{has_sales, open_shift, sale_numbered, sale_of_ref, shift_numbered, sold_since}
use Rattle.office_rules.specs.Office.{IsOffice, Office, greatest_count}
use Rattle.office_rules.specs.declared.decision.answer.Answer.{Answer}
use Rattle.office_rules.specs.declared.decision.answer.Answer.TheVariants as answers
use Rattle.office_rules.specs.declared.decision.change.Change.{Change}
use Rattle.office_rules.specs.declared.decision.change.Edit.TheVariants as edits
use Rattle.office_rules.specs.declared.decision.refusal.Refusal.{Refusal}
use Rattle.office_rules.specs.declared.decision.refusal.Refusal.TheVariants as refusals
use Rattle.office_rules.specs.declared.decision.request.Order.{Order}
use Rattle.office_rules.specs.declared.decision.request.Request.{Request}
use Rattle.office_rules.specs.declared.decision.request.Request.TheVariants as requests
use Rattle.office_rules.specs.declared.decision.request.Stamped.{Stamped}
use Rattle.office_rules.specs.declared.decision.row_cause.RowCause.{RowCause}
use Rattle.office_rules.specs.declared.decision.row_cause.RowCause.TheVariants as causes
use Rattle.office_rules.specs.declared.office.meter.Meter.{Meter}
use Rattle.office_rules.specs.declared.office.row.Row.{Row}
use Rattle.office_rules.specs.declared.office.row.Row.TheVariants as kinds
use Rattle.office_rules.specs.declared.office.sale.Sale.{Sale}
use Rattle.office_rules.specs.declared.office.shift.Shift.{Shift}
use Rattle.asks.specs.Value.{IsTargetNumber}
use Rattle.asks.specs.declared.ask.Ask.{Ask}
use Rattle.asks.specs.declared.ask.Ask.TheVariants.{Do}
use Rattle.desk_client.specs.Answers.{IsSaleFor, MayRefuse}
use Rattle.desk_client.specs.Report.{AreToldLines, IsToldShift}
use Rattle.office_rules.proofs.OfficeLemmas.RowLemmas.{found, number_within, parts_true}
use Rattle.program_laws.proofs.AtDeskLemmas.PaperLemmas.{shift_lines, shift_reported}

-- ---- a life's reply

abbrev Reply : Type 0
Reply = Result Answer Refusal

last_of : {A : Type 0} (x y : A) → x ∷ [] ≡ y ∷ [] → x ≡ y
last_of x y same = cc

-- two lists that are one have one last member
same_last : {A : Type 0} (xs ys : List A) (x y : A) → xs ++ x ∷ [] ≡ ys ++ y ∷ [] → x ≡ y
same_last [] [] x y same = last_of x y same
same_last [] (b ∷ []) x y same = cc
same_last [] (b ∷ c ∷ ys) x y same = cc
same_last (a ∷ []) [] x y same = cc
same_last (a ∷ d ∷ xs) [] x y same = cc
same_last {A = A} (a ∷ xs) (b ∷ ys) x y same =
    let rest : xs ++ x ∷ [] ≡ ys ++ y ∷ [] = cc in
    same_last {A = A} xs ys x y rest

-- the replies to some requests and one more
replies_push : (forward : BlockFunction) (o : Office) (ats : List Stamped) (at : Stamped)
    → replies_to forward o (ats ++ at ∷ []) ≡ replies_to forward o ats ++ reply forward (after forward o ats) at ∷ []
unfolding after replies_to
replies_push forward o [] at = refl
replies_push forward o (first ∷ ats) at = ap (λ (rest : List Reply). reply forward o first ∷ rest) (replies_push forward (step forward o first) ats at)

abbrev passes : Exchange → Bool
passes e = acknowledges e.reply

kept_last : (es : List Exchange) (e : Exchange) → passes e ≡ true → filter passes (es ++ e ∷ []) ≡ filter passes es ++ e ∷ []
kept_last [] e is = rw is refl
kept_last (first ∷ es) e is = kept_at (passes first) (kept_last es e is)
  where
    kept_at : (b : Bool) → filter passes (es ++ e ∷ []) ≡ filter passes es ++ e ∷ []
        → cond b (first ∷ filter passes (es ++ e ∷ [])) (filter passes (es ++ e ∷ [])) ≡ cond b (first ∷ filter passes es) (filter passes es) ++ e ∷ []
    kept_at true rest = ap (λ (es : List Exchange). first ∷ es) rest
    kept_at false rest = rest

mapped_last : {A B : Type 0} (f : A → B) (xs : List A) (x : A) → map f (xs ++ x ∷ []) ≡ map f xs ++ f x ∷ []
mapped_last f [] x = refl
mapped_last f (first ∷ xs) x = ap (λ rest. f first ∷ rest) (mapped_last f xs x)

-- a reply of a life that acknowledges its request is the one that the rules give
pub by_rules : (old : Life) (at : Stamped) (r : Reply) → IsLife (extended_by old at r) → acknowledges r ≡ true → r ≡ reply old.forward (present old) at
by_rules old at r is own =
    let e : Exchange = record { request = at; reply = r } in
    let kept = kept_last old.exchanges e own in
    let told : replies_acknowledged (extended_by old at r) ≡ replies_acknowledged old ++ r ∷ [] =
    ap (λ (es : List Exchange). map (λ (e : Exchange). e.reply) es) kept ∙ mapped_last (λ (e : Exchange). e.reply) (filter passes old.exchanges) e in
    let asked : acknowledged (extended_by old at r) ≡ acknowledged old ++ at ∷ [] =
    ap (λ (es : List Exchange). map (λ (e : Exchange). e.request) es) kept ∙ mapped_last (λ (e : Exchange). e.request) (filter passes old.exchanges) e in
    let given : replies_acknowledged (extended_by old at r) ≡ replies_to old.forward old.opening (acknowledged old) ++ reply old.forward (present old) at ∷ [] =
    is.replies ∙ ap (λ (ats : List Stamped). replies_to old.forward old.opening ats) asked ∙ replies_push old.forward old.opening (acknowledged old) at in
    same_last (replies_acknowledged old) (replies_to old.forward old.opening (acknowledged old)) r (reply old.forward (present old) at) (sym told ∙ given)

-- a life's beginning had its requests stamped too, so its present office is one
pub present_is : ((forward : BlockFunction) (o : Office) (ats : List Stamped) → IsOffice o → All IsStamped ats → KeepsRange forward → IsOffice
    (after forward o ats))
    → (life : Life) → IsLife life → IsOffice life.opening → IsOffice (present life)
present_is along life is opening =
    along life.forward life.opening (acknowledged life) opening
    (All-map IsStamped (λ (e : Exchange). e.request) _ (All-filter _ (λ (e : Exchange). IsStamped e.request) life.exchanges is.stamped)) is.range

-- what holds of a list holds of its front
pub front_keeps : {A : Type 0} (P : A → Type 0) (xs ys : List A) → All P (xs ++ ys) → All P xs
front_keeps P xs ys h = All-weaker (Contains xs) P (λ x there. All-contains P (xs ++ ys) x h (Contains-append_left xs ys x there)) xs (All-contains_itself xs)

-- before the last request of a life its office was one, too
pub present_before : ((forward : BlockFunction) (o : Office) (ats : List Stamped) → IsOffice o → All IsStamped ats → KeepsRange forward → IsOffice
    (after forward o ats))
    → (old : Life) (at : Stamped) (r : Reply) → IsLife (extended_by old at r) → IsOffice old.opening → IsOffice (present old)
present_before along old at r is opening =
    let stamped : All (λ (e : Exchange). IsStamped e.request) old.exchanges =
    front_keeps (λ (e : Exchange). IsStamped e.request) old.exchanges (record { request = at; reply = r } ∷ []) is.stamped in
    along old.forward old.opening (acknowledged old) opening
    (All-map IsStamped (λ (e : Exchange). e.request) _ (All-filter _ (λ (e : Exchange). IsStamped e.request) old.exchanges stamped)) is.range

-- ---- the answers to each request

-- a cause that an office finds of a row
abbrev pub IsOfficeCause : RowCause → Type 0
IsOfficeCause causes.Header = ⊥
IsOfficeCause causes.Columns = ⊥
IsOfficeCause (causes.Field number) = ⊥
IsOfficeCause causes.TooManyRows = ⊥
IsOfficeCause causes.Differs = ⊤
IsOfficeCause causes.NoTariff = ⊤
IsOfficeCause causes.DayPast = ⊤

-- a row of some rows, of which the first has this number
abbrev pub IsRowFrom : (number most : ℕ) → ℕ → RowCause → Type 0
IsRowFrom number most row cause = (number ≤ row) × (row < number + most) × IsOfficeCause cause

-- the refusal of one of some rows, of which the first has this number
abbrev pub RefusesFrom : (number most : ℕ) → Refusal → Type 0
RefusesFrom number most (refusals.ImportRow row cause) = IsRowFrom number most row cause
RefusesFrom number most refusal = ⊥

-- the refusal of one of some rows; or the office is unable to answer
abbrev pub RefusesRows : (most : ℕ) → Refusal → Type 0
RefusesRows most (refusals.ImportRow row cause) = IsRowFrom 1 most row cause
RefusesRows most refusals.Memory = ⊤
RefusesRows most refusals.Store = ⊤
RefusesRows most refusals.Stopped = ⊤
RefusesRows most refusal = ⊥

-- what an office with its rules may answer to a request
abbrev pub MayAnswer : Request → Answer → Type 0
MayAnswer (requests.AddTariff name steps) answers.Done = ⊤
MayAnswer (requests.AddSteps name day steps) answers.Done = ⊤
MayAnswer (requests.AddMeter number m) answers.Done = ⊤
MayAnswer (requests.Import rows) (answers.Imported count) = count ≤ length rows
MayAnswer (requests.SetTariff number name) answers.Done = ⊤
MayAnswer (requests.WithdrawSteps name day) (answers.Withdrawn count) = count ≤ 1
MayAnswer (requests.MoveBase number base) answers.Done = ⊤
MayAnswer (requests.SetKey number key) answers.Done = ⊤
MayAnswer (requests.OpenShift operator) (answers.Opened number) = IsTargetNumber number
MayAnswer (requests.CloseShift operator) (answers.Closed number) = IsTargetNumber number
MayAnswer (requests.Sell order) (answers.Sold sale) = IsSaleFor order sale
MayAnswer (requests.Reprint number) (answers.Reprinted sale) = sale.number ≡ number
MayAnswer (requests.ShiftReport number) (answers.Report shift sales) = (shift.number ≡ number) × IsToldShift shift × AreToldLines 0 sales
MayAnswer request answer = ⊥

-- what it may refuse it for
abbrev pub MayRefuseSo : Request → Refusal → Type 0
MayRefuseSo (requests.Import rows) refusal = RefusesRows (length rows) refusal
MayRefuseSo request refusal = MayRefuse refusal (Do request)

-- what an office with its rules may reply to it
abbrev pub MayReplyTo : Request → Result Answer Refusal → Type 0
MayReplyTo request (Ok answer) = MayAnswer request answer
MayReplyTo request (Err refusal) = MayRefuseSo request refusal

abbrev MayDecide : Request → Result Change Refusal → Type 0
MayDecide request r = MayReplyTo request (reply_of r)

-- a test that refuses no row
there_plain : {A : Type 0} (request : Request) (there : Option A) (why : Refusal) (f : A → Result Change Refusal) → MayDecide request (Err why)
    → ((x : A) → there ≡ Some x → MayDecide request (f x)) → MayDecide request (ok_or there why >>= f)
there_plain request None why f refused rest = refused
there_plain request (Some x) why f refused rest = rest x refl

minute_plain : {A : Type 0} (order : Order) (r : Result A TidFault) (f : A → Result Change Refusal) → ((x : A) → MayDecide (requests.Sell order) (f x))
    → MayDecide (requests.Sell order) (or_refusal r >>= f)
minute_plain order (Ok x) f rest = rest x
minute_plain order (Err tids.BeforeBase) f rest = tt
minute_plain order (Err tids.PastEnd) f rest = tt
minute_plain order (Err tids.IdentifiersSpent) f rest = tt
minute_plain order (Err tids.IdentifierAhead) f rest = tt

room_plain : (request : Request) (count : ℕ) (b : Bool) (f : ℕ → Result Change Refusal) → MayDecide request (Err refusals.OfficeFull)
    → b ≡ nat_lt count greatest_count
    → (count < greatest_count → MayDecide request (f (count + 1))) → MayDecide request ((if b then Ok (count + 1) else Err refusals.OfficeFull) >>= f)
room_plain request count true f full is rest = rest (grind (arith, nat_tests))
room_plain request count false f full is rest = full

may_differ : (request : Request) → MayDecide request (unchanged answers.Done) → MayDecide request (Err refusals.Differs) → (b : Bool)
    → MayDecide request (if b then unchanged answers.Done else Err refusals.Differs)
may_differ request same other true = same
may_differ request same other false = other

may_add_tariff : (name : List ℕ) (steps : List Step) (there : Option (List Step)) → MayDecide (requests.AddTariff name steps) (add_tariff name steps there)
may_add_tariff name steps None = tt
may_add_tariff name steps (Some there) = may_differ (requests.AddTariff name steps) tt tt (steps_eq there steps)

may_begin : (name : List ℕ) (day : ℕ) (steps : List Step) (b : Bool)
    → MayDecide (requests.AddSteps name day steps) (added_if_later name day steps b)
may_begin name day steps true = tt
may_begin name day steps false = tt

may_add_steps : (name : List ℕ) (day today : ℕ) (steps : List Step) (has : Bool) (there : Option (List Step))
    → MayDecide (requests.AddSteps name day steps) (add_steps name day steps today has there)
may_add_steps name day today steps false there = tt
may_add_steps name day today steps true (Some there) = may_differ (requests.AddSteps name day steps) tt tt (steps_eq there steps)
may_add_steps name day today steps true None = may_begin name day steps (nat_lt today day)

may_add_meter : (number : List ℕ) (m : Meter) (there : Option Meter) (has : Bool) → MayDecide (requests.AddMeter number m) (add_meter number m there has)
may_add_meter number m (Some there) has = may_differ (requests.AddMeter number m) tt tt (meter_eq there m)
may_add_meter number m None true = tt
may_add_meter number m None false = tt

may_set : (number name : List ℕ) (same : Bool)
    → MayDecide (requests.SetTariff number name) (if same then unchanged answers.Done else changed (edits.SetTariff number name) answers.Done)
may_set number name true = tt
may_set number name false = tt

may_tariff : (number name : List ℕ) (there : Option Meter) (has : Bool) → MayDecide (requests.SetTariff number name) (set_tariff number name there has)
may_tariff number name None has = tt
may_tariff number name (Some m) false = tt
may_tariff number name (Some m) true = may_set number name (bytes_eq m.tariff name)

may_move : (number : List ℕ) (base : Base) (same earlier before : Bool)
    → MayDecide (requests.MoveBase number base)
    (moved_unless number base same earlier before)
may_move number base true earlier before = tt
may_move number base false true before = tt
may_move number base false false true = tt
may_move number base false false false = tt

may_base : (number : List ℕ) (base : Base) (moment : ℕ) (there : Option Meter) → MayDecide (requests.MoveBase number base) (move_base number base moment there)
may_base number base moment None = tt
may_base number base moment (Some m) = may_move number base (base_eq m.base base) (is_earlier base m.base) (nat_lt moment (base_date base))

may_take_back : (name : List ℕ) (day : ℕ) (b : Bool)
    → MayDecide (requests.WithdrawSteps name day)
    (withdrawn_if_free name day b)
may_take_back name day true = omega arith
may_take_back name day false = tt

may_withdraw : (name : List ℕ) (day today : ℕ) (has : Bool) (there : Option (List Step)) (sold : Bool)
    → MayDecide (requests.WithdrawSteps name day) (withdraw_steps name day today has there sold)
may_withdraw name day today false there sold = tt
may_withdraw name day today true None sold = omega arith
may_withdraw name day today true (Some there) sold = may_take_back name day (nat_lt today day && not sold)

may_give : (number : List ℕ) (key : ℕ) (same sold : Bool)
    → MayDecide (requests.SetKey number key)
    (keyed_unless number key same sold)
may_give number key true sold = tt
may_give number key false true = tt
may_give number key false false = tt

may_key : (number : List ℕ) (key : ℕ) (there : Option Meter) (sold : Bool) → MayDecide (requests.SetKey number key) (set_key number key there sold)
may_key number key None sold = tt
may_key number key (Some m) sold = may_give number key (m.key == key) sold

may_open : (moment : ℕ) (operator : List ℕ) (there : Option Shift) (count : ℕ)
    → MayDecide (requests.OpenShift operator) (open_a_shift moment operator there count)
may_open moment operator (Some there) count = tt
may_open moment operator None count =
    room_plain (requests.OpenShift operator) count (nat_lt count greatest_count) _ tt refl (λ room. record { from_one = omega arith; most = omega (arith, room) })

may_close : (o : Office) → IsOffice o → (moment : ℕ) (operator : List ℕ) → MayDecide (requests.CloseShift operator) (close_shift moment (open_shift o operator))
may_close o office moment operator =
    there_plain (requests.CloseShift operator) (open_shift o operator) refusals.NoShift _ tt (λ s is.
    let there = found _ o.shifts s is in
    let within = number_within (λ (s : Shift). s.number) o.shifts s office.shift_numbers there.0 in
    record { from_one = within.0; most = omega (arith, within.1, office.shift_count) })

-- a sale under the operator and the ref of an order
abbrev IsUnder : Order → Sale → Type 0
IsUnder order s = (s.operator ≡ order.operator) × (s.order_ref ≡ order.order_ref)

under_ref : (o : Office) (order : Order) (there : Option Sale) → sale_of_ref o order.operator order.order_ref ≡ there → IfSome there (IsUnder order)
under_ref o order None is = tt
under_ref o order (Some s) is =
    let p = parts_true _ _ (found _ o.sales s is).1 in
    ((bytes_eq-Decides _ _).0 p.0, (bytes_eq-Decides _ _).0 p.1)

may_again : (order : Order) (first : Sale) → IsUnder order first → (b : Bool) → (bytes_eq first.meter order.meter && (first.tender == order.tender)) ≡ b
    → MayDecide (requests.Sell order) (if b then unchanged (answers.Sold first) else Err refusals.RefReused)
may_again order first under true is =
    let p = parts_true _ _ is in
    record { operator = under.0; order_ref = under.1; meter = (bytes_eq-Decides _ _).0 p.0; tender = (Decides-eqb first.tender order.tender).0 p.1 }
may_again order first under false is = tt

may_sell : (forward : BlockFunction) (moment nibble : ℕ) (order : Order) (first : Option Sale) → IfSome first (IsUnder order)
    → (shift : Option Shift) (meter : Option MeterAccount) (count : ℕ)
    → MayDecide (requests.Sell order) (sell_once forward moment nibble order first shift meter count)
may_sell forward moment nibble order (Some first) under shift meter count = may_again order first under _ refl
may_sell forward moment nibble order None under shift meter count =
    let q = requests.Sell order in
    there_plain q shift refusals.NoShift _ tt (λ s is_s. there_plain q meter refusals.NoMeter _ tt (λ m is_m.
    minute_plain order (minute_of m.meter.base moment) _ (λ now. minute_plain order (fresh_after now m.last) _ (λ tid.
    there_plain q (purchase_of m.steps m.prior order.tender) refusals.TooLittle _ tt
    (λ buy is_buy. room_plain q count (nat_lt count greatest_count) _ tt refl
    (λ room. record { operator = refl; order_ref = refl; meter = refl; tender = refl }))))))

-- ---- an import

-- why a row alone is refused
abbrev IsOfRow : Refusal → Type 0
IsOfRow refusals.Differs = ⊤
IsOfRow refusals.NoTariff = ⊤
IsOfRow refusals.DayPast = ⊤
IsOfRow refusal = ⊥

abbrev IsPlainDecision : Result Change Refusal → Type 0
IsPlainDecision r = IfErr r IsOfRow

plain_if : (b : Bool) (answer : Answer) → IsPlainDecision (if b then unchanged answer else Err refusals.Differs)
plain_if true answer = tt
plain_if false answer = tt

plain_day : (name : List ℕ) (day : ℕ) (steps : List Step) (b : Bool)
    → IsPlainDecision (added_if_later name day steps b)
plain_day name day steps true = tt
plain_day name day steps false = tt

plain_tariff : (name : List ℕ) (steps : List Step) (there : Option (List Step)) → IsPlainDecision (add_tariff name steps there)
plain_tariff name steps None = tt
plain_tariff name steps (Some there) = plain_if (steps_eq there steps) answers.Done

plain_steps : (name : List ℕ) (day today : ℕ) (steps : List Step) (has : Bool) (there : Option (List Step))
    → IsPlainDecision (add_steps name day steps today has there)
plain_steps name day today steps false there = tt
plain_steps name day today steps true (Some there) = plain_if (steps_eq there steps) answers.Done
plain_steps name day today steps true None = plain_day name day steps (nat_lt today day)

plain_meter : (number : List ℕ) (m : Meter) (there : Option Meter) (has : Bool) → IsPlainDecision (add_meter number m there has)
plain_meter number m (Some there) has = plain_if (meter_eq there m) answers.Done
plain_meter number m None true = tt
plain_meter number m None false = tt

plain_row : (o : Office) (today : ℕ) (row : Row) → IsPlainDecision (row_decision o today row)
plain_row o today (kinds.Tariff name steps) = plain_tariff name steps (o.tariffs name)
plain_row o today (kinds.Steps name day steps) = plain_steps name day today steps (is_some (o.tariffs name)) (o.dated_steps name day)
plain_row o today (kinds.Meter number m) = plain_meter number m (o.meters number) (is_some (o.tariffs m.tariff))

refuses_row : (number most : ℕ) (r : Result Change Refusal) → IsPlainDecision r → IfErr (at_row number r) (RefusesFrom number (most + 1))
refuses_row number most (Ok change) plain = tt
refuses_row number most (Err refusals.Differs) plain = (omega arith, omega arith, tt)
refuses_row number most (Err refusals.NoTariff) plain = (omega arith, omega arith, tt)
refuses_row number most (Err refusals.DayPast) plain = (omega arith, omega arith, tt)
refuses_row number most (Err refusal) plain = absurd plain

-- a refusal of the rows behind the first is one of them all
refuses_behind : (number most : ℕ) (refusal : Refusal) → RefusesFrom (number + 1) most refusal → RefusesFrom number (most + 1) refusal
refuses_behind number most (refusals.ImportRow row cause) h = (omega (arith, h.0), omega (arith, h.1), h.2)
refuses_behind number most refusal h = absurd h

new_more : (row : Row) (more : List Row) (most : ℕ) (b : Bool) → length more ≤ most → length (if b then row ∷ more else more) ≤ most + 1
new_more row more most true few = omega (arith, few)
new_more row more most false few = omega (arith, few)

-- the new ones of some rows are no more than these, or a row among them is refused
abbrev NewRowsOf : (number most : ℕ) → Result (List Row) Refusal → Type 0
NewRowsOf number most (Ok new) = length new ≤ most
NewRowsOf number most (Err refusal) = RefusesFrom number most refusal

then_more : (row : Row) (change : Change) (number most : ℕ) (rest : Result (List Row) Refusal) → NewRowsOf (number + 1) most rest
    → NewRowsOf number (most + 1) (rest >>= (λ new. Ok (if is_some change.edit then row ∷ new else new)))
then_more row change number most (Ok new) few = new_more row new most (is_some change.edit) few
then_more row change number most (Err refusal) h = refuses_behind number most refusal h

then_rows : {B : Type 0} (number most : ℕ) (r : Result B Refusal) (f : B → Result (List Row) Refusal) → IfErr r (RefusesFrom number most)
    → ((x : B) → NewRowsOf number most (f x)) → NewRowsOf number most (r >>= f)
then_rows number most (Ok x) f h rest = rest x
then_rows number most (Err refusal) f h rest = h

new_rows_of : (o : Office) (today number : ℕ) (rows : List Row) → NewRowsOf number (length rows) (new_rows o today number rows)
new_rows_of o today number [] = omega arith
new_rows_of o today number (row ∷ rest) =
    subst (λ (n : ℕ). NewRowsOf number n (new_rows o today number (row ∷ rest))) (omega arith)
    (then_rows number (length rest + 1) (at_row number (row_decision o today row)) _
    (refuses_row number (length rest) (row_decision o today row) (plain_row o today row))
    (λ change. then_more row change number (length rest) (new_rows (office_after o (Ok change)) today (number + 1) rest)
    (new_rows_of (office_after o (Ok change)) today (number + 1) rest)))

added : (rows new : List Row) → length new ≤ length rows → MayDecide (requests.Import rows) (add_rows new)
added rows [] few = omega arith
added rows (row ∷ rest) few = few

rows_refused : (most : ℕ) (refusal : Refusal) → RefusesFrom 1 most refusal → RefusesRows most refusal
rows_refused most (refusals.ImportRow row cause) h = h
rows_refused most refusal h = absurd h

may_import : (o : Office) (today : ℕ) (rows : List Row) → MayDecide (requests.Import rows) (import o today rows)
may_import o today rows = by_new (new_rows o today 1 rows) (new_rows_of o today 1 rows)
  where
    by_new : (r : Result (List Row) Refusal) → NewRowsOf 1 (length rows) r → MayDecide (requests.Import rows) (r >>= add_rows)
    by_new (Ok new) few = added rows new few
    by_new (Err refusal) h = rows_refused (length rows) refusal h

-- ---- all requests

-- the office is unable to answer, whatever it is asked
unable : (why : Refusal) → ((ask : Ask) → MayRefuse why ask) → ((most : ℕ) → RefusesRows most why) → (request : Request) → MayRefuseSo request why
unable why any rows_any (requests.Import rows) = rows_any (length rows)
unable why any rows_any request = any (Do request)

may_decide : (forward : BlockFunction) (o : Office) → IsOffice o → (moment nibble : ℕ) (request : Request)
    → MayDecide request (decision_of forward o moment nibble request)
may_decide forward o office moment nibble (requests.AddTariff name steps) = may_add_tariff name steps (o.tariffs name)
may_decide forward o office moment nibble (requests.AddSteps name day steps) =
    may_add_steps name day (day_at moment) steps (is_some (o.tariffs name)) (o.dated_steps name day)
may_decide forward o office moment nibble (requests.AddMeter number m) = may_add_meter number m (o.meters number) (is_some (o.tariffs m.tariff))
may_decide forward o office moment nibble (requests.SetTariff number name) = may_tariff number name (o.meters number) (is_some (o.tariffs name))
may_decide forward o office moment nibble (requests.Import rows) = may_import o (day_at moment) rows
may_decide forward o office moment nibble (requests.WithdrawSteps name day) =
    may_withdraw name day (day_at moment) (is_some (o.tariffs name)) (o.dated_steps name day) (sold_since o day)
may_decide forward o office moment nibble (requests.MoveBase number base) = may_base number base moment (o.meters number)
may_decide forward o office moment nibble (requests.SetKey number key) = may_key number key (o.meters number) (has_sales o number)
may_decide forward o office moment nibble (requests.OpenShift operator) = may_open moment operator (open_shift o operator) (length o.shifts)
may_decide forward o office moment nibble (requests.CloseShift operator) = may_close o office moment operator
may_decide forward o office moment nibble (requests.Sell order) =
    may_sell forward moment nibble order (sale_of_ref o order.operator order.order_ref) (under_ref o order _ refl) (open_shift o order.operator)
    (account_of o order.meter moment) (length o.sales)
may_decide forward o office moment nibble (requests.Reprint number) =
    there_plain (requests.Reprint number) (sale_numbered o number) refusals.NoSale _ tt (λ s is.
    (Decides-eqb s.number number).0 (found _ o.sales s is).1)
may_decide forward o office moment nibble (requests.ShiftReport number) =
    there_plain (requests.ShiftReport number) (shift_numbered o number) refusals.NoSuchShift _ tt (λ s is.
    let there = found _ o.shifts s is in
    ((Decides-eqb s.number number).0 there.1, shift_reported o s office there.0, shift_lines o number office))

-- a reply of a life, whatever it is, is one that an office may give
pub may_reply : (o : Office) (forward : BlockFunction) (at : Stamped) (r : Reply) → IsOffice o → (acknowledges r ≡ true → r ≡ reply forward o at)
    → MayReplyTo at.request r
may_reply o forward at (Ok answer) office rules =
    subst (MayReplyTo at.request) (sym (rules refl)) (may_decide forward o office at.moment at.nibble at.request)
may_reply o forward at (Err refusals.Memory) office rules = unable refusals.Memory (λ ask. tt) (λ most. tt) at.request
may_reply o forward at (Err refusals.Store) office rules = unable refusals.Store (λ ask. tt) (λ most. tt) at.request
may_reply o forward at (Err refusals.Stopped) office rules = unable refusals.Stopped (λ ask. tt) (λ most. tt) at.request
may_reply o forward at (Err refusal) office rules =
    subst (MayReplyTo at.request) (sym (rules refl)) (may_decide forward o office at.moment at.nibble at.request)

-- ---- a reprint and a report

same_decision : (forward : BlockFunction) (o : Office) (moment nibble other another : ℕ) (q : Request) → IsReadingRequest q
    → decision_of forward o moment nibble q ≡ decision_of forward o other another q
same_decision forward o moment nibble other another (requests.Reprint number) reads = refl
same_decision forward o moment nibble other another (requests.ShiftReport number) reads = refl
same_decision forward o moment nibble other another q reads = absurd reads

-- they are the same at each moment
pub reads_the_same : (forward : BlockFunction) (o : Office) (at other : Stamped) → IsReadingRequest at.request → at.request ≡ other.request
    → reply forward o at ≡ reply forward o other
reads_the_same forward o at other reads same =
    ap reply_of (same_decision forward o at.moment at.nibble other.moment other.nibble at.request reads
    ∙ ap (λ (q : Request). decision_of forward o other.moment other.nibble q) same)
