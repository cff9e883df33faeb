-- An import that a life granted and that comes again later, where all that was asked in between
-- leaves its rows, changes nothing.
use Rattle.std.proofs.Common.{◌≡◌, ℕ, inl, inr, Bool, false, cond, List, [], ◌∷◌, ◌++◌, Result, Ok, Err, refl, sym, ◌∙◌, ap, subst}
use Rattle.std.specs.Prelude.{All, Contains, filter, map}
use Rattle.std.proofs.lemmas.List.Elements.{All-contains, All-filter, All-head, All-map, All-tail, filter-append}
use Rattle.office_rules.specs.Decision.Fold.{after, replies_to, reply, step}
use Rattle.vend_core.specs.Law.Imports.{AsksNoChange, ImportsNothing, LeavesRows}
use Rattle.vend_core.specs.Law.Life.{Exchange, IsLife, LeadTo, Life, MayLeave, StopsAtDoubt, acknowledged, acknowledges, doubts, in_doubt, present}
use Rattle.office_rules.specs.Office.{Office}
use Rattle.office_rules.specs.declared.decision.answer.Answer.{Answer}
use Rattle.office_rules.specs.declared.decision.answer.Answer.TheVariants as answers
use Rattle.office_rules.specs.declared.decision.refusal.Refusal.{Refusal}
use Rattle.office_rules.specs.declared.decision.refusal.Refusal.TheVariants.{Store, Stopped}
use Rattle.office_rules.specs.declared.decision.request.Request.TheVariants as requests
use Rattle.office_rules.specs.declared.decision.request.Stamped.{Stamped}
use Rattle.office_rules.specs.declared.office.row.Row.{Row}
use Rattle.vend_core.proofs.LawLemmas.AgainLemmas.{Stands, after_stand, imports_nothing, rows_stand, step_stand}
use Rattle.office_rules.proofs.OfficeLemmas.RowLemmas.{contains_first, contains_further}

abbrev request_of : Exchange → Stamped
request_of e = e.request

abbrev reply_in : Exchange → Result Answer Refusal
reply_in e = e.reply

abbrev is_passed : Exchange → Bool
is_passed e = acknowledges e.reply

abbrev is_doubted : Exchange → Bool
is_doubted e = doubts e.reply

-- the reply to the first request after some is the office's after them
middle_reply : (forward : ℕ → ℕ → ℕ) (o : Office) (es : List Exchange) (e : Exchange) (rest : List Exchange)
    → map reply_in (es ++ e ∷ rest) ≡ replies_to forward o (map request_of (es ++ e ∷ rest))
    → e.reply ≡ reply forward (after forward o (map request_of es)) e.request
unfolding after replies_to
middle_reply forward o [] e rest same = cc
middle_reply forward o (x ∷ es) e rest same =
    let further : map reply_in (es ++ e ∷ rest) ≡ replies_to forward (step forward o x.request) (map request_of (es ++ e ∷ rest)) = cc in
    middle_reply forward (step forward o x.request) es e rest further

after_middle : (forward : ℕ → ℕ → ℕ) (o : Office) (es : List Exchange) (e : Exchange) (rest : List Exchange)
    → after forward o (map request_of (es ++ e ∷ rest)) ≡ after forward (step forward (after forward o (map request_of es)) e.request) (map request_of rest)
unfolding after
after_middle forward o [] e rest = refl
after_middle forward o (x ∷ es) e rest = after_middle forward (step forward o x.request) es e rest

-- before a granted request none is in doubt
stops_before : (r : Result Answer Refusal) (rs : List (Result Answer Refusal)) (answer : Answer) → Contains rs (Ok answer)
    → StopsAtDoubt (r ∷ rs) → (doubts r ≡ false) × StopsAtDoubt rs
stops_before (Ok granted) rs answer there stops = (refl, stops)
stops_before (Err Store) rs answer there stops = let e : ◌≡◌ {A = Result Answer Refusal} (Ok answer) (Err Stopped) =
    All-contains (λ (q : Result Answer Refusal). q ≡ Err Stopped) rs (Ok answer) stops there in cc
stops_before (Err Stopped) rs answer there stops = let e : ◌≡◌ {A = Result Answer Refusal} (Ok answer) (Err Stopped) =
    All-contains (λ (q : Result Answer Refusal). q ≡ Err Stopped) rs (Ok answer) stops there in cc
stops_before (Err refusal) rs answer there stops = (refl, stops)

granted_there : (before : List Exchange) (e : Exchange) (between : List Exchange) (answer : Answer) → e.reply ≡ Ok answer
    → Contains (map reply_in (before ++ e ∷ between)) (Ok answer)
granted_there [] e between answer granted = subst (λ (r : Result Answer Refusal). Contains (e.reply ∷ map reply_in between) r) granted
    (contains_first e.reply (map reply_in between))
granted_there (x ∷ before) e between answer granted =
    contains_further x.reply (Ok answer) (map reply_in (before ++ e ∷ between)) (granted_there before e between answer granted)

dropped : {X : Type 0} (p : X → Bool) (x : X) (xs : List X) → p x ≡ false → filter p xs ≡ [] → filter p (x ∷ xs) ≡ []
dropped p x xs fails none = ap (λ (b : Bool). cond b (x ∷ filter p xs) (filter p xs)) fails ∙ none

none_doubted_before : (before : List Exchange) (e : Exchange) (between : List Exchange) (answer : Answer) → e.reply ≡ Ok answer
    → StopsAtDoubt (map reply_in (before ++ e ∷ between)) → filter is_doubted before ≡ []
none_doubted_before [] e between answer granted stops = refl
none_doubted_before (x ∷ before) e between answer granted stops =
    let parts = stops_before x.reply (map reply_in (before ++ e ∷ between)) answer (granted_there before e between answer granted) stops in
    dropped is_doubted x before parts.0 (none_doubted_before before e between answer granted parts.1)

-- those acknowledged and those in doubt, taken apart at a granted request
passed_at : (before : List Exchange) (e : Exchange) (between : List Exchange) (answer : Answer) → e.reply ≡ Ok answer
    → filter is_passed (before ++ e ∷ between) ≡ filter is_passed before ++ e ∷ filter is_passed between
passed_at before e between answer granted =
    filter-append is_passed before (e ∷ between)
    ∙ ap (λ (r : Result Answer Refusal). filter is_passed before ++ cond (acknowledges r) (e ∷ filter is_passed between) (filter is_passed between)) granted

doubted_at : (before : List Exchange) (e : Exchange) (between : List Exchange) (answer : Answer) → e.reply ≡ Ok answer
    → StopsAtDoubt (map reply_in (before ++ e ∷ between)) → filter is_doubted (before ++ e ∷ between) ≡ filter is_doubted between
doubted_at before e between answer granted stops =
    filter-append is_doubted before (e ∷ between)
    ∙ ap (λ (es : List Exchange). es ++ filter is_doubted (e ∷ between)) (none_doubted_before before e between answer granted stops)
    ∙ ap (λ (r : Result Answer Refusal). cond (doubts r) (e ∷ filter is_doubted between) (filter is_doubted between)) granted

-- requests that leave rows are such among those acknowledged and in doubt
others_among : (rows : List Row) (p : Exchange → Bool) (es : List Exchange) → All (AsksNoChange rows) es → All (LeavesRows rows) (map request_of (filter p es))
others_among rows p es others = All-map (LeavesRows rows) request_of (filter p es) (All-filter p (AsksNoChange rows) es others)

-- rows that stand in what a life opened stand in what it leaves, where all that it was asked leaves them
left_stand : (life : Life) (left : Office) (rows : List Row) → All (AsksNoChange rows) life.exchanges → MayLeave life left
    → All (Stands life.opening) rows → All (Stands left) rows
left_stand life left rows others (inl e) stand =
    subst (λ (q : Office). All (Stands q) rows) (sym e)
    (after_stand life.forward life.opening (acknowledged life) rows (others_among rows is_passed life.exchanges others) stand)
left_stand life left rows others (inr (at, there, e)) stand =
    subst (λ (q : Office). All (Stands q) rows) (sym e)
    (step_stand life.forward (present life) at rows
    (All-contains (LeavesRows rows) (in_doubt life) at (others_among rows is_doubted life.exchanges others) there)
    (after_stand life.forward life.opening (acknowledged life) rows (others_among rows is_passed life.exchanges others) stand))

led_stand_on : (rows : List Row) (start : Office) (lives : List Life) (o : Office) → LeadTo start lives o
    → All (λ (l : Life). All (AsksNoChange rows) l.exchanges) lives → All (Stands start) rows → All (Stands o) rows
led_stand_on rows start [] o e others stand = subst (λ (q : Office). All (Stands q) rows) (sym e) stand
led_stand_on rows start (life ∷ lives) o (is, opens, (left, may, leads)) others stand =
    led_stand_on rows left lives o leads (All-tail (λ (l : Life). All (AsksNoChange rows) l.exchanges) life lives others)
    (left_stand life left rows (All-head (λ (l : Life). All (AsksNoChange rows) l.exchanges) life lives others) may
    (subst (λ (q : Office). All (Stands q) rows) (sym opens) stand))

-- the rows of an import that a life granted stand in what it leaves
module _ (life : Life) (before : List Exchange) (e : Exchange) (between : List Exchange) (rows : List Row) (new : ℕ) (is : IsLife life)
    (exchanges : life.exchanges ≡ before ++ e ∷ between)
    (asks : e.request.request ≡ requests.Import rows) (granted : e.reply ≡ Ok (answers.Imported new)) (others : All (AsksNoChange rows) between) where
  passed : filter is_passed life.exchanges ≡ filter is_passed before ++ e ∷ filter is_passed between
  passed = ap (λ (es : List Exchange). filter is_passed es) exchanges ∙ passed_at before e between (answers.Imported new) granted

  abbrev office_before : Office
  office_before = after life.forward life.opening (map request_of (filter is_passed before))

  answered : reply life.forward office_before e.request ≡ Ok (answers.Imported new)
  answered =
      sym (middle_reply life.forward life.opening (filter is_passed before) e (filter is_passed between)
      (subst (λ (es : List Exchange). map reply_in es ≡ replies_to life.forward life.opening (map request_of es)) passed is.replies)) ∙ granted

  present_is : present life ≡ after life.forward (step life.forward office_before e.request) (map request_of (filter is_passed between))
  present_is = ap (λ (es : List Exchange). after life.forward life.opening (map request_of es)) passed
      ∙ after_middle life.forward life.opening (filter is_passed before) e (filter is_passed between)

  stand_present : All (Stands (present life)) rows
  stand_present =
      let p = step life.forward office_before e.request in
      let ats = map request_of (filter is_passed between) in
      subst (λ (q : Office). All (Stands q) rows) (sym present_is)
      (after_stand life.forward p ats rows (others_among rows is_passed between others)
      (rows_stand life.forward office_before e.request rows new asks answered))

  doubted : in_doubt life ≡ map request_of (filter is_doubted between)
  doubted = ap (λ (es : List Exchange). map request_of (filter is_doubted es)) exchanges
      ∙ ap (λ (es : List Exchange). map request_of es) (doubted_at before e between (answers.Imported new) granted
      (subst (λ (es : List Exchange). StopsAtDoubt (map reply_in es)) exchanges is.stops))

  stand_left : (left : Office) → MayLeave life left → All (Stands left) rows
  stand_left left (inl same) = subst (λ (q : Office). All (Stands q) rows) (sym same) stand_present
  stand_left left (inr (at, there, same)) =
      let other = All-contains (LeavesRows rows) (map request_of (filter is_doubted between)) at (others_among rows is_doubted between others)
      (subst (λ (ats : List Stamped). Contains ats at) doubted there) in
      subst (λ (q : Office). All (Stands q) rows) (sym same)
      (step_stand life.forward (present life) at rows other stand_present)

-- so they stand after all later lives
led_stand : (start : Office) (earlier later : List Life) (life : Life) (o : Office) (before between : List Exchange) (e : Exchange) (rows : List Row) (new : ℕ)
    → LeadTo start (earlier ++ life ∷ later) o → life.exchanges ≡ before ++ e ∷ between
    → e.request.request ≡ requests.Import rows → e.reply ≡ Ok (answers.Imported new)
    → All (AsksNoChange rows) between → All (λ (l : Life). All (AsksNoChange rows) l.exchanges) later → All (Stands o) rows
led_stand start [] later life o before between e rows new (is, opens, (left, may, leads)) exchanges asks granted others later_others =
    led_stand_on rows left later o leads later_others (stand_left life before e between rows new is exchanges asks granted others left may)
led_stand start (first ∷ earlier) later life o before between e rows new (is, opens, (left, may, leads)) exchanges asks granted others later_others =
    led_stand left earlier later life o before between e rows new leads exchanges asks granted others later_others

-- the same over lives, where each exchange after the import leaves its rows
pub imported_again_in_lives : (start : Office) (earlier later : List Life) (life : Life) (o : Office) (before between : List Exchange) (e : Exchange)
    (rows : List Row) (new : ℕ) (forward : ℕ → ℕ → ℕ) (again : Stamped)
    → LeadTo start (earlier ++ life ∷ later) o → life.exchanges ≡ before ++ e ∷ between
    → e.request.request ≡ requests.Import rows → e.reply ≡ Ok (answers.Imported new)
    → All (AsksNoChange rows) between → All (λ (l : Life). All (AsksNoChange rows) l.exchanges) later
    → again.request ≡ requests.Import rows → ImportsNothing forward o again
imported_again_in_lives start earlier later life o before between e rows new forward again lead exchanges asks granted others later_others asks_again =
    imports_nothing forward o again rows asks_again (led_stand start earlier later life o before between e rows new lead exchanges
    asks granted others later_others)
