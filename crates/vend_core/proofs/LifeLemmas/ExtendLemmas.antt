-- A life with one exchange more: what it keeps, and what it may leave.
use Rattle.std.proofs.Common.{◌≡◌, ◌≢◌, ℕ, ◌⊎◌, ◌↔◌, inl, inr, Bool, true, false, cond, List, [], ◌∷◌, ◌++◌, Result, Ok, Err, refl, sym, ◌∙◌, ap, subst, arith}
use Rattle.std.specs.Prelude.{All, Contains, filter, map}
use Rattle.std.proofs.lemmas.List.{append-nil, map-append}
use Rattle.std.proofs.lemmas.List.Elements.{All-append, All-cons, All-head, All-nil, All-push, All-tail, filter-append}
use Rattle.sts_token.specs.Token.{KeepsRange}
use Rattle.office_rules.specs.Decision.Fold.{after, replies_to, reply, step}
use Rattle.vend_core.specs.Law.Life.{Exchange, IsLife, Life, MayLeave, StopsAtDoubt, acknowledged, acknowledges, doubts, in_doubt, present, replies_acknowledged}
use Rattle.vend_core.specs.Law.LifeLaws.{GoesOn, IsRunning, IsReadingRequest, extended, extended_by, opened}
use Rattle.office_rules.specs.Office.{Office}
use Rattle.office_rules.specs.Decision.Requests.{IsStamped}
use Rattle.office_rules.specs.declared.decision.answer.Answer.{Answer}
use Rattle.office_rules.specs.declared.decision.refusal.Refusal.{Refusal}
use Rattle.office_rules.specs.declared.decision.refusal.Refusal.TheVariants.{Memory, Store, Stopped}
use Rattle.office_rules.specs.declared.decision.request.Request.{Request}
use Rattle.office_rules.specs.declared.decision.request.Request.TheVariants.{Reprint, ShiftReport}
use Rattle.office_rules.specs.declared.decision.request.Stamped.{Stamped}
use Rattle.vend_core.proofs.LawLemmas.{reports_stay, reprints_stay}
use Rattle.vend_core.proofs.LifeLemmas.{after-append}
use Rattle.vend_core.proofs.LawLemmas.RefusalLemmas.{own_reply}
use Rattle.office_rules.proofs.OfficeLemmas.RowLemmas.{contains_cases, contains_first}

-- what a request gets: an answer or a refusal
abbrev pub Reply : Type 0
Reply = Result Answer Refusal

-- the request of an exchange
abbrev pub request_of : Exchange → Stamped
request_of e = e.request

-- the reply of an exchange
abbrev pub reply_in : Exchange → Reply
reply_in e = e.reply

-- whether an exchange's reply acknowledges its request
abbrev pub passes : Exchange → Bool
passes e = acknowledges e.reply

abbrev is_doubted : Exchange → Bool
is_doubted e = doubts e.reply

-- a request and the reply that it got
abbrev pub exchange : Stamped → Reply → Exchange
exchange at reply = record { request = at; reply = reply }

-- the replies to requests in two parts
replies-append : (forward : ℕ → ℕ → ℕ) (o : Office) (ats more : List Stamped)
    → replies_to forward o (ats ++ more)
    ≡ replies_to forward o ats ++ replies_to forward (after forward o ats) more
unfolding after replies_to
replies-append forward o [] more = refl
replies-append forward o (at ∷ ats) more =
    ap (λ rest. reply forward o at ∷ rest) (replies-append forward (step forward o at) ats more)

-- what more exchanges bring
module _ (life : Life) (more : List Exchange) where
  -- the requests acknowledged then are those before and those among the new exchanges
  pub acknowledged_more : acknowledged (extended life more)
      ≡ acknowledged life ++ map request_of (filter passes more)
  acknowledged_more = ap (λ es. map request_of es) (filter-append passes life.exchanges more)
      ∙ map-append request_of (filter passes life.exchanges) (filter passes more)

  replies_more : replies_acknowledged (extended life more)
      ≡ replies_acknowledged life ++ map reply_in (filter passes more)
  replies_more = ap (λ es. map reply_in es) (filter-append passes life.exchanges more)
      ∙ map-append reply_in (filter passes life.exchanges) (filter passes more)

  doubted_more : in_doubt (extended life more)
      ≡ in_doubt life ++ map request_of (filter is_doubted more)
  doubted_more = ap (λ es. map request_of es) (filter-append is_doubted life.exchanges more)
      ∙ map-append request_of (filter is_doubted life.exchanges) (filter is_doubted more)

  present_more : present (extended life more)
      ≡ after life.forward (present life) (map request_of (filter passes more))
  present_more = ap (λ ats. after life.forward life.opening ats) acknowledged_more
      ∙ after-append life.forward life.opening (acknowledged life)
      (map request_of (filter passes more))

  -- they are a life's where the rules answered what they acknowledge, from the present office on
  life_more : IsLife life → All (λ e. IsStamped e.request) more
      → map reply_in (filter passes more)
      ≡ replies_to life.forward (present life) (map request_of (filter passes more))
      → StopsAtDoubt (map reply_in (life.exchanges ++ more)) → IsLife (extended life more)
  life_more is stamped answered stops = record {
    range = is.range;
    stamped = All-append (λ (e : Exchange). IsStamped e.request) life.exchanges more is.stamped
        stamped;
    replies =
        replies_more
        ∙ ap (λ rs. rs ++ map reply_in (filter passes more)) is.replies
        ∙ ap (λ rs. replies_to life.forward life.opening (acknowledged life) ++ rs) answered
        ∙ sym (replies-append life.forward life.opening (acknowledged life)
        (map request_of (filter passes more)))
        ∙ ap (λ ats. replies_to life.forward life.opening ats) (sym acknowledged_more);
    stops = stops;
  }

-- a life that goes on stops where what comes stops
abbrev IsSound : Exchange → Type 0
IsSound e = (e.reply ≢ Err Store) × (e.reply ≢ Err Stopped)

stops_first : (r : Reply) (rs : List Reply) → r ≢ Err Store → r ≢ Err Stopped → StopsAtDoubt rs
    → StopsAtDoubt (r ∷ rs)
stops_first (Ok answer) rs store stopped stops = stops
stops_first (Err Store) rs store stopped stops = absurd (store refl)
stops_first (Err Stopped) rs store stopped stops = absurd (stopped refl)
stops_first (Err refusal) rs store stopped stops = stops

stops_later : (es more : List Exchange) → All IsSound es → StopsAtDoubt (map reply_in more)
    → StopsAtDoubt (map reply_in (es ++ more))
stops_later [] more sound stops = stops
stops_later (e ∷ es) more sound stops =
    let is = All-head IsSound e es sound in
    stops_first e.reply (map reply_in (es ++ more)) is.0 is.1
    (stops_later es more (All-tail IsSound e es sound) stops)

-- and it has no request in doubt
no_doubt : (r : Reply) → r ≢ Err Store → doubts r ≡ false
no_doubt (Ok answer) store = refl
no_doubt (Err Store) store = absurd (store refl)
no_doubt (Err refusal) store = refl

no_doubts : (es : List Exchange) → All IsSound es → filter is_doubted es ≡ []
no_doubts [] sound = refl
no_doubts (e ∷ es) sound =
    ap (λ b. cond b (e ∷ filter is_doubted es) (filter is_doubted es))
    (no_doubt e.reply (All-head IsSound e es sound).0)
    ∙ no_doubts es (All-tail IsSound e es sound)

undoubted : (life : Life) → GoesOn life → in_doubt life ≡ []
undoubted life goes_on = ap (λ es. map request_of es) (no_doubts life.exchanges goes_on)

-- a life that goes on may leave only its present office
pub running_leaves : (life : Life) (o p : Office) → IsRunning life o → MayLeave life p ↔ (p ≡ o)
running_leaves life o p is = (
  λ may. elim may [
    | inl same ↦ same ∙ is.present
    | inr (at, there, e) ↦ absurd
        (omega (arith, (subst (λ ats. Contains ats at) (undoubted life is.goes_on) there).1))
  ],
  λ same. inl (same ∙ sym is.present),
)

-- a life begins
pub opens_running : (forward : ℕ → ℕ → ℕ) (o : Office) → KeepsRange forward
    → IsRunning (opened forward o) o
unfolding after replies_to
opens_running forward o range = record {
  is_life = record {
    range = range;
    stamped =
        All-nil (λ (e : Exchange). IsStamped e.request);
    replies = refl;
    stops = tt;
  };
  goes_on = All-nil IsSound;
  present = refl;
}

-- an exchange that is acknowledged, or is not
pass_one : (e : Exchange) → acknowledges e.reply ≡ true → filter passes (e ∷ []) ≡ e ∷ []
pass_one e own = ap (λ b. cond b (e ∷ []) []) own

pass_none : (e : Exchange) → acknowledges e.reply ≡ false → filter passes (e ∷ []) ≡ []
pass_none e none = ap (λ b. cond b (e ∷ []) []) none

-- a reply that acknowledges tells of no failed store
sound_reply : (r : Reply) → acknowledges r ≡ true → (r ≢ Err Store) × (r ≢ Err Stopped)
sound_reply (Ok answer) own = (λ e. cc, λ e. cc)
sound_reply (Err Memory) own = cc
sound_reply (Err Store) own = cc
sound_reply (Err Stopped) own = cc
sound_reply (Err refusal) own = (λ e. cc, λ e. cc)

sole : (x y : Stamped) → Contains (y ∷ []) x → x ≡ y
sole x y there = elim
    (contains_cases y x [] there)
    [ inl first ↦ sym first | inr further ↦ absurd (omega (arith, further.1)) ]

-- a request that only reads leaves the office
only_reads : (forward : ℕ → ℕ → ℕ) (o : Office) (at : Stamped) (request : Request)
    → at.request ≡ request → IsReadingRequest request → step forward o at ≡ o
only_reads forward o at (Reprint number) is reads = reprints_stay forward o at number is
only_reads forward o at (ShiftReport number) is reads = reports_stay forward o at number is
only_reads forward o at request is reads = absurd reads

module _ (life : Life) (o : Office) (at : Stamped) (is : IsRunning life o)
    (stamped : IsStamped at) where
  one_stamped : (r : Reply) → All (λ (e : Exchange). IsStamped e.request) (exchange at r ∷ [])
  one_stamped r = All-cons (λ (e : Exchange). IsStamped e.request) (exchange at r) [] stamped
      (All-nil (λ (e : Exchange). IsStamped e.request))

  -- an exchange that is not acknowledged leaves the present office
  present_stays : (r : Reply) → acknowledges r ≡ false → present (extended_by life at r) ≡ o
  unfolding after
  present_stays r none =
      present_more life (exchange at r ∷ [])
      ∙ ap (λ es. after life.forward (present life) (map request_of es))
      (pass_none (exchange at r) none) ∙ is.present

  is_life_unacknowledged : (r : Reply) → acknowledges r ≡ false → StopsAtDoubt (r ∷ [])
      → IsLife (extended_by life at r)
  unfolding replies_to
  is_life_unacknowledged r none stops =
      life_more life (exchange at r ∷ []) is.is_life (one_stamped r)
      (ap (λ es. map reply_in es) (pass_none (exchange at r) none)
      ∙ ap (λ es. replies_to life.forward (present life) (map request_of es))
      (sym (pass_none (exchange at r) none)))
      (stops_later life.exchanges (exchange at r ∷ []) is.goes_on stops)

  -- a request for which memory was short leaves the life going on with its office
  pub runs_on_without_memory : IsRunning (extended_by life at (Err Memory)) o
  runs_on_without_memory = record {
    is_life = is_life_unacknowledged (Err Memory) refl tt;
    goes_on = All-push IsSound life.exchanges (exchange at (Err Memory)) is.goes_on
        (λ e. cc, λ e. cc);
    present = present_stays (Err Memory) refl;
  }

  -- a life in which the store fails at a request is a life still
  pub fails_at : IsLife (extended_by life at (Err Store))
  fails_at = is_life_unacknowledged (Err Store) refl (All-nil _)

  doubted_alone : in_doubt (extended_by life at (Err Store)) ≡ at ∷ []
  doubted_alone = doubted_more life (exchange at (Err Store) ∷ [])
      ∙ ap (λ ats. ats ++ at ∷ []) (undoubted life is.goes_on)

  -- after a failed store a life may leave its office, or that with the request in doubt
  pub doubted_leaves : (p : Office)
      → MayLeave (extended_by life at (Err Store)) p ↔ ((p ≡ o) ⊎ (p ≡ step life.forward o at))
  doubted_leaves p = (
    λ may. elim may [
      | inl same ↦ inl (same ∙ present_stays (Err Store) refl)
      | inr (doubt, there, e) ↦
          let only : doubt ≡ at =
          sole doubt at (subst (λ ats. Contains ats doubt) doubted_alone there) in
          inr (e ∙ ap (λ q. step life.forward q doubt) (present_stays (Err Store) refl)
          ∙ ap (λ d. step life.forward o d) only)
    ],
    λ may. elim may [
      | inl same ↦ inl (same ∙ sym (present_stays (Err Store) refl))
      | inr stepped ↦ inr (
        at,
        subst (λ ats. Contains ats at) (sym doubted_alone) (contains_first at []),
        stepped
            ∙ ap (λ q. step life.forward q at) (sym (present_stays (Err Store) refl)),
      )
    ],
  )

  -- where a store failed at a request that only reads, a life may leave only its office
  pub read_leaves : (p : Office) → IsReadingRequest at.request
      → MayLeave (extended_by life at (Err Store)) p ↔ (p ≡ o)
  read_leaves p reads =
      let same = only_reads life.forward o at at.request refl reads in
      let leaves = doubted_leaves p in (
        λ may. elim (leaves.0 may) [ inl before ↦ before | inr after ↦ after ∙ same ],
        λ before. leaves.1 (inl before),
      )

  -- a request that the rules answer
  pub runs_on : IsRunning (extended_by life at (reply life.forward o at)) (step life.forward o at)
  unfolding after replies_to
  runs_on =
      let r = reply life.forward o at in
      let own = own_reply life.forward o at in
      let one = pass_one (exchange at r) own in
      let sound = sound_reply r own in
      record {
        is_life = life_more life (exchange at r ∷ []) is.is_life (one_stamped r)
            (ap (λ es. map reply_in es) one
            ∙ ap (λ q. reply life.forward q at ∷ []) (sym is.present)
            ∙ ap (λ es. replies_to life.forward (present life) (map request_of es)) (sym one))
            (stops_later life.exchanges (exchange at r ∷ []) is.goes_on
            (stops_first r [] sound.0 sound.1 tt));
        goes_on = All-push IsSound life.exchanges (exchange at r) is.goes_on sound;
        present =
            present_more life (exchange at r ∷ [])
            ∙ ap (λ es. after life.forward (present life) (map request_of es)) one
            ∙ ap (λ q. step life.forward q at) is.present;
      }

-- nothing changes once the office stopped
stops_twice : (r : Reply) (rs : List Reply)
    → (StopsAtDoubt rs → StopsAtDoubt (rs ++ Err Stopped ∷ [])) → StopsAtDoubt (r ∷ rs)
    → StopsAtDoubt (r ∷ (rs ++ Err Stopped ∷ []))
stops_twice (Ok answer) rs rest stops = rest stops
stops_twice (Err Store) rs rest stops = All-push (λ r. r ≡ Err Stopped) rs (Err Stopped) stops refl
stops_twice (Err Stopped) rs rest stops =
    All-push (λ r. r ≡ Err Stopped) rs (Err Stopped) stops refl
stops_twice (Err refusal) rs rest stops = rest stops

stops_still : (rs : List Reply) → StopsAtDoubt rs → StopsAtDoubt (rs ++ Err Stopped ∷ [])
stops_still [] stops = All-nil _
stops_still (r ∷ rs) stops = stops_twice r rs (stops_still rs) stops

module _ (life : Life) (at : Stamped) where
  stopped_present : present (extended_by life at (Err Stopped)) ≡ present life
  unfolding after
  stopped_present = present_more life (exchange at (Err Stopped) ∷ [])

  stopped_doubts : in_doubt (extended_by life at (Err Stopped)) ≡ in_doubt life
  stopped_doubts = doubted_more life (exchange at (Err Stopped) ∷ []) ∙ append-nil (in_doubt life)

  -- a life with a request more that is answered as stopped is a life
  pub stopped_is_life : IsLife life → IsStamped at → IsLife (extended_by life at (Err Stopped))
  unfolding replies_to
  stopped_is_life is stamped =
      life_more life (exchange at (Err Stopped) ∷ []) is
      (All-cons (λ (e : Exchange). IsStamped e.request) _ [] stamped
      (All-nil (λ (e : Exchange). IsStamped e.request))) refl
      (subst StopsAtDoubt (sym
      (map-append reply_in life.exchanges (exchange at (Err Stopped) ∷ [])))
      (stops_still (map reply_in life.exchanges) is.stops))

  -- a life may leave the same after one request more that is answered as stopped
  pub stopped_stays : (p : Office)
      → MayLeave (extended_by life at (Err Stopped)) p ↔ MayLeave life p
  stopped_stays p =
      let next = extended_by life at (Err Stopped) in (
        λ may. elim may [
          | inl same ↦ inl (same ∙ stopped_present)
          | inr (doubt, there, e) ↦ inr (
            doubt,
            subst (λ ats. Contains ats doubt) stopped_doubts there,
            e
                ∙ ap (λ q. step life.forward q doubt) stopped_present,
          )
        ],
        λ may. elim may [
          | inl same ↦ inl (same ∙ sym stopped_present)
          | inr (doubt, there, e) ↦ inr (
            doubt,
            subst (λ ats. Contains ats doubt) (sym stopped_doubts) there,
            e
                ∙ ap (λ q. step life.forward q doubt) (sym stopped_present),
          )
        ],
      )
