-- A token that was read is entered: what the meter answers, and what it holds then.
use Rattle.std.proofs.Common.{◌≡◌, ℕ, ◌+◌, ◌-◌, ◌^◌, ◌<◌, min, true, false, List, [], ◌∷◌, ◌++◌, Ok, drop, sym, ◌∙◌, ap, subst, arith}
use Rattle.std.specs.List.Sorted.{IsPermutation}
use Rattle.std.proofs.lemmas.List.Sums.{fold_push}
use Rattle.sts_token.specs.Fields.{TokenFields}
use Rattle.sts_token.specs.Meter.{Entry, Reader, Taken, TidAnswer, accepted, after_entry, after_reading, answer_to, answered, entered, is_member, old, taken_over, used}
use Rattle.sim_meter.specs.Meter.{MeterHolds, answer_for}
use Rattle.sim_meter.specs.Store.{count_below}
use Rattle.sim_meter.specs.declared.answer.Answer.{Answer}
use Rattle.sim_meter.specs.declared.answer.Answer.TheVariants.{Accepted, Used, Old}
use Rattle.sim_meter.specs.declared.meter.Meter.{Meter}
use Rattle.sim_meter.proofs.PlaceLemmas.{above_least, among_above, below_least}
use Rattle.sim_meter.proofs.StoreLemmas.{answer_accepted, answer_old, answer_used, credit_more, holds_more}

-- the answer is the definition's, and the meter then holds what is taken after it
pub record Outcome {T : Type 0} (taken : Taken) (f : TokenFields) (answer : Answer) (after : Meter T) : Type 0 where
  pub answer_is : answer ≡ answer_for f (answer_to taken.tids f.tid)
  pub holds : MeterHolds (answered taken f (answer_to taken.tids f.tid)) after

outcome : {T : Type 0} (taken : Taken) (f : TokenFields) (after : Meter T) (a : TidAnswer)
    → answer_to taken.tids f.tid ≡ a → MeterHolds (answered taken f a) after
    → Outcome taken f (answer_for f a) after
outcome {T} taken f after a e holds =
    record { answer_is = ap (answer_for f) (sym e); holds = subst (λ (b : TidAnswer). MeterHolds {T = T} (answered taken f b) after) (sym e) holds }

-- an identifier that is stored is used, and the meter stays as it is
pub outcome_used : {T : Type 0} (taken : Taken) (f : TokenFields) (meter : Meter T)
    → MeterHolds taken meter → is_member meter.store.places f.tid ≡ true
    → Outcome taken f Used meter
outcome_used taken f meter holds stored =
    let are = meter.store.sorted in
    outcome taken f meter used
    (answer_used meter.store.places taken.tids f.tid holds.greatest are
    (among_above f.tid meter.store.places are stored) stored) holds

-- one that is not stored, with none stored below it, is old, and the meter stays as it is
pub outcome_old : {T : Type 0} (taken : Taken) (f : TokenFields) (meter : Meter T)
    → MeterHolds taken meter → is_member meter.store.places f.tid ≡ false
    → count_below f.tid meter.store.places ≡ 0 → Outcome taken f Old meter
outcome_old taken f meter holds stored none =
    let are = meter.store.sorted in
    outcome taken f meter old
    (answer_old meter.store.places taken.tids f.tid holds.greatest are
    (below_least f.tid meter.store.places are none stored)) holds

-- any other is accepted: it comes in for the least one, and its amount is added
pub outcome_accepted : {T : Type 0} (taken : Taken) (f : TokenFields) (meter after : Meter T)
    → MeterHolds taken meter → is_member meter.store.places f.tid ≡ false
    → 0 < count_below f.tid meter.store.places
    → IsPermutation (f.tid ∷ drop 1 meter.store.places) after.store.places
    → after.credit ≡ min (meter.credit + f.tenths) (2 ^ 64 - 1)
    → Outcome taken f (Accepted f.tenths) after
outcome_accepted taken f meter after holds stored some moved credit =
    let places = meter.store.places in
    let are = meter.store.sorted in
    let above = above_least f.tid places are some in
    outcome taken f after accepted
    (answer_accepted places taken.tids f.tid holds.greatest are (omega arith) stored)
    (record {
      greatest =
          holds_more places after.store.places taken.tids f.tid holds.greatest are above moved;
      credit = credit_more meter.credit f.tenths after.credit taken.amounts holds.credit credit;
    })

-- ---- one more entry
pub taken_more : (reader : Reader) (history : List Entry) (text : List ℕ) (f : TokenFields)
    → reader text ≡ Ok f
    → taken_over reader (history ++ entered text ∷ [])
    ≡ answered (taken_over reader history) f (answer_to (taken_over reader history).tids f.tid)
taken_more reader history text f reads =
    fold_push (after_entry reader) (record { tids = []; amounts = [] }) history (entered text)
    ∙ ap (after_reading (taken_over reader history)) reads
