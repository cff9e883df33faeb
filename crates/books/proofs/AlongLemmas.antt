-- Many requests at books, one after another.
use Rattle.std.proofs.Common.{◌≡◌, ◌⊎◌, ◌↔◌, ℕ, ◌+◌, ◌<◌, Bool, true, List, [], ◌∷◌, ◌++◌, length, take, get_or, Result, Some, Err, Contains, slice_get, refl, sym, ap, subst, ◌∙◌, inl, inr, arith, length-append}
use Rattle.std.proofs.Math.ListN.{get_or-append}
use Rattle.std.proofs.Math.Seq.{take-append_seam}
use Rattle.std.proofs.lemmas.Bool.{cases_order}
use Rattle.std.proofs.lemmas.List.{get_or_push, take-append-le}
use Rattle.std.proofs.lemmas.List.Elements.{Contains-push, Contains-append_left, Contains-push_cases}
use Rattle.std.proofs.lemmas.Option.{get_or_from_slice_get, slice_get-get_or, slice_get_within}
use Rattle.sqlite.specs.State.{HasCleanDisk}
use Rattle.vend_core.specs.Law.Life.{Life}
use Rattle.vend_core.specs.Law.LifeLaws.{extended_along, extended_by}
use Rattle.office_rules.specs.declared.decision.answer.Answer.{Answer}
use Rattle.office_rules.specs.declared.decision.refusal.Refusal.{Refusal}
use Rattle.office_rules.specs.declared.decision.refusal.Refusal.TheVariants.{Store, Stopped}
use Rattle.office_rules.specs.declared.decision.request.Stamped.{Stamped}
use Rattle.books.specs.Asking.{AreServedInTurn, Replies}
use Rattle.books.specs.Keeps.{BooksHaveTables, Represents, Seen}
use Rattle.book_states.specs.Others.{LeavesOthers}
use Rattle.books.specs.Stopping.{StopAtFailure}
use Rattle.book_states.proofs.OthersLemmas.{others_same, others_then}

-- the requests were served with these replies
pub record HaveServed (old new : Seen) (ats : List Stamped) (replies : List (Result Answer Refusal)) : Type 0 where
  pub count : length replies ≡ length ats
  pub keeps : (life : Life) → Represents life old → Represents (extended_along life ats replies) new
  pub tables : BooksHaveTables old → BooksHaveTables new
  pub others : HasCleanDisk new.state → BooksHaveTables old → LeavesOthers old.state new.state
  pub clean : HasCleanDisk new.state → HasCleanDisk old.state
  pub stops : StopAtFailure old.stopped replies new.stopped

none_served : (stopped : Bool) → StopAtFailure stopped [] stopped
none_served stopped = record {
  stopped = λ i reply there. absurd cc;
  stops = (λ h. inl h, λ h. elim h [ inl was ↦ was | inr failed ↦ absurd (omega (arith, failed.1)) ]);
}

-- before the first request, the books have served none
pub served_none : (books : Seen) → ((life : Life) → extended_along life [] [] ≡ life) → HaveServed books books [] []
served_none books law = record {
  count = refl;
  keeps = λ life keeps. subst (λ (l : Life). Represents l books) (sym (law life)) keeps;
  tables = λ has. has;
  others = λ _ _. others_same books.state;
  clean = λ clean. clean;
  stops = none_served books.stopped;
}

-- one reply more: before it nothing changes, and it is as the books are then
stopped_more : (old mid : Bool) (replies : List (Result Answer Refusal)) (reply : Result Answer Refusal) → StopAtFailure old replies mid
    → (reply ≡ Err Stopped) ↔ (mid ≡ true)
    → (i : ℕ) (r : Result Answer Refusal) → slice_get (replies ++ reply ∷ []) i ≡ Some r
    → (r ≡ Err Stopped) ↔ ((old ≡ true) ⊎ Contains (take i (replies ++ reply ∷ [])) (Err Store))
stopped_more old mid replies reply stops last i r there =
    let within = slice_get_within (replies ++ reply ∷ []) i r there in
    let is = get_or_from_slice_get (replies ++ reply ∷ []) i r r there in
    elim (le_cases i (length replies) (omega (arith, length-append replies (reply ∷ [])))) [
      | inl before ↦
          let earlier : get_or replies i r ≡ r = sym (get_or-append replies (reply ∷ []) r i before) ∙ is in
          rw (take-append-le i replies (reply ∷ []) (omega arith)) (stops.stopped i r (slice_get-get_or replies i r before ∙ ap (λ x. Some x) earlier))
      | inr at ↦
          let same : reply ≡ r = sym (get_or_push replies reply r i (sym at)) ∙ is in
          let front : take i (replies ++ reply ∷ []) ≡ replies =
          subst (λ n. take n (replies ++ reply ∷ []) ≡ replies) (sym at) (take-append_seam replies (reply ∷ [])) in
          rw (front, ← same) (λ h. stops.stops.0 (last.0 h), λ h. last.1 (stops.stops.1 h))
    ]
  where
    le_cases : (i n : ℕ) → i < n + 1 → (i < n) ⊎ (i ≡ n)
    le_cases i n h = elim (cases_order i n) [ inl same ↦ inr same | inr (inl below) ↦ inl below | inr (inr above) ↦ absurd (omega arith) ]

stops_more : (old mid new : Bool) (replies : List (Result Answer Refusal)) (reply : Result Answer Refusal) → StopAtFailure old replies mid
    → (reply ≡ Err Stopped) ↔ (mid ≡ true)
    → (new ≡ true) ↔ ((reply ≡ Err Store) ⊎ (reply ≡ Err Stopped)) → StopAtFailure old (replies ++ reply ∷ []) new
stops_more old mid new replies reply stops last then = record {
  stopped = stopped_more old mid replies reply stops last;
  stops = (
    λ h. elim (then.0 h) [
      | inl failed ↦ inr (subst (Contains (replies ++ reply ∷ [])) failed (Contains-push replies reply))
      | inr stopped ↦ elim (stops.stops.0 (last.0 stopped))
          [ inl was ↦ inl was | inr failed ↦ inr (Contains-append_left replies (reply ∷ []) (Err Store) failed) ]
    ],
    λ h. elim h [
      | inl was ↦ then.1 (inr (last.1 (stops.stops.1 (inl was))))
      | inr failed ↦ elim (Contains-push_cases replies reply (Err Store) failed) [
        | inl earlier ↦ then.1 (inr (last.1 (stops.stops.1 (inr earlier))))
        | inr here ↦ then.1 (inl here)
      ]
    ],
  );
}

-- books that served some requests have served one more with its reply
pub served_more : (old mid new : Seen) (ats : List Stamped) (replies : List (Result Answer Refusal)) (at : Stamped)
    (reply : Result Answer Refusal) → HaveServed old mid ats replies
    → ((life : Life) → length ats ≡ length replies → extended_by (extended_along life ats replies) at reply
    ≡ extended_along life (ats ++ at ∷ []) (replies ++ reply ∷ []))
    → ((life : Life) → Represents life mid → Represents (extended_by life at reply) new) → (BooksHaveTables mid → BooksHaveTables new)
    → (HasCleanDisk new.state → BooksHaveTables mid → LeavesOthers mid.state new.state)
    → (HasCleanDisk new.state → HasCleanDisk mid.state) → (reply ≡ Err Stopped) ↔ (mid.stopped ≡ true)
    → (new.stopped ≡ true) ↔ ((reply ≡ Err Store) ⊎ (reply ≡ Err Stopped))
    → HaveServed old new (ats ++ at ∷ []) (replies ++ reply ∷ [])
served_more old mid new ats replies at reply so_far law keeps tables others clean last stops = record {
  count = omega (arith, so_far.count, length-append ats (at ∷ []), length-append replies (reply ∷ []));
  keeps = λ life kept. subst (λ (l : Life). Represents l new) (law life (sym so_far.count)) (keeps (extended_along life ats replies) (so_far.keeps life kept));
  tables = λ has. tables (so_far.tables has);
  others = λ late has. others_then old.state mid.state new.state (so_far.others (clean late) has) (others late (so_far.tables has));
  clean = λ late. so_far.clean (clean late);
  stops = stops_more old.stopped mid.stopped new.stopped replies reply so_far.stops last stops;
}

-- one request more is served, after the others
pub served_on : {B : Type 0} (see : B → Seen) (old mid new : B) (ats : List Stamped) (replies : List (Result Answer Refusal))
    (at : Stamped) (reply : Result Answer Refusal)
    → AreServedInTurn see old ats replies mid → Replies at reply (see mid) (see new) → AreServedInTurn see old (ats ++ at ∷ []) (replies ++ reply ∷ []) new
served_on see old mid new [] [] at reply so_far this = (new, subst (λ b. Replies at reply (see b) (see new)) so_far this, refl)
served_on see old mid new (first ∷ ats) (told ∷ replies) at reply so_far this =
    (so_far.0, so_far.1, served_on see so_far.0 mid new ats replies at reply so_far.2 this)
served_on see old mid new [] (told ∷ replies) at reply so_far this = absurd so_far
served_on see old mid new (first ∷ ats) [] at reply so_far this = absurd so_far
