-- What a request at books makes of the life that they keep.
use Rattle.std.proofs.Common.{◌≡◌, ◌≢◌, ◌⊎◌, ◌↔◌, ℕ, ◌+◌, Bool, true, IsTrue, Option, None, Some, Result, Ok, Err, IfErr, IfOk, length, refl, sym, ap, subst, ◌∙◌, inl, inr}
use Rattle.std.proofs.lemmas.Bool.{false≢true}
use Rattle.sts_token.specs.Token.{BlockFunction}
use Rattle.office_rules.specs.Decision.{decision}
use Rattle.office_rules.specs.Decision.Fold.{reply, step}
use Rattle.vend_core.specs.Law.Life.{IsLife, Life, MayLeave}
use Rattle.vend_core.specs.Law.LifeLaws.{IsRunning, extended_by}
use Rattle.office_rules.specs.Office.{IsOffice, Office}
use Rattle.office_rules.specs.declared.decision.answer.Answer.{Answer}
use Rattle.office_rules.specs.declared.decision.change.Edit.{Edit}
use Rattle.office_rules.specs.declared.decision.refusal.Refusal.{Refusal}
use Rattle.office_rules.specs.declared.decision.refusal.Refusal.TheVariants.{Memory, Store, Stopped}
use Rattle.office_rules.specs.declared.decision.request.Stamped.{Stamped}
use Rattle.books.specs.Keeps.{IsNextOrOneBefore, IsRepresented, Seen}
use Rattle.books.specs.Serving.{FailsToServe, HoldsOffice, IsMade, ServesGranted, ServingEnds}
use Rattle.book_edits.specs.Transaction.{MayBeLeft}
use Rattle.books.proofs.AttemptLemmas.{sales_step}

-- books are stopped where the store failed, which answer none as stopped
pub stops_on : {A : Type 0} (stopped : Bool) (answer : Result A Refusal) → (IsTrue stopped ↔ (answer ≡ Err Store)) → answer ≢ Err Stopped
    → (stopped ≡ true) ↔ ((answer ≡ Err Store) ⊎ (answer ≡ Err Stopped))
stops_on stopped answer failed never = (λ is. inl (failed.0 is), λ either. elim either [ inl store ↦ failed.1 store | inr was ↦ absurd (never was) ])

-- the life goes on with this office, which the books hold
pub kept_on : (life : Life) (o : Office) (books : Seen) → IsOffice life.opening → life.forward ≡ books.forward → IsRunning life o
    → ((p : Office) → MayLeave life p ↔ (p ≡ o)) → HoldsOffice o books → IsRepresented life books
kept_on life o books opening forward running law held = record {
  opening = opening;
  is_life = running.is_life;
  forward = forward;
  left = λ trees may. (o, (law o).1 refl, held.at.left trees may);
  running = λ _. record { present = o; running = running; at = held.at; next = held.next; last = held.last };
  numbered = λ p may. inl (held.next ∙ ap (λ (q : Office). length q.sales + 1) (sym ((law p).0 may)));
}

-- an office with at most one sale more has this next number, or one that is greater by one
near : (o p : Office) (next : ℕ) → next ≡ length o.sales + 1 → (length p.sales ≡ length o.sales) ⊎ (length p.sales ≡ length o.sales + 1)
    → IsNextOrOneBefore p next
near o p next is (inl same) = inl (is ∙ ap (λ n. n + 1) (sym same))
near o p next is (inr more) = inr (is ∙ sym more)

-- the store failed, and the books are stopped
pub kept_in_doubt : (life : Life) (o p : Office) (books : Seen) → IsOffice life.opening → life.forward ≡ books.forward → IsLife life
    → ((q : Office) → MayLeave life q ↔ ((q ≡ o) ⊎ (q ≡ p))) → MayBeLeft books.state o p
    → books.next_number ≡ length o.sales + 1 → (length p.sales ≡ length o.sales) ⊎ (length p.sales ≡ length o.sales + 1) → books.stopped
    ≡ true → IsRepresented life books
kept_in_doubt life o p books opening forward is_life law left next more stopped = record {
  opening = opening;
  is_life = is_life;
  forward = forward;
  left = λ trees may. elim (left trees may) [ inl was ↦ (o, (law o).1 (inl refl), was) | inr after ↦ (p, (law p).1 (inr refl), after) ];
  running = λ runs. absurd (false≢true (sym runs ∙ stopped));
  numbered = λ q may. elim ((law q).0 may) [
    | inl was ↦ inl (next ∙ ap (λ (r : Office). length r.sales + 1) (sym was))
    | inr after ↦ subst (λ (r : Office). IsNextOrOneBefore r books.next_number) (sym after) (near o p books.next_number next more)
  ];
}

-- books that are stopped stay as they are
pub kept_stopped : (life : Life) (at : Stamped) (books : Seen) → IsLife (extended_by life at (Err Stopped))
    → ((p : Office) → MayLeave (extended_by life at (Err Stopped)) p ↔ MayLeave life p) → books.stopped ≡ true
    → IsRepresented life books → IsRepresented (extended_by life at (Err Stopped)) books
kept_stopped life at books is_life law stopped kept = record {
  opening = kept.opening;
  is_life = is_life;
  forward = kept.forward;
  left = λ trees may. let it = kept.left trees may in (it.0, (law it.0).1 it.1, it.2);
  running = λ runs. absurd (false≢true (sym runs ∙ stopped));
  numbered = λ p may. kept.numbered p ((law p).0 may);
}

-- the laws of a life that goes on and gets one exchange more
pub record GoesOnWith (life : Life) (o : Office) (at : Stamped) : Type 0 where
  pub served : IsRunning (extended_by life at (reply life.forward o at)) (step life.forward o at)
  pub no_memory : IsRunning (extended_by life at (Err Memory)) o
  pub failed : IsLife (extended_by life at (Err Store))
  pub doubted : (p : Office) → MayLeave (extended_by life at (Err Store)) p ↔ ((p ≡ o) ⊎ (p ≡ step life.forward o at))
  pub alone : (more : Life) (p q : Office) → IsRunning more p → (MayLeave more q ↔ (q ≡ p))

-- what a change left is so whether the books are stopped or not
made_on : (edit : Option Edit) (prior : ℕ) (old books : Seen) (stopped : Bool) → IsMade edit prior old books
    → IsMade edit prior old (record books { stopped = stopped })
made_on None prior old books stopped made = made
made_on (Some edit) prior old books stopped made = made

-- and so is a granted request
pub granted_on : (at : Stamped) (reply : Result Answer Refusal) (old books : Seen) (stopped : Bool) → IfOk reply (λ answer. ServesGranted at answer old books)
    → IfOk reply (λ answer. ServesGranted at answer old (record books { stopped = stopped }))
granted_on at (Ok answer) old books stopped granted = record {
  change = granted.change;
  answers = granted.answers;
  granted = granted.granted;
  prior = granted.prior;
  read = granted.read;
  made = made_on granted.change.edit granted.prior old books stopped granted.made;
  next = granted.next;
  last = granted.last;
  writes = granted.writes;
}
granted_on at (Err refusal) old books stopped granted = granted

-- and so is why a request fails
pub failures_on : (at : Stamped) (reply : Result Answer Refusal) (old books : Seen) (stopped : Bool) → IfErr reply (FailsToServe at old books)
    → IfErr reply (FailsToServe at old (record books { stopped = stopped }))
failures_on at (Ok answer) old books stopped failed = failed
failures_on at (Err refusal) old books stopped (inl unchanged) =
    let known = unchanged.2 in inl (unchanged.0, unchanged.1, record { next = known.next; last = known.last; writes = known.writes })
failures_on at (Err refusal) old books stopped (inr unmade) =
    let known = unmade.2 in
    inr (unmade.0, unmade.1, record { next = known.next; last = known.last; store = known.store; memory = known.memory }, unmade.3)

-- whether books are stopped says nothing of what they hold
pub with_stopped : (forward : BlockFunction) (o : Office) (at : Stamped) (answer : Result Answer Refusal) (books : Seen) (stopped : Bool)
    → ServingEnds forward o at answer books
    → ServingEnds forward o at answer (record books { stopped = stopped })
with_stopped forward o at answer books stopped (inl served) = inl (served.0, record { at = served.1.at; next = served.1.next; last = served.1.last })
with_stopped forward o at answer books stopped (inr (inl none)) = inr (inl (none.0, record { at = none.1.at; next = none.1.next; last = none.1.last }))
with_stopped forward o at answer books stopped (inr (inr failed)) = inr (inr failed)

-- a request at books that are not stopped
pub kept_attempted : (life : Life) (o : Office) (at : Stamped) (answer : Result Answer Refusal) (new : Seen) → GoesOnWith life o at
    → IsOffice life.opening → life.forward ≡ new.forward → ServingEnds life.forward o at answer new
    → (answer ≡ Err Store → new.stopped ≡ true) → IsRepresented (extended_by life at answer) new
kept_attempted life o at answer new laws opening forward (inl served) stops =
    subst (λ (r : Result Answer Refusal). IsRepresented (extended_by life at r) new) (sym served.0)
    (kept_on (extended_by life at (reply life.forward o at)) (step life.forward o at) new opening forward laws.served
    (λ p. laws.alone _ _ p laws.served) served.1)
kept_attempted life o at answer new laws opening forward (inr (inl none)) stops =
    subst (λ (r : Result Answer Refusal). IsRepresented (extended_by life at r) new) (sym none.0)
    (kept_on (extended_by life at (Err Memory)) o new opening forward laws.no_memory (λ p. laws.alone _ _ p laws.no_memory) none.1)
kept_attempted life o at answer new laws opening forward (inr (inr failed)) stops =
    subst (λ (r : Result Answer Refusal). IsRepresented (extended_by life at r) new) (sym failed.0)
    (kept_in_doubt (extended_by life at (Err Store)) o (step life.forward o at) new opening forward laws.failed laws.doubted failed.1 failed.2
    (sales_step o (decision life.forward o at)) (stops failed.0))
