-- How one of several writes inside a transaction ends, told of all of them.
use Rattle.std.proofs.Common.{◌≡◌, ◌≤◌, ◌⊎◌, false, List, [], ◌∷◌, ◌++◌, IsErrAnd, IsTrue, Option, None, Some, Result, Ok, Err, refl, sym, subst, ◌∙◌, inl, inr, arith, append_assoc, ap}
use Rattle.std.proofs.lemmas.Bool.{cases_Bool, false≢true}
use Rattle.sqlite.specs.Does.{Does, Tally}
use Rattle.sqlite.specs.Effect.{Database}
use Rattle.sqlite.specs.Order.{Row}
use Rattle.sqlite.specs.Rows.{Outcome}
use Rattle.sqlite.specs.State.{HasCause, State, Survives, mode_of, store_error}
use Rattle.sqlite.specs.declared.error.Error.{Error}
use Rattle.sqlite_trees.specs.declared.error.StoreError.{StoreError}
use Rattle.sqlite_trees.specs.declared.error.StoreError.TheVariants.{OutOfMemory, Io, Corrupt, Full, Broken, Unstorable}
use Rattle.sqlite_schema.specs.declared.command.Command.{Command}
use Rattle.sqlite_schema.specs.declared.command.Returning.{Returning}
use Rattle.one_table.specs.InTransaction.{BeginsWith, CarriesOut, FailsToWriteAs, IsUnderWay, ShowsInside, StaysInside}
use Rattle.one_table.specs.Reading.{MeansAs}
use Rattle.one_table.proofs.ChangeLemmas.{if_err, on_ok}
use Rattle.one_table.specs.Upserting.{returning_as, upsert_as}
use Rattle.book_tables.specs.writing.Failing.{End, Ends, FailsToMerge, FailsToStore, FailsToWriteAll, IsRefused}
use Rattle.book_tables.specs.writing.Telling.{Tells}
use Rattle.book_tables.specs.writing.Writes.{AreCarriedOut, EndsWith, Make, Write}
use Rattle.book_tables.specs.declared.error.TableError.{TableError}
use Rattle.book_tables.specs.declared.error.TableError.TheVariants.{Database as Told, RowOfNoOffice}

-- ---- what writes make of a database

-- those of two lists, one after the other
pub make_then : (limit : Option _) (first second : List Write) (a b c : Database) → Make limit first a b → Make limit second b c
    → Make limit (first ++ second) a c
make_then limit [] second a b c none then = subst (λ (db : Database). Make limit second db c) none then
make_then limit (w ∷ more) second a b c (tally, mid, ends, made) then = (tally, mid, ends, make_then limit more second mid b c made then)

-- one write that was carried out
pub one_written : (w : Write) (old new : State) → CarriesOut w.sql w.params old new → AreCarriedOut (w ∷ []) old new
one_written w old new it = (it.tally, new.now, record { command = it.command; shows = it.shows; means = it.means; does = it.does }, refl)

-- ---- a transaction in which writes succeeded

-- it came to this state by these writes
pub record Came (writes : List Write) (old mid : State) : Type 0 where
  pub under_way : IsUnderWay mid
  pub was_shut : mid.is_open ≡ false → old.is_open ≡ false
  pub made : AreCarriedOut writes old mid
  pub limit : mid.step_limit ≡ old.step_limit
  pub counts : old.faults ≤ mid.faults

-- it came to where it is by no writes
pub came_here : (old : State) → IsUnderWay old → Came [] old old
came_here old way = record { under_way = way; was_shut = λ shut. shut; made = refl; limit = refl; counts = omega arith }

-- it came by writes that were carried out and left its transaction under way
pub came_by : (writes : List Write) (old mid : State) → AreCarriedOut writes old mid → StaysInside old mid → Survives old mid (λ _. ⊥) → Came writes old mid
came_by writes old mid written inside survives = record {
  under_way = inside.mode;
  was_shut = λ shut. absurd (false≢true (sym shut ∙ inside.is_open));
  made = written;
  limit = survives.limit;
  counts = survives.counts;
}

-- and then by others
pub written_then : (first second : List Write) (old mid new : State) → Came first old mid → AreCarriedOut second mid new
    → AreCarriedOut (first ++ second) old new
written_then first second old mid new came then =
    make_then old.step_limit first second old.now mid.now new.now came.made (subst (λ (l : Option _). Make l second mid.now new.now) came.limit then)

-- all of them, the last ones after a state that they came to
pub came_later : {before : List Write} (writes : List Write) (old mid new : State) → Came before old mid → AreCarriedOut writes old new
    → StaysInside mid new → Survives mid new (λ _. ⊥) → Came writes old new
came_later writes old mid new came written inside survives = record {
  under_way = inside.mode;
  was_shut = λ shut. absurd (false≢true (sym shut ∙ inside.is_open));
  made = written;
  limit = survives.limit ∙ came.limit;
  counts = omega (arith, survives.counts, came.counts);
}

-- ---- why the write after them fails

module _ (before : List Write) (old mid new : State) (came : Came before old mid) (w : Write) (after : List Write) where
  abbrev Fail : TableError → Type 0
  Fail e = FailsToWriteAll (before ++ w ∷ after) old new e

  module _ (shows : Option Returning) (command : Command) (means : IsTrue mid.is_open → MeansAs mid.now.schema w.sql command shows) (e : Error) where
    ends : (out : Outcome (Tally × Database)) → IsTrue mid.is_open
        → Does mid.step_limit (mode_of mid) w.params mid.now [] shows command out → EndsWith old.step_limit w mid.now out
    ends out runs does = record {
      command = command;
      shows = shows;
      means = means runs;
      does = subst (λ (l : Option _). Does l (mode_of mid) w.params mid.now [] shows command out) came.limit does;
    }

    refused : EndsWith old.step_limit w mid.now (Err (Some e))
        ⊎ ((e ≡ store_error Unstorable) × EndsWith old.step_limit w mid.now (Err None)) → IsRefused (before ++ w ∷ after) old e
    refused why = record { before = before; tried = w; after = after; among = refl; db = mid.now; made = came.made; refused = why }

    too_long : e ≡ store_error Unstorable → (IsTrue mid.is_open
        → Does mid.step_limit (mode_of mid) w.params mid.now [] shows command (Err None)) → Fail (Told e)
    too_long same does = elim (cases_Bool mid.is_open) [
      | inl runs ↦ inr (inr (inr (refused (inr (same, ends (Err None) runs (does runs))))))
      | inr shut ↦ inr (inr (inl (came.was_shut shut)))
    ]

    by_cause : (cause : StoreError) → e ≡ store_error cause
        → HasCause mid new (IsTrue mid.is_open → Does mid.step_limit (mode_of mid) w.params mid.now [] shows command (Err None)) cause → Fail (Told e)
    by_cause OutOfMemory same why = inl same
    by_cause Io same why = inr (inl (omega (arith, why, came.counts)))
    by_cause Corrupt same why = inr (inl (omega (arith, why, came.counts)))
    by_cause Full same why = inr (inl (omega (arith, why, came.counts)))
    by_cause Broken same why = inr (inr (inl (came.was_shut why)))
    by_cause Unstorable same why = too_long same why

    of_write : FailsToWriteAs shows command w.params mid new e → Fail (Told e)
    of_write (inl had) = absurd (false≢true (sym had.ended ∙ came.under_way))
    of_write (inr (inl (does, same))) = inr (inr (inr (refused (inl (ends (Err (Some e)) same.0.was_open does)))))
    of_write (inr (inr fails)) = by_cause fails.0 fails.1 fails.2

  -- where this write fails after those before it, all of them fail, for its cause
  pub of_store : (e : TableError) → FailsToStore w mid new e → Fail e
  of_store (Told e) (command, means, why) = of_write None command means e why
  of_store RowOfNoOffice why = why

  -- what a write after them shows
  pub tells_after : (Showed : List Row → Type 0) → ShowsInside Showed w.sql w.params mid new → Tells Showed old.step_limit before w old.now
  tells_after Showed (it, so) = record {
    db = mid.now;
    made = came.made;
    tally = it.tally;
    new = new.now;
    ends = record {
      command = it.command;
      shows = it.shows;
      means = it.means;
      does = subst (λ (l : Option _). Does l (mode_of mid) w.params mid.now [] it.shows it.command (Ok (it.tally, new.now))) came.limit it.does;
    };
    showed = so;
  }

  -- the same of a write that answers something of the rows
  pub of_merge : (IsTold : Row → Type 0) (e : TableError) → FailsToMerge IsTold w mid new e → Fail e
      ⊎ ((e ≡ RowOfNoOffice) × Tells (λ rows. ¬ BeginsWith IsTold rows) old.step_limit before w old.now)
  of_merge IsTold (Told e) why = elim why.fails [
    | inl fails ↦ inl (of_write (Some (returning_as why.merging)) (upsert_as why.at why.table why.merging) why.means e fails)
    | inr (none, touched) ↦ inl (inl (cc))
  ]
  of_merge IsTold RowOfNoOffice why = inr (refl, tells_after (λ rows. ¬ BeginsWith IsTold rows) why.fails.1)

-- those of later writes are told of all, whatever were to come after them
module _ (before : List Write) (old mid new : State) (came : Came before old mid) (later after : List Write) where
  refused_later : (e : Error) → IsRefused later mid e → IsRefused (before ++ (later ++ after)) old e
  refused_later e it = record {
    before = before ++ it.before;
    tried = it.tried;
    after = it.after ++ after;
    among = append_assoc before it.before (it.tried ∷ it.after ++ after)
        ∙ ap (λ (l : List Write). before ++ l) (sym (append_assoc it.before (it.tried ∷ it.after) after) ∙ ap (λ (l : List Write). l ++ after) it.among);
    db = it.db;
    made = make_then old.step_limit before it.before old.now mid.now it.db came.made
        (subst (λ (l : Option _). Make l it.before mid.now it.db) came.limit it.made);
    refused = subst (λ (l : Option _). EndsWith l it.tried it.db (Err (Some e))
        ⊎ ((e ≡ store_error Unstorable) × EndsWith l it.tried it.db (Err None))) came.limit it.refused;
  }

  -- where the later writes fail, all of them fail, for the same cause
  pub of_later : (e : TableError) → FailsToWriteAll later mid new e → FailsToWriteAll (before ++ (later ++ after)) old new e
  of_later (Told e) (inl none) = inl none
  of_later (Told e) (inr (inl more)) = inr (inl (omega (arith, more, came.counts)))
  of_later (Told e) (inr (inr (inl shut))) = inr (inr (inl (came.was_shut shut)))
  of_later (Told e) (inr (inr (inr it))) = inr (inr (inr (refused_later e it)))
  of_later RowOfNoOffice why = why

-- what is so of the rows that a write shows, told otherwise
pub tells_as : {P Q : List Row → Type 0} {limit : Option _} {before : List Write} {w : Write} {old : Database} → ((rows : List Row) → P rows → Q rows)
    → Tells P limit before w old → Tells Q limit before w old
tells_as so it = record {
  db = it.db;
  made = it.made;
  tally = it.tally;
  new = it.new;
  ends = it.ends;
  showed = so it.tally.shown it.showed;
}

-- a row is told false, which is told otherwise
pub false_as : {A B C D : Type 0} → (C → D) → A ⊎ (B × C) → A ⊎ (B × D)
false_as so (inl fails) = inl fails
false_as so (inr (is, told)) = inr (is, so told)

-- what one of later writes shows
pub tells_later : {before : List Write} {old mid : State} {Showed : List Row → Type 0} {w : Write} → Came before old mid → (more : List Write)
    → Tells Showed mid.step_limit more w mid.now → Tells Showed old.step_limit (before ++ more) w old.now
tells_later {before = before} {old = old} {mid = mid} {w = w} came more it = record {
  db = it.db;
  made = make_then old.step_limit before more old.now mid.now it.db came.made
      (subst (λ (l : Option _). Make l more mid.now it.db) came.limit it.made);
  tally = it.tally;
  new = it.new;
  ends = subst (λ (l : Option _). EndsWith l w it.db (Ok (it.tally, it.new))) came.limit it.ends;
  showed = it.showed;
}

-- ---- how they end

-- they fail, which is told as another's error
pub ends_off : {T : Type 0} (Fail : List Write → State → State → TableError → Type 0) (writes : List Write) (old new : State)
    (e : TableError) (r : Result T TableError) → IsErrAnd r (λ x. x ≡ e) → Fail writes old new e → End Fail writes old new r
ends_off Fail writes old new e (Ok x) is why = absurd is
ends_off Fail writes old new e (Err x) is why = (tt, subst (Fail writes old new) (sym is) why)

-- a last write after others
pub ends_then : (before : List Write) (old mid new : State) (came : Came before old mid) (w : Write) (r : Result (Unit {0}) TableError)
    → Ends FailsToStore w mid new r → End FailsToWriteAll (before ++ w ∷ []) old new r
ends_then before old mid new came w r (written, fails) =
    (on_ok r (written_then before (w ∷ []) old mid new came) written, if_err r (of_store before old mid new came w []) fails)
