-- Why a read of the tables fails, and what is answered.
use Rattle.std.proofs.Common.{◌≡◌, ℕ, true, arith, refl, sym, inl, inr, ◌∙◌}
use Rattle.std.proofs.lemmas.Bool.{cases_Bool}
use Rattle.sqlite.specs.Effect.{Database}
use Rattle.sqlite.specs.State.{HasCause, HasCleanDisk, State, Survives, store_error}
use Rattle.sqlite.specs.Held.{Held, state}
use Rattle.sqlite.specs.declared.error.Error.{Error}
use Rattle.sqlite_trees.specs.declared.error.StoreError.{StoreError}
use Rattle.sqlite_trees.specs.declared.store.Store.{Ghosts}
use Rattle.sqlite_trees.specs.declared.error.StoreError.TheVariants.{OutOfMemory, Io, Corrupt, Full, Broken, Unstorable}
use Rattle.one_table.specs.Reading.{FailsPlainly}
use Rattle.office_rules.specs.declared.decision.change.Edit.{Edit}
use Rattle.office_rules.specs.declared.decision.refusal.Refusal.{Refusal}
use Rattle.office_rules.specs.declared.decision.refusal.Refusal.TheVariants.{Store}
use Rattle.book_tables.specs.writing.Failing.{IsRefused}
use Rattle.book_tables.specs.writing.Writes.{writes_of}
use Rattle.book_tables.specs.reading.Reading.{FailsToRead, HasAllTables}
use Rattle.book_tables.specs.declared.error.TableError.{TableError}
use Rattle.book_tables.specs.declared.error.TableError.TheVariants as fails
use Rattle.book_states.specs.Failing.{EditHasFailed, FailsToMakeEdit, HasFailedAt, IsToldOfRead, refusal_for}

-- a read that is answered as a failure of the store has one of its causes, where a row of no office
-- is told only for this
module _ (old new : State) (IsSpoilt : Database → Type 0) where
  caused : (e : Error) → refusal_for (fails.Database e) ≡ Store → (cause : StoreError) → e ≡ store_error cause → HasCause old new ⊥ cause
      → HasFailedAt IsSpoilt old new
  caused e is OutOfMemory same why = absurd (let told = rw same at is in cc)
  caused e is Io same why = inl why
  caused e is Corrupt same why = inl why
  caused e is Full same why = inl why
  caused e is Broken same why = inr (inl why)
  caused e is Unstorable same why = absurd why

  plainly : (e : Error) → refusal_for (fails.Database e) ≡ Store → FailsPlainly old new e → HasFailedAt IsSpoilt old new
  plainly e is (inl why) = caused e is why.0 why.1 why.2
  plainly e is (inr limit) = inr (inr (inl limit.1))

  -- a read answered as a failure of the store has one of its causes
  pub has_failed : (e : TableError) → FailsToRead old new e → (e ≡ fails.RowOfNoOffice → IsSpoilt old.now) → refusal_for e ≡ Store
      → HasFailedAt IsSpoilt old new
  has_failed (fails.Database e) (inl why) spoilt is = elim (cases_Bool old.is_open) [ inl is_open ↦ plainly e is (why is_open) | inr shut ↦ inr (inl shut) ]
  has_failed (fails.Database e) (inr why) spoilt is = absurd (let told = rw why.0 at is in cc)
  has_failed fails.RowOfNoOffice why spoilt is = inr (inr (inr (spoilt refl)))

-- a read that fails is told of by the refusal that its error is answered with
pub told_of_read : (old new : State) {IsSpoilt : Database → Type 0} (e : TableError) (refusal : Refusal) → refusal ≡ refusal_for e → FailsToRead old new e
    → (e ≡ fails.RowOfNoOffice → IsSpoilt old.now) → HasCleanDisk new → Survives old new (λ _. ⊥) → IsToldOfRead IsSpoilt refusal old new
told_of_read old new {IsSpoilt} e refusal answered why spoilt clean survives = record {
  error = e;
  answered = answered;
  fails = why;
  failed = λ is. has_failed old new IsSpoilt e why spoilt (sym answered ∙ is);
  still_open = survives.closes clean;
}

-- An edit that is answered as a failure of the store has one of its causes, by what the connection
-- was before its transaction was begun, and is after it was undone.
module _ {S : Type 0} (g : Ghosts S) (edit : Edit) (prior : ℕ) (old left : Held S) (new : State) (later : Survives (state g left) new (λ _. ⊥)) where
  abbrev begun : Held S
  begun = record old { in_transaction = true }

  refused_before : (e : Error) → IsRefused (writes_of edit) (state g begun) e → IsRefused (writes_of edit) (state g old) e
  refused_before e it = record { before = it.before; tried = it.tried; after = it.after; among = it.among; db = it.db; made = it.made; refused = it.refused }

  by_cause : (e : TableError) → refusal_for e ≡ Store → FailsToMakeEdit edit prior (state g begun) (state g left) e
      → EditHasFailed edit prior e (state g old) new
  by_cause (fails.Database e) is (inl (inl none)) = absurd (let told = rw none at is in cc)
  by_cause (fails.Database e) is (inl (inr (inl more))) = inl (omega (arith, more, later.counts))
  by_cause (fails.Database e) is (inl (inr (inr (inl shut)))) = inr (inl shut)
  by_cause (fails.Database e) is (inl (inr (inr (inr refused)))) = inr (inr (inl (e, refl, refused_before e refused)))
  by_cause fails.RowOfNoOffice is (inl why) = absurd why
  by_cause e is (inr (inl none)) = inr (inr (inr (inl none)))
  by_cause e is (inr (inr told)) = inr (inr (inr (inr told)))

  -- an edit answered as a failure of the store has one of its causes
  pub edit_failed : (e : TableError) → refusal_for e ≡ Store → HasAllTables (state g old)
      → (HasAllTables (state g begun) → FailsToMakeEdit edit prior (state g begun) (state g left) e) → EditHasFailed edit prior e (state g old) new
  edit_failed e is has why = by_cause e is (why has)
