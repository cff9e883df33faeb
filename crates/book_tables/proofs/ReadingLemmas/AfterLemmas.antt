-- A read of a table after another of it that succeeded.
use Rattle.std.proofs.Common.{◌≡◌, ◌≤◌, false, IsTrue, Result, Ok, Err, sym, ◌∙◌, subst, inl, inr, arith}
use Rattle.std.proofs.lemmas.Bool.{both_ways, true_from_ne_false}
use Rattle.sqlite_trees.specs.declared.error.StoreError.{StoreError}
use Rattle.sqlite_trees.specs.declared.error.StoreError.TheVariants.{OutOfMemory, Io, Corrupt, Full, Broken, Unstorable}
use Rattle.sqlite_trees.proofs.Doubt.{no_doubt}
use Rattle.sqlite.specs.Effect.{Database}
use Rattle.sqlite.specs.State.{HasCause, HasCleanDisk, IsRolledBack, IsUnchanged, State, Survives}
use Rattle.sqlite.specs.declared.error.Error.{Error}
use Rattle.sqlite.proofs.Callers.{unchanged_then}
use Rattle.sqlite.proofs.StateLemmas.{survives_then}
use Rattle.one_table.specs.Reading.{FailsPlainly}
use Rattle.one_table.proofs.AnswerLemmas.{left_then}
use Rattle.book_tables.specs.Holds.{IsKept}
use Rattle.book_tables.specs.Kept.{Kept}
use Rattle.book_tables.specs.reading.Reading.{FailsToReadOf, HasTable, HasTableRows, ReadsTable, TableHolds}
use Rattle.book_tables.specs.row.Rows.{Rows}
use Rattle.book_tables.specs.declared.error.TableError.{TableError}
use Rattle.book_tables.specs.declared.error.TableError.TheVariants.{Database as Failed, RowOfNoOffice}

-- ---- why a later read fails

module _ (old mid new : State) (same : IsUnchanged old mid) (survives : Survives old mid (λ _. ⊥)) where
  back_after : IsRolledBack mid new → IsRolledBack old new
  back_after back = record {
    was_open = λ k. same.0.was_open;
    undone = λ k. ((back.undone k).0 ∙ same.0.committed_is, (back.undone k).1 ∙ same.0.committed_is);
    autocommit = back.autocommit;
    unmarked = back.unmarked;
    counts = record { changes = back.counts.changes ∙ same.1.changes; last_rowid = back.counts.last_rowid ∙ same.1.last_rowid };
  }

  caused_after : (cause : StoreError) → HasCause mid new ⊥ cause → HasCause old new ⊥ cause
  caused_after OutOfMemory why = tt
  caused_after Io why = let counts : old.faults ≤ mid.faults = survives.counts in omega arith
  caused_after Corrupt why = let counts : old.faults ≤ mid.faults = survives.counts in omega arith
  caused_after Full why = let counts : old.faults ≤ mid.faults = survives.counts in omega arith
  caused_after Broken why = absurd (both_ways mid.is_open why same.0.is_open)
  caused_after Unstorable why = why

  plainly_after : (e : Error) → FailsPlainly mid new e → FailsPlainly old new e
  plainly_after e (inl why) = inl (why.0, why.1, caused_after why.0 why.2, back_after why.3, why.4)
  plainly_after e (inr why) = inr (why.0, rw (← survives.limit) why.1, unchanged_then old mid new same why.2)

  fails_after : (k : Kept) (e : TableError) → FailsToReadOf (TableHolds k) mid new e → FailsToReadOf (TableHolds k) old new e
  fails_after k (Failed e) (inl why) = inl (λ was_open. plainly_after e (why same.0.is_open))
  fails_after k (Failed e) (inr why) = inr (why.0, unchanged_then old mid new same why.1)
  fails_after k RowOfNoOffice why = (
    λ rows held. why.0 rows (subst (λ (db : Database). TableHolds k db rows) (sym same.0.now_is) held),
    unchanged_then old mid new same why.1,
  )

-- ---- what both leave

-- a connection that is open has had no fault
module _ (k : Kept) {T : Type 0} {x : T} {old mid : State} (first : ReadsTable k old mid (Ok x)) (shut : mid.is_clean ≡ false → mid.is_open ≡ false) where
  same_if_open : HasTable k old → IsTrue mid.is_open → IsUnchanged old mid
  same_if_open has is_open = first.same (no_doubt mid.is_clean (true_from_ne_false mid.is_clean (λ dirty. both_ways mid.is_open (shut dirty) is_open))) has

  -- an open connection still has the table after a read that succeeded
  pub has_after : HasTable k old → HasTable k mid
  has_after has is_open =
      let same = same_if_open has is_open in
      subst (λ (db : Database). IsKept db.schema k) (sym same.0.now_is) (has same.0.was_open)

  -- the table still has the same rows after a read that succeeded
  pub rows_after : (rows : Rows) → HasTableRows k old rows → HasTableRows k mid rows
  rows_after rows has is_open =
      let same = same_if_open (λ runs. (has runs).0) is_open in
      subst (λ (db : Database). TableHolds k db rows) (sym same.0.now_is) (has same.0.was_open)

  module _ {U : Type 0} {new : State} where
    -- where the disk is clean after the second read, it was clean after the first
    pub was_clean : (r : Result U TableError) → ReadsTable k mid new r → HasTable k old → HasCleanDisk new → HasCleanDisk mid
    was_clean r second has clean = omega (arith, (second.survives (has_after has)).clean, clean)

    both_survive : (r : Result U TableError) → ReadsTable k mid new r → HasTable k old → Survives old new (λ _. ⊥)
    both_survive r second has = survives_then old mid new _ _ (λ _. ⊥) (λ _ db none. none) (λ _ db none. none) (first.survives has)
        (second.survives (has_after has))

    -- a second read after one that succeeded is a read from the state before the first
    pub read_after : (r : Result U TableError) → ReadsTable k mid new r → ReadsTable k old new r
    read_after (Ok y) second = record {
      same = λ clean has. unchanged_then old mid new (first.same (was_clean (Ok y) second has clean) has) (second.same clean (has_after has));
      kept = λ _ _. tt;
      mode = λ outside. second.mode (first.mode outside);
      faults = λ _ _. tt;
      survives = both_survive (Ok y) second;
    }
    read_after (Err e) second = record {
      same = λ _ _. tt;
      kept = λ clean has. left_then old mid new (first.same (was_clean (Err e) second has clean) has) (second.kept clean (has_after has));
      mode = λ outside. second.mode (first.mode outside);
      faults = λ clean has. fails_after old mid new (first.same (was_clean (Err e) second has clean) has) (first.survives has) k e
          (second.faults clean (has_after has));
      survives = both_survive (Err e) second;
    }
