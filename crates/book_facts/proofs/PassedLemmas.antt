-- Reads of the office's tables, one after another: what they leave, and why a later one fails.
use Rattle.std.proofs.Common.{◌≡◌, ◌≤◌, false, IsTrue, Result, Ok, Err, refl, sym, ◌∙◌, subst, inl, inr, arith}
use Rattle.std.proofs.lemmas.Bool.{both_ways, true_from_ne_false}
use Rattle.sqlite_trees.specs.declared.error.StoreError.{StoreError}
use Rattle.sqlite_trees.specs.declared.error.StoreError.TheVariants.{OutOfMemory, Io, Corrupt, Full, Broken, Unstorable}
use Rattle.sqlite_trees.proofs.Doubt.{no_doubt}
use Rattle.sqlite.specs.Effect.{Database}
use Rattle.sqlite.specs.State.{HasCause, HasCleanDisk, IsRolledBack, IsUnchanged, KeepsCounts, State, Survives}
use Rattle.sqlite.specs.declared.error.Error.{Error}
use Rattle.sqlite.proofs.StateLemmas.{survives_then}
use Rattle.one_table.specs.Answer.{IsLeft}
use Rattle.one_table.specs.Reading.{FailsPlainly}
use Rattle.book_tables.specs.Holds.{HasOffice, Holds}
use Rattle.book_tables.specs.reading.Reading.{FailsToRead, HasAllTables, OnlyReads}
use Rattle.book_tables.specs.declared.error.TableError.{TableError}
use Rattle.book_tables.specs.declared.error.TableError.TheVariants as table
use Rattle.book_states.specs.Same.{IsSame}

-- all is as it was, whether the connection is open or shut
pub record IsUntouched (old new : State) : Type 0 where
  pub is_open : new.is_open ≡ old.is_open
  pub now_is : new.now ≡ old.now
  pub committed_is : new.committed ≡ old.committed
  pub mode : new.in_transaction ≡ old.in_transaction
  pub counts : KeepsCounts old new
  pub marks : new.marks ≡ old.marks

-- where no read is made, nothing is touched
pub untouched : (s : State) → IsUntouched s s
untouched s = record { is_open = refl; now_is = refl; committed_is = refl; mode = refl; counts = record { changes = refl; last_rowid = refl }; marks = refl }

module _ (old mid new : State) (before : IsUntouched old mid) where
  -- what two reads in turn leave untouched, both together leave untouched
  pub untouched_after : IsUntouched mid new → IsUntouched old new
  untouched_after after = record {
    is_open = after.is_open ∙ before.is_open;
    now_is = after.now_is ∙ before.now_is;
    committed_is = after.committed_is ∙ before.committed_is;
    mode = after.mode ∙ before.mode;
    counts = record { changes = after.counts.changes ∙ before.counts.changes; last_rowid = after.counts.last_rowid ∙ before.counts.last_rowid };
    marks = after.marks ∙ before.marks;
  }

  -- what is unchanged after an untouched state is unchanged since before it
  pub unchanged_after : IsUnchanged mid new → IsUnchanged old new
  unchanged_after same = (
    record {
      was_open = sym before.is_open ∙ same.0.was_open;
      is_open = same.0.is_open;
      now_is = same.0.now_is ∙ before.now_is;
      committed_is = same.0.committed_is ∙ before.committed_is;
      mode = same.0.mode ∙ before.mode;
    },
    record { changes = same.1.changes ∙ before.counts.changes; last_rowid = same.1.last_rowid ∙ before.counts.last_rowid },
    same.2 ∙ before.marks,
  )

  back_after : IsRolledBack mid new → IsRolledBack old new
  back_after back = record {
    was_open = λ k. sym before.is_open ∙ back.was_open k;
    undone = λ k. ((back.undone k).0 ∙ before.committed_is, (back.undone k).1 ∙ before.committed_is);
    autocommit = back.autocommit;
    unmarked = back.unmarked;
    counts = record { changes = back.counts.changes ∙ before.counts.changes; last_rowid = back.counts.last_rowid ∙ before.counts.last_rowid };
  }

  -- and what is left of it is left of the one before
  pub left_after : IsLeft mid new → IsLeft old new
  left_after (inl same) = inl (unchanged_after same)
  left_after (inr back) = inr (back_after back)

  module _ (survives : Survives old mid (λ _. ⊥)) where
    caused_after : (cause : StoreError) → HasCause mid new ⊥ cause → HasCause old new ⊥ cause
    caused_after OutOfMemory why = tt
    caused_after Io why = let counts : old.faults ≤ mid.faults = survives.counts in omega arith
    caused_after Corrupt why = let counts : old.faults ≤ mid.faults = survives.counts in omega arith
    caused_after Full why = let counts : old.faults ≤ mid.faults = survives.counts in omega arith
    caused_after Broken why = sym before.is_open ∙ why
    caused_after Unstorable why = why

    plainly_after : (e : Error) → FailsPlainly mid new e → FailsPlainly old new e
    plainly_after e (inl why) = inl (why.0, why.1, caused_after why.0 why.2, back_after why.3, why.4)
    plainly_after e (inr why) = inr (why.0, rw (← survives.limit) why.1, unchanged_after why.2)

    fails_after : (e : TableError) → FailsToRead mid new e → FailsToRead old new e
    fails_after (table.Database e) (inl why) = inl (λ was_open. plainly_after e (why (before.is_open ∙ was_open)))
    fails_after (table.Database e) (inr why) = inr (why.0, unchanged_after why.1)
    fails_after table.RowOfNoOffice why = (λ rows held. why.0 rows (subst (λ (db : Database). Holds db rows) (sym before.now_is) held), unchanged_after why.1)

-- what is unchanged is untouched
pub untouched_if : (old new : State) → IsUnchanged old new → IsUntouched old new
untouched_if old new same = record {
  is_open = same.0.is_open ∙ sym same.0.was_open;
  now_is = same.0.now_is;
  committed_is = same.0.committed_is;
  mode = same.0.mode;
  counts = same.1;
  marks = same.2;
}

-- what is left where all is as it was
pub same_if : (old new : State) → IsUntouched old new → IsSame old new
same_if old new as_was = record { was_open = λ is_open. sym as_was.is_open ∙ is_open; now_is = λ _. as_was.now_is }

-- reads so far, none of which failed
pub record HasPassed (old now : State) : Type 0 where
  pub survives : HasAllTables old → Survives old now (λ _. ⊥)
  pub same : HasCleanDisk now → HasAllTables old → IsUntouched old now
  pub mode : old.in_transaction ≡ false → now.in_transaction ≡ false
  pub shut : now.is_clean ≡ false → now.is_open ≡ false

-- before the first read, none has failed
pub passed_none : (s : State) → (s.is_clean ≡ false → s.is_open ≡ false) → HasPassed s s
passed_none s shut = record {
  survives = λ _. record { clean = omega arith; shield = λ k. k; counts = omega arith; limit = refl; closes = λ _ k. inl k; crash = λ _ db k. inl k };
  same = λ _ _. untouched s;
  mode = λ outside. outside;
  shut = shut;
}

-- a read that succeeds has passed
pub passed : {T : Type 0} {x : T} {old new : State} → OnlyReads IsUnchanged old new (Ok x) → (new.is_clean ≡ false → new.is_open ≡ false) → HasPassed old new
passed {T} {x} {old} {new} this shut = record {
  survives = this.survives;
  same = λ clean has. untouched_if old new (this.same clean has);
  mode = this.mode;
  shut = shut;
}

-- what is open is clean
clean_if_open : (s : State) → (s.is_clean ≡ false → s.is_open ≡ false) → IsTrue s.is_open → HasCleanDisk s
clean_if_open s shut is_open = no_doubt s.is_clean (true_from_ne_false s.is_clean (λ dirty. both_ways s.is_open (shut dirty) is_open))

-- the tables are there after reads that passed
pub tables_after : {old mid : State} → HasPassed old mid → HasAllTables old → HasAllTables mid
tables_after {old} {mid} before has is_open =
    let same = before.same (clean_if_open mid before.shut is_open) has in
    subst (λ (db : Database). HasOffice db.schema) (sym same.now_is) (has (sym same.is_open ∙ is_open))

module _ (old mid new : State) (before : HasPassed old mid) (survives : HasAllTables mid → Survives mid new (λ _. ⊥)) (has : HasAllTables old) where
  survives_after : Survives old new (λ _. ⊥)
  survives_after = survives_then old mid new _ _ (λ _. ⊥) (λ _ db none. none) (λ _ db none. none) (before.survives has) (survives (tables_after before has))

  -- what the earlier reads left, where the disk is clean after the last one
  pub earlier : HasCleanDisk new → IsUntouched old mid
  earlier clean = before.same (omega (arith, (survives (tables_after before has)).clean, clean)) has

-- a disk that is clean after a read was clean before it
pub clean_before : {old mid new : State} → HasPassed old mid → (HasAllTables mid → Survives mid new (λ _. ⊥)) → HasAllTables old
    → HasCleanDisk new → HasCleanDisk mid
clean_before before survives has clean = omega (arith, (survives (tables_after before has)).clean, clean)

-- a read that succeeds after others has passed with them
pub passed_after : {T : Type 0} {x : T} {old mid new : State} → HasPassed old mid → OnlyReads IsUnchanged mid new (Ok x)
    → (new.is_clean ≡ false → new.is_open ≡ false) → HasPassed old new
passed_after {T} {x} {old} {mid} {new} before this shut = record {
  survives = survives_after old mid new before this.survives;
  same = λ clean has. untouched_after old mid new (earlier old mid new before this.survives has clean)
      (untouched_if mid new (this.same clean (tables_after before has)));
  mode = λ outside. this.mode (before.mode outside);
  shut = shut;
}

-- reads after others
pub passed_then : {old mid new : State} → HasPassed old mid → HasPassed mid new → HasPassed old new
passed_then {old} {mid} {new} before after = record {
  survives = survives_after old mid new before after.survives;
  same = λ clean has. untouched_after old mid new (earlier old mid new before after.survives has clean) (after.same clean (tables_after before has));
  mode = λ outside. after.mode (before.mode outside);
  shut = after.shut;
}

-- a read after others
pub read_after : {T : Type 0} {r : Result T TableError} {old mid new : State} → HasPassed old mid → OnlyReads IsUnchanged mid new r
    → OnlyReads IsUnchanged old new r
read_after {T} {r = Ok x} {old} {mid} {new} before this = record {
  same = λ clean has. unchanged_after old mid new (earlier old mid new before this.survives has clean) (this.same clean (tables_after before has));
  kept = λ _ _. tt;
  mode = λ outside. this.mode (before.mode outside);
  faults = λ _ _. tt;
  survives = survives_after old mid new before this.survives;
}
read_after {T} {r = Err e} {old} {mid} {new} before this = record {
  same = λ _ _. tt;
  kept = λ clean has. left_after old mid new (earlier old mid new before this.survives has clean) (this.kept clean (tables_after before has));
  mode = λ outside. this.mode (before.mode outside);
  faults = λ clean has. fails_after old mid new (earlier old mid new before this.survives has clean) (before.survives has) e
      (this.faults clean (tables_after before has));
  survives = survives_after old mid new before this.survives;
}

-- a failure for which a read that succeeded gives a reason
pub stops_on : {T U : Type 0} {x : T} {old new : State} (e : TableError) → OnlyReads IsUnchanged old new (Ok x)
    → (HasCleanDisk new → HasAllTables old → FailsToRead old new e) → OnlyReads {T = U} IsUnchanged old new (Err e)
stops_on e this why = record { same = λ _ _. tt; kept = λ clean has. inl (this.same clean has); mode = this.mode; faults = why; survives = this.survives }

-- what the reads leave
pub passed_same : {old now : State} → HasPassed old now → HasCleanDisk now → HasAllTables old → IsSame old now
passed_same {old} {now} before clean has = same_if old now (before.same clean has)

-- reads that all passed leave the store the same
pub passed_reads : {T : Type 0} {x : T} {old now : State} → HasPassed old now → OnlyReads IsSame old now (Ok x)
passed_reads before = record { same = passed_same before; kept = λ _ _. tt; mode = before.mode; faults = λ _ _. tt; survives = before.survives }

-- what is unchanged is the same
pub same_on : {T : Type 0} {r : Result T TableError} {old new : State} → OnlyReads IsUnchanged old new r → OnlyReads IsSame old new r
same_on {T} {r = Ok x} {old} {new} this = record {
  same = λ clean has. same_if old new (untouched_if old new (this.same clean has));
  kept = λ _ _. tt;
  mode = this.mode;
  faults = λ _ _. tt;
  survives = this.survives;
}
same_on {T} {r = Err e} this = record { same = λ _ _. tt; kept = this.kept; mode = this.mode; faults = this.faults; survives = this.survives }
