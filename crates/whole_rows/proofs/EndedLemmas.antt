-- What is left of a connection once its store was given up and read.
use Rattle.std.proofs.Common.{◌≡◌, ◌∙◌, IsTrue, ap, inl, inr, refl, arith}
use Rattle.std.proofs.lemmas.Bool.{both_ways, cases_Bool}
use Rattle.sqlite.specs.Effect.{Database}
use Rattle.sqlite.specs.Files.{ExcusesClose, file_state}
use Rattle.sqlite.specs.Held.{Held}
use Rattle.sqlite.specs.State.{KeepsCommit, Survives}
use Rattle.sqlite_disk.specs.Disk.{MoreFaults}
use Rattle.sqlite_disk.specs.declared.Disk.{Ghosts}
use Rattle.sqlite_exec.specs.Calls.{OnlyReads}
use Rattle.sqlite_store.specs.FileStore.{faults, is_shielded, recovers, view}
use Rattle.sqlite_store.specs.declared.store.FileStore.{FileStore}
use Rattle.sqlite_trees.specs.Tree.{Trees}
use Rattle.sqlite_trees.specs.View.{HasCause, IsClean, IsQuiet, IsRolledBack, View}
use Rattle.sqlite_trees.specs.declared.error.StoreError.{StoreError}
use Rattle.sqlite_trees.specs.declared.error.StoreError.TheVariants.{Broken, Corrupt, Full, Io, OutOfMemory, Unstorable}

-- what a read keeps
pub reads_committed : (old new : View) → OnlyReads old new → new.committed ≡ old.committed
reads_committed old new reads = ap (λ (v : View). v.committed) reads

-- a read keeps whether the trees are numbered as the schema's rows are
pub reads_numbered : (old new : View) → OnlyReads old new → new.is_numbered ≡ old.is_numbered
reads_numbered old new reads = ap (λ (v : View). v.is_numbered) reads

-- a read of a store that was open leaves it open
pub reads_open : (old new : View) → OnlyReads old new → IsTrue old.is_open → IsTrue new.is_open
reads_open old new reads was = ap (λ (v : View). v.is_open) reads ∙ was

module _ {D : Type 0} {g : Ghosts D} (conn : Held (FileStore D g)) where
  -- a store to which nothing happened leaves the connection nothing new
  pub survives : (last : FileStore D g) → IsQuiet view faults recovers is_shielded conn.store last
      → Survives (file_state conn) (file_state (record conn { store = last })) (λ _. ⊥)
  survives last quiet = record {
    clean = quiet.clean;
    shield = quiet.shield;
    counts = quiet.counts;
    limit = refl;
    closes = quiet.closes;
    crash = λ clean db may. inl (quiet.outcomes db may);
  }

  -- a rollback and a read keep the last commit
  pub keeps : (back last : FileStore D g) → IsRolledBack (view conn.store) (view back) → IsClean (view back)
      → (IsTrue (view last).is_open → IsTrue (view back).is_open × ((view last).committed ≡ (view back).committed))
      → KeepsCommit (file_state conn) (file_state (record conn { store = last }))
  keeps back last undone clean read = record {
    was_open = λ is_open. (undone.kept clean).was_open (read is_open).0;
    committed = λ is_open.
        ap (λ (trees : Trees). let db : Database = record (file_state conn).committed { trees = trees } in db)
        ((read is_open).1 ∙ (undone.kept clean).committed (read is_open).0);
  }

  -- why a store fails that the connection gave up
  pub excused : (back last : FileStore D g) (e : StoreError) → IsQuiet view faults recovers is_shielded conn.store back
      → IsQuiet view faults recovers is_shielded back last → IsRolledBack (view conn.store) (view back) → IsClean (view last)
      → HasCause (view back) (MoreFaults (faults back) (faults last)) ⊥ e → ExcusesClose conn last e
  excused back last OutOfMemory first q undone clean h = tt
  excused back last Io first q undone clean h = let counts = first.counts in omega (arith, h)
  excused back last Corrupt first q undone clean h = let counts = first.counts in omega (arith, h)
  excused back last Full first q undone clean h = let counts = first.counts in omega (arith, h)
  excused back last Unstorable first q undone clean h = h
  excused back last Broken first q undone clean h = elim (cases_Bool (view conn.store).is_open) [
    | inl was ↦ elim (first.closes (omega (arith, q.clean, clean)) was) [
      | inl still ↦ absurd (both_ways _ (undone.undone still).1 h)
      | inr fault ↦ inr (let counts = q.counts in omega (arith, fault))
    ]
    | inr shut ↦ inl shut
  ]
