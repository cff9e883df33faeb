-- Why an opening fails, by the call of it that fails.
use Rattle.std.proofs.Common.{◌≡◌, ◌<◌, ℕ, List, IsTrue, IsErrAnd, IfErr, Result, Ok, Err, refl, sym, subst, inl, inr}
use Rattle.std.proofs.lemmas.Result.{IfErr-weaker}
use Rattle.sqlite.specs.Effect.{Database}
use Rattle.sqlite.specs.Held.{Held, state}
use Rattle.sqlite.specs.State.{Fails, IsUnchanged, State, Survives}
use Rattle.sqlite.specs.declared.error.Error.{Error}
use Rattle.sqlite.specs.declared.error.Error.TheVariants.{SqliteFailure}
use Rattle.sqlite.specs.declared.error.ErrorCode.TheVariants.{OutOfMemory}
use Rattle.sqlite.proofs.Callers.{unchanged_then}
use Rattle.sqlite.proofs.StateLemmas.{survives_then}
use Rattle.sqlite_trees.specs.declared.store.Store.{Ghosts}
use Rattle.one_table.specs.Committing.{FailsAtCommit, FailsInside, HasBeen}
use Rattle.one_table.specs.declared.committing.CommitFault.TheVariants.{Unmade}
use Rattle.office_rules.specs.declared.office.sale.Sale.{Sale}
use Rattle.book_tables.specs.Holds.{HasOfficeOf}
use Rattle.book_tables.specs.format.Making.{FailsToBring, IsSoundOfFormat}
use Rattle.book_tables.specs.reading.Reading.{FailsToReadOf}
use Rattle.book_tables.specs.row.Rows.{Rows, present_format}
use Rattle.book_tables.specs.declared.error.TableError.{TableError}
use Rattle.book_tables.specs.declared.error.TableError.TheVariants as table
use Rattle.book_tables.specs.declared.reading.pages.MeterRow.{MeterRow}
use Rattle.audit.specs.Fails.{StopsBy}
use Rattle.audit_rows.specs.Listing.{FailsToList}
use Rattle.audit_rows.specs.declared.finding.AuditFault.{AuditFault}
use Rattle.audit_rows.specs.declared.finding.AuditFault.TheVariants as audit
use Rattle.audit_rows.specs.declared.finding.Finding.{Finding}
use Rattle.audit_rows.proofs.PassedLemmas.{lists_after}
use Rattle.book_states.proofs.StayLemmas.{nothing_same}
use Rattle.book_opening.specs.Opening.{BringsSound, FailsToBringUp, FailsToLook, FailsToOpen, IsSoundWith, StopsBringing, fault_of, fault_of_audit, fault_of_table}
use Rattle.book_opening.specs.declared.fault.OpenFault.{OpenFault}
use Rattle.book_opening.specs.declared.fault.OpenFault.TheVariants.{Store, Memory}
use Rattle.book_opening.specs.declared.sold_so_far.SoldSoFar.{SoldSoFar}

-- an open connection is as it is
unchanged : (s : State) → IsTrue s.is_open → IsUnchanged s s
unchanged s runs = (
  record { was_open = runs; is_open = runs; now_is = refl; committed_is = refl; mode = refl },
  record { changes = refl; last_rowid = refl },
  refl,
)

-- ---- a look at the store

looked : (old new : State) (e : Error) → IsTrue old.is_open → FailsToList old new e → FailsToLook old new e
looked old new e runs (inl plain) = inl (plain runs)
looked old new e runs (inr memory) = inr memory

listed : (old new : State) (e : Error) → FailsToLook old new e → FailsToList old new e
listed old new e (inl plain) = inl (λ _. plain)
listed old new e (inr memory) = inr memory

module _ {S : Type 0} (g : Ghosts S) (old new : State) where
  -- the connection is not open, or not found to be
  pub fails_open : (e : Error) (fault : OpenFault) → fault ≡ fault_of e → Fails old new ⊥ e → FailsToOpen g old new fault
  fails_open e fault is fails = λ named. inl (e, is, inl (inl fails))

  -- a table of it is not read
  pub fails_table : (Has : Database → Rows → Type 0) (e : TableError) (fault : OpenFault) → fault ≡ fault_of_table e → IsTrue old.is_open
      → FailsToReadOf Has old new e
      → FailsToOpen g old new fault
  fails_table Has (table.Database why) fault is runs fails = λ named. inl (why, is, looked old new why runs fails)
  fails_table Has table.RowOfNoOffice fault is runs fails = λ named. absurd (named is)

  -- nor are all
  pub fails_audit : (Says : Finding → Database → Type 0) (e : AuditFault) (fault : OpenFault) → fault ≡ fault_of_audit e
      → IsTrue old.is_open → StopsBy Says old new e
      → FailsToOpen g old new fault
  fails_audit Says (audit.Failed why) fault is runs fails = λ named. inl (why, is, looked old new why runs fails)
  fails_audit Says (audit.Found f) fault is runs fails = λ named. absurd (named is)
  fails_audit Says audit.NoOffice fault is runs fails = λ named. absurd (named is)

-- its schema is not compared
pub fails_schema : {S : Type 0} (g : Ghosts S) (s : State) → IsTrue s.is_open → FailsToOpen g s s Memory
fails_schema g s runs = λ named. inl (SqliteFailure OutOfMemory, refl, inr (refl, unchanged s runs))

-- ---- after a look that left all as it was

module _ {S : Type 0} (g : Ghosts S) (old mid new : State) (same : IsUnchanged old mid) (survives : Survives old mid (λ _. ⊥)) where
  look_after : (e : Error) → FailsToLook mid new e → FailsToLook old new e
  look_after e fails = looked old new e same.0.was_open (lists_after old mid new same survives e (listed mid new e fails))

  stops_after : (fault : OpenFault) → StopsBringing g mid new fault → StopsBringing g old new fault
  stops_after fault stops = record {
    conn = stops.conn;
    same = unchanged_then old mid (state g stops.conn) same stops.same;
    survives = survives_then old mid (state g stops.conn) _ _ (λ _. ⊥) (λ _ db none. none) (λ _ db none. none) survives stops.survives;
    from = stops.from;
    older = stops.older;
    had = subst (λ (db : Database). HasOfficeOf stops.from db.schema) same.0.now_is stops.had;
    fails = stops.fails;
  }

  -- what fails an opening after looks that changed nothing fails it from before them on
  pub fails_after : (r : Result SoldSoFar OpenFault) → IfErr r (FailsToOpen g mid new) → IfErr r (FailsToOpen g old new)
  fails_after r = IfErr-weaker r (FailsToOpen g mid new) (FailsToOpen g old new) (λ fault fails named. elim (fails named) [
    | inl look ↦ inl (look.0, look.1, look_after look.0 look.2)
    | inr stops ↦ inr (stops_after fault stops)
  ])

-- ---- a bringing

module _ {S : Type 0} (g : Ghosts S) (from : ℕ) (conn : Held S) (new : State) where
  -- where bringing an older file up fails, the opening fails for that
  pub fails_bringing : (fault : OpenFault) (r : Result SoldSoFar OpenFault) → IsErrAnd r (λ x. x ≡ fault) → from < present_format → IsTrue (state g conn).is_open
      → HasOfficeOf from (state g conn).now.schema → FailsToBringUp g from conn new fault → IfErr r (FailsToOpen g (state g conn) new)
  fails_bringing fault (Ok x) is older runs has fails = absurd is
  fails_bringing fault (Err x) is older runs has fails =
      subst (FailsToOpen g (state g conn) new) (sym is) (λ named. inr (record {
        conn = conn;
        same = unchanged (state g conn) runs;
        survives = (nothing_same (state g conn)).survives;
        from = from;
        older = older;
        had = has;
        fails = fails;
      }))

  module _ (meters : List MeterRow) (sales : List Sale) (with : IsSoundWith from meters sales (state g conn)) where
    -- a write of it failed
    pub fails_unmade : (e : TableError) (fault : OpenFault) → fault ≡ fault_of_table e
        → FailsInside g (λ (s t : State) (why : TableError). IsSoundOfFormat from s → FailsToBring g from meters sales s t why) conn new
        (Unmade e) → FailsToBringUp g from conn new fault
    fails_unmade (table.Database why) fault is fails = inl (meters, sales, with, why, is, (fails.0, fails.1 (λ runs. ((with runs).0, (with runs).1)), fails.2))
    fails_unmade table.RowOfNoOffice fault is fails = absurd (fails.1 (λ runs. ((with runs).0, (with runs).1)))

    -- its commit failed
    pub fails_commit : (e : Error) → HasBeen g (λ (made : State). FailsAtCommit (BringsSound from meters sales) (state g conn) made new e)
        → FailsToBringUp g from conn new Store
    fails_commit e been =
        let at = been.1 in
        let it = with at.was_open in
        inr (
          refl,
          (
            e,
            (
              been.0,
              record {
                was_open = at.was_open;
                makes = at.makes it.0 it.1 it.2;
                is_open = at.is_open;
                inside = at.inside;
                survives = at.survives;
                fails = at.fails;
              },
            ),
          ),
        )
