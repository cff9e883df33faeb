-- One edit that was made in a transaction, and how the commit ends.
use Rattle.std.proofs.Common.{◌≡◌, ◌⊎◌, ◌≤◌, ℕ, false, IsTrue, Option, None, Some, Ok, Err, Result, sym, ap, subst, ◌∙◌, inl, inr, arith}
use Rattle.std.proofs.lemmas.Bool.{cases_Bool, false≢true}
use Rattle.sqlite_disk.specs.Disk.{MoreFaults}
use Rattle.sqlite.specs.declared.error.Error.{Error}
use Rattle.sqlite.specs.declared.error.Error.TheVariants.{SqliteFailure}
use Rattle.sqlite.specs.declared.error.ErrorCode.TheVariants.{TooBig}
use Rattle.sqlite.specs.Effect.{Database}
use Rattle.sqlite.specs.Held.{state}
use Rattle.sqlite.specs.State.{HasCleanDisk, State, Survives}
use Rattle.sqlite.proofs.StateLemmas.{survives_then}
use Rattle.sqlite_trees.specs.Tree.{Trees}
use Rattle.sqlite_trees.specs.declared.store.Store.{Ghosts}
use Rattle.one_table.specs.Committing.{FailsAtCommit, HasBeen, HasCommitted, IsUndone, LeavesMade}
use Rattle.office_rules.specs.Decision.Edits.{applied}
use Rattle.office_rules.specs.Office.{IsOffice, Office}
use Rattle.office_rules.specs.Law.Store.{Meets}
use Rattle.office_rules.specs.declared.decision.change.Edit.{Edit}
use Rattle.office_rules.specs.declared.decision.refusal.Refusal.{Refusal}
use Rattle.book_tables.proofs.HoldsLemmas.{stands_present}
use Rattle.book_tables.specs.writing.Failing.{IsRefused}
use Rattle.book_tables.specs.writing.Writes.{EndsWith, Make, writes_of}
use Rattle.book_tables.specs.Holds.{HoldsMembers}
use Rattle.book_tables.specs.declared.error.TableError.{TableError}
use Rattle.book_tables.specs.declared.error.TableError.TheVariants as table
use Rattle.book_tables.specs.reading.Reading.{HasAllTables}
use Rattle.book_states.specs.Changing.{IsCounted, IsMiscounted, MakesAsComputed, MakesEdit}
use Rattle.book_states.specs.Failing.{EditHasFailed, IsOfNoOffice}
use Rattle.book_states.specs.Stores.{Stores, RecoversTo}
use Rattle.book_states.specs.Others.{LeavesOthers, SameOthers}
use Rattle.book_states.specs.Same.{ChangesNothing, IsSame}
use Rattle.book_edits.specs.Transaction.{Commits, DoubtsEdit, FailsToEdit, HasEdit, MayBeLeft}
use Rattle.book_states.proofs.OthersLemmas.{nothing_others, same_trees}

module _ (edit : Edit) (prior : ℕ) (old new : State) (tables : HasAllTables old) (settled : IsTrue old.is_open → old.now ≡ old.committed) where
  -- an open connection has the database, which is committed, and so a crash leaves no other
  pub has_edit : (db : Database) → MakesAsComputed edit prior old.now db → HasCommitted db old new
      → (IsTrue new.is_open → (trees : Trees) → new.may_leave trees → trees ≡ new.committed.trees) → new.step_limit ≡ old.step_limit → HasEdit edit old new
  has_edit db makes committed exact limit = record {
    was_open = committed.was_open;
    makes = subst (MakesEdit edit old.now) (sym committed.now_is) (makes (tables committed.was_open)).0;
    exact = λ trees may. exact committed.is_open trees may ∙ ap (λ (d : Database). d.trees) (committed.committed_is ∙ sym committed.now_is);
    limit = limit;
  }

  -- what was undone is as it was
  same_undone : IsUndone old new → IsSame old new
  same_undone undone = record {
    was_open = undone.was_open;
    now_is = λ is_open. undone.now_is is_open ∙ sym (settled (undone.was_open is_open));
  }

  -- what was undone changes nothing, where a crash leaves nothing new
  pub nothing_undone : IsUndone old new → Survives old new (λ _. ⊥) → ChangesNothing old new
  nothing_undone undone survives = record { same = same_undone undone; survives = survives }

  -- the commit failed, and what an open connection has is what it had
  pub doubts_edit : {S : Type 0} (g : Ghosts S) (e : Error) → HasBeen g (λ held. FailsAtCommit (MakesAsComputed edit prior) old held new e) → IsUndone old new
      → Survives old new (LeavesMade (MakesAsComputed edit prior) old.now) → DoubtsEdit (HasBeen g) edit prior old new
  doubts_edit g e made undone survives = let was_open = made.1.was_open in record {
    was_open = was_open;
    same = same_undone undone;
    survives = record {
      clean = survives.clean;
      shield = survives.shield;
      counts = survives.counts;
      limit = survives.limit;
      closes = survives.closes;
      crash = λ clean trees may. elim (survives.crash clean trees may) [ inl was ↦ inl was | inr left ↦ inr (left.0, (left.1 (tables was_open)).0, left.2) ];
    };
    error = e;
    failed = made;
  }

-- ---- other tables

same_others : (edit : Edit) (old : State) (made : Database) → MakesEdit edit old.now made → (trees : Trees) → trees ≡ made.trees
    → SameOthers old.now.schema old.now.trees trees
same_others edit old made makes trees same = subst (SameOthers old.now.schema old.now.trees) (sym same) makes.others

edit_others : (edit : Edit) (old new : State) → HasEdit edit old new → LeavesOthers old new
edit_others edit old new has = record {
  was_open = λ _. has.was_open;
  schema = λ _. has.makes.schema;
  now = λ _. has.makes.others;
  crash = λ trees may. inr (has.was_open, same_others edit old new.now has.makes trees (has.exact trees may));
  limit = has.limit;
}

doubt_others : {Been : (State → Type 0) → Type 0} (edit : Edit) (prior : ℕ) (old new : State) → HasCleanDisk new
    → DoubtsEdit Been edit prior old new → LeavesOthers old new
doubt_others edit prior old new clean h = record {
  was_open = λ _. h.was_open;
  schema = λ is_open. ap (λ (d : Database). d.schema) (h.same.now_is is_open);
  now = λ is_open. same_trees old.now.schema old.now.trees new.now.trees (ap (λ (d : Database). d.trees) (h.same.now_is is_open));
  crash = λ trees may. elim (h.survives.crash clean trees may)
      [ inl was ↦ inl was | inr made ↦ inr (h.was_open, same_others edit old made.0 made.1 trees made.2) ];
  limit = h.survives.limit;
}

-- however the commit of an edit ends, it leaves the tables of other names as they were
pub commits_others : {Been : (State → Type 0) → Type 0} (edit : Edit) (prior : ℕ) (r : Result (Unit {0}) Refusal) (old new : State)
    → HasCleanDisk new → Commits Been edit prior r old new → LeavesOthers old new
commits_others edit prior (Ok x) old new clean h = edit_others edit old new h.done
commits_others edit prior (Err refusal) old new clean h = elim h.failed [
  | inl unmade ↦ nothing_others old new clean unmade.nothing
  | inr doubted ↦ doubt_others edit prior old new clean doubted.1
]

-- ---- after reads that changed nothing

module _ (edit : Edit) (old mid new : State) (clean : HasCleanDisk new) (before : ChangesNothing old mid) where
  leaves_after : IsTrue mid.is_open → (trees : Trees) → LeavesMade (MakesEdit edit) mid.now trees → LeavesMade (MakesEdit edit) old.now trees
  leaves_after is_open trees made = (made.0, subst (λ (db : Database). MakesEdit edit db made.0) (before.same.now_is is_open) made.1, made.2)

  nothing_after : ChangesNothing mid new → ChangesNothing old new
  nothing_after after = record {
    same = record {
      was_open = λ is_open. before.same.was_open (after.same.was_open is_open);
      now_is = λ is_open. after.same.now_is is_open ∙ before.same.now_is (after.same.was_open is_open);
    };
    survives = survives_then old mid new _ _ (λ _. ⊥) (λ _ _ none. none) (λ _ _ none. none) before.survives after.survives;
  }

  -- an edit that is there after the reads was made on what was there before them
  pub has_after : HasEdit edit mid new → HasEdit edit old new
  has_after h = record {
    was_open = before.same.was_open h.was_open;
    makes = subst (λ (db : Database). MakesEdit edit db new.now) (before.same.now_is h.was_open) h.makes;
    exact = h.exact;
    limit = h.limit ∙ before.survives.limit;
  }

  -- tenths that are told after the reads are those of what was there before them
  pub counted_after : (prior : ℕ) → IsTrue mid.is_open → IsCounted edit prior mid.now → IsCounted edit prior old.now
  counted_after prior is_open told = subst (IsCounted edit prior) (before.same.now_is is_open) told

  -- what failed at the commit after the reads failed so after what was before them
  failed_after : (prior : ℕ) (held : State) (e : Error) → FailsAtCommit (MakesAsComputed edit prior) mid held new e
      → FailsAtCommit (MakesAsComputed edit prior) old held new e
  failed_after prior held e h = record {
    was_open = before.same.was_open h.was_open;
    makes = subst (λ (db : Database). MakesAsComputed edit prior db held.now) (before.same.now_is h.was_open) h.makes;
    is_open = h.is_open;
    inside = h.inside;
    survives = survives_then old mid held _ _ (λ _. ⊥) (λ _ _ none. none) (λ _ _ none. none) before.survives h.survives;
    fails = h.fails;
  }

  doubts_after : {S : Type 0} (g : Ghosts S) (prior : ℕ) → DoubtsEdit (HasBeen g) edit prior mid new → DoubtsEdit (HasBeen g) edit prior old new
  doubts_after g prior h = record {
    was_open = before.same.was_open h.was_open;
    same = record {
      was_open = λ _. before.same.was_open h.was_open;
      now_is = λ is_open. h.same.now_is is_open ∙ before.same.now_is h.was_open;
    };
    survives = survives_then old mid new _ _ (LeavesMade (MakesEdit edit) old.now) (λ _ _ none. absurd none)
        (λ _ trees made. leaves_after h.was_open trees made) before.survives h.survives;
    error = h.error;
    failed = (h.failed.0, failed_after prior (state g h.failed.0) h.error h.failed.1);
  }

  module _ (prior : ℕ) (early : HasCleanDisk mid) (later : mid.faults ≤ new.faults) where
    -- what was the matter with the connection after the reads, or before them
    abbrev Shut : Type 0
    Shut = MoreFaults old.faults new.faults ⊎ (old.is_open ≡ false)

    was_shut : mid.is_open ≡ false → Shut
    was_shut shut = elim (cases_Bool old.is_open) [
      | inl runs ↦ elim (before.survives.closes early runs) [
        | inl is_open ↦ absurd (false≢true (sym shut ∙ is_open))
        | inr more ↦ inl (omega (arith, more, later))
      ]
      | inr was ↦ inr was
    ]

    shut_told : (error : TableError) → Shut → EditHasFailed edit prior error old new
    shut_told error (inl more) = inl more
    shut_told error (inr shut) = inr (inl shut)

    by_state : (error : TableError) → (IsTrue mid.is_open → EditHasFailed edit prior error old new) → EditHasFailed edit prior error old new
    by_state error if_open = elim (cases_Bool mid.is_open) [ inl runs ↦ if_open runs | inr shut ↦ shut_told error (was_shut shut) ]

    refused_before : (error : TableError) (e : Error) → error ≡ table.Database e → IsRefused (writes_of edit) mid e → IsTrue mid.is_open
        → EditHasFailed edit prior error old new
    refused_before error e is it runs = inr (inr (inl (
      e,
      is,
      record {
        before = it.before;
        tried = it.tried;
        after = it.after;
        among = it.among;
        db = it.db;
        made = subst (λ (db : Database). Make old.step_limit it.before db it.db) (before.same.now_is runs)
            (subst (λ (l : Option ℕ). Make l it.before mid.now it.db) before.survives.limit it.made);
        refused = subst (λ (l : Option ℕ). EndsWith l it.tried it.db (Err (Some e))
            ⊎ ((e ≡ SqliteFailure TooBig) × EndsWith l it.tried it.db (Err None))) before.survives.limit it.refused;
      },
    )))

    cause_after : (error : TableError) → EditHasFailed edit prior error mid new → EditHasFailed edit prior error old new
    cause_after error (inl more) = inl (omega (arith, more, before.survives.counts))
    cause_after error (inr (inl shut)) = shut_told error (was_shut shut)
    cause_after error (inr (inr (inl (e, is, refused)))) = by_state error (refused_before error e is refused)
    cause_after error (inr (inr (inr (inl none)))) =
        by_state error (λ runs. inr (inr (inr (inl (
          λ _. subst (λ (db : Database). (o : Office) → IsOffice o → Meets edit o → ¬ HoldsMembers db o) (before.same.now_is runs) (none.0 runs),
          subst (IsOfNoOffice edit error) (before.same.now_is runs) none.1,
        )))))
    cause_after error (inr (inr (inr (inr told)))) = by_state error
        (λ runs. inr (inr (inr (inr (subst (IsMiscounted edit prior) (before.same.now_is runs) told)))))

  -- an edit that fails after the reads fails on what was there before them
  pub fails_after : {S : Type 0} (g : Ghosts S) (prior : ℕ) (refusal : Refusal) → FailsToEdit (HasBeen g) edit prior mid new refusal
      → FailsToEdit (HasBeen g) edit prior old new refusal
  fails_after g prior refusal (inl unmade) =
      let early : HasCleanDisk mid = omega (arith, unmade.nothing.survives.clean) in inl (record {
        error = unmade.error;
        answered = unmade.answered;
        either = unmade.either;
        nothing = nothing_after unmade.nothing;
        failed = λ is. cause_after prior early unmade.nothing.survives.counts unmade.error (unmade.failed is);
      })
  fails_after g prior refusal (inr doubted) = inr (doubted.0, doubts_after g prior doubted.1)

-- ---- an office

module _ (edit : Edit) (o : Office) (old new : State) (at : Stores old o) (meets : Meets edit o) (office : IsOffice (applied edit o)) where
  left_made : IsTrue old.is_open → (made : Database) → MakesEdit edit old.now made → (trees : Trees) → trees ≡ made.trees → RecoversTo trees (applied edit o)
  left_made was_open made makes trees same = (
    made,
    makes.sound,
    same,
    stands_present made (applied edit o) office (makes.members o at.office meets (at.members was_open)),
  )

  -- the store holds the office after the edit
  pub edit_held : HasEdit edit old new → Stores new (applied edit o)
  edit_held has = record {
    office = office;
    members = λ _. has.makes.members o at.office meets (at.members has.was_open);
    left = λ trees may. left_made has.was_open new.now has.makes trees (has.exact trees may);
  }

  -- it may be opened again with the office before the edit, or after it
  pub edit_doubted : {Been : (State → Type 0) → Type 0} (prior : ℕ) → HasCleanDisk new → DoubtsEdit Been edit prior old new → MayBeLeft new o (applied edit o)
  edit_doubted prior clean h = λ trees may. elim (h.survives.crash clean trees may)
      [ inl was ↦ inl (at.left trees was) | inr made ↦ inr (left_made h.was_open made.0 made.1 trees made.2) ]
