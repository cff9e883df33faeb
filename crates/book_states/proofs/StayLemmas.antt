-- A read leaves a store that holds an office as it was, whether it is answered or fails.
use Rattle.std.proofs.Common.{◌≡◌, false, IsTrue, refl, sym, ◌∙◌, inl, inr, arith}
use Rattle.std.proofs.lemmas.Bool.{cases_Bool, false≢true}
use Rattle.sqlite.specs.State.{HasCleanDisk, IsUnchanged, State, Survives}
use Rattle.sqlite_trees.specs.Tree.{Trees}
use Rattle.sqlite_trees.proofs.Doubt.{no_doubt}
use Rattle.one_table.specs.Answer.{IsLeft}
use Rattle.office_rules.specs.Office.{Office}
use Rattle.book_tables.specs.reading.Reading.{HasAllTables}
use Rattle.book_states.specs.Stores.{Stores}
use Rattle.book_states.specs.Same.{ChangesNothing, IsSame}

-- a store that holds an office has all its tables
pub has_tables : (o : Office) (s : State) → Stores s o → HasAllTables s
has_tables o s at is_open = (at.members is_open).1.has

-- a disk that returned something else is no base to read the tables on: the store shows as shut
pub clean_before : (old new : State) (P : Trees → Type 0) → (old.is_clean ≡ false → old.is_open ≡ false)
    → (HasAllTables old → Survives old new P) → HasCleanDisk new → HasCleanDisk old
clean_before old new P shut survives clean = elim (cases_Bool old.is_clean) [
  | inl sure ↦ no_doubt old.is_clean sure
  | inr dirty ↦ let early = survives (λ is_open. absurd (false≢true (sym (shut dirty) ∙ is_open))) in omega (arith, early.clean)
]

-- a connection that is unchanged is open still and has the same database
pub unchanged_same : (old new : State) → IsUnchanged old new → IsSame old new
unchanged_same old new same = record { was_open = λ _. same.0.was_open; now_is = λ _. same.0.now_is }

-- where no step is taken, nothing changes
pub nothing_same : (s : State) → ChangesNothing s s
nothing_same s = record {
  same = record { was_open = λ is_open. is_open; now_is = λ _. refl };
  survives = record {
    clean = omega arith;
    shield = λ is. is;
    counts = omega arith;
    limit = refl;
    closes = λ _ is_open. inl is_open;
    crash = λ _ trees may. inl may;
  };
}

-- a read that failed undoes at most a transaction in which nothing was written
pub left_same : (old new : State) → (IsTrue old.is_open → old.now ≡ old.committed) → IsLeft old new → IsSame old new
left_same old new settled (inl same) = unchanged_same old new same
left_same old new settled (inr undone) = record {
  was_open = undone.was_open;
  now_is = λ is_open. (undone.undone is_open).0 ∙ sym (settled (undone.was_open is_open));
}

-- the store still holds the office that it held
pub still_held : (o : Office) (old new : State) → HasCleanDisk new → Stores old o → ChangesNothing old new → Stores new o
still_held o old new clean at h = record {
  office = at.office;
  members = λ is_open. rw (h.same.now_is is_open) (at.members (h.same.was_open is_open));
  left = λ trees may. elim (h.survives.crash clean trees may) [ inl was ↦ at.left trees was | inr none ↦ absurd none ];
}
