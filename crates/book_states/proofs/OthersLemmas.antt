-- What leaves the tables of other names as they were, one step after another.
use Rattle.std.proofs.Common.{◌≡◌, IsTrue, List, [], ◌∷◌, refl, sym, ap, subst, ◌∙◌, inl, inr}
use Rattle.std.specs.List.{AllByRecursion}
use Rattle.sqlite.specs.Effect.{Database}
use Rattle.sqlite.specs.State.{HasCleanDisk, State}
use Rattle.sqlite_schema.specs.declared.schema.Schema.{Schema}
use Rattle.sqlite_schema.specs.declared.schema.Table.{Table}
use Rattle.sqlite_trees.specs.Tree.{Trees}
use Rattle.sqlite_trees.proofs.ListLemmas.{all_of}
use Rattle.book_tables.specs.Holds.{HasOffice, table_names}
use Rattle.book_tables.specs.reading.Reading.{HasAllTables}
use Rattle.book_tables.specs.writing.Writing.{IsOfNone}
use Rattle.book_states.specs.Others.{LeavesOthers, SameOthers}
use Rattle.book_states.specs.Same.{ChangesNothing}

-- trees that have not changed have the same rows in the tables of other names
pub same_trees : (s : Schema) (old new : Trees) → new ≡ old → SameOthers s old new
same_trees s old new same = all_of (λ (u : Table). IsOfNone s table_names u.tree → new u.tree ≡ old u.tree) (λ u _. ap (λ (f : Trees). f u.tree) same) s.tables

all_both : (P Q R : Table → Type 0) → ((u : Table) → P u → Q u → R u) → (ts : List Table) → AllByRecursion P ts → AllByRecursion Q ts → AllByRecursion R ts
all_both P Q R step [] p q = tt
all_both P Q R step (t ∷ ts) p q = (step t p.0 q.0, all_both P Q R step ts p.1 q.1)

-- what two steps in turn leave of the rows of other tables, both together leave
pub trees_then : (s : Schema) (a b c : Trees) → SameOthers s a b → SameOthers s b c → SameOthers s a c
trees_then s a b c = all_both (λ (u : Table). IsOfNone s table_names u.tree → b u.tree ≡ a u.tree)
    (λ (u : Table). IsOfNone s table_names u.tree → c u.tree ≡ b u.tree)
    (λ (u : Table). IsOfNone s table_names u.tree → c u.tree ≡ a u.tree) (λ u p q none. q none ∙ p none) s.tables

-- two steps in turn that leave the tables of other names leave them together
pub others_then : (a b c : State) → LeavesOthers a b → LeavesOthers b c → LeavesOthers a c
others_then a b c p q = record {
  was_open = λ is_open. p.was_open (q.was_open is_open);
  schema = λ is_open. q.schema is_open ∙ p.schema (q.was_open is_open);
  now = λ is_open. on_top (q.was_open is_open) c.now.trees (q.now is_open);
  crash = λ trees may. elim (q.crash trees may) [
    | inl was ↦ p.crash trees was
    | inr made ↦ inr (p.was_open made.0, on_top made.0 trees made.1)
  ];
  limit = q.limit ∙ p.limit;
}
  where
    on_top : IsTrue b.is_open → (trees : Trees) → SameOthers b.now.schema b.now.trees trees → SameOthers a.now.schema a.now.trees trees
    on_top is_open trees later = trees_then a.now.schema a.now.trees b.now.trees trees (p.now is_open)
        (subst (λ (s : Schema). SameOthers s b.now.trees trees) (p.schema is_open) later)

-- nothing has changed
pub others_same : (s : State) → LeavesOthers s s
others_same s = record {
  was_open = λ is_open. is_open;
  schema = λ _. refl;
  now = λ _. same_trees s.now.schema s.now.trees s.now.trees refl;
  crash = λ trees may. inl may;
  limit = refl;
}

-- a step that changes nothing leaves the tables of other names
pub nothing_others : (old new : State) → HasCleanDisk new → ChangesNothing old new → LeavesOthers old new
nothing_others old new clean h = record {
  was_open = h.same.was_open;
  schema = λ is_open. ap (λ (d : Database). d.schema) (h.same.now_is is_open);
  now = λ is_open. same_trees old.now.schema old.now.trees new.now.trees (ap (λ (d : Database). d.trees) (h.same.now_is is_open));
  crash = λ trees may. elim (h.survives.crash clean trees may) [ inl was ↦ inl was | inr none ↦ absurd none ];
  limit = h.survives.limit;
}

-- ---- the office's own tables

-- they are still there
pub tables_stay : (old new : State) → LeavesOthers old new → HasAllTables old → HasAllTables new
tables_stay old new h has is_open = subst HasOffice (sym (h.schema is_open)) (has (h.was_open is_open))
