use Rattle.std.proofs.Common.{◌≡◌, true, arith, refl, rules, sym, subst}
use Rattle.sqlite.specs.Effect.{Database}
use Rattle.sqlite.specs.State.{HasCleanDisk, State, Survives}
use Rattle.sqlite.specs.Steps.{FailsToCommit}
use Rattle.sqlite.specs.declared.error.Error.{Error}
use Rattle.sqlite.specs.Held.{Held, state}
use Rattle.sqlite_trees.specs.declared.store.Store.{Ghosts}
use Rattle.one_table.specs.InTransaction.{StaysInside}
use Rattle.one_table.specs.Committing.{FailsAtCommit, HasBeen}
use Rattle.one_table.proofs.committing.change_once.Goals as goal

-- what failed inside the transaction, which was then undone
undone_after : {S F : Type 0} (g : Ghosts S) (Fails : State → State → F → Type 0) (begun : State) (left : Held S) (new : State) (why : F)
    → (HasCleanDisk (state g left) → Fails begun (state g left) why) → Survives (state g left) new (λ _. ⊥) → HasCleanDisk new
    → (left : Held S) × Fails begun (state g left) why × Survives (state g left) new (λ _. ⊥)
undone_after g Fails begun left new why fails survives clean = (left, fails (omega (arith, survives.clean, clean)), survives)

pub returns-in-Err-clause-refused : goal.returns-in-Err-clause-refused
returns-in-Err-clause-refused g c =
    let left = c.make.new.tx.conn.now in
    let begun = c.transaction-tx.ensures.begun in
    let way = subst (λ (h : Held _). h.in_transaction ≡ true) (sym begun) refl in
    undone_after g.S.Store (g.C.Change.fails c.args.change.now) _ left _ c.in-Err.fault
    (λ early. subst (λ (h : Held _). g.C.Change.fails c.args.change.now (state g.S.Store h) (state g.S.Store left) c.in-Err.fault) begun
    (c.in-Err.ensures.refused early way)) (search rules)

-- what was made in the transaction that was begun, and then how its commit failed
failed_after : {S : Type 0} (g : Ghosts S) (Makes : Database → Database → Type 0) (old held : Held S) (new : State) (e : Error)
    → StaysInside (state g (record old { in_transaction = true })) (state g held)
    → Survives (state g (record old { in_transaction = true })) (state g held) (λ _. ⊥) → Makes (state g old).now (state g held).now
    → FailsToCommit (state g held) new e
    → HasBeen g (λ was. FailsAtCommit Makes (state g old) was new e)
failed_after g Makes old held new e stays survives makes fails = (
  held,
  record {
    was_open = stays.was_open;
    makes = makes;
    is_open = stays.is_open;
    inside = stays.mode;
    survives = record {
      clean = survives.clean;
      shield = survives.shield;
      counts = survives.counts;
      limit = survives.limit;
      closes = survives.closes;
      crash = survives.crash;
    };
    fails = fails;
  },
)

pub returns-in-Err-commit-clause-doubted : goal.returns-in-Err-commit-clause-doubted
returns-in-Err-commit-clause-doubted g c clean =
    let held = c.make.new.tx.conn.now in
    let begun = c.transaction-tx.ensures.begun in
    let way = subst (λ (h : Held _). h.in_transaction ≡ true) (sym begun) refl in
    let early : HasCleanDisk (state g.S.Store held) = search rules in
    let made = c.in_default.ensures.made in
    failed_after g.S.Store (g.C.Change.makes c.args.change.now) c.args.conn.now held _ c.in-Err-commit.error
    (subst (λ (h : Held _). StaysInside (state g.S.Store h) (state g.S.Store held)) begun (made.transaction.inside early way))
    (subst (λ (h : Held _). Survives (state g.S.Store h) (state g.S.Store held) (λ _. ⊥)) begun made.transaction.survives)
    (subst (λ (h : Held _). g.C.Change.makes c.args.change.now (state g.S.Store h).now (state g.S.Store held).now) begun (made.says early way))
    (search rules)
