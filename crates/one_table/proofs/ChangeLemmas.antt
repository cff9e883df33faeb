-- From what a statement inside a transaction does to a table to what it leaves.
use Rattle.std.proofs.Common.{◌≡◌, ◌≢◌, OnOk, IfOk, IfErr, IsErrAnd, arith, false, ◌⊎◌, ℕ, true, List, slice_get, IsTrue, Option, None, Some, Result, Ok, Err, refl, sym, ap, subst, inl, inr, ◌∙◌}
use Rattle.std.proofs.lemmas.Bool.{cases_Bool}
use Rattle.std.specs.List.{AllByRecursion}
use Rattle.sqlite_value.specs.Order.{Row}
use Rattle.sqlite_schema.specs.declared.schema.Keys.TheVariants.{Enforced}
use Rattle.sqlite_schema.specs.declared.schema.Table.{Table}
use Rattle.sqlite_schema.specs.declared.command.Command.{Command}
use Rattle.sqlite_schema.specs.declared.command.Returning.{Returning}
use Rattle.sqlite_rules.specs.Edit.{Edit, edited, IsNoIndex, Applies}
use Rattle.sqlite.specs.declared.error.Error.{Error}
use Rattle.sqlite.specs.Effect.{Database}
use Rattle.sqlite.specs.Listing.{understood}
use Rattle.sqlite.specs.Rows.{Written, Task}
use Rattle.sqlite.specs.Does.{Tally, AtPlace, OnRows, Returns, WritesRows}
use Rattle.sqlite.specs.State.{State, mode_of, HasCleanDisk, Shows, Writes, Runs, ExecutesInside, KeepsCommit, Survives}
use Rattle.sqlite.proofs.Callers.{statement_of, runs_as}
use Rattle.sqlite_trees.specs.declared.store.Store.{Ghosts}
use Rattle.sqlite.specs.Held.{Held, state}
use Rattle.sqlite.proofs.InsideLemmas.{unchanged_keeps}
use Rattle.sqlite.specs.declared.error.Error.TheVariants.{SqliteFailure}
use Rattle.sqlite.specs.declared.error.ErrorCode.TheVariants.{TransactionState}
use Rattle.sqlite.proofs.StateLemmas.{survives_then}
use Rattle.one_table.specs.Reading.{Means}
use Rattle.one_table.specs.InTransaction.{FailsToRun, HasChanged, IsUnderWay, KeepsTransaction, StaysInside}
use Rattle.one_table.proofs.ListedLemmas.{command_is, is_plain}

-- a part that gave a value did not stop on the way
pub went : {B E R : Type 0} {b : B} {Stops : E → Type 0} → ((stop : E) × Stops stop × (Ok b ≡ Err stop)) ⊎ R → R
went (inl stopped) = absurd (let e = stopped.2 in cc)
went (inr on) = on

-- successes that are equal have equal values
pub same_value : {B E : Type 0} {a b : B} → ◌≡◌ {A = Result B E} (Ok a) (Ok b) → a ≡ b
same_value e = cc

-- the rows of a table, in the schema of a state
abbrev pub task_on : State → Row → Table → Task
task_on s params t = record { limit = s.step_limit; keys = Enforced; schema = s.now.schema; table = t; params = params }

-- a change of rows by a statement, as the rows that it wrote, what it shows of them and the
-- database that they make
pub record HasWritten (t : Table) (returning : Option Returning) (command : Command) (params : Row) (shown : List Row) (old new : State) : Type 0 where
  pub written : Written
  pub wrote : WritesRows (task_on old params t) old.now.trees command (Ok written)
  pub shows : Returns (task_on old params t) written returning (Ok shown)
  pub now_is : new.now ≡ record { schema = old.now.schema; trees = written.trees }

-- a command that ran on the rows of a table wrote rows, and shows what RETURNING says
pub has_written : (t : Table) (at : ℕ) (returning : Option Returning) (command : Command) (params : Row) (old new : State) (tally : Tally)
    → slice_get old.now.schema.tables at ≡ Some t
    → AtPlace (λ table. OnRows (task_on old params table) (mode_of old) returning command old.now.trees)
    (slice_get old.now.schema.tables at) (Ok (tally, new.now)) → HasWritten t returning command params tally.shown old new
has_written t at returning command params old new tally listed h =
    let on = subst (λ o. AtPlace (λ table. OnRows (task_on old params table) (mode_of old) returning command old.now.trees) o (Ok (tally, new.now))) listed h in
    let done = went on in
    let shown = went (went done.2).2 in
    record {
      written = done.0;
      wrote = done.1;
      shows = subst (λ rows. Returns (task_on old params t) done.0 returning (Ok rows))
          (sym (ap (λ (p : Tally × Database). p.0.shown) (same_value shown.2))) shown.1;
      now_is = ap (λ (p : Tally × Database). p.1) (same_value shown.2);
    }

-- one step on a table that was carried out inside a transaction
pub has_changed : {returning : Option Returning} {shown : List Row} (t : Table) (edit : Edit) (command : Command) (text : List ℕ)
    (params : Row) (count : ℕ) (old new : State)
    (h : HasWritten t returning command params shown old new) → edit.table ≡ t
    → Applies old.now.schema Enforced old.now.trees edit h.written.trees → Shows old new new.now old.committed true
    → Writes old new returning command text params count → HasChanged t (edited old.now.trees edit) old new
has_changed t edit command text params count old new h is applies inside w =
    let trees : h.written.trees ≡ new.now.trees = sym (ap (λ (d : Database). d.trees) h.now_is) in
    let a = subst (Applies old.now.schema Enforced old.now.trees edit) trees applies in
    record {
      inside = inside;
      marks = w.marks;
      schema = ap (λ (d : Database). d.schema) h.now_is;
      rows_are = ap (λ (u : Table). new.now.trees u.tree) (sym is) ∙ a.rows;
      tables = subst (λ (u : Table). AllByRecursion (λ v. v.tree ≢ u.tree → new.now.trees v.tree ≡ old.now.trees v.tree) old.now.schema.tables) is a.tables;
      others = subst (λ (u : Table). (tree : ℕ) → tree ≢ u.tree → IsNoIndex old.now.schema tree → new.now.trees tree ≡ old.now.trees tree) is a.others;
      frozen = w.frozen;
      sound = w.sound;
    }

-- what ran inside a transaction, from the text's meaning
module _ (sql : List ℕ) (params : Row) (old new : State) (command : Command) (means : IsTrue old.is_open → Means old.now.schema sql command) where
  -- a text executed inside a transaction ran as its command, and nothing was committed
  pub ran_inside : (count : ℕ) → ExecutesInside 0 sql params old new (Ok count)
      → Means old.now.schema sql command × Runs old new None command (statement_of sql (understood old.now.schema sql)) params count
      × Shows old new new.now old.committed true
  ran_inside count h =
      let m = means h.1.was_open in
      (m, runs_as sql params old new old.now.schema refl command (command_is m) (is_plain m) count h.0, h.1)

-- why a text fails
pub fails_to_run : {S : Type 0} (g : Ghosts S) (sql : List ℕ) (params : Row) (old new : Held S) (e : Error)
    → (old.in_transaction ≡ false → (◌≡◌ {A = Result ℕ Error} (Err e) (Err (SqliteFailure TransactionState))) × (new ≡ old))
    → (IsTrue old.in_transaction → ExecutesInside 0 sql params (state g old) (state g new) (Err e)) → FailsToRun sql params (state g old) (state g new) e
fails_to_run g sql params old new e ended runs = elim (cases_Bool old.in_transaction) [
  | inl inside ↦ inr (runs inside)
  | inr outside ↦
      let it = ended outside in
      let same : (P : Held _ → Type 0) → P old → P new = λ P. subst P (sym it.1) in
      inl (record {
        ended = outside;
        told = let told = it.0 in cc;
        is_open = same (λ h. (state g h).is_open ≡ (state g old).is_open) refl;
        now_is = same (λ h. (state g h).now ≡ (state g old).now) refl;
        committed_is = same (λ h. (state g h).committed ≡ (state g old).committed) refl;
        mode = same (λ h. h.in_transaction ≡ old.in_transaction) refl;
      })
]

-- what follows from something known of a success is known of it too
pub on_ok : {A E P Q : Type 0} (r : Result A E) → (P → Q) → OnOk r P → OnOk r Q
on_ok (Ok a) f p = f p
on_ok (Err e) f p = tt

-- what holds whatever the value is
pub all_ok : {A E P : Type 0} (r : Result A E) → P → OnOk r P
all_ok (Ok a) p = p
all_ok (Err e) p = tt

-- what follows from something known of the error is known of it too
pub if_err : {A E : Type 0} {P Q : E → Type 0} (r : Result A E) → ((e : E) → P e → Q e) → IfErr r P → IfErr r Q
if_err (Ok a) f p = tt
if_err (Err e) f p = f e p

-- what follows from something known of the value is known of it too
pub if_ok : {A E : Type 0} {P Q : A → Type 0} (r : Result A E) → ((a : A) → P a → Q a) → IfOk r P → IfOk r Q
if_ok (Ok a) f p = f a p
if_ok (Err e) f p = tt

-- an error that is given on as another
pub told_as : {A E : Type 0} (P : E → Type 0) (r : Result A E) (f : E) → IsErrAnd r (λ x. x ≡ f) → P f → IfErr r P
told_as P (Ok a) f is p = tt
told_as P (Err e) f is p = subst P (sym is) p

-- a step that stays inside the transaction commits nothing
pub keeps_inside : (old new : State) → Shows old new new.now old.committed true → KeepsCommit old new
keeps_inside old new h = record { was_open = λ _. h.was_open; committed = λ _. h.committed_is }

-- two steps that commit nothing, one after the other, commit nothing
pub keeps_then : (a b c : State) → KeepsCommit a b → KeepsCommit b c → KeepsCommit a c
keeps_then a b c p q = record { was_open = λ k. p.was_open (q.was_open k); committed = λ k. q.committed k ∙ p.committed (q.was_open k) }

-- a text that fails commits nothing
pub keeps_failed : (sql : List ℕ) (params : Row) (old new : State) (e : Error) → FailsToRun sql params old new e → KeepsCommit old new
keeps_failed sql params old new e (inl had) = record { was_open = λ k. subst IsTrue had.is_open k; committed = λ _. had.committed_is }
keeps_failed sql params old new e (inr (inl failed)) = unchanged_keeps old new failed.1
keeps_failed sql params old new e (inr (inr ends)) = unchanged_keeps old new (inl ends.2)

-- ---- statements one after another inside a transaction

-- two steps that stay inside the transaction, one after the other, stay inside it
pub stays_then : (old mid new : State) → StaysInside old mid → StaysInside mid new → StaysInside old new
stays_then old mid new p q = record { was_open = p.was_open; is_open = q.is_open; now_is = refl; committed_is = q.committed_is ∙ p.committed_is; mode = q.mode }

module _ {T U E F : Type 0} {x : T} (old mid new : State) where
  -- after one that succeeded
  pub transaction_then : (r : Result U F) → KeepsTransaction {T = T} {E = E} old mid (Ok x) → KeepsTransaction mid new r → KeepsTransaction old new r
  transaction_then r first second = record {
    inside = λ clean way.
        let before = first.inside (omega (arith, second.survives.clean)) way in
        on_ok r (stays_then old mid new before) (second.inside clean before.mode);
    kept = λ clean way.
        let before = first.inside (omega (arith, second.survives.clean)) way in
        keeps_then old mid new (keeps_inside old mid before) (second.kept clean before.mode);
    survives = survives_then old mid new _ _ (λ _. ⊥) (λ _ db none. none) (λ _ db none. none) first.survives second.survives;
  }

module _ {T U E F : Type 0} {old new : State} where
  -- where another value is answered
  pub transaction_on : {x : T} {y : U} → KeepsTransaction {T = T} {E = E} old new (Ok x) → KeepsTransaction {T = U} {E = F} old new (Ok y)
  transaction_on this = record { inside = this.inside; kept = this.kept; survives = this.survives }

  -- where another value is made of it, or nothing for a reason
  pub transaction_into : {x : T} (r : Result U F) → KeepsTransaction {T = T} {E = E} old new (Ok x) → KeepsTransaction old new r
  transaction_into (Ok y) this = transaction_on this
  transaction_into (Err f) this = record { inside = λ _ _. tt; kept = this.kept; survives = this.survives }

-- where it fails
module _ {U F : Type 0} {old new : State} where
  -- a part that failed and committed nothing leaves what any part of a transaction leaves
  pub transaction_off : (f : F) (r : Result U F) → IsErrAnd r (λ x. x ≡ f) → (HasCleanDisk new → IsUnderWay old → KeepsCommit old new)
      → Survives old new (λ _. ⊥) → KeepsTransaction old new r
  transaction_off f (Ok y) failed kept survives = absurd failed
  transaction_off f (Err y) failed kept survives = record { inside = λ _ _. tt; kept = kept; survives = survives }
