-- Steps that fill tables, one after another.
use Rattle.std.proofs.Common.{◌≡◌, ℕ, List, [], ◌∷◌, ◌++◌, append-nil, map, IsTrue, IsErrAnd, Result, Ok, Err, arith, inl, inr, refl, sym, ap₂, subst}
use Rattle.std.specs.Prelude.{Contains}
use Rattle.sqlite.specs.State.{HasCleanDisk, State}
use Rattle.sqlite.proofs.StateLemmas.{survives_then}
use Rattle.sqlite_rules.proofs.ListLemmas.{all_from}
use Rattle.sqlite_schema.specs.declared.schema.Table.{Table}
use Rattle.one_table.specs.InTransaction.{IsUnderWay, KeepsTransaction, StaysInside}
use Rattle.one_table.proofs.ChangeLemmas.{if_err, keeps_inside, keeps_then, on_ok, stays_then}
use Rattle.book_tables.specs.Holds.{HasOffice}
use Rattle.book_tables.specs.format.Filling.{ArePut, Fills, IsReady}
use Rattle.book_tables.specs.writing.Failing.{FailsSomehow, FailsToWriteAll}
use Rattle.book_tables.specs.writing.Writes.{Write}
use Rattle.book_tables.specs.writing.Writing.{IsOfNone, WritesOnly, WritesTables}
use Rattle.book_tables.specs.declared.error.TableError.{TableError}
use Rattle.book_tables.proofs.ListLemmas.{contains_first, contains_further}
use Rattle.book_tables.proofs.WritingLemmas.CauseLemmas.{Came, came_by, came_here, of_later, of_store, written_then}

still : (old : State) → IsTrue old.is_open → IsUnderWay old → StaysInside old old
still old runs way = record { was_open = runs; is_open = runs; now_is = refl; committed_is = refl; mode = way }

-- nothing is written yet
pub nothing_written : (names : List (List ℕ)) (old : State) → IsReady old → WritesOnly names old old
nothing_written names old ready = record {
  inside = still old ready.is_open ready.under_way;
  marks = refl;
  schema = refl;
  tables = all_from (λ (u : Table). IsOfNone old.now.schema names u.tree → old.now.trees u.tree ≡ old.now.trees u.tree)
      old.now.schema.tables (λ u there apart. refl);
  others = λ tree apart none. refl;
  sound = ready.sound;
}

-- the tables are there as before
ready_then : (names : List (List ℕ)) (old mid : State) → WritesOnly names old mid → IsReady old → IsReady mid
ready_then names old mid only ready = record {
  is_open = only.inside.is_open;
  under_way = only.inside.mode;
  sound = only.sound;
  has = subst HasOffice (sym only.schema) ready.has;
}

-- a step that fails
pub fills_off : {Are : List Write → Type 0} {A C : State → State → Type 0} (old new : State) (e : TableError) (r : Result (Unit {0}) TableError)
    → IsErrAnd r (λ x. x ≡ e) → Fills Are A old new (Err e) → Fills Are C old new r
fills_off old new e (Ok x) is step = absurd is
fills_off {Are = Are} old new e (Err x) is step = record {
  made = λ _ _. tt;
  ends = λ clean ready. (tt, subst (FailsSomehow Are old new) (sym is) (step.ends clean ready).1);
  inside = λ _ _ _. tt;
  kept = step.kept;
  survives = step.survives;
}

-- a step whose tables are told as others
pub fills_as : {Are : List Write → Type 0} {A C : State → State → Type 0} (old new : State) (r : Result (Unit {0}) TableError)
    → (IsReady old → A old new → C old new) → Fills Are A old new r → Fills Are C old new r
fills_as old new r tells step = record {
  made = λ clean ready. on_ok r (tells ready) (step.made clean ready);
  ends = step.ends;
  inside = step.inside;
  kept = step.kept;
  survives = step.survives;
}

-- why writes fail of which more is known
fails_by : {Are So : List Write → Type 0} (old new : State) → ((ws : List Write) → Are ws → So ws) → (e : TableError)
    → FailsSomehow Are old new e → FailsSomehow So old new e
fails_by old new so e (inl none) = inl none
fails_by old new so e (inr (ws, are, why)) = inr (ws, so ws are, why)

-- a step whose writes are told as others
pub fills_by : {Are So : List Write → Type 0} {A : State → State → Type 0} (old new : State) (r : Result (Unit {0}) TableError)
    → ((ws : List Write) → Are ws → So ws) → Fills Are A old new r → Fills So A old new r
fills_by old new r so step = record {
  made = step.made;
  ends = λ clean ready.
      let it = step.ends clean ready in
      (on_ok r (λ done. (done.0, so done.0 done.1, done.2)) it.0, if_err r (fails_by old new so) it.1);
  inside = step.inside;
  kept = step.kept;
  survives = step.survives;
}

-- one write
pub fills_write : {A : State → State → Type 0} (w : Write)
    → (old new : State) (r : Result (Unit {0}) TableError) → KeepsTransaction old new r → WritesTables w A old new r
    → Fills (λ ws. ws ≡ w ∷ []) A old new r
fills_write w old new r transaction write = record {
  made = λ clean ready. write.made clean (λ _. ready.has);
  ends = λ clean ready.
      let it = write.ends clean (λ _. ready.has) in (
        on_ok r (λ written. (w ∷ [], refl, written)) it.0,
        if_err r (λ e why. inr (w ∷ [], refl, of_store [] old old new (came_here old ready.under_way) w [] e why)) it.1,
      );
  inside = λ clean way _. transaction.inside clean way;
  kept = λ clean way _. transaction.kept clean way;
  survives = transaction.survives;
}

-- none
pub fills_none : {C : State → State → Type 0} (old : State) → (IsReady old → C old old) → Fills (λ ws. ws ≡ []) C old old (Ok tt)
fills_none old made = record {
  made = λ _ ready. made ready;
  ends = λ _ _. (([], refl, refl), tt);
  inside = λ _ way runs. still old runs way;
  kept = λ _ way runs. keeps_inside old old (still old runs way);
  survives = record {
    clean = omega arith;
    shield = λ is. is;
    counts = omega arith;
    limit = refl;
    closes = λ clean runs. inl runs;
    crash = λ clean db may. inl may;
  };
}

-- why writes fail that came after others
fails_then : {First Second So : List Write → Type 0} (old mid new : State) (before : List Write) → Came before old mid → First before
    → ((vs ws : List Write) → First vs → Second ws → So (vs ++ ws)) → (e : TableError) → FailsSomehow Second mid new e → FailsSomehow So old new e
fails_then old mid new before came first joined e (inl none) = inl none
fails_then old mid new before came first joined e (inr (ws, second, why)) = inr (
  before ++ ws,
  joined before ws first second,
  subst (λ (l : List Write). FailsToWriteAll (before ++ l) old new e) (append-nil ws) (of_later before old mid new came ws [] e why),
)

-- a step after those before it
pub fills_then : {First Second So : List Write → Type 0} {A B C : State → State → Type 0} (old mid new : State) (names : List (List ℕ))
    (r : Result (Unit {0}) TableError) → (A old mid → WritesOnly names old mid)
    → (IsReady old → IsReady mid → A old mid → B mid new → C old new)
    → ((vs ws : List Write) → First vs → Second ws → So (vs ++ ws))
    → Fills First A old mid (Ok tt) → Fills Second B mid new r → Fills So C old new r
fills_then old mid new names r only join joined first second =
    let early : HasCleanDisk new → HasCleanDisk mid = λ clean. omega (arith, clean, second.survives.clean) in
    record {
      made = λ clean ready.
          let made = first.made (early clean) ready in
          let then = ready_then names old mid (only made) ready in
          on_ok r (join ready then made) (second.made clean then);
      ends = λ clean ready.
          let made = only (first.made (early clean) ready) in
          let before = (first.ends (early clean) ready).0 in
          let came = came_by before.0 old mid before.2 made.inside first.survives in
          let it = second.ends clean (ready_then names old mid made ready) in (
            on_ok r (λ later. (
              before.0 ++ later.0,
              joined before.0 later.0 before.1 later.1,
              written_then before.0 later.0 old mid new came later.2,
            )) it.0,
            if_err r (fails_then old mid new before.0 came before.1 joined) it.1,
          );
      inside = λ clean way runs.
          let before = first.inside (early clean) way runs in
          on_ok r (stays_then old mid new before) (second.inside clean before.mode before.is_open);
      kept = λ clean way runs.
          let before = first.inside (early clean) way runs in
          keeps_then old mid new (keeps_inside old mid before) (second.kept clean before.mode before.is_open);
      survives = survives_then old mid new _ _ (λ _. ⊥) (λ _ db none. none) (λ _ db none. none) first.survives second.survives;
    }

-- why writes fail after which others were to come
fails_before : {First So : List Write → Type 0} (old new : State) → IsUnderWay old
    → ((vs : List Write) → First vs → (rest : List Write) × So (vs ++ rest)) → (e : TableError) → FailsSomehow First old new e → FailsSomehow So old new e
fails_before old new way rest e (inl none) = inl none
fails_before old new way rest e (inr (vs, first, why)) =
    let more = rest vs first in
    inr (vs ++ more.0, more.1, of_later [] old old new (came_here old way) vs more.0 e why)

-- a step that fails, after which others were to come
pub fills_before : {First So : List Write → Type 0} {A C : State → State → Type 0} (old new : State) (e : TableError)
    (r : Result (Unit {0}) TableError) → IsErrAnd r (λ x. x ≡ e) → ((vs : List Write) → First vs → (rest : List Write) × So (vs ++ rest))
    → Fills First A old new (Err e) → Fills So C old new r
fills_before {So = So} {A = A} old new e r is rest step =
    let failed : Fills So A old new (Err e) = record {
      made = λ _ _. tt;
      ends = λ clean ready. (tt, fails_before old new ready.under_way rest e (step.ends clean ready).1);
      inside = λ _ _ _. tt;
      kept = step.kept;
      survives = step.survives;
    } in fills_off old new e r is failed

-- ---- rows that are put in, each by a write

module _ {R : Type 0} (Puts : R → Write → Type 0) where
  -- those of two lists, one after the other
  pub put_then : (xs ys : List R) (vs ws : List Write) → ArePut Puts xs vs → ArePut Puts ys ws → ArePut Puts (xs ++ ys) (vs ++ ws)
  put_then [] ys [] ws first second = second
  put_then [] ys (v ∷ vs) ws first second = absurd first
  put_then (x ∷ xs) ys [] ws first second = absurd first
  put_then (x ∷ xs) ys (v ∷ vs) ws first second = (first.0, put_then xs ys vs ws first.1 second)

  -- each row may be put in, where one may
  pub may_be_put : ((r : R) → (w : Write) × Puts r w) → (rows : List R) → (ws : List Write) × ArePut Puts rows ws
  may_be_put may [] = ([], tt)
  may_be_put may (r ∷ rows) = let first = may r in let more = may_be_put may rows in (first.0 ∷ more.0, (first.1, more.1))

  -- the writes are these, where each has to be
  pub put_as : (write : R → Write) (rows : List R) → ((r : R) → Contains rows r → (w : Write) → Puts r w → w ≡ write r) → (ws : List Write)
      → ArePut Puts rows ws → ws ≡ map write rows
  put_as write [] is [] put = refl
  put_as write [] is (w ∷ ws) put = absurd put
  put_as write (r ∷ rows) is [] put = absurd put
  put_as write (r ∷ rows) is (w ∷ ws) put =
      ap₂ ◌∷◌ (is r (contains_first r rows) w put.0) (put_as write rows (λ x there. is x (contains_further r x rows there)) ws put.1)
