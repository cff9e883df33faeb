-- What a read leaves, from what is known of the read that it is made of.
use Rattle.std.proofs.Common.{◌≡◌, ◌∙◌, ap, cond, false, Option, None, Some, Result, Ok, Err, IfOk, IfErr, IsErrAnd, List, ℕ, inl, inr, refl, subst, sym, arith}
use Rattle.sqlite_value.specs.Order.{Row}
use Rattle.sqlite_schema.specs.declared.command.Returning.{Returning}
use Rattle.sqlite.specs.Clock.{timed}
use Rattle.sqlite.specs.Given.{IsPlain}
use Rattle.sqlite.specs.declared.error.Error.{Error}
use Rattle.sqlite.specs.State.{CommitsShowing, Fails, FailsToQuery, HasCleanDisk, IsNotRun, IsUnchanged, Shown, ShowsRows, State, Survives}
use Rattle.sqlite.proofs.InsideLemmas.{unchanged_keeps}
use Rattle.one_table.specs.Answer.{IsLeft, OnlyAsks}
use Rattle.one_table.specs.InTransaction.{FailsToShow, IsUnderWay, KeepsTransaction, StaysInside}
use Rattle.one_table.specs.ReadsOnly.{ReadsInside, ReadsOnly}
use Rattle.one_table.proofs.AnswerLemmas.{HasAsked, asks_survives, failed_not_run, fails_left, has_asked, not_run_fails, not_run_left, shown_open, shown_same}
use Rattle.one_table.proofs.ChangeLemmas.{keeps_inside}

module _ {K : State → Type 0} {old new : State} where
  -- one that succeeds, whatever is made of its value
  pub read_on : {Same : State → State → Type 0} {T U E F : Type 0} {A : State → State → E → Type 0} {B : State → State → F → Type 0} {x : T} {y : U}
      → ReadsOnly K Same A old new (Ok x) → ReadsOnly K Same B old new (Ok y)
  read_on this = record { same = this.same; kept = λ _ _. tt; mode = this.mode; faults = λ _ _. tt; survives = this.survives }

  -- the same, where something else is known that implies what the read asks for
  pub read_so : {Same : State → State → Type 0} {L : State → Type 0} {T U E F : Type 0} {A : State → State → E → Type 0}
      {B : State → State → F → Type 0} {x : T} {y : U}
      → (L old → K old) → ReadsOnly K Same A old new (Ok x) → ReadsOnly L Same B old new (Ok y)
  read_so implies this = record {
    same = λ clean known. this.same clean (implies known);
    kept = λ _ _. tt;
    mode = this.mode;
    faults = λ _ _. tt;
    survives = λ known. this.survives (implies known);
  }

  -- one that fails, whose error is told as another
  pub fail_as : {Same : State → State → Type 0} {T U E F : Type 0} {A : State → State → E → Type 0} {B : State → State → F → Type 0}
      {e : E} (f : F) (r : Result U F) → IsErrAnd r (λ x. x ≡ f)
      → ReadsOnly {T = T} K Same A old new (Err e) → (A old new e → B old new f) → ReadsOnly K Same B old new r
  fail_as f (Ok y) is this told = absurd is
  fail_as {B = B} f (Err x) is this told = record {
    same = λ _ _. tt;
    kept = this.kept;
    mode = this.mode;
    faults = λ clean known. subst (B old new) (sym is) (told (this.faults clean known));
    survives = this.survives;
  }

  -- one that fails, whose error is given on
  pub fail_on : {Same : State → State → Type 0} {T U E : Type 0} {A : State → State → E → Type 0} {e : E} (r : Result U E)
      → IsErrAnd r (λ x. x ≡ e) → ReadsOnly {T = T} K Same A old new (Err e) → ReadsOnly K Same A old new r
  fail_on {e = e} r is this = fail_as e r is this (λ fails. fails)

  -- one that succeeds, of whose value nothing can be made
  pub stop_on : {T U E F : Type 0} {A : State → State → E → Type 0} {B : State → State → F → Type 0} {x : T} (f : F) (r : Result U F) → IsErrAnd r (λ y. y ≡ f)
      → ReadsOnly K IsUnchanged A old new (Ok x) → (HasCleanDisk new → K old → B old new f) → ReadsOnly K IsUnchanged B old new r
  stop_on f (Ok y) is this stops = absurd is
  stop_on {B = B} f (Err x) is this stops =
      record {
        same = λ _ _. tt;
        kept = λ clean known. inl (this.same clean known);
        mode = this.mode;
        faults = λ clean known. subst (B old new) (sym is) (stops clean known);
        survives = this.survives;
      }

  -- one that succeeds, of whose value another is made, or nothing for a reason
  pub read_into : {T U E F : Type 0} {A : State → State → E → Type 0} {B : State → State → F → Type 0} {x : T} (r : Result U F)
      → ReadsOnly K IsUnchanged A old new (Ok x) → (HasCleanDisk new → K old → IfErr r (B old new)) → ReadsOnly K IsUnchanged B old new r
  read_into (Ok y) this stops = read_on this
  read_into {B = B} (Err f) this stops = record {
    same = λ _ _. tt;
    kept = λ clean known. inl (this.same clean known);
    mode = this.mode;
    faults = stops;
    survives = this.survives;
  }

  -- one of which is known what something else implies, and which fails for a reason that implies
  -- another
  pub read_where : {Same : State → State → Type 0} {T E : Type 0} {A B : State → State → E → Type 0} {L : State → Type 0} (r : Result T E)
      → (L old → K old) → ReadsOnly K Same A old new r
      → (HasCleanDisk new → L old → IfErr r (B old new)) → ReadsOnly L Same B old new r
  read_where r implies this faults = record {
    same = λ clean known. this.same clean (implies known);
    kept = λ clean known. this.kept clean (implies known);
    mode = this.mode;
    faults = faults;
    survives = λ known. this.survives (implies known);
  }

-- ---- a text that only asks

module _ (sql : List ℕ) (params : Row) (old new : State) where
  -- it is not compiled
  pub not_compiled : (e : Error) → (HasCleanDisk new → (ps : Row) → IsNotRun old new sql ps e)
      → (old.in_transaction ≡ false → new.in_transaction ≡ false) → Survives old new (λ _. ⊥)
      → ReadsOnly {T = List Row} (OnlyAsks sql) IsUnchanged (FailsToQuery sql params) old new (Err e)
  not_compiled e fails mode survives = record {
    same = λ _ _. tt;
    kept = λ clean asks. not_run_left sql params old new e (fails clean params);
    mode = mode;
    faults = λ clean asks. not_run_fails sql params old new e (fails clean params);
    survives = λ asks. survives;
  }

  -- it is not run, since the connection fails before
  pub not_open : (e : Error) → (HasCleanDisk new → Fails old new ⊥ e) → (old.in_transaction ≡ false → new.in_transaction ≡ false) → Survives old new (λ _. ⊥)
      → ReadsOnly {T = List Row} (OnlyAsks sql) IsUnchanged (FailsToQuery sql params) old new (Err e)
  not_open e fails = not_compiled e (λ clean ps. failed_not_run sql ps old new e (fails clean))

  -- it runs where it was compiled
  pub asked : {V : Type 0} (items : V → List Row) (text : List ℕ) (mid : State) (r : Result V Error)
      → (HasCleanDisk mid → (text ≡ sql) × IsUnchanged old mid) → Survives old mid (λ _. ⊥)
      → Survives mid new (CommitsShowing text params mid) → (old.in_transaction ≡ false → new.in_transaction ≡ false)
      → (HasCleanDisk new → IfOk r (λ v. Shown text params mid new (items v)))
      → (HasCleanDisk new → IfErr r (FailsToQuery text params mid new)) → ReadsOnly (OnlyAsks sql) IsUnchanged (FailsToQuery sql params) old new r
  asked items text mid r made first second mode ok err = record {
    same = λ clean asks. (has clean asks).same;
    kept = λ clean asks. (has clean asks).kept;
    mode = mode;
    faults = λ clean asks. (has clean asks).faults;
    survives = λ asks. asks_survives sql text params old mid new asks made first second;
  }
    where
      has : HasCleanDisk new → OnlyAsks sql old → HasAsked items sql params old new r
      has clean asks =
          let it = made (omega (arith, second.clean)) in
          has_asked items sql text params old mid new r asks it.0 it.1 first (ok clean) (err clean)

-- ---- inside a transaction

module _ (sql : List ℕ) (params : Row) (old new : State) where
  -- what shows rows goes on, be it a query or a write
  pub shown_stays : (rows : List Row) → Shown sql params old new rows → IsUnderWay old → StaysInside old new
  unfolding Shown
  shown_stays rows h way = by_returning h.0.returning h.2
    where
      by_returning : (o : Option Returning) → ShowsRows old new sql h.0 (timed params h.0.formats h.1.now) rows o → StaysInside old new
      by_returning None it = let same = it.3.0 in record
          { was_open = same.was_open; is_open = same.is_open; now_is = refl; committed_is = same.committed_is; mode = same.mode ∙ way }
      by_returning (Some what) it =
          let same = it.1.shown in
          record {
            was_open = same.was_open;
            is_open = same.is_open;
            now_is = refl;
            committed_is = same.committed_is ∙ ap (λ b. cond b old.committed new.now) way;
            mode = same.mode ∙ way;
          }

  -- a text that fails to show rows leaves all as it was, or its transaction is undone
  pub show_left : (e : Error) → FailsToShow sql params old new e → IsLeft old new
  show_left e (inl h) = fails_left sql params old new e h
  show_left e (inr late) = inl late.5

  -- a text that shows rows, or fails to, keeps the transaction
  pub showing : {V : Type 0} (items : V → List Row) (r : Result V Error)
      → (HasCleanDisk new → IfOk r (λ v. Shown sql params old new (items v))) → (HasCleanDisk new → IfErr r (FailsToShow sql params old new))
      → Survives old new (λ _. ⊥) → KeepsTransaction old new r
  showing items (Ok v) ok err survives = record {
    inside = λ clean way. shown_stays (items v) (ok clean) way;
    kept = λ clean way. keeps_inside old new (shown_stays (items v) (ok clean) way);
    survives = survives;
  }
  showing items (Err e) ok err survives = record {
    inside = λ clean way. tt;
    kept = λ clean way. unchanged_keeps old new (show_left e (err clean));
    survives = survives;
  }

  module _ (asks : OnlyAsks sql old) where
    -- a text that only asks runs where a transaction has ended, too
    pub fails_inside : (e : Error) → FailsToShow sql params old new e → FailsToQuery sql params old new e
    fails_inside e (inl h) = h
    fails_inside e (inr late) = absurd (let none = (subst IsPlain late.1.is (asks late.5.0.was_open)).0 in let some = rw none at late.2 in cc)

    -- a text that only asks changes nothing where its rows are shown
    pub asked_same : (rows : List Row) → Shown sql params old new rows → IsUnchanged old new
    asked_same rows h = shown_same sql params old new (asks (shown_open sql params old new rows h)) rows h

  -- a read that fails, whose error is told as another
  pub inside_fails : {U F : Type 0} {B : State → State → F → Type 0} (e : Error) (f : F) (r : Result U F) → IsErrAnd r (λ x. x ≡ f)
      → (HasCleanDisk new → FailsToShow sql params old new e)
      → (FailsToQuery sql params old new e → B old new f) → ReadsInside (OnlyAsks sql) B old new r
  inside_fails e f (Ok y) is fails told = absurd is
  inside_fails {B = B} e f (Err x) is fails told = record {
    same = λ _ _. tt;
    kept = λ clean asks. show_left e (fails clean);
    faults = λ clean asks. subst (B old new) (sym is) (told (fails_inside asks e (fails clean)));
  }

  -- one that succeeds, of whose rows a value is made, or nothing for a reason
  pub inside_into : {U F : Type 0} {B : State → State → F → Type 0} (rows : List Row) (r : Result U F) → (HasCleanDisk new → Shown sql params old new rows)
      → (HasCleanDisk new → OnlyAsks sql old → IsUnchanged old new → IfErr r (B old new)) → ReadsInside (OnlyAsks sql) B old new r
  inside_into rows (Ok y) shown stops = record { same = λ clean asks. asked_same asks rows (shown clean); kept = λ _ _. tt; faults = λ _ _. tt }
  inside_into rows (Err f) shown stops =
      record {
        same = λ _ _. tt;
        kept = λ clean asks. inl (asked_same asks rows (shown clean));
        faults = λ clean asks. stops clean asks (asked_same asks rows (shown clean));
      }
