-- A query that runs where its text was compiled just before.
use Rattle.std.proofs.Common.{◌≡◌, Any, IsTrue, ℕ, ◌+◌, ◌<◌, ◌≤◌, length, take, get_or, List, [], ◌∷◌, ◌++◌, Option, Some, Result, Ok, Err, None, IfOk, IfErr, OnOk, OnErr, false, sym, subst, ◌∙◌, ap, inl, inr, true, arith}
use Rattle.std.proofs.lemmas.List.{take_more}
use Rattle.std.specs.List.{AllZip}
use Rattle.sqlite_value.specs.Order.{Row}
use Rattle.sqlite_trees.specs.declared.error.StoreError.{StoreError}
use Rattle.sqlite_trees.specs.declared.error.StoreError.TheVariants.{OutOfMemory, Io, Corrupt, Full, Broken, Unstorable}
use Rattle.sqlite_schema.specs.declared.command.Returning.{Returning}
use Rattle.sqlite.specs.declared.error.Error.{Error}
use Rattle.sqlite.specs.Clock.{timed}
use Rattle.sqlite.specs.Effect.{Database, RefusesToRead}
use Rattle.sqlite.specs.Listing.{understood, reads_listing, IsSourceOf}
use Rattle.sqlite.specs.Given.{IsPlain}
use Rattle.sqlite.specs.State.{State, HasCleanDisk, IsStatement, IsNoStatement, IsNotRun, IsUnchanged, IsRolledBack, HasCause, Fails, Survives, CommitsShowing, Shown, Begins, ShowsRows, FailsToShow, FailsToQuery}
use Rattle.sqlite.proofs.StateLemmas.{survives_then}
use Rattle.sqlite.proofs.Callers.{unchanged_then, never_commits, shown_begins}
use Rattle.one_table.specs.declared.read_fault.ReadFault.{ReadFault}
use Rattle.one_table.specs.declared.read_fault.ReadFault.TheVariants.{Database as Failed, Row as Bad}
use Rattle.one_table.specs.ReadFaults.{OnlyWhere}
use Rattle.one_table.specs.Answer.{OnlyAsks, IsLeft, FailsToRead}

-- one more row that reads as a value, behind those that were read so far
pub read_push : {X : Type 0} (R : Row → X → Type 0) (rows : List Row) (xs : List X) (row : Row) (x : X) → AllZip R rows xs → R row x
    → AllZip R (rows ++ row ∷ []) (xs ++ x ∷ [])
read_push R [] [] row x all here = (here, tt)
read_push R [] (y ∷ ys) row x all here = absurd all
read_push R (r ∷ rows) [] row x all here = absurd all
read_push R (r ∷ rows) (y ∷ ys) row x all here = (all.0, read_push R rows ys row x all.1 here)

-- one more row of those that were taken so far
pub read_more : {X : Type 0} (R : Row → X → Type 0) (rows : List Row) (i : ℕ) (xs : List X) (row : Row) (x : X) → i < length rows → row
    ≡ get_or rows i row → AllZip R (take i rows) xs → R row x
    → AllZip R (take (i + 1) rows) (xs ++ x ∷ [])
read_more R rows i xs row x low is all here =
    subst (λ taken. AllZip R taken (xs ++ x ∷ [])) (ap (λ r. take i rows ++ r ∷ []) is ∙ sym (take_more rows i row low))
    (read_push R (take i rows) xs row x all here)

rolled_back_then : (old mid new : State) → IsUnchanged old mid → IsRolledBack mid new → IsRolledBack old new
rolled_back_then old mid new same back = record {
  was_open = λ _. same.0.was_open;
  undone = λ k. ((back.undone k).0 ∙ same.0.committed_is, (back.undone k).1 ∙ same.0.committed_is);
  autocommit = back.autocommit;
  unmarked = back.unmarked;
  counts = record { changes = back.counts.changes ∙ same.1.changes; last_rowid = back.counts.last_rowid ∙ same.1.last_rowid };
}

-- what is left of a connection that was first unchanged is left of it as it was before
pub left_then : (old mid new : State) → IsUnchanged old mid → IsLeft mid new → IsLeft old new
left_then old mid new same (inl kept) = inl (unchanged_then old mid new same kept)
left_then old mid new same (inr back) = inr (rolled_back_then old mid new same back)

caused : (old mid new : State) (big : Type 0) (cause : StoreError) → IsUnchanged old mid → old.faults ≤ mid.faults
    → HasCause mid new big cause → HasCause old new big cause
caused old mid new big OutOfMemory same more h = tt
caused old mid new big Io same more h = omega arith
caused old mid new big Corrupt same more h = omega arith
caused old mid new big Full same more h = omega arith
caused old mid new big Broken same more h = let shut : true ≡ false = sym same.0.is_open ∙ h in cc
caused old mid new big Unstorable same more h = h

fails_then : (old mid new : State) (big : Type 0) (e : Error) → IsUnchanged old mid → old.faults ≤ mid.faults → Fails mid new big e → Fails old new big e
fails_then old mid new big e same more h = (h.0, h.1, caused old mid new big h.0 same more h.2, rolled_back_then old mid new same h.3, h.4)

abbrev NoStatementIn : Database → List ℕ → Row → Error → State → Type 0
NoStatementIn db sql params e s = IsNoStatement (record s { now = db }) sql params e

module _ (sql : List ℕ) (params : Row) (old mid new : State) (same : IsUnchanged old mid) where
  abbrev statement_before : (c : _) → IsStatement mid sql params c → IsStatement old sql params c
  statement_before c it = record {
    is = subst (λ (d : Database). understood d.schema sql ≡ Ok c) same.0.now_is it.is;
    whole = it.whole;
    given = it.given;
    now = it.now;
  }

  not_run_before : (e : Error) → old.faults ≤ mid.faults → IsNotRun mid new sql params e → IsNotRun old new sql params e
  unfolding IsNotRun
  not_run_before e more (inl h) = inl (subst (λ (d : Database). NoStatementIn d sql params e old) same.0.now_is h.0, unchanged_then old mid new same h.1)
  not_run_before e more (inr h) = inr (fails_then old mid new ⊥ e same more h)

  module _ (plain : IsPlain (understood old.now.schema sql)) where
    none_shown : (c : _) → IsStatement mid sql params c → (c.returning ≡ None)
    none_shown c it = (subst IsPlain (statement_before c it).is plain).0

    -- rows shown after a step that changed nothing are shown of what was there before it
    pub shown_before : (rows : List Row) → Shown sql params mid new rows → Shown sql params old new rows
    unfolding Shown
    shown_before rows h =
        let none = none_shown h.0 h.1 in
        let full = timed params h.0.formats h.1.now in
        let it = subst (ShowsRows mid new sql h.0 full rows) none h.2 in (
          h.0,
          statement_before h.0 h.1,
          subst (ShowsRows old new sql h.0 full rows) (sym none)
              (it.0, subst (λ (d : Database). IsSourceOf (reads_listing d.schema sql) d it.0) same.0.now_is it.1, it.2, unchanged_then old mid new same it.3),
        )

    -- a query that fails after such a step fails on what was there before it
    pub fails_before : (e : Error) → old.faults ≤ mid.faults → mid.step_limit ≡ old.step_limit → FailsToQuery sql params mid new e
        → FailsToQuery sql params old new e
    unfolding FailsToQuery
    fails_before e more limit (inl h) = inl (not_run_before e more h)
    fails_before e more limit (inr h) =
        let none = none_shown h.0 h.1 in
        let full = timed params h.0.formats h.1.now in
        let it = subst (FailsToShow mid new sql h.0 full e) none h.2 in inr (
          h.0,
          statement_before h.0 h.1,
          subst (FailsToShow old new sql h.0 full e) (sym none) (
            it.0,
            subst (λ (d : Database). IsSourceOf (reads_listing d.schema sql) d it.0) same.0.now_is it.1,
            subst (λ l. RefusesToRead l h.0.command it.0 full e) limit it.2,
            unchanged_then old mid new same it.3,
          ),
        )

module _ (sql : List ℕ) (params : Row) (old new : State) (plain : IsPlain (understood old.now.schema sql)) where
  -- a text that only asks changes nothing where it shows rows
  pub shown_same : (rows : List Row) → Shown sql params old new rows → IsUnchanged old new
  unfolding Shown
  shown_same rows h =
      let none = (subst IsPlain h.1.is plain).0 in
      (subst (ShowsRows old new sql h.0 (timed params h.0.formats h.1.now) rows) none h.2).3

-- a text that was not run leaves all as it was, or its transaction is undone
pub not_run_left : (sql : List ℕ) (params : Row) (old new : State) (e : Error) → IsNotRun old new sql params e → IsLeft old new
unfolding IsNotRun
not_run_left sql params old new e (inl h) = inl h.1
not_run_left sql params old new e (inr h) = inr h.3

-- a connection that failed runs no text
pub failed_not_run : (sql : List ℕ) (params : Row) (old new : State) (e : Error) → Fails old new ⊥ e → IsNotRun old new sql params e
unfolding IsNotRun
failed_not_run sql params old new e h = inr h

-- a text that was not run fails as a query
pub not_run_fails : (sql : List ℕ) (params : Row) (old new : State) (e : Error) → IsNotRun old new sql params e → FailsToQuery sql params old new e
unfolding FailsToQuery
not_run_fails sql params old new e h = inl h

-- rows are shown on a connection that is open
pub shown_open : (sql : List ℕ) (params : Row) (old new : State) (rows : List Row) → Shown sql params old new rows → IsTrue old.is_open
unfolding Shown
shown_open sql params old new rows h = by_returning h.0.returning h.2
  where
    by_returning : (o : Option Returning) → ShowsRows old new sql h.0 (timed params h.0.formats h.1.now) rows o → IsTrue old.is_open
    by_returning None it = it.3.0.was_open
    by_returning (Some what) it = it.1.shown.was_open

-- a text that fails leaves all as it was, or its transaction is undone
pub fails_left : (sql : List ℕ) (params : Row) (old new : State) (e : Error) → FailsToQuery sql params old new e → IsLeft old new
unfolding FailsToQuery
fails_left sql params old new e (inl h) = not_run_left sql params old new e h
fails_left sql params old new e (inr h) = by_returning h.0.returning h.2
  where
    by_returning : (o : Option Returning) → FailsToShow old new sql h.0 (timed params h.0.formats h.1.now) e o → IsLeft old new
    by_returning None it = inl it.3
    by_returning (Some what) (inl it) = inl it.1
    by_returning (Some what) (inr it) = inr it.3

-- the text was compiled where the connection was open, and runs then
pub asks_survives : (sql text : List ℕ) (params : Row) (old mid new : State) → OnlyAsks sql old
    → (HasCleanDisk mid → (text ≡ sql) × IsUnchanged old mid) → Survives old mid (λ _. ⊥)
    → Survives mid new (CommitsShowing text params mid) → Survives old new (λ _. ⊥)
asks_survives sql text params old mid new asks made first second =
    survives_then old mid new (λ _. ⊥) (CommitsShowing text params mid) (λ _. ⊥) (λ _ db none. none)
    (λ clean db commits. let it = made (omega (arith, second.clean)) in
    never_commits sql params mid db (subst (λ (d : Database). IsPlain (understood d.schema sql)) (sym it.1.0.now_is)
    (asks it.1.0.was_open)) (rw it.0 at commits))
    first second

-- what a query leaves, with the answer's rows as `items` gives them
pub record HasAsked {V : Type 0} (items : V → List Row) (sql : List ℕ) (params : Row) (old new : State) (r : Result V Error) : Type 0 where
  pub given : IfOk r (λ v. Shown sql params old new (items v))
  pub same : OnOk r (IsUnchanged old new)
  pub kept : OnErr r (IsLeft old new)
  pub faults : IfErr r (FailsToQuery sql params old new)

-- a text that only asks, compiled first and run then, leaves what one query leaves
pub has_asked : {V : Type 0} (items : V → List Row) (sql text : List ℕ) (params : Row) (old mid new : State) (r : Result V Error)
    → OnlyAsks sql old → text ≡ sql → IsUnchanged old mid → Survives old mid (λ _. ⊥)
    → IfOk r (λ v. Shown text params mid new (items v)) → IfErr r (FailsToQuery text params mid new) → HasAsked items sql params old new r
has_asked items sql text params old mid new (Ok v) asks is same kept h none =
    let plain = asks same.0.was_open in
    let shown = shown_before sql params old mid new same plain (items v) (rw is at h) in
    record { given = shown; same = shown_same sql params old new plain (items v) shown; kept = tt; faults = tt }
has_asked items sql text params old mid new (Err e) asks is same kept none h =
    let plain = asks same.0.was_open in
    let fails = fails_before sql params old mid new same plain e kept.counts kept.limit (rw is at h) in
    record { given = tt; same = tt; kept = fails_left sql params old new e fails; faults = fails }

-- a row that is refused for one reason is refused for each that follows from it
pub only_where : {A B : Type 0} (why : ReadFault) → (A → B) → OnlyWhere A why → OnlyWhere B why
only_where why implies (inl none) = inl none
only_where why implies (inr bad) = inr (bad.0, implies bad.1)

-- a row of those that begin the answer was refused, or there was no memory
stops_on : (IsReadable : Row → Type 0) (sql : List ℕ) (params : Row) (old new : State) (rows : List Row) → Begins sql params new rows → IsUnchanged old new
    → (why : ReadFault) → OnlyWhere (Any (λ row. ¬ IsReadable row) rows) why → FailsToRead IsReadable sql params old new why
stops_on IsReadable sql params old new rows begins same (Failed e) (inl none) = inr (none, same)
stops_on IsReadable sql params old new rows begins same Bad (inl none) = cc
stops_on IsReadable sql params old new rows begins same (Failed e) (inr bad) = absurd (let no = bad.0 in cc)
stops_on IsReadable sql params old new rows begins same Bad (inr bad) = (record { rows = rows; begins = begins; bad = bad.1 }, same)

-- the same of an answer that was taken whole
pub stops_in : (IsReadable : Row → Type 0) (sql : List ℕ) (params : Row) (old new : State) → OnlyAsks sql old → (rows : List Row)
    → Shown sql params old new rows → IsUnchanged old new
    → (why : ReadFault) → OnlyWhere (Any (λ row. ¬ IsReadable row) rows) why → FailsToRead IsReadable sql params old new why
stops_in IsReadable sql params old new asks rows shown same =
    stops_on IsReadable sql params old new rows (shown_begins sql params old new rows (asks same.0.was_open) shown) same
