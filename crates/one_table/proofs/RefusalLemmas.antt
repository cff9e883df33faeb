-- Why an INSERT, an UPDATE, a DELETE or an upsert of one table fails.
use Rattle.std.proofs.Common.{◌≡◌, ℕ, true, false, List, [], length, Option, None, Some, IsTrue, Ok, Err, refl, sym, ap, append-nil, subst, ◌∙◌, inl, inr, true≢false}
use Rattle.std.specs.Prelude.{◌||◌, is_some}
use Rattle.std.proofs.lemmas.Bool.{cases_Bool}
use Rattle.sqlite_trees.specs.declared.error.StoreError.{StoreError}
use Rattle.sqlite_trees.specs.declared.error.StoreError.TheVariants.{OutOfMemory, Io, Corrupt, Full, Broken, Unstorable}
use Rattle.sqlite_value.specs.Order.{Row}
use Rattle.sqlite_schema.specs.declared.command.Command.{Command}
use Rattle.sqlite_schema.specs.declared.command.Command.TheVariants.{Delete, Insert, InsertOr, Update}
use Rattle.sqlite_schema.specs.declared.command.Conflict.{Conflict}
use Rattle.sqlite_schema.specs.declared.command.Returning.{Returning}
use Rattle.sqlite_schema.specs.declared.command.Source.{Source}
use Rattle.sqlite_schema.specs.declared.command.Upsert.{Upsert}
use Rattle.sqlite_schema.specs.declared.program.Program.{Program}
use Rattle.sqlite_resolve.specs.declared.compiled.Compiled.{Compiled}
use Rattle.sqlite.specs.Clock.{timed}
use Rattle.sqlite.specs.Does.{Does}
use Rattle.sqlite.specs.Effect.{is_query}
use Rattle.sqlite.specs.State.{Escapes, ExecutesIn, EndsScope, Fails, FailsToQuery, FailsToShow as ShowsNot, HasCause, IsMisplaced, IsNotRun, IsStatement, IsUnchanged, RunsAlone, RunsCommand, State, is_pragma, mode_of, shows_rows, text_of}
use Rattle.sqlite.specs.declared.error.Error.{Error}
use Rattle.sqlite.specs.declared.error.Error.TheVariants.{SqliteFailure}
use Rattle.sqlite.specs.declared.error.ErrorCode.TheVariants.{TransactionState}
use Rattle.one_table.specs.InTransaction.{FailsToRun, FailsToShow, FailsToWrite, FailsToWriteAs, HadEnded}
use Rattle.one_table.specs.Reading.{Means, MeansAs, is_whole}
use Rattle.one_table.proofs.FaultLemmas.{is_statement}

-- a command that changes rows: it is no query, ends no transaction, and is looked up in no text
pub record ChangesRows (shows : Option Returning) (command : Command) : Type 1 where
  pub silent : (is_query command || (is_pragma command || false)) ≡ false
  pub stays : (s : State) → ¬ Escapes 0 s command
  pub placed : (s : State) (e : Error) → ¬ IsMisplaced s command e
  pub textless : (s : State) (params : Row) (text : List ℕ) (out : _) → Does s.step_limit (mode_of s) params s.now text shows command out
      → Does s.step_limit (mode_of s) params s.now [] shows command out

-- an INSERT changes rows
pub insert_changes : (at : ℕ) (from : Source) → ChangesRows None (Insert at from)
insert_changes at from = record {
  silent = refl;
  stays = λ s escapes. elim escapes [
    | inl (inl is) ↦ absurd cc
    | inl (inr is) ↦ absurd cc
    | inr (name, inl is, held) ↦
        absurd cc
    | inr (name, inr is, held) ↦ absurd cc
  ];
  placed = λ s e placed.
      elim placed [
        | inl (is, inl (here, inside)) ↦ absurd cc
        | inl (is, inr (inl here, out)) ↦ absurd cc
        | inl (is, inr (inr here, out)) ↦ absurd cc
        | inr (is, name, inl here, free) ↦ absurd cc
        | inr (is, name, inr here, free) ↦ absurd cc
      ];
  textless = λ s params text out does. does;
}

-- an UPDATE changes rows
pub update_changes : (at : ℕ) (q : Program) → ChangesRows None (Update at q)
update_changes at q = record {
  silent = refl;
  stays = λ s escapes. elim escapes [
    | inl (inl is) ↦ absurd cc
    | inl (inr is) ↦ absurd cc
    | inr (name, inl is, held) ↦
        absurd cc
    | inr (name, inr is, held) ↦ absurd cc
  ];
  placed = λ s e placed.
      elim placed [
        | inl (is, inl (here, inside)) ↦ absurd cc
        | inl (is, inr (inl here, out)) ↦ absurd cc
        | inl (is, inr (inr here, out)) ↦ absurd cc
        | inr (is, name, inl here, free) ↦ absurd cc
        | inr (is, name, inr here, free) ↦ absurd cc
      ];
  textless = λ s params text out does. does;
}

-- a DELETE changes rows
pub delete_changes : (at : ℕ) (q : Program) → ChangesRows None (Delete at q)
delete_changes at q = record {
  silent = refl;
  stays = λ s escapes. elim escapes [
    | inl (inl is) ↦ absurd cc
    | inl (inr is) ↦ absurd cc
    | inr (name, inl is, held) ↦
        absurd cc
    | inr (name, inr is, held) ↦ absurd cc
  ];
  placed = λ s e placed.
      elim placed [
        | inl (is, inl (here, inside)) ↦ absurd cc
        | inl (is, inr (inl here, out)) ↦ absurd cc
        | inl (is, inr (inr here, out)) ↦ absurd cc
        | inr (is, name, inl here, free) ↦ absurd cc
        | inr (is, name, inr here, free) ↦ absurd cc
      ];
  textless = λ s params text out does. does;
}

-- an upsert changes rows, whatever it shows of them
pub upsert_changes : (shows : Option Returning) (at : ℕ) (way : Conflict) (from : Source) (clauses : List Upsert)
    → ChangesRows shows (InsertOr at way from clauses)
upsert_changes shows at way from clauses = record {
  silent = refl;
  stays = λ s escapes. elim escapes [
    | inl (inl is) ↦ absurd cc
    | inl (inr is) ↦ absurd cc
    | inr (name, inl is, held) ↦
        absurd cc
    | inr (name, inr is, held) ↦ absurd cc
  ];
  placed = λ s e placed.
      elim placed [
        | inl (is, inl (here, inside)) ↦ absurd cc
        | inl (is, inr (inl here, out)) ↦ absurd cc
        | inl (is, inr (inr here, out)) ↦ absurd cc
        | inr (is, name, inl here, free) ↦ absurd cc
        | inr (is, name, inr here, free) ↦ absurd cc
      ];
  textless = λ s params text out does. does;
}

caused : (old new : State) (A B : Type 0) → (A → B) → (cause : StoreError) → HasCause old new A cause → HasCause old new B cause
caused old new A B implies OutOfMemory h = h
caused old new A B implies Io h = h
caused old new A B implies Corrupt h = h
caused old new A B implies Full h = h
caused old new A B implies Broken h = h
caused old new A B implies Unstorable h = implies h

fails_for : (old new : State) (A B : Type 0) (e : Error) → (A → B) → Fails old new A e → Fails old new B e
fails_for old new A B e implies h = (h.0, h.1, caused old new A B implies h.0 h.2, h.3, h.4)

module _ (sql : List ℕ) (params : Row) (old new : State) (shows : Option Returning) (command : Command)
    (changes : ChangesRows shows command) (means : IsTrue old.is_open → MeansAs old.now.schema sql command shows)
    (whole : is_whole sql (length params) ≡ true) (e : Error) where
  abbrev IsLong : Type 0
  IsLong = IsTrue old.is_open → Does old.step_limit (mode_of old) params old.now [] shows command (Err None)

  module _ (c : Compiled) (it : IsStatement old sql params c) where
    abbrev full : Row
    full = timed params c.formats it.now

    module _ (runs : IsTrue old.is_open) where
      known : c ≡ (means runs).compiled
      known = let both : Ok c ≡ Ok (means runs).compiled = sym it.is ∙ (means runs).understands in cc

      command_is : c.command ≡ command
      command_is = ap (λ (k : Compiled). k.command) known ∙ (means runs).command

      returning_is : c.returning ≡ shows
      returning_is = ap (λ (k : Compiled). k.returning) known ∙ (means runs).returning

      timeless : c.formats ≡ []
      timeless = ap (λ (k : Compiled). k.formats) known ∙ (means runs).timeless

      does : (out : _) → Does old.step_limit (mode_of old) full old.now (text_of sql c) c.returning c.command out
          → Does old.step_limit (mode_of old) params old.now [] shows command out
      does out h =
          let no_times : full ≡ params = rw (timeless, append-nil params) refl in
          let h_1 = subst (λ ps. Does old.step_limit (mode_of old) ps old.now (text_of sql c) c.returning c.command out) no_times h in
          let h_2 = subst (λ r. Does old.step_limit (mode_of old) params old.now (text_of sql c) r c.command out) returning_is h_1 in
          let h_3 = subst (λ k. Does old.step_limit (mode_of old) params old.now (text_of sql c) shows k out) command_is h_2 in
          changes.textless old params (text_of sql c) out h_3

    by_command : RunsCommand old new sql c full (Err e) → FailsToWriteAs shows command params old new e
    by_command (inl (inl placed, same)) = absurd (changes.placed old e (subst (λ k. IsMisplaced old k e) (command_is same.0.was_open) placed))
    by_command (inl (inr refused, same)) = inr (inl (does same.0.was_open (Err (Some e)) refused.1, same))
    by_command (inr fails) = inr (inr (fails_for old new _ IsLong e (λ long runs. does runs (Err None) long) fails))

  by_not_run : IsNotRun old new sql params e → FailsToWriteAs shows command params old new e
  unfolding IsNotRun
  by_not_run (inl (none, same)) = absurd (is_statement (means same.0.was_open) params old new refl e whole none)
  by_not_run (inr fails) = inr (inr (fails_for old new ⊥ IsLong e (λ never. absurd never) fails))

module _ (sql : List ℕ) (params : Row) (old new : State) (command : Command) (changes : ChangesRows None command)
    (means : IsTrue old.is_open → Means old.now.schema sql command) (whole : is_whole sql (length params) ≡ true) (e : Error) where
  module _ (c : Compiled) (it : IsStatement old sql params c) where
    shows_none : IsTrue old.is_open → shows_rows false c ≡ false
    shows_none runs =
        let s_1 : shows_rows false c ≡ (is_query c.command || (is_pragma c.command || false)) =
        ap (λ r. is_query c.command || (is_pragma c.command || is_some r)) (returning_is sql params old new None command changes means whole e c it runs) in
        s_1 ∙ ap (λ k. is_query k || (is_pragma k || false)) (command_is sql params old new None command changes means whole e c it runs) ∙ changes.silent

    by_alone : RunsAlone false old new sql c (timed params c.formats it.now) (Err e) → FailsToWrite command params old new e
    by_alone h = elim (cases_Bool (shows_rows false c)) [
      | inl shows ↦ let same = (rw shows at h).1 in absurd (true≢false (sym shows ∙ shows_none same.0.was_open))
      | inr hides ↦ by_command sql params old new None command changes means whole e c it (rw hides at h)
    ]

  by_text : ExecutesIn false sql params old new (Err e) → FailsToWrite command params old new e
  unfolding ExecutesIn
  by_text (inl none) = by_not_run sql params old new None command changes means whole e none
  by_text (inr ran) = by_alone ran.0 ran.1 ran.2

  ends_none : EndsScope 0 sql params old → IsUnchanged old new → ⊥
  unfolding EndsScope
  ends_none h same = changes.stays old (subst (Escapes 0 old) (command_is sql params old new None command changes means whole e h.0 h.1 same.0.was_open) h.2)

  -- a text of a write that fails inside a transaction fails as its command does
  pub fails_to_write : FailsToRun sql params old new e → FailsToWrite command params old new e
  fails_to_write (inl had) = inl had
  fails_to_write (inr (inl failed)) = by_text failed.0
  fails_to_write (inr (inr ends)) = absurd (ends_none ends.0 ends.2)

-- ---- a write that shows rows

had_ended : (old new : State) (e : Error) → old.in_transaction ≡ false → e ≡ SqliteFailure TransactionState → IsUnchanged old new → HadEnded old new e
had_ended old new e ended told same = record {
  ended = ended;
  told = told;
  is_open = same.0.is_open ∙ sym same.0.was_open;
  now_is = same.0.now_is;
  committed_is = same.0.committed_is;
  mode = same.0.mode;
}

module _ (sql : List ℕ) (params : Row) (old new : State) (what : Returning) (command : Command) (changes : ChangesRows (Some what) command)
    (means : IsTrue old.is_open → MeansAs old.now.schema sql command (Some what))
    (whole : is_whole sql (length params) ≡ true) (e : Error) where
  by_returning : (c : Compiled) (it : IsStatement old sql params c) (o : Option Returning) → c.returning ≡ o
      → ShowsNot old new sql c (timed params c.formats it.now) e o → FailsToWriteAs (Some what) command params old new e
  by_returning c it None is h = absurd (let other = returning_is sql params old new (Some what) command changes means whole e c it
      h.3.0.was_open in let wrong = sym is ∙ other in cc)
  by_returning c it (Some shown) is h = by_command sql params old new (Some what) command changes means whole e c it h

  by_query : FailsToQuery sql params old new e → FailsToWriteAs (Some what) command params old new e
  unfolding FailsToQuery
  by_query (inl none) = by_not_run sql params old new (Some what) command changes means whole e none
  by_query (inr ran) = by_returning ran.0 ran.1 ran.0.returning refl ran.2

  -- the same of a write that shows rows
  pub fails_showing : FailsToShow sql params old new e → FailsToWriteAs (Some what) command params old new e
  fails_showing (inl fails) = by_query fails
  fails_showing (inr late) = inl (had_ended old new e late.3 late.4 late.5)
