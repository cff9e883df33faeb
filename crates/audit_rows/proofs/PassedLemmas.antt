-- Reads of tables, one after another: what they leave, and why a later one fails.
use Rattle.std.proofs.Common.{◌≡◌, ◌≤◌, ◌++◌, ◌∙◌, false, List, ◌∷◌, Result, Ok, Err, sym, ap, subst, inl, inr, arith}
use Rattle.std.specs.Prelude.{All}
use Rattle.std.proofs.lemmas.Bool.{both_ways, true_from_ne_false}
use Rattle.std.proofs.lemmas.Result.{IfErr-weaker, on_err_weaker, on_ok_weaker}
use Rattle.std.proofs.lemmas.List.{append_assoc}
use Rattle.std.proofs.lemmas.List.Elements.{All-append, All-contains, Contains-append_left, Contains-append_right}
use Rattle.sqlite_trees.specs.declared.error.StoreError.{StoreError}
use Rattle.sqlite_trees.specs.declared.error.StoreError.TheVariants.{OutOfMemory, Io, Corrupt, Full, Broken, Unstorable}
use Rattle.sqlite_trees.proofs.Doubt.{no_doubt}
use Rattle.sqlite.specs.Effect.{Database}
use Rattle.sqlite.specs.State.{HasCause, HasCleanDisk, IsRolledBack, IsUnchanged, State, Survives}
use Rattle.sqlite.specs.declared.error.Error.{Error}
use Rattle.sqlite.proofs.Callers.{unchanged_then}
use Rattle.sqlite.proofs.StateLemmas.{survives_then}
use Rattle.office_rules.proofs.OfficeLemmas.MapLemmas.{all_from_contains}
use Rattle.one_table.specs.Reading.{FailsPlainly}
use Rattle.one_table.specs.ReadsOnly.{ReadsOnly}
use Rattle.one_table.proofs.AnswerLemmas.{left_then}
use Rattle.one_table.proofs.ReadsOnlyLemmas.{read_so}
use Rattle.book_tables.specs.Holds.{IsKept}
use Rattle.audit_rows.specs.Breaks.{Breaks, HasTrueRows}
use Rattle.audit_rows.specs.Fails.{FailsToReadTables, HasNoFormat, HaveTables, IsKnown}
use Rattle.audit_rows.specs.Listing.{FailsToList}
use Rattle.audit_rows.specs.Tables.{kept_of}
use Rattle.audit_rows.specs.declared.finding.AuditFault.{AuditFault}
use Rattle.audit_rows.specs.declared.finding.AuditFault.TheVariants.{Failed, Found, NoOffice}
use Rattle.audit_rows.specs.declared.finding.Finding.{Finding}
use Rattle.audit_rows.specs.declared.table_name.TableName.{TableName}

module _ (old mid new : State) (same : IsUnchanged old mid) (survives : Survives old mid (λ _. ⊥)) where
  caused_after : (cause : StoreError) → HasCause mid new ⊥ cause → HasCause old new ⊥ cause
  caused_after OutOfMemory why = tt
  caused_after Io why = let counts : old.faults ≤ mid.faults = survives.counts in omega arith
  caused_after Corrupt why = let counts : old.faults ≤ mid.faults = survives.counts in omega arith
  caused_after Full why = let counts : old.faults ≤ mid.faults = survives.counts in omega arith
  caused_after Broken why = sym (same.0.is_open ∙ sym same.0.was_open) ∙ why
  caused_after Unstorable why = why

  back_after : IsRolledBack mid new → IsRolledBack old new
  back_after back = record {
    was_open = λ k. same.0.was_open;
    undone = λ k. ((back.undone k).0 ∙ same.0.committed_is, (back.undone k).1 ∙ same.0.committed_is);
    autocommit = back.autocommit;
    unmarked = back.unmarked;
    counts = record { changes = back.counts.changes ∙ same.1.changes; last_rowid = back.counts.last_rowid ∙ same.1.last_rowid };
  }

  plainly_after : (e : Error) → FailsPlainly mid new e → FailsPlainly old new e
  plainly_after e (inl why) = inl (why.0, why.1, caused_after why.0 why.2, back_after why.3, why.4)
  plainly_after e (inr why) = inr (why.0, rw (← survives.limit) why.1, unchanged_then old mid new same why.2)

  -- a table that is not read after a read fails on what was there before that read
  pub lists_after : (e : Error) → FailsToList mid new e → FailsToList old new e
  lists_after e (inl why) = inl (λ was_open. plainly_after e (why same.0.is_open))
  lists_after e (inr why) = inr (why.0, unchanged_then old mid new same why.1)

-- a read after one that left all as it was
module _ {K L : State → Type 0} {T U E F : Type 0} {A : State → State → E → Type 0} {B C : State → State → F → Type 0} {x : T}
    {old mid new : State} (first : ReadsOnly K IsUnchanged A old mid (Ok x)) (there : K old → L mid) where
  -- a read after one that left all as it was is a read of what was there before it
  pub reads_then : (r : Result U F) → ReadsOnly L IsUnchanged B mid new r
      → (HasCleanDisk mid → K old → IsUnchanged old mid → Survives old mid (λ _. ⊥) → (e : F) → B mid new e → C old new e) → ReadsOnly K IsUnchanged C old new r
  reads_then r second fails = record {
    same = λ clean known. on_ok_weaker r (unchanged_then old mid new (first.same (early known clean) known)) (second.same clean (there known));
    kept = λ clean known. on_err_weaker r (left_then old mid new (first.same (early known clean) known)) (second.kept clean (there known));
    mode = λ outside. second.mode (first.mode outside);
    faults = λ clean known. IfErr-weaker r (B mid new) (C old new)
        (fails (early known clean) known (first.same (early known clean) known) (first.survives known)) (second.faults clean (there known));
    survives = λ known. survives_then old mid new _ _ (λ _. ⊥) (λ _ db none. none) (λ _ db none. none) (first.survives known) (second.survives (there known));
  }
    where
      early : K old → HasCleanDisk new → HasCleanDisk mid
      early known clean = omega (arith, (second.survives (there known)).clean, clean)

module _ (xs ys : List TableName) (db : Database) (all : HaveTables (xs ++ ys) db) where
  have_first : HaveTables xs db
  have_first = all_from_contains (λ (t : TableName). IsKept db.schema (kept_of t)) xs
      (λ t there. All-contains (λ (u : TableName). IsKept db.schema (kept_of u)) (xs ++ ys) t all (Contains-append_left xs ys t there))

  have_after : HaveTables ys db
  have_after = all_from_contains (λ (t : TableName). IsKept db.schema (kept_of t)) ys
      (λ t there. All-contains (λ (u : TableName). IsKept db.schema (kept_of u)) (xs ++ ys) t all (Contains-append_right xs ys t there))

module _ (xs ys : List TableName) where
  -- a finding in the first tables, and one in those after them
  pub breaks_first : (f : Finding) (db : Database) → Breaks xs f db → Breaks (xs ++ ys) f db
  breaks_first f db b = record {
    before = b.before;
    after = b.after ++ ys;
    read = ap (λ (l : List TableName). l ++ ys) b.read ∙ append_assoc b.before (f.table ∷ b.after) ys;
    whole = b.whole;
    there = b.there;
    row = b.row;
    first = b.first;
    breaks = b.breaks;
  }

  breaks_after : (f : Finding) (db : Database) → All (HasTrueRows db) xs → Breaks ys f db → Breaks (xs ++ ys) f db
  breaks_after f db whole b = record {
    before = xs ++ b.before;
    after = b.after;
    read = ap (λ (l : List TableName). xs ++ l) b.read ∙ sym (append_assoc xs b.before (f.table ∷ b.after));
    whole = All-append (HasTrueRows db) xs b.before whole b.whole;
    there = b.there;
    row = b.row;
    first = b.first;
    breaks = b.breaks;
  }

  -- ---- the first read fails

  fails_first : (old new : State) (e : AuditFault) → FailsToReadTables xs old new e → FailsToReadTables (xs ++ ys) old new e
  fails_first old new (Found f) why = (breaks_first f old.now why.0, why.1)
  fails_first old new NoOffice why = why
  fails_first old new (Failed e) why = why

  -- a fault of the first tables is one of these and those that come after them
  pub read_first : {T U : Type 0} {old new : State} (e : AuditFault)
      → ReadsOnly {T = T} (IsKnown (HaveTables xs)) IsUnchanged (FailsToReadTables xs) old new (Err e)
      → ReadsOnly {T = U} (IsKnown (HaveTables (xs ++ ys))) IsUnchanged (FailsToReadTables (xs ++ ys)) old new (Err e)
  read_first {old = old} {new} e this = record {
    same = λ _ _. tt;
    kept = λ clean known. this.kept clean (λ runs. have_first xs ys old.now (known runs));
    mode = this.mode;
    faults = λ clean known. fails_first old new e (this.faults clean (λ runs. have_first xs ys old.now (known runs)));
    survives = λ known. this.survives (λ runs. have_first xs ys old.now (known runs));
  }

  -- ---- the first read succeeds

  module _ {T U : Type 0} {x : T} {old mid new : State}
      (first : ReadsOnly (IsKnown (HaveTables xs)) IsUnchanged (FailsToReadTables xs) old mid (Ok x)) (shut : mid.is_clean ≡ false → mid.is_open ≡ false)
      {r : Result U AuditFault} (second : ReadsOnly (IsKnown (HaveTables ys)) IsUnchanged (FailsToReadTables ys) mid new r) where
    -- the first tables are there where all are
    pub known_first : IsKnown (HaveTables (xs ++ ys)) old → IsKnown (HaveTables xs) old
    known_first known runs = have_first xs ys old.now (known runs)

    -- the later tables are there once the first were read
    pub known_between : IsKnown (HaveTables (xs ++ ys)) old → IsKnown (HaveTables ys) mid
    known_between known runs =
        let same = first.same (no_doubt mid.is_clean (true_from_ne_false mid.is_clean (λ dirty. both_ways mid.is_open (shut dirty) runs)))
        (known_first known) in
        subst (HaveTables ys) (sym same.0.now_is) (have_after xs ys old.now (known same.0.was_open))

    -- the disk was clean between two reads, where it is clean after them
    pub clean_between : IsKnown (HaveTables (xs ++ ys)) old → HasCleanDisk new → HasCleanDisk mid
    clean_between known clean = omega (arith, (second.survives (known_between known)).clean, clean)

    -- the first read left all as it was, where the disk is clean after the second
    pub same_between : IsKnown (HaveTables (xs ++ ys)) old → HasCleanDisk new → IsUnchanged old mid
    same_between known clean = first.same (clean_between known clean) (known_first known)

    fails_after : All (HasTrueRows old.now) xs → IsUnchanged old mid → Survives old mid (λ _. ⊥) → (e : AuditFault)
        → FailsToReadTables ys mid new e → FailsToReadTables (xs ++ ys) old new e
    fails_after whole same survives (Found f) why = (
      breaks_after f old.now whole (subst (Breaks ys f) same.0.now_is why.0),
      unchanged_then old mid new same why.1,
    )
    fails_after whole same survives NoOffice why = (subst HasNoFormat same.0.now_is why.0, unchanged_then old mid new same why.1)
    fails_after whole same survives (Failed e) why = lists_after old mid new same survives e why

    -- both reads, where each row of the first tables shows a record
    pub read_after : (HasCleanDisk mid → IsKnown (HaveTables xs) old → All (HasTrueRows old.now) xs)
        → ReadsOnly (IsKnown (HaveTables (xs ++ ys))) IsUnchanged (FailsToReadTables (xs ++ ys)) old new r
    read_after whole = reads_then {A = FailsToReadTables xs} {x = x} (read_so known_first first) known_between r second
        (λ was known same survives e why. fails_after (whole was (known_first known)) same survives e why)
