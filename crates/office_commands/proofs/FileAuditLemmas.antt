-- What an audit of a file shows, once the shifts were looked at as they are stored.
use Rattle.std.proofs.Common.{◌≡◌, ◌≢◌, ◌∙◌, ◌≤◌, ℕ, List, [], ◌∷◌, length, slice_get, Option, Some, None, Result, Ok, Err, IfErr, IfOk, map, inl, inr, refl, sym, ap, subst, arith}
use Rattle.std.proofs.lemmas.Bool.{cases_lt, le-leb}
use Rattle.sqlite.proofs.StateLemmas.{survives_then}
use Rattle.sqlite.specs.Effect.{Database}
use Rattle.sqlite.specs.Files.{ExcusesClose, file_state}
use Rattle.sqlite.specs.Held.{Held}
use Rattle.sqlite.specs.Order.{Row}
use Rattle.sqlite.specs.State.{HasCleanDisk, IsUnchanged, KeepsCommit, State, Survives}
use Rattle.sqlite.specs.declared.error.Error.{Error}
use Rattle.sqlite_disk.specs.declared.Disk.{Ghosts}
use Rattle.sqlite_rules.proofs.ListLemmas.{all_has, has_got}
use Rattle.sqlite_rules.specs.Lists.{Has as Member}
use Rattle.sqlite_store.specs.declared.store.FileStore.{FileStore}
use Rattle.sqlite_trees.specs.declared.error.StoreError.{StoreError}
use Rattle.sqlite_trees.specs.declared.error.StoreError.TheVariants.{Broken, Corrupt, Full, Io, OutOfMemory, Unstorable}
use Rattle.sqlite_wal.specs.Recovery.{Image}
use Rattle.one_table.specs.Answer.{IsLeft}
use Rattle.one_table.specs.Standing.{tree_in}
use Rattle.kept_order.specs.InOrder.{HasTablesInOrder}
use Rattle.sts_token.specs.Token.{BlockFunction}
use Rattle.office_rules.specs.Office.{Office, empty_office}
use Rattle.office_rules.specs.declared.office.shift.Shift.{Shift}
use Rattle.book_tables.specs.Holds.{HasOfficeOf, IsKept, StandsFor, rows_in}
use Rattle.book_tables.specs.Kept.{kept, shifts_kept}
use Rattle.book_tables.specs.row.Rows.{shift_row}
use Rattle.book_tables.proofs.HoldsLemmas.{of_upto, untaken_stands}
use Rattle.audit_rows.specs.Order.{HaveAllColumns}
use Rattle.audit_rows.specs.declared.finding.AuditFault.{AuditFault}
use Rattle.audit_rows.proofs.TrueLemmas.{holds_of}
use Rattle.audit.specs.Audited.{IsAuditOf, IsSound}
use Rattle.audit.specs.Fails.{StandsForNone}
use Rattle.audit.specs.Shown.{HaveWholeShifts}
use Rattle.audit.specs.declared.audited.Audited.{Audited}
use Rattle.books.specs.Path.{IsConnected}
use Rattle.whole_rows.specs.Ended.{Looks}
use Rattle.whole_rows.specs.Partial.{AreWhole, FindsPartial}
use Rattle.office_commands.specs.office.Audits.{FailsToPass, IsAuditOfFile, LacksColumn, LooksAtShifts, by_audit, by_column, by_failure, looked, partial_shift, passed_over, shift_width, told_of}

-- ---- the shifts of a database that stands for an office

at_shifts : Member kept shifts_kept
at_shifts = inr (inr (inr (inr (inl refl))))

shift_rows : (shifts : List Shift) → AreWhole shift_width (map shift_row shifts)
shift_rows [] = tt
shift_rows (s ∷ shifts) = (refl, shift_rows shifts)

-- each has all its columns,
stands_whole : (db : Database) (o : Office) → StandsFor db o → HaveWholeShifts db
stands_whole db o stands there =
    let held = stands.held in
    subst (AreWhole shift_width) (sym (holds_of db stands.format stands.format held.0 shifts_kept at_shifts there held.1)) (shift_rows held.0.shifts)

-- so of a database in which one has not it stands for none
partial_stands : (db : Database) (at : ℕ) (row : Row) → IsKept db.schema shifts_kept → slice_get (rows_in db shifts_kept.table.name) at ≡ Some row
    → length row ≢ shift_width → StandsForNone db
partial_stands db at row there got lacks o stands =
    lacks (all_has (λ (r : Row). length r ≡ shift_width) (rows_in db shifts_kept.table.name) row (stands_whole db o stands there)
    (has_got (rows_in db shifts_kept.table.name) at row got))

-- and where rows passed it stands for their office
sound_stands : (given : Option BlockFunction) (db : Database) (a : Audited) (sound : IsSound given db a) → HasTablesInOrder db
    → (1 ≤ a.format → HaveAllColumns db)
    → StandsFor db sound.office
sound_stands given db a sound order whole = sound.stands order (elim (cases_lt 0 a.format) [
  | inl some ↦ λ _. whole some
  | inr none ↦
      let is : a.format ≡ 0 = omega (arith, none) in
      stands_whole db empty_office (untaken_stands db (subst (λ n. HasOfficeOf n db.schema) is sound.has))
])

-- the table is there where the tables are of some format
shifts_there : (given : Option BlockFunction) (db : Database) (a : Audited) → IsSound given db a → 1 ≤ a.format → IsKept db.schema shifts_kept
shifts_there given db a sound some = of_upto (IsKept db.schema) a.format shifts_kept kept at_shifts (le-leb 1 a.format some) sound.has.tables

-- ---- what was committed

keeps_unchanged : (old new : State) → IsUnchanged old new → KeepsCommit old new
keeps_unchanged old new same = record { was_open = λ _. same.0.was_open; committed = λ _. same.0.committed_is }

keeps_left : (old new : State) → IsLeft old new → KeepsCommit old new
keeps_left old new (inl same) = keeps_unchanged old new same
keeps_left old new (inr undone) = record { was_open = undone.was_open; committed = λ is_open. (undone.undone is_open).1 }

keeps_then : (a b c : State) → KeepsCommit a b → KeepsCommit b c → KeepsCommit a c
keeps_then a b c one two = record {
  was_open = λ is_open. one.was_open (two.was_open is_open);
  committed = λ is_open. two.committed is_open ∙ one.committed (two.was_open is_open);
}

-- the rows of a tree of the last commit, where it is what the connection sees
committed_rows : (first read : State) (name : List ℕ) → IsUnchanged first read → first.now ≡ first.committed
    → read.committed.trees (tree_in read.now.schema name) ≡ rows_in first.now name
committed_rows first read name same clean =
    ap (λ (db : Database). read.committed.trees (tree_in db.schema name)) same.0.now_is
    ∙ ap (λ (db : Database). db.trees (tree_in first.now.schema name)) (same.0.committed_is ∙ sym clean)

-- ---- the whole

module _ {D : Type 0} {g : Ghosts D} where
  -- a store that fails later has a cause since the beginning
  excused_earlier : (first read last : Held (FileStore D g)) → IsUnchanged (file_state first) (file_state read)
      → Survives (file_state first) (file_state read) (λ _. ⊥) → (cause : StoreError)
      → ExcusesClose read last.store cause → ExcusesClose first last.store cause
  excused_earlier first read last same survives OutOfMemory why = tt
  excused_earlier first read last same survives Io why = let counts = survives.counts in omega (arith, why)
  excused_earlier first read last same survives Corrupt why = let counts = survives.counts in omega (arith, why)
  excused_earlier first read last same survives Full why = let counts = survives.counts in omega (arith, why)
  excused_earlier first read last same survives Unstorable why = why
  excused_earlier first read last same survives Broken (inl shut) = let is_open = same.0.is_open in cc
  excused_earlier first read last same survives Broken (inr fault) = inr (let counts = survives.counts in omega (arith, fault))

  module _ (given : Option BlockFunction) (image : Image) (first read last : Held (FileStore D g))
      (connected : HasCleanDisk (file_state first) → IsConnected image (file_state first)) where
    early : (found : Result Audited AuditFault) → IsAuditOf given (file_state first) (file_state read) found → HasCleanDisk (file_state read)
        → IsConnected image (file_state first)
    early found audit clean = connected (omega (arith, audit.survives.clean, clean))

    -- nothing more was looked at
    over_passes : (found : Result Audited AuditFault) → IsAuditOf given (file_state first) (file_state read) found → IfOk found (λ audited. audited.format ≡ 0)
        → HasCleanDisk (file_state read)
        → IfOk found (λ audited. (sound : IsSound given (file_state first).now audited) × StandsFor (file_state first).now sound.office)
    over_passes (Ok audited) audit none clean =
        let at = early (Ok audited) audit clean in
        let sound = audit.passes clean at.opens.is_open in
        (sound, sound_stands given (file_state first).now audited sound at.in_order (λ some. absurd (omega (arith, none, some))))
    over_passes (Err fault) audit none clean = tt

    over_fails : (found : Result Audited AuditFault) → IsAuditOf given (file_state first) (file_state read) found → HasCleanDisk (file_state read)
        → IfErr found (FailsToPass given first read)
    over_fails (Ok audited) audit clean = tt
    over_fails (Err fault) audit clean = by_audit (audit.reads.faults clean (early (Err fault) audit clean).opens.is_open)

    over_keeps : (found : Result Audited AuditFault) → IsAuditOf given (file_state first) (file_state read) found → HasCleanDisk (file_state read)
        → KeepsCommit (file_state first) (file_state read)
    over_keeps (Ok audited) audit clean =
        keeps_unchanged (file_state first) (file_state read) (audit.reads.same clean (early (Ok audited) audit clean).opens.is_open)
    over_keeps (Err fault) audit clean =
        keeps_left (file_state first) (file_state read) (audit.reads.kept clean (early (Err fault) audit clean).opens.is_open)

    audit_alone : (found : Result Audited AuditFault) → IsAuditOf given (file_state first) (file_state read) found → IfOk found (λ audited. audited.format ≡ 0)
        → IsAuditOfFile given first read found
    audit_alone found audit none = record {
      passes = over_passes found audit none;
      fails = over_fails found audit;
      honest = λ clean. audit.honest clean (early found audit clean).opens.is_open;
      keeps = over_keeps found audit;
      survives = audit.survives;
    }

    -- the shifts were looked at
    module _ (audited : Audited) (audit : IsAuditOf given (file_state first) (file_state read) (Ok audited)) (some : 1 ≤ audited.format) where
      abbrev name : List ℕ
      name = shifts_kept.table.name

      survives_both : (partial : Result (Option ℕ) Error) → Looks (tree_in read.schema name) shift_width read last partial
          → Survives (file_state first) (file_state last) (λ _. ⊥)
      survives_both partial looks =
          survives_then (file_state first) (file_state read) (file_state last) _ _ _ (λ _ db none. none) (λ _ db none. none) audit.survives looks.survives

      keeps_both : (partial : Result (Option ℕ) Error) → Looks (tree_in read.schema name) shift_width read last partial → HasCleanDisk (file_state last)
          → KeepsCommit (file_state first) (file_state last)
      keeps_both partial looks clean =
          let mid : HasCleanDisk (file_state read) = omega (arith, looks.survives.clean, clean) in
          keeps_then (file_state first) (file_state read) (file_state last) (over_keeps (Ok audited) audit mid) (looks.keeps clean)

      -- what was looked at is what the connection saw
      found_in : (partial : Option ℕ) → Looks (tree_in read.schema name) shift_width read last (Ok partial) → HasCleanDisk (file_state last)
          → FindsPartial shift_width (rows_in (file_state first).now name) partial
      found_in partial looks clean =
          let mid : HasCleanDisk (file_state read) = omega (arith, looks.survives.clean, clean) in
          let at = early (Ok audited) audit mid in
          subst (λ (rows : List Row). FindsPartial shift_width rows partial)
          (committed_rows (file_state first) (file_state read) name (audit.reads.same mid at.opens.is_open) at.opens.clean) (looks.finds clean)

      is_sound : HasCleanDisk (file_state read) → IsSound given (file_state first).now audited
      is_sound mid = audit.passes mid (early (Ok audited) audit mid).opens.is_open

      audit_whole : (partial : Result (Option ℕ) Error) → Looks (tree_in read.schema name) shift_width read last partial
          → IsAuditOfFile given first last (told_of audited partial)
      audit_whole (Ok None) looks = record {
        passes = λ clean.
            let mid : HasCleanDisk (file_state read) = omega (arith, looks.survives.clean, clean) in
            let sound = is_sound mid in
            (sound, sound_stands given (file_state first).now audited sound (early (Ok audited) audit mid).in_order (λ _. found_in None looks clean));
        fails = λ clean. tt;
        honest = λ clean o stands plausible written. tt;
        keeps = keeps_both (Ok None) looks;
        survives = survives_both (Ok None) looks;
      }
      audit_whole (Ok (Some place)) looks = record {
        passes = λ clean. tt;
        fails = λ clean. by_column (partial_shift place) (lacks clean) refl;
        honest = λ clean o stands plausible written. (lacks clean).none o stands;
        keeps = keeps_both (Ok (Some place)) looks;
        survives = survives_both (Ok (Some place)) looks;
      }
        where
          lacks : HasCleanDisk (file_state last) → LacksColumn (partial_shift place) (file_state first).now
          lacks clean =
              let mid : HasCleanDisk (file_state read) = omega (arith, looks.survives.clean, clean) in
              let found = found_in (Some place) looks clean in
              record {
                at = found.0;
                told = ap partial_shift found.2;
                row = found.1;
                there = found.3;
                lacks = found.4;
                before = found.5;
                none = partial_stands (file_state first).now found.0 found.1
                    (shifts_there given (file_state first).now audited (is_sound mid) some) found.3 found.4;
              }
      audit_whole (Err e) looks = record {
        passes = λ clean. tt;
        fails = λ clean.
            let mid : HasCleanDisk (file_state read) = omega (arith, looks.survives.clean, clean) in
            let same = audit.reads.same mid (early (Ok audited) audit mid).opens.is_open in
            let failed = looks.fails clean in
            by_failure e (failed.0, failed.1, excused_earlier first read last same audit.survives failed.0 failed.2, failed.3) refl;
        honest = λ clean o stands plausible written. tt;
        keeps = keeps_both (Err e) looks;
        survives = survives_both (Err e) looks;
      }

    -- the audit of a file is that of its database, and of its shifts where it looked at them
    pub audit_of_file : (found told : Result Audited AuditFault) → IsAuditOf given (file_state first) (file_state read) found
        → LooksAtShifts read last found told
        → IsAuditOfFile given first last told
    audit_of_file found told audit (passed_over none same is) =
        subst (λ (end : Held (FileStore D g)). IsAuditOfFile given first end told) (sym same)
        (subst (IsAuditOfFile given first read) (sym is) (audit_alone found audit none))
    audit_of_file found told audit (looked audited partial is some looks told_is) =
        subst (IsAuditOfFile given first last) (sym told_is)
        (audit_whole audited (subst (IsAuditOf given (file_state first) (file_state read)) is audit) some partial looks)
