-- The format that is told, and what a fault says of the database.
use Rattle.std.proofs.Common.{◌≡◌, ◌≢◌, ◌≤◌, ℕ, zero, suc, false, true, Option, None, Some, Result, Ok, Err, IfOk, codes, nat_eq, inl, inr, refl, sym, ap, subst, arith}
use Rattle.std.specs.Option.{option_eq}
use Rattle.std.proofs.lemmas.Bool.{both_ways, le-leb, true_from_ne_false}
use Rattle.std.proofs.lemmas.Bool.Decides.{nat_tests}
use Rattle.std.proofs.lemmas.Result.{IfOk-weaker}
use Rattle.sqlite_trees.proofs.Doubt.{no_doubt}
use Rattle.sqlite.specs.Effect.{Database}
use Rattle.sqlite.specs.State.{HasCleanDisk, IsUnchanged, State, Survives}
use Rattle.sqlite.proofs.Callers.{unchanged_then}
use Rattle.sqlite_rules.specs.Lists.{Has as Member}
use Rattle.one_table.specs.ReadsOnly.{ReadsOnly}
use Rattle.office_rules.specs.Office.{Office, empty_office}
use Rattle.office_rules.proofs.OfficeLemmas.{empty_is_office}
use Rattle.book_tables.specs.format.Format.{HasFormat, IsFormatOf, TellsFormat}
use Rattle.book_tables.specs.format.Making.{IsSoundOfFormat}
use Rattle.book_tables.specs.Holds.{HasOfficeOf, IsKept, StandsFor, rows_in}
use Rattle.book_tables.specs.Kept.{about_kept, kept}
use Rattle.book_tables.specs.reading.Reading.{AreOfOffice, FailsToReadOf, HasTable, ReadsTable, TableHolds}
use Rattle.book_tables.specs.row.Rows.{Rows, about_rows, present_format}
use Rattle.book_tables.specs.writing.Edited.{no_rows}
use Rattle.book_tables.specs.declared.error.TableError.{TableError}
use Rattle.book_tables.specs.declared.error.TableError.TheVariants as table
use Rattle.book_tables.proofs.HoldsLemmas.{of_upto, one_format}
use Rattle.book_tables.proofs.WritingLemmas.EditLemmas.{no_members}
use Rattle.audit_rows.specs.AllRows.{HasTablesOf, IsReadAs}
use Rattle.audit_rows.specs.Breaks.{Breaks}
use Rattle.audit_rows.specs.Tables.{tables_of}
use Rattle.audit_rows.specs.Entries.{rows_of}
use Rattle.audit_rows.specs.Fails.{FailsToReadTables, HasNoFormat, IsKnown}
use Rattle.audit_rows.specs.declared.finding.AuditFault.{AuditFault}
use Rattle.audit_rows.specs.declared.finding.AuditFault.TheVariants.{Failed, Found, NoOffice}
use Rattle.audit_rows.specs.declared.finding.Finding.{Finding}
use Rattle.audit_rows.specs.declared.office_rows.OfficeRows.{OfficeRows}
use Rattle.audit_rows.proofs.PassedLemmas.{lists_after, reads_then}
use Rattle.audit.specs.Fails.{IsNoOffices, StopsBy, by_row, cause_of}
use Rattle.audit.specs.Shown.{IsToldAs, TellsOwn}

at_about : Member kept about_kept
at_about = inl refl

tells_has : (n : ℕ) (db : Database) → 1 ≤ n → TellsFormat n db → HasFormat db n
tells_has zero db some tells = absurd (omega (arith, some))
tells_has (suc n) db some tells = tells

-- tables that have a format tell it
pub has_tells : (n : ℕ) (db : Database) → HasFormat db n → TellsFormat n db
has_tells zero db has = tt
has_tells (suc n) db has = has

-- the row of a format is that of the format that is told
told_row : (n : ℕ) (db : Database) → 1 ≤ n → HasFormat db n → rows_in db (codes "about") ≡ about_rows n
told_row zero db some has = absurd (omega (arith, some))
told_row (suc n) db some has = has

-- what is known of a database without a format: it stands for no office
abbrev pub FormatLaw : Type 0
FormatLaw = (db : Database) (o : Office) → HasNoFormat db → StandsFor db o → ⊥

-- what is known of a finding implies something else
pub stops_more : (P Q : Finding → Database → Type 0) (old new : State) (e : AuditFault) → ((f : Finding) → P f old.now → Q f old.now) → StopsBy P old new e
    → StopsBy Q old new e
stops_more P Q old new (Found f) more why = (more f why.0, why.1)
stops_more P Q old new NoOffice more why = why
stops_more P Q old new (Failed e) more why = why

module _ (n : ℕ) (some : 1 ≤ n) (known : n ≤ present_format) where
  -- the table that tells the format is there
  pub about_there : (s : State) → IsSoundOfFormat n s → HasTable about_kept s
  about_there s has runs = of_upto (IsKept s.now.schema) n about_kept kept at_about (le-leb 1 n some) (has runs).1.tables

  -- it tells the format of the tables,
  pub told_so : (db : Database) (found : Option ℕ) → option_eq nat_eq found (Some n) ≡ true → IsFormatOf db found → HasFormat db n
  told_so db found same is = (is n (omega (arith, known))).0 (some_one found same)
    where
      some_one : (o : Option ℕ) → option_eq nat_eq o (Some n) ≡ true → o ≡ Some n
      some_one None h = absurd (let e = h in cc)
      some_one (Some m) h = (let e : m ≡ n = grind (arith, nat_tests) in ap Some e)

  -- or the tables tell no format that is theirs
  pub none_told : (db : Database) (found : Option ℕ) → option_eq nat_eq found (Some n) ≡ false → IsFormatOf db found → HasOfficeOf n db.schema → HasNoFormat db
  none_told db found other is has m known_m has_m tells =
      let here : HasFormat db n = tells_has n db some (subst (λ (k : ℕ). TellsFormat k db) (one_format db.schema m n known_m known has_m has) tells) in
      let same : nat_eq n n ≡ false = subst (λ (o : Option ℕ). option_eq nat_eq o (Some n) ≡ false) ((is n (omega (arith, known))).1 here) other in
      absurd (let e : n ≢ n = grind (arith, nat_tests) in e refl)

  -- where its rows are no office's, it tells none either
  none_held : (db : Database) → IsKept db.schema about_kept → HasOfficeOf n db.schema
      → ((rows : Rows) → TableHolds about_kept db rows → ¬ AreOfOffice rows) → HasNoFormat db
  none_held db is_kept has none m known_m has_m tells =
      let here = tells_has n db some (subst (λ (k : ℕ). TellsFormat k db) (one_format db.schema m n known_m known has_m has) tells) in
      none no_rows (is_kept, (n, told_row n db some here)) (empty_office, empty_is_office, no_members)

  -- or it is not read
  pub told_stops : FormatLaw → (Says : Finding → Database → Type 0) {T U : Type 0} {old new : State} (e : TableError) (fault : AuditFault) → fault ≡ cause_of e
      → ReadsTable {T = T} about_kept old new (Err e)
      → ReadsOnly {T = U} (IsSoundOfFormat n) IsUnchanged (StopsBy Says) old new (Err fault)
  told_stops law Says {old = old} {new = new} e fault is this = record {
    same = λ _ _. tt;
    kept = λ clean has. this.kept clean (about_there old has);
    mode = this.mode;
    faults = λ clean has. subst (StopsBy Says old new) (sym is) (as_told has e (this.faults clean (about_there old has)));
    survives = λ has. this.survives (about_there old has);
  }
    where
      as_told : IsSoundOfFormat n old → (e : TableError) → FailsToReadOf (TableHolds about_kept) old new e → StopsBy Says old new (cause_of e)
      as_told has (table.Database e) why = why
      as_told has table.RowOfNoOffice why =
          let was_open = why.1.0.was_open in
          let none = none_held old.now (about_there old has was_open) (has was_open).1 why.0 in
          ((none, λ o. law old.now o none), why.1)

-- ---- the rows, after the format

-- what is known of a row that is none of an office's, and of tables of no format
abbrev pub RowLaw : Type 0
RowLaw = (n : ℕ) (f : Finding) (db : Database) (o : Office) → Breaks (tables_of n) f db → StandsFor db o → ⊥

module _ (n : ℕ) (some : 1 ≤ n) (known : n ≤ present_format) (old mid new : State) (r : Result OfficeRows AuditFault)
    (first : ReadsOnly {T = Unit {0}} (IsSoundOfFormat n) IsUnchanged (StopsBy (λ _ _. ⊥)) old mid (Ok tt))
    (shut : mid.is_clean ≡ false → mid.is_open ≡ false) (then : ReadsOnly (IsKnown (HasTablesOf n)) IsUnchanged (FailsToReadTables (tables_of n)) mid new r)
    (tells : HasCleanDisk mid → IsSoundOfFormat n old → HasFormat old.now n) where
  there : IsSoundOfFormat n old → IsKnown (HasTablesOf n) mid
  there has runs =
      let same = first.same (no_doubt mid.is_clean (true_from_ne_false mid.is_clean (λ dirty. both_ways mid.is_open (shut dirty) runs))) has in
      subst (HasTablesOf n) (sym same.0.now_is) (has same.0.was_open).1

  own : HasCleanDisk mid → IsSoundOfFormat n old → TellsOwn n old.now
  own clean has = record { some = some; known = known; has = (has (first.same clean has).0.was_open).1; tells = tells clean has }

  as_read : RowLaw → FormatLaw → HasCleanDisk mid → IsSoundOfFormat n old → IsUnchanged old mid → Survives old mid (λ _. ⊥) → (e : AuditFault)
      → FailsToReadTables (tables_of n) mid new e → StopsBy IsNoOffices old new e
  as_read row none clean has same survives (Found f) why =
      let breaks = subst (Breaks (tables_of n) f) same.0.now_is why.0 in
      (by_row n (own clean has) breaks (λ o. row n f old.now o breaks), unchanged_then old mid new same why.1)
  as_read row none clean has same survives NoOffice why =
      let no_format = subst HasNoFormat same.0.now_is why.0 in
      ((no_format, λ o. none old.now o no_format), unchanged_then old mid new same why.1)
  as_read row none clean has same survives (Failed e) why = lists_after old mid new same survives e why

  -- why they are not read
  pub reads_told : RowLaw → FormatLaw → ReadsOnly (IsSoundOfFormat n) IsUnchanged (StopsBy IsNoOffices) old new r
  reads_told row none = reads_then first there r then (as_read row none)

  -- which they are
  pub told_read : (HasCleanDisk new → IsKnown (HasTablesOf n) mid → IfOk r (λ rows. IsReadAs n mid.now (rows_of rows))) → HasCleanDisk new
      → IsSoundOfFormat n old → IfOk r (IsToldAs n old.now)
  told_read given clean has =
      let early : HasCleanDisk mid = omega (arith, (then.survives (there has)).clean, clean) in
      IfOk-weaker r (λ rows. IsReadAs n mid.now (rows_of rows)) (IsToldAs n old.now) (λ rows read. record {
        own = own early has;
        read = subst (λ (db : Database). IsReadAs n db (rows_of rows)) (first.same early has).0.now_is read;
      }) (given clean (there has))
