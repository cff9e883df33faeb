-- The office whose rows were read and tested.
use Rattle.std.proofs.Common.{◌≡◌, ◌≤◌, ℕ, inl, inr, refl, arith}
use Rattle.std.proofs.lemmas.Bool.{le-leb}
use Rattle.sqlite.specs.Effect.{Database, IsDatabase}
use Rattle.sqlite.specs.State.{IsUnchanged, State}
use Rattle.kept_order.specs.InOrder.{HasTablesInOrder}
use Rattle.office_rules.specs.Office.{IsOffice, Office, empty_office}
use Rattle.book_tables.specs.Holds.{HasOfficeOf, IsKept, StandsFor}
use Rattle.book_tables.specs.Kept.{kept, shifts_kept}
use Rattle.book_tables.specs.Stands.{AreMembersOf}
use Rattle.book_tables.specs.format.Format.{TellsFormat}
use Rattle.book_tables.specs.row.Rows.{Rows, present_format}
use Rattle.book_tables.proofs.HoldsLemmas.{of_upto}
use Rattle.audit_rows.specs.AllRows.{HasAllRows, IsReadAs, KeepRules, with_totals}
use Rattle.audit_rows.specs.Entries.{rows_of}
use Rattle.audit_rows.specs.Order.{AreKeptInOrder, HaveAllColumns}
use Rattle.audit_rows.specs.declared.office_rows.OfficeRows.{OfficeRows}
use Rattle.audit_lists.specs.Told.{BreaksOffice, ShowOffice}
use Rattle.audit_lists.specs.Ties.{Says}
use Rattle.audit_lists.specs.declared.fault.OfficeFault.{OfficeFault}
use Rattle.audit_lists.specs.declared.fault.OfficeFault.TheVariants as office
use Rattle.audit_rows.specs.declared.finding.Finding.{Finding}
use Rattle.audit.specs.Fails.{IsNoOffices, StopsBy, by_lists, fault_of}
use Rattle.audit.specs.Shown.{AreOfficeRows, IsToldAs, TellsOwn}
use Rattle.audit.proofs.ToldLemmas.{has_tells}

-- the rows of all tables, with totals that are their own where the format has tables of them
pub own_totals : (n : ℕ) (db : Database) (rows totals : Rows) → HasAllRows n db rows → (2 ≤ n → totals ≡ rows) → HasAllRows n db (with_totals rows totals)
own_totals n db rows totals has own = record {
  tariffs = has.tariffs;
  steps = has.steps;
  meters = has.meters;
  shifts = has.shifts;
  sales = has.sales;
  last_ids = λ come. rw (own come) (has.last_ids come);
  month_tenths = λ come. rw (own come) (has.month_tenths come);
  shift_totals = λ come. rw (own come) (has.shift_totals come);
  bases = has.bases;
  dated_steps = has.dated_steps;
  of_format = record { bases = has.of_format.bases; dated_steps = has.of_format.dated_steps };
}

-- what is known of each office
abbrev StoredLaw : Type 0
StoredLaw = (n : ℕ) (db : Database) (rows : Rows) (o : Office) → n ≤ present_format → IsDatabase db → HasOfficeOf n db.schema → TellsFormat n db
    → AreKeptInOrder db → (1 ≤ n → HaveAllColumns db) → HasAllRows n db rows → IsOffice o → AreMembersOf rows o → (n ≡ 0 → o ≡ empty_office) → StandsFor db o

abbrev OnlyLaw : Type 0
OnlyLaw = (n : ℕ) (db : Database) (rows : Rows) (o : Office) → 1 ≤ n → n ≤ present_format → HasOfficeOf n db.schema → HasAllRows n db rows → KeepRules rows
    → StandsFor db o
    → ((totals : Rows) × AreMembersOf (with_totals rows totals) o) × (2 ≤ n → AreMembersOf rows o)

-- rows that were read and passed are those of an office
pub office_rows_of : (n : ℕ) (db : Database) (rows : OfficeRows) → IsDatabase db → IsToldAs n db rows → ShowOffice n (rows_of rows)
    → (HasTablesInOrder db → AreKeptInOrder db) → StoredLaw → OnlyLaw → AreOfficeRows n db rows
office_rows_of n db rows sound told shows order stored only = record {
  told = told;
  shows = shows;
  stands = λ in_order whole. stored n db (with_totals (rows_of rows) shows.totals) shows.office own.known sound own.has (has_tells n db own.tells)
      (order in_order)
      (λ _. whole (of_upto (IsKept db.schema) n shifts_kept kept (inr (inr (inr (inr (inl refl))))) (le-leb 1 n own.some) own.has.tables))
      (own_totals n db (rows_of rows) shows.totals told.read.has shows.own) shows.is shows.members (λ none. absurd (omega (arith, none, own.some)));
  only = λ o stands.
      let members = (only n db (rows_of rows) o own.some own.known own.has told.read.has told.read.keep stands).0 in
      record { is = stands.office; totals = members.0; members = members.1 };
}
  where
    own : TellsOwn n db
    own = told.own

-- what is known of rows of which one is no office's
abbrev OfficeLaw : Type 0
OfficeLaw = (n : ℕ) (db : Database) (rows : OfficeRows) (f : Finding) (o : Office) → 1 ≤ n → n ≤ present_format → HasOfficeOf n db.schema
    → IsReadAs n db (rows_of rows) → BreaksOffice n rows f → StandsFor db o → ⊥

-- rows that were read, and did not pass
pub office_stops : (n : ℕ) (rows : OfficeRows) {old new : State} (fault : OfficeFault) → Says (BreaksOffice n rows) fault → IsToldAs n old.now rows → OfficeLaw
    → IsUnchanged old new → StopsBy IsNoOffices old new (fault_of fault)
office_stops n rows {old} (office.Found f) broken told law same =
    (by_lists n rows told broken (λ o. law n old.now rows f o told.own.some told.own.known told.own.has told.read broken), same)
office_stops n rows office.Memory broken told law same = inr (refl, same)
