-- What an audit says that passes, or that finds a row which no requests lead to.
use Rattle.std.proofs.Common.{◌≡◌, ◌≤◌, ◌∙◌, ℕ, zero, suc, List, length, map, Option, None, Some, Result, Ok, Err, IfErr, IfOk, OnOk, IsTrue, false, inl, inr, refl, sym, ap, subst, arith}
use Rattle.std.specs.Borrow.{Bor}
use Rattle.std.proofs.lemmas.List.{length-map}
use Rattle.std.proofs.lemmas.List.Elements.{All-nil}
use Rattle.std.proofs.lemmas.List.Sorted.{length_permutation}
use Rattle.sqlite.specs.Effect.{Database}
use Rattle.sqlite.specs.Order.{Row}
use Rattle.sqlite.specs.State.{HasCleanDisk, IsUnchanged, State, Survives}
use Rattle.sqlite_schema.specs.declared.schema.Schema.{Schema}
use Rattle.one_table.specs.ReadsOnly.{ReadsOnly}
use Rattle.one_table.proofs.ReadsOnlyLemmas.{read_where}
use Rattle.kept_order.specs.InOrder.{HasTablesInOrder}
use Rattle.sts_token.specs.Token.{BlockFunction}
use Rattle.vend_core.specs.Law.Reached.{HasTokensOf, IsPlausible, IsWrittenBy}
use Rattle.office_rules.specs.Office.{Office, empty_office}
use Rattle.book_tables.specs.Holds.{HasOfficeOf, HoldsMembersOf, StandsFor, rows_in}
use Rattle.book_tables.specs.Kept.{Kept, meters_kept, tariffs_kept}
use Rattle.book_tables.specs.format.Making.{IsSoundOfFormat}
use Rattle.book_tables.specs.row.Rows.{meter_columns, present_format, tariff_columns}
use Rattle.book_tables.proofs.HoldsLemmas.{held_as, one_format, untaken_stands}
use Rattle.audit_rows.specs.AllRows.{HasAllRows, HasRowsOf, with_totals}
use Rattle.audit_rows.specs.Entries.{meter_entry, rows_of}
use Rattle.audit_rows.specs.Whole.{all_columns, columns_of}
use Rattle.audit_rows.specs.declared.finding.AuditFault.{AuditFault}
use Rattle.audit_rows.specs.declared.finding.AuditFault.TheVariants.{Failed, Found, NoOffice}
use Rattle.audit_rows.specs.declared.finding.Finding.{Finding}
use Rattle.audit_rows.specs.declared.office_rows.OfficeRows.{OfficeRows}
use Rattle.audit_lists.specs.Ties.{IsFirst, Says}
use Rattle.audit_lists.specs.Tokens.{TellsUnwritten, written_tie}
use Rattle.audit_lists.specs.reached.Finds.{AreRowsOfOffice, FindsByRequests}
use Rattle.audit_lists.specs.declared.fault.OfficeFault.{OfficeFault}
use Rattle.audit_lists.specs.declared.fault.OfficeFault.TheVariants as office
use Rattle.audit.specs.Audited.{IsAuditOf, IsSound, count_in, counted, no_tables}
use Rattle.audit.specs.Fails.{AreWritten, Denies, FailsToKnow, IsFailure, StopsBy, TellsForged, by_lists, by_requests, by_row, by_rows, by_transform, fault_of, given_by}
use Rattle.audit.specs.Shown.{AreOfficeRows, TellsOwn}
use Rattle.audit.specs.declared.audited.Audited.{Audited}
use Rattle.audit.proofs.ShownLemmas.{own_totals}
use Rattle.audit.proofs.ToldLemmas.{has_tells}

-- so many rows are there as were read
rows_counted : {X : Type 0} (columns : X → Row) (k : Kept) (db : Database) (n : ℕ) → 1 ≤ n → (xs : List X) → HasRowsOf columns k db xs
    → count_in n k db ≡ length xs
rows_counted columns k db zero some xs has = absurd (omega (arith, some))
rows_counted columns k db (suc n) some xs has =
    sym (length-map (rows_in db k.table.name) (columns_of k)) ∙ length_permutation (map columns xs) (all_columns k db) has.same ∙ length-map xs columns

-- the rows are those of an office that requests may lead to, whose tokens are written
pub sound_rows : (given : Option BlockFunction) (n : ℕ) (db : Database) (rows : OfficeRows) (a : Audited) → AreOfficeRows n db rows
    → ((o : Office) → AreRowsOfOffice rows o → IsPlausible o × AreWritten given o) → a ≡ counted n rows → IsSound given db a
sound_rows given n db rows a are passed is = subst (IsSound given db) (sym is) (record {
  known = own.known;
  has = own.has;
  tells = has_tells n db own.tells;
  rows = with_totals (rows_of rows) are.shows.totals;
  read = λ _. own_totals n db (rows_of rows) are.shows.totals read are.shows.own;
  office = are.shows.office;
  is = are.shows.is;
  members = are.shows.members;
  plausible = own_office.0;
  written = own_office.1;
  stands = are.stands;
  only = λ o stands. passed o (are.only o stands);
  tariffs = rows_counted tariff_columns tariffs_kept db n own.some rows.tariffs.items (read.tariffs own.some);
  meters = rows_counted meter_columns meters_kept db n own.some (map meter_entry rows.meters.items) (read.meters own.some)
      ∙ length-map rows.meters.items meter_entry;
  shifts = ap length (sym are.shows.members.shifts);
  sales = ap length (sym are.shows.members.sales);
})
  where
    own : TellsOwn n db
    own = are.told.own

    read : HasAllRows n db (rows_of rows)
    read = are.told.read.has

    own_office : IsPlausible are.shows.office × AreWritten given are.shows.office
    own_office = passed are.shows.office (record { is = are.shows.is; totals = are.shows.totals; members = are.shows.members })

-- an office without sales has no token
none_written : (given : Option BlockFunction) → AreWritten given empty_office
none_written None = tt
none_written (Some forward) = All-nil (IsWrittenBy forward empty_office)

-- there is nothing yet
pub sound_none : (given : Option BlockFunction) (db : Database) (a : Audited) → HasOfficeOf 0 db.schema → IsPlausible empty_office → a ≡ no_tables
    → IsSound given db a
sound_none given db a has plausible is = subst (IsSound given db) (sym is) (record {
  known = omega arith;
  has = has;
  tells = tt;
  rows = held.0;
  read = λ some. absurd (omega (arith, some));
  office = empty_office;
  is = stands.office;
  members = held.2;
  plausible = plausible;
  written = none_written given;
  stands = λ _ _. stands;
  only = λ o other.
      subst (λ (e : Office). IsPlausible e × AreWritten given e)
      (sym (other.empty (one_format db.schema other.format 0 other.known (omega arith) other.held.1.has has)))
      (plausible, none_written given);
  tariffs = refl;
  meters = refl;
  shifts = refl;
  sales = refl;
})
  where
    stands : StandsFor db empty_office
    stands = untaken_stands db has

    held : HoldsMembersOf 0 db empty_office
    held = (held_as db empty_office 0 stands (omega arith) has).0

-- ---- the rows of an office that requests may lead to

module _ {T : Type 0} (forwards : T → BlockFunction) (transform : Option (Bor T)) (rows : OfficeRows)
    (reached : (o : Office) → AreRowsOfOffice rows o → IsPlausible o) where
  -- no transform is given
  pub passed_without : transform ≡ None → (o : Office) → AreRowsOfOffice rows o → IsPlausible o × AreWritten (given_by forwards transform) o
  passed_without is o are = (reached o are, subst (λ (x : Option (Bor T)). AreWritten (given_by forwards x) o) (sym is) tt)

  -- one is, and the tokens were tested by it
  module _ (t : Bor T) (is : transform ≡ Some t) where
    -- if it wrote the tokens, an office of these rows is plausible, its tokens written by it
    pub passed_by : {U : Type 0} (answer : Result U OfficeFault) → OnOk answer ((o : Office) → AreRowsOfOffice rows o → HasTokensOf (forwards t.now) o)
        → OnOk answer ((o : Office) → AreRowsOfOffice rows o → IsPlausible o × AreWritten (given_by forwards transform) o)
    passed_by (Ok x) has = λ o are. (reached o are, subst (λ (x : Option (Bor T)). AreWritten (given_by forwards x) o) (sym is) (has o are))
    passed_by (Err e) has = tt

    -- if it did not write one, what is told of that sale is told of rows that requests lead to
    pub told_by : {U : Type 0} (answer : Result U OfficeFault) → IfErr answer (Says (TellsUnwritten (forwards t.now) rows))
        → IfErr answer (TellsForged (given_by forwards transform) rows)
    told_by (Ok x) told = tt
    told_by (Err e) told = inr (forwards t.now, ap (given_by forwards) is, reached, told)

-- a row is found that no requests lead to, or a sale whose token the transform did not write
pub forged_stops : (given : Option BlockFunction) (n : ℕ) (rows : OfficeRows) {old new : State} (fault : OfficeFault) → TellsForged given rows fault
    → AreOfficeRows n old.now rows → ((o : Office) (f : Finding) → IsPlausible o → FindsByRequests o f → ⊥)
    → ((forward : BlockFunction) (o : Office) (f : Finding) → HasTokensOf forward o → IsFirst (written_tie forward o) f → ⊥) → IsUnchanged old new
    → StopsBy (Denies given) old new (fault_of fault)
forged_stops given n rows (office.Found f) (inl finds) are honest tokens same =
    (by_requests n rows are finds (λ o stands plausible. honest o f plausible (finds o (are.only o stands))), same)
forged_stops given n rows (office.Found f) (inr (forward, is, reached, finds)) are honest tokens same = (
  by_transform forward is n rows are (λ o of_rows. (reached o of_rows, finds o of_rows))
      (λ o stands has. tokens forward o f has (finds o (are.only o stands))),
  same,
)
forged_stops given n rows office.Memory told are honest tokens same = inr (refl, same)

-- ---- an office that requests lead to, whose tokens are written

module _ (given : Option BlockFunction) (o : Office) (plausible : IsPlausible o) (has : AreWritten given o) where
  denied : (f : Finding) (db : Database) → StandsFor db o → Denies given f db → ⊥
  denied f db stands (by_rows (by_row n own breaks none)) = none o stands
  denied f db stands (by_rows (by_lists n rows told broken none)) = none o stands
  denied f db stands (by_requests n rows are finds none) = none o stands plausible
  denied f db stands (by_transform forward is n rows are finds none) = none o stands (subst (λ (g : Option BlockFunction). AreWritten g o) is has)

  -- nothing is found of it
  fails_only : (old new : State) → StandsFor old.now o → (e : AuditFault) → StopsBy (Denies given) old new e → IsFailure e
  fails_only old new stands (Found f) why = denied f old.now stands why.0
  fails_only old new stands NoOffice why = why.0.1 o stands
  fails_only old new stands (Failed e) why = tt

  answers_only : (old new : State) (answer : Result Audited AuditFault) → StandsFor old.now o → IfErr answer (StopsBy (Denies given) old new)
      → IfErr answer IsFailure
  answers_only old new (Ok a) stands why = tt
  answers_only old new (Err e) stands why = fails_only old new stands e why

-- ---- the audit

-- of a database whose format is known
module _ (given : Option BlockFunction) (n : ℕ) (old new : State) (answer : Result Audited AuditFault) (known : IsSoundOfFormat n old)
    (passed : HasCleanDisk new → IsSoundOfFormat n old → IfOk answer (IsSound given old.now))
    (this : ReadsOnly (IsSoundOfFormat n) IsUnchanged (StopsBy (Denies given)) old new answer) where
  -- a read of the tables that is sound where it passes is an audit, whatever it answers
  pub audit_of_tables : (IsTrue old.is_open → old.in_transaction ≡ false → HasTablesInOrder old.now) → IsAuditOf given old new answer
  audit_of_tables ordered = record {
    passes = λ clean _. passed clean known;
    reads = read_where answer (λ _. known) this (λ clean _. this.faults clean known);
    honest = λ clean _ o stands plausible has. answers_only given o plausible has old new answer stands (this.faults clean known);
    ordered = ordered;
    survives = this.survives known;
  }

module _ (given : Option BlockFunction) (s : State) where
  unchanged : IsTrue s.is_open → IsUnchanged s s
  unchanged runs = search

  survives_none : Survives s s (λ _. ⊥)
  survives_none = record { clean = omega arith; shield = λ k. k; counts = omega arith; limit = refl; closes = λ _ k. inl k; crash = λ _ db k. inl k }

  -- there is nothing yet
  pub audit_none : (a : Audited) → IsSound given s.now a → (IsTrue s.is_open → s.in_transaction ≡ false → HasTablesInOrder s.now) → IsAuditOf given s s (Ok a)
  audit_none a sound ordered = record {
    passes = λ _ _. sound;
    reads = record { same = λ _ runs. unchanged runs; kept = λ _ _. tt; mode = λ rests. rests; faults = λ _ _. tt; survives = λ _. survives_none };
    honest = λ _ _ o stands plausible has. tt;
    ordered = ordered;
    survives = survives_none;
  }

  unknown_stops : (schema : Schema) → schema ≡ s.now.schema → IsTrue s.is_open → (fault : AuditFault) → FailsToKnow schema fault
      → StopsBy (Denies given) s s fault
  unknown_stops schema is runs (Found f) why = absurd why
  unknown_stops schema is runs NoOffice why =
      let none : (n : ℕ) → n ≤ present_format → ¬ HasOfficeOf n s.now.schema = λ n known has. why n known (subst (HasOfficeOf n) (sym is) has) in
      ((λ n known has _. none n known has, λ o stands. none stands.format stands.known stands.held.1.has), unchanged runs)
  unknown_stops schema is runs (Failed e) why = inr (why, unchanged runs)

  -- its format is not known
  pub audit_unknown : (schema : Schema) → schema ≡ s.now.schema → (fault : AuditFault) → FailsToKnow schema fault
      → (IsTrue s.is_open → s.in_transaction ≡ false → HasTablesInOrder s.now) → IsAuditOf given s s (Err fault)
  audit_unknown schema is fault why ordered = record {
    passes = λ _ _. tt;
    reads = record {
      same = λ _ _. tt;
      kept = λ _ runs. inl (unchanged runs);
      mode = λ rests. rests;
      faults = λ _ runs. stops runs;
      survives = λ _. survives_none;
    };
    honest = λ _ runs o stands plausible has. fails_only given o plausible has s s stands fault (stops runs);
    ordered = ordered;
    survives = survives_none;
  }
    where
      stops : IsTrue s.is_open → StopsBy (Denies given) s s fault
      stops runs = unknown_stops schema is runs fault why
