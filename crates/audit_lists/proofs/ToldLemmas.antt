-- The rules of a format's tables, from those between rows and those of the totals.
use Rattle.std.proofs.Common.{◌≡◌, ◌≤◌, ℕ, zero, suc, refl, arith}
use Rattle.sqlite.specs.Effect.{Database}
use Rattle.book_tables.specs.Stands.{AreTotalsOf}
use Rattle.book_tables.specs.row.Rows.{Rows}
use Rattle.audit_rows.specs.AllRows.{IsReadAs, KeepRules}
use Rattle.audit_rows.specs.Entries.{rows_of}
use Rattle.audit_rows.specs.declared.office_rows.OfficeRows.{OfficeRows}
use Rattle.audit_lists.specs.Rules.{tie_rules}
use Rattle.audit_lists.specs.Ties.{AreKept, FindsFirst, Says}
use Rattle.audit_lists.specs.Told.{ShowOffice, rules_of}
use Rattle.audit_lists.specs.declared.fault.OfficeFault.{OfficeFault}
use Rattle.audit_lists.specs.totals.Rules.{total_rules}
use Rattle.audit_lists.proofs.MadeLemmas.{totals_made}
use Rattle.audit_lists.proofs.OfficeLemmas.{shown}
use Rattle.audit_lists.proofs.TieLemmas.{kept_both, kept_parts, says_left, says_right}
use Rattle.audit_lists.proofs.TotalLemmas.{totals_are}

-- what is told of the rules between rows, and of those of the totals where the first are kept
pub told_ties : (n : ℕ) (r : OfficeRows) (f : OfficeFault) → Says (FindsFirst (tie_rules r)) f → Says (FindsFirst (rules_of n r)) f
told_ties zero r f said = said
told_ties (suc zero) r f said = said
told_ties (suc (suc n)) r f said = says_left (tie_rules r) (total_rules r) f said

-- what is found of the totals is found by all rules, where those between rows are kept
pub told_totals : (n : ℕ) (r : OfficeRows) (f : OfficeFault) → 2 ≤ n → AreKept (tie_rules r) → Says (FindsFirst (total_rules r)) f
    → Says (FindsFirst (rules_of n r)) f
told_totals zero r f two kept said = absurd (omega (arith, two))
told_totals (suc zero) r f two kept said = absurd (omega (arith, two))
told_totals (suc (suc n)) r f two kept said = says_right (tie_rules r) (total_rules r) f kept said

-- all are kept
pub all_kept : (n : ℕ) (r : OfficeRows) → AreKept (tie_rules r) → (2 ≤ n → AreKept (total_rules r)) → AreKept (rules_of n r)
all_kept zero r kept more = kept
all_kept (suc zero) r kept more = kept
all_kept (suc (suc n)) r kept more = kept_both (tie_rules r) (total_rules r) kept (more (omega arith))

-- the rows are an office's, with totals of its sales
pub shows : (n : ℕ) (r : OfficeRows) (totals : Rows) → (2 ≤ n → totals ≡ rows_of r) → AreKept (tie_rules r) → KeepRules (rows_of r)
    → AreTotalsOf r.sales.items totals → ShowOffice n (rows_of r)
shows n r totals own kept keep are =
    let all = shown r kept keep totals (record {
      last_ids = are.last_ids;
      month_tenths = are.month_tenths;
      shift_totals = are.shift_totals;
      by_shift = are.by_shift;
    }) in
    record { totals = totals; own = own; office = all.0; is = all.1; members = all.2 }

-- they are so where all rules are kept: the first format has no tables of totals
pub shows_kept : (n : ℕ) (db : Database) (r : OfficeRows) → IsReadAs n db (rows_of r) → AreKept (rules_of n r) → ShowOffice n (rows_of r)
shows_kept zero db r read kept =
    let made = totals_made r.sales.items in shows zero r made.0 (λ two. absurd (omega (arith, two))) kept read.keep made.1
shows_kept (suc zero) db r read kept =
    let made = totals_made r.sales.items in shows (suc zero) r made.0 (λ two. absurd (omega (arith, two))) kept read.keep made.1
shows_kept (suc (suc n)) db r read kept =
    let two : 2 ≤ suc (suc n) = omega arith in
    let parts = kept_parts (tie_rules r) (total_rules r) kept in
    shows (suc (suc n)) r (rows_of r) (λ _. refl) parts.0 read.keep (totals_are r parts.1 ((read.has.shift_totals two).rises refl))
