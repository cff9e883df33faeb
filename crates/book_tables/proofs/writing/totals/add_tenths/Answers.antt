use Rattle.std.proofs.Common.{◌≡◌, ◌∷◌, [], length, subst, sym, true}
use Rattle.sqlite.specs.Held.{state}
use Rattle.sqlite.specs.Order.{Row as Values}
use Rattle.sqlite.specs.Values.{bound}
use Rattle.one_table.proofs.ChangeLemmas.{transaction_off, transaction_on}
use Rattle.one_table.specs.InTransaction.{BeginsWith, ShowsInside}
use Rattle.one_table.specs.Reading.{is_whole}
use Rattle.book_tables.specs.Kept.{month_tenths_kept}
use Rattle.book_tables.specs.declared.error.TableError.TheVariants.{RowOfNoOffice}
use Rattle.book_tables.specs.reading.Reading.{ShowsRecord}
use Rattle.book_tables.specs.row.Rows.{shown_number}
use Rattle.book_tables.specs.row.Values.{IsTotal}
use Rattle.book_tables.specs.declared.row.total_records.Tenths.{Tenths}
use Rattle.book_tables.specs.writing.Failing.{FailsToMerge}
use Rattle.book_tables.specs.writing.Telling.{ShowsSum}
use Rattle.book_tables.specs.writing.Writes.{AreCarriedOut, tenths_added_text}
use Rattle.book_tables.proofs.OfficeTableLemmas.{month_tenths_in}
use Rattle.book_tables.proofs.WritingLemmas.RefusalLemmas.{handed_on, merge_as, merge_off}
use Rattle.book_tables.proofs.WritingLemmas.TotallingLemmas.{adds_tenths, month_tenths, month_tenths_at, stands_for, total_fits, takes_tenths, sum_is_shown}
use Rattle.book_tables.proofs.WritingLemmas.TotalsTexts.{tenths_merging, tenths_added_means, tenths_added_whole}
use Rattle.book_tables.proofs.writing.totals.add_tenths.Goals as goal

pub returns-in_err-all-clause-merges : goal.returns-in_err-all-clause-merges
returns-in_err-all-clause-merges g c =
    let old = state g.S.Store c.args.tx.now.conn.now in
    let new = state g.S.Store c.merge.new.tx.conn.now in
    let e = c.in_err-all.field-0.0 in
    let failed = c.in_err-all.ensures in
    record {
      same_reference = failed.merged.same_reference;
      transaction = transaction_off e c.from_residual.result c.from_residual.ensures.1 failed.merged.transaction.kept
          failed.merged.transaction.survives;
      says = merge_off e c.from_residual.result c.from_residual.ensures.1
          (λ clean way has. merge_as _ old new (λ row says. (record { sum = says.0 }, says.1)) e (subst (λ (ps : Values). FailsToMerge (ShowsRecord {T = Tenths} (λ x. shown_number x.sum) (λ x. IsTotal x.sum)) (record { sql = tenths_added_text; params = ps }) old new e)
          c.tenths_values.ensures
          (failed.ends clean way (month_tenths old new) (month_tenths_at old new) tenths_merging (tenths_added_means (month_tenths old new).tree)
          (subst (λ ps. is_whole tenths_added_text (length ps) ≡ true) (sym c.tenths_values.ensures) tenths_added_whole)
          (λ runs. stands_for month_tenths_kept old.now.schema (month_tenths_in.there old.now.schema (has runs)))).1));
    }

pub returns-clause-merges : goal.returns-clause-merges
returns-clause-merges g c =
    let old = state g.S.Store c.args.tx.now.conn.now in
    let new = state g.S.Store c.merge.new.tx.conn.now in
    let done = c.in_ok-all.ensures in
    record {
      same_reference = done.merged.same_reference;
      transaction = transaction_on done.merged.transaction;
      says = record {
        made = λ clean way has.
            adds_tenths old new c.args.meter.now c.args.month c.args.tenths has c.in_ok-all.all (bound c.tenths_values.result) c.tenths_values.ensures
            (done.touched clean way (month_tenths old new) (month_tenths_at old new) tenths_merging
            (tenths_added_means (month_tenths old new).tree) (λ runs. stands_for month_tenths_kept old.now.schema
            (month_tenths_in.there old.now.schema (has runs))))
            (λ takes. let it = done.merged.says clean way (month_tenths old new) (month_tenths_at old new) tenths_merging
            (tenths_added_means (month_tenths old new).tree) takes in it);
        ends = λ clean way has. (
          subst (λ (ps : Values). AreCarriedOut (record { sql = tenths_added_text; params = ps } ∷ []) old new) c.tenths_values.ensures
              (done.ends clean way (month_tenths old new) (month_tenths_at old new) tenths_merging (tenths_added_means (month_tenths old new).tree)
              (subst (λ ps. is_whole tenths_added_text (length ps) ≡ true) (sym c.tenths_values.ensures) tenths_added_whole)
              (λ runs. stands_for month_tenths_kept old.now.schema (month_tenths_in.there old.now.schema (has runs)))).0,
          tt,
        );
        told = λ clean way has.
            subst (λ (ps : Values). ShowsInside (BeginsWith (ShowsSum c.in_ok-all.all.sum)) tenths_added_text ps old new) c.tenths_values.ensures
            (done.told clean (month_tenths old new) (month_tenths_at old new) tenths_merging (tenths_added_means (month_tenths old new).tree)
            (λ runs. stands_for month_tenths_kept old.now.schema (month_tenths_in.there old.now.schema (has runs))));
      };
    }

pub returns-in_err-all-clause-no_false_row : goal.returns-in_err-all-clause-no_false_row
returns-in_err-all-clause-no_false_row g c clean way format rows held known told_so =
    let old = state g.S.Store c.args.tx.now.conn.now in
    let new = state g.S.Store c.merge.new.tx.conn.now in
    let e = c.in_err-all.field-0.0 in
    let low = total_fits _ known.2 in
    sum_is_shown old new c.args.meter.now c.args.month c.args.tenths (bound c.tenths_values.result) c.tenths_values.ensures format rows
    held known.0 known.1 low known.2
    (c.in_err-all.ensures.false_row clean way (month_tenths old new) (month_tenths_at old new) tenths_merging
    (tenths_added_means (month_tenths old new).tree) (subst (λ ps. is_whole tenths_added_text (length ps) ≡ true)
    (sym c.tenths_values.ensures) tenths_added_whole)
    (takes_tenths old new c.args.meter.now c.args.month c.args.tenths (bound c.tenths_values.result) c.tenths_values.ensures format rows
    held known.0 known.1 low) (handed_on e RowOfNoOffice c.from_residual.result c.from_residual.ensures.1 told_so))
