use Rattle.std.proofs.Common.{◌≡◌, ◌∷◌, [], length, subst, sym, true}
use Rattle.sqlite.specs.Held.{state}
use Rattle.sqlite.specs.Order.{Row as Values}
use Rattle.sqlite.specs.Values.{bound}
use Rattle.one_table.proofs.ChangeLemmas.{transaction_off, transaction_on}
use Rattle.one_table.specs.InTransaction.{BeginsWith, ShowsInside}
use Rattle.one_table.specs.Reading.{is_whole}
use Rattle.book_tables.specs.Kept.{shift_totals_kept}
use Rattle.book_tables.specs.declared.error.TableError.TheVariants.{RowOfNoOffice}
use Rattle.book_tables.specs.reading.Reading.{ShowsRecord}
use Rattle.book_tables.specs.row.Rows.{shown_totals}
use Rattle.book_tables.specs.row.Values.{AreTotalsValues}
use Rattle.book_tables.specs.declared.row.totals.Totals.{Totals}
use Rattle.book_tables.specs.writing.Failing.{FailsToMerge}
use Rattle.book_tables.specs.writing.Telling.{ShowsTotals}
use Rattle.book_tables.specs.writing.Writes.{AreCarriedOut, sale_counted_text}
use Rattle.book_tables.proofs.OfficeTableLemmas.{shift_totals_in}
use Rattle.book_tables.proofs.WritingLemmas.RefusalLemmas.{handed_on, merge_as, merge_off}
use Rattle.book_tables.proofs.WritingLemmas.TotallingLemmas.{adds_to_shift, shift_totals, shift_totals_at, stands_for, totals_fit, takes_totals, totals_are_shown}
use Rattle.book_tables.proofs.WritingLemmas.TotalsTexts.{totals_merging, sale_counted_means, sale_counted_whole}
use Rattle.book_tables.proofs.writing.totals.add_to_shift.Goals as goal

pub returns-in_err-all-clause-merges : goal.returns-in_err-all-clause-merges
returns-in_err-all-clause-merges g c =
    let old = state g.S.Store c.args.tx.now.conn.now in
    let new = state g.S.Store c.merge.new.tx.conn.now in
    let e = c.in_err-all.field-0.0 in
    let failed = c.in_err-all.ensures in
    record {
      same_reference = failed.merged.same_reference;
      transaction = transaction_off e c.from_residual.result c.from_residual.ensures.1 failed.merged.transaction.kept
          failed.merged.transaction.survives;
      says = merge_off e c.from_residual.result c.from_residual.ensures.1
          (λ clean way has. merge_as _ old new (λ row says. says) e (subst (λ (ps : Values). FailsToMerge (ShowsRecord {T = Totals} shown_totals AreTotalsValues) (record { sql = sale_counted_text; params = ps }) old new e)
          c.sale_total_values.ensures
          (failed.ends clean way (shift_totals old new) (shift_totals_at old new) totals_merging (sale_counted_means (shift_totals old new).tree)
          (subst (λ ps. is_whole sale_counted_text (length ps) ≡ true) (sym c.sale_total_values.ensures) sale_counted_whole)
          (λ runs. stands_for shift_totals_kept old.now.schema (shift_totals_in.there old.now.schema (has runs)))).1));
    }

pub returns-clause-merges : goal.returns-clause-merges
returns-clause-merges g c =
    let old = state g.S.Store c.args.tx.now.conn.now in
    let new = state g.S.Store c.merge.new.tx.conn.now in
    let done = c.in_ok-all.ensures in
    record {
      same_reference = done.merged.same_reference;
      transaction = transaction_on done.merged.transaction;
      says = record {
        made = λ clean way has.
            adds_to_shift old new c.args.shift c.args.tenths c.args.price has c.in_ok-all.all (bound c.sale_total_values.result) c.sale_total_values.ensures
            (done.touched clean way (shift_totals old new) (shift_totals_at old new) totals_merging
            (sale_counted_means (shift_totals old new).tree) (λ runs. stands_for shift_totals_kept old.now.schema
            (shift_totals_in.there old.now.schema (has runs))))
            (λ takes. let it = done.merged.says clean way (shift_totals old new) (shift_totals_at old new) totals_merging
            (sale_counted_means (shift_totals old new).tree) takes in it);
        ends = λ clean way has. (
          subst (λ (ps : Values). AreCarriedOut (record { sql = sale_counted_text; params = ps } ∷ []) old new) c.sale_total_values.ensures
              (done.ends clean way (shift_totals old new) (shift_totals_at old new) totals_merging (sale_counted_means (shift_totals old new).tree)
              (subst (λ ps. is_whole sale_counted_text (length ps) ≡ true) (sym c.sale_total_values.ensures) sale_counted_whole)
              (λ runs. stands_for shift_totals_kept old.now.schema (shift_totals_in.there old.now.schema (has runs)))).0,
          tt,
        );
        told = λ clean way has.
            subst (λ (ps : Values). ShowsInside (BeginsWith (ShowsTotals c.in_ok-all.all)) sale_counted_text ps old new) c.sale_total_values.ensures
            (done.told clean (shift_totals old new) (shift_totals_at old new) totals_merging (sale_counted_means (shift_totals old new).tree)
            (λ runs. stands_for shift_totals_kept old.now.schema (shift_totals_in.there old.now.schema (has runs))));
      };
    }

pub returns-in_err-all-clause-no_false_row : goal.returns-in_err-all-clause-no_false_row
returns-in_err-all-clause-no_false_row g c clean way format rows held known told_so =
    let old = state g.S.Store c.args.tx.now.conn.now in
    let new = state g.S.Store c.merge.new.tx.conn.now in
    let e = c.in_err-all.field-0.0 in
    let room = totals_fit _ known.3 in
    totals_are_shown old new c.args.shift c.args.tenths c.args.price (bound c.sale_total_values.result) c.sale_total_values.ensures format
    rows held known.0 known.1 known.2 room known.3
    (c.in_err-all.ensures.false_row clean way (shift_totals old new) (shift_totals_at old new) totals_merging
    (sale_counted_means (shift_totals old new).tree) (subst (λ ps. is_whole sale_counted_text (length ps) ≡ true)
    (sym c.sale_total_values.ensures) sale_counted_whole)
    (takes_totals old new c.args.shift c.args.tenths c.args.price (bound c.sale_total_values.result) c.sale_total_values.ensures format
    rows held known.0 known.1 known.2 room) (handed_on e RowOfNoOffice c.from_residual.result c.from_residual.ensures.1 told_so))
