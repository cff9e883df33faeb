use Rattle.std.proofs.Common.{◌≡◌, ◌≢◌, ℕ, List, ◌∷◌, [], IsTrue, ◌∙◌, arith, length, refl, subst, sym, true, Err}
use Rattle.sqlite.specs.Held.{state}
use Rattle.sqlite.specs.Order.{Row as Values}
use Rattle.sqlite.specs.Values.{bound}
use Rattle.one_table.proofs.ChangeLemmas.{transaction_off, transaction_on}
use Rattle.one_table.specs.InTransaction.{BeginsWith, ShowsInside}
use Rattle.one_table.specs.Reading.{is_whole}
use Rattle.one_table.specs.declared.read_fault.ReadFault.TheVariants.{Row}
use Rattle.book_tables.specs.Kept.{last_ids_kept}
use Rattle.book_tables.specs.declared.error.TableError.TheVariants.{RowOfNoOffice}
use Rattle.book_tables.specs.reading.Reading.{ShowsRecord}
use Rattle.book_tables.specs.row.Rows.{shown_number}
use Rattle.book_tables.specs.row.Values.{IsTid}
use Rattle.book_tables.specs.declared.row.total_records.Tid.{Tid}
use Rattle.book_tables.specs.writing.Failing.{FailsToMerge, FailsToTell}
use Rattle.book_tables.specs.writing.Telling.{ShowsTid}
use Rattle.book_tables.specs.writing.Writes.{AreCarriedOut, last_id_set_text}
use Rattle.book_tables.proofs.OfficeTableLemmas.{last_ids_in}
use Rattle.book_tables.proofs.RowLemmas.RecordLemmas.{one_number}
use Rattle.book_tables.proofs.WritingLemmas.RefusalLemmas.{begins_as, handed_on, means_merging, merge_as, merge_off, shows_as}
use Rattle.book_tables.proofs.WritingLemmas.TotallingLemmas.{sets_last_id, last_ids, last_ids_at, stands_for, takes_last_id, tid_is_shown, tid_shown}
use Rattle.book_tables.proofs.WritingLemmas.TotalsTexts.{last_id_merging, last_id_set_means, last_id_set_whole}
use Rattle.book_tables.proofs.writing.totals.set_last_id.Goals as goal

pub returns-in_err-last-clause-merges : goal.returns-in_err-last-clause-merges
returns-in_err-last-clause-merges g c =
    let old = state g.S.Store c.args.tx.now.conn.now in
    let new = state g.S.Store c.merge.new.tx.conn.now in
    let e = c.in_err-last.field-0.0 in
    let failed = c.in_err-last.ensures in
    record {
      same_reference = failed.merged.same_reference;
      transaction = transaction_off e c.from_residual.result c.from_residual.ensures.1 failed.merged.transaction.kept
          failed.merged.transaction.survives;
      says = merge_off e c.from_residual.result c.from_residual.ensures.1
          (λ clean way has. merge_as _ old new (λ row says. (record { number = c.args.tid }, says.1)) e
          (subst (λ (ps : Values). FailsToMerge (ShowsRecord {T = Tid} (λ x. shown_number x.number) (λ x. IsTid x.number)) (record { sql = last_id_set_text; params = ps }) old new e) c.last_id_values.ensures
          (failed.ends clean way (last_ids old new) (last_ids_at old new) last_id_merging (last_id_set_means (last_ids old new).tree)
          (subst (λ ps. is_whole last_id_set_text (length ps) ≡ true) (sym c.last_id_values.ensures) last_id_set_whole)
          (λ runs. stands_for last_ids_kept old.now.schema (last_ids_in.there old.now.schema (has runs)))).1));
    }

pub returns-clause-merges : goal.returns-clause-merges
returns-clause-merges g c =
    let old = state g.S.Store c.args.tx.now.conn.now in
    let new = state g.S.Store c.merge.new.tx.conn.now in
    let done = c.in_ok-last.ensures in
    record {
      same_reference = done.merged.same_reference;
      transaction = transaction_on done.merged.transaction;
      says = record {
        made = λ clean way has.
            sets_last_id old new c.args.meter.now c.args.base c.args.tid has (bound c.last_id_values.result) c.last_id_values.ensures
            (done.touched clean way (last_ids old new) (last_ids_at old new) last_id_merging (last_id_set_means (last_ids old new).tree)
            (λ runs. stands_for last_ids_kept old.now.schema (last_ids_in.there old.now.schema (has runs))))
            (λ takes. let it = done.merged.says clean way (last_ids old new) (last_ids_at old new) last_id_merging
            (last_id_set_means (last_ids old new).tree) takes in (it.0, it.2));
        ends = λ clean way has. (
          subst (λ (ps : Values). AreCarriedOut (record { sql = last_id_set_text; params = ps } ∷ []) old new) c.last_id_values.ensures
              (done.ends clean way (last_ids old new) (last_ids_at old new) last_id_merging (last_id_set_means (last_ids old new).tree)
              (subst (λ ps. is_whole last_id_set_text (length ps) ≡ true) (sym c.last_id_values.ensures) last_id_set_whole)
              (λ runs. stands_for last_ids_kept old.now.schema (last_ids_in.there old.now.schema (has runs)))).0,
          tt,
        );
        told = λ clean way has.
            let same : c.in_ok-last.last.number ≡ c.args.tid = omega (arith, c.if-last-tid.false) in
            subst (λ (ps : Values). ShowsInside (BeginsWith (ShowsTid c.args.tid)) last_id_set_text ps old new) c.last_id_values.ensures
            (shows_as (begins_as (λ row is. subst (λ n. ShowsTid n row) same is))
            (done.told clean (last_ids old new) (last_ids_at old new) last_id_merging (last_id_set_means (last_ids old new).tree)
            (λ runs. stands_for last_ids_kept old.now.schema (last_ids_in.there old.now.schema (has runs)))));
      };
    }

pub returns-in_err-last-clause-no_false_row : goal.returns-in_err-last-clause-no_false_row
returns-in_err-last-clause-no_false_row g c clean way format rows held known told_so =
    let old = state g.S.Store c.args.tx.now.conn.now in
    let new = state g.S.Store c.merge.new.tx.conn.now in
    let e = c.in_err-last.field-0.0 in
    tid_is_shown old new c.args.meter.now c.args.base c.args.tid (bound c.last_id_values.result) c.last_id_values.ensures format rows held
    known.1.0 known.1.1 known.0
    (c.in_err-last.ensures.false_row clean way (last_ids old new) (last_ids_at old new) last_id_merging
    (last_id_set_means (last_ids old new).tree) (subst (λ ps. is_whole last_id_set_text (length ps) ≡ true)
    (sym c.last_id_values.ensures) last_id_set_whole)
    (takes_last_id old new c.args.meter.now c.args.base c.args.tid (bound c.last_id_values.result) c.last_id_values.ensures format rows
    held known.1.0 known.1.1) (handed_on e RowOfNoOffice c.from_residual.result c.from_residual.ensures.1 told_so))

-- rows that begin with an identifier begin with no other
another : (n tid : ℕ) → n ≢ tid → (rows : List Values) → BeginsWith (ShowsTid n) rows → ¬ BeginsWith (λ row. (x : Unit {0}) × ShowsTid tid row) rows
another n tid other [] begins also = begins
another n tid other (row ∷ more) begins also = other (one_number n tid (begins.0 ∙ sym also.1.0))

pub returns-then-last-tid-clause-merges : goal.returns-then-last-tid-clause-merges
returns-then-last-tid-clause-merges g c =
    let old = state g.S.Store c.args.tx.now.conn.now in
    let new = state g.S.Store c.merge.new.tx.conn.now in
    let done = c.in_ok-last.ensures in
    record {
      same_reference = done.merged.same_reference;
      transaction = transaction_off RowOfNoOffice (Err RowOfNoOffice) refl done.merged.transaction.kept done.merged.transaction.survives;
      says = record {
        made = λ clean way has. tt;
        told = λ clean way has. tt;
        ends = λ clean way has.
            let stands = λ (runs : IsTrue old.is_open). stands_for last_ids_kept old.now.schema (last_ids_in.there old.now.schema (has runs)) in (
              tt,
              subst (λ (ps : Values). FailsToTell (λ row. (x : Unit {0}) × ShowsTid c.args.tid row) (record { sql = last_id_set_text; params = ps }) old new Row)
                  c.last_id_values.ensures (record {
                    table = last_ids old new;
                    merging = last_id_merging;
                    at = last_ids_at old new;
                    means = λ runs. means_merging last_id_set_text old.now.schema (last_ids old new) (last_ids_at old new) last_id_merging
                        (last_id_set_means (last_ids old new).tree) (stands runs);
                    fails = (
                      done.touched clean way (last_ids old new) (last_ids_at old new) last_id_merging (last_id_set_means (last_ids old new).tree) stands,
                      shows_as (another c.in_ok-last.last.number c.args.tid (λ same. omega (arith, c.if-last-tid.true, same)))
                          (done.told clean (last_ids old new) (last_ids_at old new) last_id_merging (last_id_set_means (last_ids old new).tree) stands),
                    );
                  }),
            );
      };
    }

-- it is what comes back
pub returns-then-last-tid-clause-no_false_row : goal.returns-then-last-tid-clause-no_false_row
returns-then-last-tid-clause-no_false_row g c clean way format rows held known told_so =
    let old = state g.S.Store c.args.tx.now.conn.now in
    let new = state g.S.Store c.merge.new.tx.conn.now in
    let meter = c.args.meter.now in
    let values = bound c.last_id_values.result in
    let it = c.in_ok-last.ensures.merged.says clean way (last_ids old new) (last_ids_at old new) last_id_merging (last_id_set_means (last_ids old new).tree)
    (takes_last_id old new meter c.args.base c.args.tid values c.last_id_values.ensures format rows held known.1.0 known.1.1) in
    let same : c.in_ok-last.last.number ≡ c.args.tid =
    one_number c.in_ok-last.last.number c.args.tid (it.1.0
    ∙ tid_shown old new meter c.args.base c.args.tid values c.last_id_values.ensures format rows held known.1.0 known.1.1 it.0 it.2) in
    omega (arith, c.if-last-tid.true, same)
