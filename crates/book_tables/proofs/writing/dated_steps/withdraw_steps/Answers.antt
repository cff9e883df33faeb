use Rattle.std.proofs.Common.{subst}
use Rattle.std.specs.Prelude.{codes}
use Rattle.sqlite.specs.Held.{state}
use Rattle.sqlite.specs.Order.{Row as Values}
use Rattle.one_table.proofs.ChangeLemmas.{on_ok}
use Rattle.one_table.specs.Deleting.{removal_query}
use Rattle.one_table.specs.Standing.{place_in, tree_in}
use Rattle.book_tables.specs.Tables.{dated_steps_table}
use Rattle.book_tables.specs.writing.Failing.{Ends, FailsToStore}
use Rattle.book_tables.specs.writing.Writes.{steps_withdrawn_text}
use Rattle.book_tables.proofs.OfficeTableLemmas.{dated_steps_in}
use Rattle.book_tables.proofs.ReadingLemmas.DatedTexts.{is_from_day, steps_withdrawn_means, steps_withdrawn_whole}
use Rattle.book_tables.proofs.WritingLemmas.WithdrawLemmas.{withdraws_steps}
use Rattle.book_tables.proofs.writing.dated_steps.withdraw_steps.Goals as goal

pub returns : goal.returns
returns g c =
    let s = c.args.tx.now.conn.now.schema in
    let tree = tree_in s (codes "dated_steps") in
    record {
      writes = record {
        same_reference = c.remove.ensures.changed.same_reference;
        transaction = c.remove.ensures.changed.transaction;
        says = record {
          made = λ clean has.
              on_ok c.remove.result (withdraws_steps c.args.name.now c.args.day (state g.S.Store c.args.tx.now.conn.now)
              (state g.S.Store c.remove.new.tx.conn.now) has _ c.dated_values.ensures)
              (c.remove.ensures.changed.says clean (dated_steps_table tree) (place_in s (codes "dated_steps")) (removal_query tree is_from_day)
              (steps_withdrawn_means tree) (λ runs. let there = dated_steps_in.there s (has runs) in (there.0.has, there.1)));
          ends = λ clean has.
              subst (λ (ps : Values). Ends FailsToStore (record { sql = steps_withdrawn_text; params = ps })
              (state g.S.Store c.args.tx.now.conn.now) (state g.S.Store c.remove.new.tx.conn.now) c.remove.result) c.dated_values.ensures
              (c.remove.ensures.ends clean (dated_steps_table tree) (place_in s (codes "dated_steps")) (removal_query tree is_from_day)
              (steps_withdrawn_means tree) (rw c.dated_values.ensures steps_withdrawn_whole)
              (λ runs. (dated_steps_in.there s (has runs)).0.has));
        };
      };
    }
