use Rattle.std.proofs.Common.{◌≡◌, length, subst, sym, true}
use Rattle.std.specs.Prelude.{codes}
use Rattle.sqlite.specs.Held.{state}
use Rattle.sqlite.specs.Order.{Row as Values}
use Rattle.one_table.proofs.ChangeLemmas.{on_ok}
use Rattle.one_table.specs.Reading.{is_whole}
use Rattle.one_table.specs.Standing.{place_in, tree_in}
use Rattle.book_tables.specs.row.Rows.{dated_columns}
use Rattle.book_tables.specs.Tables.{dated_steps_table}
use Rattle.book_tables.specs.writing.Writes.{new_dated_text}
use Rattle.book_tables.specs.writing.Failing.{Ends, FailsToStore}
use Rattle.book_tables.proofs.ReadingLemmas.DatedLemmas.{dated_at}
use Rattle.book_tables.proofs.ReadingLemmas.DatedTexts.{five_terms, new_dated_means, new_dated_whole}
use Rattle.book_tables.proofs.WritingLemmas.DatedWriteLemmas.{adds_dated_step}
use Rattle.book_tables.proofs.OfficeTableLemmas.{dated_steps_in}
use Rattle.book_tables.proofs.writing.dated_steps.add_dated_step.Goals as goal

pub returns : goal.returns
returns g c =
    let s = c.args.tx.now.conn.now.schema in
    let tree = tree_in s (codes "dated_steps") in
    let row = dated_at c.args.name.now c.args.day c.args.place c.args.step in
    record {
      writes = record {
        same_reference = c.put.ensures.added.same_reference;
        transaction = c.put.ensures.added.transaction;
        says = record {
          made = λ clean has.
              on_ok c.put.result (adds_dated_step (state g.S.Store c.args.tx.now.conn.now) (state g.S.Store c.put.new.tx.conn.now) has row _
              c.dated_step_values.ensures)
              (c.put.ensures.added.says clean (dated_steps_table tree) (place_in s (codes "dated_steps")) five_terms (new_dated_means tree)
              (λ runs. (dated_steps_in.there s (has runs)).0.has));
          ends = λ clean has.
              subst (λ (ps : Values). Ends FailsToStore (record { sql = new_dated_text; params = ps }) (state g.S.Store c.args.tx.now.conn.now)
              (state g.S.Store c.put.new.tx.conn.now) c.put.result) c.dated_step_values.ensures
              (c.put.ensures.ends clean (dated_steps_table tree) (place_in s (codes "dated_steps")) five_terms (new_dated_means tree)
              (subst (λ ps. is_whole new_dated_text (length ps) ≡ true) (sym {b = dated_columns row} c.dated_step_values.ensures)
              new_dated_whole) (λ runs. (dated_steps_in.there s (has runs)).0.has));
        };
      };
    }
