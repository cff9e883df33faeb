use Rattle.std.proofs.Common.{◌≡◌, length, subst, sym, true}
use Rattle.std.specs.Prelude.{codes}
use Rattle.sqlite.specs.Held.{state}
use Rattle.sqlite.specs.Order.{Row as Values}
use Rattle.one_table.proofs.ChangeLemmas.{on_ok}
use Rattle.one_table.specs.Reading.{is_whole}
use Rattle.one_table.specs.Standing.{place_in, tree_in}
use Rattle.book_tables.specs.Tables.{tariff_steps_table}
use Rattle.book_tables.specs.writing.Writes.{new_step_text}
use Rattle.book_tables.specs.writing.Failing.{Ends, FailsToStore}
use Rattle.book_tables.proofs.OfficeTableLemmas.{steps_in}
use Rattle.book_tables.proofs.WritingLemmas.HiddenWriteLemmas.{adds_step}
use Rattle.book_tables.proofs.WritingLemmas.WriteTexts.{new_step_means, four_terms, new_step_whole}
use Rattle.book_tables.proofs.writing.additions.add_step.Goals as goal

pub returns : goal.returns
returns g c =
    let s = c.args.tx.now.conn.now.schema in
    let tree = tree_in s (codes "tariff_steps") in
    record {
      writes = record {
        same_reference = c.put.ensures.added.same_reference;
        transaction = c.put.ensures.added.transaction;
        says = record {
          made = λ clean has.
              on_ok c.put.result (adds_step (state g.S.Store c.args.tx.now.conn.now) (state g.S.Store c.put.new.tx.conn.now) has
              (record { tariff = c.args.name.now; place = c.args.place; step = c.args.step }) _ c.step_values.ensures)
              (c.put.ensures.added.says clean (tariff_steps_table tree) (place_in s (codes "tariff_steps")) four_terms (new_step_means tree)
              (λ runs. (steps_in.there s (has runs)).0.has));
          ends = λ clean has.
              subst (λ (ps : Values). Ends FailsToStore (record { sql = new_step_text; params = ps }) (state g.S.Store c.args.tx.now.conn.now)
              (state g.S.Store c.put.new.tx.conn.now) c.put.result) c.step_values.ensures
              (c.put.ensures.ends clean (tariff_steps_table tree) (place_in s (codes "tariff_steps")) four_terms (new_step_means tree)
              (subst (λ ps. is_whole new_step_text (length ps) ≡ true) (sym c.step_values.ensures) new_step_whole)
              (λ runs. (steps_in.there s (has runs)).0.has));
        };
      };
    }
