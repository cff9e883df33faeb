use Rattle.std.proofs.Common.{◌≡◌, length, subst, sym, true}
use Rattle.std.specs.Prelude.{codes}
use Rattle.sqlite.specs.Held.{state}
use Rattle.sqlite.specs.Order.{Row as Values}
use Rattle.one_table.proofs.ChangeLemmas.{on_ok}
use Rattle.one_table.specs.Reading.{is_whole}
use Rattle.one_table.specs.Standing.{place_in, tree_in}
use Rattle.book_tables.specs.Tables.{meters_table}
use Rattle.book_tables.specs.writing.Writes.{new_meter_text}
use Rattle.book_tables.specs.writing.Failing.{Ends, FailsToStore}
use Rattle.book_tables.proofs.OfficeTableLemmas.{meters_in}
use Rattle.book_tables.proofs.WritingLemmas.HiddenWriteLemmas.{adds_meter}
use Rattle.book_tables.proofs.WritingLemmas.WriteTexts.{new_meter_means, four_terms, new_meter_whole}
use Rattle.book_tables.proofs.writing.additions.add_meter_row.Goals as goal

pub returns : goal.returns
returns g c =
    let s = c.args.tx.now.conn.now.schema in
    let tree = tree_in s (codes "meters") in
    record {
      writes = record {
        same_reference = c.put.ensures.added.same_reference;
        transaction = c.put.ensures.added.transaction;
        says = record {
          made = λ clean has.
              on_ok c.put.result (adds_meter (state g.S.Store c.args.tx.now.conn.now) (state g.S.Store c.put.new.tx.conn.now) has
              c.args.number.now c.args.meter.now _ c.meter_values.ensures)
              (c.put.ensures.added.says clean (meters_table tree) (place_in s (codes "meters")) four_terms (new_meter_means tree)
              (λ runs. (meters_in.there s (has runs)).0.has));
          ends = λ clean has.
              subst (λ (ps : Values). Ends FailsToStore (record { sql = new_meter_text; params = ps }) (state g.S.Store c.args.tx.now.conn.now)
              (state g.S.Store c.put.new.tx.conn.now) c.put.result) c.meter_values.ensures
              (c.put.ensures.ends clean (meters_table tree) (place_in s (codes "meters")) four_terms (new_meter_means tree)
              (subst (λ ps. is_whole new_meter_text (length ps) ≡ true) (sym c.meter_values.ensures) new_meter_whole)
              (λ runs. (meters_in.there s (has runs)).0.has));
        };
      };
    }
