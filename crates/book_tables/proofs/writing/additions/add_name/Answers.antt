use Rattle.std.proofs.Common.{◌≡◌, length, subst, sym, true}
use Rattle.std.specs.Prelude.{codes}
use Rattle.sqlite.specs.Held.{state}
use Rattle.sqlite.specs.Order.{Row as Values}
use Rattle.one_table.proofs.ChangeLemmas.{on_ok}
use Rattle.one_table.specs.Reading.{is_whole}
use Rattle.one_table.specs.Standing.{place_in, tree_in}
use Rattle.book_tables.specs.Tables.{tariffs_table}
use Rattle.book_tables.specs.writing.Writes.{new_tariff_text}
use Rattle.book_tables.specs.writing.Failing.{Ends, FailsToStore}
use Rattle.book_tables.proofs.OfficeTableLemmas.{tariffs_in}
use Rattle.book_tables.proofs.WritingLemmas.HiddenWriteLemmas.{adds_name}
use Rattle.book_tables.proofs.WritingLemmas.WriteTexts.{new_tariff_means, one_term, new_tariff_whole}
use Rattle.book_tables.proofs.writing.additions.add_name.Goals as goal

pub returns : goal.returns
returns g c =
    let s = c.args.tx.now.conn.now.schema in
    let tree = tree_in s (codes "tariffs") in
    record {
      writes = record {
        same_reference = c.put.ensures.added.same_reference;
        transaction = c.put.ensures.added.transaction;
        says = record {
          made = λ clean has.
              on_ok c.put.result (adds_name (state g.S.Store c.args.tx.now.conn.now) (state g.S.Store c.put.new.tx.conn.now) has
              c.args.name.now _ c.tariff_values.ensures)
              (c.put.ensures.added.says clean (tariffs_table tree) (place_in s (codes "tariffs")) one_term (new_tariff_means tree)
              (λ runs. (tariffs_in.there s (has runs)).0.has));
          ends = λ clean has.
              subst (λ (ps : Values). Ends FailsToStore (record { sql = new_tariff_text; params = ps })
              (state g.S.Store c.args.tx.now.conn.now) (state g.S.Store c.put.new.tx.conn.now) c.put.result) c.tariff_values.ensures
              (c.put.ensures.ends clean (tariffs_table tree) (place_in s (codes "tariffs")) one_term (new_tariff_means tree)
              (subst (λ ps. is_whole new_tariff_text (length ps) ≡ true) (sym c.tariff_values.ensures) new_tariff_whole)
              (λ runs. (tariffs_in.there s (has runs)).0.has));
        };
      };
    }
