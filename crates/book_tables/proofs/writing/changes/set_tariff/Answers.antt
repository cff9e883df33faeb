use Rattle.std.specs.Prelude.{codes}
use Rattle.std.proofs.Common.{refl, subst}
use Rattle.sqlite.specs.Held.{state}
use Rattle.sqlite.specs.Order.{Row as Values}
use Rattle.one_table.proofs.ChangeLemmas.{on_ok}
use Rattle.one_table.specs.Standing.{place_in, tree_in}
use Rattle.book_tables.specs.Tables.{meters_table}
use Rattle.book_tables.specs.writing.Failing.{Ends, FailsToStore}
use Rattle.book_tables.specs.writing.Writes.{tariff_set_text}
use Rattle.book_tables.proofs.OfficeTableLemmas.{meters_in}
use Rattle.book_tables.proofs.WritingLemmas.HiddenWriteLemmas.{sets_tariff}
use Rattle.book_tables.proofs.WritingLemmas.WriteTexts.{tariff_set_means, tariff_set_query, tariff_set_whole}
use Rattle.book_tables.proofs.writing.changes.set_tariff.Goals as goal

pub returns : goal.returns
returns g c =
    let s = c.args.tx.now.conn.now.schema in
    let tree = tree_in s (codes "meters") in
    record {
      writes = record {
        same_reference = c.set.ensures.changed.same_reference;
        transaction = c.set.ensures.changed.transaction;
        says = record {
          made = λ clean has.
              on_ok c.set.result (sets_tariff (state g.S.Store c.args.tx.now.conn.now) (state g.S.Store c.set.new.tx.conn.now) has
              c.args.number.now c.args.name.now _ (rw (c.as_bytes.ensures.view, c.as_bytes-2.ensures.view) refl))
              (c.set.ensures.changed.says clean (meters_table tree) (place_in s (codes "meters")) (tariff_set_query tree) (tariff_set_means tree)
              (λ runs. let there = meters_in.there s (has runs) in (there.0.has, there.1)));
          ends = λ clean has.
              subst (λ (ps : Values). Ends FailsToStore (record { sql = tariff_set_text; params = ps })
              (state g.S.Store c.args.tx.now.conn.now) (state g.S.Store c.set.new.tx.conn.now) c.set.result)
              (rw (c.as_bytes.ensures.view, c.as_bytes-2.ensures.view) refl)
              (c.set.ensures.ends clean (meters_table tree) (place_in s (codes "meters")) (tariff_set_query tree) (tariff_set_means tree)
              tariff_set_whole (λ runs. (meters_in.there s (has runs)).0.has));
        };
      };
    }
