use Rattle.std.proofs.Common.{◌≡◌, length, subst, sym, true}
use Rattle.std.specs.Prelude.{codes}
use Rattle.sqlite.specs.Held.{state}
use Rattle.sqlite.specs.Order.{Row as Values}
use Rattle.one_table.proofs.ChangeLemmas.{on_ok}
use Rattle.one_table.specs.Reading.{is_whole}
use Rattle.one_table.specs.Standing.{place_in, tree_in}
use Rattle.book_tables.specs.Tables.{meters_table}
use Rattle.book_tables.specs.writing.Writes.{base_set_text}
use Rattle.book_tables.specs.writing.Failing.{Ends, FailsToStore}
use Rattle.book_tables.proofs.WritingLemmas.BaseLemmas.{sets_base}
use Rattle.book_tables.proofs.WritingLemmas.BaseTexts.{base_set_means, base_set_query, base_set_whole}
use Rattle.book_tables.proofs.OfficeTableLemmas.{meters_in}
use Rattle.book_tables.proofs.writing.bases.set_base.Goals as goal

pub returns : goal.returns
returns g c =
    let s = c.args.tx.now.conn.now.schema in
    let tree = tree_in s (codes "meters") in
    record {
      writes = record {
        same_reference = c.set.ensures.changed.same_reference;
        transaction = c.set.ensures.changed.transaction;
        says = record {
          made = λ clean has.
              on_ok c.set.result (sets_base (state g.S.Store c.args.tx.now.conn.now) (state g.S.Store c.set.new.tx.conn.now) has
              c.args.number.now c.args.base _ c.base_values.ensures)
              (c.set.ensures.changed.says clean (meters_table tree) (place_in s (codes "meters")) (base_set_query tree) (base_set_means tree)
              (λ runs. let there = meters_in.there s (has runs) in (there.0.has, there.1)));
          ends = λ clean has.
              subst (λ (ps : Values). Ends FailsToStore (record { sql = base_set_text; params = ps }) (state g.S.Store c.args.tx.now.conn.now)
              (state g.S.Store c.set.new.tx.conn.now) c.set.result) c.base_values.ensures
              (c.set.ensures.ends clean (meters_table tree) (place_in s (codes "meters")) (base_set_query tree) (base_set_means tree)
              (subst (λ ps. is_whole base_set_text (length ps) ≡ true) (sym c.base_values.ensures) base_set_whole)
              (λ runs. (meters_in.there s (has runs)).0.has));
        };
      };
    }
