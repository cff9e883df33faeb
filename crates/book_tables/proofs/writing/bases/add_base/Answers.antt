use Rattle.std.proofs.Common.{◌≡◌, length, subst, sym, true}
use Rattle.std.specs.Prelude.{codes}
use Rattle.sqlite.specs.Held.{state}
use Rattle.sqlite.specs.Order.{Row as Values}
use Rattle.one_table.proofs.ChangeLemmas.{on_ok}
use Rattle.one_table.specs.Reading.{is_whole}
use Rattle.one_table.specs.Standing.{place_in, tree_in}
use Rattle.book_tables.specs.Tables.{meter_bases_table}
use Rattle.book_tables.specs.writing.Writes.{new_base_text}
use Rattle.book_tables.specs.writing.Failing.{Ends, FailsToStore}
use Rattle.book_tables.proofs.WritingLemmas.BaseLemmas.{adds_base}
use Rattle.book_tables.proofs.WritingLemmas.BaseTexts.{new_base_means, new_base_whole, two_terms}
use Rattle.book_tables.proofs.OfficeTableLemmas.{bases_in}
use Rattle.book_tables.proofs.writing.bases.add_base.Goals as goal

pub returns : goal.returns
returns g c =
    let s = c.args.tx.now.conn.now.schema in
    let tree = tree_in s (codes "meter_bases") in
    record {
      writes = record {
        same_reference = c.put.ensures.added.same_reference;
        transaction = c.put.ensures.added.transaction;
        says = record {
          made = λ clean has.
              on_ok c.put.result (adds_base (state g.S.Store c.args.tx.now.conn.now) (state g.S.Store c.put.new.tx.conn.now) has
              c.args.number.now c.args.base _ c.base_values.ensures)
              (c.put.ensures.added.says clean (meter_bases_table tree) (place_in s (codes "meter_bases")) two_terms (new_base_means tree)
              (λ runs. (bases_in.there s (has runs)).0.has));
          ends = λ clean has.
              subst (λ (ps : Values). Ends FailsToStore (record { sql = new_base_text; params = ps }) (state g.S.Store c.args.tx.now.conn.now)
              (state g.S.Store c.put.new.tx.conn.now) c.put.result) c.base_values.ensures
              (c.put.ensures.ends clean (meter_bases_table tree) (place_in s (codes "meter_bases")) two_terms (new_base_means tree)
              (subst (λ ps. is_whole new_base_text (length ps) ≡ true) (sym c.base_values.ensures) new_base_whole)
              (λ runs. (bases_in.there s (has runs)).0.has));
        };
      };
    }
