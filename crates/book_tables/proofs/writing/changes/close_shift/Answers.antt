use Rattle.std.specs.Prelude.{codes}
use Rattle.std.proofs.Common.{refl, subst}
use Rattle.sqlite.specs.Held.{state}
use Rattle.sqlite.specs.Order.{Row as Values}
use Rattle.one_table.proofs.ChangeLemmas.{on_ok}
use Rattle.one_table.specs.Standing.{place_in, tree_in}
use Rattle.book_tables.specs.Tables.{shifts_table}
use Rattle.book_tables.specs.writing.Failing.{Ends, FailsToStore}
use Rattle.book_tables.specs.writing.Writes.{shift_closed_text}
use Rattle.book_tables.proofs.OfficeTableLemmas.{shifts_in}
use Rattle.book_tables.proofs.WritingLemmas.WriteLemmas.{closes_shift}
use Rattle.book_tables.proofs.WritingLemmas.WriteTexts.{shift_closed_means, shift_closed_query, shift_closed_whole}
use Rattle.book_tables.proofs.writing.changes.close_shift.Goals as goal

pub returns : goal.returns
returns g c =
    let s = c.args.tx.now.conn.now.schema in
    let tree = tree_in s (codes "shifts") in
    record {
      writes = record {
        same_reference = c.set.ensures.changed.same_reference;
        transaction = c.set.ensures.changed.transaction;
        says = record {
          made = λ clean has.
              on_ok c.set.result (closes_shift (state g.S.Store c.args.tx.now.conn.now) (state g.S.Store c.set.new.tx.conn.now) has
              c.args.number c.args.moment _ (rw (c.whole.ensures, c.seconds.ensures) refl))
              (c.set.ensures.changed.says clean (shifts_table tree) (place_in s (codes "shifts")) (shift_closed_query tree)
              (shift_closed_means tree) (λ runs. let there = shifts_in.there s (has runs) in (there.0.has, there.1)));
          ends = λ clean has.
              subst (λ (ps : Values). Ends FailsToStore (record { sql = shift_closed_text; params = ps })
              (state g.S.Store c.args.tx.now.conn.now) (state g.S.Store c.set.new.tx.conn.now) c.set.result) (rw (c.whole.ensures, c.seconds.ensures) refl)
              (c.set.ensures.ends clean (shifts_table tree) (place_in s (codes "shifts")) (shift_closed_query tree) (shift_closed_means tree)
              shift_closed_whole (λ runs. (shifts_in.there s (has runs)).0.has));
        };
      };
    }
