use Rattle.std.proofs.Common.{◌≡◌, length, subst, sym, true}
use Rattle.std.specs.Prelude.{codes}
use Rattle.sqlite.specs.Held.{state}
use Rattle.sqlite.specs.Order.{Row as Values}
use Rattle.one_table.proofs.ChangeLemmas.{on_ok}
use Rattle.one_table.specs.Reading.{is_whole}
use Rattle.one_table.specs.Standing.{place_in, tree_in}
use Rattle.book_tables.specs.Tables.{shifts_table}
use Rattle.book_tables.specs.writing.Writes.{new_shift_text}
use Rattle.book_tables.specs.writing.Failing.{Ends, FailsToStore}
use Rattle.book_tables.proofs.OfficeTableLemmas.{shifts_in}
use Rattle.book_tables.proofs.WritingLemmas.WriteLemmas.{adds_shift}
use Rattle.book_tables.proofs.WritingLemmas.WriteTexts.{new_shift_means, new_shift_terms, new_shift_whole}
use Rattle.book_tables.proofs.writing.additions.add_shift.Goals as goal

pub returns : goal.returns
returns g c =
    let s = c.args.tx.now.conn.now.schema in
    let tree = tree_in s (codes "shifts") in
    record {
      writes = record {
        same_reference = c.put.ensures.added.same_reference;
        transaction = c.put.ensures.added.transaction;
        says = record {
          made = λ clean has.
              on_ok c.put.result (adds_shift (state g.S.Store c.args.tx.now.conn.now) (state g.S.Store c.put.new.tx.conn.now) has
              c.args.shift.now _ c.shift_values.ensures)
              (c.put.ensures.added.says clean (shifts_table tree) (place_in s (codes "shifts")) new_shift_terms (new_shift_means tree)
              (λ runs. (shifts_in.there s (has runs)).0.has));
          ends = λ clean has.
              subst (λ (ps : Values). Ends FailsToStore (record { sql = new_shift_text; params = ps }) (state g.S.Store c.args.tx.now.conn.now)
              (state g.S.Store c.put.new.tx.conn.now) c.put.result) c.shift_values.ensures
              (c.put.ensures.ends clean (shifts_table tree) (place_in s (codes "shifts")) new_shift_terms (new_shift_means tree)
              (subst (λ ps. is_whole new_shift_text (length ps) ≡ true) (sym c.shift_values.ensures) new_shift_whole)
              (λ runs. (shifts_in.there s (has runs)).0.has));
        };
      };
    }
