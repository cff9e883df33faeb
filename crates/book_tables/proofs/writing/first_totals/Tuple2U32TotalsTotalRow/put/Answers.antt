use Rattle.std.proofs.Common.{◌≡◌, ap, subst, sym, true}
use Rattle.std.specs.Prelude.{codes}
use Rattle.sqlite.specs.Held.{state}
use Rattle.sqlite.specs.Order.{Row}
use Rattle.one_table.proofs.ChangeLemmas.{on_ok}
use Rattle.one_table.specs.Reading.{is_whole}
use Rattle.one_table.specs.Standing.{place_in, tree_in}
use Rattle.book_tables.specs.Tables.{shift_totals_table}
use Rattle.book_tables.specs.writing.Writes.{Write, new_totals_text}
use Rattle.book_tables.proofs.OfficeTableLemmas.{shift_totals_in}
use Rattle.book_tables.proofs.WritingLemmas.PuttingLemmas.{new_totals_means, new_totals_whole, puts_shift_totals, totals_terms}
use Rattle.book_tables.proofs.writing.first_totals.Tuple2U32TotalsTotalRow.put.Goals as goal

pub returns : goal.returns
returns g c =
    let s = c.args.tx.now.conn.now.schema in
    let tree = tree_in s (codes "shift_totals") in
    record {
      writes = record {
        same_reference = c.put.ensures.added.same_reference;
        transaction = c.put.ensures.added.transaction;
        says = (
          _,
          (λ fits. ap (λ (p : Row). let w : Write = record { sql = new_totals_text; params = p } in w) (c.shift_total_values.ensures.bound fits)),
          record {
            made = λ clean has.
                on_ok c.put.result (puts_shift_totals (state g.S.Store c.args.tx.now.conn.now) (state g.S.Store c.put.new.tx.conn.now)
                c.args.self.now _ c.shift_total_values.ensures.bound)
                (c.put.ensures.added.says clean (shift_totals_table tree) (place_in s (codes "shift_totals")) totals_terms (new_totals_means tree)
                (λ runs. (shift_totals_in.there s (has runs)).0.has));
            ends = λ clean has. c.put.ensures.ends clean (shift_totals_table tree) (place_in s (codes "shift_totals")) totals_terms
                (new_totals_means tree) (subst (λ n. is_whole new_totals_text n ≡ true) (sym c.shift_total_values.ensures.count)
                new_totals_whole) (λ runs. (shift_totals_in.there s (has runs)).0.has);
          },
        );
      };
    }
