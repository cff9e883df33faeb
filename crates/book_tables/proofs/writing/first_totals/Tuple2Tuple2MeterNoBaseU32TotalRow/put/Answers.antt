use Rattle.std.proofs.Common.{◌≡◌, ap, length, subst, sym, true}
use Rattle.std.specs.Prelude.{codes}
use Rattle.sqlite.specs.Held.{state}
use Rattle.sqlite.specs.Order.{Row}
use Rattle.one_table.proofs.ChangeLemmas.{on_ok}
use Rattle.one_table.specs.Reading.{is_whole}
use Rattle.one_table.specs.Standing.{place_in, tree_in}
use Rattle.book_tables.specs.Tables.{last_ids_table}
use Rattle.book_tables.specs.writing.Writes.{Write, new_last_id_text}
use Rattle.book_tables.proofs.OfficeTableLemmas.{last_ids_in}
use Rattle.book_tables.proofs.WritingLemmas.PuttingLemmas.{new_last_id_means, new_last_id_whole, puts_last_id, three_terms}
use Rattle.book_tables.proofs.writing.first_totals.Tuple2Tuple2MeterNoBaseU32TotalRow.put.Goals as goal

pub returns : goal.returns
returns g c =
    let s = c.args.tx.now.conn.now.schema in
    let tree = tree_in s (codes "last_ids") in
    record {
      writes = record {
        same_reference = c.put.ensures.added.same_reference;
        transaction = c.put.ensures.added.transaction;
        says = (
          _,
          ap (λ (p : Row). let w : Write = record { sql = new_last_id_text; params = p } in w) c.last_id_values.ensures,
          record {
            made = λ clean has.
                on_ok c.put.result (puts_last_id (state g.S.Store c.args.tx.now.conn.now) (state g.S.Store c.put.new.tx.conn.now)
                c.args.self.now _ c.last_id_values.ensures)
                (c.put.ensures.added.says clean (last_ids_table tree) (place_in s (codes "last_ids")) three_terms (new_last_id_means tree)
                (λ runs. (last_ids_in.there s (has runs)).0.has));
            ends = λ clean has. c.put.ensures.ends clean (last_ids_table tree) (place_in s (codes "last_ids")) three_terms
                (new_last_id_means tree) (subst (λ ps. is_whole new_last_id_text (length ps) ≡ true) (sym c.last_id_values.ensures)
                new_last_id_whole) (λ runs. (last_ids_in.there s (has runs)).0.has);
          },
        );
      };
    }
