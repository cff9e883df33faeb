use Rattle.std.proofs.Common.{◌≡◌, ap, subst, sym, true}
use Rattle.std.specs.Prelude.{codes}
use Rattle.sqlite.specs.Held.{state}
use Rattle.sqlite.specs.Order.{Row}
use Rattle.one_table.proofs.ChangeLemmas.{on_ok}
use Rattle.one_table.specs.Reading.{is_whole}
use Rattle.one_table.specs.Standing.{place_in, tree_in}
use Rattle.book_tables.specs.Tables.{month_tenths_table}
use Rattle.book_tables.specs.writing.Writes.{Write, new_month_text}
use Rattle.book_tables.proofs.OfficeTableLemmas.{month_tenths_in}
use Rattle.book_tables.proofs.WritingLemmas.PuttingLemmas.{new_month_means, new_month_whole, puts_month_tenths, three_terms}
use Rattle.book_tables.proofs.writing.first_totals.Tuple2Tuple2MeterNoU32U64TotalRow.put.Goals as goal

pub returns : goal.returns
returns g c =
    let s = c.args.tx.now.conn.now.schema in
    let tree = tree_in s (codes "month_tenths") in
    record {
      writes = record {
        same_reference = c.put.ensures.added.same_reference;
        transaction = c.put.ensures.added.transaction;
        says = (
          _,
          (λ fits. ap (λ (p : Row). let w : Write = record { sql = new_month_text; params = p } in w) (c.month_total_values.ensures.bound fits)),
          record {
            made = λ clean has.
                on_ok c.put.result (puts_month_tenths (state g.S.Store c.args.tx.now.conn.now) (state g.S.Store c.put.new.tx.conn.now)
                c.args.self.now _ c.month_total_values.ensures.bound)
                (c.put.ensures.added.says clean (month_tenths_table tree) (place_in s (codes "month_tenths")) three_terms (new_month_means tree)
                (λ runs. (month_tenths_in.there s (has runs)).0.has));
            ends = λ clean has. c.put.ensures.ends clean (month_tenths_table tree) (place_in s (codes "month_tenths")) three_terms
                (new_month_means tree) (subst (λ n. is_whole new_month_text n ≡ true) (sym c.month_total_values.ensures.count) new_month_whole)
                (λ runs. (month_tenths_in.there s (has runs)).0.has);
          },
        );
      };
    }
