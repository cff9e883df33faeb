use Rattle.std.proofs.Common.{◌≡◌, length, subst, sym, true}
use Rattle.std.specs.Prelude.{codes}
use Rattle.sqlite.specs.Held.{state}
use Rattle.sqlite.specs.Order.{Row as Values}
use Rattle.one_table.proofs.ChangeLemmas.{on_ok}
use Rattle.one_table.specs.Reading.{is_whole}
use Rattle.one_table.specs.Standing.{place_in, tree_in}
use Rattle.book_tables.specs.Tables.{sales_table}
use Rattle.book_tables.specs.writing.Writes.{new_sale_text}
use Rattle.book_tables.specs.writing.Failing.{Ends, FailsToStore}
use Rattle.book_tables.proofs.OfficeTableLemmas.{sales_in}
use Rattle.book_tables.proofs.WritingLemmas.WriteLemmas.{adds_sale}
use Rattle.book_tables.proofs.WritingLemmas.WriteTexts.{new_sale_means, new_sale_terms, new_sale_whole}
use Rattle.book_tables.proofs.writing.additions.add_sale.Goals as goal

pub returns : goal.returns
returns g c =
    let s = c.args.tx.now.conn.now.schema in
    let tree = tree_in s (codes "sales") in
    record {
      writes = record {
        same_reference = c.put.ensures.added.same_reference;
        transaction = c.put.ensures.added.transaction;
        says = record {
          made = λ clean has.
              on_ok c.put.result (adds_sale (state g.S.Store c.args.tx.now.conn.now) (state g.S.Store c.put.new.tx.conn.now) c.args.sale.now _
              c.sale_values.ensures has)
              (c.put.ensures.added.says clean (sales_table tree) (place_in s (codes "sales")) new_sale_terms (new_sale_means tree)
              (λ runs. (sales_in.there s (has runs)).0.has));
          ends = λ clean has.
              subst (λ (ps : Values). Ends FailsToStore (record { sql = new_sale_text; params = ps }) (state g.S.Store c.args.tx.now.conn.now)
              (state g.S.Store c.put.new.tx.conn.now) c.put.result) c.sale_values.ensures
              (c.put.ensures.ends clean (sales_table tree) (place_in s (codes "sales")) new_sale_terms (new_sale_means tree)
              (subst (λ ps. is_whole new_sale_text (length ps) ≡ true) (sym c.sale_values.ensures) new_sale_whole)
              (λ runs. (sales_in.there s (has runs)).0.has));
        };
      };
    }
