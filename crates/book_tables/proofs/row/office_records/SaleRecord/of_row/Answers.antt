use Rattle.std.proofs.Common.{sym, ◌∙◌}
use Rattle.book_tables.proofs.RowLemmas.PartLemmas.{read_whole}
use Rattle.book_tables.proofs.row.office_records.SaleRecord.of_row.Goals as goal

pub returns : goal.returns
returns c = read_whole c.args.row.now c.sale_of.result (sym c.column_count.ensures ∙ c.if-column_count-ne13.false) c.sale_of.ensures
