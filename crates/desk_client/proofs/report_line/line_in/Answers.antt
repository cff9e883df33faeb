use Rattle.std.proofs.Common.{◌∙◌, sym}
use Rattle.desk_client.proofs.ColumnLemmas.{columns_of, line-columns, line_of_sale, read_of_sale, sale_fits}
use Rattle.desk_client.proofs.report_line.line_in.Goals as goal

pub returns-in_default : goal.returns-in_default
returns-in_default c = λ s rest told later is.
    c.in_default.ensures (columns_of s) rest (sale_fits c.amount_law.ensures.greatest s told) (is ∙ line-columns s rest)

pub returns-then-is_line : goal.returns-then-is_line
returns-then-is_line c =
    let sale = c.is_line.ensures.0 c.if-is_line.true in
    record {
      sale = sale.0;
      later = sale.1;
      told = sale.2;
      columns = sale.3;
      written = c.in-Some.ensures.1 ∙ line_of_sale c.in-Some.columns sale.0 c.in-Some.rest.now sale.3;
    }

pub returns-else-is_line : goal.returns-else-is_line
returns-else-is_line c = λ s rest told later is.
    let read = read_of_sale c.amount_law.ensures.greatest c.in-Some.columns s c.in-Some.rest.now rest c.in-Some.ensures.0 told (sym c.in-Some.ensures.1 ∙ is) in
    let yes = c.is_line.ensures.1 (s, later, told, read.0) in
    let no = c.if-is_line.false in
    absurd cc
