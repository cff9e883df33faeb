use Rattle.std.proofs.Common.{arith}
use Rattle.papers.proofs.TextLemmas.{sale_line-parts, styled-right}
use Rattle.papers.proofs.reports.put_sale.Goals as goal

pub returns : goal.returns
returns c =
    let number = simp (c.laid_out.ensures, styled-right) at c.in_ok-number.ensures.ok in
    let amounts = simp (
      c.laid_out-2.ensures,
      c.laid_out-3.ensures,
      c.laid_out-4.ensures,
      c.laid_out-5.ensures,
      c.tenths.ensures.value,
      c.cents.ensures.value,
      c.change.ensures,
      styled-right,
    ) at c.in_ok-amounts.ensures.ok in
    let line = sale_line-parts c.args.text.now.items _ _ c.args.sale.now number amounts in
    grind arith
