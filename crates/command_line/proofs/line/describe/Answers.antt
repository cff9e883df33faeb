use Rattle.std.proofs.Common.{[]}
use Rattle.command_line.proofs.DescriptionLemmas.{in_order}
use Rattle.command_line.proofs.line.describe.Goals as goal

pub returns : goal.returns
returns c =
    let after1 = c.in_ok-line-2.ensures [] c.in_ok-line.ensures in
    let after2 = c.in_ok-line-3.ensures _ after1 in
    let after3 = c.in_ok-line-4.ensures _ after2 in
    in_order _ _ _ _ _ c.shop.ensures c.reading.ensures c.care.ensures c.officeless.ensures (c.with-4.ensures _ after3)
