use Rattle.std.proofs.Common.{◌+◌, ◌<◌, ◌≤◌, [], ◌∷◌, sym, ◌∙◌, arith}
use Rattle.std.proofs.lemmas.Bool.Decides.{Decides-ltb}
use Rattle.vend_core.specs.Lists.{office_of}
use Rattle.core_tests.proofs.SoldLemmas.{have_made}
use Rattle.core_tests.proofs.laws.apart.rises_in_another_office.Goals as goal

pub returns-then-are_apart : goal.returns-then-are_apart
returns-then-are_apart g c =
    let forwards = g.T.BlockTransform.forwards in
    let others = g.U.BlockTransform.forwards in
    let first = c.in_ok-early.field-0 in
    let next = c.in_ok-late.field-0 in
    let early = c.in_ok-early.ensures.sold in
    let late = c.in_ok-late.ensures.sold in
    let number = c.args.number in
    let key = c.args.meter.key in
    let base = c.args.meter.base in
    let law = c.apart_law.ensures in
    let far : first.sale.moment + 86460 ≤ next.sale.moment = c.are_apart.ensures c.if-are_apart.true in
    let less : first.sale.tid < next.sale.tid =
    law.apart (early.lived.life ∷ []) (late.lived.life ∷ []) first.sale next.sale
    (have_made (forwards c.args.transforms.0) number key base (office_of first.lists) first.sale early)
    (have_made (others c.args.transforms.1) number key base (office_of next.lists) next.sale late)
    (early.under ∙ sym late.under) (omega (arith, law.enough first.sale.moment, far)) in
    (Decides-ltb first.sale.tid next.sale.tid).1 less
