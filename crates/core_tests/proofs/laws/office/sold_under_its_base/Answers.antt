use Rattle.std.proofs.Common.{◌≡◌, true}
use Rattle.std.proofs.lemmas.List.Elements.{All-contains}
use Rattle.office_rules.specs.declared.office.sale.Sale.{Sale}
use Rattle.vend_core.specs.Lists.{office_of}
use Rattle.core_tests.proofs.SoldLemmas.{there}
use Rattle.core_tests.proofs.laws.office.sold_under_its_base.Goals as goal

pub returns : goal.returns
returns g c =
    let o = office_of c.in_ok-sold.sold.lists in
    let sold = c.in_ok-sold.ensures.sold in
    All-contains (λ (s : Sale). o.bases s.meter s.base ≡ true) o.sales c.in_ok-sold.sold.sale
    (c.office_law.ensures.own_base o sold.office)
    (there (g.T.BlockTransform.forwards c.args.transform) c.args.number c.args.meter.key c.args.meter.base o c.in_ok-sold.sold.sale sold)
