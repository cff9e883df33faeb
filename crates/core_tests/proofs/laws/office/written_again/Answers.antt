use Rattle.std.proofs.Common.{[], ◌∷◌}
use Rattle.office_rules.specs.Law.NewSale.{fields_of}
use Rattle.vend_core.specs.Lists.{office_of}
use Rattle.core_tests.proofs.LivedLemmas.{leads}
use Rattle.core_tests.proofs.SoldLemmas.{sells_under, sold_token}
use Rattle.office_rules.specs.Office.{empty_office}
use Rattle.core_tests.proofs.laws.office.written_again.Goals as goal

pub returns : goal.returns
returns g c =
    let forward = g.T.BlockTransform.forwards c.args.transform in
    let found = c.in_ok-sale.field-0 in
    let sold = c.in_ok-sale.ensures.sold in
    let o = office_of found.lists in
    let have = c.reached_law.ensures.tokens_of_lives forward (sold.lived.life ∷ []) o (leads empty_office forward o sold.lived)
    (sells_under forward c.args.number c.args.meter.key c.args.meter.base o found.sale sold) in
    c.token_law.ensures.one_text forward c.args.meter.key (fields_of found.sale) c.write.result found.sale.digits
    c.write.ensures.token (sold_token forward c.args.number c.args.meter.key c.args.meter.base o found.sale sold have)
