use Rattle.std.proofs.Common.{[], ◌∷◌, subst}
use Rattle.office_rules.specs.Office.{Office, empty_office}
use Rattle.office_rules.proofs.OfficeLemmas.RowLemmas.{contains_first, contains_further}
use Rattle.vend_core.specs.Lists.{office_of, transform_of}
use Rattle.core_tests.specs.Lived.{IsLived}
use Rattle.core_tests.proofs.SoldLemmas.{there, two_lives}
use Rattle.core_tests.proofs.laws.lives.asked_again_in_the_next_life.Goals as goal

pub returns-clause-one_identifier : goal.returns-clause-one_identifier
returns-clause-one_identifier g c =
    let forward = g.T.BlockTransform.forwards c.args.transform in
    let found = c.in_ok-sold.sold in
    let sold = c.in_ok-sold.ensures.sold in
    let o = office_of found.lists in
    let begun = subst (λ (start : Office). IsLived start (g.U.BlockTransform.forwards (transform_of c.with_transform-lists.result)) (office_of c.with_transform-lists.result))
    c.with_transform-lists.ensures.office c.opens.ensures in
    let handed = c.in_ok-by_order.ensures.handed o begun in
    let p = office_of c.handed.new.lists in
    let next = g.U.BlockTransform.forwards (transform_of c.handed.new.lists) in
    let again = c.in_ok-by_order.by_order in
    let one = sold.lived.life in
    let other = handed.lived.life in
    let here = there forward c.args.number c.args.meter.key c.args.meter.base o found.sale sold in
    c.history_law.ensures.one_identifier (one ∷ other ∷ []) p again found.sale
    (two_lives empty_office o p forward next sold.lived handed.lived)
    (other, contains_further one other (other ∷ []) (contains_first other []), handed.hands again (contains_first again []))
    (one, contains_first one (other ∷ []), c.life_law.ensures.listed one o found.sale sold.lived.running here)
    (c.have_one_identifier.ensures.meter c.if-not-have_one_identifier.false)
    (c.have_one_identifier.ensures.base c.if-not-have_one_identifier.false)
    (c.have_one_identifier.ensures.tid c.if-not-have_one_identifier.false)

pub returns-clause-one_ref : goal.returns-clause-one_ref
returns-clause-one_ref g c =
    let forward = g.T.BlockTransform.forwards c.args.transform in
    let found = c.in_ok-sold.sold in
    let sold = c.in_ok-sold.ensures.sold in
    let o = office_of found.lists in
    let begun = subst (λ (start : Office). IsLived start (g.U.BlockTransform.forwards (transform_of c.with_transform-lists.result)) (office_of c.with_transform-lists.result))
    c.with_transform-lists.ensures.office c.opens.ensures in
    let handed = c.in_ok-by_number.ensures.handed o (c.in_ok-by_order.ensures.handed o begun).lived in
    let p = office_of c.handed-2.new.lists in
    let next = g.U.BlockTransform.forwards (transform_of c.handed-2.new.lists) in
    let again = c.in_ok-by_number.by_number in
    let one = sold.lived.life in
    let other = handed.lived.life in
    let here = there forward c.args.number c.args.meter.key c.args.meter.base o found.sale sold in
    c.history_law.ensures.one_ref (one ∷ other ∷ []) p again found.sale
    (two_lives empty_office o p forward next sold.lived handed.lived)
    (other, contains_further one other (other ∷ []) (contains_first other []), handed.hands again (contains_first again []))
    (one, contains_first one (other ∷ []), c.life_law.ensures.listed one o found.sale sold.lived.running here)
    (c.have_one_ref.ensures.operator c.if-not-have_one_ref.false)
    (c.have_one_ref.ensures.order_ref c.if-not-have_one_ref.false)
