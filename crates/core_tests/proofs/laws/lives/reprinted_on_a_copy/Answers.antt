use Rattle.std.proofs.Common.{◌≡◌, [], ◌∷◌, length, ap, subst, sym, ◌∙◌}
use Rattle.office_rules.specs.Office.{Office}
use Rattle.office_rules.proofs.OfficeLemmas.RowLemmas.{contains_first}
use Rattle.vend_core.specs.Lists.{office_of, transform_of}
use Rattle.core_tests.specs.Lived.{IsLived}
use Rattle.core_tests.proofs.LivedLemmas.{leads}
use Rattle.core_tests.proofs.SoldLemmas.{still_alone}
use Rattle.core_tests.proofs.laws.lives.reprinted_on_a_copy.Goals as goal

pub returns-then-sales-eq1 : goal.returns-then-sales-eq1
returns-then-sales-eq1 g c =
    let found = c.in_ok-sold.sold in
    let sold = c.in_ok-sold.ensures.sold in
    let o = office_of found.lists in
    let p = office_of c.handed.new.lists in
    let begun = subst (λ (start : Office). IsLived start (g.U.BlockTransform.forwards (transform_of c.with_transform-copy.result)) (office_of c.with_transform-copy.result))
    c.with_transform-copy.ensures.office c.opens.ensures in
    let handed = c.in_ok-again.ensures.handed o begun in
    let again = c.in_ok-again.again in
    let next = g.U.BlockTransform.forwards (transform_of c.handed.new.lists) in
    let life = handed.lived.life in
    let lead = leads o next p handed.lived in
    let law = c.lives_law.ensures in
    let alone : length p.sales ≡ 1 = ap (λ sales. length sales) (sym c.sales.ensures) ∙ c.if-sales-eq1.true in
    still_alone o p found.sale again (law.grows o (life ∷ []) p sold.office lead) sold.sales alone
    (law.stands o (life ∷ []) p again sold.office lead (life, contains_first life [], handed.hands again (contains_first again [])))
