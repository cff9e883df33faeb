use Rattle.std.proofs.Common.{[], refl, ◌∷◌, subst, sym, ◌∙◌, arith}
use Rattle.office_rules.specs.Office.{Office, empty_office}
use Rattle.vend_core.specs.Lists.{office_of, transform_of}
use Rattle.core_tests.specs.Lived.{IsLived}
use Rattle.core_tests.proofs.LivedLemmas.{leads, one_item}
use Rattle.core_tests.proofs.laws.lived.sold_once.Goals as goal

pub returns-then-is_under-clause-sold : goal.returns-then-is_under-clause-sold
returns-then-is_under-clause-sold g c =
    let forwards = g.T.BlockTransform.forwards in
    let o = office_of c.add_meter-2.new.lists in
    let begun = subst (λ (start : Office). IsLived start (forwards (transform_of c.new-lists.result)) (office_of c.new-lists.result)) c.new-lists.ensures.office c.opens.ensures in
    let at_last = c.add_meter-2.ensures.lived empty_office (c.ask-3.ensures.replied empty_office (c.ask-2.ensures.replied empty_office
    (c.add_meter.ensures.lived empty_office (c.ask.ensures.replied empty_office begun).lived)).lived).lived in
    let same = c.add_meter-2.ensures.transform ∙ c.ask-3.ensures.transform ∙ c.ask-2.ensures.transform ∙ c.add_meter.ensures.transform
    ∙ c.ask.ensures.transform ∙ c.new-lists.ensures.transform in
    let lived = subst (λ t. IsLived empty_office (forwards t) o) same at_last in
    record {
      begins = c.history_law.ensures.offices [] empty_office refl;
      lived = lived;
      office = c.history_law.ensures.offices (lived.life ∷ []) o (leads empty_office (forwards c.args.transform) o lived);
      has_key = c.in_ok-add_meter-2.ensures.key;
      sales = sym c.sales.ensures ∙ one_item c.sales.result.now c.sale-item.result (omega (arith, c.in-len1.len_at_least)) (omega (arith, c.in-len1.len_below)) c.sale-item.is;
      to_meter = c.is_under.ensures.meter c.if-is_under.true;
      under = c.is_under.ensures.base c.if-is_under.true;
    }
