use Rattle.std.proofs.Common.{[], ◌∷◌, refl, ap, ◌∙◌}
use Rattle.std.specs.Prelude.{Contains}
use Rattle.std.proofs.lemmas.List.Elements.{All-cons, All-nil}
use Rattle.sts_token.specs.Meter.{Accepts, entered, is_member, taken_over}
use Rattle.sim_meter.specs.Meter.{is_accepted}
use Rattle.office_rules.specs.Law.NewSale.{fields_of}
use Rattle.office_rules.specs.Office.{empty_office}
use Rattle.office_rules.specs.declared.office.sale.Sale.{Sale}
use Rattle.office_rules.proofs.OfficeLemmas.RowLemmas.{contains_first}
use Rattle.vend_core.specs.Law.SoldTokens.{AreMadeFor, SimMeter, reads_by, tokens_of}
use Rattle.vend_core.specs.Lists.{office_of}
use Rattle.core_tests.proofs.EntryLemmas.{answers_amount, answers_other}
use Rattle.core_tests.proofs.SoldLemmas.{kept_one, made_for, sim_meter}
use Rattle.core_tests.proofs.TransformLemmas.{both_ways}
use Rattle.core_tests.proofs.laws.meters.sold_and_entered.Given.{Over}
use Rattle.core_tests.proofs.laws.meters.sold_and_entered.Goals as goal

abbrev sold_meter : (g : Over) (c : goal.After-credit-credit g) → SimMeter
sold_meter g c =
    let forward = g.T.BlockTransform.forwards c.args.transform in
    let found = c.in_ok-sale.field-0 in
    sim_meter forward c.args.number c.args.meter.key c.args.meter.base (office_of found.lists) found.sale
    c.in_ok-sale.ensures.sold (g.T.BlockTransform.inverses c.args.transform)

are_made : (g : Over) (c : goal.After-credit-credit g) → AreMadeFor empty_office (c.in_ok-sale.ensures.sold.lived.life ∷ [])
    (office_of c.in_ok-sale.field-0.lists) (sold_meter g c) (c.in_ok-sale.field-0.sale ∷ [])
are_made g c =
    let laws = g.met.T.BlockTransform in
    let forwards = g.T.BlockTransform.forwards in
    let inverses = g.T.BlockTransform.inverses in
    let found = c.in_ok-sale.field-0 in
    made_for (forwards c.args.transform) c.args.number c.args.meter.key c.args.meter.base (office_of found.lists) found.sale
    c.in_ok-sale.ensures.sold (inverses c.args.transform)
    (both_ways forwards inverses c.args.transform laws.forward_range laws.inverse_range laws.inverse_undoes laws.forward_undoes)

accepts : (g : Over) (c : goal.After-credit-credit g)
    → Accepts (reads_by (sold_meter g c)) [] c.in_ok-sale.field-0.sale.digits (fields_of c.in_ok-sale.field-0.sale)
accepts g c =
    c.credited_law.ensures.in_order empty_office (c.in_ok-sale.ensures.sold.lived.life ∷ []) (office_of c.in_ok-sale.field-0.lists)
    (sold_meter g c) [] [] c.in_ok-sale.field-0.sale (are_made g c)

pub returns-clause-first : goal.returns-clause-first
returns-clause-first g c =
    let sale = c.in_ok-sale.field-0.sale in
    let read = reads_by (sold_meter g c) in
    c.enter-first.ensures.answer read [] c.new-simulated.ensures
    ∙ answers_amount read [] sale.digits (fields_of sale) (accepts g c)

pub returns-clause-again : goal.returns-clause-again
returns-clause-again g c =
    let sale = c.in_ok-sale.field-0.sale in
    let read = reads_by (sold_meter g c) in
    let entered_once = c.enter-first.ensures.entered read [] c.new-simulated.ensures in
    let history = entered sale.digits ∷ [] in
    ap is_accepted (c.enter-again.ensures.answer read history entered_once)
    ∙ answers_other read history sale.digits (fields_of sale) (accepts g c).reads
    (c.credited_law.ensures.at_most_once (sold_meter g c) [] [] sale (fields_of sale) (fields_of sale) (accepts g c))

pub returns-clause-credit : goal.returns-clause-credit
returns-clause-credit g c =
    let sale = c.in_ok-sale.field-0.sale in
    let m = sold_meter g c in
    let read = reads_by m in
    let lives = c.in_ok-sale.ensures.sold.lived.life ∷ [] in
    let o = office_of c.in_ok-sale.field-0.lists in
    let sales = sale ∷ [] in
    let came = sale ∷ sale ∷ [] in
    let there = contains_first sale [] in
    let from = All-cons (Contains sales) sale (sale ∷ []) there (All-cons (Contains sales) sale [] there (All-nil (Contains sales))) in
    let entered_once = c.enter-first.ensures.entered read [] c.new-simulated.ensures in
    let entered_twice = c.enter-again.ensures.entered read (entered sale.digits ∷ []) entered_once in
    let kept = (c.credited_law.ensures.accepted empty_office lives o m sales came sale (are_made g c) from).1 (
      there,
      record {
        earlier = [];
        text = sale.digits;
        later = sale.digits ∷ [];
        fields = fields_of sale;
        one_of = refl;
        accepts = accepts g c;
        identifier = refl;
      },
    ) in
    c.credit-credit.ensures read (entered sale.digits ∷ entered sale.digits ∷ []) entered_twice
    ∙ c.credited_law.ensures.credit empty_office lives o m sales came (are_made g c) from
    ∙ kept_one (λ (s : Sale). is_member (taken_over read (tokens_of came)).tids s.tid) sale kept
