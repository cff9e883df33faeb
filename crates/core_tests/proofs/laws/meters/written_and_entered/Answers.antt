use Rattle.std.proofs.Common.{◌≤◌, [], ◌∷◌, ap, sym, subst, ◌∙◌, arith}
use Rattle.std.proofs.lemmas.List.Elements.{All-cons, All-nil}
use Rattle.sts_fields.specs.Amount.{IsRepresentable}
use Rattle.sts_token.specs.Fields.{AreFields, TokenFields}
use Rattle.sts_token.specs.Meter.{Accepts, Reader, entered}
use Rattle.sts_token.specs.Reading.{reading_of}
use Rattle.sts_token.specs.Sold.{AreSold}
use Rattle.sim_meter.specs.Meter.{is_accepted}
use Rattle.core_tests.proofs.EntryLemmas.{answers_amount, answers_other}
use Rattle.core_tests.proofs.TransformLemmas.{both_ways}
use Rattle.core_tests.proofs.laws.meters.written_and_entered.Given.{Over}
use Rattle.core_tests.proofs.laws.meters.written_and_entered.Goals as goal

abbrev fields : (g : Over) (c : goal.After-enter-again g) → TokenFields
fields g c = record { rnd = c.args.rnd; tid = c.args.tid; tenths = c.args.amount }

abbrev read : (g : Over) (c : goal.After-enter-again g) → Reader
read g c = reading_of (g.T.BlockTransform.inverses c.args.transform) c.args.key

sold_alone : (f : TokenFields) → AreFields f → 1 ≤ f.tid → AreSold (f ∷ [])
sold_alone f are least = record {
  fields = All-cons AreFields f [] are (All-nil AreFields);
  from_one = All-cons (λ (f : TokenFields). 1 ≤ f.tid) f [] least (All-nil (λ (f : TokenFields). 1 ≤ f.tid));
  rising = λ i j d before within. absurd (omega (arith, before, within));
}

accepts : (g : Over) (c : goal.After-enter-again g) → Accepts (read g c) [] c.write-digits.result (fields g c)
accepts g c =
    let laws = g.met.T.BlockTransform in
    let forwards = g.T.BlockTransform.forwards in
    let inverses = g.T.BlockTransform.inverses in
    let f = fields g c in
    subst (λ text. Accepts (read g c) [] text f) (sym c.write-digits.ensures.value)
    (c.meter_law.ensures.in_order (forwards c.args.transform) (inverses c.args.transform) c.args.key [] [] f
    (both_ways forwards inverses c.args.transform laws.forward_range laws.inverse_range laws.inverse_undoes laws.forward_undoes)
    (omega arith)
    (sold_alone f (record { rnd = omega arith; tid = omega arith; tenths = subst IsRepresentable c.tenths-tenths.ensures.value c.tenths-tenths.ensures.representable }) (omega arith)))

pub returns-clause-first : goal.returns-clause-first
returns-clause-first g c =
    c.enter-first.ensures.answer (read g c) [] c.new-meter.ensures
    ∙ answers_amount (read g c) [] c.write-digits.result (fields g c) (accepts g c)

pub returns-clause-again : goal.returns-clause-again
returns-clause-again g c =
    let text = c.write-digits.result in
    let f = fields g c in
    let once = c.enter-first.ensures.entered (read g c) [] c.new-meter.ensures in
    ap is_accepted (c.enter-again.ensures.answer (read g c) (entered text ∷ []) once)
    ∙ answers_other (read g c) (entered text ∷ []) text f (accepts g c).reads
    (c.meter_law.ensures.token_once (read g c) [] [] text f f (accepts g c))
