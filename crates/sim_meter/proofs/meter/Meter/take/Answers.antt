use Rattle.std.proofs.Common.{◌<◌, ◌∙◌, ap, sym, arith}
use Rattle.sts_token.specs.Fields.{TokenFields}
use Rattle.sts_token.specs.Meter.{Taken}
use Rattle.sim_meter.specs.Meter.{MeterHolds}
use Rattle.sim_meter.specs.Store.{count_below}
use Rattle.sim_meter.specs.declared.answer.Answer.TheVariants.{Accepted, Old, Used}
use Rattle.sim_meter.specs.declared.meter.Meter.{Meter}
use Rattle.sim_meter.proofs.MeterLemmas.{Outcome, outcome_accepted, outcome_old, outcome_used}
use Rattle.sim_meter.proofs.meter.Meter.take.Given.{Over}
use Rattle.sim_meter.proofs.meter.Meter.take.Goals as goal

stored : (g : Over) (c : goal.Then-has g) (taken : Taken) → MeterHolds taken c.args.self.now
    → Outcome taken c.args.fields Used c.args.self.now
stored g c taken holds =
    outcome_used taken c.args.fields c.args.self.now holds
    (rw (← c.fields.view_is) (sym c.has.ensures ∙ c.if-has.true))

below_all : (g : Over) (c : goal.Then-place-eq0 g) (taken : Taken) → MeterHolds taken c.args.self.now
    → Outcome taken c.args.fields Old c.args.self.now
below_all g c taken holds =
    outcome_old taken c.args.fields c.args.self.now holds
    (rw (← c.fields.view_is) (sym c.has.ensures ∙ c.if-has.false))
    (rw (← c.fields.view_is) (sym c.place_of-place.ensures ∙ c.if-place-eq0.true))

pub returns-then-has-clause-answer : goal.returns-then-has-clause-answer
returns-then-has-clause-answer g c = λ taken holds. (stored g c taken holds).answer_is

pub returns-then-has-clause-holds : goal.returns-then-has-clause-holds
returns-then-has-clause-holds g c = λ taken holds. (stored g c taken holds).holds

pub returns-then-place-eq0-clause-answer : goal.returns-then-place-eq0-clause-answer
returns-then-place-eq0-clause-answer g c = λ taken holds. (below_all g c taken holds).answer_is

pub returns-then-place-eq0-clause-holds : goal.returns-then-place-eq0-clause-holds
returns-then-place-eq0-clause-holds g c = λ taken holds. (below_all g c taken holds).holds

after : (g : Over) → goal.After-result-1 g → Meter g.row.T.Denot
after g c =
    record {
      transform = c.args.self.now.transform;
      key = c.args.self.now.key;
      store = c.replace_least.new.self;
      credit = c.saturating_add-self.result;
    }

taken_in : (g : Over) (c : goal.After-result-1 g) (taken : Taken) → MeterHolds taken c.args.self.now
    → Outcome taken c.args.fields (Accepted c.args.fields.tenths) (after g c)
unfolding after
taken_in g c taken holds =
    let places = c.args.self.now.store.places in
    let some : 0 < count_below c.fields.inside.tid places =
    omega (arith, c.place_of-place.ensures, c.if-place-eq0.false) in
    outcome_accepted taken c.args.fields c.args.self.now (after g c) holds
    (rw (← c.fields.view_is) (sym c.has.ensures ∙ c.if-has.false))
    (rw (← c.fields.view_is) some)
    (rw (← c.fields.view_is) c.replace_least.ensures)
    (rw (← c.fields.view_is)
    (omega (arith, c.saturating_add-self.ensures, c.from.ensures, c.tenths.ensures.value)))

pub returns-clause-answer : goal.returns-clause-answer
returns-clause-answer g c =
    λ taken holds. ap (λ (f : TokenFields). Accepted f.tenths) c.fields.view_is
    ∙ (taken_in g c taken holds).answer_is

pub returns-clause-holds : goal.returns-clause-holds
unfolding after
returns-clause-holds g c = λ taken holds. (taken_in g c taken holds).holds
