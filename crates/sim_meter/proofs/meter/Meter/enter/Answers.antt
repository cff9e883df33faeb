use Rattle.std.proofs.Common.{◌≡◌, ◌∙◌, sym, Ok}
use Rattle.sim_meter.proofs.MeterLemmas.{taken_more}
use Rattle.sim_meter.proofs.meter.Meter.enter.Goals as goal

pub returns-in-Ok-clause-entered : goal.returns-in-Ok-clause-entered
returns-in-Ok-clause-entered g c = λ reader history from.
    let text = c.args.text.now in
    let reads : reader text ≡ Ok c.in-Ok.fields =
    sym (from.reads text) ∙ sym c.in-Ok.ensures.value in
    record {
      reads =
          λ other. rw (c.take.ensures.same_transform, c.take.ensures.same_key) (from.reads other);
      holds = rw (taken_more reader history text c.in-Ok.fields reads)
          (c.take.ensures.holds _ from.holds);
    }
