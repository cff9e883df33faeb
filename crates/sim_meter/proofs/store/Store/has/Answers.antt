use Rattle.sim_meter.proofs.PlaceLemmas.{test_at, test_past}
use Rattle.sim_meter.proofs.store.Store.has.Goals as goal

pub returns-then-place-lt-PLACES : goal.returns-then-place-lt-PLACES
returns-then-place-lt-PLACES c =
    let store = c.args.self.now in
    test_at c.args.tid store.places c.args.place store.sorted c.requires c.if-place-lt-PLACES.true

pub returns-else-place-lt-PLACES : goal.returns-else-place-lt-PLACES
returns-else-place-lt-PLACES c =
    let store = c.args.self.now in
    test_past c.args.tid store.places c.args.place store.sorted c.requires c.if-place-lt-PLACES.false
