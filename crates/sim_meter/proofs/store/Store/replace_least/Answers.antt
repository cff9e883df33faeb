use Rattle.std.proofs.Common.{ℕ, ◌-◌, List, ◌∷◌, drop, slice_set, sym, subst}
use Rattle.std.specs.List.Sorted.{IsPermutation}
use Rattle.sim_meter.specs.Store.{AreSorted}
use Rattle.sim_meter.proofs.PlaceLemmas.{moved_in_permutes, moved_in_sorted}
use Rattle.sim_meter.proofs.store.Store.replace_least.Goals as goal

pub invariant_of-self : goal.invariant_of-self
invariant_of-self c =
    let store = c.args.self.now in
    record {
      sorted = subst
          (λ (moved : List ℕ). AreSorted (slice_set moved (c.args.place - 1) c.args.tid))
          (sym c.copy_within.ensures.after)
          (moved_in_sorted c.args.tid store.places c.args.place store.sorted c.requires.is
          c.requires.above);
    }

pub returns : goal.returns
returns c =
    let store = c.args.self.now in
    subst (λ (moved : List ℕ).
    IsPermutation (c.args.tid ∷ drop 1 store.places) (slice_set moved (c.args.place - 1) c.args.tid))
    (sym c.copy_within.ensures.after)
    (moved_in_permutes c.args.tid store.places c.args.place store.sorted c.requires.is
    c.requires.above)
