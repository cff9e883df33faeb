use Rattle.std.proofs.Common.{◌≡◌, map, drop}
use Rattle.one_table.specs.Referring.{is_among}
use Rattle.one_table.proofs.inspect.is_among.Given as goal

abbrev pub invariant-loop-one : goal.invariant-loop-one
invariant-loop-one l = is_among (map (λ n. n.now) (drop l.one-index l.names)) l.fn.name ≡ is_among (map (λ n. n.now) l.names) l.fn.name
