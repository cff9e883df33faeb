use Rattle.std.proofs.Common.{◌≡◌, ◌↔◌, ◌==◌, ◌≤◌, map, filter, drop, length}
use Rattle.one_table.specs.Standing.{key_of, keys_on, own_keys}
use Rattle.one_table.proofs.inspect.has_own_keys.Given as goal

abbrev pub invariant-loop-index : goal.invariant-loop-index
invariant-loop-index l = record {
  left : (map key_of (filter (λ i. i.table == l.tree) (drop l.index-index l.index-items)) ≡ drop l.next (own_keys l.table)) ↔
      (keys_on l.schema l.tree ≡ own_keys l.table);
  low : l.next ≤ l.index-index;
  within : l.next ≤ length (own_keys l.table);
}
