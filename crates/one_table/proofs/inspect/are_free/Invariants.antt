use Rattle.std.proofs.Common.{◌≡◌, not, map, drop}
use Rattle.std.specs.List.{list_all}
use Rattle.sqlite_catalog.specs.Change.{is_used}
use Rattle.one_table.proofs.inspect.are_free.Given as goal

abbrev pub invariant-loop-name : goal.invariant-loop-name
invariant-loop-name l =
    list_all (λ name. not (is_used l.schema name)) (map (λ n. n.now) (drop l.name-index l.names))
    ≡ list_all (λ name. not (is_used l.schema name)) (map (λ n. n.now) l.names)
