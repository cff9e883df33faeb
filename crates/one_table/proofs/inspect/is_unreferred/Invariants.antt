use Rattle.std.proofs.Common.{◌≡◌, map, drop}
use Rattle.std.specs.List.{list_all}
use Rattle.one_table.specs.Referring.{is_apart}
use Rattle.one_table.proofs.inspect.is_unreferred.Given as goal

abbrev pub invariant-loop-table : goal.invariant-loop-table
invariant-loop-table l =
    let names = map (λ n. n.now) l.names in
    list_all (is_apart names) (drop l.table-index l.table-items) ≡ list_all (is_apart names) l.schema.tables
