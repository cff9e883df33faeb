use Rattle.std.proofs.Common.{◌≡◌, ◌||◌, not, map, drop}
use Rattle.std.specs.List.{list_all}
use Rattle.one_table.specs.Referring.{is_among, is_idle}
use Rattle.one_table.proofs.inspect.is_harmless.Given as goal

abbrev pub invariant-loop-table : goal.invariant-loop-table
invariant-loop-table l =
    let names = map (λ n. n.now) l.names in
    list_all (λ t. list_all (λ r. is_idle r || not (is_among names r.parent)) t.references) (drop l.table-index l.table-items)
    ≡ list_all (λ t. list_all (λ r. is_idle r || not (is_among names r.parent)) t.references) l.schema.tables
