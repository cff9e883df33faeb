use Rattle.std.proofs.Common.{◌≡◌, ◌||◌, not, drop}
use Rattle.std.specs.List.{list_all}
use Rattle.one_table.specs.Referring.{is_idle, points_to}
use Rattle.one_table.proofs.inspect.is_left_alone.Given as goal

abbrev pub invariant-loop-table : goal.invariant-loop-table
invariant-loop-table l =
    list_all (λ t. list_all (λ r. is_idle r || not (points_to l.schema l.tree r)) t.references) (drop l.table-index l.table-items)
    ≡ list_all (λ t. list_all (λ r. is_idle r || not (points_to l.schema l.tree r)) t.references) l.schema.tables
