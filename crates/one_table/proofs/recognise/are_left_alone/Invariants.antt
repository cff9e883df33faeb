use Rattle.std.proofs.Common.{◌≡◌, drop}
use Rattle.std.specs.List.{list_all}
use Rattle.one_table.specs.Referring.{is_left_alone}
use Rattle.one_table.specs.Standing.{tree_in}
use Rattle.one_table.proofs.recognise.are_left_alone.Given as goal

abbrev pub invariant-loop-name : goal.invariant-loop-name
invariant-loop-name l =
    list_all (λ name. is_left_alone l.schema (tree_in l.schema name.now)) (drop l.name-index l.names)
    ≡ list_all (λ name. is_left_alone l.schema (tree_in l.schema name.now)) l.names
