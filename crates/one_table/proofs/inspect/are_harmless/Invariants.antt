use Rattle.std.proofs.Common.{◌≡◌, ◌||◌, not, map, drop}
use Rattle.std.specs.List.{list_all}
use Rattle.one_table.specs.Referring.{is_among, is_idle}
use Rattle.one_table.proofs.inspect.are_harmless.Given as goal

abbrev pub invariant-loop-reference : goal.invariant-loop-reference
invariant-loop-reference l =
    let names = map (λ n. n.now) l.names in
    list_all (λ r. is_idle r || not (is_among names r.parent)) (drop l.reference-index l.references)
    ≡ list_all (λ r. is_idle r || not (is_among names r.parent)) l.references
