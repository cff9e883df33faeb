use Rattle.std.proofs.Common.{◌↔◌, drop}
use Rattle.std.specs.List.{AllByRecursion}
use Rattle.one_table.specs.Comparing.{StandsAs}
use Rattle.one_table.proofs.recognise.stand.Given as goal

abbrev pub invariant-loop-text : goal.invariant-loop-text
invariant-loop-text l =
    AllByRecursion (λ text. StandsAs l.schema text.now) (drop l.text-index l.texts) ↔ AllByRecursion (λ text. StandsAs l.schema text.now) l.texts
