use Rattle.std.specs.Prelude.{map}
use Rattle.records.specs.Record.{now}
use Rattle.desk_client.proofs.ReadingLemmas.{Stands}
use Rattle.desk_client.proofs.text.read_front_values.Given as goal

-- the values so far
abbrev pub invariant-loop-i : goal.invariant-loop-i
invariant-loop-i l = Stands l.text l.front (map now l.values) (map now l.ends) l.i l.rest
