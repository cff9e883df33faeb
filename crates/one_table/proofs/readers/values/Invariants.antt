use Rattle.std.proofs.Common.{take}
use Rattle.std.specs.List.{AllZip}
use Rattle.one_table.proofs.readers.values.Given as goal

abbrev pub invariant-loop-row : goal.invariant-loop-row
invariant-loop-row g l = AllZip g.X.FromRow.reads_as (take l.row-index l.rows) l.found.items
