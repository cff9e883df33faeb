use Rattle.std.proofs.Common.{take}
use Rattle.papers.specs.Export.{HasRecords, export_of}
use Rattle.papers.proofs.exports.export.Given as goal

-- the header, where it is asked for, and a record of each sale so far
abbrev pub invariant-loop-sale : goal.invariant-loop-sale
invariant-loop-sale l = HasRecords l.writer (export_of l.header (take l.sale-index l.sales))
