use Rattle.std.proofs.Common.{◌≡◌, List, length}
use Rattle.papers.specs.File.{Fields}
use Rattle.papers.specs.Import.{AreRowsIn}
use Rattle.papers.specs.Reader.{HasGiven}
use Rattle.papers.proofs.imports.read_rows.Given as goal

-- the reader has given the first records of the file, and these were read so far
abbrev pub invariant-loop-record : goal.invariant-loop-record
invariant-loop-record l = (records : List Fields) × HasGiven l.fn.bytes l.record-iterator records × AreRowsIn l.form records l.rows.items
    × (l.number ≡ length records)
