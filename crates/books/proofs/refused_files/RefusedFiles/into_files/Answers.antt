use Rattle.std.proofs.Common.{sym}
use Rattle.books.proofs.refused_files.RefusedFiles.into_files.Goals as goal

pub returns-in-Connected : goal.returns-in-Connected
returns-in-Connected g c = rw c.in-Connected.is (
  c.into_store.result,
  sym c.close.ensures,
  record { quiet = c.into_store.ensures.quiet; sound = c.into_store.ensures.sound },
)
