-- What commands printed.
use Rattle.std.specs.Prelude.{◌≡◌, ℕ, false, List, [], Option, Some}
use Rattle.sqlite.specs.Effect.{Database}
use Rattle.sqlite_wal.specs.Recovery.{Image}
use Rattle.audit.specs.Audited.{IsSound}
use Rattle.audit.specs.declared.audited.Audited.{Audited}
use Rattle.book_tables.specs.Holds.{StandsFor}
use Rattle.books.specs.Path.{MayFind}
use Rattle.sts_token.specs.Token.{BlockFunction}
use Rattle.vend_ports.specs.print.Told.{Outputs}

-- A command did this, and printed this text to an output that was empty: no write of it failed.
pub record HasPrinted (Did : Outputs → Type 0) (printed : List ℕ) : Type 0 where
  pub o : Outputs
  pub did : Did o
  pub before : o.old.held ≡ Some []
  pub sound : o.old.failed ≡ false
  pub after : o.new.held ≡ Some printed
  pub whole : o.new.failed ≡ false

-- an opening of the files may find a database that stands for an office of these counts, to which
-- requests may lead, and whose tokens the transform wrote that was given, where one was
pub record IsCounted (image : Image) (given : Option BlockFunction) (audited : Audited)
    : Type 0 where
  pub db : Database
  pub found : MayFind image db.trees
  pub sound : IsSound given db audited
  pub stands : StandsFor db sound.office
