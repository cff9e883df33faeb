use Rattle.books.specs.Keeps.{seen}
use Rattle.books.proofs.KnownLemmas.{kept_knowing, same_outside}
use Rattle.books.proofs.books.Books.with_write_failed.Goals as goal

pub returns-clause-same : goal.returns-clause-same
returns-clause-same g c = same_outside c.args.self c.args.write_failed _

pub returns-clause-keeps : goal.returns-clause-keeps
returns-clause-keeps g c life keeps = kept_knowing life (seen c.args.self) c.args.write_failed keeps
