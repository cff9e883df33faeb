use Rattle.std.proofs.Common.{sym}
use Rattle.books.proofs.AttemptLemmas.{moment_stays}
use Rattle.books.proofs.books.attempt.moment_after.Goals as goal

pub returns-in_default : goal.returns-in_default
returns-in_default c = sym (moment_stays c.args.edit.now c.args.last_moment c.in_default.not-AddSale)
