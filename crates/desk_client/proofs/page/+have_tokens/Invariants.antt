use Rattle.std.proofs.Common.{length}
use Rattle.desk_client.proofs.page.+have_tokens.Given as goal

abbrev pub decreases-have_tokens : goal.decreases-have_tokens
decreases-have_tokens l = length l.sales.now
