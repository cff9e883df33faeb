use Rattle.std.proofs.Common.{length}
use Rattle.desk_commands.proofs.page_order.+tariffs_rise.Given as goal

abbrev pub decreases-tariffs_rise : goal.decreases-tariffs_rise
decreases-tariffs_rise l = length l.tariffs.now
