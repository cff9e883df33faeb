use Rattle.std.proofs.Common.{length}
use Rattle.desk_commands.proofs.page_order.+meters_rise.Given as goal

abbrev pub decreases-meters_rise : goal.decreases-meters_rise
decreases-meters_rise l = length l.meters.now
