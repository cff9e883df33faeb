use Rattle.std.proofs.Common.{length}
use Rattle.desk_commands.proofs.page_order.+shifts_rise.Given as goal

abbrev pub decreases-shifts_rise : goal.decreases-shifts_rise
decreases-shifts_rise l = length l.shifts.now
