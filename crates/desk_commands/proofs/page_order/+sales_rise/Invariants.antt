use Rattle.std.proofs.Common.{length}
use Rattle.desk_commands.proofs.page_order.+sales_rise.Given as goal

abbrev pub decreases-sales_rise : goal.decreases-sales_rise
decreases-sales_rise l = length l.sales.now
