use Rattle.desk_client.proofs.TariffItemLemmas.{later_one_way}
use Rattle.desk_client.proofs.TariffLemmas.{plain_day}
use Rattle.desk_client.proofs.tariff_items.LaterStepsItem.item_law.Goals as goal

pub returns : goal.returns
returns c = later_one_way (plain_day c.calendar_law.ensures.each_moment c.calendar_law.ensures.ranges)
