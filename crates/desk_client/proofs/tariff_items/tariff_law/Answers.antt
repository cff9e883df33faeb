use Rattle.desk_client.proofs.TariffLemmas.{plain_day}
use Rattle.desk_client.proofs.TariffPageLemmas.{one_day, one_steps, one_tariff}
use Rattle.desk_client.proofs.tariff_items.tariff_law.Goals as goal

pub returns : goal.returns
returns c =
    one_tariff c.item_law.ensures
    (one_day c.day_text_law.ensures.days c.day_law.ensures.one_read)
    (one_steps c.steps_text_law.ensures.each_list c.steps_text_law.ensures.one_list)
    (plain_day c.calendar_law.ensures.each_moment c.calendar_law.ensures.ranges)
