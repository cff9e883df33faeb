use Rattle.desk_client.proofs.TariffItemLemmas.{tariff_one_way}
use Rattle.desk_client.proofs.tariff_items.ListedTariffItem.item_law.Goals as goal

pub returns : goal.returns
returns c = tariff_one_way c.item_law.ensures
