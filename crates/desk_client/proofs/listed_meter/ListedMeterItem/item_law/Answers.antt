use Rattle.desk_client.proofs.RecordLemmas.{in_one_way, listed_meter_read}
use Rattle.desk_client.proofs.listed_meter.ListedMeterItem.item_law.Goals as goal

pub returns : goal.returns
returns c = in_one_way c.columns_law.ensures listed_meter_read
