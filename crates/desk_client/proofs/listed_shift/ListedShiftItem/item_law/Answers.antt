use Rattle.desk_client.proofs.RecordLemmas.{in_one_way, listed_shift_read}
use Rattle.desk_client.proofs.listed_shift.ListedShiftItem.item_law.Goals as goal

pub returns : goal.returns
returns c = in_one_way c.columns_law.ensures listed_shift_read
