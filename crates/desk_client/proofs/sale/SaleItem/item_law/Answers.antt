use Rattle.desk_client.proofs.RecordLemmas.{in_one_way, sale_read}
use Rattle.desk_client.proofs.sale.SaleItem.item_law.Goals as goal

pub returns : goal.returns
returns c = in_one_way c.columns_law.ensures sale_read
