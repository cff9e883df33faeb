use Rattle.desk_client.proofs.RecordLemmas.{found_whole, none_whole, sale_read}
use Rattle.desk_client.proofs.sale.read_sale.Goals as goal

pub returns-in-Some : goal.returns-in-Some
returns-in-Some c =
    found_whole c.columns_law.ensures sale_read c.args.text.now c.in-Some.columns c.in-Some.ensures.0 c.in-Some.ensures.1
    c.sale_of.result c.sale_of.ensures

pub returns-in-None : goal.returns-in-None
returns-in-None c = none_whole c.columns_law.ensures sale_read c.args.text.now c.in-None.ensures
