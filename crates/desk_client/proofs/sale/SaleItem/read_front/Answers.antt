use Rattle.desk_client.proofs.RecordLemmas.{none_front, other_front, sale_read, there_front}
use Rattle.desk_client.proofs.sale.SaleItem.read_front.Goals as goal

pub returns-in_default : goal.returns-in_default
returns-in_default c = none_front c.columns_law.ensures sale_read c.args.text.now c.in_default.ensures

pub returns-in-Some-sale_of : goal.returns-in-Some-sale_of
returns-in-Some-sale_of c =
    there_front c.columns_law.ensures sale_read c.args.text.now c.in-Some.rest.now c.in-Some.columns c.in-Some.ensures.0 c.in-Some.ensures.1
    c.in-Some-sale_of.sale c.in-Some-sale_of.ensures.0 c.in-Some-sale_of.ensures.1

pub returns-in-None : goal.returns-in-None
returns-in-None c =
    other_front c.columns_law.ensures sale_read c.args.text.now c.in-Some.rest.now c.in-Some.columns c.in-Some.ensures.0 c.in-Some.ensures.1
    c.in-None.ensures
