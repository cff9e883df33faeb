use Rattle.desk_client.proofs.RecordLemmas.{found_whole, none_whole, quote_read}
use Rattle.desk_client.proofs.quote.read_quote.Goals as goal

pub returns-in-Some : goal.returns-in-Some
returns-in-Some c =
    found_whole c.columns_law.ensures quote_read c.args.text.now c.in-Some.columns c.in-Some.ensures.0 c.in-Some.ensures.1
    c.quote_of.result c.quote_of.ensures

pub returns-in-None : goal.returns-in-None
returns-in-None c = none_whole c.columns_law.ensures quote_read c.args.text.now c.in-None.ensures
