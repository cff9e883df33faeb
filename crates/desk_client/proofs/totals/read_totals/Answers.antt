use Rattle.desk_client.proofs.RecordLemmas.{found_whole, none_whole, totals_read}
use Rattle.desk_client.proofs.totals.read_totals.Goals as goal

pub returns-in-Some : goal.returns-in-Some
returns-in-Some c =
    found_whole c.columns_law.ensures totals_read c.args.text.now c.in-Some.columns c.in-Some.ensures.0 c.in-Some.ensures.1
    c.totals_of.result c.totals_of.ensures

pub returns-in-None : goal.returns-in-None
returns-in-None c = none_whole c.columns_law.ensures totals_read c.args.text.now c.in-None.ensures
