use Rattle.std.proofs.Common.{Some}
use Rattle.desk_client.proofs.RecordLemmas.{found_whole, meter_read, none_whole}
use Rattle.desk_client.proofs.meter.read_meter.Goals as goal

pub returns-in-Some : goal.returns-in-Some
returns-in-Some c =
    found_whole c.columns_law.ensures meter_read c.args.text.now c.in-Some.columns c.in-Some.ensures.0 c.in-Some.ensures.1
    (Some c.summary_of.result) (tt, c.summary_of.ensures)

pub returns-in-None : goal.returns-in-None
returns-in-None c = none_whole c.columns_law.ensures meter_read c.args.text.now c.in-None.ensures
