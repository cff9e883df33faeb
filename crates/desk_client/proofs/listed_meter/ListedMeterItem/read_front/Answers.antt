use Rattle.desk_client.proofs.RecordLemmas.{listed_meter_read, none_front, there_front}
use Rattle.desk_client.proofs.listed_meter.ListedMeterItem.read_front.Goals as goal

pub returns-in-Some : goal.returns-in-Some
returns-in-Some c =
    there_front c.columns_law.ensures listed_meter_read c.args.text.now c.in-Some.rest.now c.in-Some.columns c.in-Some.ensures.0 c.in-Some.ensures.1
    c.meter_of.result tt c.meter_of.ensures

pub returns-in-None : goal.returns-in-None
returns-in-None c = none_front c.columns_law.ensures listed_meter_read c.args.text.now c.in-None.ensures
