use Rattle.desk_client.proofs.RecordLemmas.{none_front, other_front, listed_shift_read, there_front}
use Rattle.desk_client.proofs.listed_shift.ListedShiftItem.read_front.Goals as goal

pub returns-in_default : goal.returns-in_default
returns-in_default c = none_front c.columns_law.ensures listed_shift_read c.args.text.now c.in_default.ensures

pub returns-in-Some-shift_of : goal.returns-in-Some-shift_of
returns-in-Some-shift_of c =
    there_front c.columns_law.ensures listed_shift_read c.args.text.now c.in-Some.rest.now c.in-Some.columns c.in-Some.ensures.0 c.in-Some.ensures.1
    c.in-Some-shift_of.shift c.in-Some-shift_of.ensures.0 c.in-Some-shift_of.ensures.1

pub returns-in-None : goal.returns-in-None
returns-in-None c =
    other_front c.columns_law.ensures listed_shift_read c.args.text.now c.in-Some.rest.now c.in-Some.columns c.in-Some.ensures.0 c.in-Some.ensures.1
    c.in-None.ensures
