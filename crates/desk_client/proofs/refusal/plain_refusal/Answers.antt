use Rattle.desk_client.proofs.RecordLemmas.{found_whole, none_whole}
use Rattle.desk_client.proofs.RefusalLemmas.{refusal_read}
use Rattle.desk_client.proofs.refusal.plain_refusal.Goals as goal

pub returns-in-Some : goal.returns-in-Some
returns-in-Some c =
    found_whole c.columns_law.ensures refusal_read c.args.text.now c.in-Some.columns c.in-Some.ensures.0 c.in-Some.ensures.1
    c.refusal_of.result c.refusal_of.ensures

pub returns-in-None : goal.returns-in-None
returns-in-None c = none_whole c.columns_law.ensures refusal_read c.args.text.now c.in-None.ensures
