use Rattle.desk_client.proofs.RefusalLemmas.{read_of_either}
use Rattle.desk_client.proofs.told.read_refusal.Goals as goal

pub returns-in-None : goal.returns-in-None
returns-in-None c = read_of_either c.args.text.now c.plain_refusal.result c.in-None.ensures c.plain_refusal.ensures
