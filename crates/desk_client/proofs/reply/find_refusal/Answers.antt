use Rattle.desk_client.proofs.HeadLemmas.{no_refusal}
use Rattle.desk_client.proofs.reply.find_refusal.Goals as goal

pub returns : goal.returns
returns c =
    no_refusal c.args.input.now c.in_default.ensures c.in_default-head_at.ensures c.in_default-head_at-2.ensures c.in_default-head_at-3.ensures
