use Rattle.desk_messages.proofs.RouteLemmas.{names_others, names_unfound}
use Rattle.desk_messages.proofs.routes.Routes.named_by.Goals as goal

pub returns-in-None : goal.returns-in-None
returns-in-None c = names_unfound c.args.target.now c.in-None.ensures

pub returns-in-None-values_in : goal.returns-in-None-values_in
returns-in-None-values_in c = names_others c.args.target.now c.in-Some.kind c.in-Some.ensures c.in-None-values_in.ensures
