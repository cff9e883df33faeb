use Rattle.desk_messages.proofs.RouteLemmas.{names_nothing}
use Rattle.desk_messages.proofs.routes.Routes.route_of.Goals as goal

pub returns-in-None : goal.returns-in-None
returns-in-None c = names_nothing c.args.target.now c.in-None.ensures
