use Rattle.desk.proofs.AlongLemmas.{goes_along}
use Rattle.desk.proofs.along.desk_law.Goals as goal

pub returns : goal.returns
returns c old new xs served = goes_along old xs new served
