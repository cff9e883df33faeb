use Rattle.office_commands.proofs.LostLemmas.{holds_what_is_left}
use Rattle.office_commands.proofs.office.reopening.lost_law.Goals as goal

pub returns : goal.returns
returns g c = holds_what_is_left {g = g.D.Disk} g.met.D.Disk.seen_may_stay
