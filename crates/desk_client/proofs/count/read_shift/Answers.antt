use Rattle.std.proofs.Common.{refl}
use Rattle.desk_client.proofs.count.read_shift.Goals as goal

pub returns-in-None : goal.returns-in-None
returns-in-None c = λ v h. c.in-None.ensures (record { of = v }, tt) (record { kept = (h.0, tt); named = refl }, h.1)
