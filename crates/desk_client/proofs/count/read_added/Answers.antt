use Rattle.std.proofs.Common.{◌∙◌, codes, refl, sym, arith}
use Rattle.desk_client.proofs.CellLemmas.{same_count}
use Rattle.desk_client.proofs.count.read_added.Goals as goal

pub returns-in_default : goal.returns-in_default
returns-in_default c = λ v h.
    let same = same_count (codes "added") c.in-Some.count v (omega (arith, c.in-Some.ensures.0.kept.0)) (omega (arith, h.0)) (sym c.in-Some.ensures.1 ∙ h.1) in
    omega (arith, same, h.0, c.if-count.false)

pub returns-in_default-2 : goal.returns-in_default-2
returns-in_default-2 c = λ v h.
    let none = rw c.in_default.is at c.read_whole.ensures in
    none (v, tt) (record { kept = (omega (arith, h.0), tt); named = refl }, h.1)
