use Rattle.std.proofs.Common.{refl}
use Rattle.tariff.proofs.PiecesLemmas.{one_list}
use Rattle.tariff.proofs.StepsLemmas.{writable_from_steps}
use Rattle.tariff.proofs.steps.steps_text_law.Goals as goal

pub returns-clause-one_list : goal.returns-clause-one_list
returns-clause-one_list c = one_list

pub returns-clause-each_list : goal.returns-clause-each_list
returns-clause-each_list c =
    λ steps s. record { some = s.count.0; writable = writable_from_steps steps s; written = refl }
