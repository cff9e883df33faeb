use Rattle.audit_lists.specs.Keys.{HasKey}
use Rattle.audit_lists.specs.Ties.{EachBelow}
use Rattle.audit_lists.proofs.places.first_astray.Given as goal

abbrev pub invariant-rows : goal.invariant-rows
invariant-rows g l = EachBelow (λ i row. HasKey g.N.KeyOf.key l.others (g.K.KeyOf.key row)) l.rows l.at
