use Rattle.audit_lists.specs.Keys.{ArePlaces}
use Rattle.audit_lists.proofs.places.all_places_of.Given as goal

abbrev pub invariant-rows : goal.invariant-rows
invariant-rows g l = ArePlaces g.K.KeyOf.key l.places l.rows l.at
