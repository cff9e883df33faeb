use Rattle.audit_lists.specs.Keys.{ArePlaces, IsNew}
use Rattle.audit_lists.specs.Ties.{EachBelow}
use Rattle.audit_lists.proofs.places.places_of.Given as goal

abbrev pub invariant-rows : goal.invariant-rows
invariant-rows g l = record {
  apart : EachBelow (IsNew g.K.KeyOf.key l.rows) l.rows l.at;
  places : ArePlaces g.K.KeyOf.key l.places l.rows l.at;
}
