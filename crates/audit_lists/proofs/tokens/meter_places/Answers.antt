use Rattle.std.proofs.Common.{List, length, subst}
use Rattle.book_tables.specs.declared.reading.pages.MeterRow.{MeterRow}
use Rattle.audit_lists.specs.Keys.{ArePlaces}
use Rattle.audit_lists.specs.RowKeys.{meter_key}
use Rattle.audit_lists.proofs.tokens.meter_places.Goals as goal

pub returns : goal.returns
returns c = subst (λ (l : List MeterRow). ArePlaces meter_key c.in_ok-places.places l (length l)) c.deref.ensures.value c.in_ok-places.ensures
