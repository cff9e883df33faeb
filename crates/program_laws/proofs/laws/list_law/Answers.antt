use Rattle.program_laws.proofs.KeyedLemmas.{whole_meters, whole_tariffs}
use Rattle.program_laws.proofs.WholeLemmas.{whole_sales, whole_shifts}
use Rattle.program_laws.proofs.laws.list_law.Goals as goal

pub returns-clause-tariffs : goal.returns-clause-tariffs
returns-clause-tariffs c = whole_tariffs

pub returns-clause-meters : goal.returns-clause-meters
returns-clause-meters c = whole_meters

pub returns-clause-shifts : goal.returns-clause-shifts
returns-clause-shifts c = whole_shifts

pub returns-clause-sales : goal.returns-clause-sales
returns-clause-sales c = whole_sales c.export_law.ensures.pages
