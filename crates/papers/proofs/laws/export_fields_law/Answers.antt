use Rattle.papers.proofs.PlainLemmas.{sale-fields, sale-unquoted}
use Rattle.papers.proofs.laws.export_fields_law.Goals as goal

pub returns : goal.returns
returns c = record { plain = sale-fields c.amount_law.ensures.greatest; unquoted = sale-unquoted c.amount_law.ensures.greatest }
