use Rattle.papers.proofs.ExportLemmas.{export_of-append}
use Rattle.papers.proofs.laws.export_law.Goals as goal

pub returns : goal.returns
returns c = record { pages = export_of-append }
