use Rattle.std.proofs.Common.{refl}
use Rattle.papers.proofs.FieldLemmas.{field-or}
use Rattle.papers.proofs.record.field.Goals as goal

pub returns : goal.returns
returns c = rw c.unwrap_or.ensures (field-or c.get.result _ _ c.args.place c.get.ensures.value refl)
