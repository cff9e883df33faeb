use Rattle.std.proofs.Common.{◌++◌, ◌∷◌, ◌∙◌, ap, map}
use Rattle.audit_rows.specs.declared.seen.Seen.TheVariants.{Whole}
use Rattle.audit_rows.proofs.source.made_of.Goals as goal

pub returns-in-False : goal.returns-in-False
returns-in-False g c = (
  c.all.records.items,
  c.next.new.self.rest.items,
  c.all.invariant ∙ ap (λ l. map Whole c.all.records.items ++ l) (c.in-Some.ensures.steps.0 ∙ ap (λ s. s ∷ c.next.new.self.rest.items) c.in-False.is),
)
