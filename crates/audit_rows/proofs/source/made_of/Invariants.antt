use Rattle.std.proofs.Common.{◌≡◌, ◌++◌, map}
use Rattle.audit_rows.specs.declared.seen.Seen.TheVariants.{Whole}
use Rattle.audit_rows.proofs.source.made_of.Given as goal

abbrev pub invariant-all : goal.invariant-all
invariant-all g l = l.fn.all.items ≡ map Whole l.records.items ++ l.seen-iterator.rest.items
