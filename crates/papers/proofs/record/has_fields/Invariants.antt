use Rattle.std.proofs.Common.{◌≡◌, ◌<◌, ℕ, [], get_or, map}
use Rattle.csv.specs.Records.{fields_of}
use Rattle.papers.proofs.record.has_fields.Given as goal

-- the fields so far are the ones that are wanted
abbrev pub invariant-loop-place : goal.invariant-loop-place
invariant-loop-place l = (k : ℕ) → k < l.place → get_or (fields_of l.raw) k [] ≡ get_or (map (λ f. f.now) l.fields) k []
