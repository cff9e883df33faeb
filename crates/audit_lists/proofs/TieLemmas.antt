-- Rules in their order: several lists of them one after another, and what is found of the first that
-- is not kept.
use Rattle.std.proofs.Common.{List, [], ◌∷◌, ◌++◌, inl, inr}
use Rattle.audit_rows.specs.declared.finding.Finding.{Finding}
use Rattle.audit_lists.specs.Ties.{AreKept, FindsFirst, Says, Tie}
use Rattle.audit_lists.specs.declared.fault.OfficeFault.{OfficeFault}
use Rattle.audit_lists.specs.declared.fault.OfficeFault.TheVariants as fault

-- the rules of two lists are kept, and each of both
pub kept_both : (first rest : List Tie) → AreKept first → AreKept rest → AreKept (first ++ rest)
kept_both [] rest kept more = more
kept_both (tie ∷ first) rest kept more = (kept.0, kept_both first rest kept.1 more)

-- where the rules of both lists are kept, so are those of each
pub kept_parts : (first rest : List Tie) → AreKept (first ++ rest) → AreKept first × AreKept rest
kept_parts [] rest kept = (tt, kept)
kept_parts (tie ∷ first) rest kept = let parts = kept_parts first rest kept.1 in ((kept.0, parts.0), parts.1)

-- what is found of the first list, and of the second where the first is kept
finds_left : (first rest : List Tie) (f : Finding) → FindsFirst first f → FindsFirst (first ++ rest) f
finds_left [] rest f found = absurd found
finds_left (tie ∷ first) rest f (inl here) = inl here
finds_left (tie ∷ first) rest f (inr (kept, found)) = inr (kept, finds_left first rest f found)

finds_right : (first rest : List Tie) (f : Finding) → AreKept first → FindsFirst rest f → FindsFirst (first ++ rest) f
finds_right [] rest f kept found = found
finds_right (tie ∷ first) rest f kept found = inr (kept.0, finds_right first rest f kept.1 found)

-- what a fault says of the first list it says of both
pub says_left : (first rest : List Tie) (f : OfficeFault) → Says (FindsFirst first) f → Says (FindsFirst (first ++ rest)) f
says_left first rest (fault.Found f) found = finds_left first rest f found
says_left first rest fault.Memory found = tt

-- what it says of the second it says of both, where the first is kept
pub says_right : (first rest : List Tie) (f : OfficeFault) → AreKept first → Says (FindsFirst rest) f → Says (FindsFirst (first ++ rest)) f
says_right first rest (fault.Found f) kept found = finds_right first rest f kept found
says_right first rest fault.Memory kept found = tt

-- where there is a finding, not all are kept
pub finds_broken : (ties : List Tie) (f : Finding) → FindsFirst ties f → AreKept ties → ⊥
finds_broken [] f found kept = found
finds_broken (tie ∷ ties) f (inl (place, row, first, named)) kept = first.breaks (kept.0 place row first.there)
finds_broken (tie ∷ ties) f (inr (_, found)) kept = finds_broken ties f found kept.1
