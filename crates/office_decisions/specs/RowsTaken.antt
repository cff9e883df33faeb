-- What stands under the names of the rows that an import has taken so far.
use Rattle.std.specs.Prelude.{ℕ, List, Option}
use Rattle.std.specs.BTreeMap.{BTreeMap, get_by}
use Rattle.std.specs.Cmp.Lexicographic.{slice_cmp}
use Rattle.std.specs.Option.{option_map}
use Rattle.std.specs.Ordering.{nat_cmp, ordering_then}
use denote.Ref.{Bor}

-- what a map has under a name: its keys and values are lent by the rows
abbrev pub under : {A : Type 0} → BTreeMap (Bor (List ℕ)) (Bor A) → List ℕ → Option A
under map name = option_map (λ x. x.now) (get_by (λ k. slice_cmp nat_cmp name k.now) map)

-- the same under a name and a day
abbrev pub dated_under : {A : Type 0} → BTreeMap (Bor (List ℕ) × ℕ) (Bor A) → List ℕ → ℕ → Option A
dated_under map name day =
    option_map (λ x. x.now)
    (get_by (λ k. ordering_then (slice_cmp nat_cmp name k.0.now) (nat_cmp day k.1)) map)
