use Rattle.std.specs.Prelude.{◌≡◌, All, length, map}
use Rattle.records.proofs.ItemLemmas.{led}
use Rattle.desk_client.proofs.items.read_items.Given as goal

-- the items so far, each with a comma behind it
abbrev pub invariant-items : goal.invariant-items
invariant-items g l = All g.T.Item.is_told l.items.items × (l.text ≡ led (map g.T.Item.text_of l.items.items) l.rest)

abbrev pub decreases-items : goal.decreases-items
decreases-items g l = length l.rest
