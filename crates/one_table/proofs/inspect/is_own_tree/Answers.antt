use Rattle.std.proofs.Common.{rules}
use Rattle.one_table.proofs.StandingLemmas.{own_tree_of, no_own_tree}
use Rattle.one_table.proofs.inspect.is_own_tree.Goals as goal

pub returns-then-tree-lt-TREES : goal.returns-then-tree-lt-TREES
returns-then-tree-lt-TREES c =
    let own = own_tree_of c.args.schema.now c.args.tree c.in-Some.first.now c.args.table.now (search rules) c.if-tree-lt-TREES.true in
    let alike = c.is_table.ensures in
    (λ h. own.0 (alike.0 h), λ h. alike.1 (own.1 h))

pub returns-in-None : goal.returns-in-None
returns-in-None c = (λ h. absurd (search rules), λ h. absurd (no_own_tree c.args.schema.now c.args.tree c.args.table.now (search rules) h))
