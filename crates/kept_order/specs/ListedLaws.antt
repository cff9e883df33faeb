-- Trees that are in order by the shapes that they list have the rows of each table in order.
use Rattle.std.proofs.Common.{◌≡◌, ℕ, List, subst}
use Rattle.sqlite_catalog.specs.Listing.{IsSound}
use Rattle.sqlite_catalog.proofs.LayoutLemmas.{table_shape}
use Rattle.sqlite_rules.proofs.ListLemmas.{all_from}
use Rattle.sqlite_schema.specs.declared.schema.Schema.{Schema}
use Rattle.sqlite_trees.specs.declared.store.Shape.{Shape}
use Rattle.sqlite_trees.specs.declared.store.Shape.TheVariants as shape
use Rattle.sqlite_trees.specs.Objects.{IsListed, catalog_tree}
use Rattle.sqlite_trees.specs.Tree.{Trees}
use Rattle.sqlite_trees.specs.View.{IsOrdered, IsShaped}
use Rattle.sqlite_value.specs.Order.{Row}
use Rattle.one_table.specs.Numbered.{IsInOrder}
use Rattle.kept_order.specs.InOrder.{AreTreesInOrder}

-- the rows of a tree that has the shape of a table
shaped_in_order : (rows : List Row) (found : Shape) → found ≡ shape.Table
    → IsShaped found rows → IsInOrder rows
shaped_in_order rows found is shaped =
    let both = subst (λ k. IsShaped k rows) is shaped in
    record { rises = both.0; are_numbers = both.1 }

module _ (shapes : ℕ → Shape) (reals : ℕ → ℕ) (s : Schema) (trees : Trees) where
  pub listed_in_order : IsListed (trees catalog_tree) shapes reals → IsOrdered shapes trees
      → IsSound s trees → AreTreesInOrder s trees
  listed_in_order listed ordered sound =
      let objects = shaped_in_order _ _ listed.itself.0 (ordered catalog_tree) in
      all_from (λ t. IsInOrder (trees t.tree)) s.tables (λ t among.
      let is = (table_shape listed objects.rises sound.lists.listed t among).0 in
      shaped_in_order _ _ is (ordered t.tree))
