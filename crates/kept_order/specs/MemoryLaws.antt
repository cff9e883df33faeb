-- The last commit of a store in memory is in order.
use Rattle.std.proofs.Common.{◌≡◌, ◌==◌, ℕ, zero, suc, true, false, if◌then◌else◌, List, [], ◌∷◌}
use Rattle.std.proofs.Common.{map, refl, sym, subst}
use Rattle.std.proofs.Math.Logic.{∥∥₁_elim}
use Rattle.sqlite_catalog.specs.Listing.{IsSound}
use Rattle.sqlite_schema.specs.declared.schema.Schema.{Schema}
use Rattle.sqlite_trees.specs.declared.memory.MemStore.{MemStore}
use Rattle.sqlite_trees.specs.declared.memory.tree.Tree.{Tree}
use Rattle.sqlite_trees.specs.declared.store.Shape.TheVariants.{Table}
use Rattle.sqlite_trees.specs.Listing.{objects_are_listed, objects_are_ordered}
use Rattle.sqlite_trees.specs.Memory.{all_shapes, forest, heading, memory_view, objects_of, rows_of}
use Rattle.sqlite_trees.specs.Memory.{shape_of, shapes}
use Rattle.sqlite_trees.specs.Objects.{catalog_tree, version_rows, version_tree, with_version}
use Rattle.sqlite_trees.specs.Props.{IsShaped-prop}
use Rattle.sqlite_trees.specs.Tree.{Trees}
use Rattle.sqlite_trees.specs.View.{IsOrdered, IsShaped}
use Rattle.kept_order.specs.InOrder.{AreTreesInOrder}
use Rattle.kept_order.specs.ListedLaws.{listed_in_order}

-- each tree keeps its rows in the order of its shape
each_is_ordered : (kept : List Tree) → IsOrdered (shape_of kept) (rows_of kept)
each_is_ordered [] t = refl
each_is_ordered (tree ∷ kept) zero =
    ∥∥₁_elim tree.ordered (IsShaped-prop tree.shape tree.rows.items) (λ shaped. shaped)
each_is_ordered (tree ∷ kept) (suc t) = each_is_ordered kept t

module _ (last : List Tree) (version : ℕ) where
  -- so does the list of the trees, which is a tree too
  with_list_ordered : IsOrdered (shapes last) (forest last)
  with_list_ordered t = elim (t == catalog_tree) as (λ b.
      IsShaped (if b then Table else shape_of last t)
      (if b then objects_of last else rows_of last t))
      [ true ↦ objects_are_ordered (map heading last) 0 | false ↦ each_is_ordered last t ]

  all_ordered : IsOrdered (all_shapes last) (with_version (forest last) version)
  all_ordered t = elim (t == version_tree) as (λ b.
      IsShaped (if b then Table else shapes last t)
      (if b then version_rows version else forest last t))
      [ true ↦ ((tt, tt), (refl, tt)) | false ↦ with_list_ordered t ]

pub memory_in_order : (s : MemStore) (trees : Trees) (schema : Schema)
    → trees ≡ (memory_view s).committed → IsSound schema trees → AreTreesInOrder schema trees
memory_in_order s trees schema same sound =
    let last = s.base.items in
    let listed = objects_are_listed (map heading last) in
    subst (AreTreesInOrder schema) (sym same) (listed_in_order _ _ schema (memory_view s).committed
    listed (all_ordered last s.base_version) (subst (IsSound schema) same sound))
