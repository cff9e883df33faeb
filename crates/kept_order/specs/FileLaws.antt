-- All that a stop may leave of a store in files is in order.
use Rattle.std.proofs.Common.{◌≡◌, List, sym, ap, subst, ◌∙◌}
use Rattle.std.proofs.Math.Logic.{∥∥₁_elim}
use Rattle.sqlite_catalog.specs.Listing.{IsSound}
use Rattle.sqlite_disk.specs.declared.Disk.{Ghosts}
use Rattle.sqlite_pages.specs.PageMap.{PageMap}
use Rattle.sqlite_pool.specs.File.{version_in}
use Rattle.sqlite_pool.specs.StoredLaws.{recovers_once}
use Rattle.sqlite_pool.proofs.PoolLemmas.{pages_from}
use Rattle.sqlite_schema.specs.declared.schema.Schema.{Schema}
use Rattle.sqlite_store.specs.FileStore.{recovers, schema_in, state}
use Rattle.sqlite_store.specs.Listed.{catalog_rows, is_listed}
use Rattle.sqlite_store.specs.Listing.{IsOurs, all_reals, all_shapes, listed_from}
use Rattle.sqlite_store.specs.declared.catalog.Wanted.{Wanted}
use Rattle.sqlite_store.specs.declared.store.FileStore.{FileStore}
use Rattle.sqlite_store.proofs.ListingLemmas.{all_ordered}
use Rattle.sqlite_trees.specs.Objects.{IsListed, catalog_tree}
use Rattle.sqlite_trees.specs.Props.{IsOrdered-prop}
use Rattle.sqlite_trees.specs.Tree.{Trees}
use Rattle.sqlite_trees.specs.View.{IsOrdered}
use Rattle.kept_order.specs.InOrder.{AreTreesInOrder}
use Rattle.kept_order.specs.ListedLaws.{listed_in_order}

module _ {D : Type 0} {g : Ghosts D} (it : FileStore D g) (trees : Trees) where
  -- the pages are a file of the store's objects
  abbrev IsOfStore : PageMap → Type 0
  IsOfStore pages = IsOurs (state it).page_size it.is_numbered (schema_in it pages) pages

  module _ (may : recovers it trees) where
    -- the objects of the file that a stop leaves
    abbrev wanted : List Wanted
    wanted = schema_in it may.1

    -- recovery finds one file, and the store keeps each that a stop may leave a database
    ordered : IsOrdered (all_shapes wanted) trees
    ordered = ∥∥₁_elim it.safe (IsOrdered-prop _ _) (λ all.
        let found = all may.0 may.2 in
        let same : found.0 ≡ may.1 =
        pages_from found.0 may.1 may.3 (recovers_once _ may.0 _ _ found.1) in
        ∥∥₁_elim found.2 (IsOrdered-prop _ _) (λ ours.
        subst (IsOrdered (all_shapes wanted)) (sym may.4)
        (all_ordered (subst IsOfStore same ours).file.db (version_in may.1))))

    listed : IsListed (trees catalog_tree) (all_shapes wanted) (all_reals wanted)
    listed = subst (λ rows. IsListed rows (all_shapes wanted) (all_reals wanted)) (sym rows_are)
        (is_listed wanted)
      where
        rows_are : trees catalog_tree ≡ listed_from 0 wanted
        rows_are = ap (λ (t : Trees). t catalog_tree) may.4 ∙ catalog_rows _ wanted _

  pub file_in_order : (s : Schema) → recovers it trees → IsSound s trees → AreTreesInOrder s trees
  file_in_order s may = listed_in_order _ _ s trees (listed may) (ordered may)
