-- Books on files in memory, closed and opened again.
use Rattle.std.proofs.Common.{◌≡◌, ◌∙◌, ◌+◌, ℕ, Bool, false, List, [], length, ap, sym, subst, inl, refl}
use Rattle.std.specs.Prelude.{IsTrue}
use Rattle.std.proofs.Math.Logic.{∥∥₁_elim}
use native.Mathlib.Nat.{ℕ_set}
use Rattle.sqlite.specs.Closing.{HoldsAlone}
use Rattle.sqlite.specs.Effect.{Database, IsDatabase}
use Rattle.sqlite.specs.Files.{HoldsDatabase, IsNothing, file_state, image_of}
use Rattle.sqlite.specs.Held.{Held}
use Rattle.sqlite.specs.State.{HasCleanDisk, State}
use Rattle.sqlite_disk.specs.declared.Disk as disk
use Rattle.sqlite_disk.specs.declared.Files.{Files}
use Rattle.sqlite_pool.specs.Pool.{state as pool_state}
use Rattle.sqlite_pool.specs.declared.pool.Pool.{Pool}
use Rattle.sqlite_store.specs.declared.store.FileStore.{FileStore}
use Rattle.sqlite_trees.specs.Tree.{Trees}
use Rattle.sqlite_trees.specs.View.{doubt}
use Rattle.sqlite_wal.specs.Recovery.{Image}
use Rattle.sqlite_wal.specs.Reads.{AreClean}
use Rattle.sts_token.specs.Token.{BlockFunction}
use Rattle.office_rules.specs.Decision.Fold.{after}
use Rattle.office_rules.specs.Office.{Office}
use Rattle.office_rules.proofs.OfficeLemmas.RowLemmas.{both_true}
use Rattle.book_states.specs.Stores.{RecoversTo, StoreStandsFor}
use Rattle.vend_core.specs.Law.Life.{Life, present}
use Rattle.vend_core.specs.Law.LifeLaws.{opened}

no_doubt : (clean : Bool) → IsTrue clean → doubt clean ≡ 0
unfolding doubt
no_doubt clean is = ap doubt is

module _ {M : Type 0} {disk : disk.Ghosts M} (all : (it : M) → IsTrue (disk.is_clean it)) where
  pool_clean : (it : Pool M disk) → IsTrue (pool_state it).is_clean
  unfolding pool_state
  pool_clean it = both_true _ _ (all it.backing.pager.log.log) (all it.backing.pager.log.db)

  -- a connection to files that never lie has a clean disk
  pub clean_files : (conn : Held (FileStore M disk)) → HasCleanDisk (file_state conn)
  clean_files conn = no_doubt _ (pool_clean conn.store.pool)

-- files of no bytes hold nothing
pub no_bytes : (image : Image) → image.db ≡ [] → IsNothing image
no_bytes image none = inl (inl (ap length none))

-- an office that was just opened is the one that was opened
pub opened_present : (forward : BlockFunction) (o : Office) → present (opened forward o) ≡ o
unfolding after
opened_present forward o = refl

-- what an open connection in no transaction last committed stands for its office
pub commits : (s : State) (o : Office) → IsTrue s.is_open → IsDatabase s.now → s.now ≡ s.committed → StoreStandsFor s o
    → RecoversTo s.committed.trees o
commits s o is sound settled stands = (s.now, sound, ap (λ (db : Database). db.trees) (sym settled), stands.now is)

-- numbers of one office are one, however it was found
pub same_number : (image : Image) (db : Trees) (a b : ℕ) → HoldsAlone image db → (HoldsDatabase image db → b ≡ a) → b ≡ a
same_number image db a b held found = ∥∥₁_elim held.both (ℕ_set _ _) found
