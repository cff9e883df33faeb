-- Files in which no database was made yet have nothing to be found.
use Rattle.std.proofs.Common.{◌≡◌, ◌<◌, ◌≤◌, ℕ, true, false, List, [], length, take, slice_index, Option, Some, unwrap_or, sym, ap, inl, inr, ◌∙◌, arith, get_or-take}
use Rattle.std.proofs.lemmas.List.{length-take}
use Rattle.std.proofs.Math.Logic.{∥∥₁_elim}
use Rattle.sqlite_trees.specs.Tree.{Trees}
use Rattle.sqlite_pages.specs.PageMap.{PageMap}
use Rattle.sqlite_pool.specs.File.{IsSoundFile, header_in}
use Rattle.sqlite_pool.specs.Header.{first_page}
use Rattle.sqlite_pool.specs.Stored.{Adopts, sealed, stored_size, used_size}
use Rattle.sqlite_pool.specs.StoredLaws.{trimmed_some}
use Rattle.sqlite_pool.proofs.ProbeLemmas.{first_byte}
use Rattle.sqlite_wal.specs.Recovery.{Image}
use Rattle.sqlite_wal.proofs.AppendLemmas.{some_value}
use Rattle.sqlite_wal.proofs.CreateLemmas.{begun_is_not_blank}
use Rattle.sqlite.specs.Files.{AreFoundIn, IsEmpty, IsNothing}

module _ (size : ℕ) (image : Image) (pages : PageMap) (found : Adopts size image pages) (sound : IsSoundFile size pages) where
  -- the first page of a sound file begins with the S of SQLite, and is no file that is only begun
  pub is_made : ¬ IsNothing image
  is_made nothing =
      let (page, is) = some_value (found.stored 1) found.whole.first in
      let used : pages 1 ≡ Some (take size page) = ap (λ (p : PageMap). p 1) (sym found.shows) ∙ trimmed_some size _ 1 page is in
      let head : header_in pages ≡ take 100 (take size page) = ap (λ (o : Option (List ℕ)). take 100 (unwrap_or o [])) used in
      let magic = ap (take 16) (sym head) ∙ sound.header.0.magic in
      let long : 16 ≤ size = (let cuts = length-take size page in
      let more = length-take 100 (take size page) in
      let most = length-take 16 (take 100 (take size page)) in omega (arith, cuts, more, most, ap length magic)) in
      let begins : slice_index page 0 ≡ 83 = sym (get_or-take size page 0 0 (omega arith)) ∙ sym (get_or-take 100 (take size page) 0 0 (omega arith))
      ∙ sym (get_or-take 16 (take 100 (take size page)) 0 0 (omega arith)) ∙ ap (λ (b : List ℕ). slice_index b 0) magic in
      let never = λ (other : ℕ) (some : 0 < other). let gate = first_byte other some in
      begun_is_not_blank (sealed (first_page other)) page (stored_size size) image found.stored found.found is
      (found.whole.sized 1 page is) (omega arith) (begins ∙ sym gate) (λ none. let no = sym gate ∙ none in omega arith) in
      elim nothing [ inl plain ↦ never (used_size 4096 false) (omega arith) plain | inr summed ↦ never (used_size 4096 true) (omega arith) summed ]

-- trees that are found in files with no database are empty
pub found_nothing : (image : Image) (trees : Trees) → IsNothing image → AreFoundIn image trees → IsEmpty trees
found_nothing image trees nothing (inl some) = absurd (∥∥₁_elim some.4 (λ x y. absurd x) (λ ours. is_made some.0 image some.1 some.3 ours.file.sound nothing))
found_nothing image trees nothing (inr none) = none.1
