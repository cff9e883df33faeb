-- Lists of words, each of which says a value.
use Rattle.std.proofs.Common.{ℕ, zero, suc, ◌<◌, List, [], ◌∷◌, ◌++◌, length, get_or, map, take, refl, arith}
use Rattle.std.specs.Borrow.{Bor}
use Rattle.sts_fields.specs.Text.{Text}
use Rattle.command_line.specs.Values.{SayEach, SaysText}

module _ {V : Type 0} (Says : Text → V → Type 0) where
  -- one more word, with its value
  pub SayEach-more : (words : List (Bor Text)) (vs : List V) (i : ℕ) (d : Bor Text) (v : V) → i < length words
      → SayEach Says (map (λ w. w.now) (take i words)) vs
      → Says (get_or words i d).now v → SayEach Says (map (λ w. w.now) (take (suc i) words)) (vs ++ v ∷ [])
  SayEach-more [] vs i d v within each says = absurd (omega arith)
  SayEach-more (w ∷ words) [] zero d v within each says = (says, tt)
  SayEach-more (w ∷ words) (u ∷ vs) zero d v within each says = absurd each
  SayEach-more (w ∷ words) [] (suc i) d v within each says = absurd each
  SayEach-more (w ∷ words) (u ∷ vs) (suc i) d v within each says = (each.0, SayEach-more words vs i d v (omega arith) each.1 says)

  -- the word at a place says some value
  pub SayEach-at : (words : List (Bor Text)) (vs : List V) (i : ℕ) (d : Bor Text) → SayEach Says (map (λ w. w.now) words) vs
      → i < length words → (v : V) × Says (get_or words i d).now v
  SayEach-at [] vs i d each within = absurd (omega arith)
  SayEach-at (w ∷ words) [] i d each within = absurd each
  SayEach-at (w ∷ words) (v ∷ vs) zero d each within = (v, each.0)
  SayEach-at (w ∷ words) (v ∷ vs) (suc i) d each within = SayEach-at words vs i d each.1 (omega arith)

-- words say themselves
pub SayEach-texts : (words : List (Bor Text)) → SayEach SaysText (map (λ w. w.now) words) words
SayEach-texts [] = tt
SayEach-texts (w ∷ words) = (refl, SayEach-texts words)
