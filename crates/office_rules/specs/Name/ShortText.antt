-- A text kept in a fixed room: what stands behind it is 0.
use Rattle.std.specs.Prelude.{◌≡◌, ℕ, ◌-◌, ◌≤◌, ◌++◌, List, length, take, drop, replicate}
use Rattle.std.proofs.Common.{sym, ◌∙◌, ap, arith}
use Rattle.std.proofs.lemmas.List.{length-take-le, take-append-drop}

-- bytes is a text of len bytes in a room of n, with zeros behind it
pub record IsPadded (n len : ℕ) (bytes : List ℕ) : Type 0 where
  pub room : length bytes ≡ n
  pub within : len ≤ n
  pub zeros : drop len bytes ≡ replicate (n - len) 0

-- a text with zeros behind it
abbrev pub padded : ℕ → List ℕ → List ℕ
padded n text = text ++ replicate (n - length text) 0

pub length-text : (n len : ℕ) (bytes : List ℕ) → IsPadded n len bytes
    → length (take len bytes) ≡ len
length-text n len bytes p = length-take-le len bytes (omega (arith, p.room, p.within))

pub padded-text : (n len : ℕ) (bytes : List ℕ) → IsPadded n len bytes
    → padded n (take len bytes) ≡ bytes
padded-text n len bytes p =
    ap (λ (k : ℕ). take len bytes ++ replicate (n - k) 0) (length-text n len bytes p)
    ∙ ap (λ (xs : List ℕ). take len bytes ++ xs) (sym p.zeros) ∙ take-append-drop len bytes
