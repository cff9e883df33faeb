-- A text that is put into an empty room has zeros behind it.
use Rattle.std.proofs.Common.{ℕ, ◌-◌, ◌≤◌, ◌++◌, ◌+◌, List, length, drop, replicate, refl, ◌∙◌, ap, arith}
use Rattle.std.proofs.lemmas.List.{drop-replicate, drop_at, length-append, length-replicate}
use Rattle.office_rules.specs.Name.ShortText.{IsPadded}

-- a text that fits, put at the start of a room of zeros, has just zeros behind it
pub put_in_room : (n : ℕ) (text : List ℕ) → length text ≤ n → IsPadded n (length text) (text ++ drop (length text) (replicate n 0))
put_in_room n text fits =
    let rest = drop-replicate (length text) n 0 in
    record {
      room = length-append text (drop (length text) (replicate n 0)) ∙ ap (λ (xs : List ℕ). length text + length xs) rest
          ∙ omega (arith, length-replicate {A = ℕ} (n - length text) 0);
      within = fits;
      zeros = drop_at text (drop (length text) (replicate n 0)) (length text) refl ∙ rest;
    }
