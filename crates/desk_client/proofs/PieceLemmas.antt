-- A text that is written piece by piece.
use Rattle.std.proofs.Common.{◌≡◌, ◌∙◌, List, ℕ, [], ◌∷◌, ◌++◌, append_assoc}
use Rattle.httparse.proofs.GrammarLemmas.{cons-append}

-- four pieces, each put behind those before it
pub four_pieces : (t a b c d t1 t2 t3 t4 : List ℕ) → t1 ≡ t ++ a → t2 ≡ t1 ++ b → t3 ≡ t2 ++ c → t4 ≡ t3 ++ d
    → t4 ≡ t ++ (a ++ (b ++ (c ++ d)))
four_pieces t a b c d t1 t2 t3 t4 e1 e2 e3 e4 = rw (e4, e3, e2, e1) (simp append_assoc)

sized : (t c d b : List ℕ) → t ++ (c ++ (d ++ ((13 ∷ 10 ∷ 13 ∷ 10 ∷ []) ++ b))) ≡ t ++ ((c ++ (d ++ 13 ∷ 10 ∷ [])) ++ (13 ∷ 10 ∷ b))
sized t c d b = simp (append_assoc, cons-append)

-- a line, an empty one and what follows them
pub sized_pieces : (t c d b t1 t2 t3 t4 : List ℕ) → t1 ≡ t ++ c → t2 ≡ t1 ++ d → t3 ≡ t2 ++ (13 ∷ 10 ∷ 13 ∷ 10 ∷ []) → t4 ≡ t3 ++ b
    → t4 ≡ t ++ ((c ++ (d ++ 13 ∷ 10 ∷ [])) ++ (13 ∷ 10 ∷ b))
sized_pieces t c d b t1 t2 t3 t4 e1 e2 e3 e4 = four_pieces t c d (13 ∷ 10 ∷ 13 ∷ 10 ∷ []) b t1 t2 t3 t4 e1 e2 e3 e4 ∙ sized t c d b
