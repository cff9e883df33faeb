-- The Luhn sum of a text, from the right on.
use Rattle.std.proofs.Common.{◌≡◌, ℕ, ◌+◌, List, [], ◌∷◌, ◌++◌, length, get_or, take, reverse, sym, ◌∙◌, ap, arith}
use Rattle.std.proofs.lemmas.List.{append_assoc, reverse-append, take_all, take_more}
use Rattle.std.specs.Char.{digit_value}
use Rattle.office_rules.specs.Name.{doubled, luhn_sum}

-- a text of two bytes and more ends in its last two
two_last : (ds : List ℕ) (n : ℕ) → length ds ≡ n + 2 → ds ≡ take n ds ++ (get_or ds n 0 ∷ get_or ds (n + 1) 0 ∷ [])
two_last ds n long =
    sym (take_all (n + 1 + 1) ds (omega arith))
    ∙ take_more ds (n + 1) 0 (omega arith)
    ∙ ap (λ (l : List ℕ). l ++ get_or ds (n + 1) 0 ∷ []) (take_more ds n 0 (omega arith))
    ∙ append_assoc (take n ds) (get_or ds n 0 ∷ []) (get_or ds (n + 1) 0 ∷ [])

-- the last two digits, and the sum of those before them
pub luhn_sum-two_last : (ds : List ℕ) (n k : ℕ) → length ds ≡ n + 2 → k ≡ n + 1
    → luhn_sum (reverse ds) ≡ digit_value (get_or ds k 0) + doubled (digit_value (get_or ds n 0)) + luhn_sum (reverse (take n ds))
luhn_sum-two_last ds n k long next =
    rw next (
    ap (λ (l : List ℕ). luhn_sum (reverse l)) (two_last ds n long)
    ∙ ap luhn_sum (reverse-append (take n ds) (get_or ds n 0 ∷ get_or ds (n + 1) 0 ∷ [])))
