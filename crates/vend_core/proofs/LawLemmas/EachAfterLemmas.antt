-- Rows that are each so after the rows before them.
use Rattle.std.proofs.Common.{◌≡◌, ℕ, ◌<◌, inl, inr, List, [], ◌∷◌, ◌++◌, length, take, Some, sym, ◌∙◌, ap, subst, arith}
use Rattle.std.specs.Prelude.{Contains, slice_get}
use Rattle.std.proofs.Math.Seq.{take-append_seam}
use Rattle.std.proofs.lemmas.Bool.{cases_lt}
use Rattle.std.proofs.lemmas.List.{get_or_append_left, get_or_push, length_push, take-append-le}
use Rattle.std.proofs.lemmas.Option.{get_or_from_slice_get, slice_get-get_or, slice_get_within}
use Rattle.vend_core.specs.Law.Reached.{EachAfter}

-- of no rows each is so after those before it
pub each_after_none : {X : Type 0} (P : List X → X → Type 0) → EachAfter P []
each_after_none P i row at = cc

-- one more row, after all others
pub each_after_push : {X : Type 0} (P : List X → X → Type 0) (xs : List X) (x : X)
    → EachAfter P xs → P xs x → EachAfter P (xs ++ x ∷ [])
each_after_push P xs x each new i row at =
    let within : i < length (xs ++ x ∷ []) = slice_get_within (xs ++ x ∷ []) i row at in
    let more = length_push xs x in
    elim (cases_lt i (length xs)) [
      | inl below ↦
          let there : slice_get xs i ≡ Some row = slice_get-get_or xs i row below
          ∙ ap Some (sym (get_or_append_left xs (x ∷ []) row i below)
          ∙ get_or_from_slice_get (xs ++ x ∷ []) i row row at) in
          subst (λ before. P before row) (sym (take-append-le i xs (x ∷ []) (omega arith)))
          (each i row there)
      | inr past ↦
          let last : length xs ≡ i = omega arith in
          let same : x ≡ row = sym (get_or_push xs x row i last)
          ∙ get_or_from_slice_get (xs ++ x ∷ []) i row row at in
          let all : take i (xs ++ x ∷ []) ≡ xs = ap (λ n. take n (xs ++ x ∷ [])) (sym last)
          ∙ take-append_seam xs (x ∷ []) in
          subst (λ before. P before row) (sym all) (subst (P xs) same new)
    ]

-- what follows of each row, which stands there, follows of all
pub each_after_weaker : {X : Type 0} (P Q : List X → X → Type 0) (xs : List X)
    → ((i : ℕ) (x : X) → Contains xs x → P (take i xs) x → Q (take i xs) x)
    → EachAfter P xs → EachAfter Q xs
each_after_weaker P Q xs weaker each i row at =
    weaker i row (i, slice_get_within xs i row at, get_or_from_slice_get xs i row row at)
    (each i row at)
