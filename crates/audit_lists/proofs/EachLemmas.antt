-- What is said of each row, as rows are gone through in turn.
use Rattle.std.proofs.Common.{◌≡◌, ◌<◌, ◌+◌, ℕ, zero, suc, List, [], ◌∷◌, ◌++◌, get_or, Some, slice_get, inl, inr, refl, sym, ap, subst, ◌∙◌, arith}
use Rattle.std.specs.Prelude.{◌⊎◌, length}
use Rattle.std.proofs.lemmas.Bool.{cases_lt}
use Rattle.std.proofs.lemmas.Option.{none-some, same_Some, slice_get_read}
use Rattle.audit_lists.specs.Ties.{EachBelow}

-- one row more of which it is said
pub each_more : {T : Type 0} (said : ℕ → T → Type 0) (rows : List T) (at : ℕ) (row : T) → slice_get rows at ≡ Some row → said at row
    → EachBelow said rows at → EachBelow said rows (at + 1)
each_more said rows at row there here before i r low there_r = elim (cases_lt i at) [
  | inl below ↦ before i r below there_r
  | inr least ↦
      let last : i ≡ at = omega (arith, low, least) in
      let r_is : row ≡ r = same_Some row r (sym there ∙ ap (slice_get rows) (sym last) ∙ there_r) in
      subst (λ n. said n r) (sym last) (subst (said at) r_is here)
]

-- the row that is read at a place within the list is the one there
pub row_at : {T : Type 0} (rows : List T) (at : ℕ) (row : T) → at < length rows → row ≡ get_or rows at row → slice_get rows at ≡ Some row
row_at rows at row low is = slice_get_read rows (length rows) at row refl low is

-- what a list has with one more at its end
pub get_push : {T : Type 0} (xs : List T) (x y : T) (i : ℕ) → slice_get (xs ++ x ∷ []) i ≡ Some y → (slice_get xs i ≡ Some y) ⊎ ((i ≡ length xs) × (x ≡ y))
get_push [] x y zero e = inr (refl, same_Some x y e)
get_push [] x y (suc i) e = absurd (none-some y e)
get_push (z ∷ xs) x y zero e = inl e
get_push (z ∷ xs) x y (suc i) e = elim (get_push xs x y i e) [
  | inl before ↦ inl before
  | inr last ↦ inr (let same = last.0 in omega (arith, same), last.1)
]

-- there is a row at each place within a list
pub row_below : {T : Type 0} (rows : List T) (i : ℕ) → i < length rows → (row : T) × (slice_get rows i ≡ Some row)
row_below [] i low = absurd (omega (arith, low))
row_below (x ∷ xs) zero low = (x, refl)
row_below (x ∷ xs) (suc i) low = row_below xs i (omega (arith, low))
