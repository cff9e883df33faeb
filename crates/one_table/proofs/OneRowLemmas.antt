-- The one row of a table that has a rowid.
use Rattle.std.proofs.Common.{◌≡◌, ◌≤◌, arith, Bool, true, List, [], ◌∷◌, ◌++◌, filter, length, refl, sym, ap, ◌∙◌, inl, inr}
use Rattle.std.proofs.lemmas.Bool.{cases_Bool}
use Rattle.sqlite_value.specs.declared.value.Value.{Value}
use Rattle.sqlite_value.specs.Order.{Row, column}
use Rattle.sqlite_rules.specs.Lists.{Has as Member}

-- one that is there and passes is kept
pub kept_member : {X : Type 0} (p : X → Bool) (xs : List X) (x : X) → Member xs x → p x ≡ true → Member (filter p xs) x
kept_member p [] x h is = absurd h
kept_member p (y ∷ ys) x (inl same) is = rw (ap p (sym same) ∙ is) (inl same)
kept_member p (y ∷ ys) x (inr h) is = elim (cases_Bool (p y))
    [ inl kept ↦ rw kept (inr (kept_member p ys x h is)) | inr left ↦ rw left (kept_member p ys x h is) ]

the_one : {X : Type 0} (xs : List X) (x : X) → length xs ≤ 1 → Member xs x → xs ≡ x ∷ []
the_one [] x few h = absurd h
the_one (y ∷ []) x few (inl is) = ap (λ z. z ∷ []) (sym is)
the_one (y ∷ []) x few (inr h) = absurd h
the_one (y ∷ z ∷ more) x few h = absurd (omega arith)

-- where at most one passes, one that passes is what is kept
pub only_kept : {X : Type 0} (p : X → Bool) (xs : List X) (x : X) → length (filter p xs) ≤ 1 → Member xs x → p x ≡ true → filter p xs ≡ x ∷ []
only_kept p xs x few h is = the_one (filter p xs) x few (kept_member p xs x h is)

-- the value after the parameters
pub column_after : (params : Row) (v : Value) (rest : Row) → column (params ++ v ∷ rest) (length params) ≡ v
column_after [] v rest = refl
column_after (p ∷ params) v rest = column_after params v rest
