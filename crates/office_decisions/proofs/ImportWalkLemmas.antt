-- One step along the rows of an import, from the rows taken so far to one row more.
use Rattle.std.proofs.Common.{◌≡◌, ℕ, ◌+◌, ◌<◌, ◌≤◌, ◌⊎◌, inl, inr, Bool, true, false, List, [], ◌∷◌, ◌++◌, append_assoc, length, get_or, drop, Option, Some, None, Result, Ok, Err, is_some, refl, sym, ◌∙◌, ap, subst, arith, Bor}
use Rattle.std.specs.Prelude.{if◌then◌else◌, nat_lt, slice_get}
use Rattle.std.specs.Option.{IfSome, option_copied}
use Rattle.std.specs.Result.{IsErrAnd}
use Rattle.std.proofs.lemmas.Bool.Decides.{nat_tests}
use Rattle.std.proofs.lemmas.List.{append-nil, drop_more, length-drop}
use Rattle.std.proofs.lemmas.Option.{slice_get-get_or, slice_get_past, slice_get_read}
use Rattle.office_rules.specs.Decision.{◌>>=◌, at_row, is_new, new_rows, row_decision}
use Rattle.office_rules.specs.Decision.Edits.{office_after, with_rows}
use Rattle.office_rules.specs.Decision.Facts.{AreRowsFacts, HasNewRow, row_facts}
use Rattle.office_rules.specs.Law.Growth.{HaveStayed}
use Rattle.office_rules.specs.Office.{Office}
use Rattle.office_rules.specs.declared.decision.change.Change.{Change}
use Rattle.office_rules.specs.declared.decision.refusal.Refusal.{Refusal}
use Rattle.office_rules.specs.declared.decision.refusal.Refusal.TheVariants as refusals
use Rattle.office_rules.specs.declared.office.row.Row.{Row}
use Rattle.office_rules.specs.declared.decision.row_facts.RowFacts.{RowFacts}
use Rattle.office_rules.proofs.DecisionLemmas.ImportLemmas.{Grants, ahead, row_grants}
use Rattle.office_rules.proofs.DecisionLemmas.StayLemmas.{differs_still, stayed_by_row, stayed_twice}
use Rattle.office_decisions.proofs.TakenLemmas.{with_rows-push}

-- the facts of the first row, and those of the rest where that row does not differ
pub record Walks (o : Office) (today : ℕ) (row : Row) (rest : List Row) (gs : List RowFacts) : Type 0 where
  pub first : RowFacts
  pub further : List RowFacts
  pub are : gs ≡ first ∷ further
  pub first_is : first ≡ row_facts o row
  pub rest_are : (row_decision o today row ≡ Err refusals.Differs) ⊎ AreRowsFacts o today rest further

-- the facts of some rows begin with those of the first
pub walks_first : (o : Office) (today : ℕ) (row : Row) (rest : List Row) (gs : List RowFacts) → AreRowsFacts o today (row ∷ rest) gs → Walks o today row rest gs
walks_first o today row rest [] facts = absurd facts
walks_first o today row rest (g ∷ gs) facts = record { first = g; further = gs; are = refl; first_is = facts.0; rest_are = facts.1 }

-- the row of a place, and the rows after it
pub rows_at : (rows : List Row) (i : ℕ) (row : Row) → i < length rows → row ≡ get_or rows i row → drop i rows ≡ row ∷ drop (i + 1) rows
rows_at rows i row within is = drop_more rows i row within ∙ ap (λ (r : Row). r ∷ drop (i + 1) rows) (sym is)

pub record FactsAt (o : Office) (today : ℕ) (rows : List Row) (fs : List RowFacts) (i : ℕ) (row : Row) : Type 0 where
  pub found : slice_get fs i ≡ Some (row_facts o row)
  pub rest : (row_decision o today row ≡ Err refusals.Differs) ⊎ AreRowsFacts o today (drop (i + 1) rows) (drop (i + 1) fs)

-- the facts of the row at a place are found there, and those of the rows after it follow
pub facts_at : (o : Office) (today : ℕ) (rows : List Row) (fs : List RowFacts) (i : ℕ) (row : Row) → i < length rows → row
    ≡ get_or rows i row → AreRowsFacts o today (drop i rows) (drop i fs) → FactsAt o today rows fs i row
facts_at o today rows fs i row within is facts =
    let w = walks_first o today row (drop (i + 1) rows) (drop i fs)
    (subst (λ (l : List Row). AreRowsFacts o today l (drop i fs)) (rows_at rows i row within is) facts) in
    let long : i < length fs = omega (arith, length-drop i fs, ap length w.are) in
    let parts : get_or fs i w.first ∷ drop (i + 1) fs ≡ w.first ∷ w.further = sym (drop_more fs i w.first long) ∙ w.are in
    let head : get_or fs i w.first ≡ w.first = cc in
    let tail : drop (i + 1) fs ≡ w.further = cc in
    record {
      found = slice_get-get_or fs i w.first long ∙ ap Some (head ∙ w.first_is);
      rest = subst (λ (l : List RowFacts). (row_decision o today row ≡ Err refusals.Differs) ⊎ AreRowsFacts o today (drop (i + 1) rows) l)
          (sym tail) w.rest_are;
    }

-- what a look-up by place gives
pub get_copied : {A : Type 0} (r : Option (Bor A)) (xs : List A) (i : ℕ) → is_some r ≡ nat_lt i (length xs)
    → IfSome r (λ x. x.now ≡ get_or xs i x.now) → option_copied r ≡ slice_get xs i
get_copied None xs i there is = let past : length xs ≤ i = grind (arith, nat_tests) in sym (slice_get_past xs i past)
get_copied (Some x) xs i there is = let within : i < length xs = grind (arith, nat_tests) in sym (slice_get_read xs (length xs) i x.now refl within is)

-- the rows taken with one more, where it is new
abbrev pub taken_more : List Row → Row → Change → List Row
taken_more taken row change = taken ++ (if is_some change.edit then row ∷ [] else [])

-- the office with the rows taken, and this one if new, is the one after its decision
pub office_more : (taken : List Row) (row : Row) (change : Change) (o : Office) → Grants (with_rows taken o) row change
    → with_rows (taken_more taken row change) o ≡ office_after (with_rows taken o) (Ok change)
office_more taken row change o (inl (none, same)) =
    ap (λ (b : Bool). with_rows (taken ++ (if b then row ∷ [] else [])) o) none ∙ ap (λ (l : List Row). with_rows l o) (append-nil taken) ∙ sym same
office_more taken row change o (inr (some, put, fits)) =
    ap (λ (b : Bool). with_rows (taken ++ (if b then row ∷ [] else [])) o) some ∙ with_rows-push taken row o ∙ sym put

-- rows in front of those that one row more is among
pub ahead_more : (taken : List Row) (row : Row) (b : Bool) (r : Result (List Row) Refusal)
    → ahead taken (r >>= (λ new. Ok (if b then row ∷ new else new))) ≡ ahead (taken ++ (if b then row ∷ [] else [])) r
ahead_more taken row true (Ok new) = ap (λ (l : List Row). let r : Result (List Row) Refusal = Ok l in r) (sym (append_assoc taken (row ∷ []) new))
ahead_more taken row false (Ok new) = ap (λ (l : List Row). let r : Result (List Row) Refusal = Ok (l ++ new) in r) (sym (append-nil taken))
ahead_more taken row b (Err refusal) = refl

module _ (o : Office) (today : ℕ) (rows : List Row) (taken : List Row) (i : ℕ) (row : Row) (within : i < length rows) (is : row ≡ get_or rows i row)
    (invariant : new_rows o today 1 rows ≡ ahead taken (new_rows (with_rows taken o) today (i + 1) (drop i rows))) where
  at_this : new_rows o today 1 rows ≡ ahead taken (new_rows (with_rows taken o) today (i + 1) (row ∷ drop (i + 1) rows))
  at_this = invariant ∙ ap (λ (l : List Row). ahead taken (new_rows (with_rows taken o) today (i + 1) l)) (rows_at rows i row within is)

  -- the import's new rows are those taken so far and those of the rows to come
  pub walks_on : (change : Change) → row_decision (with_rows taken o) today row ≡ Ok change
      → new_rows o today 1 rows ≡ ahead (taken_more taken row change)
      (new_rows (with_rows (taken_more taken row change) o) today (i + 1 + 1) (drop (i + 1) rows))
  walks_on change granted =
      let p = with_rows taken o in
      at_this
      ∙ ap (λ (r : Result Change Refusal). ahead taken (at_row (i + 1) r >>=
      (λ change. new_rows (office_after p (Ok change)) today (i + 1 + 1) (drop (i + 1) rows) >>=
      (λ new. Ok (if is_some change.edit then row ∷ new else new))))) granted
      ∙ ahead_more taken row (is_some change.edit) (new_rows (office_after p (Ok change)) today (i + 1 + 1) (drop (i + 1) rows))
      ∙ ap (λ (q : Office). ahead (taken_more taken row change) (new_rows q today (i + 1 + 1) (drop (i + 1) rows)))
      (sym (office_more taken row change o (row_grants p today row change granted)))

-- tariffs and meters still stay when one row more is taken
pub stays_on : (o : Office) (today : ℕ) (taken : List Row) (row : Row) (change : Change) → HaveStayed o (with_rows taken o)
    → row_decision (with_rows taken o) today row ≡ Ok change → HaveStayed o (with_rows (taken_more taken row change) o)
stays_on o today taken row change stayed granted =
    let p = with_rows taken o in
    subst (HaveStayed o) (sym (office_more taken row change o (row_grants p today row change granted)))
    (stayed_twice o p (office_after p (Ok change)) stayed
    (subst (λ (r : Result Change Refusal). HaveStayed p (office_after p r)) granted (stayed_by_row p today row)))

-- where the row was granted, it does not differ
pub facts_further : (o : Office) (today : ℕ) (rows : List Row) (fs : List RowFacts) (taken : List Row) (i : ℕ) (row : Row)
    (change : Change) → HaveStayed o (with_rows taken o) → row_decision (with_rows taken o) today row ≡ Ok change
    → FactsAt o today rows fs i row → AreRowsFacts o today (drop (i + 1) rows) (drop (i + 1) fs)
facts_further o today rows fs taken i row change stayed granted at = further at.rest
  where
    further : (row_decision o today row ≡ Err refusals.Differs) ⊎ AreRowsFacts o today (drop (i + 1) rows) (drop (i + 1) fs)
        → AreRowsFacts o today (drop (i + 1) rows) (drop (i + 1) fs)
    further (inl differs) = let still = differs_still o (with_rows taken o) today row stayed differs in cc
    further (inr rest) = rest

-- a row is new of which there is none before it, or none of the rows taken is
abbrev pub SeesNew : Office → ℕ → List Row → List Row → ℕ → Type 0
SeesNew o today rows taken i = HasNewRow o today rows ⊎ ((taken ≡ []) × (HasNewRow o today (drop i rows) → HasNewRow o today rows))

module _ (o : Office) (today : ℕ) (rows : List Row) (taken : List Row) (i : ℕ) (row : Row) (within : i < length rows) (is : row ≡ get_or rows i row) where
  from_here : (HasNewRow o today (drop i rows) → HasNewRow o today rows) → HasNewRow o today (row ∷ drop (i + 1) rows) → HasNewRow o today rows
  from_here back here = back (subst (HasNewRow o today) (sym (rows_at rows i row within is)) here)

  -- what a row taken after none is in the office
  in_office : (r : Result Bool Refusal) → taken ≡ [] → is_new (row_decision (with_rows taken o) today row) ≡ r → is_new (row_decision o today row) ≡ r
  in_office r none new = subst (λ (l : List Row). is_new (row_decision (with_rows l o) today row) ≡ r) none new

  -- a row that is found new here is one for which the import has a new row
  pub new_here : SeesNew o today rows taken i → is_new (row_decision (with_rows taken o) today row) ≡ Ok true → HasNewRow o today rows
  new_here (inl has) new = has
  new_here (inr (none, back)) new = from_here back (inl (in_office (Ok true) none new))

  sees_after : (b : Bool) → SeesNew o today rows taken i → is_new (row_decision (with_rows taken o) today row) ≡ Ok b
      → SeesNew o today rows (taken ++ (if b then row ∷ [] else [])) (i + 1)
  sees_after b (inl has) new = inl has
  sees_after true (inr (none, back)) new = inl (from_here back (inl (in_office (Ok true) none new)))
  sees_after false (inr (none, back)) new = inr (append-nil taken ∙ none, λ rest. from_here back (inr (in_office (Ok false) none new, rest)))

  -- what is known of a new row so far is known with one row further
  pub sees_further : (change : Change) → SeesNew o today rows taken i → row_decision (with_rows taken o) today row ≡ Ok change
      → SeesNew o today rows (taken_more taken row change) (i + 1)
  sees_further change sees granted = sees_after (is_some change.edit) sees (ap is_new granted)

-- the error that a result is, and has
pub same_err : {T : Type 0} (r : Result T Refusal) (e f : Refusal) → IsErrAnd r (λ x. x ≡ e) → r ≡ Err f → e ≡ f
same_err (Ok x) e f is has = absurd is
same_err (Err x) e f is has = cc
