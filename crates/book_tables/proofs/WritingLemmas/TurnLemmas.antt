-- The writes of a list whose elements are written in turn.
use Rattle.std.proofs.Common.{◌≡◌, ◌<◌, ◌+◌, ℕ, List, [], ◌∷◌, ◌++◌, get_or, length, map, take, drop, sym, ap, ◌∙◌, append-nil, append_assoc}
use Rattle.std.proofs.lemmas.List.{length-take-le, map_push, take-append-drop, take_more}
use Rattle.tariff.specs.declared.step.Step.{Step}
use Rattle.book_tables.specs.row.Rows.{DatedStepRow, StepRow}
use Rattle.book_tables.specs.writing.Edited.{dated_row, dated_rows, step_row, step_rows}
use Rattle.book_tables.specs.writing.Writes.{Write, new_dated, new_step, new_tariff, steps_writes, tariff_writes}
use Rattle.book_tables.proofs.WritingLemmas.DatedWriteLemmas.{dated_more}
use Rattle.book_tables.proofs.WritingLemmas.TariffWriteLemmas.{rows_are}

-- with an element more there are its writes more
module _ {X : Type 0} (writes : List X → List Write) (block : List X → X → List Write)
    (more : (xs : List X) (x : X) → writes xs ++ block xs x ≡ writes (xs ++ x ∷ [])) where
  rest_of : (xs ys : List X) → (rest : List Write) × (writes xs ++ rest ≡ writes (xs ++ ys))
  rest_of xs [] = ([], append-nil (writes xs) ∙ ap writes (sym (append-nil xs)))
  rest_of xs (y ∷ ys) =
      let later = rest_of (xs ++ y ∷ []) ys in (
        block xs y ++ later.0,
        sym (append_assoc (writes xs) (block xs y) later.0) ∙ ap (λ (l : List Write). l ++ later.0) (more xs y)
            ∙ later.1 ∙ ap writes (append_assoc xs (y ∷ []) ys),
      )

  -- of elements that stand after these
  module _ (these xs : List X) (i : ℕ) (d : X) (below : i < length xs) where
    abbrev so_far : List X
    so_far = these ++ take i xs

    -- those until an element and with it
    pub with_next : writes so_far ++ block so_far (get_or xs i d) ≡ writes (these ++ take (i + 1) xs)
    with_next = more so_far (get_or xs i d) ∙ ap writes
        (append_assoc these (take i xs) (get_or xs i d ∷ []) ∙ ap (λ (l : List X). these ++ l) (sym (take_more xs i d below)))

    -- those after them
    pub rest_after : (rest : List Write) × (writes so_far ++ (block so_far (get_or xs i d) ++ rest) ≡ writes (these ++ xs))
    rest_after =
        let later = rest_of (these ++ take (i + 1) xs) (drop (i + 1) xs) in
        let all = append_assoc these (take (i + 1) xs) (drop (i + 1) xs) ∙ ap (λ (l : List X). these ++ l) (take-append-drop (i + 1) xs) in (
          later.0,
          sym (append_assoc (writes so_far) (block so_far (get_or xs i d)) later.0)
              ∙ ap (λ (l : List Write). l ++ later.0) with_next ∙ later.1 ∙ ap writes all,
        )

-- ---- the steps of a tariff

-- the write of a tariff's step, at the place after those before it
abbrev pub step_block : List ℕ → List Step → Step → List Write
step_block name xs s = new_step (step_row name (length xs) s) ∷ []

-- the writes of a tariff and this one are those of the tariff with the step more
pub tariff_more : (name : List ℕ) (xs : List Step) (s : Step) → tariff_writes name xs ++ step_block name xs s ≡ tariff_writes name (xs ++ s ∷ [])
tariff_more name xs s =
    let row = step_row name (length xs) s in
    ap (λ (l : List Write). new_tariff name ∷ l) (sym (map_push new_step (step_rows name xs) row)
    ∙ ap (λ (l : List StepRow). map new_step l) (sym (rows_are name xs s)))

-- the write of a step from a first day on, at the place after those before it
abbrev pub dated_block : List ℕ → ℕ → List Step → Step → List Write
dated_block name day xs s =
    new_dated (dated_row name day (length xs) s) ∷ []

-- the writes of such steps and this one are those of all these steps
pub steps_more : (name : List ℕ) (day : ℕ) (xs : List Step) (s : Step) → steps_writes name day xs ++ dated_block name day xs s
    ≡ steps_writes name day (xs ++ s ∷ [])
steps_more name day xs s =
    let row = dated_row name day (length xs) s in
    sym (map_push new_dated (dated_rows name day xs) row) ∙ ap (λ (l : List DatedStepRow). map new_dated l) (sym (dated_more name day xs s))
