-- What the rows are after a tariff with its steps was added, row by row.
use Rattle.std.proofs.Common.{◌≡◌, ℕ, ◌+◌, pos, List, [], ◌∷◌, ◌++◌, length, map, codes, refl, sym, ap, subst, ◌∙◌, arith, append-nil, append_assoc}
use Rattle.std.specs.List.{enumerate_from}
use Rattle.sqlite.specs.Effect.{Database}
use Rattle.sqlite.specs.Order.{Row}
use Rattle.sqlite.specs.State.{State}
use Rattle.sqlite_value.specs.declared.value.Value.TheVariants.{Int, Text}
use Rattle.tariff.specs.declared.step.Step.{Step}
use Rattle.book_tables.specs.writing.Edited.{step_rows}
use Rattle.std.proofs.lemmas.List.{map_push}
use Rattle.book_tables.specs.Holds.{HasOffice, Holds}
use Rattle.book_tables.specs.Kept.{steps_kept, tariffs_kept}
use Rattle.book_tables.specs.reading.Reading.{HasAllTables}
use Rattle.book_tables.specs.row.Rows.{StepRow, step_columns, tariff_columns}
use Rattle.book_tables.specs.writing.Storing.{StoresRows}
use Rattle.book_tables.proofs.OfficeTableLemmas.{steps_in, tariffs_in}
use Rattle.book_tables.proofs.WritingLemmas.StoringLemmas.{left_by_one, stores_before, stores_none, stores_then}
use Rattle.book_tables.proofs.WritingLemmas.WriteLemmas.{changes_only}
use Rattle.book_tables.specs.writing.Writing.{AddsName, AddsStep, AddsTariff, WritesOnly}
use Rattle.book_tables.specs.writing.Keeping.{KeepsRows, Keys, name_keys, step_keys, tariff_keys}
use Rattle.book_tables.proofs.WritingLemmas.KeepingLemmas.{fewer_parts, keeps_both, keeps_more, own_left, own_right}
use Rattle.book_tables.proofs.WritingLemmas.OnlyLemmas.{only_both, only_named}

-- ---- lists

rows_more : (name : List ℕ) (at : ℕ) (xs : List Step) (s : Step)
    → map (λ (p : ℕ × Step). let r : StepRow = record { tariff = name; place = p.0; step = p.1 } in r) (enumerate_from at (xs ++ s ∷ []))
    ≡ map (λ (p : ℕ × Step). let r : StepRow = record { tariff = name; place = p.0; step = p.1 } in r) (enumerate_from at xs)
    ++ record { tariff = name; place = at + length xs; step = s } ∷ []
rows_more name at [] s = let here : at ≡ at + 0 = omega arith in
    ap (λ (n : ℕ). let r : List StepRow = record { tariff = name; place = n; step = s } ∷ [] in r) here
rows_more name at (x ∷ xs) s =
    let further : at + 1 + length xs ≡ at + length (x ∷ xs) = omega arith in
    ap (λ (l : List StepRow). record { tariff = name; place = at; step = x } ∷ l) (rows_more name (at + 1) xs s
    ∙ ap (λ (n : ℕ). map (λ (p : ℕ × Step). let r : StepRow = record { tariff = name; place = p.0; step = p.1 } in r)
    (enumerate_from (at + 1) xs) ++ record { tariff = name; place = n; step = s } ∷ []) further)

-- ---- two tables

abbrev both : List (List ℕ)
both = codes "tariffs" ∷ codes "tariff_steps" ∷ []

first_only : (old new : State) → WritesOnly (codes "tariffs" ∷ []) old new → WritesOnly both old new
first_only = only_named (codes "tariffs" ∷ []) both refl

then_second : (old mid new : State) → WritesOnly both old mid → WritesOnly (codes "tariff_steps" ∷ []) mid new → WritesOnly both old new
then_second old mid new first second = only_both both old mid new first
    (only_named (codes "tariff_steps" ∷ []) both refl mid new second)

-- ---- a tariff

-- with one step more, its row stands after those of the others, at the next place
pub rows_are : (name : List ℕ) (xs : List Step) (s : Step) → step_rows name (xs ++ s ∷ []) ≡ step_rows name xs
    ++ record { tariff = name; place = length xs; step = s } ∷ []
rows_are name xs s =
    let here : 0 + length xs ≡ length xs = omega arith in
    rows_more name 0 xs s ∙ ap (λ (n : ℕ). step_rows name xs ++ record { tariff = name; place = n; step = s } ∷ []) here

-- the steps of the tariff, and one of them
abbrev of_steps : List ℕ → Keys
of_steps name = (codes "tariff_steps", (1, Text name) ∷ []) ∷ []

step_of : (name : List ℕ) (place : ℕ) (s : Step) (a b : Database)
    → KeepsRows (step_keys (record { tariff = name; place = place; step = s })) a b → KeepsRows (tariff_keys name) a b
step_of name place s a b kept =
    keeps_more (of_steps name) (tariff_keys name) (own_right (name_keys name) (of_steps name)) a b
    (keeps_more (step_keys (record { tariff = name; place = place; step = s })) (of_steps name)
    (fewer_parts (codes "tariff_steps") ((1, Text name) ∷ []) ((2, Int (pos place)) ∷ [])) a b kept)

-- with no steps so far
pub adds_none : (name : List ℕ) (old new : State) → HasAllTables old → AddsName name old new → AddsTariff name [] old new
adds_none name old new has adds = record {
  only = first_only old new adds.only;
  kept = keeps_more (name_keys name) (tariff_keys name) (own_left (name_keys name) (of_steps name)) old.now new.now adds.kept;
  stored = adds.stored;
  steps = stores_none steps_kept old.now new.now (left_by_one steps_kept tariffs_kept steps_in tariffs_in old.now new.now
      (has adds.only.inside.was_open) (changes_only (codes "tariffs") old new adds.only) refl);
  rows = λ rows held.
      let none : rows.steps ++ [] ≡ rows.steps = append-nil rows.steps in
      subst (λ (l : List StepRow). Holds new.now (record rows { tariffs = rows.tariffs ++ name ∷ []; steps = l })) (sym none) (adds.rows rows held);
}

adds_at_end : (name : List ℕ) (xs : List Step) (s : Step) (old mid new : State) → HasAllTables old → AddsTariff name xs old mid
    → AddsStep (record { tariff = name; place = length xs; step = s }) mid new → AddsTariff name (xs ++ s ∷ []) old new
adds_at_end name xs s old mid new has first second = record {
  only = then_second old mid new first.only second.only;
  kept = keeps_both (tariff_keys name) old.now mid.now new.now first.kept (step_of name (length xs) s mid.now new.now second.kept);
  stored = stores_before tariffs_kept (tariff_columns name ∷ []) old.now mid.now new.now first.stored
      (left_by_one tariffs_kept steps_kept tariffs_in steps_in mid.now new.now
      (subst HasOffice (sym first.only.schema) (has first.only.inside.was_open)) (changes_only (codes "tariff_steps") mid new second.only) refl);
  steps = subst (λ (l : List Row). StoresRows steps_kept l old.now new.now)
      (sym (map_push step_columns (step_rows name xs) (record { tariff = name; place = length xs; step = s }))
      ∙ ap (map step_columns) (sym (rows_are name xs s)))
      (stores_then steps_kept (map step_columns (step_rows name xs))
      (step_columns (record { tariff = name; place = length xs; step = s }) ∷ []) old.now mid.now new.now first.steps second.stored);
  rows = λ rows held.
      let both = second.rows (record rows { tariffs = rows.tariffs ++ name ∷ []; steps = rows.steps ++ step_rows name xs }) (first.rows rows held) in
      let steps : (rows.steps ++ step_rows name xs) ++ record { tariff = name; place = length xs; step = s } ∷ [] ≡ rows.steps
      ++ step_rows name (xs ++ s ∷ []) =
      append_assoc rows.steps (step_rows name xs) (record { tariff = name; place = length xs; step = s } ∷ [])
      ∙ ap (λ (l : List StepRow). rows.steps ++ l) (sym (rows_are name xs s)) in
      subst (λ (l : List StepRow). Holds new.now (record rows { tariffs = rows.tariffs ++ name ∷ []; steps = l })) steps both;
}

-- with one step more
pub adds_next : (name : List ℕ) (xs : List Step) (place : ℕ) (s : Step) (old mid new : State) → place ≡ length xs → HasAllTables old
    → AddsTariff name xs old mid → AddsStep (record { tariff = name; place = place; step = s }) mid new
    → AddsTariff name (xs ++ s ∷ []) old new
adds_next name xs place s old mid new is has first added =
    adds_at_end name xs s old mid new has first (subst (λ (n : ℕ). AddsStep (record { tariff = name; place = n; step = s }) mid new) is added)
