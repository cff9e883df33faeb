-- The text of a record: its cells by their names, in the order of the names.
use Rattle.std.specs.Prelude.{◌≡◌, ℕ, Bool, true, false, List, [], ◌∷◌, ◌++◌, codes, length}
use Rattle.std.specs.Prelude.{if◌then◌else◌}
use Rattle.std.specs.Borrow.{Bor}
use Rattle.std.specs.List.{AllByRecursion}
use Rattle.records.specs.Cell.{Held, IsTellable, cell_text, in_quotes}

-- the text that is lent
abbrev pub now : Bor (List ℕ) → List ℕ
now lent = lent.now

-- a comma, where something stands before
abbrev pub comma_if : Bool → List ℕ
comma_if later = if later then codes "," else []

-- each name and its cell, with a comma between every two, and the closing brace
abbrev pub members_text : Bool → List (List ℕ) → List Held → List ℕ
members_text later (name ∷ names) (cell ∷ cells) =
    comma_if later ++ (in_quotes name ++ (58 ∷ (cell_text cell ++ members_text true names cells)))
members_text later names cells = codes "}"

-- the text of a record with these names and these cells
abbrev pub record_text : List (List ℕ) → List Held → List ℕ
record_text names cells = 123 ∷ members_text false names cells

-- each name has a cell, and each cell can be told
pub record Fits (names : List (List ℕ)) (cells : List Held) : Type 0 where
  pub named : length names ≡ length cells
  pub tellable : AllByRecursion IsTellable cells
