-- Records as values of JSON.
use Rattle.std.specs.Prelude.{◌≡◌, ℕ, ◌&&◌, Bool, true, false, List, [], ◌∷◌, length, Some, ⊤}
use Rattle.std.specs.Prelude.{option_map}
use Rattle.std.specs.Ordering.{nat_cmp, match_ordering}
use Rattle.std.specs.Cmp.Lexicographic.{slice_cmp}
use Rattle.serde_json.specs.Data as json
use Rattle.serde_json.specs.Events.{members_len}
use Rattle.serde_json.specs.Find.{as_object, get}
use Rattle.records.specs.Cell.{Held, number, text, nothing}

-- what a cell holds, as a value of JSON
abbrev pub cell_data : Held → json.Data
cell_data (number n) = json.number (json.unsigned n)
cell_data (text bytes) = json.string bytes
cell_data nothing = json.null

-- each name with its cell, in their order
abbrev pub members_data : List (List ℕ) → List Held → json.Members
members_data (name ∷ names) (cell ∷ cells) =
    json.member name (cell_data cell) (members_data names cells)
members_data names cells = json.no_members

-- the object that has these members
abbrev pub record_data : List (List ℕ) → List Held → json.Data
record_data names cells = json.object (members_data names cells)

-- the value is an object with so many members
abbrev pub HasMemberCount : json.Data → ℕ → Type 0
HasMemberCount value count = option_map members_len (as_object value) ≡ Some count

-- the value has a member for each name, and these are their cells
abbrev pub HasMembers : json.Data → List (List ℕ) → List Held → Type 0
HasMembers value (name ∷ names) (cell ∷ cells) =
    (get name value ≡ Some (cell_data cell)) × HasMembers value names cells
HasMembers value names cells = ⊤

-- the value is an object with these members, in whatever order, and no others
pub record IsObject (value : json.Data) (names : List (List ℕ)) (cells : List Held) : Type 0 where
  pub count : HasMemberCount value (length names)
  pub each : HasMembers value names cells

-- a name stands behind another in the order of their bytes
abbrev pub stands_behind : List ℕ → List ℕ → Bool
stands_behind name other = match_ordering (slice_cmp nat_cmp name other) false false true

-- each of these names stands behind one
abbrev pub stand_behind : List (List ℕ) → List ℕ → Bool
stand_behind [] first = true
stand_behind (name ∷ names) first = stands_behind name first && stand_behind names first

-- each name stands behind all before it, so none stands there twice
abbrev pub rise : List (List ℕ) → Bool
rise [] = true
rise (name ∷ names) = stand_behind names name && rise names
