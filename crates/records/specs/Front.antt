-- What stands at the front of a text.
use Rattle.std.specs.Prelude.{◌≡◌, ◌≢◌, ℕ, ◌||◌, ◌==◌, Bool, true, false, List, ◌++◌, Option, Some, None}
use Rattle.std.specs.Prelude.{slice_index}
use Rattle.std.specs.Borrow.{Bor}
use Rattle.std.specs.List.{AllByRecursion}

-- a value was found of which this holds, or it holds of none
abbrev pub IsFound : {A : Type 0} → (A → Type 0) → Option A → Type 0
IsFound Holds (Some value) = Holds value
IsFound {A} Holds None = (value : A) → ¬ Holds value

-- a value that keeps its rule begins the text, and this follows it; or none does, whatever follows
abbrev pub IsFrontItem : {A : Type 0} → (A → Type 0) → (A → List ℕ) → List ℕ
    → Option (A × Bor (List ℕ)) → Type 0
IsFrontItem keeps text_of text (Some front) =
    keeps front.0 × (text ≡ text_of front.0 ++ front.1.now)
IsFrontItem {A} keeps text_of text None =
    (item : A) (rest : List ℕ) → keeps item → text ≢ text_of item ++ rest

-- a comma or a closing brace: what stands behind a cell
abbrev pub is_stop : ℕ → Bool
is_stop byte = (byte == 44) || (byte == 125)

abbrev pub LacksStop : List ℕ → Type 0
LacksStop text = AllByRecursion (λ byte. is_stop byte ≡ false) text

abbrev pub BeginsWithStop : List ℕ → Type 0
BeginsWithStop text = is_stop (slice_index text 0) ≡ true
