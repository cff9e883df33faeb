-- Lists of records, and the pages that have them.
use Rattle.std.specs.Prelude.{◌≡◌, ℕ, Bool, true, false, List, [], ◌∷◌, ◌++◌, codes, map}
use Rattle.std.specs.Prelude.{slice_index}
use Rattle.records.specs.Cell.{Held, in_quotes}
use Rattle.records.specs.Record.{comma_if, record_text}

-- each text, with a comma between every two, and the closing bracket
abbrev pub items_text : Bool → List (List ℕ) → List ℕ
items_text later [] = codes "]"
items_text later (item ∷ items) = comma_if later ++ (item ++ items_text true items)

-- the list of these texts
abbrev pub list_text : List (List ℕ) → List ℕ
list_text items = 91 ∷ items_text false items

-- the list of the records of these values
abbrev pub records_text : {A : Type 0} → List (List ℕ) → (A → List Held) → List A → List ℕ
records_text names cells_of values = list_text (map (λ value. record_text names (cells_of value)) values)

-- the object whose one member is a list
abbrev pub page_text : (name : List ℕ) → (list : List ℕ) → List ℕ
page_text name list = 123 ∷ (in_quotes name ++ (58 ∷ (list ++ codes "}")))

-- the items that begin one text have one text, whatever follows, and its first byte is a brace
pub record AreReadInOneWay {A : Type 0} (is_told : A → Type 0) (text_of : A → List ℕ) : Type 0 where
  pub one : (item other : A) (rest more : List ℕ) → is_told item → is_told other
      → text_of item ++ rest ≡ text_of other ++ more → text_of item ≡ text_of other
  pub braced : (item : A) → is_told item → slice_index (text_of item) 0 ≡ 123
