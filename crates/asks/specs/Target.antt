-- The targets of asks.
use Rattle.std.specs.Prelude.{◌≡◌, ℕ, Bool, true, false, List, [], ◌∷◌, ◌++◌, ⊤, codes, eqb, map}
use Rattle.std.specs.List.{AllByRecursion}
use Rattle.asks.specs.Endpoint.{Place, Row}
use Rattle.asks.specs.Value.{AreOf, text_of}
use Rattle.asks.specs.declared.value.Value.{Value}
use Rattle.asks.specs.declared.value.ValueKind.{ValueKind}
use Rattle.asks.specs.declared.value.ValueKind.TheVariants as kinds

-- what stands behind the values: a slash and these words, or nothing
abbrev pub end_text : List ℕ → List ℕ
end_text [] = []
end_text (byte ∷ words) = 47 ∷ byte ∷ words

-- each value behind a slash and its front, and then the end
abbrev pub places_text : List Place → List ℕ → List Value → List ℕ
places_text (place ∷ places) end (value ∷ values) =
    47 ∷ (place.front ++ (text_of value ++ places_text places end values))
places_text places end values = end_text end

abbrev pub kind_at : Place → ValueKind
kind_at place = place.kind

abbrev pub target_kinds : Row → List ValueKind
target_kinds row = map kind_at row.places

-- the target of a row with these values
abbrev pub target_text : Row → List Value → List ℕ
target_text row values = places_text row.places row.end values

-- the text has values of the places, and the end behind them
pub record AreIn (places : List Place) (end text : List ℕ) (values : List Value) : Type 0 where
  pub are : AreOf (map kind_at places) values
  pub written : text ≡ places_text places end values

-- a target names these values, which are those of the row
abbrev pub Names : Row → List ℕ → List Value → Type 0
Names row target values = AreIn row.places row.end target values

-- values of which this holds were put behind others, or it holds of none
abbrev pub PutsFound : (List Value → Type 0) → List Value → List Value → Bool → Type 0
PutsFound Holds old new true = (values : List Value) × (new ≡ old ++ values) × Holds values
PutsFound Holds old new false = (values : List Value) → ¬ Holds values

-- a text without a slash
abbrev pub LacksSlash : List ℕ → Type 0
LacksSlash text = AllByRecursion (λ byte. eqb byte 47 ≡ false) text

-- the name of a kind of values, as patterns have it
abbrev pub kind_name : ValueKind → List ℕ
kind_name kinds.Base = codes "base"
kind_name kinds.Day = codes "day"
kind_name kinds.Key = codes "key"
kind_name kinds.Meter = codes "meter"
kind_name kinds.Number = codes "number"
kind_name kinds.Operator = codes "operator"
kind_name kinds.Ref = codes "ref"
kind_name kinds.Start = codes "start"
kind_name kinds.Tariff = codes "tariff"
kind_name kinds.Tender = codes "tender"

-- the pattern of these places, with a name in braces for each value, in the syntax of `matchit`
abbrev pub pattern_text : List Place → List ℕ → List ℕ
pattern_text [] end = end_text end
pattern_text (place ∷ places) end =
    47 ∷ (place.front ++ (123 ∷ (kind_name place.kind ++ (125 ∷ pattern_text places end))))

-- what may follow a value: a slash with more, or nothing
abbrev pub IsRest : List ℕ → Type 0
IsRest [] = ⊤
IsRest (byte ∷ text) = byte ≡ 47
