-- The header fields of a head, as names and values without the white space around them.
use Rattle.std.specs.Prelude.{◌≡◌, ℕ, ◌<◌, Bool, List, [], ◌∷◌, length, map, filter}
use Rattle.std.specs.Str.{str_eq_ignore_ascii_case}
use Rattle.httparse.specs.Spans.{header_bytes}
use Rattle.httparse.specs.declared.spans.HeaderSpan.{HeaderSpan}
use Rattle.conversation.specs.declared.message.fields.Only.{Only}
use Rattle.conversation.specs.declared.message.fields.Only.TheVariants.{Absent, One, Several}

-- the field has this name, in any case
abbrev pub is_named : List ℕ → List ℕ × List ℕ → Bool
is_named name field = str_eq_ignore_ascii_case field.0 name

-- the values of the fields of this name, in order
abbrev pub values_of : List ℕ → List (List ℕ × List ℕ) → List (List ℕ)
values_of name fields = map (λ field. field.1) (filter (is_named name) fields)

-- the fields that stand at these places of the input
abbrev pub fields_at : List ℕ → List HeaderSpan → List (List ℕ × List ℕ)
fields_at input spans = map (header_bytes input) spans

-- there is no value, this one alone, or more than one
abbrev pub IsOnly : List (List ℕ) → Only → Type 0
IsOnly values Absent = values ≡ []
IsOnly values (One value) = values ≡ value.now ∷ []
IsOnly values Several = 1 < length values
