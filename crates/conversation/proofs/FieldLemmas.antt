-- The values of a name, field by field.
use Rattle.std.proofs.Common.{◌≡◌, ◌≢◌, ℕ, suc, ◌<◌, true, cond, List, ◌∷◌, ◌++◌, length, map, get_or, take, drop, refl, ap, ◌∙◌, arith}
use Rattle.std.specs.Prelude.{filter}
use Rattle.std.proofs.Math.Seq.{split_at}
use Rattle.std.proofs.lemmas.List.{map-append, length-append}
use Rattle.std.proofs.lemmas.List.Elements.{filter-append}
use Rattle.httparse.specs.Spans.{header_bytes}
use Rattle.httparse.specs.declared.spans.HeaderSpan.{HeaderSpan}
use Rattle.conversation.specs.declared.message.fields.Only.{Only}
use Rattle.conversation.specs.declared.message.fields.Only.TheVariants.{Absent, One, Several}
use Rattle.conversation.specs.message.Fields.{IsOnly, fields_at, is_named, values_of}

-- what a read past the end of the spans gives
abbrev pub no_span : HeaderSpan
no_span = record { name = record { start = 0; end = 0 }; value = record { start = 0; end = 0 } }

abbrev Fields : Type 0
Fields = List (List ℕ × List ℕ)

values_of-append : (name : List ℕ) (fs gs : Fields) → values_of name (fs ++ gs) ≡ values_of name fs ++ values_of name gs
values_of-append name fs gs =
    ap (map (λ (f : List ℕ × List ℕ). f.1)) (filter-append (is_named name) fs gs)
    ∙ map-append _ (filter (is_named name) fs) (filter (is_named name) gs)

-- a field of the name has its value among them
values_of-named : (name : List ℕ) (f : List ℕ × List ℕ) (fs : Fields) → is_named name f ≡ true
    → values_of name (f ∷ fs) ≡ f.1 ∷ values_of name fs
values_of-named name f fs e =
    ap (λ b. map (λ (f : List ℕ × List ℕ). f.1) (cond b (f ∷ filter (is_named name) fs) (filter (is_named name) fs))) e

-- the values before a field of the name, its value, and those after it
pub values_of-at : (name input : List ℕ) (spans : List HeaderSpan) (i : ℕ) (d : HeaderSpan) → i < length spans
    → is_named name (header_bytes input (get_or spans i d)) ≡ true
    → values_of name (fields_at input spans)
    ≡ values_of name (fields_at input (take i spans))
    ++ (header_bytes input (get_or spans i d)).1 ∷ values_of name (fields_at input (drop (suc i) spans))
values_of-at name input spans i d h e =
    let rest = fields_at input (drop (suc i) spans) in
    ap (λ s. values_of name (fields_at input s)) (split_at spans i d h)
    ∙ ap (values_of name) (map-append (header_bytes input) (take i spans) (get_or spans i d ∷ drop (suc i) spans))
    ∙ values_of-append name (fields_at input (take i spans)) (header_bytes input (get_or spans i d) ∷ rest)
    ∙ ap (λ vs. values_of name (fields_at input (take i spans)) ++ vs) (values_of-named name _ rest e)

-- a value was found before
pub some_found : (values : List (List ℕ)) (only : Only) → IsOnly values only → only ≢ Absent → 0 < length values
some_found values Absent is other = absurd (other refl)
some_found values (One value) is other = omega (arith, ap length is)
some_found values Several is other = omega arith

-- a value behind one that was found makes more than one
pub more_than_one : (before after : List (List ℕ)) (value : List ℕ) → 0 < length before
    → 1 < length (before ++ value ∷ after)
more_than_one before after value h = omega (arith, length-append before (value ∷ after))
