-- A line of a table, field by field.
use Rattle.std.proofs.Common.{◌≡◌, ◌∙◌, ℕ, ◌+◌, ◌<◌, ◌≤◌, List, [], ◌∷◌, ◌++◌, Result, Ok, Err, append_assoc, ap, drop, get_or, is_ok, length, map, sym}
use Rattle.std.specs.Prelude.{if◌then◌else◌, OnOk}
use Rattle.std.proofs.lemmas.List.{drop_all}
use Rattle.std.specs.Borrow.{Bor}
use Rattle.sts_fields.specs.Text.{Text}
use Rattle.vend_ports.proofs.TakeLemmas.{spaced, spaced-next}

-- what is left of a line of fields with tabs between them: a separator and a field each, and the end
abbrev pub fields_left : Text → List (Bor Text) → Text
fields_left separator fields = spaced 9 separator (map (λ f. f.now) fields) ++ 10 ∷ []

-- a separator and a field are added
pub fields_more : (separator : Text) (fields : List (Bor Text)) (i : ℕ) (d : Bor Text) (old a b whole : Text) → i < length fields → a ≡ old
    ++ separator → b ≡ a ++ (get_or fields i d).now
    → old ++ fields_left separator (drop i fields) ≡ whole → b ++ fields_left (9 ∷ []) (drop (i + 1) fields) ≡ whole
fields_more separator fields i d old a b whole inside e f is =
    let field = (get_or fields i d).now in
    let rest = fields_left (9 ∷ []) (drop (i + 1) fields) in
    ap (λ front. front ++ rest) (f ∙ ap (λ front. front ++ field) e)
    ∙ append_assoc (old ++ separator) field rest
    ∙ append_assoc old separator (field ++ rest)
    ∙ sym (spaced-next 9 separator fields i d old whole (10 ∷ []) inside (sym is))

-- the end is added behind the last one, if there is room for it
pub fields_done : {A E : Type 0} (r : Result A E) (separator : Text) (fields : List (Bor Text)) (i : ℕ) (old new whole : Text) → length fields ≤ i
    → new ≡ (if is_ok r then old ++ 10 ∷ [] else old) → old ++ fields_left separator (drop i fields) ≡ whole → OnOk r (new ≡ whole)
fields_done (Ok done) separator fields i old new whole past e is =
    e ∙ sym (ap (λ fs. old ++ fields_left separator fs) (drop_all i fields past)) ∙ is
fields_done (Err full) separator fields i old new whole past e is = tt
