-- Lists that are written, item by item.
use Rattle.std.proofs.Common.{◌≡◌, ◌∙◌, ℕ, ◌+◌, ◌<◌, ◌≤◌, Bool, true, false, List, [], ◌∷◌, ◌++◌, drop, get_or, length, map, ap, sym, append_assoc}
use Rattle.std.proofs.lemmas.List.{drop_all, drop_more}
use Rattle.records.specs.List.{items_text, list_text}
use Rattle.records.specs.Record.{comma_if}

-- what is still to be added to the text of a list, its bracket too
abbrev pub items_rest : {X : Type 0} → (X → List ℕ) → Bool → List X → List ℕ
items_rest text_of later xs = items_text later (map text_of xs)

-- an item and its comma, between what was there and what is still to come
between : (old comma item rest with_comma with_item whole : List ℕ) → with_comma ≡ old ++ comma → with_item ≡ with_comma ++ item
    → old ++ (comma ++ (item ++ rest)) ≡ whole → with_item ++ rest ≡ whole
between old comma item rest with_comma with_item whole e f is =
    ap (λ front. front ++ rest) (f ∙ ap (λ front. front ++ item) e)
    ∙ append_assoc (old ++ comma) item rest
    ∙ append_assoc old comma (item ++ rest)
    ∙ is

-- an item is added
pub item_more : {X : Type 0} (text_of : X → List ℕ) (later : Bool) (xs : List X) (i : ℕ) (x : X) (old a b whole : List ℕ) → i < length xs
    → x ≡ get_or xs i x → a ≡ old ++ comma_if later → b ≡ a ++ text_of x
    → old ++ items_rest text_of later (drop i xs) ≡ whole → b ++ items_rest text_of true (drop (i + 1) xs) ≡ whole
item_more text_of later xs i x old a b whole inside here e f is =
    let more = drop (i + 1) xs in
    let cut = drop_more xs i x inside ∙ ap (λ y. y ∷ more) (sym here) in
    between old (comma_if later) (text_of x) (items_rest text_of true more) a b whole e f
    (sym (ap (λ ys. old ++ items_rest text_of later ys) cut) ∙ is)

-- the bracket stands in front of all of them
pub items_begun : {X : Type 0} (text_of : X → List ℕ) (xs : List X) (old text : List ℕ) → text ≡ old ++ 91 ∷ []
    → text ++ items_rest text_of false xs ≡ old ++ list_text (map text_of xs)
items_begun text_of xs old text e =
    ap (λ front. front ++ items_rest text_of false xs) e ∙ append_assoc old (91 ∷ []) (items_rest text_of false xs)

-- the bracket is added behind the last one
pub items_done : {X : Type 0} (text_of : X → List ℕ) (later : Bool) (xs : List X) (i : ℕ) (old new whole : List ℕ) → length xs ≤ i
    → new ≡ old ++ 93 ∷ [] → old ++ items_rest text_of later (drop i xs) ≡ whole → new ≡ whole
items_done text_of later xs i old new whole past e is =
    e ∙ sym (ap (λ ys. old ++ items_rest text_of later ys) (drop_all i xs past)) ∙ is
