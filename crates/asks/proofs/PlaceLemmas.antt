-- A target names its values in one way.
use Rattle.std.proofs.Common.{◌≡◌, ◌≢◌, ◌∙◌, ℕ, Bool, true, false, true≢false, eqb, List, [], ◌∷◌, ◌++◌, map, refl, ap, sym, subst, arith}
use Rattle.std.specs.List.{AllByRecursion}
use Rattle.std.proofs.lemmas.Bool.Decides.{nat_tests}
use Rattle.std.proofs.lemmas.List.{append_cancel_left}
use Rattle.office_rules.specs.Name.{is_name_byte}
use Rattle.asks.specs.Endpoint.{Place}
use Rattle.asks.specs.Target.{AreIn, IsRest, LacksSlash, end_text, kind_at, places_text}
use Rattle.asks.specs.Value.{AreOf, DaysAreRead, IsOf, text_of}
use Rattle.asks.specs.declared.value.Value.{Value}
use Rattle.asks.proofs.ValueLemmas.{IsWord, one_value, value_word}

slashless : (b : ℕ) → is_name_byte b ≡ true → eqb b 47 ≡ false
slashless b e = grind (arith, nat_tests)

-- a word has no slash
pub word_lacks : (text : List ℕ) → IsWord text → LacksSlash text
word_lacks [] is = tt
word_lacks (b ∷ text) is = (slashless b is.0, word_lacks text is.1)

slash : (b : ℕ) → b ≡ 47 → eqb b 47 ≡ true
slash b e = rw e refl

-- a text is cut at its first slash, or at its end, in one way
pub cut : (a b x y : List ℕ) → LacksSlash a → LacksSlash b → IsRest x → IsRest y → a ++ x ≡ b ++ y → (a ≡ b) × (x ≡ y)
cut [] [] x y la lb rx ry e = (refl, e)
cut [] (n ∷ b) [] y la lb rx ry e = absurd cc
cut [] (n ∷ b) (c ∷ x) y la lb rx ry e =
    let same : c ≡ n = cc in
    absurd (true≢false (sym (slash n (sym same ∙ rx)) ∙ lb.0))
cut (n ∷ a) [] x [] la lb rx ry e = absurd cc
cut (n ∷ a) [] x (d ∷ y) la lb rx ry e =
    let same : n ≡ d = cc in
    absurd (true≢false (sym (slash n (same ∙ ry)) ∙ la.0))
cut (n ∷ a) (m ∷ b) x y la lb rx ry e =
    let first : n ≡ m = cc in
    let rest : a ++ x ≡ b ++ y = cc in
    let same = cut a b x y la.1 lb.1 rx ry rest in
    let others = same.0 in
    (cc, same.1)

-- the end of a target may follow a value, and so may further values with it
pub end_rest : (end : List ℕ) → IsRest (end_text end)
end_rest [] = tt
end_rest (b ∷ words) = refl

-- so is what the places behind it are told by
pub places_rest : (places : List Place) (end : List ℕ) (values : List Value) → IsRest (places_text places end values)
places_rest [] end values = end_rest end
places_rest (p ∷ places) end [] = end_rest end
places_rest (p ∷ places) end (v ∷ values) = refl

-- what stands behind a front is what its value is and what follows it
pub behind_front : DaysAreRead → (front piece rest : List ℕ) (p : Place) (places : List Place) (end : List ℕ) (v : Value) (values : List Value)
    → IsOf p.kind v → LacksSlash piece → IsRest rest
    → 47 ∷ (p.front ++ (piece ++ rest)) ≡ 47 ∷ (p.front ++ (text_of v ++ places_text places end values))
    → (piece ≡ text_of v) × (rest ≡ places_text places end values)
behind_front days front piece rest p places end v values is lacks is_rest e =
    let inside : p.front ++ (piece ++ rest) ≡ p.front ++ (text_of v ++ places_text places end values) = cc in
    cut piece (text_of v) rest (places_text places end values) lacks (word_lacks (text_of v) (value_word days v is.kept)) is_rest (places_rest places end values)
    (append_cancel_left p.front (piece ++ rest) (text_of v ++ places_text places end values) inside)

-- two values of a kind that stand in one piece are one
pub one_piece : DaysAreRead → (p : Place) (v w : Value) → IsOf p.kind v → IsOf p.kind w → text_of v ≡ text_of w → v ≡ w
one_piece days p v w is are e = one_value days v w (is.of_kind ∙ sym are.of_kind) is.kept are.kept e

-- one text has one list of values
pub one_list : DaysAreRead → (places : List Place) (end : List ℕ) (vs ws : List Value) → AreOf (map kind_at places) vs → AreOf (map kind_at places) ws
    → places_text places end vs ≡ places_text places end ws → vs ≡ ws
one_list days [] end [] [] is are e = refl
one_list days [] end [] (w ∷ ws) is are e = absurd are
one_list days [] end (v ∷ vs) ws is are e = absurd is
one_list days (p ∷ places) end [] ws is are e = absurd is
one_list days (p ∷ places) end (v ∷ vs) [] is are e = absurd are
one_list days (p ∷ places) end (v ∷ vs) (w ∷ ws) is are e =
    let same = behind_front days p.front (text_of v) (places_text places end vs) p places end w ws are.0 (word_lacks (text_of v) (value_word days v is.0.kept))
    (places_rest places end vs) e in
    let first = one_piece days p v w is.0 are.0 same.0 in
    let others = one_list days places end vs ws is.1 are.1 same.1 in
    cc
