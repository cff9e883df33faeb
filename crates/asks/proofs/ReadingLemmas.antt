-- What is read of targets and of bodies.
use Rattle.std.proofs.Common.{◌≡◌, ◌≢◌, ◌∙◌, ℕ, zero, suc, ◌+◌, ◌-◌, ◌<◌, ◌≤◌, Bool, true, false, eqb, List, [], ◌∷◌, ◌++◌, length, take, drop, get_or, map, refl, ap, sym, subst, arith, append_assoc, get_or-drop, add-zero, length-drop}
use Rattle.std.specs.Prelude.{All, slice_index}
use Rattle.std.proofs.lemmas.List.{take-append-drop, take_all}
use Rattle.std.proofs.lemmas.List.Elements.{recursion_from_All}
use Rattle.records.specs.Record.{now}
use Rattle.asks.specs.Endpoint.{Place, place_of}
use Rattle.asks.specs.Target.{AreIn, IsRest, LacksSlash, PutsFound, places_text}
use Rattle.asks.specs.Value.{DaysAreRead, StandsIn, text_of}
use Rattle.asks.specs.declared.endpoint.Slot.{Slot}
use Rattle.asks.specs.declared.value.Value.{Value}
use Rattle.asks.proofs.PlaceLemmas.{behind_front, places_rest, word_lacks}
use Rattle.asks.proofs.ValueLemmas.{value_word}

-- what stands behind the first of a list
abbrev pub others : {A : Type 0} → List A → List A
others xs = take (length xs - 1) (drop 1 xs)

-- a list is its first and what stands behind it
pub parted : {A B : Type 0} (f : A → B) (xs : List A) (d : A) → 1 ≤ length xs → f (get_or xs 0 d) ∷ map f (others xs) ≡ map f xs
parted f [] d some = absurd (omega (arith, some))
parted {A} f (x ∷ xs) d some = ap (λ (ys : List A). f x ∷ map f ys) (take_all (length (x ∷ xs) - 1) xs (omega arith))

-- ---- targets

module _ (days : DaysAreRead) (p : Place) (ps : List Place) (end text : List ℕ) (old new : List Value) where
  -- without a piece behind the front the text has no values
  pub no_piece : ((piece rest : List ℕ) → LacksSlash piece → IsRest rest → text ≢ 47 ∷ (p.front ++ (piece ++ rest)))
      → PutsFound (AreIn (p ∷ ps) end text) old new false
  no_piece none [] is = absurd is.are
  no_piece none (v ∷ vs) is =
      none (text_of v) (places_text ps end vs) (word_lacks (text_of v) (value_word days v is.are.0.kept)) (places_rest ps end vs) is.written

  -- nor does it have any where that is no value, or nothing follows that has the others
  module _ (piece rest : List ℕ) (lacks : LacksSlash piece) (is_rest : IsRest rest) (cut : text ≡ 47 ∷ (p.front ++ (piece ++ rest))) where
    same : (v : Value) (vs : List Value) → AreIn (p ∷ ps) end text (v ∷ vs) → (piece ≡ text_of v) × (rest ≡ places_text ps end vs)
    same v vs is = behind_front days p.front piece rest p ps end v vs is.are.0 lacks is_rest (sym cut ∙ is.written)

    -- none where the piece tells no value
    pub no_value : ((v : Value) → ¬ StandsIn p.kind piece v) → PutsFound (AreIn (p ∷ ps) end text) old new false
    no_value none [] is = absurd is.are
    no_value none (v ∷ vs) is = none v (record { is_of = is.are.0; told = sym (same v vs is).0 })

    -- where it does, what is found of the rest decides
    pub with_value : (value : Value) (pushed : List Value) (r : Bool) → StandsIn p.kind piece value → pushed ≡ old ++ value ∷ []
        → PutsFound (AreIn ps end rest) pushed new r → PutsFound (AreIn (p ∷ ps) end text) old new r
    with_value value pushed true stands is found = (
      value ∷ found.0,
      found.1 ∙ ap (λ (front : List Value). front ++ found.0) is ∙ append_assoc old (value ∷ []) found.0,
      record {
        are = (stands.is_of, found.2.are);
        written = cut ∙ ap (λ (t : List ℕ). 47 ∷ (p.front ++ (t ++ rest))) (sym stands.told)
            ∙ ap (λ (t : List ℕ). 47 ∷ (p.front ++ (text_of value ++ t))) found.2.written;
      },
    )
    with_value value pushed false stands is none = λ values in_it. none_with values in_it
      where
        none_with : (values : List Value) → ¬ AreIn (p ∷ ps) end text values
        none_with [] in_it = absurd in_it.are
        none_with (v ∷ vs) in_it = none vs (record { are = in_it.are.1; written = (same v vs in_it).1 })

-- the same of the slots of a row
module _ (days : DaysAreRead) (slots : List Slot) (d : Slot) (some : 1 ≤ length slots) (end bytes : List ℕ) where
  -- as they are at the first of them
  at_first : (values : List Value) → AreIn (map place_of slots) end bytes values
      → AreIn (place_of (get_or slots 0 d) ∷ map place_of (others slots)) end bytes values
  at_first values is = subst (λ (ps : List Place). AreIn ps end bytes values) (sym (parted place_of slots d some)) is

  -- without a piece
  pub no_piece_at : ((piece rest : List ℕ) → LacksSlash piece → IsRest rest → bytes ≢ 47 ∷ ((get_or slots 0 d).front.now ++ (piece ++ rest)))
      → (values : List Value) → ¬ AreIn (map place_of slots) end bytes values
  no_piece_at none values is =
      no_piece days (place_of (get_or slots 0 d)) (map place_of (others slots)) end bytes [] [] none values (at_first values is)

  module _ (piece rest : List ℕ) (lacks : LacksSlash piece) (is_rest : IsRest rest)
      (cut : bytes ≡ 47 ∷ ((get_or slots 0 d).front.now ++ (piece ++ rest))) where
    -- without a value in it
    pub no_value_at : ((v : Value) → ¬ StandsIn (get_or slots 0 d).kind piece v) → (values : List Value) → ¬ AreIn (map place_of slots) end bytes values
    no_value_at none values is =
        no_value days (place_of (get_or slots 0 d)) (map place_of (others slots)) end bytes [] [] piece rest lacks is_rest cut none values
        (at_first values is)

    -- with a value in it
    pub with_value_at : (old new : List Value) (value : Value) (pushed : List Value) (r : Bool) → StandsIn (get_or slots 0 d).kind piece value
        → pushed ≡ old ++ value ∷ [] → PutsFound (AreIn (map place_of (others slots)) end rest) pushed new r
        → PutsFound (AreIn (map place_of slots) end bytes) old new r
    with_value_at old new value pushed r stands is found =
        subst (λ (ps : List Place). PutsFound (AreIn ps end bytes) old new r) (parted place_of slots d some)
        (with_value days (place_of (get_or slots 0 d)) (map place_of (others slots)) end bytes old new piece rest lacks is_rest cut value pushed r stands is found)

-- a text is cut in front of its first slash
pub cut_rest : (bytes : List ℕ) (n : ℕ) → (n < length bytes → slice_index bytes n ≡ 47) → IsRest (drop n bytes)
cut_rest bytes n found = by_rest (drop n bytes) refl
  where
    by_rest : (r : List ℕ) → r ≡ drop n bytes → IsRest r
    by_rest [] none = tt
    by_rest (c ∷ r) some =
        let within : n < length bytes = omega (arith, ap length some, length-drop n bytes) in
        ap (λ (s : List ℕ). slice_index s 0) some ∙ rw (get_or-drop, add-zero) (found within)

-- no byte of it is a slash
pub lacks_before : (bytes : List ℕ) → All (λ byte. eqb byte 47 ≡ false) bytes → LacksSlash bytes
lacks_before bytes all = recursion_from_All (λ byte. eqb byte 47 ≡ false) bytes all

-- where a slash is not followed by the front there is no piece
pub no_front : (whole inside front p piece rest : List ℕ) → whole ≡ 47 ∷ inside → p ≡ front → ((m : List ℕ) → inside ≢ p ++ m)
    → whole ≢ 47 ∷ (front ++ (piece ++ rest))
no_front whole inside front p piece rest e same none is =
    let behind : inside ≡ front ++ (piece ++ rest) = cc in
    none (piece ++ rest) (behind ∙ ap (λ (f : List ℕ). f ++ (piece ++ rest)) (sym same))

-- the piece behind a front, and the rest
pub cut_piece : (whole inside front p behind : List ℕ) (n : ℕ) (a b : List ℕ) → whole ≡ 47 ∷ inside → p ≡ front → inside ≡ p ++ behind
    → a ≡ take n behind → b ≡ drop n behind → All (λ byte. eqb byte 47 ≡ false) (take n behind) → (n < length behind → slice_index behind n ≡ 47)
    → LacksSlash a × IsRest b × (whole ≡ 47 ∷ (front ++ (a ++ b)))
cut_piece whole inside front p behind n a b e same is first second before found = (
  subst LacksSlash (sym first) (lacks_before (take n behind) before),
  subst IsRest (sym second) (cut_rest behind n found),
  e ∙ ap (λ (t : List ℕ). 47 ∷ t) (is ∙ ap (λ (f : List ℕ). f ++ behind) same ∙ ap (λ (t : List ℕ). front ++ t) (sym (take-append-drop n behind)
      ∙ ap (λ (t : List ℕ). t ++ drop n behind) (sym first) ∙ ap (λ (t : List ℕ). a ++ t) (sym second))),
)
