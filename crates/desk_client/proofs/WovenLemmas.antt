-- Values between fixed words, and that a text has them in one way.
use Rattle.std.proofs.Common.{◌≡◌, ◌≢◌, ◌∙◌, ℕ, ◌<◌, ◌≤◌, true, false, true≢false, List, [], ◌∷◌, ◌++◌, length, drop, take, refl, ap, sym, subst, arith, add-zero, get_or-drop, length-drop}
use Rattle.std.specs.Prelude.{All, slice_index}
use Rattle.std.specs.List.{AllByRecursion}
use Rattle.std.proofs.lemmas.List.{append_cancel_left, take-append-drop, take_all}
use Rattle.std.proofs.lemmas.List.Elements.{recursion_from_All}
use Rattle.desk_client.specs.Text.{BeginsWithStop, LackStops, LacksStop, is_stop, woven}

-- a text is cut in front of its first stop in one way
pub cut : (a b x y : List ℕ) → LacksStop a → LacksStop b → BeginsWithStop x → BeginsWithStop y → a ++ x ≡ b ++ y → (a ≡ b) × (x ≡ y)
cut [] [] x y la lb u v e = (refl, e)
cut [] (c ∷ b) x y la lb u v e =
    let stops : is_stop c ≡ true = subst BeginsWithStop e u in
    absurd (true≢false (sym stops ∙ lb.0))
cut (c ∷ a) [] x y la lb u v e =
    let stops : is_stop c ≡ true = subst BeginsWithStop (sym e) v in
    absurd (true≢false (sym stops ∙ la.0))
cut (c ∷ a) (d ∷ b) x y la lb u v e =
    let first : c ≡ d = cc in
    let rest : a ++ x ≡ b ++ y = cc in
    let same = cut a b x y la.1 lb.1 u v rest in
    (cc, same.1)

-- what lacks a stop is cut nowhere
pub not_cut : (a b y : List ℕ) → LacksStop a → BeginsWithStop y → a ≢ b ++ y
not_cut [] [] y la v e = true≢false (sym (subst BeginsWithStop (sym e) v))
not_cut [] (c ∷ b) y la v e = absurd (cc)
not_cut (c ∷ a) [] y la v e =
    let stops : is_stop c ≡ true = subst BeginsWithStop (sym e) v in
    true≢false (sym stops ∙ la.0)
not_cut (c ∷ a) (d ∷ b) y la v e =
    let rest : a ≡ b ++ y = cc in
    not_cut a b y la.1 v rest

begins_more : (x y : List ℕ) → BeginsWithStop x → BeginsWithStop (x ++ y)
begins_more [] y u = absurd (true≢false (sym u))
begins_more (c ∷ x) y u = u

-- ---- one value

-- a front without a stop, with the end behind it, is the value
pub is_value : (text end value rest behind : List ℕ) (n : ℕ) → value ≡ take n text → rest ≡ drop n text
    → All (λ byte. is_stop byte ≡ false) (take n text) → rest ≡ end ++ behind
    → LacksStop value × (text ≡ value ++ (end ++ behind))
is_value text end value rest behind n front back before is = (
  subst LacksStop (sym front) (recursion_from_All (λ byte. is_stop byte ≡ false) (take n text) before),
  sym (take-append-drop n text) ∙ ap (λ v. v ++ drop n text) (sym front) ∙ ap (λ r. value ++ r) (sym back ∙ is),
)

-- where the end does not stand at the first stop, the text has no value before an end
pub no_value : (text end rest : List ℕ) (n : ℕ) → rest ≡ drop n text
    → All (λ byte. is_stop byte ≡ false) (take n text)
    → (n < length text → is_stop (slice_index text n) ≡ true)
    → BeginsWithStop end → ((behind : List ℕ) → rest ≢ end ++ behind)
    → (v x : List ℕ) → LacksStop v → text ≢ v ++ (end ++ x)
no_value text end rest n back before found begins none v x lacks same = by_rest rest back
  where
    front : LacksStop (take n text)
    front = recursion_from_All (λ byte. is_stop byte ≡ false) (take n text) before

    whole : take n text ++ drop n text ≡ v ++ (end ++ x)
    whole = take-append-drop n text ∙ same

    by_rest : (r : List ℕ) → r ≡ drop n text → ⊥
    by_rest [] e =
        not_cut text v (end ++ x) (subst LacksStop (take_all n text (omega (arith, ap length e, length-drop n text))) front) (begins_more end x begins) same
    by_rest (b ∷ bs) e =
        let inside : n < length text = omega (arith, ap length e, length-drop n text) in
        let first : BeginsWithStop (drop n text) = rw (get_or-drop, add-zero) (found inside) in
        none x (back ∙ (cut (take n text) v (drop n text) (end ++ x) front lacks first (begins_more end x begins) whole).1)

-- ---- all of them

-- one value more
pub woven-more : (vs es : List (List ℕ)) (v e rest : List ℕ) → length vs ≡ length es
    → woven (vs ++ v ∷ []) (es ++ e ∷ []) rest ≡ woven vs es (v ++ (e ++ rest))
woven-more [] [] v e rest same = refl
woven-more [] (f ∷ es) v e rest same = absurd (omega (arith, same))
woven-more (w ∷ vs) [] v e rest same = absurd (omega (arith, same))
woven-more (w ∷ vs) (f ∷ es) v e rest same = ap (λ r. w ++ (f ++ r)) (woven-more vs es v e rest (omega (arith, same)))

-- what is left of a text behind some of its values, as any reading of it has it
pub left_of : (vs es fs : List (List ℕ)) (rest : List ℕ) (ws : List (List ℕ)) (more : List ℕ) → length vs ≡ length es → length ws ≡ length (es ++ fs)
    → AllByRecursion BeginsWithStop es → LackStops vs → LackStops ws → woven vs es rest ≡ woven ws (es ++ fs) more
    → (xs : List (List ℕ)) × (length xs ≡ length fs) × LackStops xs × (rest ≡ woven xs fs more)
left_of [] [] fs rest ws more few all begin lv lw e = (ws, all, lw, e)
left_of [] (f ∷ es) fs rest ws more few all begin lv lw e = absurd (omega (arith, few))
left_of (v ∷ vs) [] fs rest ws more few all begin lv lw e = absurd (omega (arith, few))
left_of (v ∷ vs) (f ∷ es) fs rest [] more few all begin lv lw e = absurd (omega (arith, all))
left_of (v ∷ vs) (f ∷ es) fs rest (w ∷ ws) more few all begin lv lw e =
    let same = cut v w (f ++ woven vs es rest) (f ++ woven ws (es ++ fs) more) lv.0 lw.0 (begins_more f _ begin.0) (begins_more f _ begin.0) e in
    left_of vs es fs rest ws more (omega (arith, few)) (omega (arith, all)) begin.1 lv.1 lw.1 (append_cancel_left f _ _ same.1)

-- ---- one reading

same_values : (vs ws es : List (List ℕ)) (r q : List ℕ) → length es ≤ length vs → length ws ≡ length es → AllByRecursion BeginsWithStop es → LackStops vs
    → LackStops ws → woven vs es r ≡ woven ws es q → (take (length es) vs ≡ ws) × (r ≡ q)
same_values [] [] [] r q many all begin lv lw e = (refl, e)
same_values (v ∷ vs) [] [] r q many all begin lv lw e = (refl, e)
same_values vs (w ∷ ws) [] r q many all begin lv lw e = absurd (omega (arith, all))
same_values [] ws (f ∷ es) r q many all begin lv lw e = absurd (omega (arith, many))
same_values (v ∷ vs) [] (f ∷ es) r q many all begin lv lw e = absurd (omega (arith, all))
same_values (v ∷ vs) (w ∷ ws) (f ∷ es) r q many all begin lv lw e =
    let same = cut v w (f ++ woven vs es r) (f ++ woven ws es q) lv.0 lw.0 (begins_more f _ begin.0) (begins_more f _ begin.0) e in
    let rest = same_values vs ws es r q (omega (arith, many)) (omega (arith, all)) begin.1 lv.1 lw.1 (append_cancel_left f _ _ same.1) in
    let first = same.0 in
    let others = rest.0 in (cc, rest.1)

-- a text has the values at its front in one way, and what follows them
pub one_front : (text front : List ℕ) (vs ws es : List (List ℕ)) (r q : List ℕ) → length es ≤ length vs → length ws ≡ length es
    → AllByRecursion BeginsWithStop es → LackStops vs → LackStops ws → text ≡ front ++ woven vs es r → text ≡ front ++ woven ws es q
    → (take (length es) vs ≡ ws) × (r ≡ q)
one_front text front vs ws es r q many all begin lv lw e f =
    same_values vs ws es r q many all begin lv lw (append_cancel_left front (woven vs es r) (woven ws es q) (sym e ∙ f))

-- the same of a whole text
pub one_reading : (text front : List ℕ) (vs ws es : List (List ℕ)) → length es ≤ length vs → length ws ≡ length es → AllByRecursion BeginsWithStop es
    → LackStops vs → LackStops ws → text ≡ front ++ woven vs es [] → text ≡ front ++ woven ws es [] → take (length es) vs ≡ ws
one_reading text front vs ws es many all begin lv lw e f = (one_front text front vs ws es [] [] many all begin lv lw e f).0
