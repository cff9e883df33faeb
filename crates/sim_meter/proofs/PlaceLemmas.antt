-- The place of an identifier among sorted ones: who stands before it, and what comes in there.
use Rattle.std.proofs.Common.{◌≡◌, ◌≢◌, ℕ, ◌+◌, ◌-◌, ◌<◌, ◌≤◌, Bool, true, false, cond, eqb, ltb, List, [], ◌∷◌, ◌++◌, length, map, get_or, replicate, set, take, drop, inl, inr, refl, sym, ◌∙◌, ap, subst, arith}
use Rattle.std.specs.List.{copy_within, insert}
use Rattle.std.specs.List.Sorted.{IsPermutation}
use Rattle.std.proofs.lemmas.Bool.{cases_Bool, cases_eq, cases_lt, eq-eqb, false≢true, ne_eqb}
use Rattle.std.proofs.lemmas.Bool.Decides.{nat_tests}
use Rattle.std.proofs.lemmas.List.{drop-drop, drop_more, get_or-drop, get_or-map, get_or-replicate, get_or_default, length-drop, length-replicate, length-take-le, set_at}
use Rattle.std.proofs.lemmas.List.Edits.{get_or-insert_above, get_or-insert_at, get_or-insert_below, length-insert}
use Rattle.std.proofs.lemmas.List.Folds.{list_any_at, list_any_none}
use Rattle.std.proofs.lemmas.List.Sorted.{IsPermutation-insert}
use Rattle.std.proofs.lemmas.List.Sums.{count_by-le-length, sum_by-cons}
use Rattle.sts_token.specs.Meter.{is_member}
use Rattle.sim_meter.specs.Probe.{true_count, value_at}
use Rattle.sim_meter.specs.Store.{AreSorted, count_below}
use Rattle.sim_meter.specs.StoreLaws.{below_true_first}
use Rattle.sim_meter.proofs.ProbeLemmas.{false_is_from, true_is_within}

abbrev is_below : ℕ → ℕ → Bool
is_below t kept = ltb kept t

-- what a probe of sorted identifiers counts
pub count_probed : (t : ℕ) (places : List ℕ)
    → true_count (map (λ kept. ltb kept t) places) ≡ count_below t places
count_probed t [] = refl
count_probed t (kept ∷ places) =
    sum_by-cons (λ (v : Bool). cond v 1 0) (ltb kept t) (map (is_below t) places)
    ∙ ap (λ (n : ℕ). cond (ltb kept t) 1 0 + n) (count_probed t places)
    ∙ sym (sum_by-cons (λ (k : ℕ). cond (ltb k t) 1 0) kept places)

-- a new store is sorted
pub zeros_sorted : AreSorted (replicate 50 0)
zeros_sorted =
    let fifty = length-replicate {A = ℕ} 50 0 in
    record {
      fifty = fifty;
      upward = λ i j d under within.
          let first = get_or-replicate 50 i 0 d (omega arith) in
          let second = get_or-replicate 50 j 0 d (omega arith) in
          omega arith;
    }

-- ---- before the place all are less, and from it on none is
before_place : (t : ℕ) (places : List ℕ) (k d : ℕ) → AreSorted places → k < count_below t places
    → get_or places k d < t
before_place t places k d are before =
    let values = map (is_below t) places in
    let within = count_by-le-length (is_below t) places in
    let at = get_or-map (is_below t) places k d false (omega arith) in
    elim (cases_Bool (value_at values k)) [
      | inl is_true ↦
          let less : ltb (get_or places k d) t ≡ true = sym at ∙ is_true in
          grind (arith, nat_tests)
      | inr is_false ↦
          let from = false_is_from values (below_true_first t places are) k is_false in
          absurd (omega (arith, from, count_probed t places))
    ]

from_place : (t : ℕ) (places : List ℕ) (k d : ℕ) → AreSorted places → count_below t places ≤ k
    → k < 50 → t ≤ get_or places k d
from_place t places k d are from within =
    let values = map (is_below t) places in
    let fifty = are.fifty in
    let at = get_or-map (is_below t) places k d false (omega arith) in
    elim (cases_Bool (value_at values k)) [
      | inl is_true ↦
          let before = true_is_within values (below_true_first t places are) k is_true in
          absurd (omega (arith, before, count_probed t places))
      | inr is_false ↦
          let not_less : ltb (get_or places k d) t ≡ false = sym at ∙ is_false in
          grind (arith, nat_tests)
    ]

-- ---- whether an identifier is kept
pub kept_at : (t : ℕ) (places : List ℕ) (place : ℕ) → AreSorted places → place < 50
    → get_or places place 0 ≡ t → is_member places t ≡ true
kept_at t places place are within here =
    let fifty = are.fifty in
    list_any_at (eqb t) places place 0 (omega arith) (eq-eqb t (get_or places place 0) (sym here))

-- an identifier that is not found at its place is not kept at all
pub not_kept : (t : ℕ) (places : List ℕ) (place : ℕ) → AreSorted places
    → place ≡ count_below t places → (place < 50 → get_or places place 0 ≢ t)
    → is_member places t ≡ false
not_kept t places place are is other =
    let fifty = are.fifty in
    list_any_none (eqb t) places (λ k d h.
    elim (cases_lt k place) [
      | inl before ↦
          let less = before_place t places k d are (omega arith) in
          ne_eqb t (get_or places k d) (λ e. absurd (omega arith))
      | inr from ↦
          let above = from_place t places place 0 are (omega arith) (omega arith) in
          let differs = other (omega arith) in
          let rises = are.upward place k 0 from h in
          let same = get_or_default places k d 0 h in
          ne_eqb t (get_or places k d) (λ e. absurd (omega arith))
    ])

-- the test of the place tells it, past the end too
pub test_at : (t : ℕ) (places : List ℕ) (place : ℕ) → AreSorted places
    → place ≡ count_below t places → place < 50
    → eqb (get_or places place 0) t ≡ is_member places t
test_at t places place are is within =
    elim (cases_eq (get_or places place 0) t) [
      | inl here ↦ eq-eqb (get_or places place 0) t here ∙ sym (kept_at t places place are within here)
      | inr other ↦ ne_eqb (get_or places place 0) t other ∙ sym (not_kept t places place are is (λ small. other))
    ]

not_less : (a b : ℕ) → b ≤ a → ltb a b ≡ false
not_less a b above = grind (arith, nat_tests)

-- one whose place is past the end is not kept
pub test_past : (t : ℕ) (places : List ℕ) (place : ℕ) → AreSorted places
    → place ≡ count_below t places → 50 ≤ place → ltb place 50 ≡ is_member places t
test_past t places place are is past =
    not_less place 50 past
    ∙ sym (not_kept t places place are is (λ small. absurd (omega arith)))

-- what is among them is not below the least
pub among_above : (t : ℕ) (places : List ℕ) → AreSorted places → is_member places t ≡ true
    → get_or places 0 0 ≤ t
among_above t places are there =
    let fifty = are.fifty in
    elim (cases_lt t (get_or places 0 0)) [
      | inl under ↦
          let none = list_any_none (eqb t) places (λ k d h.
          let rises = are.upward 0 k 0 (omega arith) h in
          let same = get_or_default places k d 0 h in
          ne_eqb t (get_or places k d) (λ e. absurd (omega arith))) in
          absurd (false≢true (sym none ∙ there))
      | inr over ↦ over
    ]

-- one that is not kept, with none below it, is below the least
pub below_least : (t : ℕ) (places : List ℕ) → AreSorted places → count_below t places ≡ 0
    → is_member places t ≡ false → t < get_or places 0 0
below_least t places are first none =
    let fifty = are.fifty in
    let least = from_place t places 0 0 are (omega arith) (omega arith) in
    let differs : get_or places 0 0 ≢ t = λ here.
    false≢true (sym none ∙ kept_at t places 0 are (omega arith) here) in
    omega arith

-- one that is above some of them is above the least
pub above_least : (t : ℕ) (places : List ℕ) → AreSorted places → 0 < count_below t places
    → get_or places 0 0 < t
above_least t places are some = before_place t places 0 0 are some

-- ---- one comes in, and the least goes
inserted : (places : List ℕ) (place t : ℕ) → 0 < place → place ≤ length places
    → set (copy_within places 1 place 0) (place - 1) t ≡ insert (drop 1 places) (place - 1) t
inserted places place t some within =
    let n = place - 1 in
    let front = take n (drop 1 places) in
    let whole : 0 + n ≡ n = omega arith in
    let next : n + 1 ≡ 1 + n = omega arith in
    let from : drop (0 + n) places ≡ get_or places n 0 ∷ drop (n + 1) places =
    ap (λ (m : ℕ). drop m places) whole ∙ drop_more places n 0 (omega arith) in
    let count = length-take-le n (drop 1 places) (omega (arith, length-drop 1 places)) in
    ap (λ (rest : List ℕ). set (front ++ rest) n t) from
    ∙ set_at front (get_or places n 0) (drop (n + 1) places) t n count
    ∙ ap (λ (rest : List ℕ). front ++ t ∷ rest)
    (ap (λ (m : ℕ). drop m places) next ∙ sym (drop-drop n 1 places))

-- what stands where, after it came in
at_low : (places : List ℕ) (n t k d : ℕ) → n < length places → k < n
    → get_or (insert (drop 1 places) n t) k d ≡ get_or places (1 + k) d
at_low places n t k d within low =
    get_or-insert_below (drop 1 places) n t d k low (omega (arith, length-drop 1 places))
    ∙ get_or-drop 1 places k d

at_place : (places : List ℕ) (n t k d : ℕ) → n < length places → k ≡ n
    → get_or (insert (drop 1 places) n t) k d ≡ t
at_place places n t k d within here =
    ap (λ (m : ℕ). get_or (insert (drop 1 places) n t) m d) here
    ∙ get_or-insert_at (drop 1 places) n t d (omega (arith, length-drop 1 places))

at_high : (places : List ℕ) (n t k d : ℕ) → n < length places → n < k
    → get_or (insert (drop 1 places) n t) k d ≡ get_or places k d
at_high places n t k d within high =
    let before : k ≡ k - 1 + 1 = omega arith in
    let again : 1 + (k - 1) ≡ k = omega arith in
    ap (λ (m : ℕ). get_or (insert (drop 1 places) n t) m d) before
    ∙ get_or-insert_above (drop 1 places) n t d (k - 1) (omega arith)
    (omega (arith, length-drop 1 places))
    ∙ get_or-drop 1 places (k - 1) d ∙ ap (λ (m : ℕ). get_or places m d) again

insert_upward : (places : List ℕ) (n t i j d : ℕ) → AreSorted places
    → n + 1 ≡ count_below t places → i ≤ j → j < 50
    → get_or (insert (drop 1 places) n t) i d ≤ get_or (insert (drop 1 places) n t) j d
insert_upward places n t i j d are is under within =
    let fifty = are.fifty in
    let count = count_by-le-length (is_below t) places in
    let room : n < length places = omega arith in
    elim (cases_lt j n) [
      | inl low ↦
          let first = at_low places n t i d room (omega arith) in
          let second = at_low places n t j d room low in
          let rises = are.upward (1 + i) (1 + j) d (omega arith) (omega arith) in
          omega arith
      | inr from ↦
          elim (cases_lt n j) [
            | inl high ↦
                let second = at_high places n t j d room high in
                elim (cases_lt i n) [
                  | inl low ↦
                      let first = at_low places n t i d room low in
                      let rises = are.upward (1 + i) j d (omega arith) (omega arith) in
                      omega arith
                  | inr over ↦
                      elim (cases_lt n i) [
                        | inl above ↦
                            let first = at_high places n t i d room above in
                            let rises = are.upward i j d under (omega arith) in
                            omega arith
                        | inr equal ↦
                            let first = at_place places n t i d room (omega arith) in
                            let not_less = from_place t places j d are (omega arith) within in
                            omega arith
                      ]
                ]
            | inr equal ↦
                let second = at_place places n t j d room (omega arith) in
                elim (cases_lt i n) [
                  | inl low ↦
                      let first = at_low places n t i d room low in
                      let less = before_place t places (1 + i) d are (omega arith) in
                      omega arith
                  | inr same ↦
                      let first = at_place places n t i d room (omega arith) in
                      omega arith
                ]
          ]
    ]

insert_sorted : (places : List ℕ) (n t : ℕ) → AreSorted places → n + 1 ≡ count_below t places
    → AreSorted (insert (drop 1 places) n t)
insert_sorted places n t are is =
    let fifty = are.fifty in
    let count = count_by-le-length (is_below t) places in
    let rest = length-drop 1 places in
    let more = length-insert (drop 1 places) n t (omega arith) in
    record {
      fifty = omega arith;
      upward = λ i j d under within. insert_upward places n t i j d are is under (omega arith);
    }

-- the least is written over by those after it, up to the place, and the identifier comes there
pub moved_in_permutes : (t : ℕ) (places : List ℕ) (place : ℕ) → AreSorted places
    → place ≡ count_below t places → 0 < place
    → IsPermutation (t ∷ drop 1 places) (set (copy_within places 1 place 0) (place - 1) t)
moved_in_permutes t places place are is some =
    let count = count_by-le-length (is_below t) places in
    subst (λ (after : List ℕ). IsPermutation (t ∷ drop 1 places) after)
    (sym (inserted places place t some (omega arith)))
    (IsPermutation-insert (drop 1 places) (place - 1) t)

-- the identifiers are still sorted after one came in at its place
pub moved_in_sorted : (t : ℕ) (places : List ℕ) (place : ℕ) → AreSorted places
    → place ≡ count_below t places → 0 < place
    → AreSorted (set (copy_within places 1 place 0) (place - 1) t)
moved_in_sorted t places place are is some =
    let count = count_by-le-length (is_below t) places in
    subst AreSorted (sym (inserted places place t some (omega arith)))
    (insert_sorted places (place - 1) t are (omega arith))
