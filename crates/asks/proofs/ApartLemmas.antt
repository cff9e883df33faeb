-- No message asks by two kinds: of two rows with one method no target is that of both.
use Rattle.std.proofs.Common.{◌≡◌, ◌≢◌, ◌⊎◌, inl, inr, ◌∙◌, ℕ, zero, suc, ◌&&◌, ◌||◌, Bool, true, false, true≢false, not, eqb, List, [], ◌∷◌, ◌++◌, Option, Some, None, length, map, refl, ap, sym, subst, arith}
use Rattle.std.specs.List.{list_all, slice_get}
use Rattle.std.proofs.lemmas.Bool.{and_parts}
use Rattle.std.proofs.lemmas.Bool.Decides.{nat_tests}
use Rattle.std.proofs.lemmas.List.{append_cancel_left, append-nil}
use denote.Enum.Bare.{same_true, sameb, true_same}
use denote.Enum.Declared.{tag_of}
use Rattle.conversation.specs.declared.message.method.Method.{Method}
use Rattle.conversation.specs.contracts.message.method.Method.{the_type as method_type}
use Rattle.asks.specs.contracts.kind.AskKind.{the_type}
use Rattle.asks.specs.Endpoint.{Place, Row, all_kinds, endpoint_of}
use Rattle.asks.specs.Target.{end_text, kind_at, places_text}
use Rattle.asks.specs.Value.{AreOf, DaysAreRead, text_of}
use Rattle.asks.specs.declared.kind.AskKind.{AskKind}
use Rattle.asks.specs.declared.kind.AskKind.TheVariants as kinds
use Rattle.asks.specs.declared.value.Value.{Value}
use Rattle.asks.proofs.PlaceLemmas.{cut, places_rest, word_lacks}
use Rattle.asks.proofs.ValueLemmas.{value_some, value_word}

-- ---- the test

-- a text begins with a front
abbrev begins : List ℕ → List ℕ → Bool
begins text [] = true
begins [] (b ∷ front) = false
begins (a ∷ text) (b ∷ front) = eqb a b && begins text front

abbrev same : List ℕ → List ℕ → Bool
same a b = begins a b && begins b a

-- two rows have no target in common, as their words tell
abbrev apart : List Place → List ℕ → List Place → List ℕ → Bool
apart [] end [] other = not (same end other)
apart [] end (q ∷ qs) other = not (begins end q.front) || same end q.front
apart (p ∷ ps) end [] other = not (begins other p.front) || same other p.front
apart (p ∷ ps) end (q ∷ qs) other =
    (not (begins p.front q.front) && not (begins q.front p.front)) || (same p.front q.front && apart ps end qs other)

-- ---- what the test tells

by_test : (a b : ℕ) → eqb a b ≡ true → a ≡ b
by_test a b e = grind (arith, nat_tests)

self : (a : ℕ) → eqb a a ≡ true
self a = grind (arith, nat_tests)

both : (a b : Bool) → a ≡ true → b ≡ true → (a && b) ≡ true
both true b p q = q
both false b p q = absurd cc

begins-front : (front rest : List ℕ) → begins (front ++ rest) front ≡ true
begins-front [] rest = refl
begins-front (b ∷ front) rest = both (eqb b b) (begins (front ++ rest) front) (self b) (begins-front front rest)

same_text : (a b : List ℕ) → begins a b ≡ true → begins b a ≡ true → a ≡ b
same_text [] [] p q = refl
same_text [] (n ∷ b) p q = absurd (true≢false (sym p))
same_text (m ∷ a) [] p q = absurd (true≢false (sym q))
same_text (m ∷ a) (n ∷ b) p q =
    let first = by_test m n (and_parts (eqb m n) (begins a b) p).0 in
    let others = same_text a b (and_parts (eqb m n) (begins a b) p).1 (and_parts (eqb n m) (begins b a) q).1 in
    cc

is_same : (a b : List ℕ) → same a b ≡ true → a ≡ b
is_same a b e = let parts = and_parts (begins a b) (begins b a) e in same_text a b parts.0 parts.1

self_same : (a : List ℕ) → same a a ≡ true
self_same a =
    let own = subst (λ (t : List ℕ). begins t a ≡ true) (append-nil a) (begins-front a []) in
    both (begins a a) (begins a a) own own

-- of two fronts of one text one begins with the other
one_begins : (f g x y : List ℕ) → f ++ x ≡ g ++ y → (begins f g ≡ true) ⊎ (begins g f ≡ true)
one_begins [] g x y e = inr (begins_nil g)
  where
    begins_nil : (g : List ℕ) → begins g [] ≡ true
    begins_nil [] = refl
    begins_nil (b ∷ g) = refl
one_begins (a ∷ f) [] x y e = inl refl
one_begins (a ∷ f) (b ∷ g) x y e =
    let first : a ≡ b = cc in
    let rest : f ++ x ≡ g ++ y = cc in
    elim (one_begins f g x y rest) as (λ _. (begins (a ∷ f) (b ∷ g) ≡ true) ⊎ (begins (b ∷ g) (a ∷ f) ≡ true)) [
      | inl p ↦ inl (both (eqb a b) (begins f g) (rw first (self b)) p)
      | inr p ↦ inr (both (eqb b a) (begins g f) (rw first (self b)) p)
    ]

not_true : (b : Bool) → not b ≡ true → b ≢ true
not_true true e p = true≢false (sym e)
not_true false e p = true≢false (sym p)

either : (a b : Bool) → (a || b) ≡ true → (a ≡ true) ⊎ (b ≡ true)
either true b e = inl refl
either false b e = inr e

-- a target that ends behind words is not one that has a value behind a front
not_ended : DaysAreRead → (end : List ℕ) (front : List ℕ) (t rest : List ℕ) → t ≢ [] → (not (begins end front) || same end front) ≡ true
    → end_text end ≢ 47 ∷ (front ++ (t ++ rest))
not_ended days [] front t rest some e is = cc
not_ended days (b ∷ end) front t rest some e is =
    let whole : b ∷ end ≡ front ++ (t ++ rest) = cc in
    let there : begins (b ∷ end) front ≡ true = subst (λ (w : List ℕ). begins w front ≡ true) (sym whole) (begins-front front (t ++ rest)) in
    elim (either (not (begins (b ∷ end) front)) (same (b ∷ end) front) e) as (λ _. ⊥) [
      | inl p ↦ not_true (begins (b ∷ end) front) p there
      | inr p ↦ more t rest some (append_cancel_left front [] (t ++ rest) (append-nil front ∙ sym (is_same (b ∷ end) front p) ∙ whole))
    ]
  where
    more : (t rest : List ℕ) → t ≢ [] → [] ≢ t ++ rest
    more [] rest some e = some refl
    more (c ∷ t) rest some e = cc

ends_apart : (end other : List ℕ) → not (same end other) ≡ true → end_text end ≢ end_text other
ends_apart [] [] e is = not_true (same [] []) e refl
ends_apart [] (c ∷ other) e is = cc
ends_apart (b ∷ end) [] e is = cc
ends_apart (b ∷ end) (c ∷ other) e is =
    let whole : b ∷ end ≡ c ∷ other = cc in
    not_true (same (b ∷ end) (c ∷ other)) e (subst (λ (t : List ℕ). same (b ∷ end) t ≡ true) whole (self_same (b ∷ end)))

-- where the test tells rows apart, they have no target in common
pub are_apart : DaysAreRead → (ps : List Place) (end : List ℕ) (qs : List Place) (other : List ℕ) (vs ws : List Value) → apart ps end qs other ≡ true
    → AreOf (map kind_at ps) vs → AreOf (map kind_at qs) ws → places_text ps end vs ≢ places_text qs other ws
are_apart days [] end [] other vs ws e is are = ends_apart end other e
are_apart days [] end (q ∷ qs) other vs [] e is are = absurd are
are_apart days [] end (q ∷ qs) other vs (w ∷ ws) e is are =
    not_ended days end q.front (text_of w) (places_text qs other ws) (value_some w are.0.kept) e
are_apart days (p ∷ ps) end [] other [] ws e is are = absurd is
are_apart days (p ∷ ps) end [] other (v ∷ vs) ws e is are = λ told.
    not_ended days other p.front (text_of v) (places_text ps end vs) (value_some v is.0.kept) e (sym told)
are_apart days (p ∷ ps) end (q ∷ qs) other [] ws e is are = absurd is
are_apart days (p ∷ ps) end (q ∷ qs) other (v ∷ vs) [] e is are = absurd are
are_apart days (p ∷ ps) end (q ∷ qs) other (v ∷ vs) (w ∷ ws) e is are = λ told.
    let x = text_of v ++ places_text ps end vs in
    let y = text_of w ++ places_text qs other ws in
    let inside : p.front ++ x ≡ q.front ++ y = cc in
    elim (either (not (begins p.front q.front) && not (begins q.front p.front)) (same p.front q.front && apart ps end qs other) e) as (λ _. ⊥) [
      | inl d ↦
          let neither = and_parts (not (begins p.front q.front)) (not (begins q.front p.front)) d in
          elim (one_begins p.front q.front x y inside) as (λ _. ⊥) [
            | inl b ↦ not_true (begins p.front q.front) neither.0 b
            | inr b ↦ not_true (begins q.front p.front) neither.1 b
          ]
      | inr d ↦
          let parts = and_parts (same p.front q.front) (apart ps end qs other) d in
          let fronts = is_same p.front q.front parts.0 in
          let values : x ≡ y = append_cancel_left q.front x y (ap (λ (f : List ℕ). f ++ x) (sym fronts) ∙ inside) in
          let rests = cut (text_of v) (text_of w) (places_text ps end vs) (places_text qs other ws) (word_lacks (text_of v) (value_word days v is.0.kept))
          (word_lacks (text_of w) (value_word days w are.0.kept)) (places_rest ps end vs) (places_rest qs other ws) values in
          are_apart days ps end qs other vs ws parts.1 is.1 are.1 rests.1
    ]

-- ---- all rows

abbrev rows_apart : Row → Row → Bool
rows_apart r s = not (sameb method_type r.method s.method) || apart r.places r.end s.places s.end

abbrev clear : AskKind → AskKind → Bool
clear k l = sameb the_type k l || rows_apart (endpoint_of k) (endpoint_of l)

abbrev clear_of_all : AskKind → Bool
clear_of_all k = list_all (clear k) all_kinds

-- each kind stands in the list of all, at the place of its number
there : (k : AskKind) → slice_get all_kinds (tag_of the_type k) ≡ Some k
there kinds.ImportMeters = refl
there k = refl

all_at : {A : Type 0} (test : A → Bool) (xs : List A) (i : ℕ) (x : A) → list_all test xs ≡ true → slice_get xs i ≡ Some x → test x ≡ true
all_at test [] i x all at = absurd cc
all_at test (y ∷ xs) zero x all at =
    let here : y ≡ x = cc in
    subst (λ z. test z ≡ true) here (and_parts (test y) (list_all test xs) all).0
all_at test (y ∷ xs) (suc i) x all at = all_at test xs i x (and_parts (test y) (list_all test xs) all).1 at

-- computed: any two rows are those of one kind, or have two methods, or no target in common
all_clear : list_all clear_of_all all_kinds ≡ true
all_clear = refl

-- two kinds whose rows have one method and one target are one
pub one_kind : DaysAreRead → (k l : AskKind) (vs ws : List Value) → (endpoint_of k).method ≡ (endpoint_of l).method
    → AreOf (map kind_at (endpoint_of k).places) vs → AreOf (map kind_at (endpoint_of l).places) ws
    → places_text (endpoint_of k).places (endpoint_of k).end vs ≡ places_text (endpoint_of l).places (endpoint_of l).end ws → k ≡ l
one_kind days k l vs ws methods is are told =
    let row = all_at clear_of_all all_kinds (tag_of the_type k) k all_clear (there k) in
    let pair = all_at (clear k) all_kinds (tag_of the_type l) l row (there l) in
    elim (either (sameb the_type k l) (rows_apart (endpoint_of k) (endpoint_of l)) pair) as (λ _. k ≡ l) [
      | inl p ↦ same_true the_type tt k l p
      | inr p ↦
          elim (either (not (sameb method_type (endpoint_of k).method (endpoint_of l).method))
          (apart (endpoint_of k).places (endpoint_of k).end (endpoint_of l).places (endpoint_of l).end) p) as (λ _. k ≡ l) [
            | inl d ↦ absurd (not_true (sameb method_type (endpoint_of k).method (endpoint_of l).method) d (true_same method_type _ _ methods))
            | inr d ↦ absurd (are_apart days (endpoint_of k).places (endpoint_of k).end (endpoint_of l).places (endpoint_of l).end vs ws d is are told)
          ]
    ]
