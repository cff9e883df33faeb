-- Keys as the code compares them.
use Rattle.std.proofs.Common.{◌≡◌, ℕ, Bool, true, false, List, Some, refl, sym, ap, ◌∙◌, arith, Ordering, Less, Equal, Greater}
use Rattle.std.specs.Prelude.{◌&&◌, ◌==◌, bytes_eq, cond}
use Rattle.std.specs.BTreeMap.{BTreeMap, Updates}
use Rattle.std.specs.Cmp.{unsigned_tied}
use Rattle.std.specs.Cmp.Lexicographic.{slice_cmp}
use Rattle.std.specs.Ordering.{is_eq, nat_cmp, ordering_then}
use Rattle.std.proofs.lemmas.Bool.{false≢true}
use Rattle.std.proofs.lemmas.Bool.Decides.{nat_tests}
use Rattle.std.proofs.lemmas.Map.Text.{is_eq-slice_cmp}
use Rattle.std.proofs.lemmas.Slice.Eq.{bytes_eq-Decides}
use Rattle.audit_lists.specs.Keys.{Key, LentKey, lent_key_cmp, owned_key, place_under}

-- two keys have the same texts and the same numbers
abbrev pub same_key : Key → Key → Bool
same_key a b = ((bytes_eq a.0 b.0 && bytes_eq a.1 b.1) && (a.2 == b.2)) && (a.3 == b.3)

both_equal : (a b : Ordering) → is_eq (ordering_then a b) ≡ (is_eq a && is_eq b)
both_equal Less b = refl
both_equal Equal b = refl
both_equal Greater b = refl

-- a key as the code would hold it
abbrev pub lend : Key → LentKey
lend q = (record { ref_ptr = (0, 0); now = q.0 }, record { ref_ptr = (0, 0); now = q.1 }, q.2, q.3)

tied : (a b : Key) → is_eq (lent_key_cmp a (lend b)) ≡ same_key a b
tied a b =
    both_equal (ordering_then (ordering_then (slice_cmp nat_cmp a.0 b.0) (slice_cmp nat_cmp a.1 b.1)) (nat_cmp a.2 b.2)) (nat_cmp a.3 b.3)
    ∙ ap (λ (x : Bool). x && is_eq (nat_cmp a.3 b.3)) (both_equal (ordering_then (slice_cmp nat_cmp a.0 b.0) (slice_cmp nat_cmp a.1 b.1)) (nat_cmp a.2 b.2))
    ∙ ap (λ (x : Bool). (x && is_eq (nat_cmp a.2 b.2)) && is_eq (nat_cmp a.3 b.3)) (both_equal (slice_cmp nat_cmp a.0 b.0) (slice_cmp nat_cmp a.1 b.1))
    ∙ ap (λ (x : Bool). ((x && is_eq (slice_cmp nat_cmp a.1 b.1)) && is_eq (nat_cmp a.2 b.2)) && is_eq (nat_cmp a.3 b.3)) (is_eq-slice_cmp a.0 b.0)
    ∙ ap (λ (x : Bool). ((bytes_eq a.0 b.0 && x) && is_eq (nat_cmp a.2 b.2)) && is_eq (nat_cmp a.3 b.3)) (is_eq-slice_cmp a.1 b.1)
    ∙ ap (λ (x : Bool). ((bytes_eq a.0 b.0 && bytes_eq a.1 b.1) && x) && is_eq (nat_cmp a.3 b.3)) (unsigned_tied a.2 b.2)
    ∙ ap (λ (x : Bool). ((bytes_eq a.0 b.0 && bytes_eq a.1 b.1) && (a.2 == b.2)) && x) (unsigned_tied a.3 b.3)

both_true : (a b : Bool) → (a && b) ≡ true → (a ≡ true) × (b ≡ true)
both_true true b e = (refl, e)
both_true false b e = absurd (false≢true e)

one_number : (m n : ℕ) → (m == n) ≡ true → m ≡ n
one_number m n e = grind (arith, nat_tests)

number_itself : (n : ℕ) → (n == n) ≡ true
number_itself n = grind (arith, nat_tests)

abbrev made : List ℕ → List ℕ → ℕ → ℕ → Key
made a b c d = (a, b, c, d)

-- a key that passes the test is the same
pub one_key : (a b : Key) → same_key a b ≡ true → a ≡ b
one_key a b e =
    let last = both_true _ (a.3 == b.3) e in
    let third = both_true _ (a.2 == b.2) last.0 in
    let two = both_true (bytes_eq a.0 b.0) (bytes_eq a.1 b.1) third.0 in
    ap (λ (x : List ℕ). made x a.1 a.2 a.3) ((bytes_eq-Decides a.0 b.0).0 two.0)
    ∙ ap (λ (x : List ℕ). made b.0 x a.2 a.3) ((bytes_eq-Decides a.1 b.1).0 two.1)
    ∙ ap (λ (x : ℕ). made b.0 b.1 x a.3) (one_number a.2 b.2 third.1)
    ∙ ap (λ (x : ℕ). made b.0 b.1 b.2 x) (one_number a.3 b.3 last.1)

all_true : (a b c d : Bool) → a ≡ true → b ≡ true → c ≡ true → d ≡ true → (((a && b) && c) && d) ≡ true
all_true true true true true e f g h = refl
all_true false b c d e f g h = absurd (false≢true e)
all_true true false c d e f g h = absurd (false≢true f)
all_true true true false d e f g h = absurd (false≢true g)
all_true true true true false e f g h = absurd (false≢true h)

key_itself : (a : Key) → same_key a a ≡ true
key_itself a =
    all_true (bytes_eq a.0 a.0) (bytes_eq a.1 a.1) (a.2 == a.2) (a.3 == a.3)
    ((bytes_eq-Decides a.0 a.0).1 refl) ((bytes_eq-Decides a.1 a.1).1 refl) (number_itself a.2) (number_itself a.3)

-- and one that is the same passes it
pub key_same : (a b : Key) → a ≡ b → same_key a b ≡ true
key_same a b e = ap (λ (k : Key). same_key a k) (sym e) ∙ key_itself a

-- keys that are lent, in the order of the maps that places are put in
abbrev pub lent_cmp : LentKey → LentKey → Ordering
lent_cmp a b = lent_key_cmp (owned_key a) b

-- what is under each key where a place was put
pub put_place : (m n : BTreeMap LentKey ℕ) (k : LentKey) (at : ℕ) → Updates lent_cmp m n k (Some at) → (q : Key) → place_under n q
    ≡ cond (same_key (owned_key k) q) (Some at) (place_under m q)
put_place m n k at put q = put.0 (lend q) ∙ ap (λ (b : Bool). cond b (Some at) (place_under m q)) (tied (owned_key k) q)
