-- The transform Demo undoes itself, whatever the round keys and however many they are.
-- The lemmas stand here since the proof of a law of a trait may name `specs/` alone.
use Rattle.std.proofs.Common.{◌≡◌, ℕ, ◌+◌, ◌*◌, ◌/◌, ◌%◌, ◌<◌, ◌^◌, List, [], ◌∷◌, ◌++◌, bit_xor}
use Rattle.std.proofs.Common.{reverse, refl, ◌∙◌, ap, arith}
use Rattle.std.specs.Int.{rotate_left, w32}
use Rattle.std.specs.Int.Bits.{xor_assoc, xor_self, xor_zero_r}
use Rattle.std.specs.List.{fold}
use Rattle.std.proofs.lemmas.Grind.{reverse_onto}
use Rattle.std.proofs.lemmas.List.Sums.{fold-append}
use Rattle.std.proofs.lemmas.Nat.{or_lt, xor_lt}
use Rattle.sts_token.specs.Demo.{after_round, before_round, demo_forward, demo_inverse, halves_of}
use Rattle.sts_token.specs.Demo.{joined, mixed, round_keys}
use Rattle.sts_token.specs.declared.demo.Halves.{Halves}

-- ---- halves of 32 bits stay so
record AreHalves (halves : Halves) : Type 0 where
  left : halves.left < 2 ^ 32
  right : halves.right < 2 ^ 32

mixed-lt : (half round_key : ℕ) → mixed half round_key < 2 ^ 32
mixed-lt half round_key =
    let sum = (half + round_key) % 2 ^ 32 in
    let below : sum < 2 ^ 32 = omega arith in
    let by_5 : rotate_left w32 sum 5 < 2 ^ 32 =
    or_lt 32 ((sum * 2 ^ 5) % 2 ^ 32) (sum / 2 ^ 27) (omega arith) (omega arith) in
    let by_12 : rotate_left w32 sum 12 < 2 ^ 32 =
    or_lt 32 ((sum * 2 ^ 12) % 2 ^ 32) (sum / 2 ^ 20) (omega arith) (omega arith) in
    xor_lt 32 (rotate_left w32 sum 5) (rotate_left w32 sum 12) by_5 by_12

halves_after : (halves : Halves) (round_key : ℕ) → AreHalves halves
    → AreHalves (after_round halves round_key)
halves_after halves round_key are =
    record {
      left = are.right;
      right = xor_lt 32 halves.left _ are.left (mixed-lt halves.right round_key);
    }

halves_before : (halves : Halves) (round_key : ℕ) → AreHalves halves
    → AreHalves (before_round halves round_key)
halves_before halves round_key are =
    record {
      left = xor_lt 32 halves.right _ are.right (mixed-lt halves.left round_key);
      right = are.left;
    }

halves_after_all : (halves : Halves) (round_keys : List ℕ) → AreHalves halves
    → AreHalves (fold after_round halves round_keys)
halves_after_all halves [] are = are
halves_after_all halves (k ∷ ks) are =
    halves_after_all (after_round halves k) ks (halves_after halves k are)

halves_before_all : (halves : Halves) (round_keys : List ℕ) → AreHalves halves
    → AreHalves (fold before_round halves round_keys)
halves_before_all halves [] are = are
halves_before_all halves (k ∷ ks) are =
    halves_before_all (before_round halves k) ks (halves_before halves k are)

-- ---- numbers of 64 bits and their halves
are_halves_of : (number : ℕ) → number < 2 ^ 64 → AreHalves (halves_of number)
are_halves_of number small = record { left = omega arith; right = omega arith }

joined-lt : (halves : Halves) → AreHalves halves → joined halves < 2 ^ 64
joined-lt halves are = omega (arith, are.left, are.right)

joined_halves : (number : ℕ) → joined (halves_of number) ≡ number
joined_halves number = omega arith

halves_of_joined : (halves : Halves) → AreHalves halves → halves_of (joined halves) ≡ halves
halves_of_joined halves are =
    let made : ℕ → ℕ → Halves = λ l r. record { left = l; right = r } in
    let left : joined halves / 2 ^ 32 ≡ halves.left = omega (arith, are.right) in
    let right : joined halves % 2 ^ 32 ≡ halves.right = omega (arith, are.right) in
    ap (λ (l : ℕ). made l (joined halves % 2 ^ 32)) left ∙ ap (made halves.left) right

-- ---- a round and its undoing
xor_twice : (a b : ℕ) → bit_xor (bit_xor a b) b ≡ a
xor_twice a b = xor_assoc a b b ∙ ap (bit_xor a) (xor_self b) ∙ xor_zero_r a

before_after : (halves : Halves) (round_key : ℕ)
    → before_round (after_round halves round_key) round_key ≡ halves
before_after halves round_key =
    let made : ℕ → Halves = λ l. record { left = l; right = halves.right } in
    ap made (xor_twice halves.left (mixed halves.right round_key))

after_before : (halves : Halves) (round_key : ℕ)
    → after_round (before_round halves round_key) round_key ≡ halves
after_before halves round_key =
    let made : ℕ → Halves = λ r. record { left = halves.left; right = r } in
    ap made (xor_twice halves.right (mixed halves.left round_key))

reversed : (k : ℕ) (ks : List ℕ) → reverse (k ∷ ks) ≡ reverse ks ++ k ∷ []
reversed k ks = reverse_onto ks k []

-- rounds over a list of round keys, undone over the list from its end
undone_forward : (halves : Halves) (round_keys : List ℕ)
    → fold before_round (fold after_round halves round_keys) (reverse round_keys) ≡ halves
undone_forward halves [] = refl
undone_forward halves (k ∷ ks) =
    ap (fold before_round (fold after_round (after_round halves k) ks)) (reversed k ks)
    ∙ fold-append before_round (fold after_round (after_round halves k) ks) (reverse ks) (k ∷ [])
    ∙ ap (λ (h : Halves). before_round h k) (undone_forward (after_round halves k) ks)
    ∙ before_after halves k

undone_inverse : (halves : Halves) (round_keys : List ℕ)
    → fold after_round (fold before_round halves (reverse round_keys)) round_keys ≡ halves
undone_inverse halves [] = refl
undone_inverse halves (k ∷ ks) =
    let undone = fold before_round halves (reverse ks) in
    let last : fold before_round halves (reverse (k ∷ ks)) ≡ before_round undone k =
    ap (fold before_round halves) (reversed k ks)
    ∙ fold-append before_round halves (reverse ks) (k ∷ []) in
    ap (λ (h : Halves). fold after_round (after_round h k) ks) last
    ∙ ap (λ (h : Halves). fold after_round h ks) (after_before undone k)
    ∙ undone_inverse halves ks

-- ---- the laws of a transform
pub demo_forward_range : (key block : ℕ) → key < 2 ^ 64 → block < 2 ^ 64
    → demo_forward key block < 2 ^ 64
unfolding demo_forward
demo_forward_range key block _ small =
    joined-lt _ (halves_after_all (halves_of block) (round_keys key) (are_halves_of block small))

pub demo_inverse_range : (key block : ℕ) → key < 2 ^ 64 → block < 2 ^ 64
    → demo_inverse key block < 2 ^ 64
unfolding demo_inverse
demo_inverse_range key block _ small =
    let halves = are_halves_of block small in
    joined-lt _ (halves_before_all (halves_of block) (reverse (round_keys key)) halves)

pub demo_inverse_undoes : (key block : ℕ) → key < 2 ^ 64 → block < 2 ^ 64
    → demo_inverse key (demo_forward key block) ≡ block
unfolding demo_forward demo_inverse
demo_inverse_undoes key block _ small =
    let sent = fold after_round (halves_of block) (round_keys key) in
    let halves = halves_after_all (halves_of block) (round_keys key) (are_halves_of block small) in
    let whole = halves_of_joined sent halves in
    ap (λ (h : Halves). joined (fold before_round h (reverse (round_keys key)))) whole
    ∙ ap joined (undone_forward (halves_of block) (round_keys key)) ∙ joined_halves block

pub demo_forward_undoes : (key block : ℕ) → key < 2 ^ 64 → block < 2 ^ 64
    → demo_forward key (demo_inverse key block) ≡ block
unfolding demo_forward demo_inverse
demo_forward_undoes key block _ small =
    let received = fold before_round (halves_of block) (reverse (round_keys key)) in
    let keys = reverse (round_keys key) in
    let halves = halves_before_all (halves_of block) keys (are_halves_of block small) in
    let whole = halves_of_joined received halves in
    ap (λ (h : Halves). joined (fold after_round h (round_keys key))) whole
    ∙ ap joined (undone_inverse (halves_of block) (round_keys key)) ∙ joined_halves block
