-- Rows under keys: which rows have a key, and where a map has their places.
use Rattle.std.specs.Prelude.{◌≡◌, ◌≢◌, ◌<◌, ℕ, List, Option, Some, MatchOption, slice_get}
use Rattle.std.specs.BTreeMap.{BTreeMap, get_by}
use Rattle.std.specs.Cmp.Lexicographic.{slice_cmp}
use Rattle.std.specs.Ordering.{nat_cmp, ordering_then}
use Rattle.std.specs.declared.cmp.Ordering.{Ordering}
use denote.Ref.{Bor}

-- two texts and two numbers; where a row has fewer, the rest are empty and 0
abbrev pub Key : Type 0
Key = List ℕ × List ℕ × ℕ × ℕ

-- a key as the code holds it: its texts are lent by a row
abbrev pub LentKey : Type 0
LentKey = Bor (List ℕ) × Bor (List ℕ) × ℕ × ℕ

-- the key, wherever its texts stand
abbrev pub owned_key : LentKey → Key
owned_key k = (k.0.now, k.1.now, k.2, k.3)

-- the order of keys
abbrev pub lent_key_cmp : Key → LentKey → Ordering
lent_key_cmp q k =
    ordering_then
    (ordering_then (ordering_then (slice_cmp nat_cmp q.0 k.0.now) (slice_cmp nat_cmp q.1 k.1.now))
    (nat_cmp q.2 k.2))
    (nat_cmp q.3 k.3)

-- the place that a map has under a key
abbrev pub place_under : BTreeMap LentKey ℕ → Key → Option ℕ
place_under places q = get_by (lent_key_cmp q) places

-- one of the rows, at this place, has the key
abbrev pub HasKeyAt : {T : Type 0} → (T → Key) → List T → Key → ℕ → Type 0
HasKeyAt {T} key rows q i = (row : T) × (slice_get rows i ≡ Some row) × (key row ≡ q)

-- one of the rows has the key
abbrev pub HasKey : {T : Type 0} → (T → Key) → List T → Key → Type 0
HasKey key rows q = (i : ℕ) × HasKeyAt key rows q i

-- no row before this place has the key of the row at it
abbrev pub IsNew : {T : Type 0} → (T → Key) → List T → ℕ → T → Type 0
IsNew key rows i row = (j : ℕ) → j < i → ¬ HasKeyAt key rows (key row) j

-- under each key a map has the place of one of the first rows that has it, where one has
abbrev pub ArePlaces : {T : Type 0} → (T → Key) → BTreeMap LentKey ℕ → List T → ℕ → Type 0
ArePlaces {T} key places rows n =
    (q : Key) → MatchOption (place_under places q)
    ((i : ℕ) (row : T) → i < n → slice_get rows i ≡ Some row → key row ≢ q)
    (λ i. (i < n) × HasKeyAt key rows q i)
