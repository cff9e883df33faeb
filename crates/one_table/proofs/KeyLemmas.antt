-- A table's own keys, one at a time.
use Rattle.std.proofs.Common.{◌≡◌, ℕ, zero, suc, ◌+◌, ◌<◌, ◌≤◌, ◌==◌, ◌↔◌, Bool, true, false, List, [], ◌∷◌, length, map, filter, drop, drop-cons, get_or, ◌≢◌, subst, slice_get, slice_index_or, option_map, None, Some, refl, sym, ap, inl, inr, ◌∙◌, arith, length-drop}
use Rattle.std.proofs.lemmas.Bool.{cases_Bool, eq-eqb, eqb-true}
use Rattle.sqlite_value.specs.declared.keys.Order.{Order}
use Rattle.sqlite_value.specs.Keys.{plain}
use Rattle.sqlite_schema.specs.declared.schema.Index.{Index}
use Rattle.sqlite_schema.specs.declared.schema.Table.{Table}
use Rattle.one_table.specs.Standing.{Key, key_of, keys_from, own_keys}

key_from : (orders : List Order) (from : ℕ) (keys : List (List ℕ)) (at : ℕ) → slice_get (keys_from orders from keys) at
    ≡ option_map (λ columns. (true, columns, slice_index_or orders (from + at) plain)) (slice_get keys at)
key_from orders from [] at = refl
key_from orders from (key ∷ keys) zero = let e : from + 0 ≡ from = omega arith in rw e
key_from orders from (key ∷ keys) (suc at) = let e : from + 1 + at ≡ from + suc at = omega arith in key_from orders (from + 1) keys at ∙ rw e

-- a table's own key at a place is the UNIQUE that it declares there, in its order
pub own_key : (t : Table) (at : ℕ) → slice_get (own_keys t) at
    ≡ option_map (λ columns. (true, columns, slice_index_or t.orders at plain)) (slice_get t.uniques at)
own_key t at = let e : 0 + at ≡ at = omega arith in key_from t.orders 0 t.uniques at ∙ rw e

length_from : (orders : List Order) (from : ℕ) (keys : List (List ℕ)) → length (keys_from orders from keys) ≡ length keys
length_from orders from [] = refl
length_from orders from (key ∷ keys) = ap suc (length_from orders (from + 1) keys)

-- a table has as many own keys as it declares UNIQUE
pub length-own_keys : (t : Table) → length (own_keys t) ≡ length t.uniques
length-own_keys t = length_from t.orders 0 t.uniques

-- at a place with a UNIQUE the table has the key of these columns, in its order
pub own_key_at : (t : Table) (at : ℕ) (columns : List ℕ) → Some columns ≡ slice_get t.uniques at → slice_get (own_keys t) at
    ≡ Some (true, columns, slice_index_or t.orders at plain)
own_key_at t at columns h = own_key t at ∙ ap (option_map (λ cs. (true, cs, slice_index_or t.orders at plain))) (sym h)

-- at a place without a UNIQUE the table has no own key
pub no_own_key : (t : Table) (at : ℕ) → None ≡ slice_get t.uniques at → slice_get (own_keys t) at ≡ None
no_own_key t at h = own_key t at ∙ ap (option_map (λ cs. (true, cs, slice_index_or t.orders at plain))) (sym h)

-- past the orders that a table declares, a key has the plain order
pub past_orders : (orders : List Order) (at : ℕ) → None ≡ slice_get orders at → slice_index_or orders at plain ≡ plain
past_orders [] at h = refl
past_orders (o ∷ orders) zero h = absurd (cc)
past_orders (o ∷ orders) (suc at) h = past_orders orders at h

-- ---- what is left of a list of keys

module _ {X : Type 0} where
  drop_at : (ks : List X) (n : ℕ) (k : X) → slice_get ks n ≡ Some k → drop n ks ≡ k ∷ drop (n + 1) ks
  drop_at [] n k h = absurd (cc)
  drop_at (x ∷ ks) zero k h = let e : x ≡ k = cc in rw e
  drop_at (x ∷ ks) (suc n) k h = let e : suc n + 1 ≡ suc (n + 1) = omega arith in rw e (drop_at ks n k h)

  same_tail : (x y : X) (xs ys : List X) → x ∷ xs ≡ y ∷ ys → xs ≡ ys
  same_tail x y xs ys h = cc

  at_drop : (ks : List X) (n : ℕ) (k : X) (more : List X) → k ∷ more ≡ drop n ks → slice_get ks n ≡ Some k
  at_drop [] zero k more h = absurd (cc)
  at_drop [] (suc n) k more h = absurd (cc)
  at_drop (x ∷ ks) zero k more h = let e : x ≡ k = cc in ap Some e
  at_drop (x ∷ ks) (suc n) k more h = at_drop ks n k more h

module _ (tree : ℕ) (ks : List Key) (next : ℕ) (i : Index) (rest : List Index) where
  abbrev on : Index → Bool
  on j = j.table == tree

  -- an index on another tree adds no key
  pub key_passed : (i.table == tree) ≡ false → map key_of (filter on (i ∷ rest)) ≡ map key_of (filter on rest)
  key_passed not = rw not

  -- an index on the tree that is not the next key makes the keys differ
  pub key_missed : (i.table == tree) ≡ true → ¬ (slice_get ks next ≡ Some (key_of i)) → ¬ (map key_of (filter on (i ∷ rest)) ≡ drop next ks)
  key_missed is not same = not (at_drop ks next (key_of i) (map key_of (filter on rest)) (rw is at same))

  -- an index on the tree that is the next key leaves the others to meet
  pub key_met : (i.table == tree) ≡ true → slice_get ks next ≡ Some (key_of i)
      → (map key_of (filter on rest) ≡ drop (next + 1) ks) ↔ (map key_of (filter on (i ∷ rest)) ≡ drop next ks)
  key_met is met = (
    λ h. rw is (ap (λ l. key_of i ∷ l) h ∙ sym (drop_at ks next (key_of i) met)),
    λ h. same_tail (key_of i) (key_of i) (map key_of (filter on rest)) (drop (next + 1) ks) (rw is at h ∙ drop_at ks next (key_of i) met),
  )

drop_past : {X : Type 0} (xs : List X) (n : ℕ) → length xs ≤ n → drop n xs ≡ []
drop_past [] zero h = refl
drop_past [] (suc n) h = refl
drop_past (x ∷ xs) zero h = absurd (omega arith)
drop_past (x ∷ xs) (suc n) h = drop_past xs n (omega arith)

-- all keys are met once none is left
pub none_left : (ks : List Key) (next : ℕ) → next ≤ length ks → ([] ≡ drop next ks) ↔ (next ≡ length ks)
none_left ks next low = (λ h. omega (arith, ap length h, length-drop next ks), λ h. sym (drop_past ks next (omega arith)))

eqb_not : (a b : ℕ) → a ≢ b → (a == b) ≡ false
eqb_not a b off = elim (cases_Bool (a == b)) [ inl is ↦ absurd (off (eqb-true a b is)) | inr not ↦ not ]

-- the keys on a tree, among the indexes that are left, are those that are left to meet, exactly if
-- the whole is so
abbrev pub Left : ℕ → List Key → Type 0 → ℕ → List Index → Type 0
Left tree ks whole next rest = (map key_of (filter (λ i. i.table == tree) rest) ≡ drop next ks) ↔ whole

left_more : (items : List Index) (at : ℕ) (d i : Index) → at < length items → i ≡ get_or items at d → drop at items ≡ i ∷ drop (at + 1) items
left_more items at d i low is = drop-cons items at d low ∙ (let e : suc at ≡ at + 1 = omega arith in rw (is, e))

module _ (tree : ℕ) (ks : List Key) (whole : Type 0) (next : ℕ) (items : List Index) (at : ℕ) (i : Index) (low : at < length items) (is : i ≡ get_or items at i)
    (left : Left tree ks whole next (drop at items)) where
  here : Left tree ks whole next (i ∷ drop (at + 1) items)
  here = subst (Left tree ks whole next) (left_more items at i i low is) left

  -- an index that is the next key is met, and the keys after it are left
  pub left_met : i.table ≡ tree → slice_get ks next ≡ Some (key_of i) → Left tree ks whole (next + 1) (drop (at + 1) items)
  left_met on met = let one = key_met tree ks next i (drop (at + 1) items) (eq-eqb i.table tree on) met in (λ h. here.0 (one.0 h), λ h. one.1 (here.1 h))

  -- an index on another tree is passed, and the same keys are left
  pub left_passed : i.table ≢ tree → Left tree ks whole next (drop (at + 1) items)
  left_passed off =
      let one = key_passed tree ks next i (drop (at + 1) items) (eqb_not i.table tree off) in (λ h. here.0 (one ∙ h), λ h. sym one ∙ here.1 h)

  -- an index on the tree that is not the next key: the whole is not so
  pub left_missed : i.table ≡ tree → ¬ (slice_get ks next ≡ Some (key_of i)) → ¬ whole
  left_missed on not all = key_missed tree ks next i (drop (at + 1) items) (eq-eqb i.table tree on) not (here.1 all)

-- after all indexes the whole is so exactly if all keys were met
pub left_ended : (tree : ℕ) (ks : List Key) (whole : Type 0) (next : ℕ) (items : List Index) (at : ℕ) → length items ≤ at
    → next ≤ length ks → Left tree ks whole next (drop at items) → (next ≡ length ks) ↔ whole
left_ended tree ks whole next items at past within left =
    let none : drop at items ≡ [] = drop_past items at past in
    let over = subst (Left tree ks whole next) none left in
    let ends = none_left ks next within in
    (λ h. over.0 (ends.1 h), λ h. ends.0 (over.1 h))
