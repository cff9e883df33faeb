-- Rows that are those of a function, one for each key: what stands under a key, and what the rows
-- are with a value under it.
use Rattle.std.proofs.Common.{◌≡◌, ◌≢◌, ◌≤◌, ◌<ℤ◌, ◌⊎◌, ◌||◌, ◌↔◌, ℕ, ℤ, pos, Bool, true, false, cond, if◌then◌else◌, List, [], ◌∷◌, ◌++◌, length, map, filter, Option, Some, None, inl, inr, refl, sym, ap, subst, ◌∙◌, arith, Ordering, Less, Equal, Greater, int_cmp, true≢false}
use Rattle.std.specs.Prelude.{AllPairs, Contains}
use Rattle.std.specs.List.{list_any}
use Rattle.std.specs.Option.{option_to_list}
use Rattle.std.specs.Ordering.{match_ordering}
use Rattle.std.proofs.lemmas.Cmp.{int_ranked}
use Rattle.std.proofs.lemmas.Int.{ints}
use Rattle.std.proofs.lemmas.List.Elements.{All-contains, All-from_recursion, Contains-append_left, Contains-push, Contains-push_cases}
use Rattle.std.proofs.lemmas.Option.{same_Some}
use Rattle.sqlite_keyed.specs.Keyed.{IsKeyedBy, insert_by}
use Rattle.sqlite_keyed.specs.Lists.{update_where}
use Rattle.sqlite_keyed.proofs.KeyedLemmas.{IsKeyedBy-insert_by}
use Rattle.sqlite_rules.specs.Lists.{Has as Member}
use Rattle.one_table.proofs.LookUpLemmas.{unless_true}
use Rattle.book_tables.specs.Stands.{AreRowsOf}
use Rattle.book_tables.specs.writing.Writing.{put_under}
use Rattle.book_tables.proofs.ListLemmas.{NotBothPass, contains_cases, contains_first, contains_further, contains_map, contains_none, map_source, no_pairs, none_pass, one_passes, pairs_cons, pairs_map, pairs_push, pairs_weaker}

-- ---- lists

-- a member of a list, as it is found from the front, stands at a place of it
pub member_contains : {X : Type 0} (xs : List X) (x : X) → Member xs x → Contains xs x
member_contains [] x there = absurd there
member_contains (y ∷ ys) x (inl is) = subst (Contains (y ∷ ys)) (sym is) (contains_first y ys)
member_contains (y ∷ ys) x (inr there) = contains_further y x ys (member_contains ys x there)

none_left : {X : Type 0} (p : X → Bool) (xs : List X) → list_any p xs ≡ false → filter p xs ≡ []
none_left p [] none = refl
none_left p (x ∷ xs) none = by_test (p x) refl none (none_left p xs)
  where
    by_test : (b : Bool) → p x ≡ b → (b || list_any p xs) ≡ false → (list_any p xs ≡ false → filter p xs ≡ []) → cond b (x ∷ filter p xs) (filter p xs) ≡ []
    by_test true is none rest = absurd (true≢false none)
    by_test false is none rest = rest none

-- a pair of the two parts of a row is the row
pub same_pair : {K V : Type 0} (k : K) (v : V) (r : K × V) → r.0 ≡ k → r.1 ≡ v → (k, v) ≡ r
same_pair k v r e f = let pair : (k, v) ≡ (r.0, r.1) = cc in pair

-- ---- rows of a function

-- where the function is the same at each key
pub rows_of_same : {K V : Type 0} (rows : List (K × V)) (has other : K → Option V) → ((k : K) → other k ≡ has k) → AreRowsOf rows has → AreRowsOf rows other
rows_of_same rows has other same are = record {
  members = λ k v. (λ e. (are.members k v).0 (sym (same k) ∙ e), λ there. same k ∙ (are.members k v).1 there);
  once = are.once;
}

module _ {K V : Type 0} (is_key : K → Bool) (key : K) (tells : (k : K) → (is_key k ≡ true) ↔ (k ≡ key)) (rows : List (K × V))
    (has : K → Option V) (are : AreRowsOf rows has) where
  abbrev picks : K × V → Bool
  picks r = is_key r.0

  -- the row of the key with a value
  abbrev pub under : V → K × V
  under v = (key, v)

  abbrev Apart : K × V → K × V → Type 0
  Apart a b = a.0 ≢ b.0

  stands : (r : K × V) → Contains rows r → has r.0 ≡ Some r.1
  stands r there = (are.members r.0 r.1).1 there

  under_key : (r : K × V) → Contains rows r → is_key r.0 ≡ true → has key ≡ Some r.1
  under_key r there is = ap has (sym ((tells r.0).0 is)) ∙ stands r there

  not_both : AllPairs (NotBothPass picks) rows
  not_both = pairs_weaker Apart (NotBothPass picks) rows (λ a b apart p q. apart ((tells a.0).0 p ∙ sym ((tells b.0).0 q))) are.once

  by_value : (o : Option V) → has key ≡ o → filter picks rows ≡ map under (option_to_list o)
  by_value None none =
      none_pass picks rows (λ r there. unless_true (picks r) (λ is. let wrong : None ≡ Some r.1 = sym none ∙ under_key r there is in cc))
  by_value (Some v) some = one_passes picks rows (key, v) not_both ((are.members key v).0 some) ((tells key).1 refl)

  -- what stands under the key
  pub found_under : filter picks rows ≡ map under (option_to_list (has key))
  found_under = by_value (has key) refl

  few_such : (o : Option V) → length (map under (option_to_list o)) ≤ 1
  few_such None = omega arith
  few_such (Some v) = omega arith

  -- at most one row has the key
  pub few_under : length (filter picks rows) ≤ 1
  few_under = subst (λ (l : List (K × V)). length l ≤ 1) (sym found_under) (few_such (has key))

  none_such : (o : Option V) → map under (option_to_list o) ≡ [] → o ≡ None
  none_such None none = refl
  none_such (Some v) none = absurd (cc)

  -- nothing is under a key that no row has
  pub free_under : list_any picks rows ≡ false → has key ≡ None
  free_under free = none_such (has key) (sym found_under ∙ none_left picks rows free)

  -- the value in the row of the key is what there is under the key
  pub value_under : (r : K × V) → Member rows r → picks r ≡ true → has key ≡ Some r.1
  value_under r there is = under_key r (member_contains rows r there) is

  -- ---- with a value under the key

  -- a row stands there with the value, and those of other keys stay
  abbrev IsPut : V → K × V → Type 0
  IsPut value r = ((is_key r.0 ≡ true) × (r.1 ≡ value)) ⊎ ((is_key r.0 ≡ false) × Contains rows r)

  module _ (value : V) (new : List (K × V)) (same : (r : K × V) → Contains new r ↔ IsPut value r) (once : AllPairs Apart new) where
    put_there : (k : K) (v : V) (b : Bool) → is_key k ≡ b → (if b then Some value else has k) ≡ Some v → Contains new (k, v)
    put_there k v true is e = (same (k, v)).1 (inl (is, sym (same_Some value v e)))
    put_there k v false is e = (same (k, v)).1 (inr (is, (are.members k v).0 e))

    there_put : (k : K) (v : V) (b : Bool) → is_key k ≡ b → IsPut value (k, v) → (if b then Some value else has k) ≡ Some v
    there_put k v true is (inl put) = ap Some (sym put.1)
    there_put k v true is (inr kept) = absurd (true≢false (sym is ∙ kept.0))
    there_put k v false is (inl put) = absurd (true≢false (sym put.0 ∙ is))
    there_put k v false is (inr kept) = (are.members k v).1 kept.1

    rows_put : AreRowsOf new (put_under is_key value has)
    rows_put = record {
      members = λ k v. (put_there k v (is_key k) refl, λ there. there_put k v (is_key k) refl ((same (k, v)).0 there));
      once = once;
    }

  module _ (value : V) (none : has key ≡ None) where
    other_key : (r : K × V) → Contains rows r → is_key r.0 ≡ false
    other_key r there = unless_true (is_key r.0) (λ is. let wrong : None ≡ Some r.1 = sym none ∙ under_key r there is in cc)

    key_differs : (r : K × V) → Contains rows r → r.0 ≢ key
    key_differs r there same = let wrong : None ≡ Some r.1 = sym none ∙ under_key r there ((tells r.0).1 same) in cc

    is_new : (r : K × V) → (is_key r.0 ≡ true) × (r.1 ≡ value) → (key, value) ≡ r
    is_new r put = same_pair key value r ((tells r.0).0 put.0) put.1

    the_new : (r : K × V) → (key, value) ≡ r → (is_key r.0 ≡ true) × (r.1 ≡ value)
    the_new r is = ((tells r.0).1 (ap (λ (x : K × V). x.0) (sym is)), ap (λ (x : K × V). x.1) (sym is))

    at_end : (r : K × V) → Contains (rows ++ (key, value) ∷ []) r ↔ IsPut value r
    at_end r = (
      λ there. elim (Contains-push_cases rows (key, value) r there) [ inl old ↦ inr (other_key r old, old) | inr is ↦ inl (the_new r is) ],
      λ put. elim put [
        | inl new ↦ subst (Contains (rows ++ (key, value) ∷ [])) (is_new r new) (Contains-push rows (key, value))
        | inr kept
            ↦ Contains-append_left rows ((key, value) ∷ []) r kept.1
      ],
    )

    -- where a row with it stands at the end
    pub rows_appended : AreRowsOf (rows ++ (key, value) ∷ []) (put_under is_key value has)
    rows_appended = rows_put value (rows ++ (key, value) ∷ []) at_end (pairs_push Apart rows (key, value) are.once key_differs)

  module _ (old : V) (some : has key ≡ Some old) (f : V → V) where
    abbrev with_value : K × V → K × V
    with_value r = (r.0, f r.1)

    abbrev one : K × V → K × V
    one r = if picks r then with_value r else r

    key_stays : (r : K × V) (b : Bool) → (if b then with_value r else r).0 ≡ r.0
    key_stays r true = refl
    key_stays r false = refl

    comes_from : (r s : K × V) (b : Bool) → picks s ≡ b → Contains rows s → (if b then with_value s else s) ≡ r → IsPut (f old) r
    comes_from r s true is there e =
        let value : s.1 ≡ old = same_Some s.1 old (sym (under_key s there is) ∙ some) in
        inl (subst (λ k. is_key k ≡ true) (ap (λ (x : K × V). x.0) e) is, sym (ap (λ (x : K × V). x.1) e) ∙ ap f value)
    comes_from r s false is there e = inr (subst (λ (x : K × V). is_key x.0 ≡ false) e is, subst (Contains rows) e there)

    the_set : one (key, old) ≡ (key, f old)
    the_set = let is : is_key key ≡ true = (tells key).1 refl in rw is refl

    left_so : (r : K × V) (b : Bool) → picks r ≡ b → b ≡ false → (if b then with_value r else r) ≡ r
    left_so r true is fails = absurd (true≢false fails)
    left_so r false is fails = refl

    set_there : (r : K × V) → Contains (update_where picks with_value rows) r ↔ IsPut (f old) r
    set_there r = (
      λ there. let from = map_source one rows r there in comes_from r from.0 (picks from.0) refl from.1 from.2,
      λ put. elim put [
        | inl new ↦
            subst (Contains (map one rows)) (the_set ∙ same_pair key (f old) r ((tells r.0).0 new.0) new.1)
            (contains_map one rows (key, old) ((are.members key old).0 some))
        | inr kept ↦ subst (Contains (map one rows)) (left_so r (picks r) refl kept.0) (contains_map one rows r kept.1)
      ],
    )

    -- where the row of the key has it in place of its own
    pub rows_updated : AreRowsOf (update_where picks with_value rows) (put_under is_key (f old) has)
    rows_updated = rows_put (f old) (update_where picks with_value rows) set_there
        (pairs_map Apart one rows (λ a b apart same. apart (sym (key_stays a (picks a)) ∙ same ∙ key_stays b (picks b))) are.once)

-- ---- rows in the order of a number

-- a row whose key no other has stands among them
module _ {X : Type 0} (key : X → ℤ) (new : X) where
  inserted : (xs : List X) → ((x : X) → Contains xs x → key x ≢ key new) → (y : X) → Contains (insert_by key xs new) y ↔ ((new ≡ y) ⊎ Contains xs y)
  inserted [] apart y = (
    λ there. elim (contains_cases new y [] there) [ inl is ↦ inl is | inr none ↦ absurd (contains_none y none) ],
    λ either. elim either [ inl is ↦ subst (Contains (new ∷ [])) is (contains_first new []) | inr none ↦ absurd (contains_none y none) ],
  )
  inserted (x ∷ xs) apart y =
      go (int_cmp (key x) (key new)) refl (inserted xs (λ z there. apart z (contains_further x z xs there)) y)
    where
      go : (o : Ordering) → int_cmp (key x) (key new) ≡ o → Contains (insert_by key xs new) y ↔ ((new ≡ y) ⊎ Contains xs y)
          → Contains (match_ordering o (x ∷ insert_by key xs new) (new ∷ xs) (new ∷ x ∷ xs)) y ↔ ((new ≡ y) ⊎ Contains (x ∷ xs) y)
      go Less e rest = (
        λ there. elim (contains_cases x y (insert_by key xs new) there) [
          | inl is ↦ inr (subst (Contains (x ∷ xs)) is (contains_first x xs))
          | inr further ↦ elim (rest.0 further) [ inl is ↦ inl is | inr old ↦ inr (contains_further x y xs old) ]
        ],
        λ either. elim either [
          | inl is ↦ contains_further x y (insert_by key xs new) (rest.1 (inl is))
          | inr old ↦ elim (contains_cases x y xs old) [
            | inl is ↦ subst (Contains (x ∷ insert_by key xs new)) is (contains_first x (insert_by key xs new))
            | inr further ↦ contains_further x y (insert_by key xs new) (rest.1 (inr further))
          ]
        ],
      )
      go Equal e rest = absurd (apart x (contains_first x xs) (int_ranked (key x) (key new) Equal (sym e)))
      go Greater e rest = (
        λ there. contains_cases new y (x ∷ xs) there,
        λ either. elim either [ inl is ↦ subst (Contains (new ∷ x ∷ xs)) is (contains_first new (x ∷ xs)) | inr old ↦ contains_further new y (x ∷ xs) old ],
      )

one_number : (m n : ℕ) → pos m ≡ pos n → m ≡ n
one_number m n e = cc

module _ {V : Type 0} where
  abbrev number : ℕ × V → ℤ
  number r = pos r.0

  keyed_once : (rows : List (ℕ × V)) → IsKeyedBy number rows → AllPairs (λ a b. a.0 ≢ b.0) rows
  keyed_once [] up = no_pairs (λ a b. a.0 ≢ b.0)
  keyed_once (r ∷ rows) up =
      pairs_cons (λ a b. a.0 ≢ b.0) r rows (keyed_once rows up.1) (λ s there same.
      let below : number r <ℤ number s = All-contains (λ y. number r <ℤ number y) rows s (All-from_recursion (λ y. number r <ℤ number y) rows up.0) there in
      let is : number r ≡ number s = ap pos same in
      grind (arith, ints, below, is))

  module _ (is_key : ℕ → Bool) (key : ℕ) (tells : (k : ℕ) → (is_key k ≡ true) ↔ (k ≡ key)) (rows : List (ℕ × V)) (has : ℕ → Option V)
      (are : AreRowsOf rows has) (up : IsKeyedBy number rows) where
    -- where a row with the value stands at its number
    pub rows_inserted : (value : V) → has key ≡ None → AreRowsOf (insert_by number rows (key, value)) (put_under is_key value has)
        × IsKeyedBy number (insert_by number rows (key, value))
    rows_inserted value none =
        let new : ℕ × V = (key, value) in
        let in_order = IsKeyedBy-insert_by number rows new up in
        let apart = λ (r : ℕ × V) (there : Contains rows r) (same : number r ≡ number new). key_differs is_key key tells rows has are value
        none r there (one_number r.0 key same) in
        let at = inserted number new rows apart in (
          rows_put is_key key tells rows has are value (insert_by number rows new)
              (λ r. (
                λ there. elim ((at r).0 there) [
                  | inl is ↦ inl (the_new is_key key tells rows has are value none r is)
                  | inr old ↦
                      inr (other_key is_key key tells rows has are value none r old, old)
                ],
                λ put. (at r).1 (elim put [ inl new ↦ inl (is_new is_key key tells rows has are value none r new) | inr kept ↦ inr kept.1 ]),
              )) (keyed_once (insert_by number rows new) in_order),
          in_order,
        )
