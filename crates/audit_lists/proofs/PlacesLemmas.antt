-- Places under keys, as rows are gone through in turn.
use Rattle.std.proofs.Common.{◌≡◌, ◌≢◌, ◌<◌, ◌+◌, ℕ, Bool, true, false, List, Option, Some, None, slice_get, inl, inr, refl, sym, ap, subst, ◌∙◌, arith}
use Rattle.std.specs.Prelude.{MatchOption, cond}
use Rattle.std.specs.BTreeMap.{BTreeMap, Updates}
use Rattle.std.proofs.lemmas.Bool.{cases_lt, false≢true}
use Rattle.std.proofs.lemmas.Option.{none-some, same_Some}
use Rattle.audit_lists.specs.Keys.{ArePlaces, HasKeyAt, IsNew, Key, LentKey, owned_key, place_under}
use Rattle.audit_lists.proofs.KeyLemmas.{key_same, lent_cmp, one_key, put_place, same_key}

module _ {T : Type 0} (key : T → Key) where
  -- none of the first rows has the key, or the one at a place has it
  abbrev NoneAt : List T → ℕ → Key → Type 0
  NoneAt rows n q = (i : ℕ) (row : T) → i < n → slice_get rows i ≡ Some row → key row ≢ q

  abbrev SomeAt : List T → ℕ → Key → ℕ → Type 0
  SomeAt rows n q i = (i < n) × HasKeyAt key rows q i

  at_none : (rows : List T) (n : ℕ) (q : Key) (o : Option ℕ) → o ≡ None → MatchOption o (NoneAt rows n q) (SomeAt rows n q) → NoneAt rows n q
  at_none rows n q None e is = is
  at_none rows n q (Some i) e is = absurd (none-some i (sym e))

  at_some : (rows : List T) (n : ℕ) (q : Key) (i : ℕ) (o : Option ℕ) → o ≡ Some i → MatchOption o (NoneAt rows n q) (SomeAt rows n q) → SomeAt rows n q i
  at_some rows n q i None e is = absurd (none-some i e)
  at_some rows n q i (Some j) e is = subst (SomeAt rows n q) (same_Some j i e) is

  -- where nothing is under a key, none of the rows so far has it
  pub none_under : (places : BTreeMap LentKey ℕ) (rows : List T) (n : ℕ) → ArePlaces key places rows n → (q : Key) → place_under places q
      ≡ None → NoneAt rows n q
  none_under places rows n are q none = at_none rows n q (place_under places q) none (are q)

  -- the place under a key is that of a row so far that has it
  pub some_under : (places : BTreeMap LentKey ℕ) (rows : List T) (n : ℕ) → ArePlaces key places rows n → (q : Key) (i : ℕ)
      → place_under places q ≡ Some i → SomeAt rows n q i
  some_under places rows n are q i some = at_some rows n q i (place_under places q) some (are q)

  module _ (rows : List T) (m : BTreeMap LentKey ℕ) (at : ℕ) (row : T) (there : slice_get rows at ≡ Some row) (k : LentKey)
      (is : owned_key k ≡ key row) (are : ArePlaces key m rows at) where
    -- the row has the key of an earlier one
    pub is_twice : (j : ℕ) → place_under m (owned_key k) ≡ Some j → ¬ IsNew key rows at row
    is_twice j some new = let found = some_under m rows at are (owned_key k) j some in new j found.0 (found.1.0, found.1.1, found.1.2 ∙ is)

    module _ (new : place_under m (owned_key k) ≡ None) where
      -- the row has a new key
      pub is_new : IsNew key rows at row
      is_new j low has = none_under m rows at are (owned_key k) new j has.0 low has.1 (has.2 ∙ sym is)

    module _ (n : BTreeMap LentKey ℕ) (put : Updates lent_cmp m n k (Some at)) (q : Key) where
      fits : (b : Bool) → same_key (owned_key k) q ≡ b → (old now : Option ℕ) → now ≡ cond b (Some at) old
          → MatchOption old (NoneAt rows at q) (SomeAt rows at q) → MatchOption now (NoneAt rows (at + 1) q) (SomeAt rows (at + 1) q)
      fits true same old None e was = absurd (none-some at e)
      fits true same old (Some i) e was = subst (SomeAt rows (at + 1) q) (sym (same_Some i at e))
          (omega arith, (row, there, sym is ∙ one_key (owned_key k) q same))
      fits false other None None e was = λ i r below there_r same. elim (cases_lt i at) [
        | inl before ↦ was i r before there_r same
        | inr least ↦
            let last : i ≡ at = omega (arith, below, least) in
            let r_is : r ≡ row = same_Some r row (sym there_r ∙ ap (slice_get rows) last ∙ there) in
            false≢true (sym other ∙ key_same (owned_key k) q (is ∙ ap key (sym r_is) ∙ same))
      ]
      fits false other None (Some i) e was = absurd (none-some i (sym e))
      fits false other (Some j) None e was = absurd (none-some j e)
      fits false other (Some j) (Some i) e was =
          let same = same_Some i j e in
          subst (SomeAt rows (at + 1) q) (sym same) (let low = was.0 in omega (arith, low), was.1)

      -- once the row's place is put in, the places are those of the rows with it among them
      pub places_more : MatchOption (place_under n q) (NoneAt rows (at + 1) q) (SomeAt rows (at + 1) q)
      places_more = fits (same_key (owned_key k) q) refl (place_under m q) (place_under n q) (put_place m n k at put q) (are q)
