-- Rows whose numbers are whole and rise, as these numbers beside the values that the rows hold.
use Rattle.std.proofs.Common.{◌≡◌, ℤ, pos, ◌+ℤ◌, ◌<ℤ◌, Bool, true, false, not, if◌then◌else◌, List, [], ◌∷◌, ◌++◌, map, filter, drop, fold, length, IsTrue, refl, sym, ap, ap₂, ◌∙◌, subst, true≢false}
use Rattle.std.specs.List.{AllByRecursion}
use Rattle.std.proofs.lemmas.List.{length-map, map-append, map-id}
use Rattle.sqlite_value.specs.declared.value.Value.TheVariants.{Null, Int, Real, Text, Blob}
use Rattle.sqlite_value.specs.Order.{Row}
use Rattle.sqlite_value.proofs.OrderLemmas.{value_cmp-Int}
use Rattle.sqlite_trees.specs.Tree.{IsAscending, IsTable, rowid}
use Rattle.sqlite_trees.specs.View.{is_int}
use Rattle.sqlite_rules.specs.Edit.{id_in, next_rowid}
use Rattle.sqlite_keyed.specs.Keyed.{IsKeyedBy, insert_by}
use Rattle.sqlite_keyed.specs.Lists.{delete_where, update_where}
use Rattle.sqlite_keyed.proofs.KeyedLemmas.{lt_from_Less, Less-from_lt, IsKeyedBy-delete_where, IsKeyedBy-insert_by}
use Rattle.sqlite_keyed.proofs.ListLemmas.{map-map, map_same, filter-map, ascending-map, ascending_weaker, ascending_from_map}
use Rattle.sqlite_keyed.proofs.SliceLemmas.{insert_next}
use Rattle.one_table.specs.Numbered.{AreHidden, IsInOrder}

-- the hidden number of a value
abbrev pub number : {X : Type 0} → ℤ × X → ℤ
number n = n.0

-- the value behind its hidden number
abbrev pub value : {X : Type 0} → ℤ × X → X
value n = n.1

-- ---- what is found and set by the values alone

module _ {X : Type 0} (p : X → Bool) where
  -- the value passes, whatever its number
  abbrev pub picks : ℤ × X → Bool
  picks n = p n.1

  module _ (f : X → X) where
    -- the value is changed behind its number
    abbrev pub makes : ℤ × X → ℤ × X
    makes n = (n.0, f n.1)

    -- the values that pass are set, behind the numbers that they have
    abbrev pub set_in : List (ℤ × X) → List (ℤ × X)
    set_in = update_where picks makes

    numbers_stay : (ns : List (ℤ × X)) → map number (set_in ns) ≡ map number ns
    numbers_stay ns = map-map number (λ n. if picks n then makes n else n) ns ∙ map_same _ number (λ n. by_test n (p n.1)) ns
      where
        by_test : (n : ℤ × X) (b : Bool) → number (if b then makes n else n) ≡ number n
        by_test n true = refl
        by_test n false = refl

    still_rise : (ns : List (ℤ × X)) → IsKeyedBy number ns → IsKeyedBy number (set_in ns)
    still_rise ns up = ascending_from_map (λ a b. a <ℤ b) number (set_in ns)
        (subst (IsAscending (λ a b. a <ℤ b)) (sym (numbers_stay ns)) (ascending-map (λ a b. a <ℤ b) number ns up))

    values_change : (ns : List (ℤ × X)) → map value (set_in ns) ≡ update_where p f (map value ns)
    values_change ns = map-map value (λ n. if picks n then makes n else n) ns
        ∙ map_same _ (λ n. if p n.1 then f n.1 else n.1) (λ n. by_test n (p n.1)) ns ∙ sym (map-map (λ x. if p x then f x else x) value ns)
      where
        by_test : (n : ℤ × X) (b : Bool) → value (if b then makes n else n) ≡ (if b then f n.1 else n.1)
        by_test n true = refl
        by_test n false = refl

module _ {X : Type 0} (stored : X → Row) where
  -- the row of a value, behind its whole number
  abbrev pub with_number : ℤ × X → Row
  with_number n = Int n.0 ∷ stored n.1

  -- rows that hide whole numbers are the rows of values beside these numbers
  pub as_pairs : (rows : List Row) (xs : List X) → AreHidden stored rows xs → AllByRecursion (λ r. IsTrue (is_int (rowid r))) rows
      → (ns : List (ℤ × X)) × (rows ≡ map with_number ns) × (map value ns ≡ xs)
  as_pairs [] [] hidden ints = ([], refl, refl)
  as_pairs [] (x ∷ xs) hidden ints = absurd (cc)
  as_pairs (r ∷ rows) [] hidden ints = absurd (cc)
  as_pairs ((Int n ∷ r) ∷ rows) (x ∷ xs) hidden ints =
      let first : r ≡ stored x = cc in
      let more = as_pairs rows xs (cc) ints.1 in
      ((n, x) ∷ more.0, ap₂ (λ a l. (Int n ∷ a) ∷ l) first more.1, ap (λ l. x ∷ l) more.2)
  as_pairs ([] ∷ rows) (x ∷ xs) hidden ints = absurd (true≢false (sym ints.0))
  as_pairs ((Null ∷ r) ∷ rows) (x ∷ xs) hidden ints = absurd (true≢false (sym ints.0))
  as_pairs ((Real y ∷ r) ∷ rows) (x ∷ xs) hidden ints = absurd (true≢false (sym ints.0))
  as_pairs ((Text y ∷ r) ∷ rows) (x ∷ xs) hidden ints = absurd (true≢false (sym ints.0))
  as_pairs ((Blob y ∷ r) ∷ rows) (x ∷ xs) hidden ints = absurd (true≢false (sym ints.0))

  are_hidden : (ns : List (ℤ × X)) → AreHidden stored (map with_number ns) (map value ns)
  are_hidden ns = map-map (drop 1) with_number ns ∙ sym (map-map stored value ns)

  all_ints : (ns : List (ℤ × X)) → AllByRecursion (λ r. IsTrue (is_int (rowid r))) (map with_number ns)
  all_ints [] = tt
  all_ints (n ∷ ns) = (refl, all_ints ns)

  in_order : (ns : List (ℤ × X)) → IsKeyedBy number ns → IsInOrder (map with_number ns)
  in_order ns up = record {
    rises = ascending-map _ with_number ns (ascending_weaker _ _ (λ a b h. value_cmp-Int _ _ ∙ Less-from_lt _ _ h) ns up);
    are_numbers = all_ints ns;
  }

  next_from : (a : ℤ) (ns : List (ℤ × X)) → fold (λ _ r. id_in (rowid r) +ℤ pos 1) a (map with_number ns) ≡ fold (λ _ n. number n +ℤ pos 1) a ns
  next_from a [] = refl
  next_from a (n ∷ ns) = next_from (n.0 +ℤ pos 1) ns

  module _ (rows : List Row) (xs : List X) (hidden : AreHidden stored rows xs) (order : IsInOrder rows) where
    abbrev both : (ns : List (ℤ × X)) × (rows ≡ map with_number ns) × (map value ns ≡ xs)
    both = as_pairs rows xs hidden order.are_numbers

    -- the values beside their numbers
    abbrev pub beside : List (ℤ × X)
    beside = both.0

    -- the rows of the table are those of the values beside their numbers
    pub rows_are : rows ≡ map with_number beside
    rows_are = both.1

    -- without their numbers they are the values that the table holds
    pub values_are : map value beside ≡ xs
    values_are = both.2

    -- the numbers rise
    pub rise : IsKeyedBy number beside
    rise = ascending_weaker _ _ (λ a b h. lt_from_Less _ _ (sym (value_cmp-Int _ _) ∙ h)) beside
        (ascending_from_map _ with_number beside (subst IsTable rows_are order.rises))

    -- with the next number in front of it a value stands last
    abbrev pub with_last : X → List (ℤ × X)
    with_last x = insert_by number beside (next_rowid rows, x)

    -- a value put in behind the next number comes last, and the rows are still in order
    pub gains : (x : X) → AreHidden stored (map with_number (with_last x)) (xs ++ x ∷ []) × IsInOrder (map with_number (with_last x))
    gains x =
        let new : ℤ × X = (next_rowid rows, x) in
        let last : with_last x ≡ beside ++ new ∷ [] = insert_next number beside new rise (ap next_rowid rows_are ∙ next_from (pos 1) beside) in (
          are_hidden (with_last x) ∙ ap (map stored) (ap (map value) last ∙ map-append value beside (new ∷ []) ∙ ap (λ l. l ++ x ∷ []) values_are),
          in_order (with_last x) (IsKeyedBy-insert_by number beside new rise),
        )

    -- as many values pass with their numbers as without them
    pub as_many : (p : X → Bool) → length (filter (picks p) beside) ≡ length (filter p xs)
    as_many p = sym (length-map (filter (picks p) beside) value) ∙ ap length (sym (filter-map p value beside) ∙ ap (filter p) values_are)

    -- values set behind their numbers are set among the values, and the rows are still in order
    pub changes : (p : X → Bool) (f : X → X) → AreHidden stored (map with_number (set_in p f beside)) (update_where p f xs)
        × IsInOrder (map with_number (set_in p f beside))
    changes p f = (
      are_hidden (set_in p f beside) ∙ ap (map stored) (values_change p f beside ∙ ap (update_where p f) values_are),
      in_order (set_in p f beside) (still_rise p f beside rise),
    )

    -- values taken out with their numbers are taken out of the values, and the rows are still in
    -- order
    pub loses : (p : X → Bool) → AreHidden stored (map with_number (delete_where (picks p) beside)) (delete_where p xs)
        × IsInOrder (map with_number (delete_where (picks p) beside))
    loses p = (
      are_hidden (delete_where (picks p) beside)
          ∙ ap (map stored) (sym (filter-map (λ x. not (p x)) value beside) ∙ ap (delete_where p) values_are),
      in_order (delete_where (picks p) beside) (IsKeyedBy-delete_where number (picks p) beside rise),
    )

-- ---- rows of any columns

-- a row without its number, as the value that the table holds
abbrev pub columns : Row → Row
columns row = row

-- rows of any columns hide their numbers before what the columns hold
pub hides_all : (rows : List Row) → AreHidden columns rows (map (drop 1) rows)
hides_all rows = sym (map-id (map (drop 1) rows))
