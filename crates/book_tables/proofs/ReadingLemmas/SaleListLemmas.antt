-- What the statements that list sales find.
use Rattle.std.proofs.Common.{◌≡◌, ◌+◌, ◌<◌, ◌<ℤ◌, ℕ, suc, List, [], ◌∷◌, filter, pos, slice_get, take, Some, arith, nat_lt, refl, sym, subst, ◌∙◌}
use Rattle.std.specs.Prelude.{◌==◌, Bool}
use Rattle.std.specs.List.{AllByRecursion}
use Rattle.std.proofs.lemmas.Int.{ints}
use Rattle.std.proofs.lemmas.List.{take-map}
use Rattle.std.proofs.lemmas.List.Elements.{All-filter, All-same, All-take}
use Rattle.sqlite_sql.specs.Term.{col}
use Rattle.sqlite_trees.specs.Tree.{IsAscending}
use Rattle.sqlite_typed.proofs.TestLemmas.{last_term}
use Rattle.one_table.specs.Listed.{no_limit}
use Rattle.one_table.proofs.ListedLemmas.{first_by_key}
use Rattle.one_table.proofs.TestsLemmas.{number_above, number_is}
use Rattle.office_rules.specs.Office.{AreNumbered}
use Rattle.office_rules.specs.declared.office.sale.Sale.{Sale}
use Rattle.book_tables.specs.reading.Reading.{AreOfOffice}
use Rattle.book_tables.specs.Kept.{sales_kept}
use Rattle.book_tables.specs.row.Rows.{Rows, number, shown_sale}
use Rattle.book_tables.specs.Tables.{sales_table}
use Rattle.book_tables.specs.row.Values.{AreSaleValues}
use Rattle.book_tables.proofs.ReadingLemmas.ListingLemmas.{Lists}
use Rattle.book_tables.proofs.RowLemmas.RecordLemmas.{one_shown_sale}
use Rattle.book_tables.proofs.ReadingLemmas.SaleLemmas.{sales_keep_values}
use Rattle.book_tables.proofs.ReadingLemmas.SaleListTexts.{sales_after_asks, sales_after_query, sales_after_text, sales_of_shift_asks, sales_of_shift_query, sales_of_shift_text}
use Rattle.book_tables.proofs.ReadingLemmas.SaleTexts.{sale_names}

-- ---- rows that are numbered rise by their numbers

-- each number in a list is above those before it
abbrev pub IsRising : {X : Type 0} → (X → ℕ) → List X → Type 0
IsRising number_of = IsAscending (λ a b. pos (number_of a) <ℤ pos (number_of b))

module _ {X : Type 0} (number_of : X → ℕ) where
  abbrev AreFrom : ℕ → List X → Type 0
  AreFrom first xs = (i : ℕ) (x : X) → slice_get xs i ≡ Some x → number_of x ≡ i + first

  further : (first : ℕ) (x : X) (xs : List X) → AreFrom first (x ∷ xs) → AreFrom (suc first) xs
  further first x xs are i y there = omega (arith, are (suc i) y there)

  above : (low first : ℕ) → low < first → (xs : List X) → AreFrom first xs → AllByRecursion (λ y. pos low <ℤ pos (number_of y)) xs
  above low first below [] are = tt
  above low first below (y ∷ ys) are =
      let here = are 0 y refl in
      (grind (arith, ints, here, below), above low (suc first) (omega (arith, below)) ys (further first y ys are))

  rising_from : (first : ℕ) (xs : List X) → AreFrom first xs → IsRising number_of xs
  rising_from first [] are = tt
  rising_from first (x ∷ xs) are =
      (above (number_of x) (suc first) (omega (arith, are 0 x refl)) xs (further first x xs are), rising_from (suc first) xs (further first x xs are))

  -- rows that are numbered from 1 on rise by their numbers
  pub numbered_rise : (xs : List X) → AreNumbered number_of xs → IsRising number_of xs
  numbered_rise xs are = rising_from 1 xs are

-- the sales in the rows of an office rise by their numbers
pub sales_rise : (rows : Rows) → AreOfOffice rows → IsRising (λ (s : Sale). s.number) rows.sales
sales_rise rows (o, office, are) =
    subst (IsRising (λ (s : Sale). s.number)) (sym are.sales) (numbered_rise (λ (s : Sale). s.number) o.sales office.sale_numbers)

-- ---- the sales after a number

module _ (after limit : ℕ) where
  abbrev is_after : Sale → Bool
  is_after s = nat_lt after s.number

  -- the text lists the first sales after the number, as many as the limit allows
  pub sales_after : Lists sales_kept sales_after_text (number after ∷ number limit ∷ []) shown_sale AreSaleValues
      (λ rows found. found ≡ take limit (filter is_after rows.sales))
  sales_after = record {
    table = sales_table;
    query = sales_after_query;
    names = sale_names;
    asks = sales_after_asks after limit;
    stands = λ s has. has.0.has;
    one = λ a b keeps_a keeps_b same. one_shown_sale a b same;
    kept = λ rows of_office found is.
        All-same AreSaleValues found (take limit (filter is_after rows.sales)) is
        (All-take AreSaleValues limit (filter is_after rows.sales) (All-filter is_after AreSaleValues rows.sales (sales_keep_values rows of_office)));
    answers = λ db rows held of_office answer is. (
      take limit (filter is_after rows.sales),
      refl,
      first_by_key (record { holds_them = held.1.1; passes = λ s. last_term (number_above s.number after); shows = λ s. refl }) 0
          (λ s. pos s.number) (λ s. refl) (col 0 1) answer (sales_rise rows of_office) is
          ∙ take-map shown_sale limit (filter is_after rows.sales),
    );
  }

-- ---- the sales of a shift

module _ (shift : ℕ) where
  abbrev is_of_shift : Sale → Bool
  is_of_shift s = s.shift == shift

  -- the text lists the sales of the shift, in the order of their numbers
  pub sales_of_shift : Lists sales_kept sales_of_shift_text (number shift ∷ []) shown_sale AreSaleValues (λ rows found. found ≡ filter is_of_shift rows.sales)
  sales_of_shift = record {
    table = sales_table;
    query = sales_of_shift_query;
    names = sale_names;
    asks = sales_of_shift_asks shift;
    stands = λ s has. has.0.has;
    one = λ a b keeps_a keeps_b same. one_shown_sale a b same;
    kept = λ rows of_office found is.
        All-same AreSaleValues found (filter is_of_shift rows.sales) is (All-filter is_of_shift AreSaleValues rows.sales (sales_keep_values rows of_office));
    answers = λ db rows held of_office answer is. (
      filter is_of_shift rows.sales,
      refl,
      first_by_key (record { holds_them = held.1.1; passes = λ s. last_term (number_is s.shift shift); shows = λ s. refl }) 0
          (λ s. pos s.number) (λ s. refl) no_limit answer (sales_rise rows of_office) is,
    );
  }
