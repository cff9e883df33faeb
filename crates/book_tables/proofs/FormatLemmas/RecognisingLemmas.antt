-- A schema that has the tables of an office is told at run time from one that does not.
use Rattle.std.proofs.Common.{◌≡◌, ◌&&◌, ℕ, true, Bor, List, [], ◌∷◌, Ok, ap, map, refl, sym, subst, ◌∙◌}
use Rattle.std.proofs.lemmas.Bool.{and_parts}
use Rattle.std.specs.List.{AllByRecursion, list_all}
use Rattle.sqlite.specs.Table.{Table}
use Rattle.sqlite_resolve.specs.Lowering.{Checked}
use Rattle.sqlite_schema.specs.declared.schema.Schema.{Schema}
use Rattle.one_table.specs.Comparing.{IsPlainTable, StandsAs}
use Rattle.one_table.specs.Referring.{is_left_alone}
use Rattle.one_table.specs.Standing.{Stands, tree_in}
use Rattle.book_tables.specs.Holds.{IsKept}
use Rattle.book_tables.specs.Kept.{Kept, kept_names, kept_texts, upto}
use Rattle.book_tables.proofs.FormatLemmas.TextLemmas.{IsText, upto_texts}

one_defined : (t u : Table) → ◌≡◌ {A = Checked Table} (Ok t) (Ok u) → t ≡ u
one_defined t u same = cc

abbrev are_alone : Schema → List (List ℕ) → Type 0
are_alone s names = list_all (λ name. is_left_alone s (tree_in s name)) names ≡ true

module _ (s : Schema) where
  each_found : (ks : List Kept) → AllByRecursion IsText ks → AllByRecursion (StandsAs s) (kept_texts ks) → are_alone s (kept_names ks)
      → AllByRecursion (IsKept s) ks
  each_found [] are stand alone = tt
  each_found (k ∷ ks) are stand alone =
      let parts = and_parts _ _ alone in
      (((stand.0 k.table are.0.defined).0, parts.0), each_found ks are.1 stand.1 parts.1)

  each_stands : (ks : List Kept) → AllByRecursion IsText ks → AllByRecursion (IsKept s) ks → AllByRecursion (StandsAs s) (kept_texts ks)
  each_stands [] are kept = tt
  each_stands (k ∷ ks) are kept = (
    λ t is. subst (λ (u : Table). Stands s u × IsPlainTable u) (one_defined k.table t (sym are.0.defined ∙ is)) (kept.0.0, are.0.plain),
    each_stands ks are.1 kept.1,
  )

  each_alone : (ks : List Kept) → AllByRecursion (IsKept s) ks → are_alone s (kept_names ks)
  each_alone [] kept = refl
  each_alone (k ∷ ks) kept = rw (kept.0.1, each_alone ks kept.1) refl

  -- tables that stand as the texts of a format define them, left alone, are its tables
  pub tables_found : (n : ℕ) → are_alone s (kept_names (upto n)) → AllByRecursion (StandsAs s) (kept_texts (upto n)) → AllByRecursion (IsKept s) (upto n)
  tables_found n alone all = each_found (upto n) (upto_texts n) all alone

  -- the tables of a format stand as their texts define them
  pub all_stand : (n : ℕ) → AllByRecursion (IsKept s) (upto n) → AllByRecursion (StandsAs s) (kept_texts (upto n))
  all_stand n has = each_stands (upto n) (upto_texts n) has

  -- and no reference to one of them takes an action
  pub all_alone : (n : ℕ) → AllByRecursion (IsKept s) (upto n) → are_alone s (kept_names (upto n))
  all_alone n has = each_alone (upto n) has

-- the same of names and of texts that are lent
module _ (s : Schema) where
  -- the test that lent names are left alone is that of the names themselves
  pub alone_of : (names : List (Bor (List ℕ))) → list_all (λ name. is_left_alone s (tree_in s name.now)) names
      ≡ list_all (λ name. is_left_alone s (tree_in s name)) (map (λ n. n.now) names)
  alone_of [] = refl
  alone_of (name ∷ names) = ap (λ b. is_left_alone s (tree_in s name.now) && b) (alone_of names)

  -- where tables stand as lent texts define them, they stand as the texts do
  pub stand_of : (texts : List (Bor (List ℕ))) → AllByRecursion (λ text. StandsAs s text.now) texts → AllByRecursion (StandsAs s) (map (λ t. t.now) texts)
  stand_of [] all = tt
  stand_of (text ∷ texts) all = (all.0, stand_of texts all.1)

  -- and the other way round, from the texts to the lent ones
  pub stand_lent : (texts : List (Bor (List ℕ))) → AllByRecursion (StandsAs s) (map (λ t. t.now) texts) → AllByRecursion (λ text. StandsAs s text.now) texts
  stand_lent [] all = tt
  stand_lent (text ∷ texts) all = (all.0, stand_lent texts all.1)
