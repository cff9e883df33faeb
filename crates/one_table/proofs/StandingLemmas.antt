-- Telling at run time that a table stands.
use Rattle.std.proofs.Common.{◌≡◌, ◌↔◌, ℕ, ◌^◌, ◌<◌, ◌==◌, find, slice_get, None, Some, sym, ap, subst, ◌∙◌}
use Rattle.std.proofs.lemmas.Bool.{eqb-true, lt-leb, leb-false}
use Rattle.sqlite_rules.proofs.ListLemmas.{has_found}
use Rattle.sqlite_schema.specs.declared.schema.Schema.{Schema}
use Rattle.sqlite_schema.specs.declared.schema.Table.{Table}
use Rattle.sqlite_schema.specs.Names.{table_named}
use Rattle.one_table.specs.Comparing.{IsAlike, IsPlainTable, IsOwnTree, StandsAt}
use Rattle.one_table.specs.Standing.{keys_on, own_keys, tree_in, Stands}
use Rattle.one_table.proofs.GrowthLemmas.{place_of_has, stands_by}

same_some : (a b : Table) → Some a ≡ Some b → a ≡ b
same_some a b e = cc

-- a tree is a table's own if the first table of the tree is alike
pub own_tree_of : (s : Schema) (tree : ℕ) (first t : Table) → Some first ≡ find (λ u. u.tree == tree) s.tables → tree < 2 ^ 31
    → (IsAlike first t × IsPlainTable t) ↔ IsOwnTree s tree t
own_tree_of s tree first t found low =
    let at : first.tree ≡ tree = eqb-true first.tree tree (has_found (λ u. u.tree == tree) s.tables first (sym found)).1 in (
      λ h. record { first = sym found ∙ ap Some (h.0 ∙ ap (λ n. record t { tree = n }) at); low = low; plain = h.1 },
      λ h. (same_some first (record t { tree = tree }) (found ∙ h.first) ∙ ap (λ n. record t { tree = n }) (sym at), h.plain),
    )

-- a tree that no table has is no table's own
pub no_own_tree : (s : Schema) (tree : ℕ) (t : Table) → None ≡ find (λ u. u.tree == tree) s.tables → ¬ IsOwnTree s tree t
no_own_tree s tree t none h = let e = none ∙ h.first in absurd (cc)

module _ (s : Schema) (found t : Table) (at : ℕ) (named : table_named s t.name ≡ Some at) (listed : slice_get s.tables at ≡ Some found) where
  -- a table that is found alike, with its own tree and keys, stands
  pub stands_from : StandsAt s found t → Stands s t
  stands_from h = stands_by s at found.tree t (record
      { named = named; listed = listed ∙ ap Some h.alike; by_tree = h.own_tree.first; low = lt-leb (2 ^ 31) found.tree h.own_tree.low }) h.keys

  -- and a plain table that stands is found alike, with its own tree and keys
  pub stands_when : Stands s t → IsPlainTable t → StandsAt s found t
  stands_when h plain =
      let same : found ≡ record t { tree = tree_in s t.name } =
      same_some found (record t { tree = tree_in s t.name })
      (sym listed ∙ ap (slice_get s.tables) (sym (place_of_has s at found t.name named)) ∙ h.has.listed) in
      let tree : tree_in s t.name ≡ found.tree = ap (λ (u : Table). u.tree) (sym same) in
      record {
        alike = subst (λ n. found ≡ record t { tree = n }) tree same;
        own_tree = record {
          first = subst (λ n. find (λ u. u.tree == n) s.tables ≡ Some (record t { tree = n })) tree h.has.by_tree;
          low = subst (λ n. n < 2 ^ 31) tree (leb-false (2 ^ 31) (tree_in s t.name) h.has.low);
          plain = plain;
        };
        keys = subst (λ n. keys_on s n ≡ own_keys t) tree h.keys;
      }
