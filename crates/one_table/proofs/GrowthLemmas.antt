-- A schema that grows at its end: what stood stands, and what is new is found.
use Rattle.std.proofs.Common.{◌≡◌, ℕ, zero, suc, ◌+◌, ◌<◌, ◌≤◌, ◌==◌, Bool, true, false, not, List, [], ◌∷◌, ◌++◌, length, map, filter, find, slice_get, option_map, unwrap_or, None, Some, refl, sym, ap, subst, subst₂, ◌∙◌, inl, inr, arith, append-nil, append_assoc}
use Rattle.std.proofs.lemmas.Bool.{cases_Bool, eqb-true}
use Rattle.std.proofs.lemmas.List.Elements.{filter-append}
use Rattle.std.proofs.lemmas.List.Folds.{find-append}
use Rattle.std.specs.List.{position_from}
use Rattle.sqlite_rules.specs.Lists.{Has as Member}
use Rattle.sqlite_rules.proofs.ListLemmas.{has_left, has_either, has_got}
use Rattle.sqlite_schema.specs.declared.schema.Index.{Index}
use Rattle.sqlite_schema.specs.declared.schema.Schema.{Schema}
use Rattle.sqlite_schema.specs.declared.schema.Table.{Table}
use Rattle.sqlite_schema.specs.declared.schema.View.{View}
use Rattle.sqlite_schema.specs.Names.{same_name, table_named}
use Rattle.sqlite_catalog.specs.Change.{next_tree}
use Rattle.sqlite_catalog.proofs.ListFacts.{most_below}
use Rattle.sqlite_catalog.proofs.StepLemmas.{table_below, index_below, view_below}
use Rattle.one_table.specs.Place.{Has}
use Rattle.one_table.specs.Standing.{place_in, tree_in, key_of, keys_on, own_keys, Stands}

-- ---- lists that grow at the end

module _ {X : Type 0} where
  -- the first place that passes stays the first
  pub position_stays : (p : X → Bool) (from at : ℕ) (xs ys : List X) → position_from p from xs ≡ Some at → position_from p from (xs ++ ys) ≡ Some at
  position_stays p from at [] ys h = absurd (cc)
  position_stays p from at (x ∷ xs) ys h = elim (cases_Bool (p x))
      [ inl is ↦ rw is (rw is at h) | inr not ↦ rw not (position_stays p (from + 1) at xs ys (rw not at h)) ]

  -- where none passed before, what is put at the end is the first that passes
  pub position_next : (p : X → Bool) (from : ℕ) (xs : List X) (y : X) (ys : List X) → position_from p from xs ≡ None → p y ≡ true
      → position_from p from (xs ++ y ∷ ys) ≡ Some (from + length xs)
  position_next p from [] y ys none is = rw is (ap Some (omega arith))
  position_next p from (x ∷ xs) y ys none is = elim (cases_Bool (p x)) [
    | inl first ↦ absurd (let e = rw first at none in cc)
    | inr not ↦ rw not (position_next p (from + 1) xs y ys (rw not at none) is ∙ ap Some (omega arith))
  ]

  -- what stands at a place stays there
  pub got_stays : (xs ys : List X) (at : ℕ) (x : X) → slice_get xs at ≡ Some x → slice_get (xs ++ ys) at ≡ Some x
  got_stays [] ys at x h = absurd (cc)
  got_stays (y ∷ xs) ys zero x h = h
  got_stays (y ∷ xs) ys (suc at) x h = got_stays xs ys at x h

  -- what is put at the end stands at the place after the last
  pub got_next : (xs : List X) (y : X) (ys : List X) → slice_get (xs ++ y ∷ ys) (length xs) ≡ Some y
  got_next [] y ys = refl
  got_next (x ∷ xs) y ys = got_next xs y ys

  -- the first one that is found stays the one found
  pub found_stays : (p : X → Bool) (xs ys : List X) (x : X) → find p xs ≡ Some x → find p (xs ++ ys) ≡ Some x
  found_stays p xs ys x h = rw (find-append p xs ys, h)

  -- where none was found before, what is put at the end is found, if it passes
  pub found_next : (p : X → Bool) (xs : List X) (y : X) (ys : List X) → ((x : X) → Member xs x → p x ≡ false) → p y ≡ true → find p (xs ++ y ∷ ys) ≡ Some y
  found_next p [] y ys none is = rw is
  found_next p (x ∷ xs) y ys none is = rw (none x (inl refl)) (found_next p xs y ys (λ z h. none z (inr h)) is)

  -- where none passes, none is kept
  pub none_kept : (p : X → Bool) (xs : List X) → ((x : X) → Member xs x → p x ≡ false) → filter p xs ≡ []
  none_kept p [] none = refl
  none_kept p (x ∷ xs) none = rw (none x (inl refl)) (none_kept p xs (λ z h. none z (inr h)))

-- ---- numbers that differ

-- a number is not equal to a greater one
pub below_differs : (a b : ℕ) → a < b → (a == b) ≡ false
below_differs a b low = elim (cases_Bool (a == b)) [ inl same ↦ absurd (omega (arith, eqb-true a b same)) | inr not ↦ not ]

-- a number is not equal to a lesser one
pub above_differs : (a b : ℕ) → b < a → (a == b) ≡ false
above_differs a b low = elim (cases_Bool (a == b)) [ inl same ↦ absurd (omega (arith, eqb-true a b same)) | inr not ↦ not ]

-- ---- a schema that grows

-- tables and indexes were added behind, and no index on a tree that stood
pub record Grows (a b : Schema) : Type 0 where
  pub more : List Table
  pub tables : b.tables ≡ a.tables ++ more
  pub extra : List Index
  pub indexes : b.indexes ≡ a.indexes ++ extra
  pub views : b.views ≡ a.views
  pub beyond : (i : Index) → Member extra i → next_tree a ≤ i.table

-- every tree that stood is below the next one
pub next_rises : (a b : Schema) → Grows a b → next_tree a ≤ next_tree b
next_rises a b g =
    most_below (λ (i : Index). i.tree) _ (next_tree b) a.indexes
    (most_below (λ (t : Table). t.tree) _ (next_tree b) a.tables
    (most_below (λ (v : View). v.tree) 0 (next_tree b) a.views (omega arith) (λ v h. view_below b v (subst (λ l. Member l v) (sym g.views) h)))
    (λ t h. table_below b t (subst (λ l. Member l t) (sym g.tables) (has_left a.tables g.more t h))))
    (λ i h. index_below b i (subst (λ l. Member l i) (sym g.indexes) (has_left a.indexes g.extra i h)))

-- a schema that grows twice grows
pub grows_then : (a b c : Schema) → Grows a b → Grows b c → Grows a c
grows_then a b c p q = record {
  more = p.more ++ q.more;
  tables = q.tables ∙ ap (λ l. l ++ q.more) p.tables ∙ append_assoc a.tables p.more q.more;
  extra = p.extra ++ q.extra;
  indexes = q.indexes ∙ ap (λ l. l ++ q.extra) p.indexes ∙ append_assoc a.indexes p.extra q.extra;
  views = q.views ∙ p.views;
  beyond = λ i h. elim (has_either p.extra q.extra i h) [ inl early ↦ p.beyond i early | inr late ↦ omega (arith, q.beyond i late, next_rises a b p) ];
}

-- a schema to which nothing is added grows by nothing
pub grows_none : (a : Schema) → Grows a a
grows_none a = record {
  more = [];
  tables = sym (append-nil a.tables);
  extra = [];
  indexes = sym (append-nil a.indexes);
  views = refl;
  beyond = λ i h. absurd h;
}

-- a table that was found is found where it was
pub still_has : (a b : Schema) (at : ℕ) (t : Table) → Grows a b → Has a at t → Has b at t
still_has a b at t g h = record {
  named = rw g.tables (position_stays (λ u. same_name u.name t.name) 0 at a.tables g.more h.named);
  listed = rw g.tables (got_stays a.tables g.more at t h.listed);
  by_tree = rw g.tables (found_stays (λ u. u.tree == t.tree) a.tables g.more t h.by_tree);
  low = h.low;
}

-- no index was added on a tree that stood
pub still_keys : (a b : Schema) (tree : ℕ) → Grows a b → tree < next_tree a → keys_on b tree ≡ keys_on a tree
still_keys a b tree g low =
    ap (λ l. map key_of (filter (λ i. i.table == tree) l)) g.indexes ∙ ap (map key_of) (filter-append (λ i. i.table == tree) a.indexes g.extra
    ∙ ap (λ l. filter (λ i. i.table == tree) a.indexes ++ l)
    (none_kept (λ i. i.table == tree) g.extra (λ i h. above_differs i.table tree (omega (arith, g.beyond i h)))) ∙ append-nil _)

-- ---- by name

-- the place of a table is where its name is found
pub place_of_has : (s : Schema) (at : ℕ) (t : Table) (name : List ℕ) → table_named s name ≡ Some at → place_in s name ≡ at
place_of_has s at t name h = ap (λ o. unwrap_or o 0) h

-- the tree of a table's rows is that of the table found under its name
pub tree_of_has : (s : Schema) (at : ℕ) (t : Table) (name : List ℕ) → table_named s name ≡ Some at → slice_get s.tables at ≡ Some t → tree_in s name ≡ t.tree
tree_of_has s at t name named listed =
    ap (λ p. unwrap_or (option_map (λ (u : Table). u.tree) (slice_get s.tables p)) 0) (place_of_has s at t name named)
    ∙ ap (λ o. unwrap_or (option_map (λ (u : Table). u.tree) o) 0) listed

-- a table that the schema has under its name, with its own keys alone, stands
pub stands_by : (s : Schema) (at tree : ℕ) (t : Table) → Has s at (record t { tree = tree }) → keys_on s tree ≡ own_keys t → Stands s t
stands_by s at tree t h keys =
    let place : place_in s t.name ≡ at = place_of_has s at t t.name h.named in
    let is : tree_in s t.name ≡ tree = tree_of_has s at (record t { tree = tree }) t.name h.named h.listed in
    record {
      has = subst₂ (λ p n. Has s p (record t { tree = n })) (sym place) (sym is) h;
      keys = ap (keys_on s) is ∙ keys;
    }

-- what stood stands, in the same tree
pub still_stands : (a b : Schema) (t : Table) → Grows a b → Stands a t → Stands b t × (tree_in b t.name ≡ tree_in a t.name)
still_stands a b t g h =
    let has = still_has a b (place_in a t.name) (record t { tree = tree_in a t.name }) g h.has in
    let low : tree_in a t.name < next_tree a = table_below a (record t { tree = tree_in a t.name }) (has_got a.tables (place_in a t.name) _ h.has.listed) in (
      stands_by b (place_in a t.name) (tree_in a t.name) t has (still_keys a b (tree_in a t.name) g low ∙ h.keys),
      tree_of_has b (place_in a t.name) (record t { tree = tree_in a t.name }) t.name has.named has.listed,
    )
