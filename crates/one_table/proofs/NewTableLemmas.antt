-- What CREATE TABLE adds to a sound database: a table that is found by its name and by its tree,
-- with its own keys.
use Rattle.std.proofs.Common.{◌≡◌, ℕ, ◌+◌, ◌^◌, ◌<◌, ◌==◌, Bool, true, false, List, [], ◌∷◌, ◌++◌, length, map, filter, slice_index_or, Some, refl, sym, ap, subst, ◌∙◌, inl, inr, arith}
use Rattle.std.proofs.lemmas.Bool.{cases_Bool, eq-eqb, lt-leb}
use Rattle.std.proofs.lemmas.List.Elements.{filter-append}
use Rattle.sqlite_rules.specs.Lists.{Has as Member}
use Rattle.sqlite_rules.proofs.ListLemmas.{has_left, has_right}
use Rattle.sqlite_schema.specs.declared.schema.Index.{Index}
use Rattle.sqlite_schema.specs.declared.schema.Schema.{Schema}
use Rattle.sqlite_schema.specs.declared.schema.Table.{Table}
use Rattle.sqlite_schema.specs.Names.{same_name}
use Rattle.sqlite_catalog.specs.Change.{automatics, created, is_used, next_tree}
use Rattle.sqlite_catalog.specs.Listing.{IsIndexRow, IsTableRow}
use Rattle.sqlite_catalog.proofs.LayoutLemmas.{zipped_left, index_owner}
use Rattle.sqlite_catalog.proofs.StepLemmas.{table_below, no_table, same_itself}
use Rattle.sqlite_value.specs.Order.{column}
use Rattle.sqlite_value.specs.Keys.{plain}
use Rattle.sqlite.specs.Does.{lacks_sequence}
use Rattle.sqlite.specs.Effect.{Database, IsDatabase}
use Rattle.one_table.specs.Place.{Has}
use Rattle.one_table.specs.Standing.{key_of, keys_from, keys_on, own_keys, Stands, tree_in}
use Rattle.one_table.specs.Making.{counters, made, with_counters, MakesTable}
use Rattle.one_table.proofs.GrowthLemmas.{position_next, got_next, found_next, none_kept, below_differs, Grows, grows_then, grows_none, stands_by, still_stands, tree_of_has}

automatic_owner : (t : Table) (at tree : ℕ) (keys : List (List ℕ)) (i : Index) → Member (automatics t at tree keys) i → i.table ≡ t.tree
automatic_owner t at tree [] i h = absurd h
automatic_owner t at tree (key ∷ keys) i (inl same) = ap (λ (j : Index). j.table) same
automatic_owner t at tree (key ∷ keys) i (inr later) = automatic_owner t (at + 1) (tree + 1) keys i later

created_grows : (s : Schema) (t : Table) → Grows s (created s t)
created_grows s t =
    let new : Table = record t { tree = next_tree s } in
    record {
      more = new ∷ [];
      tables = refl;
      extra = automatics new 0 (next_tree s + 1) t.uniques;
      indexes = refl;
      views = refl;
      beyond = λ i h. omega (arith, automatic_owner new 0 (next_tree s + 1) t.uniques i h);
    }

counters_grow : (s : Schema) → Grows s (with_counters s)
counters_grow s = elim (cases_Bool (lacks_sequence s)) [
  | inl lacks ↦ rw lacks (created_grows s counters)
  | inr not ↦ rw not (grows_none s)
]

-- a schema grows as a table is made in it
pub made_grows : (s : Schema) (t : Table) → Grows s (made s t)
made_grows s t = grows_then s (created s t) (made s t) (created_grows s t) (counters_grow (created s t))

-- the next tree is above the new table's
pub next_after : (s : Schema) (t : Table) → next_tree s < next_tree (created s t)
next_after s t =
    let new : Table = record t { tree = next_tree s } in table_below (created s t) new (has_right s.tables (new ∷ []) new (inl refl))

-- each index of a sound database is on one of its tables
index_below_next : (db : Database) → IsDatabase db → (i : Index) → Member db.schema.indexes i → i.table < next_tree db.schema
index_below_next db sound i h =
    let row = zipped_left (IsIndexRow db.schema.tables) _ db.schema.indexes i sound.lists.listed.indexes h in
    omega (arith, index_owner row.2.table i (column row.0 4) row.2.defined, table_below db.schema row.2.table row.2.listed)

tree_below_bound : (db : Database) → IsDatabase db → (t : Table) → Member db.schema.tables t → t.tree < 65536
tree_below_bound db sound t h = (zipped_left IsTableRow _ db.schema.tables t sound.lists.listed.tables h).2.described.low

automatic_keys : (t : Table) (at tree : ℕ) (keys : List (List ℕ))
    → map key_of (filter (λ i. i.table == t.tree) (automatics t at tree keys)) ≡ keys_from t.orders at keys
automatic_keys t at tree [] = refl
automatic_keys t at tree (key ∷ keys) = rw (eq-eqb t.tree t.tree refl)
    (ap (λ l. (true, key, slice_index_or t.orders at plain) ∷ l) (automatic_keys t (at + 1) (tree + 1) keys))

-- on a new table are the keys of its own, and no index that stood
new_keys : (db : Database) (t : Table) → IsDatabase db → keys_on (created db.schema t) (next_tree db.schema) ≡ own_keys t
new_keys db t sound =
    let s = db.schema in
    let new : Table = record t { tree = next_tree s } in
    let on : Index → Bool = λ i. i.table == next_tree s in
    ap (map key_of) (filter-append on s.indexes (automatics new 0 (next_tree s + 1) t.uniques))
    ∙ ap (λ l. map key_of (l ++ filter on (automatics new 0 (next_tree s + 1) t.uniques)))
    (none_kept on s.indexes (λ i h. below_differs i.table (next_tree s) (index_below_next db sound i h)))
    ∙ automatic_keys new 0 (next_tree s + 1) t.uniques

-- a new table is the first of its name and of its tree
new_has : (s : Schema) (t : Table) → is_used s t.name ≡ false → next_tree s < 65536 → Has (created s t) (length s.tables) (record t { tree = next_tree s })
new_has s t free low = record {
  named = position_next (λ u. same_name u.name t.name) 0 s.tables (record t { tree = next_tree s }) [] (no_table s t.name free)
      (same_itself t.name) ∙ ap Some (omega arith);
  listed = got_next s.tables (record t { tree = next_tree s }) [];
  by_tree = found_next (λ u. u.tree == next_tree s) s.tables (record t { tree = next_tree s }) []
      (λ u h. below_differs u.tree (next_tree s) (table_below s u h)) (eq-eqb (next_tree s) (next_tree s) refl);
  low = lt-leb (2 ^ 31) (next_tree s) (omega arith);
}

new_stands : (db : Database) (t : Table) → IsDatabase db → is_used db.schema t.name ≡ false → next_tree db.schema < 65536
    → Stands (created db.schema t) t × (tree_in (created db.schema t) t.name ≡ next_tree db.schema)
new_stands db t sound free low =
    let has = new_has db.schema t free low in (
      stands_by (created db.schema t) (length db.schema.tables) (next_tree db.schema) t has (new_keys db t sound),
      tree_of_has (created db.schema t) (length db.schema.tables) (record t { tree = next_tree db.schema }) t.name has.named has.listed,
    )

-- the table that was made stands in the next tree, and is empty
pub made_stands : (t : Table) (a b : Database) → IsDatabase a → MakesTable t a b → Stands b.schema t
    × (tree_in b.schema t.name ≡ next_tree a.schema) × (b.trees (tree_in b.schema t.name) ≡ [])
made_stands t a b sound m =
    let new : Table = record t { tree = next_tree a.schema } in
    let listed : Member (created a.schema t).tables new = has_right a.schema.tables (new ∷ []) new (inl refl) in
    let grown : Grows (created a.schema t) b.schema = subst (Grows (created a.schema t)) (sym m.schema) (counters_grow (created a.schema t)) in
    let low : next_tree a.schema < 65536 = tree_below_bound b m.sound new
    (subst (λ l. Member l new) (sym grown.tables) (has_left (created a.schema t).tables grown.more new listed)) in
    let first = new_stands a t sound m.free low in
    let still = still_stands (created a.schema t) b.schema t grown first.0 in
    (still.0, still.1 ∙ first.1, ap b.trees (still.1 ∙ first.1) ∙ m.empty)
