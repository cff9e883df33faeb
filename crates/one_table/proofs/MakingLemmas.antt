-- Tables that are made in turn.
use Rattle.std.proofs.Common.{◌≡◌, ℕ, ◌+◌, Bool, true, false, List, [], ◌∷◌, ◌++◌, fold, None, refl, sym, ap, subst, ◌∙◌, inl, inr, arith}
use Rattle.std.proofs.lemmas.List.Sums.{fold-append}
use Rattle.std.proofs.lemmas.Bool.{cases_Bool}
use Rattle.std.specs.List.{position_from, AllByRecursion, list_all}
use Rattle.sqlite_rules.specs.Lists.{Has as Member}
use Rattle.sqlite_rules.proofs.ListLemmas.{all_has, all_from, has_left, has_got}
use Rattle.sqlite_schema.specs.declared.schema.Schema.{Schema}
use Rattle.sqlite_schema.specs.declared.schema.Table.{Table}
use Rattle.sqlite_schema.specs.Names.{same_name, table_named, index_named, view_named}
use Rattle.sqlite_trees.specs.Tree.{Trees}
use Rattle.sqlite_catalog.specs.Change.{is_used, KeepsRows}
use Rattle.sqlite_catalog.proofs.StepLemmas.{no_table, no_index, no_view, table_below}
use Rattle.sqlite.specs.Effect.{Database, IsDatabase}
use Rattle.one_table.specs.Standing.{place_in, tree_in, Stands}
use Rattle.one_table.specs.Referring.{is_idle, is_left_alone}
use Rattle.one_table.specs.Making.{made, MakesTable, MakesTables, IsNewTable}
use Rattle.one_table.proofs.GrowthLemmas.{Grows, grows_then, grows_none, next_rises, still_has, still_stands}
use Rattle.one_table.proofs.NewTableLemmas.{made_grows, made_stands}
use Rattle.one_table.proofs.ReferenceLemmas.{Added, made_adds, still_unreferred, still_harmless, still_left_alone, new_left_alone}

all_push : {X : Type 0} (P : X → Type 0) (xs : List X) (x : X) → AllByRecursion P xs → P x → AllByRecursion P (xs ++ x ∷ [])
all_push P [] x all here = (here, tt)
all_push P (y ∷ xs) x all here = (all.0, all_push P xs x all.1 here)

all_front : {X : Type 0} (P : X → Type 0) (xs : List X) (x : X) → AllByRecursion P (xs ++ x ∷ []) → AllByRecursion P xs × P x
all_front P [] x all = (tt, all.0)
all_front P (y ∷ xs) x all = let rest = all_front P xs x all.1 in ((all.0, rest.0), rest.1)

none_before : {X : Type 0} (p : X → Bool) (from : ℕ) (xs ys : List X) → position_from p from (xs ++ ys) ≡ None → position_from p from xs ≡ None
none_before p from [] ys h = refl
none_before p from (x ∷ xs) ys h = elim (cases_Bool (p x))
    [ inl is ↦ absurd (let e = rw is at h in cc) | inr not ↦ rw not (none_before p (from + 1) xs ys (rw not at h)) ]

-- a name that is free was free before
free_before : (a b : Schema) (name : List ℕ) → Grows a b → is_used b name ≡ false → is_used a name ≡ false
free_before a b name g free =
    let tables : table_named a name ≡ None = none_before (λ t. same_name t.name name) 0 a.tables g.more
    (ap (position_from (λ t. same_name t.name name) 0) (sym g.tables) ∙ no_table b name free) in
    let indexes : index_named a name ≡ None = none_before (λ i. same_name i.name name) 0 a.indexes g.extra
    (ap (position_from (λ i. same_name i.name name) 0) (sym g.indexes) ∙ no_index b name free) in
    let views : view_named a name ≡ None = ap (position_from (λ v. same_name v.name name) 0) (sym g.views) ∙ no_view b name free in
    rw (tables, indexes, views)

-- a schema grows as tables are made in it
pub all_grow : (s : Schema) (ts : List Table) → Grows s (fold made s ts)
all_grow s [] = grows_none s
all_grow s (t ∷ ts) = grows_then s (made s t) (fold made (made s t) ts) (made_grows s t) (all_grow (made s t) ts)

-- what a table that stands has as rows is kept
rows_of_standing : (a : Schema) (db after : Trees) (u : Table) → Stands a u → KeepsRows a.tables db after → after (tree_in a u.name) ≡ db (tree_in a u.name)
rows_of_standing a db after u h kept =
    all_has (λ t. after t.tree ≡ db t.tree) a.tables (record u { tree = tree_in a u.name }) kept
    (has_got a.tables (place_in a u.name) (record u { tree = tree_in a u.name }) h.has.listed)

-- with no tables to make, a sound database stays as it is
pub makes_none : (a : Database) → IsDatabase a → MakesTables [] a a
makes_none a sound = record {
  schema = refl;
  free = tt;
  new = tt;
  places = λ at u h. h;
  still = λ u h. (h, refl, refl);
  rows = all_from _ a.schema.tables (λ t h. refl);
  unreferred = λ names among h. h;
  harmless = λ names idle h. h;
  left_alone = λ names among idle h. tt;
  alone = λ tree low idle h. h;
  sound = sound;
}

module _ (ts : List Table) (t : Table) (a mid b : Database) (early : MakesTables ts a mid) (last : MakesTable t mid b) where
  grown : Grows a.schema mid.schema
  grown = subst (Grows a.schema) (sym early.schema) (all_grow a.schema ts)

  step : Grows mid.schema b.schema
  step = subst (Grows mid.schema) (sym last.schema) (made_grows mid.schema t)

  added : Added mid.schema t b.schema
  added = subst (Added mid.schema t) (sym last.schema) (made_adds mid.schema t)

  still_new : (u : Table) → IsNewTable mid u → IsNewTable b u
  still_new u h =
      let s = still_stands mid.schema b.schema u step h.0 in (s.0, ap b.trees s.1 ∙ rows_of_standing mid.schema mid.trees b.trees u h.0 last.rows ∙ h.1)

  rows_since : KeepsRows a.schema.tables a.trees b.trees
  rows_since = all_from (λ u. b.trees u.tree ≡ a.trees u.tree) a.schema.tables (λ u h.
      all_has (λ u. b.trees u.tree ≡ mid.trees u.tree) mid.schema.tables u last.rows
      (subst (λ l. Member l u) (sym grown.tables) (has_left a.schema.tables grown.more u h))
      ∙ all_has (λ u. mid.trees u.tree ≡ a.trees u.tree) a.schema.tables u early.rows h)

  alone_since : (u : Table) → list_all is_idle t.references ≡ true → Stands mid.schema u
      → is_left_alone mid.schema (tree_in mid.schema u.name) ≡ true → is_left_alone b.schema (tree_in b.schema u.name) ≡ true
  alone_since u idle stands alone =
      let low = table_below mid.schema (record u { tree = tree_in mid.schema u.name })
      (has_got mid.schema.tables (place_in mid.schema u.name) (record u { tree = tree_in mid.schema u.name }) stands.has.listed) in
      ap (is_left_alone b.schema) (still_stands mid.schema b.schema u step stands).1
      ∙ still_left_alone mid.schema t b.schema added (tree_in mid.schema u.name) low idle alone

  -- tables that were made, and one more that is made after them, are made in turn
  pub makes_more : IsDatabase a → MakesTables (ts ++ t ∷ []) a b
  makes_more sound =
      let new = made_stands t mid b early.sound last in
      record {
        schema = last.schema ∙ ap (λ s. made s t) early.schema ∙ sym (fold-append made a.schema ts (t ∷ []));
        free = all_push _ ts t early.free (free_before a.schema mid.schema t.name grown last.free);
        new = all_push (IsNewTable b) ts t (all_from (IsNewTable b) ts (λ u h. still_new u (all_has (IsNewTable mid) ts u early.new h))) (new.0, new.2);
        places = λ at u h. still_has mid.schema b.schema at u step (early.places at u h);
        still = λ u h. let before = early.still u h in let now = still_stands mid.schema b.schema u step before.0 in
            (now.0, now.1 ∙ before.1, ap b.trees now.1 ∙ rows_of_standing mid.schema mid.trees b.trees u before.0 last.rows ∙ before.2);
        rows = rows_since;
        unreferred = λ names among h. let parts = all_front _ ts t among in
            still_unreferred mid.schema t b.schema added names parts.1 (early.unreferred names parts.0 h);
        harmless = λ names idle h. let parts = all_front _ ts t idle in
            still_harmless mid.schema t b.schema added names parts.1 (early.harmless names parts.0 h);
        left_alone = λ names among idle h.
            let ours = all_front _ ts t among in
            let calm = all_front _ ts t idle in
            let before = early.left_alone names ours.0 calm.0 h in
            all_push (λ u. is_left_alone b.schema (tree_in b.schema u.name) ≡ true) ts t
            (all_from _ ts (λ u k. alone_since u calm.1 (all_has (IsNewTable mid) ts u early.new k).0
            (all_has (λ u. is_left_alone mid.schema (tree_in mid.schema u.name) ≡ true) ts u before k)))
            (ap (is_left_alone b.schema) new.1 ∙ new_left_alone mid.schema t b.schema added names ours.1 calm.1 (early.harmless names calm.0 h));
        alone = λ tree low idle h.
            let calm = all_front _ ts t idle in
            still_left_alone mid.schema t b.schema added tree (omega (arith, next_rises a.schema mid.schema grown)) calm.1 (early.alone tree low calm.0 h);
        sound = last.sound;
      }
