-- What an INSERT of one row does.
use Rattle.std.proofs.Common.{◌≡◌, IsTrue, ℕ, ◌+◌, ◌<◌, ◌/◌, ◌&&◌, if◌then◌else◌, MatchBool, Bool, true, false, List, [], ◌∷◌, length, append-nil, slice_get, Option, None, Some, Ok, refl, sym, ap, ◌∙◌, subst, arith}
use Rattle.std.proofs.Math.Nat.{div_self}
use Rattle.std.proofs.lemmas.Bool.{and_parts, not-true}
use Rattle.std.proofs.lemmas.List.{take_all}
use Rattle.std.specs.List.{flat_map, filter_map}
use Rattle.sqlite_value.specs.Order.{Row}
use Rattle.sqlite_trees.specs.Tree.{Trees}
use Rattle.sqlite_sql.specs.Term.{Term, eval_all}
use Rattle.sqlite_schema.specs.declared.schema.Keys.{Keys}
use Rattle.sqlite_schema.specs.declared.schema.Keys.TheVariants.{Enforced}
use Rattle.sqlite_schema.specs.declared.schema.Reference.{Reference}
use Rattle.sqlite_schema.specs.declared.schema.Table.{Table}
use Rattle.sqlite_schema.specs.declared.schema.Schema.{Schema}
use Rattle.sqlite_schema.specs.declared.command.Source.TheVariants.{Values}
use Rattle.sqlite_schema.specs.Rules.{ParentKey}
use Rattle.sqlite_rules.specs.declared.action.Deed.{Deed}
use Rattle.sqlite_rules.specs.declared.error.Rowids.TheVariants.{Chosen, Above}
use Rattle.sqlite_rules.specs.Action.{work_by, work_for, works}
use Rattle.sqlite_rules.specs.Edit.{Edit, edit_of}
use Rattle.sqlite.specs.Effect.{value_rows}
use Rattle.sqlite.specs.Rows.{Written, Task, Sourced, Edited, Inserts, stamped, count_of}
use Rattle.sqlite.specs.State.{State, Shows, Writes, ExecutesInside}
use Rattle.sqlite.proofs.Callers.{one_step}
use Rattle.one_table.specs.Place.{Has}
use Rattle.one_table.specs.InTransaction.{PutsRow}
use Rattle.one_table.proofs.ChangeLemmas.{went, same_value, task_on, has_written, has_changed, ran_inside}
use Rattle.one_table.proofs.InsertTextLemmas.{inserts}
use Rattle.one_table.specs.Inserting.{insert_as, new_row, IsInsert}

-- ---- no foreign key acts where no row is taken out

never : {A : Type 0} (b : Bool) (x y : A) → (if b && false then x else y) ≡ y
never true x y = refl
never false x y = refl

no_work : (depth tree : ℕ) (child : Table) (ref : Reference) (deed : Option Deed) (key : Option ParentKey) → work_by depth tree [] child ref deed key ≡ None
no_work depth tree child ref None key = refl
no_work depth tree child ref (Some deed) None = refl
no_work depth tree child ref (Some deed) (Some key) = never _ _ _

none_kept : {A B : Type 0} (f : A → Option B) → ((a : A) → f a ≡ None) → (xs : List A) → filter_map f xs ≡ []
none_kept f none [] = refl
none_kept f none (x ∷ xs) = rw (none x, none_kept f none xs)

none_joined : {A B : Type 0} (f : A → List B) → ((a : A) → f a ≡ []) → (xs : List A) → flat_map f xs ≡ []
none_joined f none [] = refl
none_joined f none (x ∷ xs) = rw (none x, none_joined f none xs)

-- where no row is taken out, no foreign key has anything to do
pub no_works : (schema : Schema) (keys : Keys) (tree : ℕ) (news : List Row) → works schema keys 0 tree [] news ≡ []
no_works schema keys tree news =
    none_joined _ (λ child. none_kept (work_for schema keys 0 tree [] news child) (λ ref. no_work 0 tree child ref _ _) child.references) schema.tables

-- ---- the parts of the statement

-- where the first of two tests fails, it is the case in which not both pass
pub by_false : (P Q : Type 0) (b c : Bool) → b ≡ false → MatchBool (if b then c else false) P Q → Q
by_false P Q true c is h = absurd cc
by_false P Q false c is h = h

-- as many terms as a row has are one row
pub one_value_row : (params : Row) (width : ℕ) (terms : List Term) → length terms ≡ width → 0 < width
    → value_rows params width (length terms / width) terms ≡ eval_all terms (params ∷ []) ∷ []
one_value_row params width terms whole some =
    let once : length terms / width ≡ 1 = ap (λ n. n / width) whole ∙ div_self some in
    rw once (ap (λ ts. eval_all ts (params ∷ []) ∷ []) (take_all width terms (omega (arith, whole))))

module _ (task : Task) (terms : List Term) (db : Trees) where
  abbrev width : ℕ
  width = length task.table.columns + 1

  abbrev Puts : List Row → Trees → Type 0
  Puts rows next = Edited task.schema task.keys db (edit_of db task.table [] Chosen 0 rows) (Ok next)

  module _ (whole : length terms ≡ width) (uncounted : task.table.is_counted ≡ false) (unstamped : task.table.stamps.terms ≡ []) where
    unstamped_is : stamped task.table task.params ≡ task.params
    unstamped_is = rw (unstamped, append-nil)

    -- the rows that VALUES gives are one row of its terms, where the table adds no times
    pub sourced : (rows : List Row) → Sourced task.limit (record { schema = task.schema; trees = db }) (stamped task.table task.params)
        (Values terms width) (Ok rows) → rows ≡ eval_all terms (task.params ∷ []) ∷ []
    sourced rows h = h.1 ∙ ap (λ params. value_rows params width (length terms / width) terms) unstamped_is
        ∙ one_value_row task.params width terms whole (omega arith)

    -- what is put in, where the statement gives trees
    pub puts_in : (w : Written) → Inserts task (Values terms width) db (Ok w) → Puts (eval_all terms (task.params ∷ []) ∷ []) w.trees
    puts_in w h =
        let given = went h in
        let counted = went given.2 in
        let put = went counted.2 in
        let left = went put.2 in
        let next : left.0 ≡ put.0 = same_value (by_false _ _ task.table.is_counted _ uncounted left.1) in
        let trees : w.trees ≡ put.0 = ap (λ (it : Written). it.trees) (same_value left.2) ∙ next in
        subst (Puts (eval_all terms (task.params ∷ []) ∷ [])) (sym trees)
        (subst (λ rows. Puts rows put.0) (sourced given.0 given.1)
        (subst (λ b. Edited task.schema task.keys db (edit_of db task.table [] (if b then Above (count_of counted.0) else Chosen) 0
        given.0) (Ok put.0)) uncounted put.1))

module _ (sql : List ℕ) (params : Row) (old new : State) (t : Table) (at : ℕ) (terms : List Term) (is : IsInsert t terms sql)
    (has : IsTrue old.is_open → Has old.now.schema at t) where
  abbrev edit : Edit
  edit = edit_of old.now.trees t [] Chosen 0 (eval_all terms (params ∷ []) ∷ [])

  put_by : (text : List ℕ) (count : ℕ) → slice_get old.now.schema.tables at ≡ Some t → Shows old new new.now old.committed true
      → Writes old new None (insert_as at t terms) text params count
      → PutsRow t (new_row t terms params (old.now.trees t.tree)) old new
  put_by text count listed inside w =
      let h = has_written t at None (insert_as at t terms) params old new w.tally listed w.changed in
      let put = puts_in (task_on old params t) terms old.now.trees is.whole is.uncounted is.unstamped h.written h.wrote in
      let a = one_step old.now.schema Enforced old.now.trees h.written.trees edit (no_works old.now.schema Enforced t.tree edit.news) put in
      record {
        changed = has_changed t edit (insert_as at t terms) text params count old new h refl a inside w;
        fresh = not-true _ (and_parts _ _ a.fresh).0;
      }

  -- an INSERT executed inside a transaction puts in its one row, where none had the rowid
  pub puts_row : (count : ℕ) → ExecutesInside 0 sql params old new (Ok count) → PutsRow t (new_row t terms params (old.now.trees t.tree)) old new
  puts_row count h =
      let ran = ran_inside sql params old new (insert_as at t terms) (λ open_now. inserts old.now.schema at t (has open_now) terms sql is) count h in
      put_by _ count (has h.1.was_open).listed ran.2 ran.1
