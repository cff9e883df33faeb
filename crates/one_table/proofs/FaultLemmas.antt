-- A SELECT over one table fails only for want of memory, by a fault of the disk, or at a limit on
-- steps.
use Rattle.std.proofs.Common.{◌≡◌, ℕ, ◌≤◌, ◌==◌, nat_le, true, false, List, [], ◌∷◌, length, Option, None, Ok, Err, sym, ap, append-nil, subst, ◌∙◌, inl, inr, true≢false}
use Rattle.std.proofs.lemmas.Bool.{and_parts, eqb-true, leb-true}
use Rattle.sqlite_value.specs.Order.{Row}
use Rattle.sqlite_trees.specs.Tree.{Trees}
use Rattle.sqlite_syntax.specs.declared.statement.Parsed.{Parsed}
use Rattle.sqlite_sql.specs.Term.{Env}
use Rattle.sqlite_sql.specs.Query.{Query, end, inner, matches, FoldOverflows}
use Rattle.sqlite_sql.specs.Group.{Overflows}
use Rattle.sqlite_sql.specs.Program.{overlay, QueryOverflows}
use Rattle.sqlite_typing.specs.Types.{accepts_program}
use Rattle.sqlite_schema.specs.declared.schema.Schema.{Schema}
use Rattle.sqlite_schema.specs.declared.schema.Table.{Table}
use Rattle.sqlite_schema.specs.declared.command.Command.{Command}
use Rattle.sqlite_schema.specs.declared.command.Returning.{Returning}
use Rattle.sqlite_resolve.specs.declared.compiled.Compiled.{Compiled}
use Rattle.sqlite_resolve.specs.Lowering.{Checked, and_then}
use Rattle.sqlite_resolve.specs.Scope.{Name}
use Rattle.sqlite_resolve.specs.Compile.{first, planned, compiled, with_command}
use Rattle.sqlite.specs.declared.error.Error.{Error}
use Rattle.sqlite.specs.Effect.{Database, RefusesQuery, RefusesToRead}
use Rattle.sqlite.specs.Listing.{understood, reads_listing, IsSourceOf}
use Rattle.sqlite.specs.State.{State, IsUnchanged, IsNoStatement, IsNotRun, FailsToQuery}
use Rattle.one_table.specs.Place.{Has}
use Rattle.one_table.specs.Reading.{Means, MeansAs, select_as, is_typed, is_whole, is_whole_in, FailsPlainly}
use Rattle.one_table.proofs.UnderstandLemmas.{typed_alike}

module _ {s : Schema} {sql : List ℕ} {c : Command} {shows : Option Returning} (means : MeansAs s sql c shows) where
  compiles : compiled s sql ≡ Ok means.compiled
  unfolding understood
  compiles = let read = means.unlisted in rw read at means.understands

  from_plan : (count : ℕ) (p : Parsed) → is_whole_in sql count (Ok p) ≡ true → (m : Checked (List Name × (Command × Option Returning)))
      → and_then m (λ plan. Ok (with_command p plan)) ≡ Ok means.compiled
      → (length means.compiled.names ≡ count) × (length sql ≤ means.compiled.tail)
  from_plan count p whole (Err e) h = absurd cc
  from_plan count p whole (Ok plan) h =
      let is : with_command p plan ≡ means.compiled = cc in
      let parts = and_parts (length p.names == count) (nat_le (length sql) p.tail) whole in (
        sym (ap (λ (k : Compiled). length k.names) is) ∙ eqb-true (length p.names) count parts.0,
        subst (λ (k : Compiled). length sql ≤ k.tail) is (leb-true (length sql) p.tail parts.1),
      )

  from_parsed : (count : ℕ) (m : Checked Parsed) → is_whole_in sql count m ≡ true
      → and_then m (λ p. and_then (planned s p) (λ plan. Ok (with_command p plan))) ≡ Ok means.compiled
      → (length means.compiled.names ≡ count) × (length sql ≤ means.compiled.tail)
  from_parsed count (Err e) whole h = absurd cc
  from_parsed count (Ok p) whole h = from_plan count p whole (planned s p) h

  -- the text is what was compiled
  whole_is : (count : ℕ) → is_whole sql count ≡ true → (length means.compiled.names ≡ count) × (length sql ≤ means.compiled.tail)
  unfolding is_whole compiled
  whole_is count whole = from_parsed count (first sql) whole compiles

  module _ (params : Row) (old new : State) (has : old.now.schema ≡ s) (e : Error) where
    known : (k : Compiled) → understood old.now.schema sql ≡ Ok k → k ≡ means.compiled
    known k is = let both : Ok k ≡ Ok means.compiled = sym is ∙ ap (λ s. understood s sql) has ∙ means.understands in cc

    -- so it is a statement, of so many parameters
    pub is_statement : is_whole sql (length params) ≡ true → ¬ IsNoStatement old sql params e
    is_statement whole (inl h) = absurd (let both : Err h.0 ≡ Ok means.compiled = sym h.1 ∙ ap (λ s. understood s sql) has ∙ means.understands in cc)
    is_statement whole (inr h) =
        let is = known h.0 h.1 in
        let parts = whole_is (length params) whole in
        elim h.2 [
          | inl long ↦ long.0 (subst (λ (k : Compiled). length sql ≤ k.tail) (sym is) parts.1)
          | inr (inl other) ↦ other.0 (sym (ap (λ (k : Compiled). length k.names) is ∙ parts.0))
          | inr (inr timed) ↦ timed.0 (ap (λ (k : Compiled). k.formats) is ∙ means.timeless)
        ]

none_folds : (db : Trees) (tree : ℕ) (env : Env) → ¬ FoldOverflows db (inner tree end) env
none_folds db tree env h = h.4

never_overflows : (q : Query) (tree : ℕ) → q.from ≡ inner tree end → q.group ≡ None → (db : Trees) (params : Row) → ¬ QueryOverflows q db params
never_overflows q tree from no_group db params (inl h) = subst (λ g. Overflows g (matches db q.filter q.from (params ∷ []))) no_group h
never_overflows q tree from no_group db params (inr h) = none_folds db tree (params ∷ []) (subst (λ f. FoldOverflows db f (params ∷ [])) from h)

module _ {s : Schema} {sql : List ℕ} (q : Query) (names : List Name) (means : Means s sql (select_as q names)) (at : ℕ) (t : Table) (stands : Has s at t)
    (from : q.from ≡ inner t.tree end) (no_group : q.group ≡ None) (params : Row) (typed : is_typed t q params ≡ true) (old new : State)
    (has : old.now.schema ≡ s) (e : Error) where
  refuses_plainly : (db : Database) → db ≡ old.now → RefusesQuery old.step_limit db (record { lets = []; body = q }) params e
      → IsUnchanged old new → FailsPlainly old new e
  refuses_plainly db is (inl h) same = absurd (let wrong : accepts_program s [] q params
      ≡ false = subst (λ sch. accepts_program sch [] q params ≡ false) (ap (λ (d : Database). d.schema) is ∙ has) h.1 in
      true≢false (sym typed ∙ sym (typed_alike s at t stands q from params) ∙ wrong))
  refuses_plainly db is (inr (inl h)) same = absurd (never_overflows q t.tree from no_group (overlay db.trees []) params h.1)
  refuses_plainly db is (inr (inr h)) same = inr (h.0, h.1, same)

  -- a whole SELECT over one table that fails does so for want of memory, the disk or the limit
  pub fails_plainly : is_whole sql (length params) ≡ true → FailsToQuery sql params old new e → FailsPlainly old new e
  unfolding FailsToQuery IsNotRun
  fails_plainly whole (inl (inl h)) = absurd (is_statement means params old new has e whole h.0)
  fails_plainly whole (inl (inr h)) = inl h
  fails_plainly whole (inr h) =
      let is = known means params old new has e h.0 h.1.is in
      let bare : h.0.returning ≡ None = ap (λ (k : Compiled). k.returning) is ∙ means.returning in
      let timeless : h.0.formats ≡ [] = ap (λ (k : Compiled). k.formats) is ∙ means.timeless in
      let it = rw (bare, timeless, append-nil params) at h.2 in
      let db : it.0 ≡ old.now = subst (λ b. IsSourceOf b old.now it.0) (ap (λ t. reads_listing t sql) has ∙ means.unlisted) it.1 in
      let refuses = subst (λ k. RefusesToRead old.step_limit k it.0 params e) (ap (λ (k : Compiled). k.command) is ∙ means.command) it.2 in
      refuses_plainly it.0 db refuses it.3
