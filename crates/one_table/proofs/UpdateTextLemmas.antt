-- An UPDATE of one table is understood in any schema that has the table.
use Rattle.std.proofs.Common.{◌≡◌, ℕ, Bool, true, false, ◌&&◌, ◌==◌, if◌then◌else◌, List, [], ◌∷◌, ◌++◌, length, bytes_eq, Option, Some, None, Ok, Err, refl, ap, ap₂, ◌∙◌}
use Rattle.std.specs.List.{list_all}
use Rattle.std.proofs.Math.Path.{fun_ext}
use Rattle.std.proofs.lemmas.Bool.{and_parts}
use Rattle.std.proofs.lemmas.Slice.Eq.{bytes_eq-Decides}
use Rattle.sqlite_ast.specs.declared.Expr.{Expr}
use Rattle.sqlite_ast.specs.declared.Statement.{Statement}
use Rattle.sqlite_ast.specs.declared.Statement.TheVariants as written
use Rattle.sqlite_syntax.specs.declared.statement.Parsed.{Parsed}
use Rattle.sqlite_sql.specs.Term.{Term, col}
use Rattle.sqlite_sql.specs.Query.{Query, end, inner}
use Rattle.sqlite_schema.specs.declared.schema.Schema.{Schema}
use Rattle.sqlite_schema.specs.declared.schema.Table.{Table}
use Rattle.sqlite_schema.specs.declared.command.Command.{Command}
use Rattle.sqlite_schema.specs.declared.command.Command.TheVariants.{Update}
use Rattle.sqlite_schema.specs.declared.program.Program.{Program}
use Rattle.sqlite_draft.specs.declared.query.Draft.{Draft}
use Rattle.sqlite_draft.specs.Query.{query_of}
use Rattle.sqlite_resolve.specs.declared.error.CompileError.TheVariants.{Mismatch, Misuse, Unsupported}
use Rattle.sqlite_resolve.specs.Lowering.{Checked, and_then, or_else, Lowering, fresh, max_budget}
use Rattle.sqlite_resolve.specs.Select.{value_of}
use Rattle.sqlite_resolve.specs.Scope.{Context, Name}
use Rattle.sqlite_resolve.specs.Write.{with_place, sets_from, sets, assigned, picked, row, updated_in, updated}
use Rattle.sqlite_resolve.specs.Program.{program}
use Rattle.sqlite_resolve.specs.Compile.{first, update, shows, returning, command, timed, meaning, planned}
use Rattle.one_table.specs.Place.{Has}
use Rattle.one_table.specs.Simple.{one, bare, depth, is_simple, is_simple_or_absent, Known}
use Rattle.one_table.specs.Reading.{Means, is_typed}
use Rattle.one_table.specs.Changing.{Assignments, update_as, update_of, is_simple_update, draft_if_typed, sets_meant, update_in, update_meant, IsUpdate}
use Rattle.one_table.proofs.AlikeLemmas.{alike}
use Rattle.one_table.proofs.ExprLemmas.{AreAlike, lower_same}
use Rattle.one_table.proofs.BodyLemmas.{tests_same}
use Rattle.one_table.proofs.SelectLemmas.{nil_is}
use Rattle.one_table.proofs.UnderstandLemmas.{program_is, understood_as}

-- ---- what is set, in any two contexts in which the names of columns find the same

module _ (known : Known) (here there : Context) (alike : AreAlike known here there) (t : Table) where
  abbrev are_simple : List (Name × Expr) → Bool
  are_simple = list_all (λ set. is_simple depth known set.1)

  sets_same : (done : List ℕ × List Term) (all : List (Name × Expr)) → are_simple all ≡ true → sets_from here t done all ≡ sets_from there t done all
  sets_same done [] h = refl
  sets_same done (set ∷ more) h = let parts = and_parts (is_simple depth known set.1) _ h in fun_ext λ st.
      ap₂ (λ (e : Lowering Term) (others : List ℕ × List Term → Lowering (List ℕ × List Term)). and_then (with_place t done.0 set.0)
      (λ at. and_then (e st) (λ r. others (at, done.1 ++ r.0 ∷ []) r.1)))
      (lower_same known here there alike 700 depth set.1 parts.0) (fun_ext λ longer. sets_same longer more parts.1)

  assigned_same : (all : List (Name × Expr)) → are_simple all ≡ true → assigned here t all ≡ assigned there t all
  unfolding assigned sets
  assigned_same all h = rw (sets_same ([], []) all h)

  -- the rows that WHERE finds are the same here and there
  pub picked_same : (project : List Term) (test : Option Expr) → is_simple_or_absent known test ≡ true → picked here t project test ≡ picked there t project test
  unfolding picked
  picked_same project test h = rw (tests_same known here there alike [] test h)

  -- the query of an UPDATE is the same here and there
  pub updated_same : (all : List (Name × Expr)) (test : Option Expr) → are_simple all ≡ true → is_simple_or_absent known test ≡ true
      → updated_in here t all test ≡ updated_in there t all test
  unfolding updated_in
  updated_same all test h k =
      ap₂ (λ (a : Lowering (List ℕ × List Term)) (pick : List Term → Lowering Draft). and_then (a (fresh 2 max_budget))
      (λ r. and_then (row t None r.0.0 (col 1 0 ∷ []) r.0.1) (λ project. value_of (pick project r.1))))
      (assigned_same all h) (fun_ext λ project. picked_same project test k)

module _ (s : Schema) (at : ℕ) (t : Table) (has : Has s at t) where
  module _ (command_of : Program → Command) where
    -- a draft of a write that goes by the types of the table is the command of its query
    pub typed_is : (d : Draft) (q : Query) (typed : Bool) → is_typed t (query_of d) [] ≡ typed
        → (if typed then Ok (query_of d) else Err Mismatch) ≡ Ok q → q.from ≡ inner t.tree end
        → and_then (program s [] d) (λ p. Ok (command_of p)) ≡ Ok (command_of (record { lets = []; body = q }))
    typed_is d q false typed h from = absurd cc
    typed_is d q true typed h from =
        let is : query_of d ≡ q = cc in
        rw (program_is s at t has d (ap (λ (r : Query). r.from) is ∙ from) typed) (ap (λ r. Ok (command_of (record { lets = []; body = r }))) is)

  updated_alone : (all : List (Name × Expr)) (test : Option Expr) → list_all (λ set. is_simple depth (bare t) set.1) all ≡ true
      → is_simple_or_absent (bare t) test ≡ true
      → updated s at t all test ≡ updated (one t) 0 t all test
  unfolding updated
  updated_alone = updated_same (bare t) _ _ (alike s at t has.listed t.name [] false) t

  update_is : (u : Assignments) (q : Query) → is_simple_update t u ≡ true → sets_meant t u ≡ Ok q → q.from ≡ inner t.tree end
      → update s u.0 u.1 u.2 ≡ Ok (update_as at q)
  unfolding update sets_meant
  update_is u q h means from =
      let b = and_parts (bytes_eq u.0 t.name && list_all (λ set. is_simple depth (bare t) set.1) u.1) (is_simple_or_absent (bare t) u.2) h in
      let a = and_parts (bytes_eq u.0 t.name) (list_all (λ set. is_simple depth (bare t) set.1) u.1) b.0 in
      by_draft a.0 a.1 b.1 (updated (one t) 0 t u.1 u.2) refl means
    where
      by_draft : bytes_eq u.0 t.name ≡ true → list_all (λ set. is_simple depth (bare t) set.1) u.1 ≡ true → is_simple_or_absent (bare t) u.2 ≡ true
          → (m : Checked Draft) → updated (one t) 0 t u.1 u.2 ≡ m → and_then m (draft_if_typed t) ≡ Ok q → update s u.0 u.1 u.2 ≡ Ok (update_as at q)
      by_draft name sets test (Err e) drafted h = absurd cc
      by_draft name sets test (Ok d) drafted h =
          rw ((bytes_eq-Decides u.0 t.name).0 name, has.named, has.listed, updated_alone u.1 u.2 sets test, drafted)
          (typed_is (Update at) d q (is_typed t (query_of d) []) refl h from)

  -- ---- the text

  statement_is : (p : Parsed) (u : Assignments) → p.statement ≡ written.Update u.0 u.1 u.2 [] → p.formats ≡ [] → (c : Command)
      → update s u.0 u.1 u.2 ≡ Ok c → planned s p ≡ Ok ([], (c, None))
  unfolding planned meaning returning command timed shows
  statement_is p u is timeless c means = rw (is, timeless, means)

  update_as_written : (o : Statement) (u : Assignments) → update_of o ≡ Some u → o ≡ written.Update u.0 u.1 u.2 []
  update_as_written (written.Update name sets test []) u h = ap (λ (v : Assignments). written.Update v.0 v.1 v.2 []) cc
  update_as_written _ u h = absurd cc

  module _ (q : Query) (from : q.from ≡ inner t.tree end) where
    by_test : (p : Parsed) (u : Assignments) → p.statement ≡ written.Update u.0 u.1 u.2 [] → (b : Bool) → ((length p.formats == 0) && is_simple_update t u) ≡ b
        → (if b then sets_meant t u else Err Unsupported) ≡ Ok q → planned s p ≡ Ok ([], (update_as at q, None))
    by_test p u is false test h = absurd cc
    by_test p u is true test h =
        let parts = and_parts (length p.formats == 0) (is_simple_update t u) test in
        statement_is p u is (nil_is p.formats parts.0) (update_as at q) (update_is u q parts.1 h from)

    by_update : (p : Parsed) (o : Option Assignments) → update_of p.statement ≡ o
        → and_then (or_else o Misuse) (λ u. if (length p.formats == 0) && is_simple_update t u then sets_meant t u else Err Unsupported)
        ≡ Ok q → planned s p ≡ Ok ([], (update_as at q, None))
    by_update p None is h = absurd cc
    by_update p (Some u) is h = by_test p u (update_as_written p.statement u is) ((length p.formats == 0) && is_simple_update t u) refl h

    by_parsed : (sql : List ℕ) (m : Checked Parsed) → first sql ≡ m → and_then m (update_in t) ≡ Ok q → Means s sql (update_as at q)
    unfolding update_in
    by_parsed sql (Err e) parsed h = absurd cc
    by_parsed sql (Ok p) parsed h = understood_as s sql p (update_as at q) None parsed (by_update p (update_of p.statement) refl h)

  -- An UPDATE of the table is the query that it is where the table stands alone, at the table's
  -- place.
  pub updates : (q : Query) (sql : List ℕ) → IsUpdate t q sql → Means s sql (update_as at q)
  unfolding update_meant
  updates q sql is = by_parsed q is.from sql (first sql) refl is.means
