-- A DELETE from one table is understood in any schema that has the table.
use Rattle.std.proofs.Common.{◌≡◌, ℕ, Bool, true, false, ◌&&◌, ◌==◌, if◌then◌else◌, List, [], ◌∷◌, length, bytes_eq, Option, Some, None, Ok, Err, refl, ap}
use Rattle.std.proofs.lemmas.Bool.{and_parts}
use Rattle.std.proofs.lemmas.Slice.Eq.{bytes_eq-Decides}
use Rattle.sqlite_ast.specs.declared.Expr.{Expr}
use Rattle.sqlite_ast.specs.declared.Statement.{Statement}
use Rattle.sqlite_ast.specs.declared.Statement.TheVariants as written
use Rattle.sqlite_syntax.specs.declared.statement.Parsed.{Parsed}
use Rattle.sqlite_sql.specs.Term.{col}
use Rattle.sqlite_sql.specs.Query.{Query, end, inner}
use Rattle.sqlite_schema.specs.declared.schema.Schema.{Schema}
use Rattle.sqlite_schema.specs.declared.schema.Table.{Table}
use Rattle.sqlite_schema.specs.declared.command.Command.{Command}
use Rattle.sqlite_schema.specs.declared.command.Command.TheVariants.{Delete}
use Rattle.sqlite_draft.specs.declared.query.Draft.{Draft}
use Rattle.sqlite_draft.specs.Query.{query_of}
use Rattle.sqlite_resolve.specs.declared.error.CompileError.TheVariants.{Misuse, Unsupported}
use Rattle.sqlite_resolve.specs.Lowering.{Checked, and_then, or_else, fresh, max_budget}
use Rattle.sqlite_resolve.specs.Select.{value_of}
use Rattle.sqlite_resolve.specs.Write.{deleted}
use Rattle.sqlite_resolve.specs.Compile.{first, delete, shows, returning, command, timed, meaning, planned}
use Rattle.one_table.specs.Place.{Has}
use Rattle.one_table.specs.Simple.{one, bare, is_simple_or_absent}
use Rattle.one_table.specs.Reading.{Means, is_typed}
use Rattle.one_table.specs.Changing.{draft_if_typed}
use Rattle.one_table.specs.Deleting.{IsDelete, Removal, delete_as, delete_in, delete_meant, delete_of, is_simple_delete, removal_meant}
use Rattle.one_table.proofs.AlikeLemmas.{alike}
use Rattle.one_table.proofs.SelectLemmas.{nil_is}
use Rattle.one_table.proofs.UnderstandLemmas.{understood_as}
use Rattle.one_table.proofs.UpdateTextLemmas.{picked_same, typed_is}

module _ (s : Schema) (at : ℕ) (t : Table) (has : Has s at t) where
  deleted_alone : (test : Option Expr) → is_simple_or_absent (bare t) test ≡ true → deleted s at t test ≡ deleted (one t) 0 t test
  unfolding deleted
  deleted_alone test h =
      ap (λ pick. value_of (pick (fresh 2 max_budget))) (picked_same (bare t) _ _ (alike s at t has.listed t.name [] false) t (col 1 0 ∷ []) test h)

  delete_is : (d : Removal) (q : Query) → is_simple_delete t d ≡ true → removal_meant t d ≡ Ok q → q.from ≡ inner t.tree end
      → delete s d.0 d.1 ≡ Ok (delete_as at q)
  unfolding delete removal_meant
  delete_is d q h means from =
      let both = and_parts (bytes_eq d.0 t.name) (is_simple_or_absent (bare t) d.1) h in
      by_draft both.0 both.1 (deleted (one t) 0 t d.1) refl means
    where
      by_draft : bytes_eq d.0 t.name ≡ true → is_simple_or_absent (bare t) d.1 ≡ true → (m : Checked Draft) → deleted (one t) 0 t d.1 ≡ m
          → and_then m (draft_if_typed t) ≡ Ok q → delete s d.0 d.1 ≡ Ok (delete_as at q)
      by_draft name test (Err e) drafted h = absurd cc
      by_draft name test (Ok r) drafted h =
          rw ((bytes_eq-Decides d.0 t.name).0 name, has.named, has.listed, deleted_alone d.1 test, drafted)
          (typed_is s at t has (Delete at) r q (is_typed t (query_of r) []) refl h from)

  -- ---- the text

  statement_is : (p : Parsed) (d : Removal) → p.statement ≡ written.Delete d.0 d.1 [] → p.formats ≡ [] → (c : Command)
      → delete s d.0 d.1 ≡ Ok c → planned s p ≡ Ok ([], (c, None))
  unfolding planned meaning returning command timed shows
  statement_is p d is timeless c means = rw (is, timeless, means)

  delete_as_written : (o : Statement) (d : Removal) → delete_of o ≡ Some d → o ≡ written.Delete d.0 d.1 []
  delete_as_written (written.Delete name test []) d h = ap (λ (v : Removal). written.Delete v.0 v.1 []) cc
  delete_as_written _ d h = absurd cc

  module _ (q : Query) (from : q.from ≡ inner t.tree end) where
    by_test : (p : Parsed) (d : Removal) → p.statement ≡ written.Delete d.0 d.1 [] → (b : Bool) → ((length p.formats == 0) && is_simple_delete t d) ≡ b
        → (if b then removal_meant t d else Err Unsupported) ≡ Ok q → planned s p ≡ Ok ([], (delete_as at q, None))
    by_test p d is false test h = absurd cc
    by_test p d is true test h =
        let parts = and_parts (length p.formats == 0) (is_simple_delete t d) test in
        statement_is p d is (nil_is p.formats parts.0) (delete_as at q) (delete_is d q parts.1 h from)

    by_delete : (p : Parsed) (o : Option Removal) → delete_of p.statement ≡ o
        → and_then (or_else o Misuse) (λ d. if (length p.formats == 0) && is_simple_delete t d then removal_meant t d else Err Unsupported)
        ≡ Ok q → planned s p ≡ Ok ([], (delete_as at q, None))
    by_delete p None is h = absurd cc
    by_delete p (Some d) is h = by_test p d (delete_as_written p.statement d is) ((length p.formats == 0) && is_simple_delete t d) refl h

    by_parsed : (sql : List ℕ) (m : Checked Parsed) → first sql ≡ m → and_then m (delete_in t) ≡ Ok q → Means s sql (delete_as at q)
    unfolding delete_in
    by_parsed sql (Err e) parsed h = absurd cc
    by_parsed sql (Ok p) parsed h = understood_as s sql p (delete_as at q) None parsed (by_delete p (delete_of p.statement) refl h)

  -- A DELETE from the table is the query that it is where the table stands alone, at the table's
  -- place.
  pub deletes : (q : Query) (sql : List ℕ) → IsDelete t q sql → Means s sql (delete_as at q)
  unfolding delete_meant
  deletes q sql is = by_parsed q is.from sql (first sql) refl is.means
