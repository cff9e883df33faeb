-- An INSERT of one row is understood in any schema that has the table.
use Rattle.std.proofs.Common.{◌≡◌, ℕ, ◌+◌, Bool, true, false, ◌&&◌, ◌==◌, if◌then◌else◌, List, [], ◌∷◌, ◌++◌, length, bytes_eq, Option, Some, None, Ok, Err, refl, sym, ap, ap₂, true≢false}
use Rattle.std.specs.List.{list_all}
use Rattle.std.proofs.Math.Path.{fun_ext}
use Rattle.std.proofs.lemmas.Bool.{and_parts}
use Rattle.std.proofs.lemmas.Slice.Eq.{bytes_eq-Decides}
use Rattle.sqlite_ast.specs.declared.Expr.{Expr, out-Expr}
use Rattle.sqlite_ast.specs.declared.Expr.TheOpen.{Expr-F}
use Rattle.sqlite_ast.specs.Layer.{Layer}
use Rattle.sqlite_ast.specs.declared.Conflict.TheVariants as conflict
use Rattle.sqlite_ast.specs.declared.Rows.TheVariants as rows
use Rattle.sqlite_ast.specs.declared.Statement.{Statement}
use Rattle.sqlite_ast.specs.declared.Statement.TheVariants as written
use Rattle.sqlite_syntax.specs.declared.statement.Parsed.{Parsed}
use Rattle.sqlite_sql.specs.Term.{Term}
use Rattle.sqlite_schema.specs.declared.schema.Schema.{Schema}
use Rattle.sqlite_schema.specs.declared.schema.Table.{Table}
use Rattle.sqlite_schema.specs.declared.command.Source.TheVariants as source
use Rattle.sqlite_schema.specs.declared.command.Command.{Command}
use Rattle.sqlite_schema.specs.declared.program.Program.{Program}
use Rattle.sqlite_resolve.specs.declared.error.CompileError.TheVariants.{Misuse, Unsupported}
use Rattle.sqlite_resolve.specs.declared.write.NewRows.{NewRows}
use Rattle.sqlite_resolve.specs.declared.write.NewRows.TheVariants as new
use Rattle.sqlite_resolve.specs.Lowering.{Checked, and_then, or_else, Lowering, ◌>>=◌, max_budget}
use Rattle.sqlite_resolve.specs.Scope.{Context, Name}
use Rattle.sqlite_resolve.specs.Expr.{node_at, opened, node, lower_to, lower}
use Rattle.sqlite_resolve.specs.Body.{all_from, all}
use Rattle.sqlite_resolve.specs.Select.{outermost}
use Rattle.sqlite_resolve.specs.Program.{program}
use Rattle.sqlite_resolve.specs.Write as write
use Rattle.sqlite_resolve.specs.Compile.{first, small, source_of, queried, new_rows, insert, insert_or_abort, shows, returning, command, timed, meaning, planned}
use Rattle.one_table.specs.Place.{Has}
use Rattle.one_table.specs.Simple.{one}
use Rattle.one_table.specs.Reading.{Means}
use Rattle.one_table.specs.Inserting.{is_value_at, is_value, Puts, insert_of, is_simple_insert, puts_meant, insert_in, insert_meant, source_of_row, insert_as, IsInsert}
use Rattle.one_table.proofs.SelectLemmas.{nil_is}
use Rattle.one_table.proofs.UnderstandLemmas.{understood_as}

module _ (s u : Schema) where
  value_at_same : (f : Context → Expr → Lowering Term) (l : Layer) → is_value_at l ≡ true → node_at f (outermost s) l ≡ node_at f (outermost u) l
  value_at_same f Expr-F.Null h = refl
  value_at_same f (Expr-F.Integer text) h = refl
  value_at_same f (Expr-F.Text text) h = refl
  value_at_same f (Expr-F.Parameter n) h = refl
  value_at_same f _ h = absurd (true≢false (sym h))

  value_same : (e : Expr) → is_value e ≡ true → lower (outermost s) e ≡ lower (outermost u) e
  unfolding lower_to node opened
  value_same e h = rw (value_at_same (lower_to 699) (out-Expr e) h)

  all_from_same : (done : List Term) (es : List Expr) → list_all is_value es ≡ true → all_from lower (outermost s) done es
      ≡ all_from lower (outermost u) done es
  all_from_same done [] h = refl
  all_from_same done (e ∷ es) h =
      let parts = and_parts (is_value e) (list_all is_value es) h in
      ap₂ (λ (a : Lowering Term) (b : Term → Lowering (List Term)). a >>= b) (value_same e parts.0) (fun_ext λ t. all_from_same (done ++ t ∷ []) es parts.1)

  row_same : (t : Table) (base : ℕ) (at : List ℕ) (es : List Expr) → list_all is_value es ≡ true → write.value_row s t base at [] es
      ≡ write.value_row u t base at [] es
  unfolding write.value_row all
  row_same t base at es h = fun_ext λ st.
      ap (λ (a : Lowering (List Term)). and_then (a (record st { budget = max_budget }))
      (λ r. and_then (write.row t (Some base) at [] r.0) (λ longer. Ok (longer, r.1)))) (all_from_same [] es h)

  values_same : (t : Table) (base : ℕ) (at : List ℕ) (es : List Expr) → list_all is_value es ≡ true → write.values s t base at (es ∷ [])
      ≡ write.values u t base at (es ∷ [])
  unfolding write.values write.value_rows
  values_same t base at es h = rw (row_same t base at es h)

  inserted_same : (t : Table) (base : ℕ) (names : List Name) (es : List Expr) → list_all is_value es ≡ true
      → write.inserted s t base names (rows.Values (es ∷ [])) ≡ write.inserted u t base names (rows.Values (es ∷ []))
  unfolding write.inserted
  inserted_same t base names es h = ap (λ (f : List ℕ → Checked NewRows). and_then (write.places t names) f) (fun_ext λ at. values_same t base at es h)

  -- only a row of terms is known, and what a query would be is not
  pub source_same : (width : ℕ) (terms : List Term) (rows_are : NewRows) → source_of u width rows_are ≡ Ok (source.Values terms width)
      → source_of s width rows_are ≡ Ok (source.Values terms width)
  unfolding source_of queried
  source_same width terms (new.Values found) h = h
  source_same width terms (new.Query lets d) h = by_program (program u lets d) h
    where
      by_program : (m : Checked Program) → and_then m (λ q. Ok (source.Query q)) ≡ Ok (source.Values terms width) → queried s lets d
          ≡ Ok (source.Values terms width)
      by_program (Ok q) h = absurd cc
      by_program (Err e) h = absurd cc

  -- the new row of an INSERT means the same in two schemas, where it holds plain values alone
  pub new_rows_same : (t : Table) (terms : List Term) (base : ℕ) (names : List Name) (es : List Expr) → list_all is_value es ≡ true
      → new_rows u t base names (rows.Values (es ∷ [])) ≡ Ok (source_of_row t terms) → new_rows s t base names (rows.Values (es ∷ []))
      ≡ Ok (source_of_row t terms)
  unfolding new_rows
  new_rows_same t terms base names es simple h = rw (inserted_same t base names es simple) (by_rows (write.inserted u t base names (rows.Values (es ∷ []))) h)
    where
      by_rows : (m : Checked NewRows) → and_then m (source_of u (length t.columns + 1)) ≡ Ok (source_of_row t terms)
          → and_then m (source_of s (length t.columns + 1)) ≡ Ok (source_of_row t terms)
      by_rows (Ok found) h = source_same (length t.columns + 1) terms found h
      by_rows (Err e) h = absurd cc

module _ (s : Schema) (at : ℕ) (t : Table) (has : Has s at t) (terms : List Term) where
  insert_is : (w : Puts) (base : ℕ) → is_simple_insert t w ≡ true → puts_meant t base w ≡ Ok (source_of_row t terms)
      → insert_or_abort s base w.0 w.1 (rows.Values (w.2 ∷ [])) [] ≡ Ok (insert_as at t terms)
  unfolding insert_or_abort insert puts_meant
  insert_is w base h means =
      let b = and_parts (bytes_eq w.0 t.name && (length t.stamps.formats == 0)) (list_all is_value w.2) h in
      let a = and_parts (bytes_eq w.0 t.name) (length t.stamps.formats == 0) b.0 in
      rw ((bytes_eq-Decides w.0 t.name).0 a.0, has.named, has.listed, new_rows_same s (one t) t terms base w.1 w.2 b.1 means)

  -- ---- the text

  statement_is : (p : Parsed) (w : Puts) → p.statement ≡ written.Insert conflict.Abort w.0 w.1 (rows.Values (w.2 ∷ [])) [] [] → p.formats
      ≡ [] → t.stamps.formats ≡ [] → w.0 ≡ t.name → (c : Command)
      → insert_or_abort s (small p.names + small t.stamps.formats) w.0 w.1 (rows.Values (w.2 ∷ [])) [] ≡ Ok c → planned s p ≡ Ok ([], (c, None))
  unfolding planned meaning returning command timed shows
  statement_is p w is timeless none name c means =
      let here = rw name at means in
      rw (is, timeless, name, has.named, has.listed, here, none)

  insert_as_written : (o : Statement) (w : Puts) → insert_of o ≡ Some w → o ≡ written.Insert conflict.Abort w.0 w.1 (rows.Values (w.2 ∷ [])) [] []
  insert_as_written (written.Insert conflict.Abort name columns (rows.Values (row ∷ [])) [] []) w h =
      ap (λ (v : Puts). written.Insert conflict.Abort v.0 v.1 (rows.Values (v.2 ∷ [])) [] []) cc
  insert_as_written _ w h = absurd cc

  by_test : (p : Parsed) (w : Puts) → p.statement ≡ written.Insert conflict.Abort w.0 w.1 (rows.Values (w.2 ∷ [])) [] [] → (b : Bool)
      → ((length p.formats == 0) && is_simple_insert t w) ≡ b
      → (if b then puts_meant t (small p.names + small t.stamps.formats) w else Err Unsupported) ≡ Ok (source_of_row t terms) → planned s p
      ≡ Ok ([], (insert_as at t terms, None))
  by_test p w is false test h = absurd cc
  by_test p w is true test h =
      let parts = and_parts (length p.formats == 0) (is_simple_insert t w) test in
      let b = and_parts (bytes_eq w.0 t.name && (length t.stamps.formats == 0)) (list_all is_value w.2) parts.1 in
      let a = and_parts (bytes_eq w.0 t.name) (length t.stamps.formats == 0) b.0 in
      statement_is p w is (nil_is p.formats parts.0) (nil_is t.stamps.formats a.1) ((bytes_eq-Decides w.0 t.name).0 a.0)
      (insert_as at t terms) (insert_is w _ parts.1 h)

  by_insert : (p : Parsed) (o : Option Puts) → insert_of p.statement ≡ o
      → and_then (or_else o Misuse) (λ w. if (length p.formats == 0) && is_simple_insert t w then
      puts_meant t (small p.names + small t.stamps.formats) w else Err Unsupported) ≡ Ok (source_of_row t terms)
      → planned s p ≡ Ok ([], (insert_as at t terms, None))
  by_insert p None is h = absurd cc
  by_insert p (Some w) is h = by_test p w (insert_as_written p.statement w is) ((length p.formats == 0) && is_simple_insert t w) refl h

  by_parsed : (sql : List ℕ) (m : Checked Parsed) → first sql ≡ m → and_then m (insert_in t) ≡ Ok (source_of_row t terms) → Means s sql (insert_as at t terms)
  unfolding insert_in
  by_parsed sql (Err e) parsed h = absurd cc
  by_parsed sql (Ok p) parsed h = understood_as s sql p (insert_as at t terms) None parsed (by_insert p (insert_of p.statement) refl h)

  -- An INSERT of one row into the table is that row, at the table's place.
  pub inserts : (sql : List ℕ) → IsInsert t terms sql → Means s sql (insert_as at t terms)
  unfolding insert_meant
  inserts sql is = by_parsed sql (first sql) refl is.means
