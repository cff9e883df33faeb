-- The parts of a SELECT, and what RETURNING shows, mean the same where the names that they may have
-- find the same columns.
use Rattle.std.proofs.Common.{◌≡◌, ℕ, true, List, [], ◌∷◌, ◌++◌, Option, Some, None, is_some, unwrap_or, refl, sym, ap, ap₂, true≢false}
use Rattle.std.specs.List.{list_all}
use Rattle.std.proofs.Math.Path.{fun_ext}
use Rattle.std.proofs.lemmas.Bool.{and_parts}
use Rattle.sqlite_value.specs.declared.keys.Key.{Key}
use Rattle.sqlite_ast.specs.declared.Expr.{Expr, out-Expr}
use Rattle.sqlite_ast.specs.declared.Expr.TheOpen.{Expr-F, Shown-F}
use Rattle.sqlite_ast.specs.declared.Shown.{Shown, out-Shown}
use Rattle.sqlite_ast.specs.declared.Sort.{Sort, out-Sort}
use Rattle.sqlite_ast.specs.Layer.{Layer, ShownLayer}
use Rattle.sqlite_sql.specs.Term.{Term}
use Rattle.sqlite_resolve.specs.declared.scope.Output.{Output}
use Rattle.sqlite_resolve.specs.Lowering.{Lowering, ◌>>=◌, ◌<$>◌, pure, last}
use Rattle.sqlite_resolve.specs.Scope.{Context, Name}
use Rattle.sqlite_resolve.specs.Terms.{conjuncts}
use Rattle.sqlite_resolve.specs.Body.{heading, heading_at, is_column, shown, shown_at, outputs_from, outputs, tests}
use Rattle.sqlite_resolve.specs.Order.{key, peeled, alias_in, aliased_or, sort, sorts_from}
use Rattle.sqlite_resolve.specs.Expr.{lower}
use Rattle.sqlite_resolve.specs.declared.scope.Bound.{Bound}
use Rattle.one_table.specs.Simple.{Known, depth, is_simple, is_simple_at, is_simple_or_absent, is_simple_output, is_simple_output_at, is_simple_sort}
use Rattle.one_table.proofs.ExprLemmas.{AreAlike, heading_same_at, lower_same}

module _ (known : Known) (here there : Context) (alike : AreAlike known here there) where
  same : (e : Expr) → is_simple depth known e ≡ true → lower here e ≡ lower there e
  same e h = lower_same known here there alike 700 depth e h

  -- ---- the columns of the result

  heading_at_same : (n : ℕ) (text : Name) (l : Layer) → is_simple_at (is_simple n known) known l ≡ true → heading_at here text l ≡ heading_at there text l
  heading_at_same n text (Expr-F.Truth c value) h = absurd (true≢false (sym h))
  heading_at_same n text (Expr-F.Column table c) h = heading_same_at known here there alike table text c h
  heading_at_same n text _ h = refl

  heading_same : (e : Expr) (text : Name) → is_simple depth known e ≡ true → heading here e text ≡ heading there e text
  unfolding heading
  heading_same e text h = heading_at_same 19 text (out-Expr e) h

  one_more : List Output → Expr → Option Name → Name → Lowering Term → Lowering (List Output)
  one_more done e alias head part = do
    x ← part
    pure (done ++ record { name = unwrap_or alias head; is_alias = is_some alias; is_column = is_column e; term = x; carried = (← last) } ∷ [])

  output_at_same : (inside outside : List Bound) (done : List Output) (l : ShownLayer) → is_simple_output_at known l ≡ true
      → shown_at lower here inside done l ≡ shown_at lower there outside done l
  unfolding one_more
  output_at_same inside outside done (Shown-F.One e alias text) h = ap₂ (one_more done e alias) (heading_same e text h) (same e h)
  output_at_same inside outside done _ h = absurd (true≢false (sym h))

  output_same : (inside outside : List Bound) (done : List Output) (x : Shown) → is_simple_output known x ≡ true
      → shown lower here inside done x ≡ shown lower there outside done x
  unfolding shown
  output_same inside outside done x h = output_at_same inside outside done (out-Shown x) h

  -- the columns that a query shows are the same here and there
  pub outputs_same : (inside outside : List Bound) (done : List Output) (all : List Shown) → list_all (is_simple_output known) all ≡ true
      → outputs_from lower here inside done all ≡ outputs_from lower there outside done all
  outputs_same inside outside done [] h = refl
  outputs_same inside outside done (x ∷ more) h =
      let parts = and_parts _ _ h in ap₂ ◌>>=◌ (output_same inside outside done x parts.0) (fun_ext λ longer. outputs_same inside outside longer more parts.1)

  -- ---- WHERE and ORDER BY

  -- the tests of WHERE are the same here and there
  pub tests_same : (done : List Term) (o : Option Expr) → is_simple_or_absent known o ≡ true → tests lower here done o ≡ tests lower there done o
  unfolding tests
  tests_same done None h = refl
  tests_same done (Some e) h = ap (λ part. (λ x. done ++ conjuncts x) <$> part) (same e h)

  key_same : (outputs : List Output) (e : Expr) → is_simple depth known e ≡ true → key lower here outputs e ≡ key lower there outputs e
  unfolding key
  key_same outputs e h = rw (same e h, alike.aggregates)

  aliased_same : (outputs : List Output) (e : Expr) (o : Option ℕ) → is_simple depth known e ≡ true → aliased_or lower here outputs e o
      ≡ aliased_or lower there outputs e o
  aliased_same outputs e None h = key_same outputs e h
  aliased_same outputs e (Some k) h = refl

  sort_same : (outputs : List Output) (done : List (Term × Key)) (x : Sort) → is_simple_sort known x ≡ true
      → sort lower here outputs done x ≡ sort lower there outputs done x
  unfolding sort
  sort_same outputs done x h = rw (aliased_same outputs (peeled (out-Sort x).key) (alias_in outputs (peeled (out-Sort x).key)) h)

  -- the terms of ORDER BY are the same here and there
  pub sorts_same : (outputs : List Output) (done : List (Term × Key)) (all : List Sort) → list_all (is_simple_sort known) all ≡ true
      → sorts_from lower here outputs done all ≡ sorts_from lower there outputs done all
  sorts_same outputs done [] h = refl
  sorts_same outputs done (x ∷ more) h =
      let parts = and_parts _ _ h in ap₂ ◌>>=◌ (sort_same outputs done x parts.0) (fun_ext λ longer. sorts_same outputs longer more parts.1)
