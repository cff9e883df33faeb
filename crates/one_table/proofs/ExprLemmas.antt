-- A simple expression means the same in any two contexts in which the names that it may have find
-- the same columns.
use Rattle.std.proofs.Common.{◌≡◌, ℕ, zero, suc, Bool, true, false, ◌&&◌, ◌||◌, if◌then◌else◌, Option, Some, None, slice_get, Ok, refl, sym, ap, ap₂, ◌∙◌, true≢false}
use Rattle.std.proofs.Math.Path.{fun_ext}
use Rattle.std.proofs.lemmas.Bool.{and_parts}
use Rattle.sqlite_ast.specs.declared.Binary.{Binary}
use Rattle.sqlite_ast.specs.declared.Binary.TheVariants as binary
use Rattle.sqlite_ast.specs.declared.Expr.{Expr, out-Expr}
use Rattle.sqlite_ast.specs.declared.Expr.TheOpen.{Expr-F}
use Rattle.sqlite_ast.specs.Layer.{Layer}
use Rattle.sqlite_value.specs.declared.keys.Collation.{Collation}
use Rattle.sqlite_sql.specs.declared.ops.BinaryOp.{BinaryOp}
use Rattle.sqlite_sql.specs.declared.ops.BinaryOp.TheVariants as by
use Rattle.sqlite_sql.specs.declared.ops.UnaryOp.TheVariants.{Not}
use Rattle.sqlite_sql.specs.Term.{Term, lit, col, op1, op2, case}
use Rattle.sqlite_resolve.specs.declared.error.CompileError.TheVariants.{Unsupported}
use Rattle.sqlite_resolve.specs.declared.scope.Found.TheVariants.{Column}
use Rattle.sqlite_resolve.specs.Lowering.{Lowering, ◌>>=◌, ◌>>◌, pure, fail, spend, begin, finish, last, chosen}
use Rattle.sqlite_resolve.specs.Scope.{Context, Name, find, column, column_at, term_of}
use Rattle.sqlite_resolve.specs.Compare.{affinity_of, of_column, compared}
use Rattle.sqlite_resolve.specs.Expr.{is_alias, passes, combine, operator, operated, applied, operation, wanted_truth, truth_at, tests_truth, tests_alias, is_alias_at, is_identity, both, node_at, opened, node, lower_to}
use Rattle.sqlite_resolve.specs.Body.{declared, heading_at}
use Rattle.one_table.specs.Simple.{Known, is_simple_at, is_simple}

-- where a known name finds its column: one place of one table, though that stands elsewhere
pub record Finds (here there : Context) (table : Option Name) (name : Name) : Type 0 where
  pub slot : ℕ
  pub at : ℕ
  pub place : ℕ
  pub other : ℕ
  pub found : find here table name ≡ Ok (Column slot place at)
  pub found_there : find there table name ≡ Ok (Column slot other at)
  pub tables : slice_get here.schema.tables place ≡ slice_get there.schema.tables other

-- names that are known find the same here and there, and each slot has the same columns
pub record AreAlike (known : Known) (here there : Context) : Type 0 where
  pub finds : (table : Option Name) (name : Name) → known table name ≡ true → Finds here there table name
  pub affine : (slot at : ℕ) → of_column here slot at ≡ of_column there slot at
  pub aggregates : here.may_aggregate ≡ there.may_aggregate

module _ (known : Known) (here there : Context) (alike : AreAlike known here there) where
  -- ---- comparisons

  affinity_same : (x : Term) → affinity_of here x ≡ affinity_of there x
  unfolding affinity_of
  affinity_same (lit v) = refl
  affinity_same (col slot p) = alike.affine slot p
  affinity_same (op1 op a) = refl
  affinity_same (op2 op a b) = refl
  affinity_same (case x a b) = refl

  compared_same : (op : BinaryOp) (a b : Term) → compared here op a b ≡ compared there op a b
  unfolding compared
  compared_same op a b = rw (affinity_same a, affinity_same b)

  -- ---- columns

  term_same : (slot place other at : ℕ) → slice_get here.schema.tables place ≡ slice_get there.schema.tables other
      → term_of here (Column slot place at) ≡ term_of there (Column slot other at)
  unfolding term_of column_at
  term_same slot place other at tables = rw tables

  column_same : (table : Option Name) (c : Name) → known table c ≡ true → column here table c ≡ column there table c
  unfolding column
  column_same table c h = let f = alike.finds table c h in rw (f.found, f.found_there) (term_same f.slot f.place f.other f.at f.tables)

  no_alias_here : (table : Option Name) (c : Name) → known table c ≡ true → is_alias (find here table c) ≡ is_alias (find there table c)
  no_alias_here table c h = let f = alike.finds table c h in rw (f.found, f.found_there)

  -- a known column has the same heading here and there
  pub heading_same_at : (table : Option Name) (text c : Name) → known table c ≡ true → heading_at here text (Expr-F.Column table c)
      ≡ heading_at there text (Expr-F.Column table c)
  unfolding declared
  heading_same_at table text c h = let f = alike.finds table c h in rw (f.found, f.found_there, f.tables)

  -- ---- operators

  operated_same : (op : BinaryOp) (a b : Term) → operated here op a b ≡ operated there op a b
  operated_same (by.Compare op how) a b = compared_same (by.Compare op how) a b
  operated_same (by.Is how) a b = compared_same (by.Is how) a b
  operated_same _ a b = refl

  applied_same : (o : Option BinaryOp) (a b : Term) → applied here o a b ≡ applied there o a b
  applied_same None a b = refl
  applied_same (Some op) a b = ap pure (operated_same op a b)

  combine_same : (op : Binary) (how : Collation) (a b : Term) → combine here op how a b ≡ combine there op how a b
  unfolding combine
  combine_same binary.IsNot how a b = ap (λ x. pure (op1 Not x)) (compared_same (by.Is how) a b)
  combine_same binary.Concat how a b = refl
  combine_same op how a b = applied_same (operator how op) a b

  no_truth : (n : ℕ) (l : Layer) → is_simple_at (is_simple n known) known l ≡ true → truth_at here l ≡ None
  no_truth n (Expr-F.Truth c value) h = absurd (true≢false (sym h))
  no_truth n _ h = refl

  no_truth_there : (n : ℕ) (l : Layer) → is_simple_at (is_simple n known) known l ≡ true → truth_at there l ≡ None
  no_truth_there n (Expr-F.Truth c value) h = absurd (true≢false (sym h))
  no_truth_there n _ h = refl

  unless_identity : (op : Binary) (o : Option Bool) → o ≡ None → (if is_identity op then o else None) ≡ None
  unless_identity op o h = elim (is_identity op) as (λ b. (if b then o else None) ≡ None) [ true ↦ h | false ↦ refl ]

  none_wanted : (n : ℕ) (op : Binary) (e : Expr) → is_simple n known e ≡ true → (wanted_truth here op e ≡ None) × (wanted_truth there op e ≡ None)
  unfolding wanted_truth
  none_wanted zero op e h = absurd (true≢false (sym h))
  none_wanted (suc n) op e h = (unless_identity op _ (no_truth n (out-Expr e) h), unless_identity op _ (no_truth_there n (out-Expr e) h))

  no_alias : (n : ℕ) (l : Layer) → is_simple_at (is_simple n known) known l ≡ true → is_alias_at here l ≡ is_alias_at there l
  no_alias n (Expr-F.Truth c value) h = absurd (true≢false (sym h))
  no_alias n (Expr-F.Column table c) h = no_alias_here table c h
  no_alias n _ h = refl

  tests_alias_same : (n : ℕ) (op : Binary) (e : Expr) → is_simple n known e ≡ true → tests_alias here op e ≡ tests_alias there op e
  unfolding tests_alias
  tests_alias_same zero op e h = absurd (true≢false (sym h))
  tests_alias_same (suc n) op e h = ap (λ b. is_identity op && b) (no_alias n (out-Expr e) h)

  -- ---- an expression, by its parts

  module _ (lower : Context → Expr → Lowering Term) (n : ℕ) (again : (e : Expr) → is_simple n known e ≡ true → lower here e ≡ lower there e) where
    -- the sides of an operator, and then the operator itself
    joined : Bool → Bool → Lowering Term → Lowering Term → (Collation → Term → Term → Lowering Term) → Lowering Term
    joined truth alias a b combined = if truth || alias then fail Unsupported else (do
      x ← a
      p ← last
      y ← b
      combined (chosen p (← last)) x y)

    both_same : (op : Binary) (a b : Expr) → is_simple n known a ≡ true → is_simple n known b ≡ true → both lower here op a b ≡ both lower there op a b
    unfolding both joined
    both_same op a b ha hb =
        ap (λ v. joined (tests_truth op b) v (lower here a) (lower here b) (combine here op)) (tests_alias_same n op b hb)
        ∙ ap₂ (λ x y. joined (tests_truth op b) (tests_alias there op b) x y (combine here op)) (again a ha) (again b hb)
        ∙ ap (joined (tests_truth op b) (tests_alias there op b) (lower there a) (lower there b))
        (fun_ext λ how. fun_ext λ x. fun_ext λ y. combine_same op how x y)

    operation_same : (op : Binary) (a b : Expr) → is_simple n known a ≡ true → is_simple n known b ≡ true → operation lower here op a b
        ≡ operation lower there op a b
    unfolding operation
    operation_same op a b ha hb = rw ((none_wanted n op b hb).0, (none_wanted n op b hb).1) (both_same op a b ha hb)

    layer_same : (l : Layer) → is_simple_at (is_simple n known) known l ≡ true → node_at lower here l ≡ node_at lower there l
    layer_same Expr-F.Null h = refl
    layer_same (Expr-F.Integer text) h = refl
    layer_same (Expr-F.Text text) h = refl
    layer_same (Expr-F.Parameter k) h = refl
    layer_same (Expr-F.Column table c) h = column_same table c h
    layer_same (Expr-F.Binary op a b) h = let parts = and_parts _ _ h in operation_same op a b parts.0 parts.1
    layer_same _ h = absurd (true≢false (sym h))

    opened_same : (e : Expr) → is_simple_at (is_simple n known) known (out-Expr e) ≡ true → opened lower here e ≡ opened lower there e
    unfolding opened
    opened_same e h = layer_same (out-Expr e) h

    -- what is done before and after the parts of an expression are lowered
    pub around : Expr → Lowering Term → Lowering Term
    around e part = do
      spend 1
      outer ← begin
      x ← part
      finish outer (passes e)
      pure x

    node_same : (e : Expr) → is_simple_at (is_simple n known) known (out-Expr e) ≡ true → node lower here e ≡ node lower there e
    unfolding node around
    node_same e h = ap (around e) (opened_same e h)

  -- a simple expression is the same term here and there, at any depth
  pub lower_same : (depth n : ℕ) (e : Expr) → is_simple n known e ≡ true → lower_to depth here e ≡ lower_to depth there e
  unfolding lower_to
  lower_same zero n e h = refl
  lower_same (suc depth) zero e h = absurd (true≢false (sym h))
  lower_same (suc depth) (suc n) e h = node_same (lower_to depth) n (lower_same depth n) e h
