-- A SELECT over one table means in any schema what it means where the table stands alone.
use Rattle.std.proofs.Common.{◌≡◌, ℕ, Bool, true, false, arith, not, ◌&&◌, ◌==◌, List, [], ◌∷◌, length, map, Option, Some, None, is_some, slice_get, Ok, Err, refl, sym, ap, ap₂, ◌∙◌, true≢false}
use Rattle.std.specs.List.{list_all}
use Rattle.std.proofs.Math.Path.{fun_ext}
use Rattle.std.proofs.lemmas.Bool.{and_parts}
use Rattle.std.proofs.lemmas.Slice.Eq.{bytes_eq-Decides}
use Rattle.sqlite_value.specs.declared.keys.Collation.{Collation}
use Rattle.sqlite_value.specs.declared.keys.Key.{Key}
use Rattle.sqlite_ast.specs.declared.Core.{Core, out-Core}
use Rattle.sqlite_ast.specs.declared.Origin.{Origin}
use Rattle.sqlite_ast.specs.declared.Origin.TheVariants as origin
use Rattle.sqlite_ast.specs.declared.Select.{Select}
use Rattle.sqlite_ast.specs.declared.Sort.{Sort}
use Rattle.sqlite_ast.specs.declared.Source.{Source, out-Source}
use Rattle.sqlite_sql.specs.Term.{Term}
use Rattle.sqlite_schema.specs.Names.{table_named}
use Rattle.sqlite_schema.specs.declared.schema.Schema.{Schema}
use Rattle.sqlite_schema.specs.declared.schema.Table.{Table}
use Rattle.sqlite_draft.specs.declared.query.Draft.{Draft}
use Rattle.sqlite_resolve.specs.declared.body.Joined.{Joined}
use Rattle.sqlite_resolve.specs.declared.scope.Bound.{Bound}
use Rattle.sqlite_resolve.specs.declared.scope.Level.{Level}
use Rattle.sqlite_resolve.specs.declared.scope.Output.{Output}
use Rattle.sqlite_resolve.specs.declared.select.Clauses.{Clauses}
use Rattle.sqlite_resolve.specs.declared.state.State.{State}
use Rattle.sqlite_resolve.specs.Lowering.{Checked, and_then, Lowering, ◌>>=◌, pure, get, fresh, max_budget, take_slot}
use Rattle.sqlite_resolve.specs.Scope.{Name}
use Rattle.sqlite_resolve.specs.Body.{bounds, bound, table_in, shared, join, inner_join, joins, tests, result, outputs, matching, body}
use Rattle.sqlite_resolve.specs.Order.{keys, sorts}
use Rattle.sqlite_resolve.specs.Expr.{lower}
use Rattle.sqlite_resolve.specs.Select.{inside, having, parts, assembled, named}
use Rattle.one_table.specs.Place.{Has}
use Rattle.one_table.specs.Simple.{one, bare, is_simple_or_absent, is_simple_output, is_simple_sort, names_it, is_source, is_from, is_simple_core, bound_at, reading}
use Rattle.one_table.proofs.AlikeLemmas.{alike}
use Rattle.one_table.proofs.BodyLemmas.{outputs_same, tests_same, sorts_same}

-- an option that holds nothing is none
pub none_is : {A : Type 0} (o : Option A) → not (is_some o) ≡ true → o ≡ None
none_is None h = refl
none_is (Some x) h = absurd (true≢false (sym h))

-- a test whose negation passes is false
pub false_is : (b : Bool) → not b ≡ true → b ≡ false
false_is false h = refl
false_is true h = absurd (true≢false (sym h))

-- a list of length 0 is empty
pub nil_is : {A : Type 0} (xs : List A) → (length xs == 0) ≡ true → xs ≡ []
nil_is [] h = refl
nil_is (x ∷ xs) h = absurd (grind arith)

name_is : (t : Table) (o : Origin Select) → names_it t o ≡ true → o ≡ origin.Table t.name
name_is t (origin.Table name) h = ap origin.Table ((bytes_eq-Decides name t.name).0 h)
name_is t (origin.Query q) h = absurd (true≢false (sym h))

-- what the test of a source says of its parts
pub record IsPlainSource (t : Table) (x : Source) : Type 0 where
  pub origin_is : (out-Source x).origin ≡ origin.Table t.name
  pub left_is : (out-Source x).is_left ≡ false
  pub alias_is : (out-Source x).alias ≡ None
  pub on_is : (out-Source x).on ≡ None
  pub using_is : (out-Source x).using ≡ []

plain_source : (t : Table) (x : Source) → is_source t x ≡ true → IsPlainSource t x
plain_source t x h =
    let y = out-Source x in
    let d = and_parts (names_it t y.origin && not y.is_left && not (is_some y.alias) && not (is_some y.on)) (length y.using == 0) h in
    let c = and_parts (names_it t y.origin && not y.is_left && not (is_some y.alias)) (not (is_some y.on)) d.0 in
    let b = and_parts (names_it t y.origin && not y.is_left) (not (is_some y.alias)) c.0 in
    let a = and_parts (names_it t y.origin) (not y.is_left) b.0 in record {
      origin_is = name_is t y.origin a.0;
      left_is = false_is y.is_left a.1;
      alias_is = none_is y.alias b.1;
      on_is = none_is y.on c.1;
      using_is = nil_is y.using d.1;
    }

-- FROM binds the one table, at its place, in the first slot
pub bounds_are : (s : Schema) (at : ℕ) (t : Table) (x : Source) → table_named s t.name ≡ Some at → IsPlainSource t x
    → bounds s (x ∷ []) (fresh 1 max_budget) ≡ Ok (bound_at at t.name ∷ [], fresh 2 max_budget)
unfolding bounds bound table_in take_slot
bounds_are s at t x named h = rw (h.origin_is, h.alias_is, h.using_is, named)

module _ (s : Schema) (at : ℕ) (t : Table) (listed : slice_get s.tables at ≡ Some t) (x : Source) (source : IsPlainSource t x) where
  joins_same : (columns : List Output) → joins lower (reading s at t.name columns false) (bound_at at t.name ∷ []) (x ∷ [])
      ≡ joins lower (reading (one t) 0 t.name columns false) (bound_at 0 t.name ∷ []) (x ∷ [])
  unfolding joins join shared inner_join tests
  joins_same columns = rw (source.on_is, source.using_is, source.left_is, listed)

-- ---- the clauses of the query, by the tables that FROM has bound

parts_of : List Bound → Lowering (List Output) → (List Output → Lowering Joined) → (Level → Bool → Lowering (List (Term × Key))) → Lowering Clauses
parts_of tables columns joined order = do
  whole ← (do
    shown ← columns
    found ← joined shown
    pure (record { level = record { tables = tables; shown = shown }; steps = found.steps; filter = found.filter }))
  so_far ← get
  by ← order whole.level (not (length so_far.aggregates == 0))
  pure (record { body = whole; is_grouped = not (length so_far.aggregates == 0); keys = []; collations = []; having = []; order = by })

abbrev Named : Type 0
Named = Draft × List Name × List (Option Collation)

abbrev named_from : Bool → Term × Term → Clauses × State → Checked Named
named_from distinct page r =
    and_then (assembled distinct page.0 page.1 r.0 r.1)
    (λ d. Ok (d, map (λ o. o.name) r.0.body.level.shown, map (λ o. o.carried.collation) r.0.body.level.shown))

-- What the one table is called and where it stands is no part of the query.
module _ (distinct : Bool) (page : Term × Term) (b b' : Bound) (columns : Lowering (List Output)) (joined : List Output → Lowering Joined)
    (order order' : Level → Bool → Lowering (List (Term × Key)))
    (same : (shown : List Output) (is_grouped : Bool) → order (record { tables = b ∷ []; shown = shown }) is_grouped
    ≡ order' (record { tables = b' ∷ []; shown = shown }) is_grouped) (st : State) where
  abbrev AreSame : Type 0
  AreSame = and_then (parts_of (b ∷ []) columns joined order st) (named_from distinct page)
      ≡ and_then (parts_of (b' ∷ []) columns joined order' st) (named_from distinct page)

  abbrev ordered_after : List Output → State → Checked (List (Term × Key) × State)
  ordered_after shown after = order' (record { tables = b' ∷ []; shown = shown }) (not (length after.aggregates == 0)) after

  by_order : (c : List Output × State) → columns st ≡ Ok c → (j : Joined × State) → joined c.0 c.1 ≡ Ok j
      → (m : Checked (List (Term × Key) × State)) → ordered_after c.0 j.1 ≡ m → AreSame
  unfolding parts_of assembled
  by_order c h j k (Err e) l = rw (h, k, same c.0 (not (length j.1.aggregates == 0)), l)
  by_order c h j k (Ok o) l = rw (h, k, same c.0 (not (length j.1.aggregates == 0)), l)

  by_joined : (c : List Output × State) → columns st ≡ Ok c → (m : Checked (Joined × State)) → joined c.0 c.1 ≡ m → AreSame
  unfolding parts_of assembled
  by_joined c h (Err e) k = rw (h, k)
  by_joined c h (Ok j) k = by_order c h j k (ordered_after c.0 j.1) refl

  by_columns : (m : Checked (List Output × State)) → columns st ≡ m → AreSame
  unfolding parts_of assembled
  by_columns (Err e) h = rw h
  by_columns (Ok c) h = by_joined c h (joined c.0 c.1) refl

  drops_tables : AreSame
  drops_tables = by_columns (columns st) refl

-- what the test of a SELECT's core says of its parts
pub record IsPlainCore (t : Table) (core : Core) : Type 0 where
  pub source : Source
  pub from_is : (out-Core core).from ≡ source ∷ []
  pub plain : IsPlainSource t source
  pub shown : list_all (is_simple_output (bare t)) (out-Core core).shown ≡ true
  pub filter : is_simple_or_absent (bare t) (out-Core core).filter ≡ true
  pub group_is : (out-Core core).group ≡ []
  pub having_is : (out-Core core).having ≡ None

from_source : (t : Table) (xs : List Source) → is_from t xs ≡ true → (x : Source) × (xs ≡ x ∷ []) × IsPlainSource t x
from_source t [] h = absurd (true≢false (sym h))
from_source t (x ∷ []) h = (x, refl, plain_source t x h)
from_source t (x ∷ y ∷ more) h = absurd (true≢false (sym h))

-- the core of a SELECT that passes the test has these parts
pub plain_core : (t : Table) (core : Core) → is_simple_core t core ≡ true → IsPlainCore t core
plain_core t core h =
    let y = out-Core core in
    let d = and_parts (is_from t y.from && list_all (is_simple_output (bare t)) y.shown && is_simple_or_absent (bare t) y.filter &&
    (length y.group == 0)) (not (is_some y.having)) h in
    let c = and_parts (is_from t y.from && list_all (is_simple_output (bare t)) y.shown && is_simple_or_absent (bare t) y.filter) (length y.group == 0) d.0 in
    let b = and_parts (is_from t y.from && list_all (is_simple_output (bare t)) y.shown) (is_simple_or_absent (bare t) y.filter) c.0 in
    let a = and_parts (is_from t y.from) (list_all (is_simple_output (bare t)) y.shown) b.0 in
    let found = from_source t y.from a.0 in record {
      source = found.0;
      from_is = found.1;
      plain = found.2;
      shown = a.1;
      filter = b.1;
      group_is = nil_is y.group c.1;
      having_is = none_is y.having d.1;
    }

module _ (t : Table) (core : Core) (order : List Sort) (plain : IsPlainCore t core) (sorted : list_all (is_simple_sort (bare t)) order ≡ true) where
  module _ (s : Schema) (at : ℕ) where
    abbrev columns : Lowering (List Output)
    columns = outputs lower (reading s at t.name [] true) (bound_at at t.name ∷ []) (out-Core core).shown

    abbrev joined : List Output → Lowering Joined
    joined shown = do
      found ← joins lower (reading s at t.name shown false) (bound_at at t.name ∷ []) (plain.source ∷ [])
      filter ← tests lower (reading s at t.name shown false) found.filter (out-Core core).filter
      pure (record found { filter = filter })

    abbrev ordered : Level → Bool → Lowering (List (Term × Key))
    ordered level is_grouped = sorts lower (inside s level is_grouped) level.shown order

    parts_are : table_named s t.name ≡ Some at → parts s core order (fresh 1 max_budget)
        ≡ parts_of (bound_at at t.name ∷ []) columns joined ordered (fresh 2 max_budget)
    unfolding parts body result matching having keys parts_of tests
    parts_are named = rw (plain.from_is, plain.group_is, plain.having_is, bounds_are s at t plain.source named plain.plain)

  module _ (s : Schema) (at : ℕ) (has : Has s at t) (first : table_named (one t) t.name ≡ Some 0) (page : Term × Term) where
    joined_same : (shown : List Output) → joined s at shown ≡ joined (one t) 0 shown
    joined_same shown =
        ap₂ (λ (found : Lowering Joined) (filter : List Term → Lowering (List Term)). (do
          j ← found
          f ← filter j.filter
          pure (record j { filter = f })))
        (joins_same s at t has.listed plain.source plain.plain shown)
        (fun_ext λ done. tests_same (bare t) _ _ (alike s at t has.listed t.name shown false) done (out-Core core).filter plain.filter)

    columns_same : columns s at ≡ columns (one t) 0
    unfolding outputs
    columns_same = outputs_same (bare t) _ _ (alike s at t has.listed t.name [] true) (bound_at at t.name ∷ []) (bound_at 0 t.name ∷ []) []
        (out-Core core).shown plain.shown

    ordered_same : (shown : List Output) (is_grouped : Bool) → ordered s at (record { tables = bound_at at t.name ∷ []; shown = shown }) is_grouped
        ≡ ordered (one t) 0 (record { tables = bound_at 0 t.name ∷ []; shown = shown }) is_grouped
    unfolding sorts
    ordered_same shown is_grouped = sorts_same (bare t) _ _ (alike s at t has.listed t.name shown is_grouped) shown [] order sorted

    -- the query and its names are the same here and where the table stands alone
    pub named_same : named s core order page ≡ named (one t) core order page
    unfolding named
    named_same =
        ap (λ r. and_then r (named_from (out-Core core).distinct page)) (parts_are s at has.named)
        ∙ ap₂ (λ c j. and_then (parts_of (bound_at at t.name ∷ []) c j (ordered s at) (fresh 2 max_budget))
        (named_from (out-Core core).distinct page)) columns_same (fun_ext joined_same)
        ∙ drops_tables (out-Core core).distinct page (bound_at at t.name) (bound_at 0 t.name) (columns (one t) 0) (joined (one t) 0)
        (ordered s at) (ordered (one t) 0) ordered_same (fresh 2 max_budget)
        ∙ sym (ap (λ r. and_then r (named_from (out-Core core).distinct page)) (parts_are (one t) 0 first))
