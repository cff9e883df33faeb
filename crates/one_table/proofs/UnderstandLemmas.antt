-- A text over one table is understood in any schema that has the table.
use Rattle.std.proofs.Common.{◌≡◌, ℕ, Bool, true, false, ◌&&◌, ◌==◌, if◌then◌else◌, List, [], length, map, Option, Some, None, Ok, Err, refl, sym, ap, ◌∙◌, true≢false}
use Rattle.std.specs.List.{list_all}
use Rattle.std.proofs.lemmas.Bool.{and_parts}
use Rattle.std.proofs.lemmas.Map.Text.{is_eq-slice_cmp}
use Rattle.std.proofs.lemmas.Slice.Eq.{bytes_eq-Decides}
use Rattle.std.specs.Char.{to_ascii_lowercase}
use Rattle.sqlite_value.specs.declared.keys.Collation.{Collation}
use Rattle.sqlite_value.specs.Order.{Row}
use Rattle.sqlite_ast.specs.declared.Expr.{Expr, out-Expr}
use Rattle.sqlite_ast.specs.declared.Expr.TheOpen.{Expr-F}
use Rattle.sqlite_ast.specs.declared.Select.{Select, out-Select}
use Rattle.sqlite_ast.specs.declared.Statement.{Statement}
use Rattle.sqlite_ast.specs.declared.Statement.TheVariants as written
use Rattle.sqlite_ast.specs.Layer.{Layer}
use Rattle.sqlite_syntax.specs.declared.statement.Parsed.{Parsed}
use Rattle.sqlite_sql.specs.Term.{Term}
use Rattle.sqlite_sql.specs.Query.{Query, end, inner}
use Rattle.sqlite_schema.specs.Names.{same_name, table_named}
use Rattle.sqlite_schema.specs.declared.schema.Schema.{Schema}
use Rattle.sqlite_schema.specs.declared.schema.Table.{Table}
use Rattle.sqlite_schema.specs.declared.command.Command.{Command}
use Rattle.sqlite_schema.specs.declared.command.Returning.{Returning}
use Rattle.sqlite_schema.specs.declared.command.Command.TheVariants.{Select as Read}
use Rattle.sqlite_draft.specs.declared.query.Draft.{Draft}
use Rattle.sqlite_draft.specs.Query.{query_of}
use Rattle.sqlite_typing.specs.Types.{accepts_program}
use Rattle.sqlite_resolve.specs.declared.error.CompileError.TheVariants.{Mismatch, Misuse, Unsupported}
use Rattle.sqlite_resolve.specs.Lowering.{Checked, and_then, or_else, Lowering}
use Rattle.sqlite_resolve.specs.Scope.{Context, Name}
use Rattle.sqlite_resolve.specs.Expr.{node_at, opened, node, lower_to}
use Rattle.sqlite_resolve.specs.Select.{outermost, stepless, constant, constant_or, paging, named}
use Rattle.sqlite_resolve.specs.Program.{query_to, query, level, with, whole, alone, single, sources, source, viewing, program}
use Rattle.sqlite_resolve.specs.Compile.{first, read, returning, command, timed, meaning, planned, compiled, with_command}
use Rattle.sqlite.specs.Listing.{understood, misses_table}
use Rattle.one_table.specs.Place.{Has}
use Rattle.one_table.specs.Simple.{one, bare, is_count_at, is_count_or_absent, is_simple_select, is_simple_core, is_simple_sort}
use Rattle.one_table.specs.Reading.{select_as, Means, MeansAs, IsSelect, select_of, is_typed, if_typed, select_meant, text_meant, meant}
use Rattle.one_table.proofs.SelectLemmas.{IsPlainCore, plain_core, named_same, nil_is}

-- ---- LIMIT and OFFSET

module _ (s u : Schema) where
  count_at_same : (f : Context → Expr → Lowering Term) (l : Layer) → is_count_at l ≡ true → node_at f (outermost s) l ≡ node_at f (outermost u) l
  count_at_same f (Expr-F.Integer text) h = refl
  count_at_same f (Expr-F.Parameter n) h = refl
  count_at_same f _ h = absurd (true≢false (sym h))

  constant_same : (absent : Term) (o : Option Expr) → is_count_or_absent o ≡ true → constant_or s absent o ≡ constant_or u absent o
  unfolding constant_or constant stepless lower_to node opened
  constant_same absent None h = refl
  constant_same absent (Some e) h = rw (count_at_same (lower_to 699) (out-Expr e) h)

  paging_same : (x : Select) → is_count_or_absent (out-Select x).limit ≡ true → is_count_or_absent (out-Select x).offset ≡ true → paging s x ≡ paging u x
  unfolding paging
  paging_same x limit offset = rw (constant_same _ (out-Select x).limit limit, constant_same _ (out-Select x).offset offset)

-- ---- the names of tables, and their types

same_name_itself : (name : Name) → same_name name name ≡ true
unfolding same_name
same_name_itself name = let low = map to_ascii_lowercase name in is_eq-slice_cmp low low ∙ (bytes_eq-Decides low low).1 refl

-- a table that stands alone is found under its name
pub named_alone : (t : Table) → table_named (one t) t.name ≡ Some 0
named_alone t = rw (same_name_itself t.name)

-- whether a query over the table goes by its types is the same in any schema that has it
pub typed_alike : (s : Schema) (at : ℕ) (t : Table) → Has s at t → (q : Query) → q.from ≡ inner t.tree end → (params : Row)
    → accepts_program s [] q params ≡ is_typed t q params
typed_alike s at t has q from params = rw (from, has.low, has.by_tree)

-- a query over the table that goes by its types is a program in any such schema
pub program_is : (s : Schema) (at : ℕ) (t : Table) → Has s at t → (d : Draft) → d.from ≡ inner t.tree end → is_typed t (query_of d) []
    ≡ true → program s [] d ≡ Ok (record { lets = []; body = query_of d })
unfolding program
program_is s at t has d from typed = rw (typed_alike s at t has (query_of d) from [], typed)

-- a statement that was planned is what the text means
module _ (s : Schema) (sql : List ℕ) (p : Parsed) (plan : List Name × (Command × Option Returning)) (parsed : first sql ≡ Ok p)
    (planned_is : planned s p ≡ Ok plan) where
  -- the text compiles to the plan
  pub compiled_by : compiled s sql ≡ Ok (with_command p plan)
  unfolding compiled
  compiled_by = rw (parsed, planned_is)

  -- and it is understood as the plan
  pub understood_by : understood s sql ≡ Ok (with_command p plan)
  unfolding understood
  understood_by = rw compiled_by

-- a text that is planned as a command, and reads no time, means that command
abbrev pub understood_as : (s : Schema) (sql : List ℕ) (p : Parsed) (c : Command) (shows : Option Returning) → first sql ≡ Ok p
    → planned s p ≡ Ok ([], (c, shows)) → MeansAs s sql c shows
understood_as s sql p c shows parsed plan = record {
  compiled = with_command p ([], (c, shows));
  understands = understood_by s sql p ([], (c, shows)) parsed plan;
  command = refl;
  returning = refl;
  timeless = refl;
  unlisted = ap misses_table (compiled_by s sql p ([], (c, shows)) parsed plan);
}

-- ---- a SELECT

-- what the test of a SELECT says of its parts
record IsPlainSelect (t : Table) (x : Select) : Type 0 where
  core : IsPlainCore t (out-Select x).first
  with_is : (out-Select x).with ≡ []
  others_is : (out-Select x).others ≡ []
  sorted : list_all (is_simple_sort (bare t)) (out-Select x).order ≡ true
  limit : is_count_or_absent (out-Select x).limit ≡ true
  offset : is_count_or_absent (out-Select x).offset ≡ true

plain_select : (t : Table) (x : Select) → is_simple_select t x ≡ true → IsPlainSelect t x
plain_select t x h =
    let y = out-Select x in
    let e = and_parts (is_simple_core t y.first && (length y.with == 0) && (length y.others == 0) && list_all (is_simple_sort (bare t))
    y.order && is_count_or_absent y.limit) (is_count_or_absent y.offset) h in
    let d = and_parts (is_simple_core t y.first && (length y.with == 0) && (length y.others == 0) && list_all (is_simple_sort (bare t))
    y.order) (is_count_or_absent y.limit) e.0 in
    let c = and_parts (is_simple_core t y.first && (length y.with == 0) && (length y.others == 0)) (list_all (is_simple_sort (bare t)) y.order) d.0 in
    let b = and_parts (is_simple_core t y.first && (length y.with == 0)) (length y.others == 0) c.0 in
    let a = and_parts (is_simple_core t y.first) (length y.with == 0) b.0 in
    record { core = plain_core t y.first a.0; with_is = nil_is y.with a.1; others_is = nil_is y.others b.1; sorted = c.1; limit = d.1; offset = e.1 }

module _ (s : Schema) (at : ℕ) (t : Table) (has : Has s at t) where
  query_is : (x : Select) → IsPlainSelect t x → (page : Term × Term) → paging (one t) x ≡ Ok page → (d : Draft × List Name × List (Option Collation))
      → named (one t) (out-Select x).first (out-Select x).order page ≡ Ok d → query s x ≡ Ok (d, [])
  unfolding query query_to level with whole alone single sources source viewing
  query_is x h page paged d meant =
      let y = out-Select x in
      rw (
        h.with_is,
        paging_same s (one t) x h.limit h.offset,
        paged,
        h.others_is,
        h.core.from_is,
        h.core.plain.origin_is,
        named_same t y.first y.order h.core h.sorted s at has (named_alone t) page,
        meant,
      )

  abbrev if_so : Bool → Query × List Name → Checked (Query × List Name)
  if_so typed r = if typed then Ok r else Err Mismatch

  typed_is : (d : Draft) (shown : List Name) (q : Query) (names : List Name) (typed : Bool) → is_typed t (query_of d) [] ≡ typed
      → if_so typed (query_of d, shown) ≡ Ok (q, names) → q.from ≡ inner t.tree end → and_then (program s [] d) (λ p. Ok (Read p shown))
      ≡ Ok (select_as q names)
  typed_is d shown q names false typed h from = absurd cc
  typed_is d shown q names true typed h from =
      let both : (query_of d, shown) ≡ (q, names) = cc in
      let here : (query_of d).from ≡ inner t.tree end = ap (λ (r : Query × List Name). r.0.from) both ∙ from in
      rw (program_is s at t has d here typed) (ap (λ (r : Query × List Name). Ok (select_as r.0 r.1)) both)

  read_is : (x : Select) (q : Query) (names : List Name) → is_simple_select t x ≡ true → select_meant t x ≡ Ok (q, names) → q.from
      ≡ inner t.tree end → read s x ≡ Ok (select_as q names)
  unfolding read select_meant
  read_is x q names simple means from = by_page (paging (one t) x) refl means
    where
      by_names : (page : Term × Term) → paging (one t) x ≡ Ok page → (m : Checked (Draft × List Name × List (Option Collation)))
          → named (one t) (out-Select x).first (out-Select x).order page ≡ m
          → and_then m (λ d. if_typed t (query_of d.0) d.1) ≡ Ok (q, names) → read s x ≡ Ok (select_as q names)
      by_names page paged (Err e) meant h = absurd cc
      by_names page paged (Ok d) meant h = rw (query_is x (plain_select t x simple) page paged d meant)
          (typed_is d.0 d.1 q names (is_typed t (query_of d.0) []) refl h from)

      by_page : (m : Checked (Term × Term)) → paging (one t) x ≡ m
          → and_then m (λ page. and_then (named (one t) (out-Select x).first (out-Select x).order page)
          (λ d. if_typed t (query_of d.0) d.1)) ≡ Ok (q, names) → read s x ≡ Ok (select_as q names)
      by_page (Err e) paged h = absurd cc
      by_page (Ok page) paged h = by_names page paged (named (one t) (out-Select x).first (out-Select x).order page) refl h

  -- ---- the text

  statement_is : (p : Parsed) (x : Select) → p.statement ≡ written.Select x → p.formats ≡ [] → (c : Command) → read s x ≡ Ok c
      → planned s p ≡ Ok ([], (c, None))
  unfolding planned meaning returning command timed
  statement_is p x is timeless c means = rw (is, timeless, means)

  select_is : (o : Statement) (x : Select) → select_of o ≡ Some x → o ≡ written.Select x
  select_is (written.Select y) x h = ap written.Select cc
  select_is _ x h = absurd cc

  module _ (q : Query) (names : List Name) (from : q.from ≡ inner t.tree end) where
    by_test : (p : Parsed) (x : Select) → p.statement ≡ written.Select x → (b : Bool) → ((length p.formats == 0) && is_simple_select t x) ≡ b
        → (if b then select_meant t x else Err Unsupported) ≡ Ok (q, names) → planned s p ≡ Ok ([], (select_as q names, None))
    by_test p x is false test h = absurd cc
    by_test p x is true test h =
        let parts = and_parts (length p.formats == 0) (is_simple_select t x) test in
        statement_is p x is (nil_is p.formats parts.0) (select_as q names) (read_is x q names parts.1 h from)

    by_select : (p : Parsed) (o : Option Select) → select_of p.statement ≡ o
        → and_then (or_else o Misuse) (λ x. if (length p.formats == 0) && is_simple_select t x then select_meant t x else Err Unsupported) ≡ Ok (q, names)
        → planned s p ≡ Ok ([], (select_as q names, None))
    by_select p None is h = absurd cc
    by_select p (Some x) is h = by_test p x (select_is p.statement x is) ((length p.formats == 0) && is_simple_select t x) refl h

    by_parsed : (sql : List ℕ) (m : Checked Parsed) → first sql ≡ m → and_then m (text_meant t) ≡ Ok (q, names) → Means s sql (select_as q names)
    unfolding text_meant
    by_parsed sql (Err e) parsed h = absurd cc
    by_parsed sql (Ok p) parsed h = understood_as s sql p (select_as q names) None parsed (by_select p (select_of p.statement) refl h)

  -- A SELECT over the table is the query that it is where the table stands alone.
  pub selects : (q : Query) (names : List Name) (sql : List ℕ) → IsSelect t q names sql → Means s sql (select_as q names)
  unfolding meant
  selects q names sql is = by_parsed q names is.from sql (first sql) refl is.means
