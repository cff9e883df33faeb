-- An upsert of one row is understood in any schema that has the table with its own keys.
use Rattle.std.proofs.Common.{◌≡◌, ℕ, ◌+◌, arith, Bool, true, false, not, ◌&&◌, ◌==◌, if◌then◌else◌, List, [], ◌∷◌, length, map, filter, find, bytes_eq, option_map, is_some, Option, Some, None, Ok, Err, refl, sym, ap, ◌∙◌, subst}
use Rattle.std.specs.List.{list_all, list_any}
use Rattle.std.proofs.lemmas.Bool.{and_parts, eqb-true}
use Rattle.std.proofs.lemmas.Slice.Eq.{bytes_eq-Decides}
use Rattle.sqlite_ast.specs.declared.Conflict.TheVariants as conflict
use Rattle.sqlite_ast.specs.declared.Rows.TheVariants as rows
use Rattle.sqlite_ast.specs.declared.Statement.{Statement}
use Rattle.sqlite_ast.specs.declared.Statement.TheVariants as written
use Rattle.sqlite_syntax.specs.declared.statement.Parsed.{Parsed}
use Rattle.sqlite_sql.specs.Query.{Query, end, inner}
use Rattle.sqlite_schema.specs.Names.{same_name}
use Rattle.sqlite_schema.specs.declared.command.Source.{Source}
use Rattle.sqlite_schema.specs.declared.command.Source.TheVariants as source
use Rattle.sqlite_schema.specs.declared.schema.Index.{Index}
use Rattle.sqlite_schema.specs.declared.schema.Schema.{Schema}
use Rattle.sqlite_schema.specs.declared.schema.Table.{Table}
use Rattle.sqlite_draft.specs.declared.query.Draft.{Draft}
use Rattle.sqlite_draft.specs.Query.{query_of}
use Rattle.sqlite_resolve.specs.declared.error.CompileError.{CompileError}
use Rattle.sqlite_resolve.specs.declared.error.CompileError.TheVariants.{Mismatch, Misuse, Unsupported}
use Rattle.sqlite_resolve.specs.declared.scope.Output.{Output}
use Rattle.sqlite_resolve.specs.Body.{outputs}
use Rattle.sqlite_resolve.specs.Compile.{command, first, insert_or, insert_or_abort, meaning, planned, returning, shows, small, source_of, timed}
use Rattle.sqlite_resolve.specs.Given.{are_among, at_rowid, do_update, given_level, is_all_of, is_key_at, is_subquery, key_at, key_meant, laid_out, returned, update, upsert, upserts}
use Rattle.sqlite_resolve.specs.Lowering.{Checked, Lowering, and_then, or_else, fresh, max_budget}
use Rattle.sqlite_resolve.specs.Program.{program}
use Rattle.sqlite_resolve.specs.Scope.{Name}
use Rattle.sqlite_resolve.specs.Write.{places, updated_in}
use Rattle.one_table.specs.Changing.{draft_if_typed}
use Rattle.one_table.specs.Inserting.{is_simple_insert, is_value, puts_meant, source_of_row}
use Rattle.one_table.specs.Place.{Has}
use Rattle.one_table.specs.Reading.{MeansAs, is_typed}
use Rattle.one_table.specs.Simple.{depth, is_simple, is_simple_output, one}
use Rattle.one_table.specs.Standing.{Key, key_of, keys_on, own_keys}
use Rattle.one_table.specs.Upserting.{IsUpsert, Merging, UpsertText, UpsertMeaning, excluded, hidden, is_key_of, is_simple_upsert, key_among, returning_as, set_meant, set_query, settable, setting, showable, showing, shown_meant, shown_source, upsert_as, upsert_by, upsert_in, upsert_meant, upsert_of}
use Rattle.one_table.proofs.BodyLemmas.{outputs_same}
use Rattle.one_table.proofs.ChangeLemmas.{same_value}
use Rattle.one_table.proofs.GivenLemmas.{settings_alike, shown_alike}
use Rattle.one_table.proofs.InsertTextLemmas.{new_rows_same, source_same}
use Rattle.one_table.proofs.SelectLemmas.{false_is, nil_is, none_is}
use Rattle.one_table.proofs.UnderstandLemmas.{program_is, understood_as}
use Rattle.one_table.proofs.UpdateTextLemmas.{updated_same}

-- ---- the key, among the indexes on the table's tree

module _ (t : Table) (at : List ℕ) where
  abbrev columns_of : Option Key → Option (List ℕ)
  columns_of = option_map (λ (k : Key). k.1)

  abbrev on_tree : List Index → List Index
  on_tree = filter (λ (i : Index). i.table == t.tree)

  key_found : (indexes : List Index) → option_map (λ (i : Index). i.columns) (find (is_key_at t at) indexes)
      ≡ columns_of (find (is_key_of at) (map key_of (on_tree indexes)))
  unfolding is_key_at
  key_found [] = refl
  key_found (i ∷ more) = by_tree (i.table == t.tree) refl i.is_unique refl (key_found more)
    where
      by_tree : (b : Bool) → (i.table == t.tree) ≡ b → (u : Bool) → i.is_unique ≡ u
          → option_map (λ (i : Index). i.columns) (find (is_key_at t at) more) ≡ columns_of (find (is_key_of at) (map key_of (on_tree more)))
          → option_map (λ (i : Index). i.columns) (find (is_key_at t at) (i ∷ more)) ≡ columns_of (find (is_key_of at) (map key_of (on_tree (i ∷ more))))
      by_tree false is true unique rest = rw (is, unique, rest)
      by_tree false is false unique rest = rw (is, unique, rest)
      by_tree true is false unique rest = rw (is, unique, rest)
      by_tree true is true unique rest = by_columns ((length i.columns == length at) && are_among at i.columns && are_among i.columns at) refl
        where
          by_columns : (b : Bool) → ((length i.columns == length at) && are_among at i.columns && are_among i.columns at) ≡ b
              → option_map (λ (i : Index). i.columns) (find (is_key_at t at) (i ∷ more)) ≡ columns_of (find (is_key_of at) (map key_of (on_tree (i ∷ more))))
          by_columns true same = rw (is, unique, same)
          by_columns false same = rw (is, unique, same, rest)

  -- the key of ON CONFLICT is found among the table's own, where the schema has no other on it
  pub key_same : (s : Schema) → keys_on s t.tree ≡ own_keys t → key_at s t at ≡ key_among (own_keys t) at
  unfolding key_at
  key_same s keys = ap (λ o. if bytes_eq at (0 ∷ []) then Ok at else or_else o Misuse)
      (key_found s.indexes ∙ ap (λ ks. columns_of (find (is_key_of at) ks)) keys)

-- ---- the parts

-- what succeeds in two steps succeeds in the first, and then in the second
pub ok_then : {A B : Type 0} (m : Checked A) (f : A → Checked B) (b : B) → and_then m f ≡ Ok b → (a : A) × (m ≡ Ok a) × (f a ≡ Ok b)
ok_then (Ok a) f b h = (a, refl, h)
ok_then (Err e) f b h = absurd cc

-- what the test of an upsert says of its parts
record IsPlainUpsert (t : Table) (count : ℕ) (u : UpsertText) : Type 0 where
  puts : is_simple_insert t u.puts ≡ true
  apart : same_name t.name excluded ≡ false
  sets : list_all (λ set. is_simple depth (settable t count) set.1) u.clause.sets ≡ true
  shown : list_all (is_simple_output (showable t count)) u.shown ≡ true
  has_key : (length u.clause.target == 0) ≡ false
  sets_some : (length u.clause.sets == 0) ≡ false
  shows_some : (length u.shown == 0) ≡ false
  filter_is : u.clause.filter ≡ None

plain_upsert : (t : Table) (count : ℕ) (u : UpsertText) → is_simple_upsert t count u ≡ true → IsPlainUpsert t count u
plain_upsert t count u h =
    let a = is_simple_insert t u.puts in
    let b = not (same_name t.name excluded) in
    let c = list_all (λ set. is_simple depth (settable t count) set.1) u.clause.sets in
    let d = list_all (is_simple_output (showable t count)) u.shown in
    let e = not (length u.clause.target == 0) in
    let f = not (length u.clause.sets == 0) in
    let g = not (length u.shown == 0) in
    let h_7 = and_parts (a && b && c && d && e && f && g) (not (is_some u.clause.filter)) h in
    let h_6 = and_parts (a && b && c && d && e && f) g h_7.0 in
    let h_5 = and_parts (a && b && c && d && e) f h_6.0 in
    let h_4 = and_parts (a && b && c && d) e h_5.0 in
    let h_3 = and_parts (a && b && c) d h_4.0 in
    let h_2 = and_parts (a && b) c h_3.0 in
    let h_1 = and_parts a b h_2.0 in record {
      puts = h_1.0;
      apart = false_is (same_name t.name excluded) h_1.1;
      sets = h_2.1;
      shown = h_3.1;
      has_key = false_is (length u.clause.target == 0) h_4.1;
      sets_some = false_is (length u.clause.sets == 0) h_5.1;
      shows_some = false_is (length u.shown == 0) h_6.1;
      filter_is = none_is u.clause.filter h_7.1;
    }

module _ (s : Schema) (at : ℕ) (t : Table) (has : Has s at t) (keys : keys_on s t.tree ≡ own_keys t) (count : ℕ) (u : UpsertText)
    (plain : IsPlainUpsert t count u) where
  -- ---- what is done where a row has the key

  key_is : (ps key : List ℕ) → places t u.clause.target ≡ Ok ps → key_among (own_keys t) ps ≡ Ok key → key_meant s t u.clause.target ≡ Ok (Some key)
  unfolding key_meant
  key_is ps key placed found = rw (plain.has_key, placed, key_same t ps s keys, found)

  typed_is : (d : Draft) (q : Query) (typed : Bool) → is_typed t (query_of d) [] ≡ typed
      → (if typed then Ok (query_of d) else Err Mismatch) ≡ Ok q → q.from ≡ inner t.tree end
      → and_then (program s [] d) (λ p. Ok (Some p)) ≡ Ok (Some (record { lets = []; body = q }))
  typed_is d q false typed h from = absurd cc
  typed_is d q true typed h from =
      let is : query_of d ≡ q = cc in
      rw (program_is s at t has d (ap (λ (r : Query). r.from) is ∙ from) typed) (ap (λ r. Ok (Some (record { lets = []; body = r }))) is)

  drafts_same : updated_in (setting s at t count) t u.clause.sets None ≡ updated_in (setting (one t) 0 t count) t u.clause.sets None
  drafts_same = updated_same (settable t count) _ _ (settings_alike s t count at has.listed plain.apart) t u.clause.sets None plain.sets refl

  update_is : (q : Query) → set_meant t count u.clause ≡ Ok q → q.from ≡ inner t.tree end → update s at t count u.clause
      ≡ Ok (Some (record { lets = []; body = q }))
  unfolding update do_update set_meant
  update_is q means from =
      let drafted = ok_then (updated_in (setting (one t) 0 t count) t u.clause.sets None) (λ d. draft_if_typed t (at_rowid count d)) q means in
      rw (plain.sets_some, plain.filter_is, drafts_same, drafted.1)
      (typed_is (at_rowid count drafted.0) q (is_typed t (query_of (at_rowid count drafted.0)) []) refl drafted.2 from)

  clause_is : (key : List ℕ) (q : Query) → key_meant s t u.clause.target ≡ Ok (Some key) → update s at t count u.clause
      ≡ Ok (Some (record { lets = []; body = q }))
      → upserts s at t count (u.clause ∷ []) ≡ Ok (record { target = Some key; update = Some (record { lets = []; body = q }) } ∷ [])
  unfolding upserts upsert
  clause_is key q keyed set = rw (plain.has_key, keyed, set)

  insert_is : (m : Merging) → puts_meant t count u.puts ≡ Ok (source_of_row t m.given) → upserts s at t count (u.clause ∷ [])
      ≡ Ok (record { target = Some m.key; update = Some (record { lets = []; body = set_query t m }) } ∷ [])
      → insert_or_abort s count t.name u.puts.1 (rows.Values (u.puts.2 ∷ [])) (u.clause ∷ []) ≡ Ok (upsert_as at t m)
  unfolding insert_or_abort insert_or puts_meant
  insert_is m put clauses =
      let simple = (and_parts (bytes_eq u.puts.0 t.name && (length t.stamps.formats == 0)) (list_all is_value u.puts.2) plain.puts).1 in
      rw (has.named, has.listed, new_rows_same s (one t) t m.given count u.puts.1 u.puts.2 simple put, clauses)

  -- ---- what is shown

  returned_same : returned s t count u.shown ≡ returned (one t) t count u.shown
  unfolding returned outputs
  returned_same =
      ap (λ (found : Lowering (List Output)). if list_any is_all_of u.shown then Err Misuse else
      and_then (found (fresh 1 max_budget)) (λ r. if list_any is_subquery r.1.steps then Err Unsupported else Ok (laid_out r.0 r.1.steps)))
      (outputs_same (showable t count) (showing s t count) (showing (one t) t count) (shown_alike s t count)
      (given_level s t.name (hidden t)).tables (given_level (one t) t.name (hidden t)).tables [] u.shown plain.shown)

  shows_is : (m : Merging) → shown_meant t count u.shown ≡ Ok (m.names, shown_source m) → shows s count t.name u.shown ≡ Ok (Some (returning_as m))
  unfolding shows shown_meant
  shows_is m means =
      let found = ok_then (returned (one t) t count u.shown) (λ r. and_then (source_of (one t) (length r.0) r.1) (λ row. Ok (r.0, row)))
      (m.names, shown_source m) means in
      let row = ok_then (source_of (one t) (length found.0.0) found.0.1) (λ row. Ok (found.0.0, row)) (m.names, shown_source m) found.2 in
      let both : (found.0.0, row.0) ≡ (m.names, shown_source m) = same_value row.2 in
      let names = ap (λ (r : List Name × Source). r.0) both in
      let is = ap (λ (r : List Name × Source). r.1) both in
      let here = source_same s (one t) (length found.0.0) m.shown found.0.1
      (row.1 ∙ ap Ok (is ∙ ap (λ (ns : List Name). source.Values m.shown (length ns)) (sym names))) in
      rw (plain.shows_some, has.named, has.listed, returned_same, found.1, here)
      (ap (λ (ns : List Name). Ok (Some (record { names = ns; row = source.Values m.shown (length ns) }))) names)

-- ---- the text

count_is : (names formats : List Name) → (small names == length names) ≡ true → formats ≡ [] → small names + small formats ≡ length names
count_is names formats small_is none = let same = eqb-true (small names) (length names) small_is in rw none (omega (arith, same))

module _ (s : Schema) (at : ℕ) (t : Table) (has : Has s at t) (keys : keys_on s t.tree ≡ own_keys t) where
  abbrev written_as : UpsertText → Statement
  written_as u = written.Insert conflict.Abort u.puts.0 u.puts.1 (rows.Values (u.puts.2 ∷ [])) (u.clause ∷ []) u.shown

  upsert_as_written : (o : Statement) (u : UpsertText) → upsert_of o ≡ Some u → o ≡ written_as u
  upsert_as_written (written.Insert conflict.Abort name columns (rows.Values (row ∷ [])) (clause ∷ []) shown) u h = ap written_as cc
  upsert_as_written _ u h = absurd cc

  statement_is : (p : Parsed) (u : UpsertText) (m : Merging) → p.statement ≡ written_as u → p.formats ≡ [] → t.stamps.formats ≡ [] → u.puts.0 ≡ t.name
      → insert_or_abort s (small p.names + small t.stamps.formats) t.name u.puts.1 (rows.Values (u.puts.2 ∷ [])) (u.clause ∷ []) ≡ Ok (upsert_as at t m)
      → shows s (small p.names + small t.stamps.formats) t.name u.shown ≡ Ok (Some (returning_as m)) → planned s p
      ≡ Ok ([], (upsert_as at t m, Some (returning_as m)))
  unfolding planned meaning returning command timed
  statement_is p u m is timeless none name put shown = rw (is, timeless, name, has.named, has.listed, shown, put, none)

  by_text : (p : Parsed) (u : UpsertText) (m : Merging) → p.statement ≡ written_as u → p.formats ≡ [] → (small p.names == length p.names)
      ≡ true → is_simple_upsert t (length p.names) u ≡ true
      → upsert_by t (length p.names) u ≡ Ok (m.count, source_of_row t m.given, m.key, set_query t m, m.names, shown_source m)
      → (planned s p ≡ Ok ([], (upsert_as at t m, Some (returning_as m)))) × (length p.names ≡ m.count)
  unfolding upsert_by
  by_text p u m is timeless few simple h =
      let count = length p.names in
      let plain = plain_upsert t count u simple in
      let b = and_parts (bytes_eq u.puts.0 t.name && (length t.stamps.formats == 0)) (list_all is_value u.puts.2) plain.puts in
      let a = and_parts (bytes_eq u.puts.0 t.name) (length t.stamps.formats == 0) b.0 in
      let none = nil_is t.stamps.formats a.1 in
      let put = ok_then (puts_meant t count u.puts) _ _ h in
      let placed = ok_then (places t u.clause.target) _ _ put.2 in
      let keyed = ok_then (key_among (own_keys t) placed.0) _ _ placed.2 in
      let set = ok_then (set_meant t count u.clause) _ _ keyed.2 in
      let shown = ok_then (shown_meant t count u.shown) _ _ set.2 in
      let all : (count, put.0, keyed.0, set.0, shown.0.0, shown.0.1)
      ≡ (m.count, source_of_row t m.given, m.key, set_query t m, m.names, shown_source m) = same_value shown.2 in
      let row_is = put.1 ∙ ap (λ (x : UpsertMeaning). Ok x.1) all in
      let key_found = keyed.1 ∙ ap (λ (x : UpsertMeaning). Ok x.2) all in
      let set_is = set.1 ∙ ap (λ (x : UpsertMeaning). Ok x.3) all in
      let shown_is = shown.1 ∙ ap (λ (x : UpsertMeaning). Ok (x.4, x.5)) all in
      let clauses = clause_is s at t has keys count u plain m.key (set_query t m)
      (key_is s at t has keys count u plain placed.0 m.key placed.1 key_found) (update_is s at t has keys count u plain (set_query t m) set_is refl) in
      let base = sym (count_is p.names t.stamps.formats few none) in (
        statement_is p u m is timeless none ((bytes_eq-Decides u.puts.0 t.name).0 a.0)
            (subst (λ n. insert_or_abort s n t.name u.puts.1 (rows.Values (u.puts.2 ∷ [])) (u.clause ∷ []) ≡ Ok (upsert_as at t m)) base
            (insert_is s at t has keys count u plain m row_is clauses))
            (subst (λ n. shows s n t.name u.shown ≡ Ok (Some (returning_as m))) base (shows_is s at t has keys count u plain m shown_is)),
        ap (λ (x : UpsertMeaning). x.0) all,
      )

  by_test : (p : Parsed) (u : UpsertText) (m : Merging) → p.statement ≡ written_as u → (b : Bool)
      → ((length p.formats == 0) && (small p.names == length p.names) && is_simple_upsert t (length p.names) u) ≡ b
      → (if b then upsert_by t (length p.names) u else Err Unsupported) ≡ Ok (m.count, source_of_row t m.given, m.key, set_query t m, m.names, shown_source m)
      → (planned s p ≡ Ok ([], (upsert_as at t m, Some (returning_as m)))) × (length p.names ≡ m.count)
  by_test p u m is false test h = absurd cc
  by_test p u m is true test h =
      let b = and_parts ((length p.formats == 0) && (small p.names == length p.names)) (is_simple_upsert t (length p.names) u) test in
      let a = and_parts (length p.formats == 0) (small p.names == length p.names) b.0 in
      by_text p u m is (nil_is p.formats a.0) a.1 b.1 h

  or_else_is : {A : Type 0} (o : Option A) (e : CompileError) (a : A) → or_else o e ≡ Ok a → o ≡ Some a
  or_else_is (Some x) e a h = cc
  or_else_is None e a h = absurd cc

  abbrev IsMeant : List ℕ → Merging → Type 0
  IsMeant sql m = (means : MeansAs s sql (upsert_as at t m) (Some (returning_as m))) × (length means.compiled.names ≡ m.count)

  by_parsed : (m : Merging) (sql : List ℕ) (p : Parsed) (u : UpsertText) → first sql ≡ Ok p → upsert_of p.statement ≡ Some u
      → (if (length p.formats == 0) && (small p.names == length p.names) && is_simple_upsert t (length p.names) u then
      upsert_by t (length p.names) u else Err Unsupported)
      ≡ Ok (m.count, source_of_row t m.given, m.key, set_query t m, m.names, shown_source m) → IsMeant sql m
  by_parsed m sql p u parsed is h =
      let plan = by_test p u m (upsert_as_written p.statement u is)
      ((length p.formats == 0) && (small p.names == length p.names) && is_simple_upsert t (length p.names) u) refl h in
      (understood_as s sql p (upsert_as at t m) (Some (returning_as m)) parsed plan.0, plan.1)

  -- An upsert of one row of the table is that row, merged into the one that has its key, at the
  -- table's place.
  pub means_upsert : (m : Merging) (sql : List ℕ) → IsUpsert t m sql → (means : MeansAs s sql (upsert_as at t m) (Some (returning_as m)))
      × (length means.compiled.names ≡ m.count)
  unfolding upsert_meant upsert_in
  means_upsert m sql is =
      let parsed = ok_then (first sql) (upsert_in t) _ is.means in
      let text = ok_then (or_else (upsert_of parsed.0.statement) Misuse) _ _ parsed.2 in
      by_parsed m sql parsed.0 text.0 parsed.1 (or_else_is (upsert_of parsed.0.statement) Misuse text.0 text.1) text.2
