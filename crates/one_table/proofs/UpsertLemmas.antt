-- What an upsert of one row does, and what it shows.
use Rattle.std.proofs.Common.{◌≡◌, ◌+◌, ◌≤◌, ◌<◌, arith, ℕ, zero, suc, ℤ, Bool, true, false, ◌&&◌, ◌||◌, ◌==◌, if◌then◌else◌, IsTrue, List, [], ◌∷◌, ◌++◌, map, filter, length, append-nil, drop, bytes_eq, get_or, None, Some, Ok, refl, sym, ap, ◌∙◌, subst, inl, inr}
use Rattle.std.specs.List.{list_all, list_any}
use Rattle.std.proofs.Math.Path.{fun_ext}
use Rattle.std.proofs.lemmas.Bool.{and_parts, cases_Bool, not-true}
use Rattle.sqlite_value.specs.declared.value.Value.TheVariants.{Null, Int}
use Rattle.sqlite_value.specs.Keys.{plain}
use Rattle.sqlite_value.specs.Order.{Row, column}
use Rattle.sqlite_trees.specs.Tree.{Trees, put_row, rowid, without_rowid}
use Rattle.sqlite_sql.specs.Query.{IsAnswer}
use Rattle.sqlite_sql.specs.Ops.{binary, is_true}
use Rattle.sqlite_sql.specs.Term.{Term, col, eval_all, holds}
use Rattle.sqlite_sql.specs.declared.ops.BinaryOp.TheVariants.{Compare}
use Rattle.sqlite_sql.specs.declared.ops.CompareOp.TheVariants.{Eq}
use Rattle.sqlite_value.specs.declared.keys.Collation.TheVariants.{Binary}
use Rattle.sqlite_resolve.specs.Terms.{equal}
use Rattle.sqlite_resolve.specs.declared.compiled.Compiled.{Compiled}
use Rattle.sqlite_typed.proofs.TestLemmas.{at_ints, last_term}
use Rattle.std.specs.Ordering.{int_eq}
use Rattle.std.proofs.lemmas.Bool.Decides.{Decides-int_eq}
use Rattle.sqlite_schema.specs.Rules.{agree}
use Rattle.sqlite_schema.specs.declared.command.Conflict.TheVariants.{Abort}
use Rattle.sqlite_schema.specs.declared.command.Source.TheVariants.{Values}
use Rattle.sqlite_schema.specs.declared.command.Upsert.{Upsert}
use Rattle.sqlite_schema.specs.declared.schema.Index.{Index}
use Rattle.sqlite_schema.specs.declared.schema.Keys.TheVariants.{Enforced}
use Rattle.sqlite_schema.specs.declared.schema.Schema.{Schema}
use Rattle.sqlite_schema.specs.declared.schema.Table.{Table}
use Rattle.sqlite_rules.specs.declared.error.Rowids.TheVariants.{Above, Chosen, Given}
use Rattle.sqlite_rules.specs.Calls.{ids_of}
use Rattle.sqlite_rules.specs.Cast.{cast_row}
use Rattle.sqlite_rules.specs.Edit.{edit_of, id_in, taken_by, with_rowid}
use Rattle.sqlite_rules.specs.Keys.{AreConflicts, conflicts, shares}
use Rattle.sqlite_rules.specs.Lists.{Has as Member}
use Rattle.sqlite_rules.proofs.ProbeLemmas.{has_mapped}
use Rattle.sqlite.specs.Clock.{timed}
use Rattle.sqlite.specs.Does.{Returns, Shows as ShowsEach}
use Rattle.sqlite.specs.Rows.{Clears, Edited, InsertsOr, Meets, Puts, Task, Tries, TriesEach, Updates, Upserts as Upserts', Written, count_of, nothing, shown}
use Rattle.sqlite.specs.State.{Shown, Shows, ShowsRows, State, Writes, text_of}
use Rattle.sqlite.proofs.Callers.{one_step}
use Rattle.sqlite_keyed.proofs.KeyedLemmas.{same_int}
use Rattle.sqlite.specs.declared.error.Error.{Error}
use Rattle.one_table.specs.declared.read_fault.ReadFault.{ReadFault}
use Rattle.one_table.specs.declared.read_fault.ReadFault.TheVariants.{Database as Failed, Row as Bad}
use Rattle.one_table.specs.InTransaction.{FailsToShow, HasChanged, IsUnderWay}
use Rattle.one_table.specs.ReadFaults.{OnlyWhere}
use Rattle.one_table.specs.Inserting.{source_of_row}
use Rattle.one_table.specs.Listed.{IsListing}
use Rattle.one_table.specs.Merges.{FailsToUpsert, TakesUpserts, Upserts, given_row, set_row, shown_row}
use Rattle.one_table.specs.Numbered.{IsInOrder}
use Rattle.one_table.specs.Place.{Has}
use Rattle.one_table.specs.Reading.{is_whole}
use Rattle.one_table.specs.Standing.{Key, key_of, keys_on, own_keys}
use Rattle.one_table.specs.Upserting.{IsUpsert, Merging, is_of_key, returning_as, set_query, upsert_as}
use Rattle.one_table.proofs.AnswerLemmas.{shown_open}
use Rattle.one_table.proofs.ChangeLemmas.{HasWritten, has_changed, has_written, same_value, task_on, went}
use Rattle.one_table.proofs.InsertLemmas.{by_false, no_works, one_value_row, sourced}
use Rattle.one_table.proofs.ListedLemmas.{none_laid, one_row}
use Rattle.one_table.proofs.LookUpLemmas.{few_of_key}
use Rattle.one_table.proofs.NumberedLemmas.{beside, columns, hides_all, number, rise, rows_are, with_number}
use Rattle.one_table.proofs.OneRowLemmas.{column_after, only_kept}
use Rattle.one_table.proofs.ReadsOnlyLemmas.{shown_stays}
use Rattle.one_table.proofs.RefusalLemmas.{fails_showing, upsert_changes}
use Rattle.one_table.proofs.UpdateLemmas.{idle_works}
use Rattle.one_table.proofs.UpsertTextLemmas.{means_upsert}

-- ---- which rows are in the way

module _ (t : Table) (at : List ℕ) (new row : Row) where
  abbrev meets : Key → Bool
  meets k = k.0 && bytes_eq at k.1 && agree k.2 k.1 row k.1 new

  shares_same : (indexes : List Index) → list_any (shares (Some at) t new row) indexes
      ≡ list_any meets (map key_of (filter (λ (i : Index). i.table == t.tree) indexes))
  shares_same [] = refl
  shares_same (i ∷ more) = by_tree (i.table == t.tree) refl i.is_unique refl (shares_same more)
    where
      by_tree : (b : Bool) → (i.table == t.tree) ≡ b → (u : Bool) → i.is_unique ≡ u → list_any (shares (Some at) t new row) more
          ≡ list_any meets (map key_of (filter (λ (j : Index). j.table == t.tree) more))
          → list_any (shares (Some at) t new row) (i ∷ more) ≡ list_any meets (map key_of (filter (λ (j : Index). j.table == t.tree) (i ∷ more)))
      by_tree false is true unique rest = rw (is, unique, rest)
      by_tree false is false unique rest = rw (is, unique, rest)
      by_tree true is true unique rest = rw (is, unique, rest)
      by_tree true is false unique rest = rw (is, unique, rest)

  conflicts_same : (indexes : List Index) → map key_of (filter (λ (i : Index). i.table == t.tree) indexes) ≡ own_keys t
      → conflicts (Some at) indexes t new row ≡ is_of_key (own_keys t) at new row
  conflicts_same indexes keys = ap (λ b. (bytes_eq at (0 ∷ []) && agree plain (0 ∷ []) row (0 ∷ []) new) || b) (shares_same indexes ∙ ap (list_any meets) keys)

none_any : {X : Type 0} (p : X → Bool) (xs : List X) → ((x : X) → Member xs x → p x ≡ true → ⊥) → list_any p xs ≡ false
none_any p [] none = refl
none_any p (x ∷ xs) none = elim (cases_Bool (p x)) [ inl is ↦ absurd (none x (inl refl) is) | inr not ↦ rw not (none_any p xs (λ y there. none y (inr there))) ]

-- ---- the parts of the statement

module _ (task : Task) (terms : List Term) (db : Trees) where
  abbrev given : Row
  given = with_rowid Chosen (db task.table.tree) (cast_row task.table (eval_all terms (task.params ∷ [])))

  -- the row is tried, and nothing else is written
  pub tries_one : (clauses : List Upsert) (w : Written) → length terms ≡ length task.table.columns + 1 → task.table.is_counted ≡ false
      → task.table.stamps.terms ≡ []
      → InsertsOr task Abort clauses (Values terms (length task.table.columns + 1)) db (Ok w) → (one : Written)
      × Tries task Abort clauses given db (Ok one) × (w.trees ≡ one.trees) × (w.rows ≡ one.rows)
  tries_one clauses w whole uncounted unstamped h =
      let rows = went h in
      let counter = went rows.2 in
      let tried = went counter.2 in
      let left = went tried.2 in
      let source : rows.0 ≡ eval_all terms (task.params ∷ []) ∷ [] = sourced task terms db whole uncounted unstamped rows.0 rows.1 in
      let one = went (subst (λ l. TriesEach task Abort clauses l (count_of counter.0) (nothing db) (Ok tried.0)) source tried.1) in
      let next : left.0 ≡ tried.0.0.trees = same_value (by_false _ _ task.table.is_counted _ uncounted left.1) in (
        one.0,
        subst (λ b. Tries task Abort clauses (with_rowid (if b then Above (count_of counter.0) else Chosen) (db task.table.tree)
            (cast_row task.table (eval_all terms (task.params ∷ [])))) db (Ok one.0)) uncounted one.1,
        ap (λ (it : Written). it.trees) (same_value left.2) ∙ next ∙ ap (λ (p : Written × ℤ). p.0.trees) (same_value one.2),
        ap (λ (it : Written). it.rows) (same_value left.2) ∙ ap (λ (p : Written × ℤ). p.0.rows) (same_value one.2),
      )

  -- where it was not refused, it is put in or merged
  pub judged_well : (clauses : List Upsert) (new : Row) (one : Written) → Tries task Abort clauses new db (Ok one) → Upserts' task Abort new db clauses (Ok one)
  judged_well clauses new one (inl late) = absurd (let e = late.1 in cc)
  judged_well clauses new one (inr (None, judged, done)) = done
  judged_well clauses new one (inr (Some why, judged, done)) = absurd (let e = done in cc)

  -- with ABORT a row is put in with nothing taken out of its way
  pub puts_only : (new : Row) (one : Written) (found : List Row) → Clears task Abort new db found (Ok one) → Puts task new db (Ok one)
  puts_only new one [] h = h
  puts_only new one (x ∷ more) h = h

  -- what is shown of the one row that was written
  pub shows_one : (what : List Term) (names : List (List ℕ)) (width : ℕ) (w : Written) (row : Row) (rows : List Row) → w.rows ≡ row ∷ []
      → length what ≡ width → 0 < width
      → Returns task w (Some (record { names = names; row = Values what width })) (Ok rows) → rows
      ≡ eval_all what ((task.params ++ Null ∷ shown task.table row) ∷ []) ∷ []
  shows_one what names width w row rows is whole some h =
      let shown_rows = went h in
      let counted = went shown_rows.2 in
      let each = went (subst (λ l. ShowsEach task (record { names = names; row = Values what width }) w.trees l (Ok shown_rows.0)) is shown_rows.1) in
      let others = went each.2 in
      let first : each.0 ≡ eval_all what ((task.params ++ Null ∷ shown task.table row) ∷ []) ∷ [] =
      each.1.1 ∙ one_value_row (task.params ++ Null ∷ shown task.table row) width what whole some in
      same_value counted.2 ∙ same_value others.2 ∙ ap (λ l. each.0 ++ l) (same_value others.1) ∙ append-nil each.0 ∙ first

-- ---- the row that has the key

module _ (db : Trees) (t : Table) (m : Merging) (params : Row) (counted : length params ≡ m.count) (order : IsInOrder (db t.tree))
    (rest there : Row) (member : Member (db t.tree) there) where
  abbrev read : Row
  read = params ++ rowid there ∷ rest

  abbrev all : List (ℤ × Row)
  all = beside columns (db t.tree) (map (drop 1) (db t.tree)) (hides_all (db t.tree)) order

  all_are : db t.tree ≡ map (with_number columns) all
  all_are = rows_are columns (db t.tree) (map (drop 1) (db t.tree)) (hides_all (db t.tree)) order

  it : (n : ℤ × Row) × Member all n × (there ≡ with_number columns n)
  it = has_mapped (with_number columns) all there (subst (λ l. Member l there) all_are member)

  abbrev picks : ℤ × Row → Bool
  picks x = int_eq x.0 it.0.0

  id_read : column read m.count ≡ Int it.0.0
  id_read = ap (column read) (sym counted) ∙ column_after params (rowid there) rest ∙ ap rowid it.2

  passes_is : (x : ℤ × Row) → list_all (holds (read ∷ with_number columns x ∷ [])) (equal Binary (col 1 0) (col 0 m.count) ∷ []) ≡ picks x
  passes_is x = last_term (ap (λ v. is_true (binary (Compare Eq Binary) (Int x.0) v)) id_read ∙ at_ints false Eq x.0 it.0.0)

  abbrev shows : ℤ × Row → Row
  shows x = eval_all (col 1 0 ∷ m.sets) (read ∷ with_number columns x ∷ [])

  listing : IsListing db t.tree (equal Binary (col 1 0) (col 0 m.count) ∷ []) (col 1 0 ∷ m.sets) read (with_number columns) all picks shows
  listing = record { holds_them = all_are; passes = passes_is; shows = λ _. refl }

  own_id : (a : ℤ) → int_eq a a ≡ true
  own_id a = (Decides-int_eq a a).1 refl

  few : length (filter picks all) ≤ 1
  few = few_of_key number it.0.0 picks all (rise columns (db t.tree) (map (drop 1) (db t.tree)) (hides_all (db t.tree)) order) (λ x h. same_int x.0 it.0.0 h)

  -- the one row of that rowid is found
  pub finds_one : (found : List Row) → IsAnswer (set_query t m) db read found → (n : ℤ) × (rowid there ≡ Int n)
      × (found ≡ (Int n ∷ eval_all m.sets (read ∷ there ∷ [])) ∷ [])
  finds_one found answer =
      let only = only_kept picks all it.0 few it.1 (own_id it.0.0) in (
        it.0.0,
        ap rowid it.2,
        one_row listing found answer few ∙ ap (map shows) only ∙ ap (λ (r : Row). (Int it.0.0 ∷ eval_all m.sets (read ∷ r ∷ [])) ∷ []) (sym it.2),
      )

some_of : (n : ℕ) → (n == 0) ≡ false → 0 < n
some_of zero h = absurd cc
some_of (suc n) h = omega arith

-- ---- the statement

module _ (sql : List ℕ) (params : Row) (old new : State) (t : Table) (at : ℕ) (m : Merging) (is : IsUpsert t m sql) where
  -- the row that was put in or merged, of which this is shown
  abbrev pub Upserted : List Row → Type 0
  Upserted rows = (row : Row) × (rows ≡ shown_row t m params row ∷ []) × Upserts t m params old new row

  module _ (k : TakesUpserts old.now at t) (counted : length params ≡ m.count) (inside : Shows old new new.now old.committed true) (text : List ℕ) (count : ℕ)
      (w : Writes old new (Some (returning_as m)) (upsert_as at t m) text params count) where
    abbrev db : Trees
    db = old.now.trees

    abbrev schema : Schema
    schema = old.now.schema

    abbrev task : Task
    task = task_on old params t

    abbrev given_now : Row
    given_now = given_row t m params (db t.tree)

    abbrev clause : Upsert
    clause = record { target = Some m.key; update = Some (record { lets = []; body = set_query t m }) }

    wrote : HasWritten t (Some (returning_as m)) (upsert_as at t m) params w.tally.shown old new
    wrote = has_written t at (Some (returning_as m)) (upsert_as at t m) params old new w.tally k.has.listed w.changed

    one : (one : Written) × Tries task Abort (clause ∷ []) given_now db (Ok one) × (wrote.written.trees ≡ one.trees) × (wrote.written.rows ≡ one.rows)
    one = tries_one task m.given db (clause ∷ []) wrote.written is.whole is.uncounted is.unstamped wrote.wrote

    shows_is : (row : Row) → one.0.rows ≡ row ∷ [] → w.tally.shown ≡ shown_row t m params row ∷ []
    shows_is row rows_are = shows_one task m.given db m.shown m.names (length m.names) wrote.written row w.tally.shown (one.3 ∙ rows_are)
        is.shows_each (some_of (length m.names) is.shows_some) wrote.shows

    by_put : list_any (is_of_key (own_keys t) m.key given_now) (db t.tree) ≡ false → Puts task given_now db (Ok one.0) → Upserted w.tally.shown
    by_put free h =
        let put = went h in
        let edit = edit_of db t [] Given 0 (given_now ∷ []) in
        let next : wrote.written.trees ≡ put.0 = one.2 ∙ ap (λ (it : Written). it.trees) (same_value put.2) in
        let a = one_step schema Enforced db wrote.written.trees edit (no_works schema Enforced t.tree edit.news)
        (subst (λ n. Edited schema Enforced db edit (Ok n)) (sym next) put.1) in (
          cast_row t given_now,
          shows_is (cast_row t given_now) (ap (λ (it : Written). it.rows) (same_value put.2)),
          inl (record {
            free = free;
            is = refl;
            puts = record {
              changed = has_changed t edit (upsert_as at t m) text params count old new wrote refl a inside w;
              fresh = not-true _ (and_parts _ _ a.fresh).0;
            };
          }),
        )

    by_set : (there : Row) → Member (db t.tree) there → is_of_key (own_keys t) m.key given_now there ≡ true
        → Updates task (record { lets = []; body = set_query t m }) (params ++ rowid there ∷ shown t given_now) db (Ok one.0) → Upserted w.tally.shown
    by_set there member keyed h =
        let found = went h in
        let put = went found.2 in
        let read = params ++ rowid there ∷ shown t given_now in
        let answer = subst (λ trees. IsAnswer (set_query t m) trees read found.0) (fun_ext (none_laid db)) (found.1.answer Null) in
        let only = finds_one db t m params counted k.in_order (shown t given_now) there member found.0 answer in
        let row = set_row t m params (db t.tree) there in
        let by = λ (l : List Row). edit_of db t (ids_of l) Given 1 l in
        let edit = by ((Int only.0 ∷ eval_all m.sets (read ∷ there ∷ [])) ∷ []) in
        let next : wrote.written.trees ≡ put.0 = one.2 ∙ ap (λ (it : Written). it.trees) (same_value put.2) in
        let edited_so = subst (λ l. Edited schema Enforced db (by l) (Ok wrote.written.trees)) only.2
        (subst (λ n. Edited schema Enforced db (by found.0) (Ok n)) (sym next) put.1) in
        let a = one_step schema Enforced db wrote.written.trees edit (idle_works schema t.tree (taken_by db edit) edit.news k.left_alone) edited_so in (
          row,
          shows_is row (ap (λ (it : Written). it.rows) (same_value put.2) ∙ ap (λ l. (by l).news) only.2),
          inr (record {
            there = there;
            found = member;
            keyed = keyed;
            is = refl;
            changed = subst (λ id. HasChanged t (put_row row (without_rowid id (db t.tree))) old new) (sym (ap id_in only.1))
                (has_changed t edit (upsert_as at t m) text params count old new wrote refl a inside w);
          }),
        )

    by_conflicts : (found : List Row) → AreConflicts (Some m.key) schema.indexes t (db t.tree) given_now found
        → Meets task (Upserts' task Abort given_now db []) given_now db clause found (Ok one.0) → Upserted w.tally.shown
    by_conflicts [] conf (others, among, clears) =
        by_put (none_any _ (db t.tree) (λ r member keyed. conf.complete r member
        (conflicts_same t m.key given_now r schema.indexes k.keys ∙ keyed))) (puts_only task m.given db given_now one.0 others clears)
    by_conflicts (x ∷ more) conf resolves =
        let s = conf.sound x (inl refl) in
        by_set s.0 s.1 (sym (conflicts_same t m.key given_now s.0 schema.indexes k.keys) ∙ s.2)
        (subst (λ y. Updates task (record { lets = []; body = set_query t m }) (params ++ rowid y ∷ shown t given_now) db (Ok one.0)) s.3 resolves)

    written_so : Upserted w.tally.shown
    written_so = let done = judged_well task m.given db (clause ∷ []) given_now one.0 one.1 in by_conflicts done.0 done.1 done.2

  -- what was shown by the text, as what its command wrote
  pub record WasWritten (rows : List Row) : Type 0 where
    pub text : List ℕ
    pub count : ℕ
    pub writes : Writes old new (Some (returning_as m)) (upsert_as at t m) text params count
    pub shows : rows ≡ writes.tally.shown
    pub counted : length params ≡ m.count

  -- the rows that the text showed are those of what its command wrote
  pub was_written : Has old.now.schema at t → keys_on old.now.schema t.tree ≡ own_keys t → (rows : List Row) → Shown sql params old new rows → WasWritten rows
  unfolding Shown
  was_written has keys rows h =
      let text = means_upsert old.now.schema at t has keys m sql is in
      let known : h.0 ≡ text.0.compiled = let both : Ok h.0 ≡ Ok text.0.compiled = sym h.1.is ∙ text.0.understands in cc in
      let command_is : h.0.command ≡ upsert_as at t m = ap (λ (c : Compiled). c.command) known ∙ text.0.command in
      let returning_is : h.0.returning ≡ Some (returning_as m) = ap (λ (c : Compiled). c.returning) known ∙ text.0.returning in
      let timeless : h.0.formats ≡ [] = ap (λ (c : Compiled). c.formats) known ∙ text.0.timeless in
      let no_times : timed params h.0.formats h.1.now ≡ params = rw (timeless, append-nil params) refl in
      let it_1 = subst (ShowsRows old new sql h.0 (timed params h.0.formats h.1.now) rows) returning_is h.2 in
      let it_2 = subst (λ ps. ShowsRows old new sql h.0 ps rows (Some (returning_as m))) no_times it_1 in
      let it_3 = subst (λ c. (count : ℕ) × (w : Writes old new (Some (returning_as m)) c (text_of sql h.0) params count)
      × (rows ≡ w.tally.shown)) command_is it_2 in
      record {
        text = text_of sql h.0;
        count = it_3.0;
        writes = it_3.1;
        shows = it_3.2;
        counted = h.1.given ∙ ap (λ (c : Compiled). length c.names) known ∙ text.1;
      }

  module _ (takes : IsTrue old.is_open → TakesUpserts old.now at t) where
    -- what was shown by the text is shown of the row that was put in or merged
    pub upserted : (rows : List Row) → Shown sql params old new rows → IsUnderWay old → Upserted rows
    upserted rows h way =
        let k = takes (shown_open sql params old new rows h) in
        let wrote = was_written k.has k.keys rows h in
        subst Upserted (sym wrote.shows) (written_so k wrote.counted (shown_stays sql params old new rows h way) wrote.text wrote.count wrote.writes)

    -- why it fails, from why its value is not read
    pub fails_unread : (IsReadable : Row → Type 0) (rows : List Row) (x : Row) → Upserted rows → x ≡ get_or rows 0 x → (why : ReadFault)
        → OnlyWhere (¬ IsReadable x) why → FailsToUpsert t m params old new at IsReadable why
    fails_unread IsReadable rows x done item (Failed e) (inl none) = inr (none, done.0, done.2)
    fails_unread IsReadable rows x done item Bad (inl none) = cc
    fails_unread IsReadable rows x done item (Failed e) (inr bad) = absurd (let no = bad.0 in cc)
    fails_unread IsReadable rows x done item Bad (inr bad) = (done.0, subst (λ r. ¬ IsReadable r) (item ∙ ap (λ l. get_or l 0 x) done.1) bad.1, done.2)

    -- why it fails, from why the text does
    pub fails_to_upsert : (IsReadable : Row → Type 0) → is_whole sql (length params) ≡ true → (e : Error)
        → FailsToShow sql params old new e → FailsToUpsert t m params old new at IsReadable (Failed e)
    fails_to_upsert IsReadable whole e fails =
        inl (fails_showing sql params old new (returning_as m) (upsert_as at t m) (upsert_changes (Some (returning_as m)) at Abort (source_of_row t m.given) _)
        (λ runs. let k = takes runs in (means_upsert old.now.schema at t k.has k.keys m sql is).0) whole e fails)
