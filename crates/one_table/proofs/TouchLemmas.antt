-- What an upsert leaves, whatever the order of the rows of its table: only these may have changed.
use Rattle.std.proofs.Common.{◌≡◌, ◌<◌, ℕ, true, List, [], ◌∷◌, ◌++◌, length, get_or, slice_get, None, Some, Ok, IsTrue, arith, refl, sym, ap, ◌∙◌, subst, inl, inr}
use Rattle.sqlite_value.specs.Order.{Row}
use Rattle.sqlite_trees.specs.Tree.{Trees, rowid}
use Rattle.sqlite_schema.specs.declared.command.Conflict.TheVariants.{Abort}
use Rattle.sqlite_schema.specs.declared.command.Upsert.{Upsert}
use Rattle.sqlite_schema.specs.declared.schema.Keys.TheVariants.{Enforced}
use Rattle.sqlite_schema.specs.declared.schema.Schema.{Schema}
use Rattle.sqlite_schema.specs.declared.schema.Table.{Table}
use Rattle.sqlite_rules.specs.declared.error.Rowids.TheVariants.{Given}
use Rattle.sqlite_rules.specs.Calls.{ids_of}
use Rattle.sqlite_rules.specs.Edit.{edit_of, edited, taken_by}
use Rattle.sqlite.specs.Rows.{Edited, Meets, Puts, Task, Tries, Updates, Upserts as Upserts', Written, shown}
use Rattle.sqlite.specs.State.{Shown, Shows, State, Writes}
use Rattle.sqlite.specs.declared.error.Error.{Error}
use Rattle.sqlite.proofs.Callers.{one_step}
use Rattle.one_table.specs.InTransaction.{BeginsWith, FailsToShow, IsUnderWay, ShowsInside}
use Rattle.one_table.specs.Inserting.{source_of_row}
use Rattle.one_table.specs.Merges.{FailsToTouch, StandsForUpserts, Touches, given_row}
use Rattle.one_table.specs.ReadFaults.{OnlyWhere}
use Rattle.one_table.specs.Reading.{is_whole}
use Rattle.one_table.specs.Upserting.{IsUpsert, Merging, returning_as, set_query, upsert_as}
use Rattle.one_table.specs.declared.read_fault.ReadFault.{ReadFault}
use Rattle.one_table.specs.declared.read_fault.ReadFault.TheVariants.{Database as Failed, Row as Bad}
use Rattle.one_table.proofs.AnswerLemmas.{shown_open}
use Rattle.one_table.proofs.ChangeLemmas.{HasWritten, has_changed, has_written, same_value, task_on, went}
use Rattle.one_table.proofs.InsertLemmas.{no_works}
use Rattle.one_table.proofs.ReadsOnlyLemmas.{shown_stays}
use Rattle.one_table.proofs.RefusalLemmas.{fails_showing, upsert_changes}
use Rattle.one_table.proofs.UpdateLemmas.{idle_works}
use Rattle.one_table.proofs.UpsertLemmas.{judged_well, puts_only, tries_one, was_written}
use Rattle.one_table.proofs.UpsertTextLemmas.{means_upsert}

-- ---- the first of some rows

-- rows begin with the first of them
pub begins_with : (Is : Row → Type 0) (row : Row) (rows : List Row) → 0 < length rows → row ≡ get_or rows 0 row → Is row → BeginsWith Is rows
begins_with Is row [] some item so = absurd (omega (arith, some))
begins_with Is row (x ∷ more) some item so = subst Is item so

-- which is what is known of those that begin so
pub first_is : (Is : Row → Type 0) (row : Row) (rows : List Row) → row ≡ get_or rows 0 row → BeginsWith Is rows → Is row
first_is Is row [] item begins = absurd begins
first_is Is row (x ∷ more) item begins = subst Is (sym item) begins

-- none begin so where there are none
pub none_first : (Is : Row → Type 0) (rows : List Row) → None ≡ slice_get rows 0 → ¬ BeginsWith Is rows
none_first Is [] none begins = begins
none_first Is (x ∷ more) none begins = absurd cc

module _ (sql : List ℕ) (params : Row) (old new : State) (t : Table) (at : ℕ) (m : Merging) (is : IsUpsert t m sql) where
  abbrev HasTouched : Type 0
  HasTouched = Touches t m params old new

  module _ (k : StandsForUpserts old.now.schema at t) (inside : Shows old new new.now old.committed true) (text : List ℕ) (count : ℕ)
      (w : Writes old new (Some (returning_as m)) (upsert_as at t m) text params count) where
    abbrev db : Trees
    db = old.now.trees

    abbrev schema : Schema
    schema = old.now.schema

    abbrev task : Task
    task = task_on old params t

    abbrev given_now : Row
    given_now = given_row t m params (db t.tree)

    abbrev clause : Upsert
    clause = record { target = Some m.key; update = Some (record { lets = []; body = set_query t m }) }

    wrote : HasWritten t (Some (returning_as m)) (upsert_as at t m) params w.tally.shown old new
    wrote = has_written t at (Some (returning_as m)) (upsert_as at t m) params old new w.tally k.has.listed w.changed

    one : (one : Written) × Tries task Abort (clause ∷ []) given_now db (Ok one) × (wrote.written.trees ≡ one.trees) × (wrote.written.rows ≡ one.rows)
    one = tries_one task m.given db (clause ∷ []) wrote.written is.whole is.uncounted is.unstamped wrote.wrote

    by_put : Puts task given_now db (Ok one.0) → HasTouched
    by_put h =
        let put = went h in
        let edit = edit_of db t [] Given 0 (given_now ∷ []) in
        let next : wrote.written.trees ≡ put.0 = one.2 ∙ ap (λ (it : Written). it.trees) (same_value put.2) in
        let a = one_step schema Enforced db wrote.written.trees edit (no_works schema Enforced t.tree edit.news)
        (subst (λ n. Edited schema Enforced db edit (Ok n)) (sym next) put.1) in
        (edited db edit, has_changed t edit (upsert_as at t m) text params count old new wrote refl a inside w)

    by_set : (there : Row) → Updates task (record { lets = []; body = set_query t m }) (params ++ rowid there ∷ shown t given_now) db (Ok one.0) → HasTouched
    by_set there h =
        let found = went h in
        let put = went found.2 in
        let edit = edit_of db t (ids_of found.0) Given 1 found.0 in
        let next : wrote.written.trees ≡ put.0 = one.2 ∙ ap (λ (it : Written). it.trees) (same_value put.2) in
        let a = one_step schema Enforced db wrote.written.trees edit (idle_works schema t.tree (taken_by db edit) edit.news k.left_alone)
        (subst (λ n. Edited schema Enforced db edit (Ok n)) (sym next) put.1) in
        (edited db edit, has_changed t edit (upsert_as at t m) text params count old new wrote refl a inside w)

    by_conflicts : (found : List Row) → Meets task (Upserts' task Abort given_now db []) given_now db clause found (Ok one.0) → HasTouched
    by_conflicts [] (others, among, clears) = by_put (puts_only task m.given db given_now one.0 others clears)
    by_conflicts (x ∷ more) resolves = by_set x resolves

    touched_so : HasTouched
    touched_so = let done = judged_well task m.given db (clause ∷ []) given_now one.0 one.1 in by_conflicts done.0 done.2

  module _ (stands : IsTrue old.is_open → StandsForUpserts old.now.schema at t) where
    -- an upsert that showed rows inside a transaction changed the rows of its table alone
    pub touched : (rows : List Row) → Shown sql params old new rows → IsUnderWay old → HasTouched
    touched rows h way =
        let k = stands (shown_open sql params old new rows h) in
        let wrote = was_written sql params old new t at m is k.has k.keys rows h in
        touched_so k (shown_stays sql params old new rows h way) wrote.text wrote.count wrote.writes

    -- an upsert that showed rows was carried out as the command that it means, and showed these
    pub showed : (rows : List Row) → Shown sql params old new rows → (Showed : List Row → Type 0) → Showed rows → ShowsInside Showed sql params old new
    showed rows h Showed so =
        let k = stands (shown_open sql params old new rows h) in
        let wrote = was_written sql params old new t at m is k.has k.keys rows h in (
          record {
            command = upsert_as at t m;
            shows = Some (returning_as m);
            means = (means_upsert old.now.schema at t k.has k.keys m sql is).0;
            tally = wrote.writes.tally;
            does = wrote.writes.changed;
          },
          subst Showed wrote.shows so,
        )

    -- why it fails, from why its value is not read
    pub touched_unread : (IsReadable : Row → Type 0) (rows : List Row) (row : Row) (why : ReadFault) → Shown sql params old new rows → HasTouched
        → row ≡ get_or rows 0 row → OnlyWhere (¬ IsReadable row) why → FailsToTouch t m params old new at sql IsReadable why
    touched_unread IsReadable rows row (Failed e) h done item (inl none) = inr (none, done)
    touched_unread IsReadable rows row Bad h done item (inl none) = cc
    touched_unread IsReadable rows row (Failed e) h done item (inr bad) = absurd (let no = bad.0 in cc)
    touched_unread IsReadable rows row Bad h done item (inr bad) =
        (done, showed rows h (λ l. ¬ BeginsWith IsReadable l) (λ begins. bad.1 (first_is IsReadable row rows item begins)))

    -- why it fails, from why the text does
    pub fails_to_touch : (IsReadable : Row → Type 0) → is_whole sql (length params) ≡ true → (e : Error) → FailsToShow sql params old new e
        → FailsToTouch t m params old new at sql IsReadable (Failed e)
    fails_to_touch IsReadable whole e fails =
        inl (fails_showing sql params old new (returning_as m) (upsert_as at t m) (upsert_changes (Some (returning_as m)) at Abort (source_of_row t m.given) _)
        (λ runs. let k = stands runs in (means_upsert old.now.schema at t k.has k.keys m sql is).0) whole e fails)
