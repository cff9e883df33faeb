-- What is read of a table is its rows.
use Rattle.std.proofs.Common.{Err, IfErr, List, Ok, Result, [], ap, ap₂, inl, inr, map, refl, subst, sym, ℕ, ◌++◌, ◌∷◌, ◌≡◌}
use Rattle.sqlite_tied.specs.Compute.{everything}
use Rattle.one_table.specs.Reading.{is_whole, meant, select_meant, text_meant}
use Rattle.book_tables.specs.Tables.{dated_steps_table, last_ids_table, meter_bases_table, meters_table, month_tenths_table, sales_table, shift_totals_table, shifts_table, tariff_steps_table, tariffs_table}
use Rattle.audit_rows.specs.Listing.{FailsToList, ListsAll, cause_of}
use Rattle.audit_rows.specs.Tables.{kept_of, list_of}
use Rattle.audit_rows.specs.declared.table_name.TableName.{TableName}
use Rattle.std.specs.Prelude.{All, Any, ⊤, ◌↔◌}
use Rattle.std.specs.List.{AllZip}
use Rattle.std.proofs.lemmas.List.Elements.{All-cons, All-head, All-map, All-nil, All-weaker}
use Rattle.std.proofs.lemmas.List.Sorted.{All-permutation}
use Rattle.sqlite.specs.Effect.{Database}
use Rattle.sqlite.specs.Order.{Row}
use Rattle.sqlite.specs.State.{HasCleanDisk, IsUnchanged, State}
use Rattle.sqlite.specs.declared.error.Error.{Error}
use Rattle.one_table.specs.Answer.{FailsToRead as FailsToAnswer, GivesAll, OnlyAsks}
use Rattle.one_table.specs.ReadsOnly.{ReadsOnly}
use Rattle.one_table.specs.declared.read_fault.ReadFault.{ReadFault}
use Rattle.one_table.proofs.ReadsOnlyLemmas.{read_into, read_so}
use Rattle.book_tables.specs.Holds.{IsKept}
use Rattle.book_tables.specs.reading.Reading.{ShowsRecord}
use Rattle.audit_rows.specs.Breaks.{Breaks, BreaksByItself, HasTrueRows, IsBroken, IsFirstFalse, ShowsOf}
use Rattle.audit_rows.specs.Fails.{FailsToReadTables, HaveTables, IsKnown}
use Rattle.audit_rows.specs.Whole.{AreListed, IsTableListing, Sees, all_columns}
use Rattle.audit_rows.specs.declared.finding.AuditFault.{AuditFault}
use Rattle.audit_rows.specs.declared.finding.AuditFault.TheVariants.{Failed, Found}
use Rattle.audit_rows.specs.declared.finding.Finding.{Finding}
use Rattle.audit_rows.specs.declared.seen.Seen.{Seen}
use Rattle.audit_rows.proofs.ByNumberLemmas.{answer_lists}
use Rattle.audit_rows.specs.declared.table_name.TableName.TheVariants as table
use Rattle.one_table.specs.declared.read_fault.ReadFault.TheVariants as fault
use Rattle.book_tables.proofs.ReadingLemmas.ReadLemmas as read
use Rattle.audit_rows.specs.declared.seen.Seen.TheVariants as seen

-- the text of each table asks for all columns of all its rows
pub lists : (t : TableName) → ListsAll (kept_of t) (list_of t)
unfolding everything is_whole meant select_meant text_meant
lists table.Tariffs = record {
  table = tariffs_table;
  asks = record { is = λ tree. record { means = refl; from = refl }; bare = λ tree. refl; typed = λ tree. refl; whole = refl };
  stands = λ s has. has.0.has;
}
lists table.TariffSteps = record {
  table = tariff_steps_table;
  asks = record { is = λ tree. record { means = refl; from = refl }; bare = λ tree. refl; typed = λ tree. refl; whole = refl };
  stands = λ s has. has.0.has;
}
lists table.Meters = record {
  table = meters_table;
  asks = record { is = λ tree. record { means = refl; from = refl }; bare = λ tree. refl; typed = λ tree. refl; whole = refl };
  stands = λ s has. has.0.has;
}
lists table.Shifts = record {
  table = shifts_table;
  asks = record { is = λ tree. record { means = refl; from = refl }; bare = λ tree. refl; typed = λ tree. refl; whole = refl };
  stands = λ s has. has.0.has;
}
lists table.Sales = record {
  table = sales_table;
  asks = record
      { is = λ tree. record { means = refl; from = refl }; bare = λ tree. refl; typed = λ tree. refl; whole = refl };
  stands = λ s has. has.0.has;
}
lists table.LastIds = record {
  table = last_ids_table;
  asks = record { is = λ tree. record { means = refl; from = refl }; bare = λ tree. refl; typed = λ tree. refl; whole = refl };
  stands = λ s has. has.0.has;
}
lists table.MonthTenths = record {
  table = month_tenths_table;
  asks = record { is = λ tree. record { means = refl; from = refl }; bare = λ tree. refl; typed = λ tree. refl; whole = refl };
  stands = λ s has. has.0.has;
}
lists table.ShiftTotals = record {
  table = shift_totals_table;
  asks = record { is = λ tree. record { means = refl; from = refl }; bare = λ tree. refl; typed = λ tree. refl; whole = refl };
  stands = λ s has. has.0.has;
}
lists table.MeterBases = record {
  table = meter_bases_table;
  asks = record { is = λ tree. record { means = refl; from = refl }; bare = λ tree. refl; typed = λ tree. refl; whole = refl };
  stands = λ s has. has.0.has;
}
lists table.DatedSteps = record {
  table = dated_steps_table;
  asks = record { is = λ tree. record { means = refl; from = refl }; bare = λ tree. refl; typed = λ tree. refl; whole = refl };
  stands = λ s has. has.0.has;
}

-- ---- the rows that were seen

module _ {T : Type 0} (shown : T → Row) (keeps : T → Type 0) where
  all_records : (rows : List Row) (xs : List T) → AllZip (Sees shown keeps) rows (map seen.Whole xs) → (map shown xs ≡ rows) × All keeps xs
  all_records [] [] all = (refl, All-nil keeps)
  all_records [] (x ∷ xs) all = absurd all
  all_records (row ∷ rows) [] all = absurd all
  all_records (row ∷ rows) (x ∷ xs) all =
      let rest = all_records rows xs all.1 in
      (ap₂ ◌∷◌ all.0.0 rest.0, All-cons keeps x xs all.0.1 rest.1)

  -- the rows before the first that shows no record, and those after it
  first_none : (rows : List Row) (before : List T) (row : Row) (after : List (Seen T))
      → AllZip (Sees shown keeps) rows (map seen.Whole before ++ (seen.False row ∷ after))
      → (rest : List Row) × (map shown before ++ (row ∷ rest) ≡ rows) × All keeps before × ¬ ShowsRecord shown keeps row
  first_none [] [] row after all = absurd all
  first_none [] (x ∷ before) row after all = absurd all
  first_none (r ∷ rows) [] row after all = (
    rows,
    ap (λ (x : Row). x ∷ rows) all.0.0,
    All-nil keeps,
    subst (λ (x : Row). ¬ ShowsRecord shown keeps x) (sym all.0.0) all.0.1,
  )
  first_none (r ∷ rows) (x ∷ before) row after all =
      let rest = first_none rows before row after all.1 in
      (rest.0, ap₂ ◌∷◌ all.0.0 rest.1, All-cons keeps x before all.0.1 rest.2, rest.3)

  -- ---- the rows of a table

  module _ (t : TableName) (shows : (row : Row) → ShowsRecord shown keeps row ↔ ShowsOf t row) where
    all_show : (xs : List T) → All keeps xs → All (ShowsOf t) (map shown xs)
    all_show xs kept = All-map (ShowsOf t) shown xs (All-weaker keeps (λ (x : T). ShowsOf t (shown x))
        (λ x rules. (shows (shown x)).0 (x, (refl, rules))) xs kept)

    -- where a record of each row is known, each row shows one
    pub listed_true : (db : Database) (xs : List T) → AreListed shown keeps (kept_of t) db xs → All (HasTrueRows db) (t ∷ [])
    listed_true db xs are = All-cons (HasTrueRows db) t []
        (All-permutation (ShowsOf t) (map shown xs) (all_columns (kept_of t) db) are.listed.same (all_show xs are.kept)) (All-nil (HasTrueRows db))

    module _ (old new : State) (there : IsKept old.now.schema (kept_of t)) (all : List (Seen T))
        (given : GivesAll (Sees shown keeps) (list_of t) [] old new all) where
      listing : IsTableListing (kept_of t) old.now given.rows
      listing = answer_lists (kept_of t) old.now given.rows (read.answer_is (lists t).asks (kept_of t) (lists t).stands old new there given.rows given.shown)

      -- all that was seen are records
      pub are_listed : (xs : List T) → all ≡ map seen.Whole xs → AreListed shown keeps (kept_of t) old.now xs
      are_listed xs is =
          let records = all_records given.rows xs (subst (AllZip (Sees shown keeps) given.rows) is given.read) in
          record { listed = subst (IsTableListing (kept_of t) old.now) (sym records.0) listing; kept = records.1 }

      -- or the first is told that is none
      pub is_broken : (before : List T) (row : Row) (after : List (Seen T)) → all ≡ map seen.Whole before ++ (seen.False row ∷ after)
          → (f : Finding) → (¬ ShowsOf t row → IsBroken t row f) → Breaks (t ∷ []) f old.now
      is_broken before row after is f broken =
          let found = first_none given.rows before row after (subst (AllZip (Sees shown keeps) given.rows) is given.read) in
          let none : ¬ ShowsOf t row = λ s. found.3 ((shows row).1 s) in
          let told = broken none in
          let first : IsFirstFalse t old.now row =
          record {
            before = map shown before;
            after = found.0;
            listed = subst (IsTableListing (kept_of t) old.now) (sym found.1) listing;
            shown = all_show before found.2;
            shows_none = none;
          } in
          record {
            before = [];
            after = [];
            read = ap (λ (u : TableName). u ∷ []) (sym told.of_table);
            whole = All-nil (HasTrueRows old.now);
            there = subst (λ (u : TableName). IsKept old.now.schema (kept_of u)) (sym told.of_table) there;
            row = row;
            first = subst (λ (u : TableName). IsFirstFalse u old.now row) (sym told.of_table) first;
            breaks = subst (λ (u : TableName). BreaksByItself f.rule f.row u row) (sym told.of_table) told.breaks;
          }

-- ---- a read of all rows, as a read of the table

module _ (t : TableName) (sql : List ℕ) (is : sql ≡ list_of t) (old new : State) where
  there : IsKnown (HaveTables (t ∷ [])) old → IsKnown (λ (db : Database). IsKept db.schema (kept_of t)) old
  there known runs = All-head (λ (u : TableName). IsKept old.now.schema (kept_of u)) t [] (known runs)

  -- the text only asks, where the table is there
  pub asks_by : IsKnown (HaveTables (t ∷ [])) old → OnlyAsks sql old
  asks_by known = subst (λ (text : List ℕ). OnlyAsks text old) (sym is) (read.only_asks (lists t).asks (kept_of t) (lists t).stands old (there known))

  none_refused : (rows : List Row) → Any (λ row. ¬ ((λ (r : Row). ⊤) row)) rows → ⊥
  none_refused rows (k, row, within, there, bad) = bad tt

  list_fails : IsKnown (HaveTables (t ∷ [])) old → (why : ReadFault) → FailsToAnswer (λ _. ⊤) (list_of t) [] old new why → FailsToList old new (cause_of why)
  list_fails known (fault.Database e) (inl why) = inl (λ runs. read.fails_plain (lists t).asks (kept_of t) (lists t).stands old new (there known runs) e why)
  list_fails known (fault.Database e) (inr none) = inr (cc, none.1)
  list_fails known fault.Row (bad, same) = absurd (none_refused bad.rows bad.bad)

  -- one that fails
  pub list_stops : {T U : Type 0} (why : ReadFault) (e : Error) → e ≡ cause_of why
      → ReadsOnly {T = T} (OnlyAsks sql) IsUnchanged (FailsToAnswer (λ _. ⊤) sql []) old new (Err why)
      → ReadsOnly {T = U} (IsKnown (HaveTables (t ∷ []))) IsUnchanged (FailsToReadTables (t ∷ [])) old new (Err (Failed e))
  list_stops why e told this = record {
    same = λ _ _. tt;
    kept = λ clean known. this.kept clean (asks_by known);
    mode = this.mode;
    faults = λ clean known. subst (FailsToList old new) (sym told)
        (list_fails known why (subst (λ (text : List ℕ). FailsToAnswer (λ _. ⊤) text [] old new why) is (this.faults clean (asks_by known))));
    survives = λ known. this.survives (asks_by known);
  }

  -- one that succeeds
  module _ {V : Type 0} {v : V} (this : ReadsOnly (OnlyAsks sql) IsUnchanged (FailsToAnswer (λ _. ⊤) sql []) old new (Ok v)) where
    -- what is answered of a list that succeeded left all as it was, and fails for its rows
    pub list_passes : {U : Type 0} (r : Result U AuditFault)
        → (HasCleanDisk new → IsKnown (HaveTables (t ∷ [])) old → IsUnchanged old new → IfErr r (FailsToReadTables (t ∷ []) old new))
        → ReadsOnly (IsKnown (HaveTables (t ∷ []))) IsUnchanged (FailsToReadTables (t ∷ [])) old new r
    list_passes r why = read_into {A = FailsToAnswer (λ _. ⊤) sql []} {x = v} r (read_so asks_by this)
        (λ clean known. why clean known (this.same clean (asks_by known)))

    module _ {T : Type 0} (shown : T → Row) (keeps : T → Type 0) (shows : (row : Row) → ShowsRecord shown keeps row ↔ ShowsOf t row)
        (all : List (Seen T)) (gives : HasCleanDisk new → OnlyAsks sql old → GivesAll (Sees shown keeps) sql [] old new all)
        (clean : HasCleanDisk new) (known : IsKnown (HaveTables (t ∷ [])) old) where
      same : IsUnchanged old new
      same = this.same clean (asks_by known)

      given : GivesAll (Sees shown keeps) (list_of t) [] old new all
      given = subst (λ (text : List ℕ). GivesAll (Sees shown keeps) text [] old new all) is (gives clean (asks_by known))

      -- where all rows were read whole, these are the rows of the table
      pub table_listed : (xs : List T) → all ≡ map seen.Whole xs → AreListed shown keeps (kept_of t) old.now xs
      table_listed = are_listed shown keeps t shows old new (there known same.0.was_open) all given

      -- and each row of the table shows a record
      pub table_true : (xs : List T) → all ≡ map seen.Whole xs → All (HasTrueRows old.now) (t ∷ [])
      table_true xs are = listed_true shown keeps t shows old.now xs (table_listed xs are)

      -- the first false row that a list meets is told of as the first of the table
      pub table_broken : (before : List T) (row : Row) (after : List (Seen T)) → all ≡ map seen.Whole before ++ (seen.False row ∷ after)
          → (f : Finding) → (¬ ShowsOf t row → IsBroken t row f) → FailsToReadTables (t ∷ []) old new (Found f)
      table_broken before row after are f broken = (
        is_broken shown keeps t shows old new (there known same.0.was_open) all given before
            row after are f broken,
        same,
      )
