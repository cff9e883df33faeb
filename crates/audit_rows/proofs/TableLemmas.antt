-- A table whose rows are known, in some order: what is stored in it.
use Rattle.std.proofs.Common.{IsPermutation, Less, List, None, Option, Some, [], ap, ap₂, arith, drop, false, inl, inr, length, map, nat_le, refl, subst, suc, sym, true, zero, ℕ, ◌+◌, ◌<◌, ◌∙◌, ◌∷◌, ◌≡◌, ◌≢◌, ◌≤◌}
use Rattle.std.proofs.lemmas.Bool.{and_parts, cases_lt, false≢true}
use Rattle.sqlite_schema.specs.Rules.{are_typed, has_computed, passes}
use Rattle.sqlite_schema.specs.declared.schema.Column.{Column}
use Rattle.sqlite_sql.specs.Ops.{is_null}
use Rattle.sqlite_value.specs.Order.{Row, column, value_cmp}
use Rattle.sqlite_value.specs.declared.value.Value.{Value}
use Rattle.sqlite_value.specs.declared.value.Value.TheVariants.{Blob, Int, Null, Real, Text}
use Rattle.audit_rows.specs.Whole.{all_columns, columns_of, places, places_from}
use Rattle.std.specs.List.{AllByRecursion}
use Rattle.sqlite.specs.Effect.{Database, IsDatabase}
use Rattle.sqlite.specs.Order.{Row, column}
use Rattle.sqlite_keyed.proofs.ListLemmas.{all_weaker}
use Rattle.sqlite_schema.specs.declared.schema.Constraint.TheVariants.{Datatype}
use Rattle.sqlite_schema.specs.declared.schema.Table.{Table}
use Rattle.sqlite_trees.proofs.ListLemmas.{ascending-map, ascending_weaker, pull_back}
use Rattle.one_table.specs.Standing.{tree_in}
use Rattle.book_tables.specs.Holds.{AreStoredRows, HasOfficeOf, IsKept, rows_in}
use Rattle.book_tables.specs.Kept.{Kept, kept}
use Rattle.book_tables.specs.row.Rows.{keyed}
use Rattle.book_tables.proofs.KeptLemmas.{listed_holds}
use Rattle.std.proofs.lemmas.Cmp.{on_total}
use Rattle.std.proofs.lemmas.List.Elements.{All-weaker, filter_passes}
use Rattle.std.proofs.lemmas.List.Sorted.{IsPermutation-refl, IsPermutation-sym}
use Rattle.sqlite_keyed.proofs.SortLemmas.{sorted_unique}
use Rattle.sqlite_rules.specs.Lists.{Has as Member}
use Rattle.sqlite_trees.specs.Tree.{IsAscending}
use Rattle.sqlite_value.proofs.OrderLemmas.{value_cmp_total}
use Rattle.one_table.specs.Numbered.{IsInOrder}
use Rattle.book_tables.proofs.HoldsLemmas.{of_upto}
use Rattle.audit_rows.specs.Fails.{HaveTables}
use Rattle.audit_rows.specs.Tables.{kept_of, read_tables, tables_of}
use Rattle.audit_rows.proofs.ByNumberLemmas.{number_first}
use Rattle.audit_rows.specs.declared.table_name.TableName.{TableName}
use Rattle.audit_rows.specs.AllRows.{HasRowsOf}
use Rattle.audit_rows.specs.declared.table_name.TableName.TheVariants as table

-- a row whose values are of the columns' kinds has no more values than columns
pub typed_short : (key : Option ℕ) (at : ℕ) (cs : List Column) (vs : Row) → are_typed key at cs vs ≡ true → length vs ≤ length cs
typed_short key at [] [] typed = omega arith
typed_short key at [] (v ∷ vs) typed = absurd (false≢true typed)
typed_short key at (c ∷ cs) [] typed = omega arith
typed_short key at (c ∷ cs) (v ∷ vs) typed = let rest : length vs ≤ length cs = typed_short key (at + 1) cs vs (and_parts _ _ typed).1 in omega (arith, rest)

drop_step : (at : ℕ) (row : Row) → at < length row → drop at row ≡ column row at ∷ drop (at + 1) row
drop_step at [] low = absurd (omega (arith, low))
drop_step zero (v ∷ row) low = refl
drop_step (suc at) (v ∷ row) low =
    let e : suc at + 1 ≡ suc (at + 1) = omega arith in
    subst (λ (n : ℕ). drop at row ≡ column row at ∷ drop n (v ∷ row)) (sym e) (drop_step at row (omega (arith, low)))

drop_end : (at : ℕ) (row : Row) → length row ≡ at → drop at row ≡ []
drop_end zero [] long = refl
drop_end (suc at) [] long = absurd (omega (arith, long))
drop_end zero (v ∷ row) long = absurd (omega (arith, long))
drop_end (suc at) (v ∷ row) long = drop_end at row (omega (arith, long))

-- the columns from a place on are what is left of the row
pub reads_on : {X : Type 0} (cs : List X) (at : ℕ) (row : Row) → length row ≡ at + length cs → map (column row) (places_from at cs) ≡ drop at row
reads_on [] at row long = sym (drop_end at row (omega (arith, long)))
reads_on (c ∷ cs) at row long = ap (λ (r : Row). column row at ∷ r) (reads_on cs (at + 1) row (omega (arith, long)))
    ∙ sym (drop_step at row (omega (arith, long)))

-- a column that is not NULL is there in the row
pub column_there : (row : Row) (at : ℕ) → column row at ≢ Null → at < length row
column_there [] at some = absurd (some refl)
column_there (v ∷ row) zero some = omega arith
column_there (v ∷ row) (suc at) some = let rest = column_there row at some in omega (arith, rest)

-- a row behind a hidden number, of which the last column is there
pub hidden_whole : (cs : List Column) (row : Row) → are_typed None 0 cs (drop 1 row) ≡ true → column row (length cs) ≢ Null → drop 1 row
    ≡ map (column row) (places_from 1 cs)
hidden_whole cs [] typed some = absurd (some refl)
hidden_whole cs (v ∷ vs) typed some =
    let short = typed_short None 0 cs vs typed in
    let there = column_there (v ∷ vs) (length cs) some in
    sym (reads_on cs 1 (v ∷ vs) (omega (arith, short, there)))

null_of : (v : Value) → is_null v ≡ true → v ≡ Null
null_of Null is = refl
null_of (Int n) is = absurd (false≢true is)
null_of (Real x) is = absurd (false≢true is)
null_of (Text t) is = absurd (false≢true is)
null_of (Blob b) is = absurd (false≢true is)

-- a row behind its own number
pub numbered_whole : (c : Column) (cs : List Column) (row : Row) → are_typed (Some 0) 0 (c ∷ cs) (drop 1 row) ≡ true → length row
    ≡ 2 + length cs → row ≡ column row 0 ∷ Null ∷ map (column row) (places_from 2 cs)
numbered_whole c cs [] typed long = absurd (omega (arith, long))
numbered_whole c cs (n ∷ []) typed long = absurd (omega (arith, long))
numbered_whole c cs (n ∷ v ∷ vs) typed long =
    let null = null_of v (and_parts _ _ typed).0 in
    let rest = reads_on cs 2 (n ∷ v ∷ vs) (omega (arith, long)) in
    ap (λ (x : Value). n ∷ x ∷ vs) null ∙ ap (λ (r : Row). n ∷ Null ∷ r) (sym rest)

-- the same, of which the last column is there
pub numbered_long : (c : Column) (cs : List Column) (row : Row) → are_typed (Some 0) 0 (c ∷ cs) (drop 1 row) ≡ true
    → column row (1 + length cs) ≢ Null → length row ≡ 2 + length cs
numbered_long c cs [] typed some = absurd (some refl)
numbered_long c cs (n ∷ vs) typed some =
    let short = typed_short (Some 0) 0 (c ∷ cs) vs typed in
    let there = column_there (n ∷ vs) (1 + length cs) some in
    omega (arith, short, there)

-- the values of a row are of the kinds of the columns
abbrev pub IsTyped : Table → Row → Type 0
IsTyped t row = are_typed t.key 0 t.columns (drop 1 row) ≡ true

-- the values of each row of a table are of the kinds of its columns
pub rows_typed : (db : Database) (k : Kept) → IsDatabase db → IsKept db.schema k → AllByRecursion (IsTyped k.table) (rows_in db k.table.name)
rows_typed db k sound stands =
    let t : Table = record k.table { tree = tree_in db.schema k.table.name } in
    let kinds = listed_holds (λ (u : Table). AllByRecursion (λ row. passes Datatype db.schema db.trees u row ≡ true) (db.trees u.tree))
    db.schema.tables _ t stands.0.has.listed (sound.obeys.rules Datatype) in
    all_weaker (λ (row : Row). passes Datatype db.schema db.trees t row ≡ true) (IsTyped k.table)
    (λ row kind. (and_parts (are_typed k.table.key 0 k.table.columns (drop 1 row)) (has_computed t row) kind).0) (rows_in db k.table.name) kinds

-- ---- rows behind hidden numbers

module _ {T : Type 0} (k : Kept) (shown : T → Row) (hidden : places k ≡ places_from 1 k.table.columns) (key : k.table.key ≡ None)
    (last : (row : Row) (y : T) → columns_of k row ≡ shown y → column row (length k.table.columns) ≢ Null) where
  each_hidden : (rows : List Row) (ys : List T) → AllByRecursion (IsTyped k.table) rows → map (columns_of k) rows ≡ map shown ys
      → map (drop 1) rows ≡ map shown ys
  each_hidden [] [] typed e = refl
  each_hidden [] (y ∷ ys) typed e = absurd (cc)
  each_hidden (r ∷ rows) [] typed e = absurd (cc)
  each_hidden (r ∷ rows) (y ∷ ys) typed e =
      let first : columns_of k r ≡ shown y = cc in
      let rest : map (columns_of k) rows ≡ map shown ys = cc in
      let whole = hidden_whole k.table.columns r (subst (λ (o : Option ℕ). are_typed o 0 k.table.columns (drop 1 r) ≡ true) key typed.0) (last r y first) in
      ap₂ ◌∷◌ (whole ∙ ap (map (column r)) (sym hidden) ∙ first) (each_hidden rows ys typed.1 rest)

  -- what is stored is the records, in some order
  pub stored_hidden : (db : Database) → IsDatabase db → IsKept db.schema k → (xs : List T)
      → IsPermutation (map shown xs) (all_columns k db) → (ys : List T) × IsPermutation xs ys × (map (drop 1) (rows_in db k.table.name) ≡ map shown ys)
  stored_hidden db sound stands xs same =
      let back = pull_back shown (map shown xs) (all_columns k db) same xs refl in
      (back.0, back.1, each_hidden (rows_in db k.table.name) back.0 (rows_typed db k sound stands) back.2)

-- ---- rows behind their own numbers

module _ {T : Type 0} (k : Kept) (shown : T → Row) (c : Column) (cs : List Column) (columns : k.table.columns ≡ c ∷ cs)
    (numbered : places k ≡ 0 ∷ places_from 2 cs) (key : k.table.key ≡ Some 0) where
  numbered_row : (row : Row) (y : T) → IsTyped k.table row → length row ≡ 2 + length cs → columns_of k row ≡ shown y → row ≡ keyed (shown y)
  numbered_row row y typed long is =
      let kinds : are_typed (Some 0) 0 (c ∷ cs) (drop 1 row) ≡ true =
      subst (λ (l : List Column). are_typed (Some 0) 0 l (drop 1 row) ≡ true) columns
      (subst (λ (o : Option ℕ). are_typed o 0 k.table.columns (drop 1 row) ≡ true) key typed) in
      let all : map (column row) (0 ∷ places_from 2 cs) ≡ shown y = ap (map (column row)) (sym numbered) ∙ is in
      numbered_whole c cs row kinds long ∙ ap keyed all

  -- rows behind numbers of their own are the records that they show, with those numbers
  pub each_numbered : (rows : List Row) (ys : List T) → AllByRecursion (IsTyped k.table) rows
      → AllByRecursion (λ (r : Row). length r ≡ 2 + length cs) rows → map (columns_of k) rows ≡ map shown ys → rows ≡ map (λ y. keyed (shown y)) ys
  each_numbered [] [] typed long e = refl
  each_numbered [] (y ∷ ys) typed long e = absurd (cc)
  each_numbered (r ∷ rows) [] typed long e = absurd (cc)
  each_numbered (r ∷ rows) (y ∷ ys) typed long e =
      let first : columns_of k r ≡ shown y = cc in
      let rest : map (columns_of k) rows ≡ map shown ys = cc in
      ap₂ ◌∷◌ (numbered_row r y typed.0 long.0 first) (each_numbered rows ys typed.1 long.1 rest)

-- each table that is read is among those of an office
pub at : (t : TableName) → Member kept (kept_of t)
at table.Tariffs = inr (inl refl)
at table.TariffSteps = inr (inr (inl refl))
at table.Meters = inr (inr (inr (inl refl)))
at table.Shifts = inr (inr (inr (inr (inl refl))))
at table.Sales = inr (inr (inr (inr (inr (inl refl)))))
at table.LastIds = inr (inr (inr (inr (inr (inr (inl refl))))))
at table.MonthTenths = inr (inr (inr (inr (inr (inr (inr (inl refl)))))))
at table.ShiftTotals = inr (inr (inr (inr (inr (inr (inr (inr (inl refl))))))))
at table.MeterBases = inr (inr (inr (inr (inr (inr (inr (inr (inr (inl refl)))))))))
at table.DatedSteps = inr (inr (inr (inr (inr (inr (inr (inr (inr (inr (inl refl))))))))))

-- the tables of a format are there
pub have_tables : (n : ℕ) (db : Database) → HasOfficeOf n db.schema → HaveTables (tables_of n) db
have_tables n db has = All-weaker (λ (t : TableName). nat_le (kept_of t).since n ≡ true) (λ (t : TableName). IsKept db.schema (kept_of t))
    (λ t come. of_upto (IsKept db.schema) n (kept_of t) kept (at t) come has.tables) (tables_of n)
    (filter_passes (λ (t : TableName). nat_le (kept_of t).since n) read_tables)

-- the rows in the order in which they stand in the table, where the format has it; or as they are
pub record StoredAs {X : Type 0} (n since : ℕ) (k : Kept) (db : Database) (columns : X → Row) (xs : List X) : Type 0 where
  pub rows : List X
  pub same : IsPermutation xs rows
  pub before : n < since → rows ≡ xs
  pub stored : since ≤ n → AreStoredRows false (rows_in db k.table.name) (map columns rows)

-- what is asked of a table from a format on
module _ (n since : ℕ) (db : Database) (sound : IsDatabase db) {X : Type 0} (k : Kept) (columns : X → Row)
    (there : since ≤ n → IsKept db.schema k) (order : since ≤ n → IsInOrder (rows_in db k.table.name)) where
  -- behind hidden numbers
  module _ (hidden : places k ≡ places_from 1 k.table.columns) (key : k.table.key ≡ None)
      (last : (row : Row) (x : X) → columns_of k row ≡ columns x → column row (length k.table.columns) ≢ Null) where
    -- a table of hidden numbers has the listed records, in the order in which they stand
    pub hidden_found : (xs : List X) → (since ≤ n → HasRowsOf columns k db xs) → StoredAs n since k db columns xs
    hidden_found xs has = elim (cases_lt n since) [
      | inl before ↦ record { rows = xs; same = IsPermutation-refl xs; before = λ _. refl; stored = λ come. absurd (omega (arith, before, come)) }
      | inr come ↦
          let found = stored_hidden k columns hidden key last db sound (there come) xs (has come).same in
          record { rows = found.0; same = found.1; before = λ before. absurd (omega (arith, before, come)); stored = λ _. (found.2, order come) }
    ]

-- behind numbers of their own
module _ {X : Type 0} (k : Kept) (columns : X → Row) (is_numbered : k.is_numbered ≡ true) (db : Database) where
  abbrev by_first : Row → Row → Rattle.std.specs.declared.cmp.Ordering.Ordering
  by_first a b = value_cmp (column a 0) (column b 0)

  -- the rows stand in the order of their numbers
  columns_rise : IsInOrder (rows_in db k.table.name) → IsAscending (λ a b. by_first a b ≡ Less) (all_columns k db)
  columns_rise order = ascending-map (λ a b. by_first a b ≡ Less) (columns_of k) (rows_in db k.table.name)
      (ascending_weaker _ (λ a b. by_first (columns_of k a) (columns_of k b) ≡ Less)
      (λ a b below. ap₂ value_cmp (number_first k a is_numbered) (number_first k b is_numbered) ∙ below) (rows_in db k.table.name) order.rises)

  -- the rows of a table in order are those listed by their numbers, as they are listed
  pub numbered_so : IsInOrder (rows_in db k.table.name) → (xs : List X) → HasRowsOf columns k db xs → all_columns k db ≡ map columns xs
  numbered_so order xs has = sym (sorted_unique by_first (on_total (λ (r : Row). column r 0) value_cmp_total) (all_columns k db)
      (map columns xs) (columns_rise order) (IsPermutation-sym (map columns xs) (all_columns k db) has.same) (has.rises is_numbered))

  module _ (sound : IsDatabase db) (stands : IsKept db.schema k) (c : Column) (cs : List Column) (are : k.table.columns ≡ c ∷ cs)
      (numbered : places k ≡ 0 ∷ places_from 2 cs) (key : k.table.key ≡ Some 0) where
    -- no row lacks a column
    abbrev AreLong : List Row → Type 0
    AreLong rows = AllByRecursion (λ (r : Row). length r ≡ 2 + length cs) rows

    each_long : ((row : Row) (x : X) → columns_of k row ≡ columns x → column row (1 + length cs) ≢ Null) → (rows : List Row) (xs : List X)
        → AllByRecursion (IsTyped k.table) rows → map (columns_of k) rows ≡ map columns xs → AreLong rows
    each_long last [] xs typed e = tt
    each_long last (r ∷ rows) [] typed e = absurd (cc)
    each_long last (r ∷ rows) (x ∷ xs) typed e =
        let first : columns_of k r ≡ columns x = cc in
        let rest : map (columns_of k) rows ≡ map columns xs = cc in
        let kinds : are_typed (Some 0) 0 (c ∷ cs) (drop 1 r) ≡ true =
        subst (λ (l : List Column). are_typed (Some 0) 0 l (drop 1 r) ≡ true) are
        (subst (λ (o : Option ℕ). are_typed o 0 k.table.columns (drop 1 r) ≡ true) key typed.0) in
        (numbered_long c cs r kinds (last r x first), each_long last rows xs typed.1 rest)

    -- no row of such a table lacks a column, where each has its last one
    pub long_so : ((row : Row) (x : X) → columns_of k row ≡ columns x → column row (1 + length cs) ≢ Null) → (xs : List X)
        → all_columns k db ≡ map columns xs → AreLong (rows_in db k.table.name)
    long_so last xs e = each_long last (rows_in db k.table.name) xs (rows_typed db k sound stands) e

    -- the stored rows of such a table are the records with their numbers
    pub numbered_stored : (xs : List X) → all_columns k db ≡ map columns xs → AreLong (rows_in db k.table.name) → rows_in db k.table.name
        ≡ map (λ x. keyed (columns x)) xs
    numbered_stored xs e long = each_numbered k columns c cs are numbered key (rows_in db k.table.name) xs (rows_typed db k sound stands) long e
