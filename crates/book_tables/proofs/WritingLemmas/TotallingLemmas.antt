-- What the rows of the running totals are after an upsert of one of them.
use Rattle.std.proofs.Common.{◌≡◌, ◌<◌, ◌+◌, ◌^◌, ◌↔◌, ℕ, ℤ, pos, Bool, true, IsTrue, List, [], ◌∷◌, ◌++◌, drop, map, unwrap_or, Option, Some, None, codes, inl, inr, refl, sym, ap, subst, ◌∙◌, arith}
use Rattle.std.specs.Prelude.{◌==◌}
use Rattle.std.specs.List.{AllByRecursion}
use Rattle.sqlite.specs.Order.{Row}
use Rattle.sqlite.specs.State.{State}
use Rattle.sqlite_value.specs.declared.value.Value.TheVariants.{Int, Null, Text}
use Rattle.sqlite_value.proofs.OrderLemmas.{value_cmp-Int}
use Rattle.sqlite_trees.specs.Tree.{rowid}
use Rattle.sqlite_trees.specs.View.{is_int}
use Rattle.sqlite_keyed.specs.Keyed.{IsKeyedBy, insert_by}
use Rattle.sqlite_keyed.specs.Lists.{update_where}
use Rattle.sqlite_keyed.proofs.KeyedLemmas.{IsKeyedBy-update_where, Less-from_lt}
use Rattle.sqlite_keyed.proofs.ListLemmas.{ascending-map, ascending_weaker}
use Rattle.sqlite_rules.specs.Lists.{Has as Member}
use Rattle.sqlite_schema.specs.declared.schema.Schema.{Schema}
use Rattle.sqlite_schema.specs.declared.schema.Table.{Table}
use Rattle.sts_fields.specs.Base.{year_of}
use Rattle.sts_fields.specs.declared.base.Base.{Base}
use Rattle.one_table.specs.Merges.{StandsForUpserts, TakesUpserts, Touches, Upserts, shown_row}
use Rattle.one_table.specs.Numbered.{IsInOrder}
use Rattle.one_table.specs.Standing.{own_keys, place_in, tree_in}
use Rattle.one_table.specs.Upserting.{Merging, is_of_key}
use Rattle.one_table.proofs.CastLemmas.{cast_int, cast_no_int}
use Rattle.one_table.proofs.HiddenMergeLemmas.{MergesHidden, upserts_hidden}
use Rattle.one_table.proofs.MergeLemmas.{MergesAs, given_numbered, upserts_listed}
use Rattle.one_table.proofs.SameKeyLemmas.{of_number, of_text_and_number}
use Rattle.one_table.proofs.SumLemmas.{cast_sum}
use Rattle.book_tables.specs.Holds.{HoldsOf, IsKept}
use Rattle.book_tables.specs.Kept.{Kept, last_ids_kept, month_tenths_kept, shift_totals_kept}
use Rattle.book_tables.specs.reading.Reading.{IsShown, ShowsRecord}
use Rattle.book_tables.specs.row.Rows.{Rows, last_id_columns, month_columns, number, present_format, shown_number, shown_totals, totals_row}
use Rattle.book_tables.specs.Stands.{AreRowsOf}
use Rattle.book_tables.specs.Tables.{last_ids_table, month_tenths_table, shift_totals_table}
use Rattle.book_tables.specs.row.Values.{AreTotalsValues, IsTid, IsTotal}
use Rattle.book_tables.specs.writing.Writing.{AddsTenths, AddsToShift, HasRoomFor, SetsLastId, is_in_month, is_under, no_totals, one_more, put_under}
use Rattle.book_tables.specs.declared.row.total_records.Tenths.{Tenths}
use Rattle.book_tables.specs.declared.row.total_records.Tid.{Tid}
use Rattle.book_tables.specs.declared.row.totals.Totals.{Totals}
use Rattle.sqlite_rules.specs.declared.error.Rowids.TheVariants.{Chosen}
use Rattle.sqlite_rules.specs.Cast.{cast, cast_row}
use Rattle.sqlite_schema.specs.declared.schema.Kind.TheVariants as kind
use Rattle.sqlite_rules.specs.Edit.{next_rowid, with_rowid}
use Rattle.sqlite_value.specs.declared.value.Value.{Value}
use Rattle.sqlite_value.specs.Order.{column}
use Rattle.one_table.specs.Merges.{given_row, set_row}
use Rattle.book_tables.specs.reading.Reading.{HasAllTables}
use Rattle.book_tables.specs.writing.Keeping.{AreInOrder, KeepsRows, Key, has_key, is_own}
use Rattle.book_tables.proofs.WritingLemmas.KeepingLemmas.{has_values, keeps_merge, number_found, number_kept, own_number_kept, own_of_key, pair_found, pair_kept}
use Rattle.book_tables.proofs.KeptLemmas.{ChangesOnly, last_ids_changed, month_tenths_changed, shift_totals_changed}
use Rattle.book_tables.proofs.OfficeTableLemmas.{IsInOffice, last_ids_in, month_tenths_in, shift_totals_in}
use Rattle.book_tables.proofs.RowLemmas.RecordLemmas.{one_number}
use Rattle.book_tables.proofs.RowsOfLemmas.{few_under, free_under, rows_appended, rows_inserted, rows_updated, same_pair, value_under}
use Rattle.book_tables.proofs.SalesOfLemmas.{tells_month, tells_number, tells_under}
use Rattle.book_tables.proofs.WritingLemmas.TotalsTexts.{last_id_merging, tenths_merging, totals_merging}
use Rattle.book_tables.proofs.WritingLemmas.WriteLemmas.{changes_only, only_one}

-- ---- a value that is put under its key, or made of the one that is there

module _ {K V : Type 0} (stored : K × V → Row) (is_key : K → Bool) (key : K) (tells : (k : K) → (is_key k ≡ true) ↔ (k ≡ key)) (value : V)
    (to : Option V → V) (first : value ≡ to None) (rows : List (K × V)) (has : K → Option V) (are : AreRowsOf rows has) where
  -- whether a row has the key
  abbrev pub picks : K × V → Bool
  picks r = is_key r.0

  -- a row with what is made of its value
  abbrev pub with_next : K × V → K × V
  with_next r = (r.0, to (Some r.1))

  -- the row that is put in where none has the key
  abbrev pub given : K × V
  given = (key, value)

  abbrev after : K × V
  after = (key, to (has key))

  -- where no row has the key
  module _ (none : has key ≡ None) where
    value_is : value ≡ to (has key)
    value_is = first ∙ ap to (sym none)

    given_is : given ≡ after
    given_is = ap (λ (v : V). (key, v)) value_is

  -- where this row has it
  module _ (one : K × V) (member : Member rows one) (meets : picks one ≡ true) where
    some : has key ≡ Some one.1
    some = value_under is_key key tells rows has are one member meets

    next_is : with_next one ≡ after
    next_is = sym (same_pair key (to (has key)) (with_next one) ((tells one.0).0 meets) (ap to (sym some)))

    updated : AreRowsOf (update_where picks with_next rows) (put_under is_key (to (has key)) has)
    updated =
        subst (λ (v : V). AreRowsOf (update_where picks with_next rows) (put_under is_key v has)) (ap to (sym some))
        (rows_updated is_key key tells rows has are one.1 some (λ (v : V). to (Some v)))

  module _ (t : Table) (m : Merging) (params : Row) (old new : State) where
    -- the rows of a table whose numbers are hidden are those with the value under its key, and this
    -- is the key's row
    pub record HiddenAfter (row : Row) : Type 0 where
      pub rest : List (K × V)
      pub columns : map (drop 1) (new.now.trees t.tree) ≡ map stored rest
      pub in_order : IsInOrder (new.now.trees t.tree)
      pub now_are : AreRowsOf rest (put_under is_key (to (has key)) has)
      pub id : ℤ
      pub is : row ≡ Int id ∷ stored after

    -- after an upsert this is so of the rows, and of the row that it wrote
    pub hidden_after : MergesHidden t m params stored given picks with_next rows → map (drop 1) (old.now.trees t.tree) ≡ map stored rows
        → IsInOrder (old.now.trees t.tree) → (row : Row) → Upserts t m params old new row → HiddenAfter row
    hidden_after so hidden order row merged =
        elim (upserts_hidden t m params old new stored given picks with_next rows so hidden order (few_under is_key key tells rows has are) row merged) [
          | inl g ↦
              let none = free_under is_key key tells rows has are g.free in
              record {
                rest = rows ++ given ∷ [];
                columns = ap (map (drop 1)) g.changed.rows_are ∙ g.holds;
                in_order = subst IsInOrder (sym g.changed.rows_are) g.in_order;
                now_are = subst (λ (v : V). AreRowsOf (rows ++ given ∷ []) (put_under is_key v has)) (value_is none)
                    (rows_appended is_key key tells rows has are value none);
                id = g.number;
                is = g.is ∙ ap (λ (r : K × V). Int g.number ∷ stored r) (given_is none);
              }
          | inr s ↦
              record {
                rest = update_where picks with_next rows;
                columns = ap (map (drop 1)) s.changed.rows_are ∙ s.holds;
                in_order = subst IsInOrder (sym s.changed.rows_are) s.in_order;
                now_are = updated s.one s.found s.meets;
                id = s.number;
                is = s.is ∙ ap (λ (r : K × V). Int s.number ∷ stored r) (next_is s.one s.found s.meets);
              }
        ]

-- the same of a table of which the key is the number of a row
module _ {V : Type 0} (stored : ℕ × V → Row) (key : ℕ) (value : V) (to : Option V → V) (first : value ≡ to None) (rows : List (ℕ × V))
    (has : ℕ → Option V) (are : AreRowsOf rows has) (up : IsKeyedBy (λ (r : ℕ × V). pos r.0) rows) where
  abbrev number_of : ℕ × V → ℤ
  number_of r = pos r.0

  -- whether a number is the key
  abbrev pub has_number : ℕ → Bool
  has_number n = n == key

  module _ (t : Table) (m : Merging) (params : Row) (old new : State) where
    pub record NumberedAfter (row : Row) : Type 0 where
      pub rest : List (ℕ × V)
      pub columns : new.now.trees t.tree ≡ map stored rest
      pub now_are : AreRowsOf rest (put_under has_number (to (has key)) has)
      pub in_order : IsKeyedBy (λ (r : ℕ × V). pos r.0) rest
      pub is : row ≡ stored (key, to (has key))

    -- after an upsert this is so of rows by their own numbers
    pub numbered_after : MergesAs t m params (old.now.trees t.tree) (λ (r : ℕ × V). pos r.0) stored (key, value)
        (λ (r : ℕ × V). r.0 == key) (λ (r : ℕ × V). (r.0, to (Some r.1))) rows → old.now.trees t.tree ≡ map stored rows → (row : Row)
        → Upserts t m params old new row → NumberedAfter row
    numbered_after so holds row merged =
        let tells = tells_number key in
        elim (upserts_listed t m params old new number_of stored (key, value)
        (picks stored has_number key tells value to first rows has are)
        (with_next stored has_number key tells value to first rows has are) rows so holds up (few_under has_number key tells rows has are) row merged) [
          | inl g ↦
              let none = free_under has_number key tells rows has are g.free in
              let put = rows_inserted has_number key tells rows has are up value none in
              record {
                rest = insert_by number_of rows (key, value);
                columns = g.changed.rows_are;
                now_are = subst (λ (v : V). AreRowsOf (insert_by number_of rows (key, value)) (put_under has_number v has))
                    (value_is stored has_number key tells value to first rows has are none) put.0;
                in_order = put.1;
                is = g.is ∙ ap stored (given_is stored has_number key tells value to first rows has are none);
              }
          | inr s ↦
              record {
                rest = update_where (λ (r : ℕ × V). r.0 == key) (λ (r : ℕ × V). (r.0, to (Some r.1))) rows;
                columns = s.changed.rows_are;
                now_are = updated stored has_number key tells value to first rows has are s.one s.found s.meets;
                in_order = IsKeyedBy-update_where number_of (λ (r : ℕ × V). r.0 == key) (λ (r : ℕ × V). (r.0, to (Some r.1))) (λ r. refl) rows up;
                is = s.is ∙ ap stored (next_is stored has_number key tells value to first rows has are s.one s.found s.meets);
              }
        ]

-- ---- the tables

-- a column can hold what an office's totals are
pub total_fits : (n : ℕ) → IsTotal n → n < 2 ^ 63
total_fits n small = omega (arith, small)

-- and columns can hold the totals of a shift
pub totals_fit : (t : Totals) → AreTotalsValues t → HasRoomFor t
totals_fit t small = (total_fits t.sales small.sales, total_fits t.tenths small.tenths, total_fits t.cash small.cash)

numbers_all : (rows : List (ℕ × Totals)) → AllByRecursion (λ r. IsTrue (is_int (rowid r))) (map totals_row rows)
numbers_all [] = tt
numbers_all (r ∷ rows) = (refl, numbers_all rows)

-- rows by the numbers of the shifts are in order
in_order : (rows : List (ℕ × Totals)) → IsKeyedBy (λ (r : ℕ × Totals). pos r.0) rows → IsInOrder (map totals_row rows)
in_order rows up = record {
  rises = ascending-map _ totals_row rows (ascending_weaker _ _ (λ a b h. value_cmp-Int _ _ ∙ Less-from_lt _ _ h) rows up);
  are_numbers = numbers_all rows;
}

-- a table of the office stands as an upsert asks of it
pub stands_for : (k : Kept) (s : Schema) → IsKept s k → StandsForUpserts s (place_in s k.table.name) (record k.table { tree = tree_in s k.table.name })
stands_for k s has = record { has = has.0.has; keys = has.0.keys; left_alone = has.1 }

takes : (k : Kept) (s : State) → IsKept s.now.schema k → IsInOrder (s.now.trees (tree_in s.now.schema k.table.name))
    → TakesUpserts s.now (place_in s.now.schema k.table.name) (record k.table { tree = tree_in s.now.schema k.table.name })
takes k s has order = record { has = has.0.has; keys = has.0.keys; left_alone = has.1; in_order = order }

-- what is upserted is so on an open connection
was_open : {t : Table} {m : Merging} {params : Row} {old new : State} {row : Row} → Upserts t m params old new row → IsTrue old.is_open
was_open (inl g) = g.puts.changed.inside.was_open
was_open (inr s) = s.changed.inside.was_open

-- where the row that is given has the values of a key, those that it finds have the key, and what is set keeps it, all other rows stay
keeps_total : (key : Key) (old new : State) (k : Kept) → IsInOffice k → HasAllTables old → (m : Merging) (params row given : Row)
    → Upserts (record k.table { tree = tree_in old.now.schema k.table.name }) m params old new row → ChangesOnly k.table.name old.now new.now
    → given_row k.table m params (old.now.trees (tree_in old.now.schema k.table.name)) ≡ given
    → AllByRecursion (λ part. column (cast_row k.table given) part.0 ≡ part.1) key → IsTrue (is_int (rowid (cast_row k.table given)))
    → ((r : Row) → is_of_key (own_keys k.table) m.key given r ≡ true → is_own ((k.table.name, key) ∷ []) k.table.name r ≡ true)
    → ((r : Row) → IsTrue (is_int (rowid r)) → is_own ((k.table.name, key) ∷ []) k.table.name r ≡ true
    → (is_own ((k.table.name, key) ∷ []) k.table.name (set_row k.table m params (old.now.trees (tree_in old.now.schema k.table.name)) r) ≡ true)
    × (rowid (set_row k.table m params (old.now.trees (tree_in old.now.schema k.table.name)) r) ≡ rowid r))
    → AreInOrder (k.table.name ∷ []) old.now → KeepsRows ((k.table.name, key) ∷ []) old.now new.now
keeps_total key old new k k_in has m params row given merged only is values is_number found kept =
    keeps_merge ((k.table.name, key) ∷ []) old new k k_in has m params row merged only (was_open merged)
    (own_of_key k.table.name key (cast_row k.table (given_row k.table m params (old.now.trees (tree_in old.now.schema k.table.name))))
    (ap (λ (r : Row). has_key key (cast_row k.table r)) is ∙ has_values key (cast_row k.table given) values))
    (subst (λ (r : Row). IsTrue (is_int (rowid (cast_row k.table r)))) (sym is) is_number)
    (λ r meets. found r (subst (λ (g : Row). is_of_key (own_keys k.table) m.key g r ≡ true) is meets)) kept

-- a row whose number SQLite chose has one
chosen_number : (n : ℤ) → IsTrue (is_int (cast kind.Integer (Int n)))
chosen_number n = subst (λ (v : Value). IsTrue (is_int v)) (sym (cast_int n)) refl

module _ (old new : State) where
  -- ---- the last identifier of a meter under a base

  -- the table of last identifiers
  abbrev pub last_ids : Table
  last_ids = last_ids_table (tree_in old.now.schema (codes "last_ids"))

  -- its place in the schema
  abbrev pub last_ids_at : ℕ
  last_ids_at = place_in old.now.schema (codes "last_ids")

  module _ (meter : List ℕ) (base : Base) (tid : ℕ) where
    abbrev base_key : List ℕ × Base
    base_key = (meter, base)

    sets_tid : (rows : List ((List ℕ × Base) × ℕ))
        → MergesHidden last_ids last_id_merging (last_id_columns (base_key, tid)) last_id_columns (base_key, tid)
        (λ (r : (List ℕ × Base) × ℕ). is_under base_key r.0) (λ (r : (List ℕ × Base) × ℕ). (r.0, tid)) rows
    sets_tid rows = record {
      source = rw (cast_no_int, cast_int (pos (year_of base)), cast_int (pos tid)) refl;
      fits = rw (cast_int (pos (year_of base)), cast_int (pos tid)) refl;
      meets = λ id n r. of_text_and_number meter r.0.0 (year_of base) (year_of r.0.1) id n (number tid ∷ []) (number r.1 ∷ []);
      becomes = λ id n r there met. rw (cast_int n, cast_int (pos (year_of r.0.1)), cast_int (pos tid)) refl;
    }

    module _ (params : Row) (bound : params ≡ last_id_columns (base_key, tid)) (format : ℕ) (rows : Rows)
        (held : IsTrue old.is_open → HoldsOf present_format format old.now rows) (has : (List ℕ × Base) → Option ℕ) (are : AreRowsOf rows.last_ids has) where
      -- where the tables hold these rows, that of last identifiers takes upserts
      pub takes_last_id : IsTrue old.is_open → TakesUpserts old.now last_ids_at last_ids
      takes_last_id runs = takes last_ids_kept old (last_ids_in.there old.now.schema (held runs).has) (last_ids_in.holds format old.now rows (held runs)).1

      last_id_after : (row : Row) → Upserts last_ids last_id_merging params old new row
          → HiddenAfter last_id_columns (is_under base_key) base_key (tells_under base_key) tid (λ o. tid) refl rows.last_ids has are
          last_ids last_id_merging params old new row
      last_id_after row merged =
          let hidden = last_ids_in.holds format old.now rows (held (was_open merged)) in
          hidden_after last_id_columns (is_under base_key) base_key (tells_under base_key) tid (λ o. tid) refl rows.last_ids has are
          last_ids last_id_merging params old new
          (subst (λ (p : Row). MergesHidden last_ids last_id_merging p last_id_columns (base_key, tid)
          (λ (r : (List ℕ × Base) × ℕ). is_under base_key r.0) (λ (r : (List ℕ × Base) × ℕ). (r.0, tid)) rows.last_ids) (sym bound)
          (sets_tid rows.last_ids))
          hidden.0 hidden.1 row merged

      -- what comes back of the row is the identifier that was given
      pub tid_shown : (row : Row) → Upserts last_ids last_id_merging params old new row → shown_row last_ids last_id_merging params row ≡ shown_number tid
      tid_shown row merged = ap (λ (p : Row). shown_row last_ids last_id_merging p row) bound
          ∙ ap (shown_row last_ids last_id_merging (last_id_columns (base_key, tid))) (last_id_after row merged).is

      -- what comes back is no false row
      pub tid_is_shown : IsTid tid → ((row : Row) × (¬ ShowsRecord (λ (t : Tid). shown_number t.number) (λ (t : Tid). IsTid t.number)
          (shown_row last_ids last_id_merging params row)) × Upserts last_ids last_id_merging params old new row) → ⊥
      tid_is_shown small (row, unread, merged) = unread (record { number = tid }, (sym (tid_shown row merged), small))

    -- after the upsert, the last identifier of the meter under the base is this one
    pub sets_last_id : HasAllTables old → (params : Row) → params ≡ last_id_columns (base_key, tid) → Touches last_ids last_id_merging params old new
        → ((IsTrue old.is_open → TakesUpserts old.now last_ids_at last_ids) → (row : Row)
        × Upserts last_ids last_id_merging params old new row) → SetsLastId base_key tid old new
    sets_last_id has_all params bound touches merged =
        let only = only_one (codes "last_ids") last_ids touches.0 old new refl touches.1 in
        record {
          only = only;
          kept = λ order.
              let it = merged (λ runs. takes last_ids_kept old (last_ids_in.there old.now.schema (has_all runs)) order.0) in
              let given = with_rowid Chosen (old.now.trees last_ids.tree) (Null ∷ last_id_columns (base_key, tid)) in
              keeps_total ((1, Text meter) ∷ (2, Int (pos (year_of base))) ∷ []) old new last_ids_kept last_ids_in has_all
              last_id_merging params it.0 given it.1 (changes_only (codes "last_ids") old new only)
              (ap (λ (p : Row). given_row last_ids last_id_merging p (old.now.trees last_ids.tree)) bound
              ∙ ap (with_rowid Chosen (old.now.trees last_ids.tree)) ((sets_tid []).source))
              (refl, (cast_int (pos (year_of base)), tt)) (chosen_number (next_rowid (old.now.trees last_ids.tree)))
              (λ r found. pair_found (codes "last_ids") meter (year_of base) given r refl refl found)
              (λ r is_number own. (
                pair_kept (codes "last_ids") meter (year_of base) r
                    (set_row last_ids last_id_merging params (old.now.trees last_ids.tree) r) refl refl own,
                number_kept (rowid r) is_number,
              )) order;
          rows = λ format rows has held are.
              let it = merged (takes_last_id params bound format rows (λ _. held) has are) in
              let after = last_id_after params bound format rows (λ _. held) has are it.0 it.1 in (
                after.rest,
                last_ids_changed format old.now new.now rows held after.rest (changes_only (codes "last_ids") old new only)
                    after.columns after.in_order,
                after.now_are,
              );
        }

  -- ---- the tenths of a meter in a month

  -- the table of the tenths of months
  abbrev pub month_tenths : Table
  month_tenths = month_tenths_table (tree_in old.now.schema (codes "month_tenths"))

  -- its place in the schema
  abbrev pub month_tenths_at : ℕ
  month_tenths_at = place_in old.now.schema (codes "month_tenths")

  module _ (meter : List ℕ) (month tenths : ℕ) where
    abbrev month_key : List ℕ × ℕ
    month_key = (meter, month)

    abbrev sum_of : Option ℕ → ℕ
    sum_of o = unwrap_or o 0 + tenths

    abbrev is_that_month : (List ℕ × ℕ) × ℕ → Bool
    is_that_month r = is_in_month month_key r.0

    adds_these : (rows : List ((List ℕ × ℕ) × ℕ)) → ((r : (List ℕ × ℕ) × ℕ) → Member rows r → is_that_month r ≡ true → r.1 + tenths < 2 ^ 63)
        → MergesHidden month_tenths tenths_merging (month_columns (month_key, tenths)) month_columns (month_key, tenths) is_that_month
        (λ (r : (List ℕ × ℕ) × ℕ). (r.0, r.1 + tenths)) rows
    adds_these rows low = record {
      source = rw (cast_no_int, cast_int (pos month), cast_int (pos tenths)) refl;
      fits = rw (cast_int (pos month), cast_int (pos tenths)) refl;
      meets = λ id n r. of_text_and_number meter r.0.0 month r.0.1 id n (number tenths ∷ []) (number r.1 ∷ []);
      becomes = λ id n r there met. rw (cast_int n, cast_int (pos r.0.1), cast_sum r.1 tenths (low r there met)) refl;
    }

    module _ (params : Row) (bound : params ≡ month_columns (month_key, tenths)) (format : ℕ) (rows : Rows)
        (held : IsTrue old.is_open → HoldsOf present_format format old.now rows) (has : (List ℕ × ℕ) → Option ℕ)
        (are : AreRowsOf rows.month_tenths has) (low : sum_of (has month_key) < 2 ^ 63) where
      -- where the tables hold these rows, that of the tenths of months takes upserts
      pub takes_tenths : IsTrue old.is_open → TakesUpserts old.now month_tenths_at month_tenths
      takes_tenths runs = takes month_tenths_kept old (month_tenths_in.there old.now.schema (held runs).has)
          (month_tenths_in.holds format old.now rows (held runs)).1

      first_sum : tenths ≡ sum_of None
      first_sum = omega arith

      within : (r : (List ℕ × ℕ) × ℕ) → Member rows.month_tenths r → is_that_month r ≡ true → r.1 + tenths < 2 ^ 63
      within r there met = subst (λ (o : Option ℕ). sum_of o < 2 ^ 63)
          (value_under (is_in_month month_key) month_key (tells_month month_key) rows.month_tenths has are r there met) low

      tenths_after : (row : Row) → Upserts month_tenths tenths_merging params old new row
          → HiddenAfter month_columns (is_in_month month_key) month_key (tells_month month_key) tenths sum_of first_sum rows.month_tenths
          has are month_tenths tenths_merging params old new row
      tenths_after row merged =
          let hidden = month_tenths_in.holds format old.now rows (held (was_open merged)) in
          hidden_after month_columns (is_in_month month_key) month_key (tells_month month_key) tenths sum_of first_sum rows.month_tenths
          has are month_tenths tenths_merging params old new
          (subst (λ (p : Row). MergesHidden month_tenths tenths_merging p month_columns (month_key, tenths) is_that_month
          (λ (r : (List ℕ × ℕ) × ℕ). (r.0, r.1 + tenths)) rows.month_tenths) (sym bound) (adds_these rows.month_tenths within))
          hidden.0 hidden.1 row merged

      -- what comes back of the row is the sum of what it had and what is added
      pub sum_shown : (row : Row) → Upserts month_tenths tenths_merging params old new row
          → shown_row month_tenths tenths_merging params row ≡ shown_number (sum_of (has month_key))
      sum_shown row merged = ap (λ (p : Row). shown_row month_tenths tenths_merging p row) bound
          ∙ ap (shown_row month_tenths tenths_merging (month_columns (month_key, tenths))) (tenths_after row merged).is

      -- where the sum is not too great for an office, what comes back is no false row
      pub sum_is_shown : IsTotal (sum_of (has month_key))
          → ((row : Row) × (¬ ShowsRecord (λ (t : Tenths). shown_number t.sum) (λ (t : Tenths). IsTotal t.sum)
          (shown_row month_tenths tenths_merging params row)) × Upserts month_tenths tenths_merging params old new row) → ⊥
      sum_is_shown small (row, unread, merged) = unread (record { sum = sum_of (has month_key) }, (sym (sum_shown row merged), small))

    -- after the upsert, the tenths of the meter in the month are more by these
    pub adds_tenths : HasAllTables old → (shown : Tenths) (params : Row) → params ≡ month_columns (month_key, tenths)
        → Touches month_tenths tenths_merging params old new
        → ((IsTrue old.is_open → TakesUpserts old.now month_tenths_at month_tenths) → (row : Row)
        × IsShown (λ (t : Tenths). shown_number t.sum) (λ (t : Tenths). IsTotal t.sum) (shown_row month_tenths tenths_merging params row) shown
        × Upserts month_tenths tenths_merging params old new row) → AddsTenths month_key tenths shown.sum old new
    adds_tenths has_all shown params bound touches merged =
        let only = only_one (codes "month_tenths") month_tenths touches.0 old new refl touches.1 in
        record {
          only = only;
          kept = λ order.
              let it = merged (λ runs. takes month_tenths_kept old (month_tenths_in.there old.now.schema (has_all runs)) order.0) in
              let given = with_rowid Chosen (old.now.trees month_tenths.tree) (Null ∷ month_columns (month_key, tenths)) in
              keeps_total ((1, Text meter) ∷ (2, Int (pos month)) ∷ []) old new month_tenths_kept month_tenths_in has_all
              tenths_merging params it.0 given it.2 (changes_only (codes "month_tenths") old new only)
              (ap (λ (p : Row). given_row month_tenths tenths_merging p (old.now.trees month_tenths.tree)) bound
              ∙ ap (with_rowid Chosen (old.now.trees month_tenths.tree)) ((adds_these [] (λ r none met. absurd none)).source))
              (refl, (cast_int (pos month), tt)) (chosen_number (next_rowid (old.now.trees month_tenths.tree)))
              (λ r found. pair_found (codes "month_tenths") meter month given r refl refl found)
              (λ r is_number own. (
                pair_kept (codes "month_tenths") meter month r
                    (set_row month_tenths tenths_merging params (old.now.trees month_tenths.tree) r) refl refl own,
                number_kept (rowid r) is_number,
              )) order;
          rows = λ format rows has held are low.
              let it = merged (takes_tenths params bound format rows (λ _. held) has are low) in
              let after = tenths_after params bound format rows (λ _. held) has are low it.0 it.2 in (
                after.rest,
                month_tenths_changed format old.now new.now rows held after.rest (changes_only (codes "month_tenths") old new only)
                    after.columns after.in_order,
                after.now_are,
                one_number shown.sum (sum_of (has month_key)) (it.1.0 ∙ sum_shown params bound format rows (λ _. held) has are low it.0 it.2),
              );
        }

  -- ---- the totals of a shift

  -- the table of the totals of shifts
  abbrev pub shift_totals : Table
  shift_totals = shift_totals_table (tree_in old.now.schema (codes "shift_totals"))

  -- its place in the schema
  abbrev pub shift_totals_at : ℕ
  shift_totals_at = place_in old.now.schema (codes "shift_totals")

  module _ (shift tenths price : ℕ) where
    abbrev totals_after : Option Totals → Totals
    totals_after o = one_more tenths price (unwrap_or o no_totals)

    abbrev first_totals : Totals
    first_totals = record { sales = 1; tenths = tenths; cash = price }

    abbrev sale_params : Row
    sale_params = number shift ∷ number tenths ∷ number price ∷ []

    is_first : first_totals ≡ totals_after None
    is_first =
        let all_tenths : tenths ≡ 0 + tenths = omega arith in
        let all_cash : price ≡ 0 + price = omega arith in
        ap (λ (n : ℕ). let t : Totals = record { sales = 1; tenths = n; cash = price } in t) all_tenths
        ∙ ap (λ (n : ℕ). let t : Totals = record { sales = 1; tenths = 0 + tenths; cash = n } in t) all_cash

    adds_one : (rows : List (ℕ × Totals)) → ((r : ℕ × Totals) → Member rows r → (r.0 == shift) ≡ true → HasRoomFor (one_more tenths price r.1))
        → MergesAs shift_totals totals_merging sale_params (old.now.trees shift_totals.tree) (λ (r : ℕ × Totals). pos r.0) totals_row
        (shift, first_totals) (λ (r : ℕ × Totals). r.0 == shift) (λ (r : ℕ × Totals). (r.0, one_more tenths price r.1)) rows
    adds_one rows low = record {
      keyed = λ r. refl;
      gives = given_numbered shift_totals totals_merging sale_params (totals_row (shift, first_totals)) (pos shift)
          (rw (cast_int (pos shift), cast_no_int, cast_int (pos 1), cast_int (pos tenths), cast_int (pos price)) refl) refl (old.now.trees shift_totals.tree);
      fits = rw (cast_int (pos shift), cast_no_int, cast_int (pos 1), cast_int (pos tenths), cast_int (pos price)) refl;
      meets = λ r. of_number shift r.0 (Null ∷ number 1 ∷ number tenths ∷ number price ∷ [])
          (Null ∷ number r.1.sales ∷ number r.1.tenths ∷ number r.1.cash ∷ []);
      becomes = λ r there met. let room = low r there met in
          rw (cast_int (pos r.0), cast_no_int, cast_sum r.1.sales 1 room.0, cast_sum r.1.tenths tenths room.1, cast_sum r.1.cash price room.2) refl;
      stays = λ r. refl;
    }

    one_shown : (a b : Totals) → shown_totals a ≡ shown_totals b → a ≡ b
    one_shown a b same =
        let A : Totals = record { sales = a.sales; tenths = a.tenths; cash = a.cash } in
        let B : Totals = record { sales = b.sales; tenths = b.tenths; cash = b.cash } in
        let is : A ≡ B = cc in
        is

    module _ (params : Row) (bound : params ≡ sale_params) (format : ℕ) (rows : Rows)
        (held : IsTrue old.is_open → HoldsOf present_format format old.now rows) (has : ℕ → Option Totals)
        (are : AreRowsOf rows.shift_totals has) (up : IsKeyedBy (λ (r : ℕ × Totals). pos r.0) rows.shift_totals)
        (room : HasRoomFor (totals_after (has shift))) where
      -- where the tables hold these rows, that of the totals of shifts takes upserts
      pub takes_totals : IsTrue old.is_open → TakesUpserts old.now shift_totals_at shift_totals
      takes_totals runs = takes shift_totals_kept old (shift_totals_in.there old.now.schema (held runs).has)
          (subst IsInOrder (sym (shift_totals_in.holds format old.now rows (held runs))) (in_order rows.shift_totals up))

      within_room : (r : ℕ × Totals) → Member rows.shift_totals r → (r.0 == shift) ≡ true → HasRoomFor (one_more tenths price r.1)
      within_room r there met = subst (λ (o : Option Totals). HasRoomFor (totals_after o))
          (value_under (λ n. n == shift) shift (tells_number shift) rows.shift_totals has are r there met) room

      shift_after : (row : Row) → Upserts shift_totals totals_merging params old new row
          → NumberedAfter totals_row shift first_totals totals_after is_first rows.shift_totals has are up shift_totals totals_merging params old new row
      shift_after row merged =
          numbered_after totals_row shift first_totals totals_after is_first rows.shift_totals has are up shift_totals totals_merging params old new
          (subst (λ (p : Row). MergesAs shift_totals totals_merging p (old.now.trees shift_totals.tree) (λ (r : ℕ × Totals). pos r.0)
          totals_row (shift, first_totals) (λ (r : ℕ × Totals). r.0 == shift) (λ (r : ℕ × Totals). (r.0, one_more tenths price r.1))
          rows.shift_totals) (sym bound) (adds_one rows.shift_totals within_room))
          (shift_totals_in.holds format old.now rows (held (was_open merged))) row merged

      -- what comes back of the row is its totals with one sale more
      pub totals_shown : (row : Row) → Upserts shift_totals totals_merging params old new row
          → shown_row shift_totals totals_merging params row ≡ shown_totals (totals_after (has shift))
      totals_shown row merged = ap (λ (p : Row). shown_row shift_totals totals_merging p row) bound
          ∙ ap (shown_row shift_totals totals_merging sale_params) (shift_after row merged).is

      -- where these are not too great for an office, what comes back is no false row
      pub totals_are_shown : AreTotalsValues (totals_after (has shift))
          → ((row : Row) × (¬ ShowsRecord shown_totals AreTotalsValues (shown_row shift_totals totals_merging params row))
          × Upserts shift_totals totals_merging params old new row) → ⊥
      totals_are_shown small (row, unread, merged) = unread (totals_after (has shift), (sym (totals_shown row merged), small))

    -- after the upsert, the totals of the shift are those with one sale more
    pub adds_to_shift : HasAllTables old → (shown : Totals) (params : Row) → params ≡ sale_params → Touches shift_totals totals_merging params old new
        → ((IsTrue old.is_open → TakesUpserts old.now shift_totals_at shift_totals) → (row : Row)
        × IsShown shown_totals AreTotalsValues (shown_row shift_totals totals_merging params row) shown
        × Upserts shift_totals totals_merging params old new row) → AddsToShift shift tenths price shown old new
    adds_to_shift has_all shown params bound touches merged =
        let only = only_one (codes "shift_totals") shift_totals touches.0 old new refl touches.1 in
        record {
          only = only;
          kept = λ order.
              let it = merged (λ runs. takes shift_totals_kept old (shift_totals_in.there old.now.schema (has_all runs)) order.0) in
              keeps_total ((0, Int (pos shift)) ∷ []) old new shift_totals_kept shift_totals_in has_all totals_merging params it.0
              (totals_row (shift, first_totals)) it.2 (changes_only (codes "shift_totals") old new only)
              (ap (λ (p : Row). given_row shift_totals totals_merging p (old.now.trees shift_totals.tree)) bound
              ∙ (adds_one [] (λ r none met. absurd none)).gives) (cast_int (pos shift), tt) (chosen_number (pos shift))
              (λ r found. number_found (codes "shift_totals") shift (totals_row (shift, first_totals)) r refl found)
              (λ r is_number own. let same = number_kept (rowid r) is_number in (
                own_number_kept (codes "shift_totals") shift r (set_row shift_totals totals_merging params
                    (old.now.trees shift_totals.tree) r) same own,
                same,
              )) order;
          rows = λ format rows has held are up room.
              let it = merged (takes_totals params bound format rows (λ _. held) has are up room) in
              let after = shift_after params bound format rows (λ _. held) has are up room it.0 it.2 in (
                after.rest,
                shift_totals_changed format old.now new.now rows held after.rest (changes_only (codes "shift_totals") old new only) after.columns,
                after.now_are,
                after.in_order,
                one_shown shown (totals_after (has shift)) (it.1.0 ∙ totals_shown params bound format rows (λ _. held) has are up room it.0 it.2),
              );
        }
