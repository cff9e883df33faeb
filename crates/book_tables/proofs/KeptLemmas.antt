-- Where the rows of one of the office's tables change, the others stay: what the database then
-- holds.
use Rattle.std.proofs.Common.{◌≡◌, ◌≢◌, ℕ, zero, suc, Bool, true, false, List, [], ◌∷◌, drop, map, Some, refl, sym, ◌∙◌, ap, subst, arith}
use Rattle.std.specs.Prelude.{◌==◌, bytes_eq, codes, find, slice_get}
use Rattle.std.specs.List.{AllByRecursion}
use Rattle.std.proofs.lemmas.Bool.{false≢true}
use Rattle.std.proofs.lemmas.Option.{same_Some}
use Rattle.std.proofs.lemmas.Slice.Eq.{bytes_eq-Decides}
use Rattle.sqlite.specs.Effect.{Database}
use Rattle.sqlite_schema.specs.declared.schema.Schema.{Schema}
use Rattle.sqlite_schema.specs.declared.schema.Table.{Table}
use Rattle.one_table.specs.Numbered.{IsInOrder}
use Rattle.one_table.specs.Standing.{Stands, tree_in}
use Rattle.sts_fields.specs.declared.base.Base.{Base}
use Rattle.office_rules.specs.declared.office.meter.Meter.{Meter}
use Rattle.office_rules.specs.declared.office.sale.Sale.{Sale}
use Rattle.office_rules.specs.declared.office.shift.Shift.{Shift}
use Rattle.book_tables.specs.Holds.{AreStoredRows, HasOffice, HoldsOf, HoldsRows, IsKept, rows_in}
use Rattle.book_tables.specs.Kept.{Kept, about_kept, bases_kept, dated_steps_kept, last_ids_kept, meters_kept, month_tenths_kept, sales_kept, shift_totals_kept, shifts_kept, steps_kept, tariffs_kept, upto}
use Rattle.book_tables.specs.row.Rows.{DatedStepRow, Rows, StepRow, about_rows, base_columns, dated_columns, last_id_columns, meter_columns, month_columns, present_format, sale_row, shift_row, step_columns, tariff_columns, totals_row}
use Rattle.book_tables.specs.declared.row.totals.Totals.{Totals}
use Rattle.book_tables.proofs.OfficeTableLemmas.{IsInOffice, about_in, bases_in, dated_steps_in, last_ids_in, meters_in, month_tenths_in, sales_in, shift_totals_in, shifts_in, steps_in, tariffs_in}

-- only the rows of the table of this name may differ
pub record ChangesOnly (name : List ℕ) (a b : Database) : Type 0 where
  pub schema : b.schema ≡ a.schema
  pub tables : AllByRecursion (λ u. u.tree ≢ tree_in a.schema name → b.trees u.tree ≡ a.trees u.tree) a.schema.tables

-- names that the comparison of their bytes tells apart are not the same
pub names_differ : (a b : List ℕ) → bytes_eq a b ≡ false → a ≢ b
names_differ a b apart same = false≢true (sym apart ∙ (bytes_eq-Decides a b).1 same)

-- what holds of all tables of a list holds of the one at a place
pub listed_holds : (P : Table → Type 0) (ts : List Table) (at : ℕ) (t : Table) → slice_get ts at ≡ Some t → AllByRecursion P ts → P t
listed_holds P [] at t e all = cc
listed_holds P (u ∷ ts) zero t e all = subst P (same_Some u t e) all.0
listed_holds P (u ∷ ts) (suc at) t e all = listed_holds P ts at t e all.1

-- tables of two names have two trees
pub trees_differ : (s : Schema) (t u : Table) → Stands s t → Stands s u → t.name ≢ u.name → tree_in s t.name ≢ tree_in s u.name
trees_differ s t u in_t in_u apart same =
    let t_there : Table = record t { tree = tree_in s t.name } in
    let u_there : Table = record u { tree = tree_in s u.name } in
    let by_tree : Some t_there ≡ Some u_there = sym in_t.has.by_tree ∙ ap (λ (n : ℕ). find (λ v. v.tree == n) s.tables) same ∙ in_u.has.by_tree in
    apart (ap (λ (v : Table). v.name) (same_Some t_there u_there by_tree))

-- the rows of a table of another name
pub rows_kept : (a b : Database) (t changed : Table) → ChangesOnly changed.name a b → Stands a.schema t → Stands a.schema changed
    → t.name ≢ changed.name → rows_in b t.name ≡ rows_in a t.name
rows_kept a b t changed only in_t in_changed apart =
    let t_there : Table = record t { tree = tree_in a.schema t.name } in
    let kept : b.trees (tree_in a.schema t.name) ≡ a.trees (tree_in a.schema t.name) =
    listed_holds (λ u. u.tree ≢ tree_in a.schema changed.name → b.trees u.tree ≡ a.trees u.tree) a.schema.tables _ t_there in_t.has.listed only.tables
    (trees_differ a.schema t changed in_t in_changed apart) in
    ap (λ (s : Schema). b.trees (tree_in s t.name)) only.schema ∙ kept

-- ---- what a database holds where one of its tables is changed

-- a table of the name of the changed one is that one, and of any other the same is stored as before
abbrev IsOrStays : Bool → ℕ → ℕ → Rows → Rows → Kept → Kept → Type 0
IsOrStays true before told rows new k j = j ≡ k
IsOrStays false before told rows new k j = j.stored told new ≡ j.stored before rows

abbrev OthersStay : ℕ → ℕ → Rows → Rows → Kept → Type 0
OthersStay before told rows new k =
    AllByRecursion (λ j. IsOrStays (bytes_eq j.table.name k.table.name) before told rows new k j) (upto present_format)

module _ (before told : ℕ) (a b : Database) (rows new : Rows) (k : Kept) (k_in : IsInOffice k) (only : ChangesOnly k.table.name a b)
    (are : AreStoredRows k.is_numbered (b.trees (tree_in a.schema k.table.name)) (k.stored told new)) where
  now_held : HoldsRows b told new k
  now_held = subst (λ (s : Schema). AreStoredRows k.is_numbered (b.trees (tree_in s k.table.name)) (k.stored told new)) (sym only.schema) are

  held_still : IsKept a.schema k → (j : Kept) → IsKept a.schema j → HoldsRows a before rows j → (is_it : Bool)
      → bytes_eq j.table.name k.table.name ≡ is_it → IsOrStays is_it before told rows new k j → HoldsRows b told new j
  held_still there j stands holds true named is = subst (HoldsRows b told new) (sym is) now_held
  held_still there j stands holds false apart same =
      let kept = rows_kept a b j.table k.table only stands.0 there.0 (names_differ _ _ apart) in
      subst (λ stored. AreStoredRows j.is_numbered (rows_in b j.table.name) stored) (sym same)
      (subst (λ found. AreStoredRows j.is_numbered found (j.stored before rows)) (sym kept) holds)

  all_still : IsKept a.schema k → (ks : List Kept) → AllByRecursion (IsKept a.schema) ks → AllByRecursion (HoldsRows a before rows) ks
      → AllByRecursion (λ j. IsOrStays (bytes_eq j.table.name k.table.name) before told rows new k j) ks → AllByRecursion (HoldsRows b told new) ks
  all_still there [] stand hold stay = tt
  all_still there (j ∷ ks) stand hold stay =
      (held_still there j stand.0 hold.0 (bytes_eq j.table.name k.table.name) refl stay.0, all_still there ks stand.1 hold.1 stay.1)

  -- where one table has the new rows, and each other is as before, the new rows are held
  changed : HoldsOf present_format before a rows → OthersStay before told rows new k → HoldsOf present_format told b new
  changed held stay = record {
    has = subst HasOffice (sym only.schema) held.has;
    are = all_still (k_in.there a.schema held.has) (upto present_format) held.has.tables held.are stay;
    of_format = record { bases = λ older. absurd (omega (arith, older)); dated_steps = λ older. absurd (omega (arith, older)) };
  }

-- ---- the tables of the present format

module _ (told : ℕ) (a b : Database) (rows : Rows) (in_a : HoldsOf present_format told a rows) where
  -- where `tariffs` alone changes, the database holds the same rows but for the tariffs
  pub tariffs_changed : (new : List (List ℕ)) → ChangesOnly (codes "tariffs") a b
      → map (drop 1) (b.trees (tree_in a.schema (codes "tariffs"))) ≡ map tariff_columns new
      → IsInOrder (b.trees (tree_in a.schema (codes "tariffs"))) → HoldsOf present_format told b (record rows { tariffs = new })
  tariffs_changed new only are order =
      changed told told a b rows (record rows { tariffs = new }) tariffs_kept tariffs_in only (are, order) in_a search

  -- the same of `tariff_steps` and the steps of the tariffs
  pub steps_changed : (new : List StepRow) → ChangesOnly (codes "tariff_steps") a b
      → map (drop 1) (b.trees (tree_in a.schema (codes "tariff_steps"))) ≡ map step_columns new
      → IsInOrder (b.trees (tree_in a.schema (codes "tariff_steps"))) → HoldsOf present_format told b (record rows { steps = new })
  steps_changed new only are order =
      changed told told a b rows (record rows { steps = new }) steps_kept steps_in only (are, order) in_a search

  -- the same of `meters` and the meters
  pub meters_changed : (new : List (List ℕ × Meter)) → ChangesOnly (codes "meters") a b
      → map (drop 1) (b.trees (tree_in a.schema (codes "meters"))) ≡ map meter_columns new
      → IsInOrder (b.trees (tree_in a.schema (codes "meters"))) → HoldsOf present_format told b (record rows { meters = new })
  meters_changed new only are order =
      changed told told a b rows (record rows { meters = new }) meters_kept meters_in only (are, order) in_a search

  -- the same of `shifts`, whose rows have numbers of their own, and the shifts
  pub shifts_changed : (new : List Shift) → ChangesOnly (codes "shifts") a b → b.trees (tree_in a.schema (codes "shifts"))
      ≡ map shift_row new → HoldsOf present_format told b (record rows { shifts = new })
  shifts_changed new only are =
      changed told told a b rows (record rows { shifts = new }) shifts_kept shifts_in only are in_a search

  -- the same of `sales`, whose rows have numbers of their own, and the sales
  pub sales_changed : (new : List Sale) → ChangesOnly (codes "sales") a b → b.trees (tree_in a.schema (codes "sales")) ≡ map sale_row new
      → HoldsOf present_format told b (record rows { sales = new })
  sales_changed new only are =
      changed told told a b rows (record rows { sales = new }) sales_kept sales_in only are in_a search

  -- the same of `last_ids` and the last identifiers
  pub last_ids_changed : (new : List ((List ℕ × Base) × ℕ)) → ChangesOnly (codes "last_ids") a b
      → map (drop 1) (b.trees (tree_in a.schema (codes "last_ids"))) ≡ map last_id_columns new
      → IsInOrder (b.trees (tree_in a.schema (codes "last_ids"))) → HoldsOf present_format told b (record rows { last_ids = new })
  last_ids_changed new only are order =
      changed told told a b rows (record rows { last_ids = new }) last_ids_kept last_ids_in only (are, order) in_a search

  -- the same of `month_tenths` and the sums of the months
  pub month_tenths_changed : (new : List ((List ℕ × ℕ) × ℕ)) → ChangesOnly (codes "month_tenths") a b
      → map (drop 1) (b.trees (tree_in a.schema (codes "month_tenths"))) ≡ map month_columns new
      → IsInOrder (b.trees (tree_in a.schema (codes "month_tenths"))) → HoldsOf present_format told b (record rows { month_tenths = new })
  month_tenths_changed new only are order =
      changed told told a b rows (record rows { month_tenths = new }) month_tenths_kept month_tenths_in only (are, order) in_a search

  -- the same of `shift_totals`, whose rows have the numbers of the shifts, and the totals
  pub shift_totals_changed : (new : List (ℕ × Totals)) → ChangesOnly (codes "shift_totals") a b
      → b.trees (tree_in a.schema (codes "shift_totals")) ≡ map totals_row new → HoldsOf present_format told b (record rows { shift_totals = new })
  shift_totals_changed new only are =
      changed told told a b rows (record rows { shift_totals = new }) shift_totals_kept shift_totals_in only are in_a search

  -- the same of `meter_bases` and the bases that the meters had
  pub bases_changed : (new : List (List ℕ × Base)) → ChangesOnly (codes "meter_bases") a b
      → map (drop 1) (b.trees (tree_in a.schema (codes "meter_bases"))) ≡ map base_columns new
      → IsInOrder (b.trees (tree_in a.schema (codes "meter_bases"))) → HoldsOf present_format told b (record rows { bases = new })
  bases_changed new only are order =
      changed told told a b rows (record rows { bases = new }) bases_kept bases_in only (are, order) in_a search

  -- the same of `dated_steps` and the steps of later days
  pub dated_steps_changed : (new : List DatedStepRow) → ChangesOnly (codes "dated_steps") a b
      → map (drop 1) (b.trees (tree_in a.schema (codes "dated_steps"))) ≡ map dated_columns new
      → IsInOrder (b.trees (tree_in a.schema (codes "dated_steps"))) → HoldsOf present_format told b (record rows { dated_steps = new })
  dated_steps_changed new only are order =
      changed told told a b rows (record rows { dated_steps = new }) dated_steps_kept dated_steps_in only (are, order) in_a search

-- `about` tells the present format, whatever it told before
pub about_changed : (before : ℕ) (a b : Database) (rows : Rows) → HoldsOf present_format before a rows → ChangesOnly (codes "about") a b
    → b.trees (tree_in a.schema (codes "about")) ≡ about_rows present_format → HoldsOf present_format present_format b rows
about_changed before a b rows in_a only is =
    changed before present_format a b rows rows about_kept about_in only is in_a search
