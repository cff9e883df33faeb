-- A database stands for at most one office.
use Rattle.std.proofs.Common.{◌≡◌, ◌≤◌, ◌<◌, ℕ, arith, inl, inr, Bool, true, false, List, [], ◌∷◌, filter, map, nat_le, refl, sym, ◌∙◌, ap, subst, cond}
use Rattle.std.specs.Prelude.{◌&&◌, ◌||◌, Contains, is_some, not}
use Rattle.std.specs.List.{AllByRecursion, list_all}
use Rattle.std.proofs.lemmas.Bool.{cases_lt, false≢true, le-leb, lt-leb}
use Rattle.sqlite.specs.Effect.{Database}
use Rattle.sqlite_catalog.specs.Change.{is_used}
use Rattle.sqlite_rules.specs.Lists.{Has as Member}
use Rattle.sqlite_schema.specs.Names.{table_named}
use Rattle.sqlite_schema.specs.declared.schema.Schema.{Schema}
use Rattle.office_rules.specs.Office.{IsOffice, Office, empty_office}
use Rattle.office_rules.proofs.OfficeLemmas.{empty_is_office}
use Rattle.office_rules.specs.declared.office.meter.Meter.{Meter}
use Rattle.book_tables.specs.Holds.{HasOfficeOf, HoldsMembers, HoldsMembersOf, HoldsOf, HoldsRows, IsKept, IsUntaken, StandsFor}
use Rattle.book_tables.specs.writing.Edited.{no_rows}
use Rattle.book_tables.specs.Kept.{Kept, bases_kept, dated_steps_kept, kept, kept_names, last_ids_kept, later, meters_kept, sales_kept, shifts_kept, steps_kept, tariffs_kept}
use Rattle.book_tables.specs.row.Rows.{Rows, base_columns, dated_columns, meter_columns, present_format, sale_row, shift_row, step_columns, tariff_columns}
use Rattle.book_tables.specs.Stands.{AreMembersOf}
use Rattle.book_tables.specs.row.Values.{IsKey}
use Rattle.book_tables.proofs.EachTableLemmas.{each_there}
use Rattle.book_tables.proofs.WritingLemmas.EditLemmas.{no_members}
use Rattle.book_tables.proofs.ListLemmas.{contains_first, contains_further}
use Rattle.book_tables.proofs.MemberLemmas.{SameMembers, one_office}
use Rattle.book_tables.proofs.RowLemmas.RecordLemmas.{one_base_row, one_dated, one_list, one_meter, one_sale, one_shift, one_step, one_tariff}

-- meters whose keys have 64 bits are told by what is stored of them
one_meters : (xs ys : List (List ℕ × Meter)) → ((m : List ℕ × Meter) → Contains xs m → IsKey m.1.key)
    → ((m : List ℕ × Meter) → Contains ys m → IsKey m.1.key) → map meter_columns xs ≡ map meter_columns ys → xs ≡ ys
one_meters [] [] small_x small_y e = refl
one_meters [] (y ∷ ys) small_x small_y e = cc
one_meters (x ∷ xs) [] small_x small_y e = cc
one_meters (x ∷ xs) (y ∷ ys) small_x small_y e =
    let head : meter_columns x ≡ meter_columns y = cc in
    let tail : map meter_columns xs ≡ map meter_columns ys = cc in
    let first = one_meter x y (small_x x (contains_first x xs)) (small_y y (contains_first y ys)) head in
    let rest = one_meters xs ys (λ m there. small_x m (contains_further x m xs there)) (λ m there. small_y m (contains_further y m ys there)) tail in
    cc

small_keys : (rows : Rows) (o : Office) → IsOffice o → AreMembersOf rows o → (m : List ℕ × Meter) → Contains rows.meters m → IsKey m.1.key
small_keys rows o office are m there = (office.meters m.0 m.1 ((are.meters m.0 m.1).1 there)).key

first_true : (x y : Bool) → (x && y) ≡ true → x ≡ true
first_true true y e = refl
first_true false y e = absurd (false≢true e)

second_true : (x y : Bool) → (x && y) ≡ true → y ≡ true
second_true true y e = e
second_true false y e = absurd (false≢true e)

first_is_enough : (x y z : Bool) → x ≡ true → (x || y || z) ≡ true
first_is_enough true y z e = refl
first_is_enough false y z e = absurd (false≢true e)

-- ---- the tables of a format, by the list of all

-- what holds of the tables of a format holds of each that came up to it
of_first : (P : Kept → Type 0) (n : ℕ) (k j : Kept) (ks : List Kept) (b : Bool) → nat_le j.since n ≡ b
    → AllByRecursion P (cond b (j ∷ filter (λ k. nat_le k.since n) ks) (filter (λ k. nat_le k.since n) ks)) → Member (j ∷ ks) k → nat_le k.since n ≡ true
    → (Member ks k → AllByRecursion P (filter (λ k. nat_le k.since n) ks) → P k) → P k
of_first P n k j ks true is all (inl same) came rest = subst P (sym same) all.0
of_first P n k j ks true is all (inr later) came rest = rest later all.1
of_first P n k j ks false is all (inl same) came rest = absurd (false≢true (sym is ∙ ap (λ (k : Kept). nat_le k.since n) (sym same) ∙ came))
of_first P n k j ks false is all (inr later) came rest = rest later all

-- what holds of all tables of a format holds of each table that came by that format
pub of_upto : (P : Kept → Type 0) (n : ℕ) (k : Kept) (ks : List Kept) → Member ks k → nat_le k.since n ≡ true
    → AllByRecursion P (filter (λ k. nat_le k.since n) ks) → P k
of_upto P n k [] there came all = absurd there
of_upto P n k (j ∷ ks) there came all = of_first P n k j ks (nat_le j.since n) refl all there came (λ later rest. of_upto P n k ks later came rest)

-- and the name of each that came later is free
abbrev AreFree : Schema → List Kept → Type 0
AreFree s ks = list_all (λ name. not (is_used s name)) (kept_names ks) ≡ true

free_first : (s : Schema) (n : ℕ) (k j : Kept) (ks : List Kept) (b : Bool) → nat_le j.since n ≡ b
    → AreFree s (cond (not b) (j ∷ filter (λ k. not (nat_le k.since n)) ks) (filter (λ k. not (nat_le k.since n)) ks)) → Member (j ∷ ks) k
    → nat_le k.since n ≡ false
    → (Member ks k → AreFree s (filter (λ k. not (nat_le k.since n)) ks) → not (is_used s k.table.name) ≡ true) → not (is_used s k.table.name) ≡ true
free_first s n k j ks true is free (inl same) later rest = absurd (false≢true (sym later ∙ ap (λ (k : Kept). nat_le k.since n) same ∙ is))
free_first s n k j ks true is free (inr there) later rest = rest there free
free_first s n k j ks false is free (inl same) later rest = ap (λ (k : Kept). not (is_used s k.table.name)) same ∙ first_true _ _ free
free_first s n k j ks false is free (inr there) later rest = rest there (second_true _ _ free)

-- a table that comes after a format has a free name, where all such tables have
pub free_later : (s : Schema) (n : ℕ) (k : Kept) (ks : List Kept) → Member ks k → nat_le k.since n ≡ false
    → AreFree s (filter (λ k. not (nat_le k.since n)) ks) → not (is_used s k.table.name) ≡ true
free_later s n k [] there later free = absurd there
free_later s n k (j ∷ ks) there later free = free_first s n k j ks (nat_le j.since n) refl free there later (λ there rest. free_later s n k ks there later rest)

-- the rows of two holdings of one format are the same, but for the totals of the first
module _ (n : ℕ) (some : 1 ≤ n) (db : Database) (a b : Rows) (o p : Office) (is_o : IsOffice o) (is_p : IsOffice p)
    (in_a : HoldsOf n n db a) (in_b : HoldsOf n n db b) (are_a : AreMembersOf a o) (are_b : AreMembersOf b p) where
  rows_of : (k : Kept) (rows : Rows) → HoldsOf n n db rows → Member kept k → nat_le k.since n ≡ true → HoldsRows db n rows k
  rows_of k rows held there came = of_upto (λ k. HoldsRows db n rows k) n k kept there came held.are

  meters_are : a.meters ≡ b.meters
  meters_are =
      one_meters a.meters b.meters (small_keys a o is_o are_a) (small_keys b p is_p are_b)
      (sym (rows_of meters_kept a in_a each_there.meters (le-leb 1 n some)).0 ∙ (rows_of meters_kept b in_b each_there.meters (le-leb 1 n some)).0)

  bases_are : a.bases ≡ b.bases
  bases_are = elim (cases_lt n 3) [
    | inl before ↦ in_a.of_format.bases before ∙ ap (map (λ (r : List ℕ × Meter). (r.0, r.1.base))) meters_are ∙ sym (in_b.of_format.bases before)
    | inr since ↦ one_list base_columns one_base_row a.bases b.bases
        (sym (rows_of bases_kept a in_a each_there.bases (le-leb 3 n since)).0 ∙ (rows_of bases_kept b in_b each_there.bases (le-leb 3 n since)).0)
  ]

  dated_are : a.dated_steps ≡ b.dated_steps
  dated_are = elim (cases_lt n 4) [
    | inl before ↦ in_a.of_format.dated_steps before ∙ sym (in_b.of_format.dated_steps before)
    | inr since ↦ one_list dated_columns one_dated a.dated_steps b.dated_steps
        (sym (rows_of dated_steps_kept a in_a each_there.dated_steps (le-leb 4 n since)).0
        ∙ (rows_of dated_steps_kept b in_b each_there.dated_steps (le-leb 4 n since)).0)
  ]

  same_members : SameMembers a b
  same_members = record {
    tariffs = one_list tariff_columns one_tariff a.tariffs b.tariffs
        (sym (rows_of tariffs_kept a in_a each_there.tariffs (le-leb 1 n some)).0 ∙ (rows_of tariffs_kept b in_b each_there.tariffs (le-leb 1 n some)).0);
    steps = one_list step_columns one_step a.steps b.steps
        (sym (rows_of steps_kept a in_a each_there.steps (le-leb 1 n some)).0 ∙ (rows_of steps_kept b in_b each_there.steps (le-leb 1 n some)).0);
    meters = meters_are;
    shifts = one_list shift_row one_shift a.shifts b.shifts
        (sym (rows_of shifts_kept a in_a each_there.shifts (le-leb 1 n some)) ∙ rows_of shifts_kept b in_b each_there.shifts (le-leb 1 n some));
    sales = one_list sale_row one_sale a.sales b.sales
        (sym (rows_of sales_kept a in_a each_there.sales (le-leb 1 n some)) ∙ rows_of sales_kept b in_b each_there.sales (le-leb 1 n some));
    bases = bases_are;
    dated_steps = dated_are;
  }

  -- two offices whose members a database holds in the tables of one format are one office
  pub held_once : o ≡ p
  held_once = one_office a b same_members o p are_a are_b is_o is_p

-- ---- the formats

-- a table that stands has taken its name
not_free : (s : Schema) (k : Kept) → IsKept s k → not (is_used s k.table.name) ≡ true → ⊥
not_free s k stands free =
    let named : is_some (table_named s k.table.name) ≡ true = ap is_some stands.0.has.named in
    let used : is_used s k.table.name ≡ true = first_is_enough _ _ _ named in
    false≢true (sym (ap not used) ∙ free)

-- each format brings a table, so a database has the tables of one of them
module _ (s : Schema) (m n : ℕ) (in_m : HasOfficeOf m s) (in_n : HasOfficeOf n s) where
  differ_by : (k : Kept) → Member kept k → m < k.since → k.since ≤ n → ⊥
  differ_by k there later came =
      not_free s k (of_upto (IsKept s) n k kept there (le-leb k.since n came) in_n.tables)
      (free_later s m k kept there (lt-leb k.since m later) in_m.free)

  not_below : n ≤ present_format → m < n → ⊥
  not_below known below = elim (cases_lt m 1) [
    | inl none ↦ differ_by tariffs_kept each_there.tariffs none (omega (arith, below))
    | inr one ↦ elim (cases_lt m 2) [
      | inl first ↦ differ_by last_ids_kept each_there.last_ids first (omega (arith, one, below))
      | inr two ↦ elim (cases_lt m 3) [
        | inl second ↦ differ_by bases_kept each_there.bases second (omega (arith, two, below))
        | inr three ↦ differ_by dated_steps_kept each_there.dated_steps (omega (arith, three, below, known)) (omega (arith, three, below))
      ]
    ]
  ]

-- a schema has the office's tables of one format alone
pub one_format : (s : Schema) (m n : ℕ) → m ≤ present_format → n ≤ present_format → HasOfficeOf m s → HasOfficeOf n s → m ≡ n
one_format s m n known_m known_n in_m in_n = elim (cases_lt m n) [
  | inl below ↦ absurd (not_below s m n in_m in_n known_n below)
  | inr least ↦ elim (cases_lt n m) [
    | inl below ↦ absurd (not_below s n m in_n in_m known_m below)
    | inr most ↦ omega (arith, least, most)
  ]
]

-- what the database holds is told by the format that it has
pub held_as : (db : Database) (o : Office) (n : ℕ) → StandsFor db o → n ≤ present_format → HasOfficeOf n db.schema → HoldsMembersOf n db o
    × (n ≡ 0 → o ≡ empty_office)
held_as db o n stands known has =
    let same = one_format db.schema stands.format n stands.known known stands.held.1.has has in
    (subst (λ n. HoldsMembersOf n db o) same stands.held, λ none. stands.empty (same ∙ none))

-- a database that holds an office's members in the present format stands for the office
pub stands_present : (db : Database) (o : Office) → IsOffice o → HoldsMembers db o → StandsFor db o
stands_present db o office held = record {
  office = office;
  format = present_format;
  known = omega arith;
  held = held;
  empty = λ none. absurd (omega (arith, none));
}

-- where none of the tables' names is taken, the database stands for the empty office
pub untaken_stands : (db : Database) → IsUntaken db.schema → StandsFor db empty_office
untaken_stands db untaken = record {
  office = empty_is_office;
  format = 0;
  known = omega arith;
  held = (no_rows, record { has = untaken; are = tt; of_format = record { bases = λ _. refl; dated_steps = λ _. refl } }, no_members);
  empty = λ none. refl;
}

-- a database stands for one office at most
pub stands_once : (db : Database) (o p : Office) → StandsFor db o → StandsFor db p → o ≡ p
stands_once db o p these those =
    let held = held_as db p these.format those these.known these.held.1.has in
    elim (cases_lt 0 these.format) [
      | inl some ↦ held_once these.format some db these.held.0 held.0.0 o p these.office those.office these.held.1 held.0.1 these.held.2 held.0.2
      | inr none ↦ let is : these.format ≡ 0 = omega (arith, none) in these.empty is ∙ sym (held.1 is)
    ]
