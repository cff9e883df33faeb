-- What reads of the tables tell of the office whose members these hold.
use Rattle.std.proofs.Common.{◌≡◌, ◌↔◌, ◌⊎◌, ◌&&◌, ℕ, suc, ◌+◌, ◌<◌, ◌≤◌, ◌++◌, Bool, true, false, cond, List, [], ◌∷◌, filter, find, is_none, is_some, map, Option, None, Some, option_map, Result, Ok, Err, IfOk, add-one, append_assoc, arith, drop, drop-cons, get_or, refl, sym, ◌∙◌, ap, subst, IsTrue, IsSome}
use Rattle.std.specs.Prelude.{All, Contains, bytes_eq, length, unwrap_or}
use Rattle.std.specs.Option.{option_or, option_to_list}
use Rattle.std.proofs.lemmas.Bool.{false≢true}
use Rattle.std.proofs.lemmas.List.Elements.{All-head, All-tail}
use Rattle.sqlite.specs.Effect.{Database}
use Rattle.sqlite.specs.State.{HasCleanDisk, IsUnchanged, State, Survives}
use Rattle.sts_fields.specs.Calendar.{month_at}
use Rattle.sts_fields.specs.Day.{day_at}
use Rattle.tariff.specs.declared.step.Step.{Step}
use Rattle.office_rules.specs.Decision.{MeterAccount, account_of, row_decision}
use Rattle.office_rules.specs.Decision.Facts.{AreRowsFacts, row_facts}
use Rattle.office_rules.specs.Office.Lookup.{greatest_of, latest, open_shift, prior, steps_on, used}
use Rattle.office_rules.specs.Office.{IsOffice, Office}
use Rattle.office_rules.specs.declared.office.meter.Meter.{Meter}
use Rattle.office_rules.specs.declared.decision.refusal.Refusal.TheVariants.{Differs}
use Rattle.office_rules.specs.declared.office.row.Row.{Row}
use Rattle.office_rules.specs.declared.decision.row_facts.RowFacts.{RowFacts}
use Rattle.office_rules.specs.declared.office.sale.Sale.{Sale}
use Rattle.office_rules.specs.declared.office.shift.Shift.{Shift}
use Rattle.book_tables.specs.reading.Found.{meters_numbered}
use Rattle.book_tables.specs.Holds.{Holds, HoldsMembers}
use Rattle.book_tables.specs.reading.Reading.{AreOfOffice, FailsToRead, HasTableRows, HasAllTables, OnlyReads}
use Rattle.book_tables.specs.Kept.{Kept, meters_kept, shifts_kept, tariffs_kept}
use Rattle.book_tables.proofs.OfficeTableLemmas.{IsInOffice, has_table_rows, meters_in, shifts_in, tariffs_in}
use Rattle.book_tables.specs.row.Rows.{Rows}
use Rattle.book_tables.specs.Stands.{AreMembersOf}
use Rattle.book_tables.specs.declared.error.TableError.{TableError}
use Rattle.book_tables.specs.declared.error.TableError.TheVariants.{RowOfNoOffice}
use Rattle.book_states.specs.Members.{HasMembers}
use Rattle.book_facts.proofs.PassedLemmas.{HasPassed, clean_before, earlier, tables_after}

-- a database that holds an office's members has all its tables
pub tables_of : (s : State) (o : Office) → HasMembers s o → HasAllTables s
tables_of s o members is_open = (members is_open).1.has

-- the first that passes, where what passes is one element or none
first_of_one : {X Y : Type 0} (f : X → Y) (p : X → Bool) (xs : List X) (o : Option Y) → map f (filter p xs) ≡ option_to_list o → option_map f (find p xs) ≡ o
first_of_one f p [] None one = refl
first_of_one f p [] (Some y) one = absurd (let e = one in cc)
first_of_one {X} {Y} f p (x ∷ xs) o one = by_test (p x) o (first_of_one f p xs o) one
  where
    by_test : (b : Bool) (o : Option Y) → (map f (filter p xs) ≡ option_to_list o → option_map f (find p xs) ≡ o)
        → map f (cond b (x ∷ filter p xs) (filter p xs)) ≡ option_to_list o
        → option_map f (cond b (Some x) (find p xs)) ≡ o
    by_test true None rest one = absurd (let e = one in cc)
    by_test true (Some y) rest one = cc
    by_test false o rest one = rest one

-- a test that holds exactly where something is there
test_is : {X : Type 0} (b : Bool) (o : Option X) (P : Type 0) → (IsTrue b ↔ P) → (IsSome o ↔ P) → b ≡ is_some o
test_is true None P b_is o_is = sym (o_is.1 (b_is.0 refl))
test_is true (Some x) P b_is o_is = refl
test_is false None P b_is o_is = refl
test_is false (Some x) P b_is o_is = b_is.1 (o_is.0 refl)

-- where nothing is there
pub none_if : {X : Type 0} (o : Option X) → is_none o ≡ true → None ≡ o
none_if None none = refl
none_if (Some x) none = absurd (false≢true none)

-- what no value can be is nothing
pub none_of : {X : Type 0} (x : Option X) → ((y : X) → x ≡ Some y → ⊥) → x ≡ None
none_of None never = refl
none_of (Some y) never = absurd (never y refl)

-- what is told where something is there
pub told_there : {X Y : Type 0} (there : Option X) (y : Y) → is_none there ≡ false → Some y ≡ option_map (λ _. y) there
told_there None y some = absurd (false≢true (sym some))
told_there (Some x) y some = refl

-- reads leave an open connection its members
pub members_after : (o : Office) {old mid new : State} → HasMembers old o → HasPassed old mid
    → (HasAllTables mid → Survives mid new (λ _. ⊥)) → HasCleanDisk new → HasMembers mid o
members_after o {old} {mid} {new} members before survives clean is_open =
    let so_far = earlier old mid new before survives (tables_of old o members) clean in
    subst (λ (db : Database). HoldsMembers db o) (sym so_far.now_is) (members (sym so_far.is_open ∙ is_open))

module _ {T : Type 0} {value : T} {o : Office} {old mid new : State} (office : IsOffice o) (members : HasMembers old o)
    (before : HasPassed old mid) (this : OnlyReads IsUnchanged mid new (Ok value)) (clean : HasCleanDisk new) where
  -- a read tells it of rows that are the office's
  told : {k : Kept} (in_office : IsInOffice k) (Says : Rows → Type 0)
      → ((rows : Rows) → HasTableRows k mid rows → AreOfOffice rows → Says rows) → (rows : Rows) × AreMembersOf rows o × Says rows
  told in_office Says given =
      let tables = tables_of old o members in
      let so_far = earlier old mid new before this.survives tables clean in
      let same = this.same clean (tables_after before tables) in
      let held = members (sym so_far.is_open ∙ same.0.was_open) in (
        held.0,
        held.2,
        given held.0 (has_table_rows in_office mid held.0
            (λ _. subst (λ (db : Database). Holds db held.0) (sym so_far.now_is) held.1)) (o, office, held.2),
      )

  -- the disk was clean before
  pub was_clean : HasCleanDisk mid
  was_clean = clean_before before this.survives (tables_of old o members) clean

  -- what a read tells of the shifts it tells of those of this office
  pub shifts_told : {X : Type 0} (f : List Shift → X) (x : X)
      → ((rows : Rows) → HasTableRows shifts_kept mid rows → AreOfOffice rows → x ≡ f rows.shifts) → x ≡ f o.shifts
  shifts_told f x given = let it = told shifts_in (λ rows. x ≡ f rows.shifts) given in it.2 ∙ ap f it.1.shifts

  -- and of the sales
  pub sales_told : {k : Kept} (in_office : IsInOffice k) {X : Type 0} (f : List Sale → X) (x : X)
      → ((rows : Rows) → HasTableRows k mid rows → AreOfOffice rows → x ≡ f rows.sales) → x ≡ f o.sales
  sales_told in_office f x given = let it = told in_office (λ rows. x ≡ f rows.sales) given in it.2 ∙ ap f it.1.sales

  -- a shift that a read finds open for an operator is the office's open shift
  pub open_shift_told : (operator : List ℕ) (found : Option Shift)
      → ((rows : Rows) → HasTableRows shifts_kept mid rows → AreOfOffice rows → found
      ≡ find (λ s. bytes_eq s.operator operator && is_none s.closed) rows.shifts) → found ≡ open_shift o operator
  open_shift_told operator = shifts_told (find (λ s. bytes_eq s.operator operator && is_none s.closed))

  -- whether a read finds a tariff under a name is whether the office has it
  pub tariff_told : (name : List ℕ) (there : Bool) →
      ((rows : Rows) → HasTableRows tariffs_kept mid rows → AreOfOffice rows → IsTrue there ↔ Contains rows.tariffs name) → there ≡ is_some (o.tariffs name)
  tariff_told name there given =
      let it = told tariffs_in (λ rows. IsTrue there ↔ Contains rows.tariffs name) given in
      test_is there (o.tariffs name) (Contains it.0.tariffs name) it.2 (it.1.tariffs name)

  -- a meter that a read finds by its number is the office's
  pub meter_told : ((rows : Rows) (o : Office) (number : List ℕ) → AreMembersOf rows o → map (λ r. r.1) (meters_numbered rows number)
      ≡ option_to_list (o.meters number)) → (number : List ℕ) (found : Option Meter)
      → ((rows : Rows) → HasTableRows meters_kept mid rows → AreOfOffice rows → found
      ≡ option_map (λ r. r.1) (find (λ r. bytes_eq r.0 number) rows.meters)) → found ≡ o.meters number
  meter_told law number found given =
      let it = told meters_in (λ rows. found ≡ option_map (λ r. r.1) (find (λ r. bytes_eq r.0 number) rows.meters)) given in
      it.2 ∙ first_of_one (λ (r : List ℕ × Meter). r.1) (λ r. bytes_eq r.0 number) it.0.meters (o.meters number) (law it.0 o number it.1)

  -- what a read says of whichever office the rows are, it says of this one
  pub office_says : {k : Kept} (in_office : IsInOffice k) (Says : Office → Type 0)
      → ((rows : Rows) (o : Office) → HasTableRows k mid rows → IsOffice o → AreMembersOf rows o → Says o) → Says o
  office_says in_office Says given =
      let it = told in_office (λ rows. (o : Office) → IsOffice o → AreMembersOf rows o → Says o)
      (λ rows has _ p office_p members_p. given rows p has office_p members_p) in
      it.2 o office it.1

  -- what a read gives of whichever office the rows are, it gives of this one
  pub office_told : {k : Kept} (in_office : IsInOffice k) {X : Type 0} (f : Office → X) (x : X)
      → ((rows : Rows) (o : Office) → HasTableRows k mid rows → IsOffice o → AreMembersOf rows o → x ≡ f o) → x ≡ f o
  office_told in_office f x given = office_says in_office (λ o. x ≡ f o) given

-- the same of the last read, whatever it answers
pub office_told_of : {T : Type 0} (r : Result T TableError) (o : Office) {old mid new : State} → IsOffice o → HasMembers old o
    → HasPassed old mid → OnlyReads IsUnchanged mid new r → HasCleanDisk new → {k : Kept} (in_office : IsInOffice k) (f : Office → T)
    → ((rows : Rows) (o : Office) → HasTableRows k mid rows → IsOffice o → AreMembersOf rows o → IfOk r (λ x. x ≡ f o)) → IfOk r (λ x. x ≡ f o)
office_told_of (Ok x) o office members before this clean in_office f given = office_told office members before this clean in_office f x given
office_told_of (Err e) o office members before this clean in_office f given = tt

-- what was read, and is that of no office
pub of_no_office : {T : Type 0} {x : T} {old new : State} → OnlyReads IsUnchanged old new (Ok x) → HasCleanDisk new → HasAllTables old
    → ((o : Office) → IsOffice o → HasMembers old o → ⊥) → FailsToRead old new RowOfNoOffice
of_no_office this clean has none = (λ rows held of_office. none of_office.0 of_office.1 (λ _. (rows, held, of_office.2)), this.same clean has)

-- ---- a account

-- a greatest number is within the bound of all
greatest_within : (bound : ℕ) (ns : List ℕ) → All (λ n. n ≤ bound) ns → unwrap_or (greatest_of ns) 0 ≤ bound
greatest_within bound [] all = omega arith
greatest_within bound (n ∷ ns) all =
    let first : n ≤ bound = All-head (λ k. k ≤ bound) n ns all in
    let rest : unwrap_or (greatest_of ns) 0 ≤ bound = greatest_within bound ns (All-tail (λ k. k ≤ bound) n ns all) in
    omega arith

-- the last number, where there is one, is within the bound of all
pub last_within : (bound : ℕ) (last : Option ℕ) (ns : List ℕ) → last ≡ greatest_of ns → All (λ n. n ≤ bound) ns → unwrap_or last 0 ≤ bound
last_within bound last ns is all = rw is (greatest_within bound ns all)

-- the steps of a tariff on a day, where there is the tariff
abbrev steps_found : Office → List ℕ → ℕ → Option (List Step)
steps_found o name day = option_or (latest (o.dated_steps name) day) (o.tariffs name)

-- an office has the tariff of each of its meters
pub has_steps : (o : Office) → IsOffice o → (number : List ℕ) (day : ℕ) (there : Option Meter) (m : Meter) (found : Option (List Step))
    → there ≡ o.meters number → there ≡ Some m → found ≡ steps_found o m.tariff day → found ≡ None → ⊥
has_steps o office number day there m found there_is here found_is gone =
    none_found (latest (o.dated_steps m.tariff) day) (o.tariffs m.tariff) (office.meters number m (sym there_is ∙ here)).tariff (sym found_is ∙ gone)
  where
    none_found : (begun first : Option (List Step)) → is_some first ≡ true → option_or begun first ≡ None → ⊥
    none_found None None some none = false≢true some
    none_found None (Some steps) some none = cc
    none_found (Some steps) first some none = cc

-- the account of a meter with its steps
pub account_is : (o : Office) (number : List ℕ) (moment : ℕ) (there : Option Meter) (m : Meter) (found : Option (List Step))
    (steps : List Step) (b : MeterAccount)
    → there ≡ o.meters number → there ≡ Some m → found ≡ steps_found o m.tariff (day_at moment) → found ≡ Some steps
    → b ≡ record { meter = m; steps = steps; last = greatest_of (used o number m.base); prior = prior o number (month_at moment) }
    → Some b ≡ account_of o number moment
account_is o number moment there m found steps b there_is here found_is known is =
    let steps_are : steps ≡ steps_on o m.tariff (day_at moment) = ap (λ (s : Option (List Step)). unwrap_or s []) (sym known ∙ found_is) in
    ap (λ (b : MeterAccount). let some : Option MeterAccount = Some b in some)
    (is ∙ ap (λ (s : List Step). let b : MeterAccount = record
    { meter = m; steps = s; last = greatest_of (used o number m.base); prior = prior o number (month_at moment) } in b) steps_are)
    ∙ ap (λ (there : Option Meter). option_map (account_with o number moment) there) (sym here ∙ there_is)
  where
    account_with : Office → List ℕ → ℕ → Meter → MeterAccount
    account_with o number moment m = record {
      meter = m;
      steps = steps_on o m.tariff (day_at moment);
      last = greatest_of (used o number m.base);
      prior = prior o number (month_at moment);
    }

-- the first where there is one, or else the second
pub begun_or_first : {X : Type 0} (begun first found : Option X) → is_some begun ≡ false → found ≡ first → found ≡ option_or begun first
begun_or_first None first found none is = is
begun_or_first (Some x) first found none is = absurd (false≢true (sym none))

-- the first, where there is one
pub begun_alone : {X : Type 0} (begun first : Option X) → is_some begun ≡ true → begun ≡ option_or begun first
begun_alone None first some = absurd (false≢true some)
begun_alone (Some x) first some = refl

-- ---- the rows of an import

-- one row more: the last one that is looked at, or with what is found for the others
pub rows_more : (o : Office) (today : ℕ) (rows : List Row) (i : ℕ) (row : Row) (found more : List RowFacts) (f : RowFacts)
    → i < length rows → row ≡ get_or rows i row → f ≡ row_facts o row
    → (row_decision o today row ≡ Err Differs) ⊎ AreRowsFacts o today (drop (i + 1) rows) more
    → ((more : List RowFacts) → AreRowsFacts o today (drop i rows) more → AreRowsFacts o today rows (found ++ more))
    → AreRowsFacts o today rows (found ++ f ∷ [] ++ more)
rows_more o today rows i row found more f within read is rest so_far =
    let next : drop i rows ≡ row ∷ drop (i + 1) rows = (let e = drop-cons rows i row in rw (add-one, e) (ap (λ (r : Row). r ∷ drop (suc i) rows) (sym read))) in
    rw append_assoc (so_far (f ∷ more) (rw next (is, rest)))
