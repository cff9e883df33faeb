-- What looks at the store leave, and what their faults tell of it.
use Rattle.std.proofs.Common.{◌≡◌, ◌≢◌, ◌⊎◌, ◌+◌, ◌-◌, ◌≤◌, ◌==◌, ℕ, Bool, true, false, List, [], ◌∷◌, length, cond, Option, None, Some, option_map, unwrap_or, IsTrue, Ok, Err, refl, sym, ap, ◌∙◌, subst, inl, inr, arith}
use Rattle.std.specs.Prelude.{find, slice_get}
use Rattle.std.specs.List.{last_or}
use Rattle.std.proofs.lemmas.Bool.Decides.{nat_tests}
use Rattle.sqlite.specs.Effect.{Database, IsDatabase}
use Rattle.sqlite.specs.State.{HasCleanDisk, IsUnchanged, State, Survives}
use Rattle.sqlite.specs.declared.error.Error.{Error}
use Rattle.office_rules.specs.Office.{Office}
use Rattle.office_rules.specs.Office.Lookup.{sale_numbered}
use Rattle.office_rules.specs.declared.office.sale.Sale.{Sale}
use Rattle.book_tables.specs.format.Making.{IsSoundOfFormat}
use Rattle.book_tables.specs.Holds.{HasOfficeOf, HoldsMembers, StandsFor}
use Rattle.book_tables.specs.Kept.{sales_kept}
use Rattle.book_tables.specs.reading.Reading.{AreOfOffice, FailsToRead, HasAllTables, HasTableRows, OnlyReads}
use Rattle.book_tables.specs.row.Rows.{Rows, present_format}
use Rattle.book_tables.specs.declared.error.TableError.{TableError}
use Rattle.book_tables.specs.declared.error.TableError.TheVariants as table
use Rattle.book_tables.proofs.HoldsLemmas.{held_as}
use Rattle.book_tables.proofs.OfficeTableLemmas.{has_table_rows, sales_in}
use Rattle.book_states.specs.Health.{last_moment}
use Rattle.book_states.specs.Stores.{StoreStandsFor}
use Rattle.book_states.specs.Same.{IsSame}
use Rattle.book_opening.specs.NoOffice.{IsLastSaleSpoilt, IsNoOffice}
use Rattle.book_opening.specs.NoOffice.IsNoOffice.{by_last_sale}
use Rattle.book_opening.specs.Opening.{FaultFitsStore, Looks, fault_of_table, sold_by}
use Rattle.book_opening.specs.declared.fault.OpenFault.{OpenFault}
use Rattle.book_opening.specs.declared.fault.OpenFault.TheVariants.{NotAnOffice, Store, Memory}
use Rattle.book_opening.specs.declared.sold_so_far.SoldSoFar.{SoldSoFar}

-- a fault that does not name the file
pub of_failure : (s : State) (fault : OpenFault) → (fault ≡ Store) ⊎ (fault ≡ Memory) → FaultFitsStore s fault
of_failure s fault (inl e) = rw e tt
of_failure s fault (inr e) = rw e tt

-- what the store stood for it stands for after a call that left it as it was
pub stands_after : (old new : State) (o : Office) → HasCleanDisk new → IsSame old new → Survives old new (λ _. ⊥) → StoreStandsFor old o → StoreStandsFor new o
stands_after old new o clean same survives at = record {
  office = at.office;
  now = λ is_open. subst (λ (db : Database). StandsFor db o) (sym (same.now_is is_open)) (at.now (same.was_open is_open));
  left = λ trees leaves. elim (survives.crash clean trees leaves) [ inl was ↦ at.left trees was | inr none ↦ absurd none ];
}

-- a fault that names the file is true of the store as it was before a look that changed nothing
pub shown_before : (old mid : State) (fault : OpenFault) → IsUnchanged old mid → ((o : Office) → StoreStandsFor old o → StoreStandsFor mid o)
    → FaultFitsStore mid fault → FaultFitsStore old fault
shown_before old mid NotAnOffice same after shows = record {
  is_open = same.0.was_open;
  named = subst IsNoOffice same.0.now_is shows.named;
  none = λ o at. shows.none o (after o at);
}
shown_before old mid Store same after shows = tt
shown_before old mid Memory same after shows = tt

-- the schema of the connection is that of a format
pub has_found : (n : ℕ) (s : State) → (IsTrue s.is_open → IsDatabase s.now) → HasOfficeOf n s.now.schema → IsSoundOfFormat n s
has_found n s live has = λ runs. (live runs, has)

-- ---- the present format

-- a read of the last sale that failed shows that there is no office, where its fault says so
as_shown : (old new : State) (e : TableError) (fault : OpenFault) → ((why : Error) → e ≡ table.Database why → (fault ≡ Store) ⊎ (fault ≡ Memory))
    → fault ≡ fault_of_table e → IsSoundOfFormat present_format old
    → (e ≡ table.RowOfNoOffice → IsLastSaleSpoilt old.now)
    → FailsToRead old new e → FaultFitsStore old fault
as_shown old new (table.Database why) fault kind is has spoilt fails = of_failure old fault (kind why refl)
as_shown old new table.RowOfNoOffice fault kind is has spoilt fails =
    let runs = fails.1.0.was_open in
    rw is (record {
      is_open = runs;
      named = by_last_sale (has runs).1 (spoilt refl);
      none = λ o at.
          let held : HoldsMembers old.now o = (held_as old.now o present_format (at.now runs) (omega arith) (has runs).1).0 in
          fails.0 held.0 held.1 (o, at.office, held.2);
    })

-- a sound database of the present format has all its tables
pub tables : (s : State) → IsSoundOfFormat present_format s → HasAllTables s
tables s has runs = (has runs).1

module _ {old new : State} where
  -- a read that changed nothing is a look at the store that succeeds, whatever it answers
  pub looks_on : {T U : Type 0} {x : T} {y : U} → OnlyReads IsUnchanged old new (Ok x) → Looks (IsSoundOfFormat present_format) old new (Ok y)
  looks_on this = record {
    same = λ clean has. this.same clean (tables old has);
    kept = λ _ _. tt;
    mode = this.mode;
    faults = λ _ _. tt;
    survives = λ has. this.survives (tables old has);
  }

  -- a read of the last sale that failed is a look that fails with the fault of its error
  pub look_fails : {T U : Type 0} (e : TableError) (fault : OpenFault) → ((why : Error) → e ≡ table.Database why → (fault ≡ Store) ⊎ (fault ≡ Memory))
      → fault ≡ fault_of_table e
      → (HasCleanDisk new → IsSoundOfFormat present_format old → e ≡ table.RowOfNoOffice → IsLastSaleSpoilt old.now)
      → OnlyReads {T = T} IsUnchanged old new (Err e)
      → Looks {T = U} (IsSoundOfFormat present_format) old new (Err fault)
  look_fails e fault kind is spoilt this = record {
    same = λ _ _. tt;
    kept = λ clean has. this.kept clean (tables old has);
    mode = this.mode;
    faults = λ clean has. as_shown old new e fault kind is has (spoilt clean has) (this.faults clean (tables old has));
    survives = λ has. this.survives (tables old has);
  }

  -- what was read shows that there is no office
  pub look_denies : {T U : Type 0} {x : T} → OnlyReads IsUnchanged old new (Ok x)
      → (HasCleanDisk new → IsSoundOfFormat present_format old → FaultFitsStore old NotAnOffice)
      → Looks {T = U} (IsSoundOfFormat present_format) old new (Err NotAnOffice)
  look_denies this told = record {
    same = λ _ _. tt;
    kept = λ clean has. inl (this.same clean (tables old has));
    mode = this.mode;
    faults = told;
    survives = λ has. this.survives (tables old has);
  }

-- ---- the last sale

-- a number that no sale has is not the last one
none_last : (n : ℕ) (o : Option Sale) (sales : List Sale) → option_map (λ (s : Sale). s.number) o ≢ Some n → find (λ (s : Sale). s.number == n) sales ≡ None
    → option_map (λ (s : Sale). s.number) (last_or o sales) ≢ Some n
none_last n o [] before none = before
none_last n o (x ∷ xs) before none = by_test (x.number == n) refl none (none_last n (Some x) xs)
  where
    by_test : (b : Bool) → (x.number == n) ≡ b → cond b (Some x) (find (λ (s : Sale). s.number == n) xs) ≡ None
        → (Some x.number ≢ Some n → find (λ (s : Sale). s.number == n) xs ≡ None → option_map (λ (s : Sale). s.number) (last_or (Some x) xs) ≢ Some n)
        → option_map (λ (s : Sale). s.number) (last_or (Some x) xs) ≢ Some n
    by_test true is found rest = absurd (let e = found in cc)
    by_test false is none rest = rest (λ same. let number : x.number ≡ n = (let e = same in cc) in grind (arith, nat_tests)) none

-- a number that counts the sales is that of the last one
moment_at : (sales : List Sale) (last : ℕ) (sale : Sale) → last ≡ length sales
    → (1 ≤ last → find (λ (s : Sale). s.number == last) sales ≡ slice_get sales (last - 1)) → Some sale ≡ find (λ (s : Sale). s.number == last) sales
    → Some sale.moment ≡ option_map (λ (s : Sale). s.moment) (slice_get sales (length sales - 1))
moment_at [] last sale counts place found = absurd (let e = found in cc)
moment_at (x ∷ xs) last sale counts place found = ap (option_map (λ (s : Sale). s.moment))
    (found ∙ place (omega (arith, counts)) ∙ ap (λ n. slice_get (x ∷ xs) (n - 1)) counts)

-- where none are counted there is none
none_there : (sales : List Sale) → 0 ≡ length sales → sales ≡ []
none_there [] counts = refl
none_there (x ∷ xs) counts = absurd (omega (arith, counts))

-- what the rows of the sales say of the office that the store stands for
module _ (old : State) (has : IsSoundOfFormat present_format old) (runs : IsTrue old.is_open) (o : Office) (at : StoreStandsFor old o) where
  held : HoldsMembers old.now o
  held = (held_as old.now o present_format (at.now runs) (omega arith) (has runs).1).0

  sales_there : HasTableRows sales_kept old held.0
  sales_there = has_table_rows sales_in old held.0 (λ _. held.1)

  of_office : AreOfOffice held.0
  of_office = (o, at.office, held.2)

  -- the last number counts its sales
  counts_sales : (last : Option ℕ) → ((rows : Rows) → HasTableRows sales_kept old rows → AreOfOffice rows → unwrap_or last 0 ≡ length rows.sales)
      → unwrap_or last 0 ≡ length o.sales
  counts_sales last counted = counted held.0 sales_there of_office ∙ ap (λ (sales : List Sale). length sales) held.2.sales

  -- where there is no last number nothing was sold
  pub nothing_sold : (sold : SoldSoFar) → ((p : Office) → p.sales ≡ [] → sold ≡ sold_by p)
      → ((rows : Rows) → HasTableRows sales_kept old rows → AreOfOffice rows → 0 ≡ length rows.sales) → sold ≡ sold_by o
  nothing_sold sold is counted = is o (none_there o.sales (counts_sales None counted))

  -- the sale of the last number is its last one
  pub sold_up_to : (last : ℕ) (sale : Sale) → ((number : ℕ) → 1 ≤ number → sale_numbered o number ≡ slice_get o.sales (number - 1))
      → ((rows : Rows) → HasTableRows sales_kept old rows → AreOfOffice rows → last ≡ length rows.sales)
      → ((rows : Rows) → HasTableRows sales_kept old rows → AreOfOffice rows → Some sale ≡ find (λ (s : Sale). s.number == last) rows.sales)
      → record { next_number = last + 1; last_moment = Some sale.moment } ≡ sold_by o
  sold_up_to last sale at counted found =
      let counts : last ≡ length o.sales = counts_sales (Some last) counted in
      let here : Some sale ≡ sale_numbered o last = found held.0 sales_there of_office
      ∙ ap (λ (sales : List Sale). find (λ (s : Sale). s.number == last) sales) held.2.sales in
      let moment : Some sale.moment ≡ last_moment o = moment_at o.sales last sale counts (at last) here in
      rw counts (rw moment refl)

  -- the sale of the last number is there
  pub last_there : (last : ℕ) → ((rows : Rows) → HasTableRows sales_kept old rows → AreOfOffice rows → Some last
      ≡ option_map (λ (s : Sale). s.number) (last_or None rows.sales))
      → ((rows : Rows) → HasTableRows sales_kept old rows → AreOfOffice rows → None ≡ find (λ (s : Sale). s.number == last) rows.sales) → ⊥
  last_there last is none =
      none_last last None held.0.sales (λ same. absurd (let e = same in cc)) (sym (none held.0 sales_there of_office)) (sym (is held.0 sales_there of_office))
