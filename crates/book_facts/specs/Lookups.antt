-- What is found of an office where something is looked up.
use Rattle.std.specs.Prelude.{◌≡◌, ◌≢◌, ◌⊎◌, ◌↔◌, ◌<◌, ℕ, ◌&&◌, ◌==◌, List, [], All, AllPairs}
use Rattle.std.specs.Prelude.{Contains, filter, find, length, map, nat_lt, take, Option, Some, None}
use Rattle.std.specs.Prelude.{IsSome, option_map, unwrap_or, Result, Ok, Err, bytes_eq}
use Rattle.std.specs.Option.{ok_or, option_or}
use Rattle.sts_fields.specs.Base.{base_eq}
use Rattle.sts_fields.specs.Calendar.{month_at}
use Rattle.sts_fields.specs.Tid.{fresh_after, minute_of}
use Rattle.sts_fields.specs.declared.base.Base.{Base}
use Rattle.sts_fields.specs.declared.base.Base.TheVariants.{Y1993, Y2014, Y2035}
use Rattle.sts_fields.specs.Day.{day_at}
use Rattle.tariff.specs.Purchase.{purchase_of}
use Rattle.tariff.specs.declared.step.Step.{Step}
use Rattle.office_rules.specs.Decision.{◌>>=◌, MeterAccount, account_of, next_number, or_refusal}
use Rattle.office_rules.specs.Office.Lookup.{greatest_of, prior, sale_of_ref, sales_of_shift}
use Rattle.office_rules.specs.Office.Lookup.{steps_on, used}
use Rattle.office_rules.specs.Office.{Office}
use Rattle.office_rules.specs.declared.decision.change.Change.{Change}
use Rattle.office_rules.specs.declared.decision.change.Edit.TheVariants as edits
use Rattle.office_rules.specs.declared.decision.refusal.Refusal.{Refusal}
use Rattle.office_rules.specs.declared.decision.refusal.Refusal.TheVariants as refusals
use Rattle.office_rules.specs.declared.office.meter.Meter.{Meter}
use Rattle.office_rules.specs.declared.office.sale.Sale.{Sale}
use Rattle.office_rules.specs.declared.office.shift.Shift.{Shift}
use Rattle.book_lists.specs.Pages.{AreFirstAfter, page_size}
use Rattle.book_tables.specs.Stands.{all_totals}
use Rattle.book_tables.specs.declared.row.totals.Totals.{Totals}
use Rattle.book_facts.specs.Totals.{shift_totals}
use Rattle.asks.specs.declared.lookup.Lookup.{Lookup}
use Rattle.asks.specs.declared.lookup.Lookup.TheVariants as lookups
use Rattle.book_states.specs.Health.{IsHealthOf}
use Rattle.book_states.specs.declared.lookup.LaterSteps.{LaterSteps}
use Rattle.book_states.specs.declared.lookup.ListedMeter.{ListedMeter}
use Rattle.book_states.specs.declared.lookup.ListedShift.{ListedShift}
use Rattle.book_states.specs.declared.lookup.ListedTariff.{ListedTariff}
use Rattle.book_states.specs.declared.lookup.Found.{Found}
use Rattle.book_states.specs.declared.lookup.Found.TheVariants as found

-- the sale of an identifier of a meter under a base
abbrev pub sale_of_tid : Office → List ℕ → Base → ℕ → Option Sale
sale_of_tid o number base tid =
    find (λ s. bytes_eq s.meter number && (base_eq s.base base && (s.tid == tid))) o.sales

-- the same, of an identifier or of none
abbrev pub sale_of_some_tid : Office → List ℕ → Base → Option ℕ → Option Sale
sale_of_some_tid o number base None = None
sale_of_some_tid o number base (Some tid) = sale_of_tid o number base tid

-- the last sale to a meter under a base: that of the greatest identifier, since they rise
abbrev pub last_under : Office → List ℕ → Base → Option Sale
last_under o number base = sale_of_some_tid o number base (greatest_of (used o number base))

-- the last sale to a meter: under the latest base that it has a sale under, since a meter is moved
-- to later ones only
abbrev pub last_sale : Office → List ℕ → Option Sale
last_sale o number =
    option_or (last_under o number Y2035)
    (option_or (last_under o number Y2014) (last_under o number Y1993))

-- the sale that was looked up, where there is one
abbrev pub sale_found : Option Sale → Result Found Refusal
sale_found there = do
  s ← ok_or there refusals.NoSale
  Ok (found.Sale s)

-- the last sale to a meter, where there is this meter
abbrev pub last_found : Option Meter → Option Sale → Result Found Refusal
last_found there last = do
  m ← ok_or there refusals.NoMeter
  sale_found last

-- what is told of a meter of this number, where there is this one
abbrev pub meter_found : List ℕ → Option Meter → ℕ → Option Sale → Result Found Refusal
meter_found number there tenths last = do
  m ← ok_or there refusals.NoMeter
  Ok (found.Meter (record {
    number = number;
    base = m.base;
    tariff = m.tariff;
    tenths = tenths;
    last_sale = option_map (λ s. s.number) last;
  }))

-- the totals of the shift of this number, where there is one
abbrev pub totals_found : ℕ → Option Totals → Result Found Refusal
totals_found number there = do
  totals ← ok_or there refusals.NoSuchShift
  Ok (found.ShiftTotals number totals)

-- what a tender would buy for a meter at a moment, by the tests of a new sale in their order, but
-- for its shift
abbrev pub quote_for : ℕ → List ℕ → ℕ → Option MeterAccount → ℕ → Result Found Refusal
quote_for moment number tender account count = do
  m ← ok_or account refusals.NoMeter
  now ← or_refusal (minute_of m.meter.base moment)
  tid ← or_refusal (fresh_after now m.last)
  bought ← ok_or (purchase_of m.steps m.prior tender) refusals.TooLittle
  next ← next_number count
  Ok (found.Quote (record {
    meter = number;
    tariff = m.meter.tariff;
    tender = tender;
    tenths = bought.tenths;
    price = bought.price;
  }))

-- the same in an office
abbrev pub quote : Office → ℕ → List ℕ → ℕ → Result Found Refusal
quote o moment number tender =
    quote_for moment number tender (account_of o number moment) (length o.sales)

-- the decision on the sale grants what is quoted, or refuses it for the same reason
abbrev pub IsQuoted : Result Found Refusal → Result Change Refusal → Type 0
IsQuoted (Ok (found.Quote q)) (Ok change) =
    (s : Sale) × (change.edit ≡ Some (edits.AddSale s)) × (s.meter ≡ q.meter)
    × (s.tender ≡ q.tender) × (s.tenths ≡ q.tenths) × (s.price ≡ q.price)
IsQuoted (Err why) (Err other) = why ≡ other
IsQuoted quoted decided = ⊥

-- ---- lists

-- The steps that a tariff has from each day after a day on, by day: each of them once, and no
-- others.
pub record AreLaterSteps (dated : ℕ → Option (List Step)) (day : ℕ)
    (later : List LaterSteps) : Type 0 where
  pub are : (from : ℕ) (steps : List Step) → (day < from) × (dated from ≡ Some steps)
      ↔ Contains later (record { from = from; steps = steps })
  pub by_day : AllPairs (λ a b. a.from < b.from) later

-- a tariff is told with its steps on a day, and with those that begin later
pub record IsListedTariff (o : Office) (day : ℕ) (t : ListedTariff) : Type 0 where
  pub there : IsSome (o.tariffs t.name)
  pub steps : t.steps ≡ steps_on o t.name day
  pub later : AreLaterSteps (o.dated_steps t.name) day t.later.items

-- a page of the tariffs after a name
pub record AreTariffsAfter (o : Office) (day : ℕ) (after : List ℕ) (page : List ListedTariff)
    : Type 0 where
  pub each : All (IsListedTariff o day) page
  pub first : AreFirstAfter (λ name. IsSome (o.tariffs name)) after (map (λ t. t.name) page)

-- a meter is told with its base and its tariff
abbrev pub IsListedMeter : Office → ListedMeter → Type 0
IsListedMeter o listed =
    (m : Meter) × (o.meters listed.number ≡ Some m) × (listed.base ≡ m.base)
    × (listed.tariff ≡ m.tariff)

-- a page of the meters after a number
pub record AreMetersAfter (o : Office) (after : List ℕ) (page : List ListedMeter)
    : Type 0 where
  pub each : All (IsListedMeter o) page
  pub first : AreFirstAfter (λ number. IsSome (o.meters number)) after
      (map (λ m. m.number) page)

-- a shift with its totals
abbrev pub listed_shift : Office → Shift → ListedShift
listed_shift o s = record { shift = s; totals = all_totals (sales_of_shift o s.number) }

-- a page of the shifts and of the sales after a number
abbrev pub shifts_after : Office → ℕ → List ListedShift
shifts_after o number =
    map (listed_shift o) (take page_size (filter (λ s. nat_lt number s.number) o.shifts))

abbrev pub sales_after : Office → ℕ → List Sale
sales_after o number = take page_size (filter (λ s. nat_lt number s.number) o.sales)

-- what is found of such a page
abbrev pub FindsTariffs : Office → ℕ → Option (List ℕ) → Result Found Refusal → Type 0
FindsTariffs o day after (Ok (found.Tariffs page)) =
    AreTariffsAfter o day (unwrap_or after []) page.items
FindsTariffs o day after result = ⊥

abbrev pub FindsMeters : Office → Option (List ℕ) → Result Found Refusal → Type 0
FindsMeters o after (Ok (found.Meters page)) = AreMetersAfter o (unwrap_or after []) page.items
FindsMeters o after result = ⊥

abbrev pub FindsShifts : Office → ℕ → Result Found Refusal → Type 0
FindsShifts o after (Ok (found.Shifts page)) = page.items ≡ shifts_after o after
FindsShifts o after result = ⊥

abbrev pub FindsSales : Office → ℕ → Result Found Refusal → Type 0
FindsSales o after (Ok (found.Sales page)) = page.items ≡ sales_after o after
FindsSales o after result = ⊥

-- ---- what is looked up

-- what is told without a read
abbrev pub FindsHealth : Office → Result Found Refusal → Type 0
FindsHealth o (Ok (found.Health health)) = IsHealthOf o health
FindsHealth o result = ⊥

-- this is found at a moment, or nothing is for this reason
abbrev pub Finds : Office → ℕ → Lookup → Result Found Refusal → Type 0
Finds o moment lookups.Health result = FindsHealth o result
Finds o moment (lookups.Meter number) result =
    result ≡ meter_found number (o.meters number) (prior o number (month_at moment))
    (last_sale o number)
Finds o moment (lookups.LastSale number) result =
    result ≡ last_found (o.meters number) (last_sale o number)
Finds o moment (lookups.SaleOfRef operator order_ref) result =
    result ≡ sale_found (sale_of_ref o operator order_ref)
Finds o moment (lookups.Quote number tender) result = result ≡ quote o moment number tender
Finds o moment (lookups.ShiftTotals number) result =
    result ≡ totals_found number (shift_totals o number)
Finds o moment (lookups.Tariffs after) result = FindsTariffs o (day_at moment) after result
Finds o moment (lookups.Meters after) result = FindsMeters o after result
Finds o moment (lookups.Shifts after) result = FindsShifts o after result
Finds o moment (lookups.Sales after) result = FindsSales o after result

-- that was found in the office, or there was no memory, or the store failed
abbrev pub IsFoundIn : Office → ℕ → Lookup → Result Found Refusal → Type 0
IsFoundIn o moment lookup result =
    Finds o moment lookup result
    ⊎ ((result ≡ Err refusals.Memory) ⊎ (result ≡ Err refusals.Store))

-- a refusal of the rules, and not of the store
pub record IsOfRules (refusal : Refusal) : Type 0 where
  pub not_memory : refusal ≢ refusals.Memory
  pub not_store : refusal ≢ refusals.Store
  pub not_stopped : refusal ≢ refusals.Stopped
