-- What is found where something is looked up, as it was seen of a database that has the office's
-- tables, whatever their rows are: nothing is found where a row of an answer shows no record. And
-- which look-ups the rows stop: a row of an answer to one of the questions that a look-up asks
-- shows no record, or rows of two answers contradict each other. A question counts only where the
-- answers before it were such that it is asked.
use Rattle.std.specs.Prelude.{◌≡◌, ◌⊎◌, ◌<◌, ◌+◌, ℕ, List, [], ◌∷◌, map, Option, None, Some, IsSome}
use Rattle.std.specs.Prelude.{Result, Ok, Err, unwrap_or, ◌≤◌, Any}
use Rattle.std.specs.List.{AllZip}
use Rattle.sqlite.specs.Effect.{Database}
use Rattle.sts_fields.specs.Calendar.{month_at}
use Rattle.sts_fields.specs.Day.{day_at}
use Rattle.sts_fields.specs.declared.base.Base.{Base}
use Rattle.sts_fields.specs.declared.base.Base.TheVariants.{Y1993, Y2014, Y2035}
use Rattle.office_rules.specs.Decision.{MeterAccount}
use Rattle.office_rules.specs.declared.decision.refusal.Refusal.{Refusal}
use Rattle.office_rules.specs.declared.decision.refusal.Refusal.TheVariants as refusals
use Rattle.office_rules.specs.declared.office.meter.Meter.{Meter}
use Rattle.office_rules.specs.declared.office.sale.Sale.{Sale}
use Rattle.office_rules.specs.declared.office.shift.Shift.{Shift}
use Rattle.book_lists.specs.Pages.{page_size}
use Rattle.book_lists.specs.Questions.{the_meters_after, the_next_day, the_shifts_after}
use Rattle.book_lists.specs.Questions.{the_tariffs_after}
use Rattle.book_tables.specs.declared.reading.pages.MeterRow.{MeterRow}
use Rattle.book_tables.specs.declared.row.totals.Totals.{Totals}
use Rattle.book_tables.specs.reading.Questions.{the_last_id, the_meter, the_month_tenths}
use Rattle.book_tables.specs.reading.Questions.{the_sale_of_ref, the_sale_of_tid, the_sales_after}
use Rattle.book_tables.specs.reading.Questions.{the_steps_from, the_shift_totals}
use Rattle.book_tables.specs.reading.Seen.{AreStepsSeen, ShowsAll, ShowsFirst, ShowsMade, HasSpoilt}
use Rattle.book_tables.specs.reading.Seen.{HasSpoiltSteps}
use Rattle.book_states.specs.FactsSeen.{AreStepsSeenOn, IsAccountSeen, OrElse}
use Rattle.book_facts.specs.Listing.{listed_meter}
use Rattle.book_facts.specs.Lookups.{last_found, meter_found, quote_for, sale_found, totals_found}
use Rattle.book_facts.specs.Totals.{AreTotalsSeen, AreTotalsShown, AreTotalsSpoilt}
use Rattle.asks.specs.declared.lookup.Lookup.{Lookup}
use Rattle.asks.specs.declared.lookup.Lookup.TheVariants as lookups
use Rattle.book_states.specs.declared.lookup.Found.{Found}
use Rattle.book_states.specs.declared.lookup.Found.TheVariants as found
use Rattle.book_states.specs.declared.lookup.Health.{Health}
use Rattle.book_states.specs.declared.lookup.LaterSteps.{LaterSteps}
use Rattle.book_states.specs.declared.lookup.ListedMeter.{ListedMeter}
use Rattle.book_states.specs.declared.lookup.ListedShift.{ListedShift}
use Rattle.book_states.specs.declared.lookup.ListedTariff.{ListedTariff}
use Rattle.tariff.specs.declared.step.Step.{Step}
use Rattle.book_states.specs.Spoilt.{AreStepsSpoiltOn, IsAccountSpoilt, SpoiltThen}

-- ---- the last sale to a meter

-- under a base it is that of the last identifier, where there is one
abbrev pub IsLastUnderSeen : List ℕ → Base → Database → Option Sale → Type 0
IsLastUnderSeen number base db None = ShowsFirst (the_last_id number base) db None
IsLastUnderSeen number base db (Some sale) =
    (tid : ℕ) × ShowsFirst (the_last_id number base) db (Some tid)
    × ShowsFirst (the_sale_of_tid number base tid) db (Some sale)

-- the latest base that the meter has a sale under comes first
abbrev pub IsLastSaleSeen : List ℕ → Database → Option Sale → Type 0
IsLastSaleSeen number db last =
    OrElse (IsLastUnderSeen number Y2035 db)
    (OrElse (IsLastUnderSeen number Y2014 db) (IsLastUnderSeen number Y1993 db)) last

-- it is looked for only where there is the meter
pub record IsLastFoundSeen (number : List ℕ) (db : Database) (result : Result Found Refusal)
    : Type 0 where
  pub there : Option Meter
  pub meter : ShowsFirst (the_meter number) db there
  pub sale : Option Sale
  pub last : IsSome there → IsLastSaleSeen number db sale
  pub told : result ≡ last_found there sale

-- what is told of a meter is looked at only where there is the meter
pub record IsMeterFoundSeen (number : List ℕ) (moment : ℕ) (db : Database)
    (result : Result Found Refusal) : Type 0 where
  pub there : Option Meter
  pub meter : ShowsFirst (the_meter number) db there
  pub tenths : ℕ
  pub sold : IsSome there
      → ShowsMade (the_month_tenths number (month_at moment)) (λ sum. unwrap_or sum 0) db tenths
  pub sale : Option Sale
  pub last : IsSome there → IsLastSaleSeen number db sale
  pub told : result ≡ meter_found number there tenths sale

-- ---- the last sale to a meter: where a row stops it

-- the sale of an identifier that is the last one: its row is spoilt, or there is none
abbrev pub IsSaleOfLastSpoilt : List ℕ → Base → ℕ → Database → Type 0
IsSaleOfLastSpoilt number base tid db =
    HasSpoilt (the_sale_of_tid number base tid) db
    ⊎ ShowsFirst (the_sale_of_tid number base tid) db None

-- under a base it is looked for only where there is a last identifier
abbrev pub IsLastUnderSpoilt : List ℕ → Base → Database → Type 0
IsLastUnderSpoilt number base =
    SpoiltThen (the_last_id number base) (IsSaleOfLastSpoilt number base)

-- the sales under an earlier base are looked at only where there is none under the later ones
abbrev pub IsLastSaleSpoilt : List ℕ → Database → Type 0
IsLastSaleSpoilt number db =
    IsLastUnderSpoilt number Y2035 db
    ⊎ (IsLastUnderSeen number Y2035 db None × (IsLastUnderSpoilt number Y2014 db
    ⊎ (IsLastUnderSeen number Y2014 db None × IsLastUnderSpoilt number Y1993 db)))

-- it is looked for only where there is the meter
abbrev pub IsLastFoundSpoilt : List ℕ → Database → Type 0
IsLastFoundSpoilt number = SpoiltThen (the_meter number) (λ m. IsLastSaleSpoilt number)

-- what was sold to a meter: both the tenths of its month and its last sale are looked at
abbrev pub IsSoldToSpoilt : List ℕ → ℕ → Database → Type 0
IsSoldToSpoilt number moment db =
    HasSpoilt (the_month_tenths number (month_at moment)) db ⊎ IsLastSaleSpoilt number db

-- only where there is the meter
abbrev pub IsMeterFoundSpoilt : List ℕ → ℕ → Database → Type 0
IsMeterFoundSpoilt number moment = SpoiltThen (the_meter number) (λ m. IsSoldToSpoilt number moment)

-- ---- lists

-- the steps from each later day on, one day after another until there is none
abbrev pub AreLaterSeen : List ℕ → ℕ → Database → List LaterSteps → Type 0
AreLaterSeen name day db [] = ShowsFirst (the_next_day name day) db None
AreLaterSeen name day db (next ∷ later) =
    ShowsFirst (the_next_day name day) db (Some next.from) × (day < next.from)
    × AreStepsSeen (the_steps_from name next.from) db (Some next.steps)
    × AreLaterSeen name next.from db later

-- a tariff of a list, of this name
pub record IsTariffListedSeen (day : ℕ) (db : Database) (name : List ℕ) (t : ListedTariff)
    : Type 0 where
  pub named : t.name ≡ name
  pub steps : AreStepsSeenOn name day db (Some t.steps)
  pub later : AreLaterSeen name day db t.later.items

-- a shift of a list with its totals
abbrev pub IsShiftListedSeen : Database → Shift → ListedShift → Type 0
IsShiftListedSeen db shift listed =
    (listed.shift ≡ shift) × AreTotalsShown shift.number db listed.totals

abbrev pub AreTariffsSeen : ℕ → Option (List ℕ) → Database → List ListedTariff → Type 0
AreTariffsSeen day after db page =
    (names : List (List ℕ)) × ShowsAll (the_tariffs_after (unwrap_or after [])) db names
    × AllZip (IsTariffListedSeen day db) names page

abbrev pub AreMetersSeen : Option (List ℕ) → Database → List ListedMeter → Type 0
AreMetersSeen after db page =
    (rows : List MeterRow) × ShowsAll (the_meters_after (unwrap_or after [])) db rows
    × (page ≡ map listed_meter rows)

abbrev pub AreShiftsSeen : ℕ → Database → List ListedShift → Type 0
AreShiftsSeen after db page =
    (shifts : List Shift) × ShowsAll (the_shifts_after after) db shifts
    × AllZip (IsShiftListedSeen db) shifts page

-- a tariff that is looked for by its name: where it has no steps there is none
abbrev pub IsTariffNamedSeen : ℕ → List ℕ → Database → Option ListedTariff → Type 0
IsTariffNamedSeen day name db None = AreStepsSeenOn name day db None
IsTariffNamedSeen day name db (Some t) = IsTariffListedSeen day db name t

-- ---- lists: where a row stops it

-- the steps from the next day behind a day on: a row of them is spoilt, or there are none, or it is
-- no later day
abbrev pub AreNextSpoilt : List ℕ → ℕ → ℕ → Database → Type 0
AreNextSpoilt name day from db =
    HasSpoiltSteps (the_steps_from name from) db
    ⊎ (AreStepsSeen (the_steps_from name from) db None ⊎ (from ≤ day))

-- behind these later steps, which were seen one day after another, those of the next day are so
abbrev pub IsSpoiltBehind : List ℕ → ℕ → Database → List LaterSteps → Type 0
IsSpoiltBehind name day db [] = SpoiltThen (the_next_day name day) (AreNextSpoilt name day) db
IsSpoiltBehind name day db (next ∷ later) =
    ShowsFirst (the_next_day name day) db (Some next.from) × (day < next.from)
    × AreStepsSeen (the_steps_from name next.from) db (Some next.steps)
    × IsSpoiltBehind name next.from db later

abbrev pub AreLaterSpoilt : List ℕ → ℕ → Database → Type 0
AreLaterSpoilt name day db = (later : List LaterSteps) × IsSpoiltBehind name day db later

-- a tariff that is looked for by its name: the later days only where it has steps on the day
abbrev pub IsTariffNamedSpoilt : ℕ → List ℕ → Database → Type 0
IsTariffNamedSpoilt day name db =
    AreStepsSpoiltOn name day db
    ⊎ ((steps : List Step) × AreStepsSeenOn name day db (Some steps) × AreLaterSpoilt name day db)

-- a tariff of a list: so, or it has no steps
abbrev pub IsTariffListedSpoilt : ℕ → Database → List ℕ → Type 0
IsTariffListedSpoilt day db name =
    IsTariffNamedSpoilt day name db ⊎ AreStepsSeenOn name day db None

abbrev pub AreTariffsSpoilt : ℕ → Option (List ℕ) → Database → Type 0
AreTariffsSpoilt day after db =
    HasSpoilt (the_tariffs_after (unwrap_or after [])) db
    ⊎ ((names : List (List ℕ)) × ShowsAll (the_tariffs_after (unwrap_or after [])) db names
    × Any (IsTariffListedSpoilt day db) names)

-- the totals of a shift of a list
abbrev pub IsShiftListedSpoilt : Database → Shift → Type 0
IsShiftListedSpoilt db shift = HasSpoilt (the_shift_totals shift.number) db

abbrev pub AreShiftsSpoilt : ℕ → Database → Type 0
AreShiftsSpoilt after db =
    HasSpoilt (the_shifts_after after) db
    ⊎ ((shifts : List Shift) × ShowsAll (the_shifts_after after) db shifts
    × Any (IsShiftListedSpoilt db) shifts)

-- a page is of its own rows alone
abbrev pub AreMetersSpoilt : Option (List ℕ) → Database → Type 0
AreMetersSpoilt after db = HasSpoilt (the_meters_after (unwrap_or after [])) db

abbrev pub AreSalesSpoilt : ℕ → Database → Type 0
AreSalesSpoilt after db = HasSpoilt (the_sales_after after page_size) db

-- ---- what is looked up

abbrev pub IsSaleFoundSeen : List ℕ → List ℕ → Database → Result Found Refusal → Type 0
IsSaleFoundSeen operator order_ref db result =
    (there : Option Sale) × ShowsFirst (the_sale_of_ref operator order_ref) db there
    × (result ≡ sale_found there)

abbrev pub IsQuoteSeen : List ℕ → ℕ → ℕ → ℕ → Database → Result Found Refusal → Type 0
IsQuoteSeen number moment tender count db result =
    (account : Option MeterAccount) × IsAccountSeen number moment db account
    × (result ≡ quote_for moment number tender account count)

abbrev pub AreTotalsFoundSeen : ℕ → Database → Result Found Refusal → Type 0
AreTotalsFoundSeen number db result =
    (there : Option Totals) × AreTotalsSeen number db there × (result ≡ totals_found number there)

abbrev pub FindsTariffsSeen : ℕ → Option (List ℕ) → Database → Result Found Refusal → Type 0
FindsTariffsSeen day after db (Ok (found.Tariffs page)) = AreTariffsSeen day after db page.items
FindsTariffsSeen day after db result = ⊥

abbrev pub FindsMetersSeen : Option (List ℕ) → Database → Result Found Refusal → Type 0
FindsMetersSeen after db (Ok (found.Meters page)) = AreMetersSeen after db page.items
FindsMetersSeen after db result = ⊥

abbrev pub FindsShiftsSeen : ℕ → Database → Result Found Refusal → Type 0
FindsShiftsSeen after db (Ok (found.Shifts page)) = AreShiftsSeen after db page.items
FindsShiftsSeen after db result = ⊥

abbrev pub FindsSalesSeen : ℕ → Database → Result Found Refusal → Type 0
FindsSalesSeen after db (Ok (found.Sales page)) =
    ShowsAll (the_sales_after after page_size) db page.items
FindsSalesSeen after db result = ⊥

-- this was found at a moment, or nothing was, where this is told without a read
abbrev pub FindsSeen : Health → ℕ → Lookup → Database → Result Found Refusal → Type 0
FindsSeen health moment lookups.Health db result = result ≡ Ok (found.Health health)
FindsSeen health moment (lookups.Meter number) db result = IsMeterFoundSeen number moment db result
FindsSeen health moment (lookups.LastSale number) db result = IsLastFoundSeen number db result
FindsSeen health moment (lookups.SaleOfRef operator order_ref) db result =
    IsSaleFoundSeen operator order_ref db result
FindsSeen health moment (lookups.Quote number tender) db result =
    IsQuoteSeen number moment tender health.sales db result
FindsSeen health moment (lookups.ShiftTotals number) db result = AreTotalsFoundSeen number db result
FindsSeen health moment (lookups.Tariffs after) db result =
    FindsTariffsSeen (day_at moment) after db result
FindsSeen health moment (lookups.Meters after) db result = FindsMetersSeen after db result
FindsSeen health moment (lookups.Shifts after) db result = FindsShiftsSeen after db result
FindsSeen health moment (lookups.Sales after) db result = FindsSalesSeen after db result

-- the same; or there was no memory, or the store failed
abbrev pub IsFoundSeen : Health → ℕ → Lookup → Database → Result Found Refusal → Type 0
IsFoundSeen health moment lookup db result =
    FindsSeen health moment lookup db result
    ⊎ ((result ≡ Err refusals.Memory) ⊎ (result ≡ Err refusals.Store))

-- ---- what is looked up: where a row stops it

abbrev pub IsSaleFoundSpoilt : List ℕ → List ℕ → Database → Type 0
IsSaleFoundSpoilt operator order_ref db = HasSpoilt (the_sale_of_ref operator order_ref) db

-- at a moment; the count of the sales is in no row
abbrev pub LookupSpoilt : ℕ → Lookup → Database → Type 0
LookupSpoilt moment lookups.Health db = ⊥
LookupSpoilt moment (lookups.Meter number) db = IsMeterFoundSpoilt number moment db
LookupSpoilt moment (lookups.LastSale number) db = IsLastFoundSpoilt number db
LookupSpoilt moment (lookups.SaleOfRef operator order_ref) db =
    IsSaleFoundSpoilt operator order_ref db
LookupSpoilt moment (lookups.Quote number tender) db = IsAccountSpoilt number moment db
LookupSpoilt moment (lookups.ShiftTotals number) db = AreTotalsSpoilt number db
LookupSpoilt moment (lookups.Tariffs after) db = AreTariffsSpoilt (day_at moment) after db
LookupSpoilt moment (lookups.Meters after) db = AreMetersSpoilt after db
LookupSpoilt moment (lookups.Shifts after) db = AreShiftsSpoilt after db
LookupSpoilt moment (lookups.Sales after) db = AreSalesSpoilt after db
