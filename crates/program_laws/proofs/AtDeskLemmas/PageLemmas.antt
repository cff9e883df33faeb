-- The pages that a desk tells of a list are those of its office: they are printed alike, and the same list is behind them.
use Rattle.std.proofs.Common.{◌≡◌, ◌∙◌, ℕ, zero, suc, ◌-◌, ◌≤◌, Bool, true, false, List, [], ◌∷◌, ◌++◌, length, Option, None, Some, Ok, refl, sym, ap, subst, arith, Vec, Global}
use Rattle.std.specs.Prelude.{◌==◌, All, Contains, IfSome, IsSome, codes, filter, if◌then◌else◌, map, nat_lt, option_map, slice_get, take, unwrap_or}
use Rattle.std.specs.List.{flat_map}
use Rattle.std.specs.Option.{option_or}
use Rattle.std.proofs.lemmas.List.{length-map, length-take}
use Rattle.std.proofs.lemmas.List.Elements.{All-contains, All-contains_itself, All-filter, All-map, All-take, All-weaker}
use Rattle.std.proofs.lemmas.Option.{get_or_from_slice_get, slice_get-map, slice_get_within}
use Rattle.papers.specs.Export.{export_of, header_text, sale_record}
use Rattle.sts_fields.specs.Day.{day_at}
use Rattle.sts_fields.specs.Moment.{IsMoment}
use Rattle.tariff.specs.Steps.{IsSteps}
use Rattle.tariff.specs.declared.step.Step.{Step}
use Rattle.office_rules.specs.Name.{IsMeterNo, IsName}
use Rattle.office_rules.specs.Office.{IsOffice, Office}
use Rattle.office_rules.specs.Office.Lookup.{latest, steps_on}
use Rattle.office_rules.specs.declared.office.sale.Sale.{Sale}
use Rattle.office_rules.specs.declared.office.shift.Shift.{Shift}
use Rattle.book_facts.specs.Lookups.{Finds, IsListedMeter, IsListedTariff, listed_shift}
use Rattle.book_states.specs.declared.lookup.Found.{Found}
use Rattle.book_states.specs.declared.lookup.Found.TheVariants as found
use Rattle.book_states.specs.declared.lookup.ListedMeter.{ListedMeter}
use Rattle.book_states.specs.declared.lookup.ListedShift.{ListedShift}
use Rattle.book_states.specs.declared.lookup.ListedTariff.{ListedTariff}
use Rattle.book_lists.specs.Pages.{page_size}
use Rattle.asks.specs.declared.ask.Ask.TheVariants.{Look}
use Rattle.asks.specs.declared.lookup.Lookup.{Lookup}
use Rattle.asks.specs.declared.lookup.Lookup.TheVariants as lookups
use Rattle.records.specs.List.{list_text, page_text as list_page}
use Rattle.desk_messages.specs.reply.Records.{sale_text}
use Rattle.desk_client.specs.Sent.{CanSend}
use Rattle.desk_client.specs.Page.{AreAlike, AreTold, HasTokens, HaveTokens, IsToldEnd, IsToldLater, IsToldListedMeter, IsToldListedShift, IsToldPage, IsToldTariff, tariff_view}
use Rattle.desk_client.specs.Page as pages
use Rattle.desk_client.specs.declared.page.PageKind.{PageKind}
use Rattle.desk_client.specs.declared.page.PageKind.TheVariants as kinds
use Rattle.desk_client.specs.Sale.{IsSaleTold}
use Rattle.std.proofs.lemmas.List.Elements.{recursion_from_All}
use Rattle.vend_core.specs.Law.Reached.{IsPlausible}
use Rattle.desk_client.specs.Tells.{as_told}
use Rattle.desk_commands.specs.ListedAtDesk.{IsNoList, page_kind}
use Rattle.tariff.specs.StepsText.{steps_text}
use Rattle.vend_ports.specs.print.Printed.{table_row_of}
use Rattle.desk_commands.specs.print.ListTexts.{later_line, meter_line, meter_names, page_text, shift_rows_text, table_text, tariff_names}
use Rattle.desk_commands.specs.print.Pages.{last_of_full, list_behind}
use Rattle.program_laws.proofs.AtDeskLemmas.RangeLemmas.{or_keeps, sale_numbered, shift_numbered, shift_row, tariff_named, there_is, totals_within}
use Rattle.program_laws.proofs.AtDeskLemmas.TellableLemmas.{RangeLaws, sale_told}
use Rattle.program_laws.proofs.AtDeskLemmas.TokenLemmas.{HasToken, token_there}

-- ---- members

-- what holds of each member of a list that stands in another holds of all
all_from : {A : Type 0} (P : A → Type 0) (xs : List A) → ((x : A) → Contains xs x → P x) → All P xs
all_from P xs each = All-weaker (Contains xs) P each xs (All-contains_itself xs)

-- the steps of a tariff on a day keep the rules
latest_priced : (dated : ℕ → Option (List Step)) → ((day : ℕ) → IfSome (dated day) IsSteps) → (day : ℕ) → IfSome (latest dated day) IsSteps
unfolding latest
latest_priced dated each zero = each zero
latest_priced dated each (suc day) = or_keeps IsSteps (dated (suc day)) (latest dated day) (each (suc day)) (latest_priced dated each day)

priced : (o : Office) (name : List ℕ) (day : ℕ) → IsOffice o → IsSome (o.tariffs name) → IsSteps (steps_on o name day)
priced o name day office some =
    let first = there_is (o.tariffs name) some in
    whole (latest (o.dated_steps name) day) (o.tariffs name) first.0 first.1 (latest_priced (o.dated_steps name) dated day)
    (office.tariffs name first.0 first.1).priced
  where
    dated_is : (day : ℕ) (there : Option (List Step)) → o.dated_steps name day ≡ there → IfSome there IsSteps
    dated_is day None is = tt
    dated_is day (Some steps) is = (office.dated_steps name day steps is).priced

    dated : (day : ℕ) → IfSome (o.dated_steps name day) IsSteps
    dated day = dated_is day (o.dated_steps name day) refl

    whole : (a b : Option (List Step)) (first : List Step) → b ≡ Some first → IfSome a IsSteps → IsSteps first → IsSteps (unwrap_or (option_or a b) [])
    whole None b first is h k = subst (λ (b : Option (List Step)). IsSteps (unwrap_or b [])) (sym is) k
    whole (Some steps) b first is h k = h

tariff_told : (o : Office) (day : ℕ) (t : ListedTariff) → IsOffice o → IsListedTariff o day t → IsToldTariff t
tariff_told o day t office is = record {
  name = tariff_named o t.name office is.there;
  steps = subst IsSteps (sym is.steps) (priced o t.name day office is.there);
  later = all_from IsToldLater t.later.items (λ l there.
      let dated = (is.later.are l.from l.steps).1 there in
      let row = office.dated_steps t.name l.from l.steps dated.1 in
      record { from = row.in_range; steps = row.priced });
}

meter_told : (o : Office) (m : ListedMeter) → IsOffice o → IsListedMeter o m → IsToldListedMeter m
meter_told o m office (stored, is, base, tariff) =
    let row = office.meters m.number stored is in
    record { number = row.numbered; tariff = tariff_named o m.tariff office (subst (λ (name : List ℕ). IsSome (o.tariffs name)) (sym tariff) row.tariff) }

shift_told : RangeLaws → (o : Office) (s : Shift) → IsOffice o → Contains o.shifts s → IsToldListedShift (listed_shift o s)
shift_told laws o s office there =
    let row = shift_row o s office there in
    record {
      number = shift_numbered o s office there;
      operator = row.operator;
      opened = row.opened;
      closed = ended s.closed row.closed;
      totals = totals_within laws.greatest o s.number office;
    }
  where
    ended : (closed : Option ℕ) → ((secs : ℕ) → closed ≡ Some secs → IsMoment secs) → IsToldEnd closed
    ended None is = tt
    ended (Some secs) is = is secs refl

-- a page of those after a number has no more than a page has
few_told : {A B : Type 0} (f : A → B) (xs : List A) (p : A → Bool) → length (map f (take page_size (filter p xs))) ≤ 100
few_told f xs p = omega (arith, length-map (take page_size (filter p xs)) f, length-take page_size (filter p xs))

each_of : {A : Type 0} (p : A → Bool) (xs : List A) → All (Contains xs) (take page_size (filter p xs))
each_of p xs = All-take (Contains xs) page_size (filter p xs) (All-filter p (Contains xs) xs (All-contains_itself xs))

told_each : {A B : Type 0} (Q : B → Type 0) (f : A → B) (xs : List A) (p : A → Bool) → ((x : A) → Contains xs x → Q (f x))
    → All Q (map f (take page_size (filter p xs)))
told_each Q f xs p each =
    All-map Q f (take page_size (filter p xs)) (All-weaker (Contains xs) (λ x. Q (f x)) each (take page_size (filter p xs)) (each_of p xs))

-- ---- pages

-- a page as it is told, without the nibbles of its sales
abbrev pub page_as_told : Found → Found
page_as_told (found.Sales page) =
    found.Sales (record page { items = map as_told page.items; ok = (page.ok.0 ∙ sym (length-map page.items as_told), page.ok.1) })
page_as_told page = page

-- what each of some members has, the one that is there has
mapped_some : {A B : Type 0} (P : A → Type 0) (Q : B → Type 0) (f : A → B) (there : Option A) → IfSome there P → ((x : A) → P x → Q (f x))
    → IfSome (option_map f there) Q
mapped_some P Q f None h each = tt
mapped_some P Q f (Some x) h each = each x h

-- the first page of a list can be asked for
abbrev pub CanAsk : Lookup → Type 0
CanAsk list = CanSend (Look list)

-- a page of a list of an office
abbrev pub FindsPage : Office → ℕ → Lookup → Found → Type 0
FindsPage o moment (lookups.Tariffs after) page = Finds o moment (lookups.Tariffs after) (Ok page)
FindsPage o moment (lookups.Meters after) page = Finds o moment (lookups.Meters after) (Ok page)
FindsPage o moment (lookups.Shifts after) page = Finds o moment (lookups.Shifts after) (Ok page)
FindsPage o moment (lookups.Sales after) page = Finds o moment (lookups.Sales after) (Ok page)
FindsPage o moment lookup page = ⊥

-- what is found of a list is a page of it
pub finds_page : (o : Office) (moment : ℕ) (list : Lookup) → ¬ IsNoList list → (page : Found) → Finds o moment list (Ok page) → FindsPage o moment list page
finds_page o moment (lookups.Tariffs after) some page finds = finds
finds_page o moment (lookups.Meters after) some page finds = finds
finds_page o moment (lookups.Shifts after) some page finds = finds
finds_page o moment (lookups.Sales after) some page finds = finds
finds_page o moment list some page finds = absurd (some tt)

-- ---- the last member of a full page

-- what stands last stands in the list
last_there : {A : Type 0} (xs : List A) → IfSome (last_of_full xs) (Contains xs)
last_there {A} xs = by_full (length xs == page_size)
  where
    by_last : (last : Option A) → slice_get xs (length xs - 1) ≡ last → IfSome last (Contains xs)
    by_last None is = tt
    by_last (Some x) is = (length xs - 1, slice_get_within xs (length xs - 1) x is, get_or_from_slice_get xs (length xs - 1) x x is)

    by_full : (b : Bool) → IfSome (if b then slice_get xs (length xs - 1) else None) (Contains xs)
    by_full true = by_last (slice_get xs (length xs - 1)) refl
    by_full false = tt

-- by what is seen of the members
last_seen : {A B : Type 0} (view : A → B) (xs : List A) → last_of_full (map view xs) ≡ option_map view (last_of_full xs)
last_seen {A} {B} view xs =
    ap (λ (n : ℕ). if n == page_size then slice_get (map view xs) (n - 1) else None) (length-map xs view)
    ∙ by_full (length xs == page_size)
  where
    by_full : (b : Bool) → (if b then slice_get (map view xs) (length xs - 1) else None) ≡ option_map view (if b then slice_get xs (length xs - 1) else None)
    by_full true = slice_get-map view xs (length xs - 1)
    by_full false = refl

mapped_twice : {A B C : Type 0} (f : A → B) (g : B → C) (there : Option A) → option_map g (option_map f there) ≡ option_map (λ x. g (f x)) there
mapped_twice f g None = refl
mapped_twice f g (Some x) = refl

-- lists that are seen to have the same members have the same list behind them
same_behind : {A B : Type 0} (view : A → B) (next : B → Lookup) (xs ys : List A) → map view xs ≡ map view ys
    → option_map (λ x. next (view x)) (last_of_full xs) ≡ option_map (λ x. next (view x)) (last_of_full ys)
same_behind view next xs ys same =
    sym (mapped_twice view next (last_of_full xs)) ∙ ap (λ there. option_map next there) (sym (last_seen view xs)) ∙ ap
    (λ zs. option_map next (last_of_full zs)) same
    ∙ ap (λ there. option_map next there) (last_seen view ys) ∙ mapped_twice view next (last_of_full ys)

-- and the same lines
lines_seen : {A B : Type 0} (view : A → B) (line : B → List ℕ) (xs : List A) → flat_map (λ x. line (view x)) xs ≡ flat_map line (map view xs)
lines_seen view line [] = refl
lines_seen view line (x ∷ xs) = ap (λ (rest : List ℕ). line (view x) ++ rest) (lines_seen view line xs)

same_lines : {A B : Type 0} (view : A → B) (line : B → List ℕ) (xs ys : List A) → map view xs ≡ map view ys
    → flat_map (λ x. line (view x)) xs ≡ flat_map (λ x. line (view x)) ys
same_lines view line xs ys same = lines_seen view line xs ∙ ap (λ zs. flat_map line zs) same ∙ sym (lines_seen view line ys)

-- ---- a page of an office

-- its members keep the rules of what is told
pub page_told : RangeLaws → (o : Office) → IsOffice o → (moment : ℕ) (list : Lookup) (page : Found) → FindsPage o moment list page
    → IsToldPage (page_kind list) (page_as_told page)
page_told laws o office moment (lookups.Tariffs after) (found.Tariffs page) is = record {
  each = All-weaker (IsListedTariff o (day_at moment)) IsToldTariff (λ t there. tariff_told o (day_at moment) t office there) page.items is.each;
  few = omega (arith, is.first.few, length-map page.items (λ (t : ListedTariff). t.name));
}
page_told laws o office moment (lookups.Meters after) (found.Meters page) is = record {
  each = All-weaker (IsListedMeter o) IsToldListedMeter (λ m there. meter_told o m office there) page.items is.each;
  few = omega (arith, is.first.few, length-map page.items (λ (m : ListedMeter). m.number));
}
page_told laws o office moment (lookups.Shifts after) (found.Shifts page) is =
    subst (AreTold IsToldListedShift) (sym is) (record {
      each = told_each IsToldListedShift (listed_shift o) o.shifts (λ s. nat_lt after s.number) (λ s there. shift_told laws o s office there);
      few = few_told (listed_shift o) o.shifts (λ s. nat_lt after s.number);
    })
page_told laws o office moment (lookups.Sales after) (found.Sales page) is =
    subst (λ (items : List Sale). AreTold IsSaleTold (map as_told items)) (sym is) (record {
      each = told_each IsSaleTold as_told o.sales (λ s. nat_lt after s.number) (λ s there. sale_told o s office there);
      few = few_told as_told o.sales (λ s. nat_lt after s.number);
    })
page_told laws o office moment list page is = absurd is

-- the digits of its sales can be a token's, where those of the office's can
pub page_tokens : (o : Office) → IsPlausible o → (moment : ℕ) (list : Lookup) (page : Found) → FindsPage o moment list page
    → HasTokens (page_as_told page)
page_tokens o plausible moment (lookups.Tariffs after) (found.Tariffs page) is = tt
page_tokens o plausible moment (lookups.Meters after) (found.Meters page) is = tt
page_tokens o plausible moment (lookups.Shifts after) (found.Shifts page) is = tt
page_tokens o plausible moment (lookups.Sales after) (found.Sales page) is =
    subst (λ (items : List Sale). HaveTokens (map as_told items)) (sym is)
    (recursion_from_All HasToken (map as_told (take page_size (filter (λ s. nat_lt after s.number) o.sales)))
    (told_each HasToken as_told o.sales (λ s. nat_lt after s.number) (λ s there. token_there o s plausible there)))
page_tokens o plausible moment list page is = absurd is

abbrev SmallShift : ListedShift → Type 0
SmallShift l = l.shift.number ≤ 1000000000

small_shifts : (o : Office) → IsOffice o → (after : ℕ) → All SmallShift (map (listed_shift o) (take page_size (filter (λ s. nat_lt after s.number) o.shifts)))
small_shifts o office after = told_each SmallShift (listed_shift o) o.shifts (λ s. nat_lt after s.number) (λ s there. (shift_numbered o s office there).most)

-- a list after a value of its rule can be asked for
pub can_list_tariffs : (name : List ℕ) → IsName name → CanAsk (lookups.Tariffs (Some name))
can_list_tariffs name named =
    record { askable = record { target = (record { of_kind = refl; kept = named }, tt); body = (tt, tt) }; fits = tt }

-- so can one after a meter
pub can_list_meters : (number : List ℕ) → IsMeterNo number → CanAsk (lookups.Meters (Some number))
can_list_meters number numbered =
    record { askable = record { target = (record { of_kind = refl; kept = numbered }, tt); body = (tt, tt) }; fits = tt }

-- after a shift
pub can_list_shifts : (after : ℕ) → after ≤ 1000000000 → CanAsk (lookups.Shifts after)
can_list_shifts after most =
    record { askable = record { target = (record { of_kind = refl; kept = record { most = most } }, tt); body = (tt, tt) }; fits = tt }

-- and after a sale
pub can_list_sales : (after : ℕ) → after ≤ 1000000000 → CanAsk (lookups.Sales after)
can_list_sales after most =
    record { askable = record { target = (record { of_kind = refl; kept = record { most = most } }, tt); body = (tt, tt) }; fits = tt }

-- that behind it can
pub behind_askable : (o : Office) → IsOffice o → (moment : ℕ) (list : Lookup) (page : Found) → FindsPage o moment list page
    → IfSome (list_behind page) CanAsk
behind_askable o office moment (lookups.Tariffs after) (found.Tariffs page) is =
    mapped_some (Contains page.items) CanAsk (λ (t : ListedTariff). lookups.Tariffs (Some t.name)) (last_of_full page.items) (last_there page.items)
    (λ t there. can_list_tariffs t.name (tariff_named o t.name office (All-contains (IsListedTariff o (day_at moment)) page.items t is.each there).there))
behind_askable o office moment (lookups.Meters after) (found.Meters page) is =
    mapped_some (Contains page.items) CanAsk (λ (m : ListedMeter). lookups.Meters (Some m.number)) (last_of_full page.items) (last_there page.items)
    (λ m there. can_list_meters m.number (meter_told o m office (All-contains (IsListedMeter o) page.items m is.each there)).number)
behind_askable o office moment (lookups.Shifts after) (found.Shifts page) is =
    mapped_some (Contains page.items) CanAsk (λ (l : ListedShift). lookups.Shifts l.shift.number) (last_of_full page.items) (last_there page.items)
    (λ l there. can_list_shifts l.shift.number (All-contains SmallShift page.items l (subst (All SmallShift) (sym is) (small_shifts o office after)) there))
behind_askable o office moment (lookups.Sales after) (found.Sales page) is =
    mapped_some (Contains page.items) CanAsk (λ (s : Sale). lookups.Sales s.number) (last_of_full page.items) (last_there page.items)
    (λ s there. can_list_sales s.number (sale_numbered o s office
    (All-contains (Contains o.sales) page.items s (subst (All (Contains o.sales)) (sym is) (each_of _ o.sales)) there)).most)
behind_askable o office moment list page is = absurd is

-- ---- two pages alike

-- the nibbles of sales are not told
same_data : (items : List Sale) → map sale_text (map as_told items) ≡ map sale_text items
same_data [] = refl
same_data (s ∷ items) = ap (λ rest. sale_text s ∷ rest) (same_data items)

-- the text of a page is the same without the nibbles of its sales
pub told_text : (page : Found) → pages.page_as_read (page_as_told page) ≡ pages.page_as_read page
told_text (found.Health health) = refl
told_text (found.Meter m) = refl
told_text (found.Sale s) = refl
told_text (found.Quote q) = refl
told_text (found.ShiftTotals n totals) = refl
told_text (found.Tariffs page) = refl
told_text (found.Meters page) = refl
told_text (found.Shifts page) = refl
told_text (found.Sales page) = ap (λ items. list_page (codes "sales") (list_text items)) (same_data page.items)

numbers_told : (items : List Sale) → map (λ (s : Sale). s.number) (map as_told items) ≡ map (λ (s : Sale). s.number) items
numbers_told [] = refl
numbers_told (s ∷ items) = ap (λ rest. s.number ∷ rest) (numbers_told items)

records_told : (items : List Sale) → flat_map sale_record (map as_told items) ≡ flat_map sale_record items
records_told [] = refl
records_told (s ∷ items) = ap (λ (rest : List ℕ). sale_record s ++ rest) (records_told items)

export_told : (first : Bool) (items : List Sale) → export_of first (map as_told items) ≡ export_of first items
unfolding export_of
export_told first items = ap (λ (rest : List ℕ). header_text first ++ rest) (records_told items)

-- what a page has is the same for its list and its text
pub record IsSamePage (page other : Found) : Type 0 where
  pub behind : list_behind page ≡ list_behind other
  pub lines : (first : Bool) → page_text false first page ≡ page_text false first other
  pub json : (first : Bool) → page_text true first page ≡ page_text true first other

same_json : (page other : Found) → pages.page_as_read page ≡ pages.page_as_read other → (first : Bool) → page_text true first page ≡ page_text true first other
same_json page other same first = ap (λ (text : List ℕ). text ++ 10 ∷ []) same

same_tariffs : (page : Vec ListedTariff Global) (other : Found) → AreAlike (found.Tariffs page) (page_as_told other)
    → pages.page_as_read (found.Tariffs page) ≡ pages.page_as_read other → IsSamePage (found.Tariffs page) other
same_tariffs page (found.Tariffs other) alike text = record {
  behind = same_behind tariff_view (λ view. lookups.Tariffs (Some view.0)) page.items other.items alike;
  lines = λ first. ap (λ (lines : List ℕ). table_text first tariff_names lines)
      (same_lines tariff_view
      (λ view. table_row_of (view.0 ∷ codes "-" ∷ steps_text view.1 ∷ []) ++ flat_map (later_line view.0) view.2) page.items other.items alike);
  json = same_json (found.Tariffs page) (found.Tariffs other) text;
}
same_tariffs page other alike text = absurd alike

same_meters : (page : Vec ListedMeter Global) (other : Found) → AreAlike (found.Meters page) (page_as_told other)
    → pages.page_as_read (found.Meters page) ≡ pages.page_as_read other → IsSamePage (found.Meters page) other
same_meters page (found.Meters other) alike text = record {
  behind = ap (λ items. option_map (λ m. lookups.Meters (Some m.number)) (last_of_full items)) alike;
  lines = λ first. ap (λ items. table_text first meter_names (flat_map meter_line items)) alike;
  json = same_json (found.Meters page) (found.Meters other) text;
}
same_meters page other alike text = absurd alike

same_shifts : (page : Vec ListedShift Global) (other : Found) → AreAlike (found.Shifts page) (page_as_told other)
    → pages.page_as_read (found.Shifts page) ≡ pages.page_as_read other → IsSamePage (found.Shifts page) other
same_shifts page (found.Shifts other) alike text = record {
  behind = ap (λ items. option_map (λ l. lookups.Shifts l.shift.number) (last_of_full items)) alike;
  lines = λ first. ap (λ items. shift_rows_text first items) alike;
  json = same_json (found.Shifts page) (found.Shifts other) text;
}
same_shifts page other alike text = absurd alike

same_sales : (page : Vec Sale Global) (other : Found) → AreAlike (found.Sales page) (page_as_told other)
    → pages.page_as_read (found.Sales page) ≡ pages.page_as_read other → IsSamePage (found.Sales page) other
same_sales page (found.Sales other) alike text = record {
  behind =
      same_behind (λ (s : Sale). s.number) (λ (n : ℕ). lookups.Sales n) page.items other.items
      (ap (λ items. map (λ (s : Sale). s.number) items) alike ∙ numbers_told other.items);
  lines = λ first. ap (λ items. export_of first items) alike ∙ export_told first other.items;
  json = same_json (found.Sales page) (found.Sales other) text;
}
same_sales page other alike text = absurd alike

-- two pages that are told alike with one text have the same lines and the same list behind
pub same_page : (kind : PageKind) (page other : Found) → IsToldPage kind page → AreAlike page (page_as_told other)
    → pages.page_as_read page ≡ pages.page_as_read other → IsSamePage page other
same_page kinds.Tariffs (found.Tariffs page) other h alike text = same_tariffs page other alike text
same_page kinds.Meters (found.Meters page) other h alike text = same_meters page other alike text
same_page kinds.Shifts (found.Shifts page) other h alike text = same_shifts page other alike text
same_page kinds.Sales (found.Sales page) other h alike text = same_sales page other alike text
same_page kind page other h alike text = absurd h
