-- Each look-up, once: that what an office finds of it answers it, can be told and is printed as it was found; and by which words it is asked for.
use Rattle.std.proofs.Common.{◌≡◌, ◌⊎◌, ℕ, zero, suc, ◌+◌, Bool, true, false, List, [], ◌∷◌, length, Option, None, Some, Result, Ok, Err, inl, inr, refl, sym, ap, subst, arith, codes}
use Rattle.std.specs.Prelude.{Contains, IfErr, IfSome, IsSome, if◌then◌else◌, nat_lt, option_map}
use Rattle.std.specs.Option.{ok_or}
use Rattle.std.proofs.lemmas.List.Elements.{All-contains, All-contains_itself, All-filter, All-take}
use Rattle.std.proofs.lemmas.Slice.Eq.{bytes_eq-Decides}
use Rattle.clap.specs.Walk.{Row}
use Rattle.sts_fields.specs.Calendar.{month_at}
use Rattle.sts_fields.specs.Text.{Text}
use Rattle.sts_fields.specs.Tid.{fresh_after, minute_of}
use Rattle.sts_fields.specs.declared.fault.TidFault.{TidFault}
use Rattle.sts_fields.specs.declared.fault.TidFault.TheVariants as tids
use Rattle.tariff.specs.Purchase.{purchase_of}
use Rattle.papers.specs.Receipt.{receipt_of}
use Rattle.office_rules.specs.Decision.{◌>>=◌, MeterAccount, account_of, next_number, or_refusal}
use Rattle.office_rules.specs.Office.{IsOffice, Office, greatest_count}
use Rattle.office_rules.specs.Office.Lookup.{prior, sale_of_ref, sales_of_shift, shift_numbered}
use Rattle.office_rules.specs.declared.decision.refusal.Refusal.{Refusal}
use Rattle.office_rules.specs.declared.decision.refusal.Refusal.TheVariants as refusals
use Rattle.office_rules.specs.declared.office.meter.Meter.{Meter}
use Rattle.office_rules.specs.declared.office.sale.Sale.{Sale}
use Rattle.office_rules.specs.declared.office.shift.Shift.{Shift}
use Rattle.office_rules.proofs.OfficeLemmas.RowLemmas.{found as found_by, option_map_some, parts_true}
use Rattle.vend_core.specs.Law.Life.{Life, present}
use Rattle.vend_core.specs.Law.Reached.{IsPlausible}
use Rattle.asks.specs.Ask.{IsAskable}
use Rattle.asks.specs.declared.ask.Ask.TheVariants.{Look}
use Rattle.asks.specs.declared.lookup.Lookup.{Lookup}
use Rattle.asks.specs.declared.lookup.Lookup.TheVariants as lookups
use Rattle.asks.specs.declared.value.Value.TheVariants as values
use Rattle.book_tables.specs.Stands.{all_totals}
use Rattle.book_tables.specs.declared.row.totals.Totals.{Totals}
use Rattle.book_states.specs.declared.lookup.Found.{Found}
use Rattle.book_states.specs.declared.lookup.Found.TheVariants as found
use Rattle.book_states.specs.declared.lookup.MeterSummary.{MeterSummary}
use Rattle.book_states.specs.declared.lookup.Quote.{Quote}
use Rattle.book_lists.specs.Pages.{page_size}
use Rattle.book_facts.specs.Lookups.{Finds, last_found, last_sale, meter_found, quote_for, sale_found, sales_after, totals_found}
use Rattle.books.specs.Looking.{IsFoundAt}
use Rattle.desk_messages.specs.Meaning.{lookup_form}
use Rattle.desk_messages.specs.declared.reply.form.Form.{Form}
use Rattle.desk_client.specs.Answers.{Answers, MayRefuse}
use Rattle.desk_client.specs.Meter.{IsLastSaleNumber}
use Rattle.desk_client.specs.Page.{page_as_read}
use Rattle.desk_client.specs.Sent.{CanSend, wanted_by}
use Rattle.desk_client.specs.Tells.{as_told}
use Rattle.desk_client.specs.Told.{IsTellable, IsTellableRefusal}
use Rattle.desk_client.specs.declared.told.Granted.TheVariants as granted
use Rattle.desk_client.specs.declared.told.Told.TheVariants as told
use Rattle.command_line.specs.Commands.{SaysLookup}
use Rattle.command_line.specs.Said.{parsed_argument}
use Rattle.vend_ports.specs.declared.command_end.CommandEnd.{CommandEnd}
use Rattle.vend_ports.specs.declared.command_end.CommandEnd.TheVariants.{Done, Refused}
use Rattle.vend_ports.specs.print.Printed.{refusal_line}
use Rattle.vend_ports.specs.print.Told.{IsTold, Outputs}
use Rattle.desk_commands.specs.AskedOfDesk.{TellsTold}
use Rattle.desk_commands.specs.ListedAtDesk.{IsNoList}
use Rattle.office_commands.specs.commands.LookedUp.{TellsFound}
use Rattle.office_commands.specs.print.Totalled.{TellsTotals}
use Rattle.program_laws.specs.AtDesk.{AsksNoHealth, IsAskedByOne, totals_looked_up}
use Rattle.program_laws.specs.SalesTold.{sales_found}
use Rattle.program_laws.proofs.AtDeskLemmas.ArgumentLemmas.{is_of, says_item, says_meter, says_operator, says_ref, says_tender}
use Rattle.program_laws.proofs.AtDeskLemmas.PaperLemmas.{last_to, receipt_told}
use Rattle.program_laws.proofs.AtDeskLemmas.PrintedLemmas.{same_export}
use Rattle.program_laws.proofs.AtDeskLemmas.RangeLemmas.{sale_numbered, tariff_named, totals_within}
use Rattle.program_laws.proofs.AtDeskLemmas.TellableLemmas.{RangeLaws, page, paper, sale_told, told_found, told_look}
use Rattle.program_laws.proofs.AtDeskLemmas.TokenLemmas.{token_there}

-- ---- what is printed

-- What was looked up is printed: the totals of a shift as `report` prints them, and what else was found as `show` and `offer` do.
abbrev pub PrintsLook : (json : Bool) → Lookup → Result Found Refusal → Outputs → CommandEnd → Type 0
PrintsLook json (lookups.ShiftTotals number) r out end =
    (totals : Result Totals Refusal) × (r ≡ totals_looked_up number totals) × TellsTotals number totals out end
PrintsLook json lookup r out end = TellsFound json lookup r out end

-- so is why nothing was found
refusal_printed : (json : Bool) (lookup : Lookup) (why : Refusal) (out : Outputs) (end : CommandEnd) → IsTold out [] (refusal_line why) Refused end
    → PrintsLook json lookup (Err why) out end
refusal_printed json (lookups.ShiftTotals number) why out end is = (Err why, refl, is)
refusal_printed json lookup why out end is = is

module _ (out : Outputs) (end : CommandEnd) where
  -- what is told is printed as what was found
  meter_printed : (json : Bool) (number : List ℕ) (m : MeterSummary) → TellsTold json (Look (lookups.Meter number)) (told.Granted (granted.Meter m)) out end
      → TellsFound json (lookups.Meter number) (Ok (found.Meter m)) out end
  meter_printed true number m is = is
  meter_printed false number m is = is

  -- a receipt is no JSON
  last_printed : (json : Bool) → json ≡ false → (number : List ℕ) (s : Sale) → TellsTold json (Look (lookups.LastSale number)) (paper (receipt_of s)) out end
      → TellsFound json (lookups.LastSale number) (Ok (found.Sale s)) out end
  last_printed false lines number s is = is
  last_printed true lines number s is = absurd cc

  sale_printed : (json : Bool) (operator order_ref : List ℕ) (s : Sale)
      → TellsTold json (Look (lookups.SaleOfRef operator order_ref)) (told.Granted (granted.Sale (as_told s))) out end
      → TellsFound json (lookups.SaleOfRef operator order_ref) (Ok (found.Sale s)) out end
  sale_printed true operator order_ref s is = is
  sale_printed false operator order_ref s (inl is) = inl (subst (λ text. IsTold out text [] Done end) (same_export true s) is)
  sale_printed false operator order_ref s (inr is) = inr is

  quote_printed : (json : Bool) (number : List ℕ) (tender : ℕ) (q : Quote)
      → TellsTold json (Look (lookups.Quote number tender)) (told.Granted (granted.Quote q)) out end
      → TellsFound json (lookups.Quote number tender) (Ok (found.Quote q)) out end
  quote_printed true number tender q is = is
  quote_printed false number tender q is = is

  totals_printed : (json : Bool) (number : ℕ) (totals : Totals)
      → TellsTold json (Look (lookups.ShiftTotals number)) (told.Granted (granted.Totals number totals)) out end → TellsTotals number (Ok totals) out end
  totals_printed json number totals (inl is) = is
  totals_printed json number totals (inr (none, is)) = absurd none

-- ---- what holds of what is found

-- nothing stands in a list of nothing
pub none_there : {X : Type 0} (x : X) → ¬ Contains [] x
none_there x there = omega (arith, there.1)

only_there : {X : Type 0} (x y : X) → Contains (y ∷ []) x → y ≡ x
only_there x y (zero, less, is) = is
only_there x y (suc n, less, is) = absurd (omega (arith, less))

-- where no sale is found, each stands in the office
no_sale : (o : Office) (s : Sale) → Contains [] s → Contains o.sales s
no_sale o s there = absurd (none_there s there)

module _ (o : Office) (lookup : Lookup) where
  -- What is found suits what was looked up: its sales stand in the office; it answers the ask, and
  -- can be told; and what is told of it is printed as it was found.
  pub record Suits (it : Found) : Type 0 where
    pub stands : (s : Sale) → Contains (sales_found (Ok it)) s → Contains o.sales s
    pub answers : IsOffice o → IsPlausible o → Answers (Look lookup) (told_found (lookup_form lookup) it)
    pub tellable : RangeLaws → IsOffice o → AsksNoHealth (Look lookup) → IsAskable (Look lookup)
        → IsTellable (wanted_by (Look lookup)) (told_found (lookup_form lookup) it)
    pub printed : (json : Bool) (out : Outputs) (end : CommandEnd) → IsAskedByOne json (Look lookup)
        → TellsTold json (Look lookup) (told_found (lookup_form lookup) it) out end → PrintsLook json lookup (Ok it) out end

  -- so does a result: what was found, or a refusal that the look-up may have
  abbrev pub IsMet : Result Found Refusal → Type 0
  IsMet (Ok it) = Suits it
  IsMet (Err why) = MayRefuse why (Look lookup)

  -- behind a test, whose refusals it may have
  tested : {A : Type 0} (test : Result A Refusal) (next : A → Result Found Refusal) → IfErr test (λ why. MayRefuse why (Look lookup))
      → ((x : A) → IsMet (next x)) → IsMet (test >>= next)
  tested (Ok x) next may each = each x
  tested (Err why) next may each = may

  -- and behind something that may be missing
  wanted : {A : Type 0} (there : Option A) (why : Refusal) (next : A → Result Found Refusal) → MayRefuse why (Look lookup)
      → ((x : A) → there ≡ Some x → IsMet (next x)) → IsMet (ok_or there why >>= next)
  wanted None why next may each = may
  wanted (Some x) why next may each = each x refl

-- ---- one thing

-- the number of the last sale to a meter can be told
last_number : (o : Office) (number : List ℕ) → IsOffice o → (last : Option Sale) → IfSome last (λ s. Contains o.sales s × (s.meter ≡ number))
    → IsLastSaleNumber (option_map (λ s. s.number) last)
last_number o number office None sold = tt
last_number o number office (Some s) sold = sale_numbered o s office sold.0

meter_met : (o : Office) (number : List ℕ) (moment : ℕ) (there : Option Meter) → o.meters number ≡ there
    → IsMet o (lookups.Meter number) (meter_found number there (prior o number (month_at moment)) (last_sale o number))
meter_met o number moment None is = tt
meter_met o number moment (Some m) is = record {
  stands = no_sale o;
  answers = λ office plausible. refl;
  tellable = λ laws office none askable.
      let row = office.meters number m is in (
        record {
          number = row.numbered;
          last_sale = last_number o number office (last_sale o number) (last_to o number);
          tariff = tariff_named o m.tariff office row.tariff;
          tenths = omega (arith, laws.prior o number (month_at moment) office);
        },
        tt,
      );
  printed = λ json out end one told. meter_printed out end json number _ told;
}

last_met : (o : Office) (number : List ℕ) (there : Option Meter) (last : Option Sale) → IfSome last (λ s. Contains o.sales s × (s.meter ≡ number))
    → IsMet o (lookups.LastSale number) (last_found there last)
last_met o number None last sold = tt
last_met o number (Some m) None sold = tt
last_met o number (Some m) (Some s) sold = record {
  stands = λ t there. subst (Contains o.sales) (only_there t s there) sold.0;
  answers = λ office plausible. receipt_told o s number office sold.0 (token_there o s plausible sold.0) sold.1;
  tellable = λ laws office none askable. (tt, tt);
  printed = λ json out end lines told. last_printed out end json lines number s told;
}

sale_met : (o : Office) (operator order_ref : List ℕ) (sale : Option Sale) → sale_of_ref o operator order_ref ≡ sale
    → IsMet o (lookups.SaleOfRef operator order_ref) (sale_found sale)
sale_met o operator order_ref None is = tt
sale_met o operator order_ref (Some s) is =
    let there = found_by _ o.sales s is in
    let named = parts_true _ _ there.1 in
    record {
      stands = λ t told. subst (Contains o.sales) (only_there t s told) there.0;
      answers = λ office plausible. (token_there o s plausible there.0, ((bytes_eq-Decides _ _).0 named.0, (bytes_eq-Decides _ _).0 named.1));
      tellable = λ laws office none askable. (sale_told o s office there.0, tt);
      printed = λ json out end one told. sale_printed out end json operator order_ref s told;
    }

totals_met : (o : Office) (number : ℕ) (there : Option Shift)
    → IsMet o (lookups.ShiftTotals number) (totals_found number (option_map (λ shift. all_totals (sales_of_shift o number)) there))
totals_met o number None = tt
totals_met o number (Some shift) = record {
  stands = no_sale o;
  answers = λ office plausible. refl;
  tellable = λ laws office none askable. (record { shift = askable.target.0.kept; are = totals_within laws.greatest o number office }, tt);
  printed = λ json out end one told. (Ok _, refl, totals_printed out end json number _ told);
}

-- what an office quotes, behind its tests
module _ (o : Office) (number : List ℕ) (tender : ℕ) where
  abbrev quoted : Lookup
  quoted = lookups.Quote number tender

  minute_refused : {A : Type 0} (r : Result A TidFault) → IfErr (or_refusal r) (λ why. MayRefuse why (Look quoted))
  minute_refused (Ok x) = tt
  minute_refused (Err tids.BeforeBase) = tt
  minute_refused (Err tids.PastEnd) = tt
  minute_refused (Err tids.IdentifiersSpent) = tt
  minute_refused (Err tids.IdentifierAhead) = tt

  room_refused : (count : ℕ) (b : Bool) → IfErr (if b then Ok (count + 1) else Err refusals.OfficeFull) (λ why. MayRefuse why (Look quoted))
  room_refused count true = tt
  room_refused count false = tt

  quote_met : (moment : ℕ) → IsMet o quoted (quote_for moment number tender (account_of o number moment) (length o.sales))
  quote_met moment =
      wanted o quoted (account_of o number moment) refusals.NoMeter _ tt (λ m is_m.
      tested o quoted (or_refusal (minute_of m.meter.base moment)) _ (minute_refused _) (λ now.
      tested o quoted (or_refusal (fresh_after now m.last)) _ (minute_refused _) (λ tid.
      wanted o quoted (purchase_of m.steps m.prior tender) refusals.TooLittle _ tt (λ buy is_buy.
      tested o quoted (next_number (length o.sales)) _ (room_refused (length o.sales) (nat_lt (length o.sales) greatest_count)) (λ next. record {
        stands = no_sale o;
        answers = λ office plausible. (refl, refl);
        tellable = λ laws office none askable.
            let bought = (laws.purchase m.steps m.prior tender buy).0 is_buy in
            let meter = option_map_some _ (o.meters number) m is_m in
            let tariff : m.meter ≡ meter.0 = sym (ap (λ (a : MeterAccount). a.meter) meter.2) in
            let row = office.meters number meter.0 meter.1 in (
              record {
                meter = askable.target.0.kept;
                tariff = tariff_named o m.meter.tariff office (subst (λ (m : Meter). IsSome (o.tariffs m.tariff)) (sym tariff) row.tariff);
                tender = askable.target.1.0.kept;
                tenths = bought.representable;
                price = bought.within;
              },
              tt,
            );
        printed = λ json out end one told. quote_printed out end json number tender _ told;
      })))))

-- ---- a page

-- a page is what is wanted of a list
page_wanted : (list : Lookup) → ¬ IsNoList list → (text : List ℕ) → IsTellable (wanted_by (Look list)) (page text)
page_wanted (lookups.Tariffs None) some text = (tt, tt)
page_wanted (lookups.Tariffs (Some name)) some text = (tt, tt)
page_wanted (lookups.Meters None) some text = (tt, tt)
page_wanted (lookups.Meters (Some number)) some text = (tt, tt)
page_wanted (lookups.Shifts after) some text = (tt, tt)
page_wanted (lookups.Sales after) some text = (tt, tt)
page_wanted list some text = absurd (some tt)

-- no list is asked for by one message
never_one : (json : Bool) (list : Lookup) → ¬ IsNoList list → ¬ IsAskedByOne json (Look list)
never_one json (lookups.Tariffs after) some one = one
never_one json (lookups.Meters after) some one = one
never_one json (lookups.Shifts after) some one = one
never_one json (lookups.Sales after) some one = one
never_one json list some one = absurd (some tt)

page_suits : (o : Office) (list : Lookup) → ¬ IsNoList list → (it : Found) → ((form : Form) → told_found form it ≡ page (page_as_read it))
    → ((s : Sale) → Contains (sales_found (Ok it)) s → Contains o.sales s) → Suits o list it
page_suits o list some it told stands =
    let as_page : page (page_as_read it) ≡ told_found (lookup_form list) it = sym (told (lookup_form list)) in
    record {
      stands = stands;
      answers = λ office plausible. subst (Answers (Look list)) as_page tt;
      tellable = λ laws office none askable. subst (IsTellable (wanted_by (Look list))) as_page (page_wanted list some (page_as_read it));
      printed = λ json out end one told. absurd (never_one json list some one);
    }

sales_stand : (o : Office) (after : ℕ) (s : Sale) → Contains (sales_after o after) s → Contains o.sales s
sales_stand o after s there =
    All-contains (Contains o.sales) _ s (All-take (Contains o.sales) page_size _
    (All-filter (λ t. nat_lt after t.number) (Contains o.sales) o.sales (All-contains_itself o.sales))) there

-- ---- each look-up

-- what an office finds suits what was looked up
pub finds_met : (o : Office) (moment : ℕ) (lookup : Lookup) (r : Result Found Refusal) → Finds o moment lookup r → IsMet o lookup r
finds_met o moment lookups.Health (Ok (found.Health health)) finds = record {
  stands = no_sale o;
  answers = λ office plausible. tt;
  tellable = λ laws office none askable. absurd none;
  printed = λ json out end one told. absurd one;
}
finds_met o moment lookups.Health r finds = absurd finds
finds_met o moment (lookups.Meter number) r finds =
    subst (IsMet o (lookups.Meter number)) (sym finds) (meter_met o number moment (o.meters number) refl)
finds_met o moment (lookups.LastSale number) r finds =
    subst (IsMet o (lookups.LastSale number)) (sym finds) (last_met o number (o.meters number) (last_sale o number) (last_to o number))
finds_met o moment (lookups.SaleOfRef operator order_ref) r finds =
    subst (IsMet o (lookups.SaleOfRef operator order_ref)) (sym finds) (sale_met o operator order_ref (sale_of_ref o operator order_ref) refl)
finds_met o moment (lookups.Quote number tender) r finds = subst (IsMet o (lookups.Quote number tender)) (sym finds) (quote_met o number tender moment)
finds_met o moment (lookups.ShiftTotals number) r finds =
    subst (IsMet o (lookups.ShiftTotals number)) (sym finds) (totals_met o number (shift_numbered o number))
finds_met o moment (lookups.Tariffs after) (Ok (found.Tariffs items)) finds =
    page_suits o (lookups.Tariffs after) (λ none. none) (found.Tariffs items) (λ form. refl) (no_sale o)
finds_met o moment (lookups.Tariffs after) r finds = absurd finds
finds_met o moment (lookups.Meters after) (Ok (found.Meters items)) finds =
    page_suits o (lookups.Meters after) (λ none. none) (found.Meters items) (λ form. refl) (no_sale o)
finds_met o moment (lookups.Meters after) r finds = absurd finds
finds_met o moment (lookups.Shifts after) (Ok (found.Shifts items)) finds =
    page_suits o (lookups.Shifts after) (λ none. none) (found.Shifts items) (λ form. refl) (no_sale o)
finds_met o moment (lookups.Shifts after) r finds = absurd finds
finds_met o moment (lookups.Sales after) (Ok (found.Sales items)) finds =
    page_suits o (lookups.Sales after) (λ none. none) (found.Sales items) (λ form. refl)
    (λ s there. sales_stand o after s (subst (λ sales. Contains sales s) finds there))
finds_met o moment (lookups.Sales after) r finds = absurd finds

-- so does what is found in a life, or why nothing is
found_met : (life : Life) (moment : ℕ) (lookup : Lookup) (r : Result Found Refusal) → IsFoundAt life moment lookup r → IsMet (present life) lookup r
found_met life moment lookup r (inl finds) = finds_met (present life) moment lookup r finds
found_met life moment lookup r (inr (inl is)) = subst (IsMet (present life) lookup) (sym is) tt
found_met life moment lookup r (inr (inr (inl is))) = subst (IsMet (present life) lookup) (sym is) tt
found_met life moment lookup r (inr (inr (inr is))) = subst (IsMet (present life) lookup) (sym is) tt

module _ (life : Life) (moment : ℕ) (lookup : Lookup) (r : Result Found Refusal) (is_found : IsFoundAt life moment lookup r) where
  abbrev IsMetHere : Result Found Refusal → Type 0
  IsMetHere r = IsMet (present life) lookup r

  -- its sales stand in the present office
  pub look_stands : (s : Sale) → Contains (sales_found r) s → Contains (present life).sales s
  look_stands = by_result r (found_met life moment lookup r is_found)
    where
      by_result : (r : Result Found Refusal) → IsMetHere r → (s : Sale) → Contains (sales_found r) s → Contains (present life).sales s
      by_result (Ok it) met s there = met.stands s there
      by_result (Err why) met s there = absurd (none_there s there)

  -- it answers what was asked
  pub look_answers : IsOffice (present life) → IsPlausible (present life) → Answers (Look lookup) (told_look (lookup_form lookup) r)
  look_answers office plausible = by_result r (found_met life moment lookup r is_found)
    where
      by_result : (r : Result Found Refusal) → IsMetHere r → Answers (Look lookup) (told_look (lookup_form lookup) r)
      by_result (Ok it) met = met.answers office plausible
      by_result (Err why) met = met

  -- it can be told as what is wanted, but for a health
  pub look_tellable : RangeLaws → IsOffice (present life) → AsksNoHealth (Look lookup) → IsAskable (Look lookup)
      → IsTellable (wanted_by (Look lookup)) (told_look (lookup_form lookup) r)
  look_tellable laws office none askable = by_result r (found_met life moment lookup r is_found)
    where
      refusal_tellable : (why : Refusal) → MayRefuse why (Look lookup) → IsTellableRefusal why
      refusal_tellable (refusals.ImportRow row cause) may = absurd may
      refusal_tellable why may = tt

      by_result : (r : Result Found Refusal) → IsMetHere r → IsTellable (wanted_by (Look lookup)) (told_look (lookup_form lookup) r)
      by_result (Ok it) met = met.tellable laws office none askable
      by_result (Err why) met = refusal_tellable why met

  -- and what is told of it is printed as it was found, where it is asked for by one message
  pub look_prints : (json : Bool) (out : Outputs) (end : CommandEnd) → IsAskedByOne json (Look lookup)
      → TellsTold json (Look lookup) (told_look (lookup_form lookup) r) out end → PrintsLook json lookup r out end
  look_prints json out end one = by_result r (found_met life moment lookup r is_found)
    where
      by_result : (r : Result Found Refusal) → IsMetHere r → TellsTold json (Look lookup) (told_look (lookup_form lookup) r) out end
          → PrintsLook json lookup r out end
      by_result (Ok it) met told = met.printed json out end one told
      by_result (Err why) met told = refusal_printed json lookup why out end told

-- ---- by which words

-- the words of `show`, of `offer` and of `report` for totals look something up
abbrev pub IsLookupWord : Text → List Row → Type 0
IsLookupWord name rows = (name ≡ codes "show") ⊎ ((name ≡ codes "offer")
    ⊎ ((name ≡ codes "report") × (parsed_argument (codes "kind") rows ≡ Some (codes "totals"))))

-- a command of this name may look this up, and it can be asked of a desk
pub record IsSaid (name : Text) (rows : List Row) (lookup : Lookup) : Type 0 where
  pub named : IsLookupWord name rows
  pub can : CanSend (Look lookup)

-- so it is where its words say it
pub lookup_said : (name : Text) (rows : List Row) (lookup : Lookup) → SaysLookup name rows lookup → IsSaid name rows lookup
lookup_said name rows (lookups.Meter meter) says = record {
  named = inl says.0;
  can = record {
    askable = record { target = (is_of (values.Meter meter) (says_meter _ meter says.2), tt); body = (tt, tt) };
    fits = tt;
  };
}
lookup_said name rows (lookups.LastSale meter) says = record {
  named = inl says.0;
  can = record {
    askable = record { target = (is_of (values.Meter meter) (says_meter _ meter says.3), tt); body = (tt, tt) };
    fits = tt;
  };
}
lookup_said name rows (lookups.SaleOfRef operator order_ref) says = record {
  named = inl says.0;
  can = record {
    askable = record {
      target = (is_of (values.Operator operator) (says_operator _ operator says.2), (is_of (values.Ref order_ref) (says_ref _ order_ref says.3), tt));
      body = (tt, tt);
    };
    fits = tt;
  };
}
lookup_said name rows (lookups.Quote meter tender) says = record {
  named = inr (inl says.0);
  can = record {
    askable = record {
      target = (is_of (values.Meter meter) (says_meter _ meter says.1), (is_of (values.Tender tender) (says_tender _ tender says.2), tt));
      body = (tt, tt);
    };
    fits = tt;
  };
}
lookup_said name rows (lookups.ShiftTotals number) says = record {
  named = inr (inr (says.0, says.1));
  can = record {
    askable = record { target = (is_of (values.Number number) (says_item _ number says.2), tt); body = (tt, tt) };
    fits = tt;
  };
}
lookup_said name rows lookup says = absurd says
