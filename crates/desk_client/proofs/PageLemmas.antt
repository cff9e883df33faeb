-- Pages: what told pages are, and that one text tells one.
use Rattle.std.proofs.Common.{◌≡◌, ◌∙◌, ℕ, false, List, [], ◌∷◌, ◌++◌, codes, map, refl, sym, Vec, Global}
use Rattle.std.specs.List.{AllByRecursion}
use Rattle.std.proofs.lemmas.List.{append_cancel_left, map-id}
use Rattle.std.proofs.lemmas.List.Elements.{recursion_from_All}
use Rattle.book_states.specs.declared.lookup.Found.{Found}
use Rattle.book_states.specs.declared.lookup.Found.TheVariants as found
use Rattle.book_states.specs.declared.lookup.ListedMeter.{ListedMeter}
use Rattle.book_states.specs.declared.lookup.ListedShift.{ListedShift}
use Rattle.book_states.specs.declared.lookup.ListedTariff.{ListedTariff}
use Rattle.records.specs.List.{AreReadInOneWay, items_text}
use Rattle.records.proofs.ItemLemmas.{one_list}
use Rattle.desk_messages.specs.reply.Lists.{tariff_text}
use Rattle.desk_messages.specs.reply.Records.{listed_meter_text, listed_shift_text, sale_text}
use Rattle.office_rules.specs.declared.office.sale.Sale.{Sale}
use Rattle.desk_client.specs.Page.{AreAlike, AreTold, IsToldListedMeter, IsToldListedShift, IsToldPage, IsToldTariff, page_as_read, tariff_view}
use Rattle.desk_client.specs.Sale.{IsSaleTold}
use Rattle.desk_client.specs.declared.page.PageKind.{PageKind}
use Rattle.desk_client.specs.declared.page.PageKind.TheVariants.{Tariffs, Meters, Shifts, Sales}

-- ---- what a told page is

-- a told page of tariffs is a list of tariffs that keep the rules, and nothing else
pub by_tariffs : (P : Found → Type 0) → ((items : Vec ListedTariff Global) → AreTold IsToldTariff items.items → P (found.Tariffs items))
    → (page : Found) → IsToldPage Tariffs page → P page
by_tariffs P such (found.Health health) told = absurd told
by_tariffs P such (found.Meter m) told = absurd told
by_tariffs P such (found.Sale s) told = absurd told
by_tariffs P such (found.Quote q) told = absurd told
by_tariffs P such (found.ShiftTotals n t) told = absurd told
by_tariffs P such (found.Tariffs items) told = such items told
by_tariffs P such (found.Meters items) told = absurd told
by_tariffs P such (found.Shifts items) told = absurd told
by_tariffs P such (found.Sales items) told = absurd told

-- the same of a page of meters
pub by_meters : (P : Found → Type 0) → ((items : Vec ListedMeter Global) → AreTold IsToldListedMeter items.items → P (found.Meters items))
    → (page : Found) → IsToldPage Meters page → P page
by_meters P such (found.Health health) told = absurd told
by_meters P such (found.Meter m) told = absurd told
by_meters P such (found.Sale s) told = absurd told
by_meters P such (found.Quote q) told = absurd told
by_meters P such (found.ShiftTotals n t) told = absurd told
by_meters P such (found.Tariffs items) told = absurd told
by_meters P such (found.Meters items) told = such items told
by_meters P such (found.Shifts items) told = absurd told
by_meters P such (found.Sales items) told = absurd told

-- the same of a page of shifts
pub by_shifts : (P : Found → Type 0) → ((items : Vec ListedShift Global) → AreTold IsToldListedShift items.items → P (found.Shifts items))
    → (page : Found) → IsToldPage Shifts page → P page
by_shifts P such (found.Health health) told = absurd told
by_shifts P such (found.Meter m) told = absurd told
by_shifts P such (found.Sale s) told = absurd told
by_shifts P such (found.Quote q) told = absurd told
by_shifts P such (found.ShiftTotals n t) told = absurd told
by_shifts P such (found.Tariffs items) told = absurd told
by_shifts P such (found.Meters items) told = absurd told
by_shifts P such (found.Shifts items) told = such items told
by_shifts P such (found.Sales items) told = absurd told

-- the same of a page of sales
pub by_sales : (P : Found → Type 0) → ((items : Vec Sale Global) → AreTold IsSaleTold items.items → P (found.Sales items))
    → (page : Found) → IsToldPage Sales page → P page
by_sales P such (found.Health health) told = absurd told
by_sales P such (found.Meter m) told = absurd told
by_sales P such (found.Sale s) told = absurd told
by_sales P such (found.Quote q) told = absurd told
by_sales P such (found.ShiftTotals n t) told = absurd told
by_sales P such (found.Tariffs items) told = absurd told
by_sales P such (found.Meters items) told = absurd told
by_sales P such (found.Shifts items) told = absurd told
by_sales P such (found.Sales items) told = such items told

-- ---- pages of one text

-- what each text of a list is of in one way, the list of texts is
pub alike : {A B : Type 0} (Rule : A → Type 0) (text_of : A → List ℕ) (view : A → B)
    → ((a b : A) → Rule a → Rule b → text_of a ≡ text_of b → view a ≡ view b)
    → (xs ys : List A) → AllByRecursion Rule xs → AllByRecursion Rule ys → map text_of xs ≡ map text_of ys → map view xs ≡ map view ys
alike Rule text_of view one [] [] rx ry e = refl
alike Rule text_of view one [] (b ∷ ys) rx ry e = absurd (cc)
alike Rule text_of view one (a ∷ xs) [] rx ry e = absurd (cc)
alike Rule text_of view one (a ∷ xs) (b ∷ ys) rx ry e =
    let first = one a b rx.0 ry.0 (cc) in
    let rest = alike Rule text_of view one xs ys rx.1 ry.1 (cc) in cc

-- how the members of a list are known by their texts
pub record AreByText {A B : Type 0} (Rule : A → Type 0) (text_of : A → List ℕ) (view : A → B) : Type 0 where
  pub way : AreReadInOneWay Rule text_of
  pub one : (a b : A) → Rule a → Rule b → text_of a ≡ text_of b → view a ≡ view b

-- pages of one text have the same members
same_members : {A B : Type 0} {Rule : A → Type 0} {text_of : A → List ℕ} {view : A → B} (front : List ℕ) → AreByText Rule text_of view
    → (xs ys : List A) → AreTold Rule xs → AreTold Rule ys
    → front ++ (items_text false (map text_of xs) ++ codes "}") ≡ front ++ (items_text false (map text_of ys) ++ codes "}") → map view xs ≡ map view ys
same_members {A} {B} {Rule} {text_of} {view} front by xs ys tx ty e =
    let rx = recursion_from_All Rule xs tx.each in
    let ry = recursion_from_All Rule ys ty.each in
    let behind = append_cancel_left front (items_text false (map text_of xs) ++ codes "}") (items_text false (map text_of ys) ++ codes "}") e in
    alike Rule text_of view by.one xs ys rx ry (one_list Rule text_of by.way xs ys (codes "}") (codes "}") rx ry behind).0

-- the same members, where nothing of them is left out
these_members : {A : Type 0} {Rule : A → Type 0} {text_of : A → List ℕ} (front : List ℕ) → AreByText Rule text_of (λ (a : A). a)
    → (xs ys : List A) → AreTold Rule xs → AreTold Rule ys
    → front ++ (items_text false (map text_of xs) ++ codes "}") ≡ front ++ (items_text false (map text_of ys) ++ codes "}") → xs ≡ ys
these_members front by xs ys tx ty e = sym (map-id xs) ∙ same_members front by xs ys tx ty e ∙ map-id ys

-- two told pages of one kind that have one text are alike
pub one_page : AreByText IsToldTariff tariff_text tariff_view
    → AreByText IsToldListedMeter listed_meter_text (λ (m : ListedMeter). m)
    → AreByText IsToldListedShift listed_shift_text (λ (l : ListedShift). l)
    → AreByText IsSaleTold sale_text (λ (s : Sale). s)
    → (kind : PageKind) (page other : Found) → IsToldPage kind page → IsToldPage kind other → page_as_read page ≡ page_as_read other → AreAlike page other
one_page tariffs meters shifts sales Tariffs page other told also =
    by_tariffs (λ p. page_as_read p ≡ page_as_read other → AreAlike p other) (λ items are.
    by_tariffs (λ o. page_as_read (found.Tariffs items) ≡ page_as_read o → AreAlike (found.Tariffs items) o) (λ others too.
    same_members (codes "{\"tariffs\":[") tariffs items.items others.items are too) other also) page told
one_page tariffs meters shifts sales Meters page other told also =
    by_meters (λ p. page_as_read p ≡ page_as_read other → AreAlike p other) (λ items are.
    by_meters (λ o. page_as_read (found.Meters items) ≡ page_as_read o → AreAlike (found.Meters items) o) (λ others too.
    these_members (codes "{\"meters\":[") meters items.items others.items are too) other also) page told
one_page tariffs meters shifts sales Shifts page other told also =
    by_shifts (λ p. page_as_read p ≡ page_as_read other → AreAlike p other) (λ items are.
    by_shifts (λ o. page_as_read (found.Shifts items) ≡ page_as_read o → AreAlike (found.Shifts items) o) (λ others too.
    these_members (codes "{\"shifts\":[") shifts items.items others.items are too) other also) page told
one_page tariffs meters shifts sales Sales page other told also =
    by_sales (λ p. page_as_read p ≡ page_as_read other → AreAlike p other) (λ items are.
    by_sales (λ o. page_as_read (found.Sales items) ≡ page_as_read o → AreAlike (found.Sales items) o) (λ others too.
    these_members (codes "{\"sales\":[") sales items.items others.items are too) other also) page told
