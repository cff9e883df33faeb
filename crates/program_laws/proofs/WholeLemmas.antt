-- The pages of a list of numbered members have all of those after a number, each once.
use Rattle.std.proofs.Common.{◌≡◌, ◌≢◌, ◌∙◌, ℕ, zero, suc, ◌+◌, ◌-◌, ◌≤◌, ◌==◌, Bool, true, false, List, [], ◌∷◌, ◌++◌, filter, length, map, nat_lt, slice_get, take, drop, Option, Some, None, option_map, Ok, refl, ap, sym, subst, append_assoc, append-nil, arith, length-take, drop-drop}
use Rattle.std.specs.Prelude.{if◌then◌else◌}
use Rattle.std.specs.List.{flat_map}
use Rattle.std.proofs.lemmas.Bool.{eqb-false, eqb-true}
use Rattle.std.proofs.lemmas.Grind.{flat_map-append}
use Rattle.std.proofs.lemmas.List.{length-map, map-id, map-append, take-append-drop, take_all}
use Rattle.std.proofs.lemmas.Option.{slice_get-map}
use Rattle.sqlite.proofs.MarkLemmas.{slice_get-take}
use Rattle.book_tables.proofs.ListLemmas.{after_numbered}
use Rattle.book_lists.specs.Pages.{page_size}
use Rattle.book_facts.specs.Lookups.{Finds, listed_shift}
use Rattle.asks.specs.declared.lookup.Lookup.{Lookup}
use Rattle.asks.specs.declared.lookup.Lookup.TheVariants as lookups
use Rattle.book_states.specs.declared.lookup.Found.{Found}
use Rattle.book_states.specs.declared.lookup.Found.TheVariants as found
use Rattle.book_states.specs.declared.lookup.ListedShift.{ListedShift}
use Rattle.papers.specs.Export.{export_of}
use Rattle.sts_fields.specs.Text.{Text}
use Rattle.office_rules.specs.Office.{AreNumbered, IsOffice, Office}
use Rattle.office_rules.specs.declared.office.sale.Sale.{Sale}
use Rattle.office_commands.proofs.ExportLemmas.{PagesLaw}
use Rattle.vend_ports.specs.print.Printed.{table_row_of}
use Rattle.desk_commands.specs.print.Pages.{ArePages, last_of_full, list_behind}
use Rattle.desk_commands.specs.print.ListTexts.{listed_shift_line, page_text, pages_text, shift_names, shift_rows_text}

-- ---- places in lists

in_drop : {X : Type 0} (k : ℕ) (xs : List X) (i n : ℕ) (x : X) → n ≡ k + i → slice_get (drop k xs) i ≡ Some x → slice_get xs n ≡ Some x
in_drop zero xs i n x is at = let here : i ≡ n = omega (arith, is) in subst (λ m. slice_get xs m ≡ Some x) here at
in_drop (suc k) [] i n x is at = cc
in_drop (suc k) (y ∷ ys) i zero x is at = absurd (omega (arith, is))
in_drop (suc k) (y ∷ ys) i (suc n) x is at = in_drop k ys i n x (omega (arith, is)) at

-- a list that has nothing at a place ends before it
pub none_past : {X : Type 0} (xs : List X) (i : ℕ) → slice_get xs i ≡ None → length xs ≤ i
none_past [] i none = omega arith
none_past (x ∷ xs) zero none = cc
none_past (x ∷ xs) (suc i) none = omega (arith, none_past xs i none)

mapped_at : {X Y : Type 0} (show : X → Y) (o : Option X) (y : Y) → option_map show o ≡ Some y → (x : X) × (o ≡ Some x) × (show x ≡ y)
mapped_at show None y is = cc
mapped_at show (Some x) y is = (x, refl, cc)

-- ---- the text of pages

-- the first of them with its names, or without
abbrev pub text_from : (first : Bool) → List Found → Text
text_from first [] = []
text_from first (page ∷ pages) = page_text false first page ++ flat_map (page_text false false) pages

-- pages are printed with the names in front of the first, and not in front of the others
pub from_first : (pages : List Found) → pages_text false pages ≡ text_from true pages
from_first [] = refl
from_first (page ∷ pages) = refl

-- the pages behind the first are all printed without names
pub from_next : (pages : List Found) → flat_map (page_text false false) pages ≡ text_from false pages
from_next [] = refl
from_next (page ∷ pages) = refl

-- behind the last page is none
pub no_page_more : (o : Office) (moment : ℕ) (pages : List Found) → ArePages o moment None pages None → flat_map (page_text false false) pages ≡ []
no_page_more o moment [] none = refl
no_page_more o moment (page ∷ pages) none = absurd none

-- ---- members by number

module _ {X Y : Type 0} (number : X → ℕ) (show : X → Y) (key : Y → ℕ) (keyed : (x : X) → key (show x) ≡ number x) where
  -- those after a number, and the first page of them
  abbrev pub above : ℕ → List X → List Y
  above n xs = map show (filter (λ x. nat_lt n (number x)) xs)

  -- the first of them, as many as a page has
  abbrev pub first_above : ℕ → List X → List Y
  first_above n xs = map show (take page_size (filter (λ x. nat_lt n (number x)) xs))

  -- a page that is not full has them all
  short_page : (n : ℕ) (xs : List X) → length (first_above n xs) ≢ 100 → first_above n xs ≡ above n xs
  short_page n xs short =
      let all = filter (λ x. nat_lt n (number x)) xs in
      ap (map show) (take_all 100 all (omega (arith, short, length-map (take 100 all) show, length-take 100 all)))

  -- behind a full one are those after its last member
  full_page : (n : ℕ) (xs : List X) (y : Y) → AreNumbered number xs → length (first_above n xs) ≡ 100
      → slice_get (first_above n xs) (length (first_above n xs) - 1) ≡ Some y
      → first_above n xs ++ above (key y) xs ≡ above n xs
  full_page n xs y numbered full at =
      let all = filter (λ x. nat_lt n (number x)) xs in
      let is : all ≡ drop n xs = after_numbered number n xs numbered in
      let last : slice_get (map show (take 100 all)) 99 ≡ Some y =
      ap (λ len. slice_get (map show (take 100 all)) (len - 1)) {x = 100} {y = length (first_above n xs)} (sym full) ∙ at in
      let found = mapped_at show (slice_get (take 100 all) 99) y (sym (slice_get-map show (take 100 all) 99) ∙ last) in
      let in_all : slice_get all 99 ≡ Some found.0 = sym (slice_get-take 100 all 99 (omega arith)) ∙ found.1 in
      let in_xs = in_drop n xs 99 (n + 99) found.0 refl (subst (λ l. slice_get l 99 ≡ Some found.0) is in_all) in
      let place : key y ≡ n + 100 = ap key (sym found.2) ∙ keyed found.0 ∙ omega (arith, numbered (n + 99) found.0 in_xs) in
      let behind : filter (λ x. nat_lt (key y) (number x)) xs ≡ drop 100 all =
      after_numbered number (key y) xs numbered ∙ ap (λ k. drop k xs) place ∙ sym (drop-drop 100 n xs) ∙ ap (drop 100) (sym is) in
      ap (λ l. map show (take 100 all) ++ map show l) behind ∙ sym (map-append show (take 100 all) (drop 100 all)) ∙ ap (map show) (take-append-drop 100 all)

  module _ (text : Bool → List Y → Text) (law : (first : Bool) (front back : List Y) → text first (front ++ back) ≡ text first front ++ text false back)
      (o : Office) (moment : ℕ) (xs : List X) (numbered : AreNumbered number xs) (list : ℕ → Lookup)
      (reads : (n : ℕ) (page : Found) → Finds o moment (list n) (Ok page)
      → ((first : Bool) → page_text false first page ≡ text first (first_above n xs))
      × (list_behind page ≡ option_map (λ y. list (key y)) (last_of_full (first_above n xs)))) where
    -- the text of pages up to one that is not full is that of all
    pub whole_text : (pages : List Found) (first : Bool) (n : ℕ) → ArePages o moment (Some (list n)) pages None → text_from first pages
        ≡ text first (above n xs)
    whole_text [] first n none = cc
    whole_text (page ∷ pages) first n (finds, rest) =
        let has = reads n page finds in
        let behind = subst (λ (left : Option Lookup). ArePages o moment left pages None) has.1 rest in
        ap (λ l. l ++ flat_map (page_text false false) pages) (has.0 first)
        ∙ by_length (λ next. whole_text pages false next) (length (first_above n xs) == 100) refl behind
      where
        by_last : ((next : ℕ) → ArePages o moment (Some (list next)) pages None → text_from false pages ≡ text false (above next xs))
            → (last : Option Y) → length (first_above n xs) ≡ 100 → slice_get (first_above n xs) (length (first_above n xs) - 1) ≡ last
            → ArePages o moment (option_map (λ y. list (key y)) last) pages None
            → text first (first_above n xs) ++ flat_map (page_text false false) pages ≡ text first (above n xs)
        by_last again None full at behind = absurd (omega (arith, full, none_past (first_above n xs) (length (first_above n xs) - 1) at))
        by_last again (Some y) full at behind =
            ap (λ l. text first (first_above n xs) ++ l) (from_next pages ∙ again (key y) behind)
            ∙ sym (law first (first_above n xs) (above (key y) xs))
            ∙ ap (text first) (full_page n xs y numbered full at)

        by_length : ((next : ℕ) → ArePages o moment (Some (list next)) pages None → text_from false pages ≡ text false (above next xs))
            → (full : Bool) → (length (first_above n xs) == 100) ≡ full
            → ArePages o moment (option_map (λ y. list (key y)) (last_of_full (first_above n xs))) pages None
            → text first (first_above n xs) ++ flat_map (page_text false false) pages ≡ text first (above n xs)
        by_length again true full behind =
            let left : last_of_full (first_above n xs) ≡ slice_get (first_above n xs) (length (first_above n xs) - 1) =
            ap (λ b. if b then slice_get (first_above n xs) (length (first_above n xs) - 1) else None) full in
            by_last again _ (eqb-true _ 100 full) refl (subst (λ (last : Option Y). ArePages o moment (option_map (λ y. list (key y)) last)
            pages None) left behind)
        by_length again false short behind =
            let left : last_of_full (first_above n xs) ≡ None =
            ap (λ b. if b then slice_get (first_above n xs) (length (first_above n xs) - 1) else None) short in
            let none = no_page_more o moment pages (subst (λ (last : Option Y). ArePages o moment (option_map (λ y. list (key y)) last)
            pages None) left behind) in
            ap (λ l. text first (first_above n xs) ++ l) none ∙ append-nil _ ∙ ap (text first) (short_page n xs (eqb-false _ 100 short))

-- ---- shifts and sales

shifts_read : (o : Office) (moment n : ℕ) (page : Found) → Finds o moment (lookups.Shifts n) (Ok page)
    → ((first : Bool) → page_text false first page ≡ shift_rows_text first
    (first_above (λ s. s.number) (listed_shift o) (λ l. l.shift.number) (λ s. refl) n o.shifts))
    × (list_behind page ≡ option_map (λ l. lookups.Shifts l.shift.number)
    (last_of_full (first_above (λ s. s.number) (listed_shift o) (λ l. l.shift.number) (λ s. refl) n o.shifts)))
shifts_read o moment n (found.Shifts page) is = (
  λ first. ap (shift_rows_text first) is,
  ap (λ ls. option_map (λ (l : ListedShift). lookups.Shifts l.shift.number) (last_of_full ls)) is,
)
shifts_read o moment n page none = absurd none

shifts_law : (first : Bool) (front back : List ListedShift) → shift_rows_text first (front ++ back) ≡ shift_rows_text first front ++ shift_rows_text false back
shifts_law first front back =
    let names = if first then table_row_of shift_names else [] in
    ap (λ lines. names ++ lines) (flat_map-append listed_shift_line front back)
    ∙ sym (append_assoc names (flat_map listed_shift_line front) (flat_map listed_shift_line back))

-- the pages of a list of shifts print all shifts after a number, each once
pub whole_shifts : (o : Office) (moment after : ℕ) (pages : List Found) → IsOffice o → ArePages o moment (Some (lookups.Shifts after)) pages None
    → pages_text false pages ≡ shift_rows_text true (map (listed_shift o) (filter (λ s. nat_lt after s.number) o.shifts))
whole_shifts o moment after pages office are =
    from_first pages
    ∙ whole_text (λ s. s.number) (listed_shift o) (λ l. l.shift.number) (λ s. refl) shift_rows_text shifts_law o moment o.shifts
    office.shift_numbers lookups.Shifts (shifts_read o moment) pages true after are

sales_read : (o : Office) (moment n : ℕ) (page : Found) → Finds o moment (lookups.Sales n) (Ok page)
    → ((first : Bool) → page_text false first page ≡ export_of first (first_above (λ s. s.number) (λ s. s) (λ s. s.number) (λ s. refl) n o.sales))
    × (list_behind page ≡ option_map (λ s. lookups.Sales s.number) (last_of_full (first_above (λ s. s.number) (λ s. s) (λ s. s.number) (λ s. refl) n o.sales)))
sales_read o moment n (found.Sales page) is =
    let same = is ∙ sym (map-id _) in
    (λ first. ap (export_of first) same, ap (λ ss. option_map (λ (s : Sale). lookups.Sales s.number) (last_of_full ss)) same)
sales_read o moment n page none = absurd none

-- the pages of a list of sales print an export of all sales after a number
pub whole_sales : PagesLaw → (o : Office) (moment after : ℕ) (pages : List Found) → IsOffice o → ArePages o moment (Some (lookups.Sales after)) pages None
    → pages_text false pages ≡ export_of true (filter (λ s. nat_lt after s.number) o.sales)
whole_sales law o moment after pages office are =
    from_first pages
    ∙ whole_text (λ s. s.number) (λ s. s) (λ s. s.number) (λ s. refl) export_of law o moment o.sales office.sale_numbers lookups.Sales
    (sales_read o moment) pages true after are
    ∙ ap (export_of true) (map-id _)
