-- What is gathered of the sales, and what the tables of totals hold where it is put into them.
use Rattle.std.proofs.Common.{◌≡◌, ◌≤◌, ◌<◌, ◌<ℤ◌, ◌^◌, ℕ, pos, Bool, List, [], ◌∷◌, ◌++◌, append-nil, append_assoc, filter, get_or, length, map, not, sum_by, unwrap_or, Option, Some, Less, arith, refl, sym, ap, ap₂, subst, ◌∙◌}
use Rattle.std.specs.Prelude.{◌==◌, ◌&&◌, All, Contains, bytes_eq}
use Rattle.std.specs.BTreeMap.{values}
use Rattle.std.specs.List.{AllByRecursion}
use Rattle.std.specs.List.Sorted.{IsStrictlySortedBy}
use Rattle.std.specs.Ordering.{nat_cmp}
use Rattle.std.proofs.lemmas.Cmp.{nat_cmp_total, ranked}
use Rattle.std.proofs.lemmas.Int.{ints}
use Rattle.std.proofs.lemmas.List.Elements.{All-contains, Contains-get_or}
use Rattle.std.proofs.lemmas.List.Filters.{length-filter_both}
use Rattle.std.proofs.lemmas.Map.Keys.{sorted_head, sorted_tail}
use Rattle.std.proofs.lemmas.Map.Lookups.{exact_unsigned}
use Rattle.std.proofs.lemmas.Map.Views.{btree_map_get_iff}
use Rattle.sqlite.specs.State.{State}
use Rattle.sqlite_keyed.specs.Keyed.{IsKeyedBy}
use Rattle.sts_fields.specs.Amount.{IsRepresentable}
use Rattle.sts_fields.specs.Calendar.{month_at}
use Rattle.sts_fields.specs.declared.base.Base.{Base}
use Rattle.office_rules.specs.Law.Cash.{cash_of}
use Rattle.office_rules.specs.Office.{IsOffice, Office, greatest_count}
use Rattle.office_rules.specs.declared.office.sale.Sale.{Sale}
use Rattle.book_tables.specs.format.Filling.{ArePut, AreTotalsWrites, FillsTotals, IsReady, PutsFirst}
use Rattle.book_tables.specs.Holds.{HoldsOf}
use Rattle.book_tables.specs.row.Gathered.{IsGathered, base_place, key_cmp, own_place}
use Rattle.book_tables.specs.row.Rows.{Rows, present_format}
use Rattle.book_tables.specs.Stands.{AreRowsOf, AreTotalsOf, sales_in_month, sales_in_shift, tenths_of, totals_of}
use Rattle.book_tables.specs.writing.Putting.{AreAnyIds, FitMonths, FitShifts, PutsLastId, PutsMonth, PutsNext, PutsTotals, with_last_ids, with_month_tenths, with_shift_totals}
use Rattle.book_tables.specs.writing.Edited.{no_rows}
use Rattle.book_tables.specs.writing.Writes.{Write, new_last_id, new_month, new_totals}
use Rattle.book_tables.specs.writing.Writing.{FitColumns, HasRoomFor, WritesOnly, no_totals, totals_names}
use Rattle.book_tables.specs.declared.row.gathered.Gathered.{Gathered}
use Rattle.book_tables.specs.declared.row.totals.Totals.{Totals}
use Rattle.book_tables.proofs.FirstSalesLemmas.{office_within}
use Rattle.book_tables.proofs.FormatLemmas.FillingLemmas.{may_be_put, nothing_written, put_as}
use Rattle.book_tables.proofs.ListLemmas.{contains_first, contains_further}
use Rattle.book_tables.proofs.RowLemmas.GatheredLemmas.{are_rows, key_exact, key_total}
use Rattle.book_tables.proofs.SalesOfLemmas.{all_totals, fit_within, sum_of_some, tenths_sum, totals_sum}
use Rattle.book_tables.proofs.WritingLemmas.OnlyLemmas.{only_both}

-- ---- one row after another

module _ {R : Type 0} (set : List R → Rows → Rows) (Are : List R → Type 0) where
  -- before any row is put in, the table has none
  pub puts_none : (old : State) → IsReady old → PutsFirst set Are [] old old
  puts_none old ready = record { only = nothing_written totals_names old ready; rows = λ told rows after are held. held }

  -- with one row put in after the others, the table has these and it
  pub puts_more : (before : List R) (r : R) (old mid new : State) → PutsFirst set Are before old mid → PutsNext set Are r mid new
      → PutsFirst set Are (before ++ r ∷ []) old new
  puts_more before r old mid new first second = record {
    only = only_both totals_names old mid new first.only second.only;
    rows = λ told rows after are held.
        let all = subst Are (append_assoc before (r ∷ []) after) are in
        second.rows told rows before after all (first.rows told rows (r ∷ after) all held);
  }

-- ---- what the tables hold then

all_there : {X : Type 0} (P : X → Type 0) (xs : List X) → ((x : X) → Contains xs x → P x) → All P xs
all_there P xs each k d below = each (get_or xs k d) (Contains-get_or xs k d below)

some_value : (o : Option ℕ) (v : ℕ) → o ≡ Some v → unwrap_or o 0 ≡ v
some_value o v is = ap (λ (x : Option ℕ). unwrap_or x 0) is

some_totals : (o : Option Totals) (v : Totals) → o ≡ Some v → unwrap_or o no_totals ≡ v
some_totals o v is = ap (λ (x : Option Totals). unwrap_or x no_totals) is

less_below : (a b : ℕ) → nat_cmp a b ≡ Less → pos a <ℤ pos b
less_below a b less = let below : a < b = ranked a b Less (sym less) in grind (arith, ints, below)

module _ (sales : List Sale) (g : Gathered) (held : IsGathered sales g) (fit : FitColumns sales) where
  abbrev month_rows : List ((List ℕ × ℕ) × ℕ)
  month_rows = values g.month_tenths

  abbrev shift_rows : List (ℕ × Totals)
  shift_rows = values g.shift_totals

  months_are : AreRowsOf month_rows (λ key. tenths_of (sales_in_month sales key))
  months_are = are_rows key_cmp key_total key_exact (own_place {K = List ℕ × ℕ}) g.month_tenths _ held.month_tenths

  shifts_are : AreRowsOf shift_rows (λ shift. totals_of (sales_in_shift sales shift))
  shifts_are = are_rows nat_cmp nat_cmp_total exact_unsigned (own_place {K = ℕ}) g.shift_totals _ held.shift_totals

  -- a column can hold the tenths of each month that is gathered
  pub months_fit : FitMonths month_rows
  months_fit = all_there (λ (r : (List ℕ × ℕ) × ℕ). r.1 < 2 ^ 63) month_rows (λ r there.
      let of_month = sales_in_month sales r.0 in
      let is = some_value (tenths_of of_month) r.1 ((months_are.members r.0 r.1).1 there) in
      let sum : sum_by (λ s. s.tenths) of_month ≡ r.1 = sym (tenths_sum of_month) ∙ is in
      omega (arith, sum, sum_of_some (λ s. bytes_eq s.meter r.0.0 && (month_at s.moment == r.0.1)) (λ (s : Sale). s.tenths) sales, fit.tenths))

  room_of : (r : ℕ × Totals) → Contains shift_rows r → HasRoomFor r.1
  room_of r there =
      let in_shift : Sale → Bool = λ s. s.shift == r.0 in
      let of_shift = filter in_shift sales in
      let is : all_totals of_shift ≡ r.1 = sym (totals_sum of_shift) ∙ some_totals (totals_of of_shift) r.1 ((shifts_are.members r.0 r.1).1 there) in
      let count : length of_shift < 2 ^ 63 = omega (arith, length-filter_both in_shift (λ x. not (in_shift x)) (λ _. refl) sales, fit.count) in
      let tenths : sum_by (λ s. s.tenths) of_shift < 2 ^ 63 = omega (arith, sum_of_some in_shift (λ (s : Sale). s.tenths) sales, fit.tenths) in
      let cash : cash_of of_shift < 2 ^ 63 = omega (arith, sum_of_some in_shift (λ (s : Sale). s.price) sales, fit.cash) in
      let few : HasRoomFor (all_totals of_shift) = (count, tenths, cash) in
      subst HasRoomFor is few

  rise : (es : List (ℕ × (ℕ × Totals))) → IsStrictlySortedBy nat_cmp (map (λ e. e.0) es)
      → ((e : ℕ × (ℕ × Totals)) → Contains es e → e.0 ≡ e.1.0) → IsKeyedBy (λ (r : ℕ × Totals). pos r.0) (map (λ e. e.1) es)
  rise [] up own = tt
  rise (e ∷ es) up own = (
    above es (sorted_head nat_cmp e.0 (map (λ e. e.0) es) up) (λ f there. own f (contains_further e f es there)),
    rise es (sorted_tail nat_cmp e.0 (map (λ e. e.0) es) up) (λ f there. own f (contains_further e f es there)),
  )
    where
      above : (fs : List (ℕ × (ℕ × Totals))) → AllByRecursion (λ q. nat_cmp e.0 q ≡ Less) (map (λ f. f.0) fs)
          → ((f : ℕ × (ℕ × Totals)) → Contains fs f → f.0 ≡ f.1.0) → AllByRecursion (λ (r : ℕ × Totals). pos e.1.0 <ℤ pos r.0) (map (λ f. f.1) fs)
      above [] all mine = tt
      above (f ∷ fs) all mine = (
        subst (λ (n : ℕ). pos n <ℤ pos f.1.0) (own e (contains_first e es))
            (subst (λ (n : ℕ). pos e.0 <ℤ pos n) (mine f (contains_first f fs)) (less_below e.0 f.0 all.0)),
        above fs all.1 (λ h there. mine h (contains_further f h fs there)),
      )

  shifts_rise : IsKeyedBy (λ (r : ℕ × Totals). pos r.0) shift_rows
  shifts_rise = rise g.shift_totals.entries held.shift_totals.ordered
      (λ e there. held.shift_totals.own e.0 e.1 ((btree_map_get_iff nat_cmp_total exact_unsigned g.shift_totals held.shift_totals.ordered e.0 e.1).1 there))

  -- the shifts that are gathered rise, and columns can hold the totals of each
  pub shifts_fit : FitShifts shift_rows
  shifts_fit = (shifts_rise, all_there (λ (r : ℕ × Totals). HasRoomFor r.1) shift_rows room_of)

  -- the rows of these are the totals
  pub totals_are : (rows : Rows) → AreTotalsOf sales (with_shift_totals shift_rows (with_month_tenths month_rows (with_last_ids (values g.last_ids) rows)))
  totals_are rows = record {
    last_ids = are_rows key_cmp key_total key_exact base_place g.last_ids _ held.last_ids;
    month_tenths = months_are;
    shift_totals = shifts_are;
    by_shift = shifts_rise;
  }

-- ---- the writes of it

module _ (greatest : (t : ℕ) → IsRepresentable t → t ≤ 18201624) (sales : List Sale) (g : Gathered)
    (gathered : length sales ≤ 2 ^ 32 → IsGathered sales g) where
  abbrev ids : List ((List ℕ × Base) × ℕ)
  ids = values g.last_ids

  abbrev months : List ((List ℕ × ℕ) × ℕ)
  months = values g.month_tenths

  abbrev shifts : List (ℕ × Totals)
  shifts = values g.shift_totals

  held_of : (o : Office) → IsOffice o → sales ≡ o.sales → IsGathered sales g
  held_of o office same = let few : length o.sales ≤ greatest_count = office.sale_count in gathered (omega (arith, few, ap length same))

  fits : (o : Office) → IsOffice o → sales ≡ o.sales → FitColumns sales
  fits o office same = subst FitColumns (sym same) (fit_within o.sales (office_within greatest o office))

  -- what puts in all that is gathered puts in the totals of an office's sales
  pub all_written : (a b c : List Write) → ArePut PutsLastId ids a → ArePut PutsMonth months b → ArePut PutsTotals shifts c
      → AreTotalsWrites sales (a ++ (b ++ c))
  all_written a b c put_a put_b put_c o office same =
      let held = held_of o office same in
      let fit = fits o office same in
      let is_a = put_as PutsLastId new_last_id ids (λ r there w is. is) a put_a in
      let is_b = put_as PutsMonth new_month months (λ r there w puts. puts (All-contains (λ (x : (List ℕ × ℕ) × ℕ). x.1 < 2 ^ 63) months r
      (months_fit sales g held fit) there)) b put_b in
      let is_c = put_as PutsTotals new_totals shifts (λ r there w puts. puts (room_of sales g held fit r there)) c put_c in (
        with_shift_totals shifts (with_month_tenths months (with_last_ids ids no_rows)),
        totals_are sales g held fit no_rows,
        ap₂ ◌++◌ is_a (ap₂ ◌++◌ is_b is_c),
      )

  -- and those of the months and the shifts may follow
  pub months_follow : (a : List Write) → ArePut PutsLastId ids a → (rest : List Write) × AreTotalsWrites sales (a ++ rest)
  months_follow a put =
      let b = may_be_put PutsMonth (λ r. (new_month r, λ small. refl)) months in
      let c = may_be_put PutsTotals (λ r. (new_totals r, λ room. refl)) shifts in
      (b.0 ++ c.0, all_written a b.0 c.0 put b.1 c.1)

  -- these put in the first two
  abbrev pub ArePutTwo : List Write → Type 0
  ArePutTwo ws = (a : List Write) × (b : List Write) × ArePut PutsLastId ids a × ArePut PutsMonth months b × (ws ≡ a ++ b)

  -- writes of identifiers and then of months are such
  pub two_written : (a b : List Write) → ArePut PutsLastId ids a → ArePut PutsMonth months b → ArePutTwo (a ++ b)
  two_written a b put_a put_b = (a, b, put_a, put_b, refl)

  -- with those of shifts behind them they are all writes of totals
  pub three_written : (ws c : List Write) → ArePutTwo ws → ArePut PutsTotals shifts c → AreTotalsWrites sales (ws ++ c)
  three_written ws c (a, b, put_a, put_b, is) put_c =
      subst (AreTotalsWrites sales) (sym (append_assoc a b c) ∙ ap (λ (l : List Write). l ++ c) (sym is)) (all_written a b c put_a put_b put_c)

  -- and there are some of shifts to follow them
  pub shifts_follow : (ws : List Write) → ArePutTwo ws → (rest : List Write) × AreTotalsWrites sales (ws ++ rest)
  shifts_follow ws two =
      let c = may_be_put PutsTotals (λ r. (new_totals r, λ room. refl)) shifts in
      (c.0, three_written ws c.0 two c.1)

-- ---- all of it

-- the first two tables have these rows, where they had none
pub record PutsTwo (ids : List ((List ℕ × Base) × ℕ)) (months : List ((List ℕ × ℕ) × ℕ)) (old new : State) : Type 0 where
  pub only : WritesOnly totals_names old new
  pub rows : (told : ℕ) (rows : Rows) → FitMonths months
      → HoldsOf present_format told old.now (with_last_ids [] (with_month_tenths [] rows))
      → HoldsOf present_format told new.now (with_last_ids ids (with_month_tenths months rows))

-- the last identifiers are put in, and then the tenths of the months
pub puts_two : (ids : List ((List ℕ × Base) × ℕ)) (months : List ((List ℕ × ℕ) × ℕ)) (old one two : State)
    → PutsFirst with_last_ids AreAnyIds ids old one → PutsFirst with_month_tenths FitMonths months one two → PutsTwo ids months old two
puts_two ids months old one two first second = record {
  only = only_both totals_names old one two first.only second.only;
  rows = λ told rows fit held. second.rows told (with_last_ids ids rows) [] (subst FitMonths (sym (append-nil months)) fit)
      (first.rows told (with_month_tenths [] rows) [] tt held);
}

module _ (greatest : (t : ℕ) → IsRepresentable t → t ≤ 18201624) (sales : List Sale) (g : Gathered)
    (gathered : length sales ≤ 2 ^ 32 → IsGathered sales g) (old two new : State) where
  -- with the totals of the shifts too, the totals are those of the sales
  pub fills_gathered : PutsTwo (values g.last_ids) (values g.month_tenths) old two
      → PutsFirst with_shift_totals FitShifts (values g.shift_totals) two new → FillsTotals sales old new
  fills_gathered both third = record {
    only = only_both totals_names old two new both.only third.only;
    rows = λ told rows o office same held.
        let few : length o.sales ≤ greatest_count = office.sale_count in
        let held_of = gathered (omega (arith, few, ap length same)) in
        let fit : FitColumns sales = subst FitColumns (sym same) (fit_within o.sales (office_within greatest o office)) in
        let ids = values g.last_ids in
        let months = values g.month_tenths in
        let shifts = values g.shift_totals in
        let at_two = both.rows told (with_shift_totals [] rows) (months_fit sales g held_of fit) held in
        let at_new = third.rows told (with_last_ids ids (with_month_tenths months rows)) []
        (subst FitShifts (sym (append-nil shifts)) (shifts_fit sales g held_of fit)) at_two in
        (with_shift_totals shifts (with_last_ids ids (with_month_tenths months rows)), at_new, totals_are sales g held_of fit rows);
  }
