-- What the tables are after the totals of a sale were added one by one, and after the sale with
-- them.
use Rattle.std.proofs.Common.{◌≡◌, ◌≤◌, ◌+◌, ℕ, List, [], ◌∷◌, ◌++◌, codes, length, map, unwrap_or, Some, refl, sym, ap, subst, ◌∙◌}
use Rattle.sqlite.specs.State.{State}
use Rattle.sts_fields.specs.Amount.{IsRepresentable}
use Rattle.sts_fields.specs.Calendar.{month_at}
use Rattle.office_rules.specs.Decision.Edits.{applied}
use Rattle.office_rules.specs.Office.Lookup.{greatest_of}
use Rattle.office_rules.specs.Office.{AreNumbered, IsOffice, Office}
use Rattle.office_rules.specs.Law.Store.{MeetsNewSale}
use Rattle.office_rules.specs.declared.decision.change.Edit.TheVariants.{AddSale}
use Rattle.office_rules.specs.declared.office.sale.Sale.{Sale}
use Rattle.book_tables.specs.Holds.{HasOffice, HoldsMembers, HoldsOf}
use Rattle.book_tables.specs.reading.Reading.{HasAllTables}
use Rattle.book_tables.specs.row.Rows.{Rows, present_format, sale_row}
use Rattle.book_tables.specs.writing.Storing.{StoresRow}
use Rattle.book_tables.proofs.KeptLemmas.{names_differ, trees_differ}
use Rattle.book_tables.proofs.WritingLemmas.StoringLemmas.{left_by, stores_before}
use Rattle.book_tables.specs.Stands.{AreMembersOf, AreTotalsOf, sales_in_month, sales_in_shift, sales_under, tenths_of, totals_of}
use Rattle.book_tables.specs.writing.Writing.{AddsSale, AddsTenths, AddsToShift, AreSaleTotals, FitColumns, IsNextNumber, MayAddSold, MayAddTenths, MayAddToShift, MayAddTotals, SetsLastId, TellsSold, TellsSaleTotals, WritesOnly, totals_names, with_totals_of}
use Rattle.book_tables.specs.declared.row.totals.SaleTotals.{SaleTotals}
use Rattle.book_tables.specs.Kept.{last_ids_kept, month_tenths_kept, sales_kept, shift_totals_kept}
use Rattle.book_tables.specs.writing.Keeping.{AreInOrder, KeepsRows, last_id_keys, month_keys, sale_key, shift_totals_key, totals_keys}
use Rattle.book_tables.proofs.OfficeTableLemmas.{last_ids_in, month_tenths_in, sales_in, shift_totals_in}
use Rattle.book_tables.proofs.WritingLemmas.KeepingLemmas.{keeps_then, still_in_order}
use Rattle.book_tables.proofs.WritingLemmas.OnlyLemmas.{only_then}
use Rattle.book_tables.proofs.WritingLemmas.WriteLemmas.{changes_only}
use Rattle.book_tables.proofs.RowsOfLemmas.{rows_of_same}
use Rattle.book_tables.proofs.SalesOfLemmas.{fit_within, last_more, month_more, month_own, own_last, room_in_month, room_in_shift, sales_within, shift_more, shift_own, total_in_month, totals_in_shift}
use Rattle.book_tables.proofs.WritingLemmas.TotallingLemmas.{total_fits}

-- ---- writes one after another

-- the office's tables are still there
pub tables_stay : (names : List (List ℕ)) (old mid : State) → WritesOnly names old mid → HasAllTables old → HasAllTables mid
tables_stay names old mid only has runs = subst HasOffice (sym only.schema) (has only.inside.was_open)

-- ---- the totals of a sale

module _ (s : Sale) (last : ℕ) (shown : SaleTotals) (old one two new : State) (first : SetsLastId (s.meter, s.base) last old one)
    (second : AddsTenths (s.meter, month_at s.moment) s.tenths shown.month_tenths one two)
    (third : AddsToShift s.shift s.tenths s.price shown.shift two new) where
  abbrev two_names : List (List ℕ)
  two_names = codes "last_ids" ∷ codes "month_tenths" ∷ []

  -- after the three writes, only the tables of totals may have other rows
  pub only_totals : WritesOnly totals_names old new
  only_totals =
      only_then totals_names two_names (codes "shift_totals" ∷ []) refl refl old two new
      (only_then two_names (codes "last_ids" ∷ []) (codes "month_tenths" ∷ []) refl refl old one two first.only second.only) third.only

  -- the rows with the totals of these sales and this one, and what was told of it
  record After (format : ℕ) (rows : Rows) (sales : List Sale) : Type 0 where
    totals : Rows
    holds : HoldsOf present_format format new.now (with_totals_of totals rows)
    are : greatest_of (map (λ t. t.tid) (sales_under (sales ++ s ∷ []) (s.meter, s.base))) ≡ Some last → AreTotalsOf (sales ++ s ∷ []) totals
    shows : AreSaleTotals s (sales ++ s ∷ []) shown

  after : (format : ℕ) (rows : Rows) (sales : List Sale) → HoldsOf present_format format old.now rows → AreTotalsOf sales rows
      → FitColumns (sales ++ s ∷ []) → After format rows sales
  after format rows sales held are fit =
      let ids = first.rows format rows (λ k. greatest_of (map (λ t. t.tid) (sales_under sales k))) held are.last_ids in
      let with_ids : Rows = record rows { last_ids = ids.0 } in
      let month = second.rows format with_ids (λ k. tenths_of (sales_in_month sales k)) ids.1 are.month_tenths (room_in_month sales s fit) in
      let with_month : Rows = record with_ids { month_tenths = month.0 } in
      let shift = third.rows format with_month (λ k. totals_of (sales_in_shift sales k)) month.1 are.shift_totals are.by_shift (room_in_shift sales s fit) in
      let more : List Sale = sales ++ s ∷ [] in
      record {
        totals = record with_month { shift_totals = shift.0 };
        holds = shift.1;
        are = λ own. record {
          last_ids = rows_of_same ids.0 _ (λ k. greatest_of (map (λ t. t.tid) (sales_under more k))) (last_more sales s last own) ids.2;
          month_tenths = rows_of_same month.0 _ (λ k. tenths_of (sales_in_month more k)) (month_more sales s) month.2;
          shift_totals = rows_of_same shift.0 _ (λ k. totals_of (sales_in_shift more k)) (shift_more sales s) shift.2;
          by_shift = shift.3;
        };
        shows = (month_own sales s ∙ ap Some (sym month.3), shift_own sales s ∙ ap Some (sym shift.4));
      }

  -- each is made of a table that the ones before it left
  keeps_totals : HasAllTables old → AreInOrder totals_names old.now → KeepsRows (totals_keys s) old.now new.now
  keeps_totals has order =
      let here = has first.only.inside.was_open in
      let then : HasOffice one.now.schema = subst HasOffice (sym first.only.schema) here in
      let to_one = changes_only (codes "last_ids") old one first.only in
      let to_two = changes_only (codes "month_tenths") one two second.only in
      let months = still_in_order month_tenths_kept last_ids_kept month_tenths_in last_ids_in old.now one.now here to_one refl order.1.0 in
      let shifts = still_in_order shift_totals_kept last_ids_kept shift_totals_in last_ids_in old.now one.now here to_one refl order.1.1.0 in
      let shifts_then = still_in_order shift_totals_kept month_tenths_kept shift_totals_in month_tenths_in one.now two.now then to_two refl shifts in
      keeps_then (last_id_keys (s.meter, s.base)) (month_keys (s.meter, month_at s.moment) ++ shift_totals_key s.shift) old.now one.now
      new.now (first.kept (order.0, tt))
      (keeps_then (month_keys (s.meter, month_at s.moment)) (shift_totals_key s.shift) one.now two.now new.now (second.kept (months, tt))
      (third.kept (shifts_then, tt)))

  -- the totals are those with the sale, and what was told of it is what they are
  pub tells_totals : HasAllTables old → TellsSaleTotals s last shown old new
  tells_totals has = record {
    adds = record {
      only = only_totals;
      kept = keeps_totals has;
      rows = λ format rows sales held are fit own. let it = after format rows sales held are fit in (it.totals, it.holds, it.are own);
    };
    tells = λ format rows sales held are fit. (after format rows sales held are fit).shows;
  }

-- what a write finds after the one before it
module _ (s : Sale) (last : ℕ) (old new : State) (format : ℕ) (rows : Rows) (held : HoldsOf present_format format old.now rows) where
  -- once the last identifier is set, the tenths may be added, and then the shift's totals
  pub may_add_tenths : SetsLastId (s.meter, s.base) last old new → MayAddTotals s last format rows
      → (after : Rows) × HoldsOf present_format format new.now after × MayAddTenths (s.meter, month_at s.moment) s.tenths format after
      × MayAddToShift s.shift s.tenths s.price format after
  may_add_tenths first (small, (sales, are, few)) =
      let ids = first.rows format rows (λ k. greatest_of (map (λ t. t.tid) (sales_under sales k))) held are.last_ids in (
        record rows { last_ids = ids.0 },
        ids.1,
        ((λ k. tenths_of (sales_in_month sales k)), are.month_tenths, total_in_month sales s few),
        ((λ k. totals_of (sales_in_shift sales k)), are.shift_totals, are.by_shift, totals_in_shift sales s few),
      )

  -- once the tenths are added, the sale may still be added to the totals of its shift
  pub may_add_to_shift : (sum : ℕ) → AddsTenths (s.meter, month_at s.moment) s.tenths sum old new
      → MayAddTenths (s.meter, month_at s.moment) s.tenths format rows → MayAddToShift s.shift s.tenths s.price format rows
      → (after : Rows) × HoldsOf present_format format new.now after × MayAddToShift s.shift s.tenths s.price format after
  may_add_to_shift sum second (has, are, small) (has_totals, are_totals, up, within) =
      let month = second.rows format rows has held are (total_fits (unwrap_or (has (s.meter, month_at s.moment)) 0 + s.tenths) small) in
      (record rows { month_tenths = month.0 }, month.1, (has_totals, are_totals, up, within))

-- ---- a sale and its totals

module _ (s : Sale) where
  abbrev with_sale : Rows → Rows
  with_sale rows = record rows { sales = rows.sales ++ s ∷ [] }

  next_is : (o : Office) (rows : Rows) → IsOffice o → MeetsNewSale o s → AreMembersOf rows o → IsNextNumber (λ (t : Sale). t.number) rows.sales s.number
  next_is o rows office meets are = record {
    numbered = subst (λ (l : List Sale). AreNumbered (λ (t : Sale). t.number) l) (sym are.sales) office.sale_numbers;
    next_is = meets.number ∙ ap (λ (l : List Sale). length l + 1) (sym are.sales);
  }

  own_totals : (o : Office) (rows : Rows) → AreMembersOf rows o → AreTotalsOf o.sales (with_sale rows)
  own_totals o rows are = record {
    last_ids = are.totals.last_ids;
    month_tenths = are.totals.month_tenths;
    shift_totals = are.totals.shift_totals;
    by_shift = are.totals.by_shift;
  }

  -- what is found after the sale was added
  pub may_add_totals : ((t : ℕ) → IsRepresentable t → t ≤ 18201624) → (old mid : State) → AddsSale s old mid → (format : ℕ) (rows : Rows)
      → HoldsOf present_format format old.now rows → MayAddSold s format rows
      → (after : Rows) × HoldsOf present_format format mid.now after × MayAddTotals s s.tid format after
  may_add_totals greatest old mid first format rows held (present, (o, office, meets, are)) =
      let before = subst (λ (f : ℕ). HoldsOf present_format f old.now rows) present held in
      let after = first.rows rows before (next_is o rows office meets are) in (
        with_sale rows,
        subst (λ (f : ℕ). HoldsOf present_format f mid.now (with_sale rows)) (sym present) after,
        (meets.values.tid, (o.sales, own_totals o rows are, sales_within greatest o s office meets)),
      )

module _ (greatest : (t : ℕ) → IsRepresentable t → t ≤ 18201624) (s : Sale) (shown : SaleTotals) (old mid new : State)
    (first : AddsSale s old mid) (second : TellsSaleTotals s s.tid shown mid new) where
  members : (o : Office) → IsOffice o → MeetsNewSale o s → HoldsMembers old.now o → HoldsMembers new.now (applied (AddSale s) o)
  members o office meets (rows, held, are) =
      let it = second.adds.rows present_format (with_sale s rows) o.sales (first.rows rows held (next_is s o rows office meets are))
      (own_totals s o rows are) (fit_within (o.sales ++ s ∷ []) (sales_within greatest o s office meets)) (own_last o s meets) in (
        with_totals_of it.0 (with_sale s rows),
        it.1,
        record {
          tariffs = are.tariffs;
          steps = are.steps;
          meters = are.meters;
          bases = are.bases;
          dated_steps = are.dated_steps;
          shifts = are.shifts;
          sales = ap (λ (l : List Sale). l ++ s ∷ []) are.sales;
          totals = record { last_ids = it.2.last_ids; month_tenths = it.2.month_tenths; shift_totals = it.2.shift_totals; by_shift = it.2.by_shift };
          tariffs_once = are.tariffs_once;
          steps_once = are.steps_once;
          meters_once = are.meters_once;
          bases_once = are.bases_once;
          dated_once = are.dated_once;
        },
      )

  keeps_sold : HasAllTables old → AreInOrder totals_names old.now → KeepsRows (sale_key s.number ++ totals_keys s) old.now new.now
  keeps_sold has order =
      let here = has first.only.inside.was_open in
      let to_mid = changes_only (codes "sales") old mid first.only in
      let ids = still_in_order last_ids_kept sales_kept last_ids_in sales_in old.now mid.now here to_mid refl order.0 in
      let months = still_in_order month_tenths_kept sales_kept month_tenths_in sales_in old.now mid.now here to_mid refl order.1.0 in
      let shifts = still_in_order shift_totals_kept sales_kept shift_totals_in sales_in old.now mid.now here to_mid refl order.1.1.0 in
      keeps_then (sale_key s.number) (totals_keys s) old.now mid.now new.now first.kept (second.adds.kept (ids, (months, (shifts, tt))))

  stored_sold : HasAllTables old → StoresRow sales_kept (sale_row s) old.now new.now
  stored_sold has =
      let then : HasOffice mid.now.schema = subst HasOffice (sym first.only.schema) (has first.only.inside.was_open) in
      let sale_in = (sales_in.there mid.now.schema then).0 in
      let from_ids = trees_differ mid.now.schema sales_kept.table last_ids_kept.table sale_in (last_ids_in.there mid.now.schema then).0
      (names_differ _ _ refl) in
      let from_months = trees_differ mid.now.schema sales_kept.table month_tenths_kept.table sale_in
      (month_tenths_in.there mid.now.schema then).0 (names_differ _ _ refl) in
      let from_shifts = trees_differ mid.now.schema sales_kept.table shift_totals_kept.table sale_in
      (shift_totals_in.there mid.now.schema then).0 (names_differ _ _ refl) in
      stores_before sales_kept (sale_row s ∷ []) old.now mid.now new.now first.stored
      (left_by sales_kept totals_names sales_in mid new then (from_ids, (from_months, (from_shifts, tt))) second.adds.only)

  -- the office has the sale and its totals, and what was told of it is what they are
  pub tells_sold : HasAllTables old → TellsSold s shown old new
  tells_sold has = record {
    adds = record {
      only = only_then (codes "sales" ∷ totals_names) (codes "sales" ∷ []) totals_names refl refl old mid new first.only second.adds.only;
      kept = keeps_sold has;
      stored = stored_sold has;
      members = members;
    };
    tells = λ o office meets held.
        second.tells present_format (with_sale s held.0) o.sales (first.rows held.0 held.1 (next_is s o held.0 office meets held.2))
        (own_totals s o held.0 held.2) (fit_within (o.sales ++ s ∷ []) (sales_within greatest o s office meets));
  }
