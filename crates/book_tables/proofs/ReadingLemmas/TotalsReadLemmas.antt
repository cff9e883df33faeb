-- What the statements on the running totals find.
use Rattle.std.proofs.Common.{◌≡◌, ◌≤◌, ◌*◌, ℕ, List, [], ◌∷◌, length, map, filter, not, sum_by, unwrap_or, option_map, Option, Some, None, refl, sym, ap, subst, ◌∙◌, arith}
use Rattle.std.specs.Prelude.{◌==◌, IfSome, Bool}
use Rattle.std.specs.Option.{option_to_list}
use Rattle.std.proofs.lemmas.List.Elements.{All-filter, All-map, All-weaker}
use Rattle.std.proofs.lemmas.List.Filters.{length-filter_both}
use Rattle.std.proofs.lemmas.List.Sums.{sum_by-le}
use Rattle.sqlite.specs.Order.{Row}
use Rattle.sqlite.specs.declared.types.Value.TheVariants.{Text}
use Rattle.sqlite_typed.proofs.TestLemmas.{last_term, then_term}
use Rattle.one_table.proofs.HiddenLemmas.{one_hidden}
use Rattle.one_table.proofs.ListedLemmas.{one_row}
use Rattle.one_table.proofs.TestsLemmas.{number_is, text_is}
use Rattle.sts_fields.specs.Amount.{IsRepresentable}
use Rattle.sts_fields.specs.Base.{year_of}
use Rattle.sts_fields.specs.Calendar.{month_at}
use Rattle.sts_fields.specs.Tid.{last_tid}
use Rattle.sts_fields.specs.declared.base.Base.{Base}
use Rattle.office_rules.specs.Office.Lookup.{greatest_of}
use Rattle.office_rules.specs.Office.{greatest_count}
use Rattle.office_rules.specs.declared.office.sale.Sale.{Sale}
use Rattle.book_tables.specs.Kept.{last_ids_kept, month_tenths_kept, shift_totals_kept}
use Rattle.book_tables.specs.reading.Reading.{AreOfOffice}
use Rattle.book_tables.specs.row.Rows.{Rows, number, shown_number, shown_totals}
use Rattle.book_tables.specs.Stands.{AreTotalsOf, sales_in_month, sales_in_shift, sales_under, tenths_of, totals_of}
use Rattle.book_tables.specs.Tables.{last_ids_table, month_tenths_table, shift_totals_table}
use Rattle.book_tables.specs.row.Values.{AreSaleValues, AreTotalsValues, IsTid, IsTotal}
use Rattle.book_tables.specs.writing.Writing.{is_in_month, is_under}
use Rattle.book_tables.specs.declared.row.total_records.Tenths.{Tenths}
use Rattle.book_tables.specs.declared.row.total_records.Tid.{Tid}
use Rattle.book_tables.specs.declared.row.totals.Totals.{Totals}
use Rattle.book_tables.proofs.ReadingLemmas.FindLemmas.{Finds}
use Rattle.book_tables.proofs.RowLemmas.RecordLemmas.{one_number}
use Rattle.book_tables.proofs.RowsOfLemmas.{few_under, found_under}
use Rattle.book_tables.proofs.ReadingLemmas.SaleLemmas.{sales_keep_values}
use Rattle.book_tables.proofs.SalesOfLemmas.{all_totals, greatest_within, tells_month, tells_number, tells_under}
use Rattle.book_tables.proofs.WritingLemmas.TotalsTexts.{last_id_asks, last_id_names, last_id_query, last_id_text, month_tenths_asks, month_tenths_names, month_tenths_query, month_sum_text, shift_totals_asks, shift_totals_names, shift_totals_query, shift_sums_text}

-- the running totals in the rows of an office are those of its sales
pub own_totals : (rows : Rows) → AreOfOffice rows → AreTotalsOf rows.sales rows
own_totals rows (o, office, are) = subst (λ (l : List Sale). AreTotalsOf l rows) (sym are.sales) are.totals

-- what is shown of the row of a key
shown_of : {K V M : Type 0} (show : V → Row) (shown : M → Row) (record_of : V → M) → ((v : V) → shown (record_of v) ≡ show v) → (key : K) (o : Option V)
    → map (λ (r : K × V). show r.1) (map (λ (v : V). let r : K × V = (key, v) in r) (option_to_list o)) ≡ map shown (option_to_list (option_map record_of o))
shown_of show shown record_of same key None = refl
shown_of show shown record_of same key (Some v) = ap (λ (row : Row). row ∷ []) (sym (same v))

-- a record that is made of what keeps a rule keeps it too
pub keeps_of : {V M : Type 0} (rule : V → Type 0) (keeps : M → Type 0) (record_of : V → M) → ((v : V) → rule v → keeps (record_of v))
    → (o : Option V) → IfSome o rule → IfSome (option_map record_of o) keeps
keeps_of rule keeps record_of each None kept = _
keeps_of rule keeps record_of each (Some v) kept = each v kept

-- ---- the last identifier of a meter under a base

-- an identifier, as it is read
abbrev pub tid_of : ℕ → Tid
tid_of n = record { number = n }

-- two records of one identifier are one
pub one_tid : (a b : Tid) → shown_number a.number ≡ shown_number b.number → a ≡ b
one_tid a b same =
    let number : a.number ≡ b.number = one_number a.number b.number same in
    let A : Tid = record { number = a.number } in
    let B : Tid = record { number = b.number } in
    let is : A ≡ B = cc in
    is

module _ (meter : List ℕ) (base : Base) where
  abbrev base_key : List ℕ × Base
  base_key = (meter, base)

  abbrev last_in : List Sale → Option ℕ
  last_in sales = greatest_of (map (λ s. s.tid) (sales_under sales base_key))

  -- the last identifier of the meter under the base, from the sales, as it is read
  abbrev pub found_tid : Rows → Option Tid
  found_tid rows = option_map tid_of (last_in rows.sales)

  -- what is read of an identifier is the identifier
  pub tid_back : (o : Option ℕ) → option_map (λ (t : Tid). t.number) (option_map tid_of o) ≡ o
  tid_back None = refl
  tid_back (Some n) = refl

  -- those of an office's sales are of 24 bits
  pub tids_within : (rows : Rows) → AreOfOffice rows → IfSome (last_in rows.sales) IsTid
  tids_within rows of_office =
      let sold = sales_under rows.sales base_key in
      let values = All-filter (λ s. is_under base_key (s.meter, s.base)) AreSaleValues rows.sales (sales_keep_values rows of_office) in
      greatest_within last_tid (map (λ (s : Sale). s.tid) sold)
      (All-map IsTid (λ (s : Sale). s.tid) sold (All-weaker AreSaleValues (λ s. IsTid s.tid) (λ s value. value.tid) sold values))

  -- the text finds the last identifier of the meter under the base
  pub last_id_found : Finds last_ids_kept last_id_text (Text meter ∷ number (year_of base) ∷ []) (λ (t : Tid). shown_number t.number)
      (λ (t : Tid). IsTid t.number) found_tid
  last_id_found = record {
    table = last_ids_table;
    query = last_id_query;
    names = last_id_names;
    asks = last_id_asks meter (year_of base);
    stands = λ s has. has.0.has;
    one = λ a b keeps_a keeps_b same. one_tid a b same;
    kept = λ rows of_office. keeps_of IsTid (λ (t : Tid). IsTid t.number) tid_of (λ n kept. kept) (last_in rows.sales) (tids_within rows of_office);
    answers = λ db rows held of_office answer is.
        let are = (own_totals rows of_office).last_ids in
        let has = λ (k : List ℕ × Base). greatest_of (map (λ (s : Sale). s.tid) (sales_under rows.sales k)) in
        one_hidden (record {
          holds_them = held.1.1.0;
          some = λ r none. cc;
          passes = λ hidden r. then_term (text_is r.0.0 meter) (last_term (number_is (year_of r.0.1) (year_of base)));
          shows = λ hidden r. refl;
        }) answer is
        (few_under (is_under base_key) base_key (tells_under base_key) rows.last_ids has are)
        ∙ ap (map (λ (r : (List ℕ × Base) × ℕ). shown_number r.1)) (found_under (is_under base_key) base_key (tells_under base_key) rows.last_ids has are)
        ∙ shown_of shown_number (λ (t : Tid). shown_number t.number) tid_of (λ n. refl) base_key (last_in rows.sales);
  }

-- ---- the tenths of a meter in a month

-- how great the sum of some of an office's sales can be
few_sales : (p : Sale → Bool) (rows : Rows) → AreOfOffice rows → length (filter p rows.sales) ≤ greatest_count
few_sales p rows (o, office, are) =
    omega (arith, length-filter_both p (λ s. not (p s)) (λ s. refl) rows.sales, ap length are.sales, office.sale_count)

sum_within : (p : Sale → Bool) (f : Sale → ℕ) (most : ℕ) → ((s : Sale) → AreSaleValues s → f s ≤ most) → (rows : Rows) → AreOfOffice rows
    → sum_by f (filter p rows.sales) ≤ length (filter p rows.sales) * most
sum_within p f most each rows of_office =
    sum_by-le f most (filter p rows.sales) (All-weaker AreSaleValues (λ s. f s ≤ most) each (filter p rows.sales)
    (All-filter p AreSaleValues rows.sales (sales_keep_values rows of_office)))

tenths_within : ((t : ℕ) → IsRepresentable t → t ≤ 18201624) → (p : Sale → Bool) (rows : Rows) → AreOfOffice rows
    → IsTotal (sum_by (λ (s : Sale). s.tenths) (filter p rows.sales))
tenths_within greatest p rows of_office =
    let few = few_sales p rows of_office in
    let sum = sum_within p (λ (s : Sale). s.tenths) 18201624 (λ s values. greatest s.tenths values.tenths) rows of_office in
    omega (arith, few, sum)

some_tenths : (xs : List Sale) → IsTotal (sum_by (λ (s : Sale). s.tenths) xs) → IfSome (tenths_of xs) IsTotal
some_tenths [] within = _
some_tenths (x ∷ xs) within = within

module _ (greatest : (t : ℕ) → IsRepresentable t → t ≤ 18201624) (meter : List ℕ) (month : ℕ) where
  abbrev month_key : List ℕ × ℕ
  month_key = (meter, month)

  abbrev tenths_record : ℕ → Tenths
  tenths_record n = record { sum = n }

  -- the sum of the meter's tenths in the month, from the sales, as it is read
  abbrev pub found_tenths : Rows → Option Tenths
  found_tenths rows = option_map tenths_record (tenths_of (sales_in_month rows.sales month_key))

  -- what is read of the sum of some sales is the sum, or 0 where there are none
  pub tenths_back : (xs : List Sale) → unwrap_or (option_map (λ (t : Tenths). t.sum) (option_map tenths_record (tenths_of xs))) 0 ≡ sum_by (λ s. s.tenths) xs
  tenths_back [] = refl
  tenths_back (x ∷ xs) = refl

  one_tenths : (a b : Tenths) → shown_number a.sum ≡ shown_number b.sum → a ≡ b
  one_tenths a b same =
      let sum : a.sum ≡ b.sum = one_number a.sum b.sum same in
      let A : Tenths = record { sum = a.sum } in
      let B : Tenths = record { sum = b.sum } in
      let is : A ≡ B = cc in
      is

  -- the text finds the sum of the tenths of the meter in the month
  pub month_found : Finds month_tenths_kept month_sum_text (Text meter ∷ number month ∷ []) (λ (t : Tenths). shown_number t.sum)
      (λ (t : Tenths). IsTotal t.sum) found_tenths
  month_found = record {
    table = month_tenths_table;
    query = month_tenths_query;
    names = month_tenths_names;
    asks = month_tenths_asks meter month;
    stands = λ s has. has.0.has;
    one = λ a b keeps_a keeps_b same. one_tenths a b same;
    kept = λ rows of_office.
        let sold = sales_in_month rows.sales month_key in
        keeps_of IsTotal (λ (t : Tenths). IsTotal t.sum) tenths_record (λ n kept. kept) (tenths_of sold)
        (some_tenths sold (tenths_within greatest (λ s. is_in_month month_key (s.meter, month_at s.moment)) rows of_office));
    answers = λ db rows held of_office answer is.
        let are = (own_totals rows of_office).month_tenths in
        let has = λ (k : List ℕ × ℕ). tenths_of (sales_in_month rows.sales k) in
        one_hidden (record {
          holds_them = held.1.1.0;
          some = λ r none. cc;
          passes = λ hidden r. then_term (text_is r.0.0 meter) (last_term (number_is r.0.1 month));
          shows = λ hidden r. refl;
        }) answer is
        (few_under (is_in_month month_key) month_key (tells_month month_key) rows.month_tenths has are)
        ∙ ap (map (λ (r : (List ℕ × ℕ) × ℕ). shown_number r.1))
        (found_under (is_in_month month_key) month_key (tells_month month_key) rows.month_tenths has are)
        ∙ shown_of shown_number (λ (t : Tenths). shown_number t.sum) tenths_record (λ n. refl) month_key (tenths_of (sales_in_month rows.sales month_key));
  }

-- ---- the totals of a shift

module _ (greatest : (t : ℕ) → IsRepresentable t → t ≤ 18201624) (shift : ℕ) where
  -- the totals of the shift, from the sales, where it has any
  abbrev pub found_totals : Rows → Option Totals
  found_totals rows = totals_of (sales_in_shift rows.sales shift)

  abbrev is_shift : ℕ → Bool
  is_shift n = n == shift

  one_totals : (a b : Totals) → shown_totals a ≡ shown_totals b → a ≡ b
  one_totals a b same =
      let A : Totals = record { sales = a.sales; tenths = a.tenths; cash = a.cash } in
      let B : Totals = record { sales = b.sales; tenths = b.tenths; cash = b.cash } in
      let is : A ≡ B = cc in
      is

  totals_within : (rows : Rows) → AreOfOffice rows → AreTotalsValues (all_totals (sales_in_shift rows.sales shift))
  totals_within rows of_office =
      let in_shift : Sale → Bool = λ s. s.shift == shift in
      let few = few_sales in_shift rows of_office in
      let cash = sum_within in_shift (λ (s : Sale). s.price) 100000000 (λ s values. omega (arith, values.price, values.tender.1)) rows of_office in
      record { sales = omega (arith, few); tenths = tenths_within greatest in_shift rows of_office; cash = omega (arith, few, cash) }

  some_totals : (xs : List Sale) → AreTotalsValues (all_totals xs) → IfSome (totals_of xs) AreTotalsValues
  some_totals [] within = _
  some_totals (x ∷ xs) within = within

  same_record : (o : Option Totals) → option_map (λ (t : Totals). t) o ≡ o
  same_record None = refl
  same_record (Some t) = refl

  -- the text finds the totals of the shift
  pub totals_found : Finds shift_totals_kept shift_sums_text (number shift ∷ []) shown_totals AreTotalsValues found_totals
  totals_found = record {
    table = shift_totals_table;
    query = shift_totals_query;
    names = shift_totals_names;
    asks = shift_totals_asks shift;
    stands = λ s has. has.0.has;
    one = λ a b keeps_a keeps_b same. one_totals a b same;
    kept = λ rows of_office. some_totals (sales_in_shift rows.sales shift) (totals_within rows of_office);
    answers = λ db rows held of_office answer is.
        let are = (own_totals rows of_office).shift_totals in
        let has = λ (k : ℕ). totals_of (sales_in_shift rows.sales k) in
        one_row (record { holds_them = held.1.1; passes = λ r. last_term (number_is r.0 shift); shows = λ r. refl }) answer is
        (few_under is_shift shift (tells_number shift) rows.shift_totals has are)
        ∙ ap (map (λ (r : ℕ × Totals). shown_totals r.1)) (found_under is_shift shift (tells_number shift) rows.shift_totals has are)
        ∙ shown_of shown_totals shown_totals (λ (t : Totals). t) (λ t. refl) shift (found_totals rows)
        ∙ ap (λ (o : Option Totals). map shown_totals (option_to_list o)) (same_record (found_totals rows));
  }
