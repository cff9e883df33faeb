-- What the statements on the table of sales find.
use Rattle.std.proofs.Common.{pos, None, option_map, unwrap_or, take, reverse, ◌≡◌, ℕ, List, [], ◌∷◌, length, map, refl, sym, ap, subst, ◌∙◌, ◌≤◌}
use Rattle.std.specs.Prelude.{◌&&◌, ◌==◌, All, Bool, bytes_eq, codes, filter, find}
use Rattle.std.specs.List.{last_or}
use Rattle.std.specs.Option.{option_to_list}
use Rattle.std.proofs.lemmas.List.Elements.{All-weaker}
use Rattle.sqlite.specs.declared.types.Value.TheVariants.{Int, Text}
use Rattle.sqlite_sql.specs.Term.{lit}
use Rattle.sqlite_typed.proofs.TestLemmas.{last_term, then_term}
use Rattle.one_table.proofs.ListedLemmas.{last_by_key, one_row}
use Rattle.one_table.proofs.TestsLemmas.{number_is, text_is}
use Rattle.sts_fields.specs.Base.{base_eq, year_of}
use Rattle.sts_fields.specs.declared.base.Base.{Base}
use Rattle.office_rules.specs.Office.{AreNumbered, IsOffice, Office}
use Rattle.office_rules.specs.declared.office.sale.Sale.{Sale}
use Rattle.book_tables.specs.reading.Reading.{AreOfOffice}
use Rattle.book_tables.specs.Kept.{sales_kept}
use Rattle.book_tables.specs.row.Rows.{Rows, number, shown_number, shown_sale}
use Rattle.book_tables.specs.Tables.{sales_table}
use Rattle.book_tables.specs.row.Values.{AreSaleValues, IsNumber}
use Rattle.book_tables.proofs.ReadingLemmas.FindLemmas.{Finds}
use Rattle.book_tables.proofs.ReadingLemmas.FoundLemmas.{found_numbered, found_ref, found_tid}
use Rattle.book_tables.proofs.ReadingLemmas.LastLemmas.{all_pass, last_is_count, last_number_keeps, last_number_shown, numbers_rise}
use Rattle.book_tables.proofs.ReadingLemmas.ReadLemmas.{few, found_keeps}
use Rattle.book_tables.proofs.RowLemmas.RecordLemmas.{one_number, one_shown_sale}
use Rattle.book_tables.proofs.ReadingLemmas.SaleTexts.{last_sale_asks, last_sale_query, last_sale_text, sale_names, sale_numbered_asks, sale_numbered_query, sale_numbered_text, sale_of_ref_asks, sale_of_ref_query, sale_of_ref_text, sale_of_tid_asks, sale_of_tid_query, sale_of_tid_text}
use Rattle.book_tables.proofs.RowLemmas.ValueLemmas.{sales_keep}

-- what holds of the sales of each office
sales_of : (P : List Sale → Type 0) → ((o : Office) → IsOffice o → P o.sales) → (rows : Rows) → AreOfOffice rows → P rows.sales
sales_of P each rows (o, office, are) = subst P (sym are.sales) (each o office)

-- the sales in the rows of an office keep the rules of their values
pub sales_keep_values : (rows : Rows) → AreOfOffice rows → All AreSaleValues rows.sales
sales_keep_values = sales_of (All AreSaleValues) sales_keep

-- and they are numbered from 1 on
pub numbered : (rows : Rows) → AreOfOffice rows → AreNumbered (λ (s : Sale). s.number) rows.sales
numbered = sales_of (AreNumbered (λ (s : Sale). s.number)) (λ o office. office.sale_numbers)

-- a test that at most one sale of an office passes
abbrev IsOfOne : (Sale → Bool) → Type 0
IsOfOne p = (o : Office) → IsOffice o → filter p o.sales ≡ option_to_list (find p o.sales)

-- so it is with the office's rows
one_of_rows : (p : Sale → Bool) → IsOfOne p → (rows : Rows) → AreOfOffice rows → filter p rows.sales ≡ option_to_list (find p rows.sales)
one_of_rows p one = sales_of (λ sales. filter p sales ≡ option_to_list (find p sales)) one

few_of_rows : (p : Sale → Bool) → IsOfOne p → (rows : Rows) → AreOfOffice rows → length (filter p rows.sales) ≤ 1
few_of_rows p one rows of_office = subst (λ (l : List Sale). length l ≤ 1) (sym (one_of_rows p one rows of_office)) (few (find p rows.sales))

-- ---- the sale of a number

module _ (n : ℕ) where
  abbrev has_number : Sale → Bool
  has_number s = s.number == n

  of_one_number : IsOfOne has_number
  of_one_number o office = found_numbered (λ (s : Sale). s.number) o.sales n office.sale_numbers

  -- the text finds the sale of the number
  pub sale_numbered : Finds sales_kept sale_numbered_text (number n ∷ []) shown_sale AreSaleValues (λ rows. find has_number rows.sales)
  sale_numbered = record {
    table = sales_table;
    query = sale_numbered_query;
    names = sale_names;
    asks = sale_numbered_asks n;
    stands = λ s has. has.0.has;
    one = λ a b keeps_a keeps_b same. one_shown_sale a b same;
    kept = λ rows of_office. found_keeps has_number AreSaleValues rows.sales (sales_keep_values rows of_office);
    answers = λ db rows held of_office answer is.
        one_row (record { holds_them = held.1.1; passes = λ s. last_term (number_is s.number n); shows = λ s. refl }) answer is
        (few_of_rows has_number of_one_number rows of_office)
        ∙ ap (map shown_sale) (one_of_rows has_number of_one_number rows of_office);
  }

-- ---- the sale that an operator made under a ref

module _ (operator order_ref : List ℕ) where
  abbrev has_ref : Sale → Bool
  has_ref s = bytes_eq s.operator operator && bytes_eq s.order_ref order_ref

  of_one_ref : IsOfOne has_ref
  of_one_ref o office = found_ref o operator order_ref office

  -- the text finds the sale that the operator made under the ref
  pub sale_of_ref : Finds sales_kept sale_of_ref_text (Text operator ∷ Text order_ref ∷ []) shown_sale AreSaleValues (λ rows. find has_ref rows.sales)
  sale_of_ref = record {
    table = sales_table;
    query = sale_of_ref_query;
    names = sale_names;
    asks = sale_of_ref_asks operator order_ref;
    stands = λ s has. has.0.has;
    one = λ a b keeps_a keeps_b same. one_shown_sale a b same;
    kept = λ rows of_office. found_keeps has_ref AreSaleValues rows.sales (sales_keep_values rows of_office);
    answers = λ db rows held of_office answer is.
        one_row (record {
          holds_them = held.1.1;
          passes = λ s. then_term (text_is s.operator operator)
              (last_term (text_is s.order_ref order_ref));
          shows = λ s. refl;
        }) answer is
        (few_of_rows has_ref of_one_ref rows of_office)
        ∙ ap (map shown_sale) (one_of_rows has_ref of_one_ref rows of_office);
  }

-- ---- the sale of an identifier of a meter under a base

module _ (meter : List ℕ) (base : Base) (tid : ℕ) where
  abbrev has_tid : Sale → Bool
  has_tid s = bytes_eq s.meter meter && (base_eq s.base base && (s.tid == tid))

  of_one_tid : IsOfOne has_tid
  of_one_tid o office = found_tid o meter base tid office

  -- the text finds the sale of the identifier, of the meter under the base
  pub sale_of_tid : Finds sales_kept sale_of_tid_text (Text meter ∷ number (year_of base) ∷ number tid ∷ []) shown_sale AreSaleValues
      (λ rows. find has_tid rows.sales)
  sale_of_tid = record {
    table = sales_table;
    query = sale_of_tid_query;
    names = sale_names;
    asks = sale_of_tid_asks meter (year_of base) tid;
    stands = λ s has. has.0.has;
    one = λ a b keeps_a keeps_b same. one_shown_sale a b same;
    kept = λ rows of_office. found_keeps has_tid AreSaleValues rows.sales (sales_keep_values rows of_office);
    answers = λ db rows held of_office answer is.
        one_row (record {
          holds_them = held.1.1;
          passes = λ s. then_term (text_is s.meter meter)
              (then_term (number_is (year_of s.base) (year_of base)) (last_term (number_is s.tid tid)));
          shows = λ s. refl;
        }) answer is
        (few_of_rows has_tid of_one_tid rows of_office)
        ∙ ap (map shown_sale) (one_of_rows has_tid of_one_tid rows of_office);
  }

-- ---- the number of the last sale

-- the number of the last sale, or 0 where there is none, is how many sales there are
pub last_sale_counts : (rows : Rows) → AreOfOffice rows → unwrap_or (option_map (λ (s : Sale). s.number) (last_or None rows.sales)) 0 ≡ length rows.sales
last_sale_counts rows of_office = last_is_count (λ (s : Sale). s.number) rows.sales (numbered rows of_office)

-- the text finds the number of the last sale
pub last_sale_number : Finds sales_kept last_sale_text [] shown_number IsNumber (λ rows. option_map (λ s. s.number) (last_or None rows.sales))
last_sale_number = record {
  table = sales_table;
  query = last_sale_query;
  names = codes "number" ∷ [];
  asks = last_sale_asks;
  stands = λ s has. has.0.has;
  one = λ a b keeps_a keeps_b same. one_number a b same;
  kept = λ rows of_office. last_number_keeps (λ s. s.number) IsNumber rows.sales
      (All-weaker AreSaleValues (λ s. IsNumber s.number) (λ s keeps. keeps.number) rows.sales (sales_keep_values rows of_office));
  answers = λ db rows held of_office answer is.
      last_by_key (record { holds_them = held.1.1; passes = λ s. refl; shows = λ s. refl }) 0 (λ s. pos s.number) (λ s. refl) (lit (Int (pos 1))) answer
      (numbers_rise (λ (s : Sale). s.number) rows.sales (numbered rows of_office)) is
      ∙ ap (λ (l : List Sale). take 1 (map (λ (s : Sale). shown_number s.number) (reverse l))) (all_pass rows.sales)
      ∙ last_number_shown (λ (s : Sale). s.number) rows.sales;
}
