-- Values that are read from the columns of a record.
use Rattle.std.proofs.Common.{◌≡◌, ◌≢◌, ◌∙◌, ℕ, ◌^◌, ◌<◌, ◌≤◌, List, [], ◌∷◌, ◌++◌, length, Option, Some, None, option_map, refl, ap, sym, subst, arith}
use Rattle.book_tables.specs.declared.row.totals.Totals.{Totals}
use Rattle.book_states.specs.declared.lookup.ListedMeter.{ListedMeter}
use Rattle.book_states.specs.declared.lookup.ListedShift.{ListedShift}
use Rattle.book_states.specs.declared.lookup.MeterSummary.{MeterSummary}
use Rattle.book_states.specs.declared.lookup.Quote.{Quote}
use Rattle.records.specs.Cell.{Held, nothing, number, text}
use Rattle.records.specs.Column.{AreColumns, IsNamed, KeepsIfAny, cell_or_nothing}
use Rattle.records.specs.Front.{IsFound}
use Rattle.records.specs.List.{AreReadInOneWay}
use Rattle.records.specs.Record.{record_text}
use Rattle.records.proofs.MemberLemmas.{one_value}
use Rattle.desk_messages.specs.reply.Records.{some_number}
use Rattle.desk_messages.specs.reply.Records as replies
use Rattle.asks.specs.Value.{IsTargetNumber}
use Rattle.sts_fields.specs.Amount.{IsRepresentable}
use Rattle.sts_fields.specs.Base.{year_of}
use Rattle.sts_fields.specs.Moment.{IsMoment}
use Rattle.sts_fields.specs.Tid.{last_tid}
use Rattle.sts_token.specs.Token.{AreTwentyDigits}
use Rattle.tariff.specs.Tender.{IsTender}
use Rattle.office_rules.specs.Name.{IsMeterNo, IsName, IsOperator}
use Rattle.office_rules.specs.declared.office.sale.Sale.{Sale}
use Rattle.desk_client.specs.Columns.{IsPriced, IsQuotePriced, listed_meter_columns, listed_shift_columns, meter_columns, moment_cell, quote_columns, row_cell, sale_columns, totals_columns}
use Rattle.desk_client.specs.Columns.{ListedMeterColumns, ListedShiftColumns, MeterColumns, QuoteColumns, SaleColumns, TotalsColumns}
use Rattle.desk_client.specs.Meter.{IsLastSaleNumber, IsToldMeter, most_month_tenths}
use Rattle.desk_client.specs.Page.{IsToldEnd, IsToldListedMeter, IsToldListedShift}
use Rattle.desk_client.specs.Quote.{IsToldQuote}
use Rattle.desk_client.specs.Sale.{IsSaleTold}
use Rattle.desk_client.specs.Totals.{AreTotals, IsToldTotals}
use Rattle.desk_client.specs.declared.columns.MomentCell.{MomentCell}
use Rattle.desk_client.specs.declared.columns.RowCell.{RowCell}
use Rattle.desk_client.proofs.SummaryLemmas.{small_cash, small_sales, small_tenths}

-- values of a type, by the columns of their record: the rules of the columns and what these do not tell make the rules of the values
pub record AreRead {A C : Type 0} (keep : C → Type 0) (cells_of : C → List Held) (names : List (List ℕ)) (Rule Whole : A → Type 0) (cells : A → List Held)
    (columns_of : A → C) : Type 0 where
  pub fits : (a : A) → Rule a → keep (columns_of a)
  pub whole : (a : A) → Rule a → Whole a
  pub told : (a : A) → keep (columns_of a) → Whole a → Rule a
  pub same : (a : A) → cells_of (columns_of a) ≡ cells a
  pub named : (a : A) → length names ≡ length (cells_of (columns_of a))

module _ {A C : Type 0} {keep : C → Type 0} {cells_of : C → List Held} {names : List (List ℕ)} {Rule Whole : A → Type 0} {cells : A → List Held}
    {columns_of : A → C} (law : AreColumns keep cells_of) (are : AreRead keep cells_of names Rule Whole cells columns_of) where
  is_named : (a : A) → Rule a → IsNamed keep cells_of names (columns_of a)
  is_named a rule = record { kept = are.fits a rule; named = are.named a }

  as_columns : (a : A) → record_text names (cells a) ≡ record_text names (cells_of (columns_of a))
  as_columns a = ap (record_text names) (sym (are.same a))

  -- one text has one value's columns, whatever follows
  pub one_columns : (a b : A) (rest more : List ℕ) → Rule a → Rule b → record_text names (cells a) ++ rest ≡ record_text names (cells b) ++ more
      → columns_of a ≡ columns_of b
  one_columns a b rest more is also e =
      (one_value keep cells_of law names (columns_of a) (columns_of b) rest more (is_named a is) (is_named b also)
      (ap (λ (t : List ℕ). t ++ rest) (sym (as_columns a)) ∙ e ∙ ap (λ (t : List ℕ). t ++ more) (as_columns b))).0

  -- the same of a whole text
  pub one_whole : (a b : A) → Rule a → Rule b → record_text names (cells a) ≡ record_text names (cells b) → columns_of a ≡ columns_of b
  one_whole a b is also e = one_columns a b [] [] is also (ap (λ (t : List ℕ). t ++ []) e)

  -- the records are read in one way
  pub in_one_way : AreReadInOneWay Rule (λ a. record_text names (cells a))
  in_one_way = record {
    one = λ a b rest more is also e. as_columns a ∙ ap (λ c. record_text names (cells_of c)) (one_columns a b rest more is also e) ∙ sym (as_columns b);
    braced = λ a is. refl;
  }

  -- where no columns begin a text, no value does
  pub none_front : (said : List ℕ) → ((v : C) (rest : List ℕ) → IsNamed keep cells_of names v → said ≢ record_text names (cells_of v) ++ rest)
      → (a : A) (rest : List ℕ) → Rule a → said ≢ record_text names (cells a) ++ rest
  none_front said none a rest rule e =
      none (columns_of a) rest (is_named a rule) (e ∙ ap (λ (t : List ℕ). t ++ rest) (as_columns a))

  -- nor where those that do are no value's
  pub other_front : (said rest : List ℕ) (v : C) → IsNamed keep cells_of names v → said ≡ record_text names (cells_of v) ++ rest
      → ((a : A) → ¬ (Whole a × (columns_of a ≡ v))) → (a : A) (more : List ℕ) → Rule a → said ≢ record_text names (cells a) ++ more
  other_front said rest v is there none a more rule e =
      none a (
        are.whole a rule,
        sym (one_value keep cells_of law names v (columns_of a) rest more is (is_named a rule)
            (sym there ∙ e ∙ ap (λ (t : List ℕ). t ++ more) (as_columns a))).0,
      )

  -- a value that has the columns that begin a text
  pub there_front : (said rest : List ℕ) (v : C) → IsNamed keep cells_of names v → said ≡ record_text names (cells_of v) ++ rest
      → (a : A) → Whole a → columns_of a ≡ v → Rule a × (said ≡ record_text names (cells a) ++ rest)
  there_front said rest v is there a whole same = (
    are.told a (subst keep (sym same) is.kept) whole,
    there ∙ ap (λ (t : List ℕ). t ++ rest) (ap (λ c. record_text names (cells_of c)) (sym same) ∙ sym (as_columns a)),
  )

  -- the same of whole texts
  pub none_whole : (said : List ℕ) → ((v : C) → ¬ (IsNamed keep cells_of names v × (said ≡ record_text names (cells_of v))))
      → (a : A) → ¬ (Rule a × (said ≡ record_text names (cells a)))
  none_whole said none a h = none (columns_of a) (is_named a h.0, h.1 ∙ as_columns a)

  -- and a value that has the columns of a whole text is the one that the text tells
  pub found_whole : (said : List ℕ) (v : C) → IsNamed keep cells_of names v → said ≡ record_text names (cells_of v)
      → (r : Option A) → IsFound (λ a. Whole a × (columns_of a ≡ v)) r → IsFound (λ a. Rule a × (said ≡ record_text names (cells a))) r
  found_whole said v is there (Some a) h = (
    are.told a (subst keep (sym h.1) is.kept) h.0,
    there ∙ ap (λ c. record_text names (cells_of c)) (sym h.1) ∙ sym (as_columns a),
  )
  found_whole said v is there None none = λ a h.
      none a (
        are.whole a h.0,
        sym (one_value keep cells_of law names v (columns_of a) [] [] is (is_named a h.0)
            (ap (λ (t : List ℕ). t ++ []) (sym there ∙ h.1 ∙ as_columns a))).0,
      )

-- ---- the columns of each record

-- the number of a sale, or that there is none
abbrev row_kept : Option RowCell → Type 0
row_kept = KeepsIfAny (λ (cell : RowCell). IsTargetNumber cell.of) (λ cell. number cell.of)

abbrev row_held : Option RowCell → Held
row_held = cell_or_nothing (λ (cell : RowCell). number cell.of)

-- a moment, or that there is none
abbrev moment_kept : Option MomentCell → Type 0
moment_kept = KeepsIfAny (λ (cell : MomentCell). IsMoment cell.of) (λ cell. number cell.of)

abbrev moment_held : Option MomentCell → Held
moment_held = cell_or_nothing (λ (cell : MomentCell). number cell.of)

-- the rules of the columns of a sale,
abbrev pub sale_keep : SaleColumns → Type 0
sale_keep v =
    Unit {0} × ((v.1.0 < 2 ^ 32) × (IsMeterNo v.1.1.0.of × (IsMoment v.1.1.1.0.of × (IsTargetNumber v.1.1.1.1.0.of × (IsOperator v.1.1.1.1.1.0.of ×
    ((v.1.1.1.1.1.1.0 < 2 ^ 32) × (IsName v.1.1.1.1.1.1.1.0.of × (IsTargetNumber v.1.1.1.1.1.1.1.1.0.of × (IsTender v.1.1.1.1.1.1.1.1.1.0.of ×
    (IsRepresentable v.1.1.1.1.1.1.1.1.1.1.0.of × ((v.1.1.1.1.1.1.1.1.1.1.1.0.of ≤ last_tid) × (AreTwentyDigits v.1.1.1.1.1.1.1.1.1.1.1.1.0.of × Unit
    {0}))))))))))))

-- and what its cells hold
abbrev pub sale_held : SaleColumns → List Held
sale_held v =
    number (year_of v.0.of) ∷ number v.1.0 ∷ text v.1.1.0.of ∷ number v.1.1.1.0.of ∷ number v.1.1.1.1.0.of ∷ text v.1.1.1.1.1.0.of
    ∷ number v.1.1.1.1.1.1.0 ∷ text v.1.1.1.1.1.1.1.0.of ∷ number v.1.1.1.1.1.1.1.1.0.of ∷ number v.1.1.1.1.1.1.1.1.1.0.of
    ∷ number v.1.1.1.1.1.1.1.1.1.1.0.of ∷ number v.1.1.1.1.1.1.1.1.1.1.1.0.of ∷ text v.1.1.1.1.1.1.1.1.1.1.1.1.0.of ∷ []

-- the rules of the columns of a meter,
abbrev pub meter_keep : MeterColumns → Type 0
meter_keep v =
    Unit {0} × (IsMeterNo v.1.0.of × (row_kept v.1.1.0 × (IsName v.1.1.1.0.of × ((v.1.1.1.1.0.of ≤ most_month_tenths) × Unit {0}))))

-- and what its cells hold
abbrev pub meter_held : MeterColumns → List Held
meter_held v =
    number (year_of v.0.of) ∷ text v.1.0.of ∷ row_held v.1.1.0 ∷ text v.1.1.1.0.of ∷ number v.1.1.1.1.0.of ∷ []

-- the rules of the columns of a quote,
abbrev pub quote_keep : QuoteColumns → Type 0
quote_keep v =
    (v.0 < 2 ^ 32) × (IsMeterNo v.1.0.of × ((v.1.1.0 < 2 ^ 32) × (IsName v.1.1.1.0.of × (IsTender v.1.1.1.1.0.of × (IsRepresentable v.1.1.1.1.1.0.of ×
    Unit {0})))))

-- and what its cells hold
abbrev pub quote_held : QuoteColumns → List Held
quote_held v =
    number v.0 ∷ text v.1.0.of ∷ number v.1.1.0 ∷ text v.1.1.1.0.of ∷ number v.1.1.1.1.0.of ∷ number v.1.1.1.1.1.0.of ∷ []

-- the rules of the columns of the totals of a shift,
abbrev pub totals_keep : TotalsColumns → Type 0
totals_keep v =
    (v.0 < 2 ^ 64) × ((v.1.0 < 2 ^ 64) × (IsTargetNumber v.1.1.0.of × ((v.1.1.1.0 < 2 ^ 64) × Unit {0})))

-- and what their cells hold
abbrev pub totals_held : TotalsColumns → List Held
totals_held v =
    number v.0 ∷ number v.1.0 ∷ number v.1.1.0.of ∷ number v.1.1.1.0 ∷ []

-- the rules of the columns of a meter of a list,
abbrev pub listed_meter_keep : ListedMeterColumns → Type 0
listed_meter_keep v =
    Unit {0} × (IsMeterNo v.1.0.of × (IsName v.1.1.0.of × Unit {0}))

-- and what its cells hold
abbrev pub listed_meter_held : ListedMeterColumns → List Held
listed_meter_held v =
    number (year_of v.0.of) ∷ text v.1.0.of ∷ text v.1.1.0.of ∷ []

-- the rules of the columns of a shift of a list,
abbrev pub listed_shift_keep : ListedShiftColumns → Type 0
listed_shift_keep v =
    (v.0 < 2 ^ 64) × (moment_kept v.1.0 × (IsTargetNumber v.1.1.0.of × (IsMoment v.1.1.1.0.of × (IsOperator v.1.1.1.1.0.of × ((v.1.1.1.1.1.0 < 2 ^ 64)
    × ((v.1.1.1.1.1.1.0 < 2 ^ 64) × Unit {0}))))))

-- and what its cells hold
abbrev pub listed_shift_held : ListedShiftColumns → List Held
listed_shift_held v =
    number v.0 ∷ moment_held v.1.0 ∷ number v.1.1.0.of ∷ number v.1.1.1.0.of ∷ text v.1.1.1.1.0.of ∷ number v.1.1.1.1.1.0
    ∷ number v.1.1.1.1.1.1.0 ∷ []

-- ---- what is read of them

not_nothing : (n : ℕ) → number n ≢ nothing
not_nothing n e = cc

row_fits : (found : Option ℕ) → IsLastSaleNumber found → row_kept (row_cell found)
row_fits None is = tt
row_fits (Some n) is = (is, not_nothing n)

row_told : (found : Option ℕ) → row_kept (row_cell found) → IsLastSaleNumber found
row_told None is = tt
row_told (Some n) is = is.0

row_same : (found : Option ℕ) → row_held (row_cell found) ≡ some_number found
row_same None = refl
row_same (Some n) = refl

moment_fits : (found : Option ℕ) → IsToldEnd found → moment_kept (moment_cell found)
moment_fits None is = tt
moment_fits (Some n) is = (is, not_nothing n)

moment_told : (found : Option ℕ) → moment_kept (moment_cell found) → IsToldEnd found
moment_told None is = tt
moment_told (Some n) is = is.0

moment_same : (found : Option ℕ) → moment_held (moment_cell found) ≡ some_number found
moment_same None = refl
moment_same (Some n) = refl

-- a sale
pub sale_read : AreRead sale_keep sale_held replies.sale_names IsSaleTold IsPriced replies.sale_cells sale_columns
sale_read = record {
  fits = λ s is. (
    tt,
    (
      omega (arith, is.tender),
      (
        is.meter,
        (
          is.moment,
          (
            is.number,
            (
              is.operator,
              (
                omega (arith, is.price, is.tender),
                (
                  is.order_ref,
                  (
                    is.shift,
                    (is.tender, (is.tenths, (is.tid, (is.digits, tt)))),
                  ),
                ),
              ),
            ),
          ),
        ),
      ),
    ),
  );
  whole = λ s is. record { price = is.price; nibble = is.nibble };
  told = λ s kept whole. record {
    number = kept.1.1.1.1.0;
    moment = kept.1.1.1.0;
    shift = kept.1.1.1.1.1.1.1.1.0;
    operator = kept.1.1.1.1.1.0;
    order_ref = kept.1.1.1.1.1.1.1.0;
    meter = kept.1.1.0;
    tid = kept.1.1.1.1.1.1.1.1.1.1.1.0;
    nibble = whole.nibble;
    tenths = kept.1.1.1.1.1.1.1.1.1.1.0;
    price = whole.price;
    tender = kept.1.1.1.1.1.1.1.1.1.0;
    digits = kept.1.1.1.1.1.1.1.1.1.1.1.1.0;
  };
  same = λ s. refl;
  named = λ s. refl;
}

-- a meter
pub meter_read : AreRead meter_keep meter_held replies.meter_names IsToldMeter (λ m. Unit {0}) replies.meter_cells meter_columns
meter_read = record {
  fits = λ m is. (tt, (is.number, (row_fits m.last_sale is.last_sale, (is.tariff, (is.tenths, tt)))));
  whole = λ m is. tt;
  told = λ m kept whole. record {
    number = kept.1.0;
    last_sale = row_told m.last_sale kept.1.1.0;
    tariff = kept.1.1.1.0;
    tenths = kept.1.1.1.1.0;
  };
  same = λ m. ap (λ cell. number (year_of m.base) ∷ text m.number ∷ cell ∷ text m.tariff ∷ number m.tenths ∷ []) (row_same m.last_sale);
  named = λ m. refl;
}

-- a quote
pub quote_read : AreRead quote_keep quote_held replies.quote_names IsToldQuote IsQuotePriced replies.quote_cells quote_columns
quote_read = record {
  fits = λ q is. (omega (arith, is.tender), (is.meter, (omega (arith, is.price, is.tender), (is.tariff, (is.tender, (is.tenths, tt))))));
  whole = λ q is. is.price;
  told = λ q kept whole. record {
    meter = kept.1.0;
    tariff = kept.1.1.1.0;
    tender = kept.1.1.1.1.0;
    tenths = kept.1.1.1.1.1.0;
    price = whole;
  };
  same = λ q. refl;
  named = λ q. refl;
}

-- the totals of a shift of a number
pub totals_read : AreRead totals_keep totals_held replies.totals_names (λ (found : ℕ × Totals). IsToldTotals found.0 found.1) (λ found. AreTotals found.1)
    (λ found. replies.totals_cells found.0 found.1) totals_columns
totals_read = record {
  fits = λ found is. (small_cash found.1 is.are, (small_sales found.1 is.are, (is.shift, (small_tenths found.1 is.are, tt))));
  whole = λ found is. is.are;
  told = λ found kept whole. record { shift = kept.1.1.0; are = whole };
  same = λ found. refl;
  named = λ found. refl;
}

-- a meter of a list
pub listed_meter_read : AreRead listed_meter_keep listed_meter_held replies.listed_meter_names IsToldListedMeter (λ m. Unit {0}) replies.listed_meter_cells
    listed_meter_columns
listed_meter_read = record {
  fits = λ m is. (tt, (is.number, (is.tariff, tt)));
  whole = λ m is. tt;
  told = λ m kept whole. record { number = kept.1.0; tariff = kept.1.1.0 };
  same = λ m. refl;
  named = λ m. refl;
}

-- a shift of a list
pub listed_shift_read : AreRead listed_shift_keep listed_shift_held replies.listed_shift_names IsToldListedShift (λ l. AreTotals l.totals)
    replies.listed_shift_cells listed_shift_columns
listed_shift_read = record {
  fits = λ l is. (
    small_cash l.totals is.totals,
    (
      moment_fits l.shift.closed is.closed,
      (
        is.number,
        (
          is.opened,
          (
            is.operator,
            (
              small_sales l.totals is.totals,
              (small_tenths l.totals is.totals, tt),
            ),
          ),
        ),
      ),
    ),
  );
  whole = λ l is. is.totals;
  told = λ l kept whole. record {
    number = kept.1.1.0;
    operator = kept.1.1.1.1.0;
    opened = kept.1.1.1.0;
    closed = moment_told l.shift.closed kept.1.0;
    totals = whole;
  };
  same = λ l. ap (λ cell. number l.totals.cash ∷ cell ∷ number l.shift.number ∷ number l.shift.opened ∷ text l.shift.operator
      ∷ number l.totals.sales ∷ number l.totals.tenths ∷ []) (moment_same l.shift.closed);
  named = λ l. refl;
}

-- ---- one text tells one value

row_back : (a b : Option ℕ) → row_cell a ≡ row_cell b → a ≡ b
row_back None None e = refl
row_back None (Some n) e = absurd (cc)
row_back (Some m) None e = absurd (cc)
row_back (Some m) (Some n) e = ap (λ (found : Option RowCell). option_map (λ (cell : RowCell). cell.of) found) e

moment_back : (a b : Option ℕ) → moment_cell a ≡ moment_cell b → a ≡ b
moment_back None None e = refl
moment_back None (Some n) e = absurd (cc)
moment_back (Some m) None e = absurd (cc)
moment_back (Some m) (Some n) e = ap (λ (found : Option MomentCell). option_map (λ (cell : MomentCell). cell.of) found) e

-- sales of one text are one,
pub same_sale : AreColumns sale_keep sale_held → (s t : Sale) → IsSaleTold s → IsSaleTold t → replies.sale_text s ≡ replies.sale_text t → s ≡ t
same_sale law s t is also e =
    let same = one_whole law sale_read s t is also e in
    let rnd : s.rnd ≡ t.rnd = is.nibble ∙ sym also.nibble in
    λ i. record {
      number = (same i).1.1.1.1.0.of;
      moment = (same i).1.1.1.0.of;
      shift = (same i).1.1.1.1.1.1.1.1.0.of;
      operator = (same i).1.1.1.1.1.0.of;
      order_ref = (same i).1.1.1.1.1.1.1.0.of;
      meter = (same i).1.1.0.of;
      base = (same i).0.of;
      tid = (same i).1.1.1.1.1.1.1.1.1.1.1.0.of;
      rnd = rnd i;
      tenths = (same i).1.1.1.1.1.1.1.1.1.1.0.of;
      price = (same i).1.1.1.1.1.1.0;
      tender = (same i).1.1.1.1.1.1.1.1.1.0.of;
      digits = (same i).1.1.1.1.1.1.1.1.1.1.1.1.0.of;
    }

-- meters,
pub same_meter : AreColumns meter_keep meter_held → (m n : MeterSummary) → IsToldMeter m → IsToldMeter n → replies.meter_text m ≡ replies.meter_text n → m ≡ n
same_meter law m n is also e =
    let same = one_whole law meter_read m n is also e in
    let last_sale = row_back m.last_sale n.last_sale (ap (λ (v : MeterColumns). v.1.1.0) same) in
    λ i. record {
      number = (same i).1.0.of;
      base = (same i).0.of;
      tariff = (same i).1.1.1.0.of;
      tenths = (same i).1.1.1.1.0.of;
      last_sale = last_sale i;
    }

-- quotes,
pub same_quote : AreColumns quote_keep quote_held → (p q : Quote) → IsToldQuote p → IsToldQuote q → replies.quote_text p ≡ replies.quote_text q → p ≡ q
same_quote law p q is also e =
    let same = one_whole law quote_read p q is also e in
    λ i. record {
      meter = (same i).1.0.of;
      tariff = (same i).1.1.1.0.of;
      tender = (same i).1.1.1.1.0.of;
      tenths = (same i).1.1.1.1.1.0.of;
      price = (same i).1.1.0;
    }

-- totals,
pub same_totals : AreColumns totals_keep totals_held → (m n : ℕ) (t u : Totals) → IsToldTotals m t → IsToldTotals n u
    → replies.totals_text m t ≡ replies.totals_text n u → (m ≡ n) × (t ≡ u)
same_totals law m n t u is also e =
    let same = one_whole law totals_read (m, t) (n, u) is also e in
    (ap (λ (v : TotalsColumns). v.1.1.0.of) same, λ i. record { sales = (same i).1.0; tenths = (same i).1.1.1.0; cash = (same i).0 })

-- the meters of a list
pub same_listed_meter : AreColumns listed_meter_keep listed_meter_held → (m n : ListedMeter) → IsToldListedMeter m → IsToldListedMeter n
    → replies.listed_meter_text m ≡ replies.listed_meter_text n → m ≡ n
same_listed_meter law m n is also e =
    let same = one_whole law listed_meter_read m n is also e in
    λ i. record { number = (same i).1.0.of; base = (same i).0.of; tariff = (same i).1.1.0.of }

-- and its shifts
pub same_listed_shift : AreColumns listed_shift_keep listed_shift_held → (l m : ListedShift) → IsToldListedShift l → IsToldListedShift m
    → replies.listed_shift_text l ≡ replies.listed_shift_text m → l ≡ m
same_listed_shift law l m is also e =
    let same = one_whole law listed_shift_read l m is also e in
    let closed = moment_back l.shift.closed m.shift.closed (ap (λ (v : ListedShiftColumns). v.1.0) same) in
    λ i. record {
      shift = record {
        number = (same i).1.1.0.of;
        operator = (same i).1.1.1.1.0.of;
        opened = (same i).1.1.1.0.of;
        closed = closed i;
      };
      totals = record { sales = (same i).1.1.1.1.1.0; tenths = (same i).1.1.1.1.1.1.0; cash = (same i).0 };
    }
