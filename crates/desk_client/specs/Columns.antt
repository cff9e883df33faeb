-- The columns of what replies tell, in the order of the names of their fields.
use Rattle.std.specs.Prelude.{◌≡◌, ℕ, ◌-◌, ◌≤◌, Option, codes, option_map}
use Rattle.arrayvec.specs.ArrayVec.{ArrayVec}
use Rattle.book_tables.specs.declared.row.totals.Totals.{Totals}
use Rattle.book_states.specs.declared.lookup.ListedMeter.{ListedMeter}
use Rattle.book_states.specs.declared.lookup.ListedShift.{ListedShift}
use Rattle.book_states.specs.declared.lookup.MeterSummary.{MeterSummary}
use Rattle.book_states.specs.declared.lookup.Quote.{Quote}
use Rattle.papers.specs.Text.{change_of}
use Rattle.office_rules.specs.Decision.Refusals.{refusal_name, refusal_number}
use Rattle.office_rules.specs.Decision.RowCauses.{cause_text}
use Rattle.office_rules.specs.declared.decision.refusal.Refusal.{Refusal}
use Rattle.office_rules.specs.declared.decision.row_cause.RowCause.{RowCause}
use Rattle.office_rules.specs.declared.office.sale.Sale.{Sale}
use Rattle.desk_client.specs.declared.columns.AmountCell.{AmountCell}
use Rattle.desk_client.specs.declared.columns.BaseCell.{BaseCell}
use Rattle.desk_client.specs.declared.columns.MeterCell.{MeterCell}
use Rattle.desk_client.specs.declared.columns.MomentCell.{MomentCell}
use Rattle.desk_client.specs.declared.columns.MonthCell.{MonthCell}
use Rattle.desk_client.specs.declared.columns.OperatorCell.{OperatorCell}
use Rattle.desk_client.specs.declared.columns.OrderRefCell.{OrderRefCell}
use Rattle.desk_client.specs.declared.columns.RowCell.{RowCell}
use Rattle.desk_client.specs.declared.columns.TariffCell.{TariffCell}
use Rattle.desk_client.specs.declared.columns.TenderCell.{TenderCell}
use Rattle.desk_client.specs.declared.columns.TidCell.{TidCell}
use Rattle.desk_client.specs.declared.columns.TokenCell.{TokenCell}

-- the columns of a sale
abbrev pub SaleColumns : Type 0
SaleColumns =
    BaseCell × (ℕ × (MeterCell × (MomentCell × (RowCell × (OperatorCell × (ℕ × (OrderRefCell ×
    (RowCell × (TenderCell × (AmountCell × (TidCell × (TokenCell × Unit {0}))))))))))))

abbrev pub sale_columns : Sale → SaleColumns
sale_columns s = (
  record { of = s.base },
  (
    change_of s,
    (
      record { of = s.meter },
      (
        record { of = s.moment },
        (
          record { of = s.number },
          (
            record { of = s.operator },
            (
              s.price,
              (
                record { of = s.order_ref },
                (
                  record { of = s.shift },
                  (
                    record { of = s.tender },
                    (
                      record { of = s.tenths },
                      (
                        record {
                          of =
                              s.tid;
                        },
                        (record { of = s.digits }, tt),
                      ),
                    ),
                  ),
                ),
              ),
            ),
          ),
        ),
      ),
    ),
  ),
)

-- what columns do not tell of a sale: that its price is within its tender, and no nibble
pub record IsPriced (s : Sale) : Type 0 where
  pub price : s.price ≤ s.tender
  pub nibble : s.rnd ≡ 0

abbrev pub MeterColumns : Type 0
MeterColumns =
    BaseCell × (MeterCell × (Option RowCell × (TariffCell × (MonthCell × Unit {0}))))

-- the number of a sale, if there is one
abbrev pub row_cell : Option ℕ → Option RowCell
row_cell found = option_map (λ number. record { of = number }) found

abbrev pub meter_columns : MeterSummary → MeterColumns
meter_columns m = (
  record { of = m.base },
  (
    record { of = m.number },
    (
      row_cell m.last_sale,
      (
        record {
          of =
              m.tariff;
        },
        (record { of = m.tenths }, tt),
      ),
    ),
  ),
)

abbrev pub QuoteColumns : Type 0
QuoteColumns =
    ℕ × (MeterCell × (ℕ × (TariffCell × (TenderCell × (AmountCell × Unit {0})))))

abbrev pub quote_columns : Quote → QuoteColumns
quote_columns q = (
  q.tender - q.price,
  (
    record { of = q.meter },
    (
      q.price,
      (
        record { of = q.tariff },
        (
          record {
            of
                = q.tender;
          },
          (record { of = q.tenths }, tt),
        ),
      ),
    ),
  ),
)

-- the price of a quote is within its tender
abbrev pub IsQuotePriced : Quote → Type 0
IsQuotePriced q = q.price ≤ q.tender

abbrev pub TotalsColumns : Type 0
TotalsColumns =
    ℕ × (ℕ × (RowCell × (ℕ × Unit {0})))

abbrev pub totals_columns : ℕ × Totals → TotalsColumns
totals_columns found =
    (found.1.cash, (found.1.sales, (record { of = found.0 }, (found.1.tenths, tt))))

abbrev pub ListedMeterColumns : Type 0
ListedMeterColumns =
    BaseCell × (MeterCell × (TariffCell × Unit {0}))

abbrev pub listed_meter_columns : ListedMeter → ListedMeterColumns
listed_meter_columns m =
    (record { of = m.base }, (record { of = m.number }, (record { of = m.tariff }, tt)))

abbrev pub ListedShiftColumns : Type 0
ListedShiftColumns =
    ℕ × (Option MomentCell × (RowCell × (MomentCell × (OperatorCell × (ℕ × (ℕ × Unit {0}))))))

-- the end of a shift, if it has one
abbrev pub moment_cell : Option ℕ → Option MomentCell
moment_cell end = option_map (λ moment. record { of = moment }) end

abbrev pub listed_shift_columns : ListedShift → ListedShiftColumns
listed_shift_columns l = (
  l.totals.cash,
  (
    moment_cell l.shift.closed,
    (
      record { of = l.shift.number },
      (
        record {
          of =
              l.shift.opened;
        },
        (
          record { of = l.shift.operator },
          (
            l.totals.sales,
            (
              l.totals.tenths,
              tt,
            ),
          ),
        ),
      ),
    ),
  ),
)

-- the columns of a refusal: its name and its number
abbrev pub RefusalColumns : Type 0
RefusalColumns =
    ArrayVec ℕ × (ℕ × Unit {0})

abbrev pub refusal_columns : Refusal → RefusalColumns
refusal_columns refusal =
    (record { items = refusal_name refusal }, (refusal_number refusal, tt))

-- and those of a row's
abbrev pub RowRefusalColumns : Type 0
RowRefusalColumns =
    ArrayVec ℕ × (ArrayVec ℕ × (ℕ × (ℕ × Unit {0})))

abbrev pub row_columns : ℕ × RowCause → RowRefusalColumns
row_columns found = (
  record { items = cause_text found.1 },
  (
    record { items = codes "ImportRow" },
    (
      14,
      (
        found.0,
        tt,
      ),
    ),
  ),
)
