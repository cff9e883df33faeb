-- What the writes that keep a sale's totals show of them: one row each, as it is afterwards.
use Rattle.std.specs.Prelude.{◌≡◌, ◌⊎◌, ℕ, List, [], ◌∷◌, ◌++◌, Option, Ok}
use Rattle.sqlite.specs.Does.{Tally}
use Rattle.sqlite.specs.Effect.{Database}
use Rattle.sqlite.specs.Order.{Row as Values}
use Rattle.one_table.specs.InTransaction.{BeginsWith}
use Rattle.sts_fields.specs.Calendar.{month_at}
use Rattle.office_rules.specs.declared.office.sale.Sale.{Sale}
use Rattle.book_tables.specs.row.Rows.{shown_number, shown_totals}
use Rattle.book_tables.specs.row.Values.{AreTotalsValues, IsTid, IsTotal}
use Rattle.book_tables.specs.writing.Writes.{EndsWith, Make, Write, last_id_set, sale_counted}
use Rattle.book_tables.specs.writing.Writes.{tenths_added}
use Rattle.book_tables.specs.declared.row.totals.SaleTotals.{SaleTotals}
use Rattle.book_tables.specs.declared.row.totals.Totals.{Totals}

-- After some writes a further one is carried out, under a limit on steps, if one is set; and this
-- is so of the rows that it shows.
pub record Tells (Showed : List Values → Type 0) (limit : Option ℕ) (before : List Write)
    (w : Write) (old : Database) : Type 0 where
  pub db : Database
  pub made : Make limit before old db
  pub tally : Tally
  pub new : Database
  pub ends : EndsWith limit w db (Ok (tally, new))
  pub showed : Showed tally.shown

-- a row shows this identifier, this sum or these totals, which keep their rules
abbrev pub ShowsTid : ℕ → Values → Type 0
ShowsTid tid row = (shown_number tid ≡ row) × IsTid tid

abbrev pub ShowsSum : ℕ → Values → Type 0
ShowsSum sum row = (shown_number sum ≡ row) × IsTotal sum

abbrev pub ShowsTotals : Totals → Values → Type 0
ShowsTotals totals row = (shown_totals totals ≡ row) × AreTotalsValues totals

-- after these writes, of a sale after which this is the last identifier of its meter under its base
module _ (before : List Write) (s : Sale) (last : ℕ) where
  -- the three writes, each after those before it
  abbrev pub AfterLast : (List Values → Type 0) → Option ℕ → Database → Type 0
  AfterLast Showed limit = Tells Showed limit before (last_id_set (s.meter, s.base) last)

  abbrev pub AfterMonth : (List Values → Type 0) → Option ℕ → Database → Type 0
  AfterMonth Showed limit =
      Tells Showed limit (before ++ last_id_set (s.meter, s.base) last ∷ [])
      (tenths_added (s.meter, month_at s.moment) s.tenths)

  abbrev pub AfterShift : (List Values → Type 0) → Option ℕ → Database → Type 0
  AfterShift Showed limit =
      Tells Showed limit
      (before ++ last_id_set (s.meter, s.base) last
      ∷ tenths_added (s.meter, month_at s.moment) s.tenths ∷ [])
      (sale_counted s.shift s.tenths s.price)

  -- the identifier is told, and these are told as the totals of the sale's month and of its shift
  pub record TellsTotals (shown : SaleTotals) (limit : Option ℕ) (old : Database) : Type 0 where
    pub identifier : AfterLast (BeginsWith (ShowsTid last)) limit old
    pub month : AfterMonth (BeginsWith (ShowsSum shown.month_tenths)) limit old
    pub shift : AfterShift (BeginsWith (ShowsTotals shown.shift)) limit old

  -- one of them is told false: another identifier, or none; or a sum, or totals, that keep no rules
  abbrev pub IsToldFalse : Option ℕ → Database → Type 0
  IsToldFalse limit old =
      AfterLast (λ rows. ¬ BeginsWith (ShowsTid last) rows) limit old
      ⊎ (AfterMonth (λ rows. ¬ BeginsWith (λ row. (sum : ℕ) × ShowsSum sum row) rows) limit old
      ⊎ AfterShift (λ rows. ¬ BeginsWith (λ row. (totals : Totals) × ShowsTotals totals row) rows)
      limit old)
