-- What is stored of a record tells the record.
use Rattle.std.proofs.Common.{◌≡◌, ℕ, List, [], ◌∷◌, Option, Some, None, map, refl, arith}
use Rattle.sts_fields.specs.Base.{year_of}
use Rattle.sts_fields.specs.declared.base.Base.{Base}
use Rattle.sts_fields.specs.declared.base.Base.TheVariants.{Y1993, Y2014, Y2035}
use Rattle.tariff.specs.declared.step.Step.{Step}
use Rattle.office_rules.specs.declared.office.meter.Meter.{Meter}
use Rattle.office_rules.specs.declared.office.sale.Sale.{Sale}
use Rattle.office_rules.specs.declared.office.shift.Shift.{Shift}
use Rattle.book_tables.specs.row.ReadBack.{ReadsBack}
use Rattle.book_tables.specs.row.Rows.{DatedStepRow, StepRow, base_columns, dated_columns, meter_columns, optional, sale_row, secret_of, shift_row, shown_meter, shown_number, shown_sale, shown_shift, shown_step, step_columns, tariff_columns}
use Rattle.book_tables.specs.row.Values.{IsKey}
use Rattle.book_tables.proofs.RowLemmas.KeyTextLemmas.{one_key}

-- what is stored of a number that may be missing tells it, or that it is missing
pub one_optional : (a b : Option ℕ) → optional a ≡ optional b → a ≡ b
one_optional None None e = refl
one_optional None (Some b) e = cc
one_optional (Some a) None e = cc
one_optional (Some a) (Some b) e = cc

-- the year of a base tells the base
pub one_base : (a b : Base) → year_of a ≡ year_of b → a ≡ b
one_base Y1993 Y1993 e = refl
one_base Y1993 Y2014 e = absurd (omega (arith, e))
one_base Y1993 Y2035 e = absurd (omega (arith, e))
one_base Y2014 Y1993 e = absurd (omega (arith, e))
one_base Y2014 Y2014 e = refl
one_base Y2014 Y2035 e = absurd (omega (arith, e))
one_base Y2035 Y1993 e = absurd (omega (arith, e))
one_base Y2035 Y2014 e = absurd (omega (arith, e))
one_base Y2035 Y2035 e = refl

-- ---- what a SELECT shows

-- the one column that shows a number tells the number
pub one_number : (m n : ℕ) → shown_number m ≡ shown_number n → m ≡ n
one_number m n e = cc

-- the columns that show a step tell the step
pub one_shown_step : (a b : Step) → shown_step a ≡ shown_step b → a ≡ b
one_shown_step a b e =
    let ends : a.ends ≡ b.ends = one_optional a.ends b.ends (cc) in
    let A : Step = record { ends = a.ends; price = a.price } in
    let B : Step = record { ends = b.ends; price = b.price } in
    let same : A ≡ B = cc in
    same

-- the columns that show a meter whose key has 64 bits tell the meter
pub one_shown_meter : (a b : Meter) → IsKey a.key → IsKey b.key → shown_meter a ≡ shown_meter b → a ≡ b
one_shown_meter a b small_a small_b e =
    let base : a.base ≡ b.base = one_base a.base b.base (cc) in
    let text : secret_of a.key ≡ secret_of b.key = cc in
    let key : a.key ≡ b.key = one_key a.key b.key small_a small_b text in
    let tariff : a.tariff ≡ b.tariff = cc in
    let A : Meter = record { base = a.base; tariff = a.tariff; key = a.key } in
    let B : Meter = record { base = b.base; tariff = b.tariff; key = b.key } in
    let same : A ≡ B = cc in
    same

-- the columns that show a shift tell the shift
pub one_shown_shift : (a b : Shift) → shown_shift a ≡ shown_shift b → a ≡ b
one_shown_shift a b e =
    let closed : a.closed ≡ b.closed = one_optional a.closed b.closed (cc) in
    let A : Shift = record { number = a.number; operator = a.operator; opened = a.opened; closed = a.closed } in
    let B : Shift = record { number = b.number; operator = b.operator; opened = b.opened; closed = b.closed } in
    let same : A ≡ B = cc in
    same

-- the columns that show a sale tell the sale
pub one_shown_sale : (a b : Sale) → shown_sale a ≡ shown_sale b → a ≡ b
one_shown_sale a b e =
    let base : a.base ≡ b.base = one_base a.base b.base (cc) in
    let A : Sale = record {
      number = a.number;
      moment = a.moment;
      shift = a.shift;
      operator = a.operator;
      order_ref = a.order_ref;
      meter = a.meter;
      base = a.base;
      tid = a.tid;
      rnd = a.rnd;
      tenths = a.tenths;
      price = a.price;
      tender = a.tender;
      digits = a.digits;
    } in
    let B : Sale = record {
      number = b.number;
      moment = b.moment;
      shift = b.shift;
      operator = b.operator;
      order_ref = b.order_ref;
      meter = b.meter;
      base = b.base;
      tid = b.tid;
      rnd = b.rnd;
      tenths = b.tenths;
      price = b.price;
      tender = b.tender;
      digits = b.digits;
    } in
    let same : A ≡ B = cc in
    same

-- ---- what is stored of a row

-- what is stored of a tariff's name tells the name
pub one_tariff : (a b : List ℕ) → tariff_columns a ≡ tariff_columns b → a ≡ b
one_tariff a b e = cc

-- what is stored of a step tells the step, its tariff and its place
pub one_step : (a b : StepRow) → step_columns a ≡ step_columns b → a ≡ b
one_step a b e =
    let step : a.step ≡ b.step = one_shown_step a.step b.step (cc) in
    let A : StepRow = record { tariff = a.tariff; place = a.place; step = a.step } in
    let B : StepRow = record { tariff = b.tariff; place = b.place; step = b.step } in
    let same : A ≡ B = cc in
    same

-- what is stored of a meter whose key has 64 bits tells the meter and its number
pub one_meter : (a b : List ℕ × Meter) → IsKey a.1.key → IsKey b.1.key → meter_columns a ≡ meter_columns b → a ≡ b
one_meter a b small_a small_b e =
    let m : a.1 ≡ b.1 = one_shown_meter a.1 b.1 small_a small_b (cc) in
    let same : (a.0, a.1) ≡ (b.0, b.1) = cc in
    same

-- what is stored of a base that a meter had tells the meter's number and the base
pub one_base_row : (a b : List ℕ × Base) → base_columns a ≡ base_columns b → a ≡ b
one_base_row a b e =
    let base : a.1 ≡ b.1 = one_base a.1 b.1 (cc) in
    let same : (a.0, a.1) ≡ (b.0, b.1) = cc in
    same

-- what is stored of a step of a later day tells the step, its tariff, day and place
pub one_dated : (a b : DatedStepRow) → dated_columns a ≡ dated_columns b → a ≡ b
one_dated a b e =
    let step : a.step ≡ b.step = one_shown_step a.step b.step (cc) in
    let A : DatedStepRow = record { tariff = a.tariff; day = a.day; place = a.place; step = a.step } in
    let B : DatedStepRow = record { tariff = b.tariff; day = b.day; place = b.place; step = b.step } in
    let same : A ≡ B = cc in
    same

-- what is stored of a shift tells the shift
pub one_shift : (a b : Shift) → shift_row a ≡ shift_row b → a ≡ b
one_shift a b e = one_shown_shift a b (cc)

-- what is stored of a sale tells the sale
pub one_sale : (a b : Sale) → sale_row a ≡ sale_row b → a ≡ b
one_sale a b e = one_shown_sale a b (cc)

-- ---- what is read of it

-- a record that is told by what is stored of it is read back from that
pub reads_itself : {A T : Type 0} (stored : A → T) (rule : A → Type 0) (x : A) (read : Option A)
    → ((y : A) → rule y → stored y ≡ stored x → y ≡ x) → rule x → ReadsBack stored rule (stored x) read → read ≡ Some x
reads_itself stored rule x None one ok none = absurd (none x ok refl)
reads_itself {A} stored rule x (Some y) one ok is = some_same (one y is.1 is.0)
  where
    some_same : {A : Type 0} {x y : A} → x ≡ y → Some x ≡ Some y
    some_same e = cc

-- of rows whose values tell them, the list of values tells the list
pub one_list : {X Y : Type 0} (f : X → Y) → ((a b : X) → f a ≡ f b → a ≡ b) → (xs ys : List X) → map f xs ≡ map f ys → xs ≡ ys
one_list f one [] [] e = refl
one_list f one [] (y ∷ ys) e = cc
one_list f one (x ∷ xs) [] e = cc
one_list f one (x ∷ xs) (y ∷ ys) e =
    let head : f x ≡ f y = cc in
    let tail : map f xs ≡ map f ys = cc in
    let first = one x y head in
    let rest = one_list f one xs ys tail in
    cc
