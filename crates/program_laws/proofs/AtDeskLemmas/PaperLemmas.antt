-- The reports and the last receipts of an office are texts that a desk writes.
use Rattle.std.proofs.Common.{◌≡◌, ℕ, zero, suc, ◌<◌, List, [], ◌∷◌, get_or, Option, Some, None, refl, arith}
use Rattle.std.specs.Prelude.{◌==◌, All, AllPairs, Contains, IfSome}
use Rattle.std.proofs.lemmas.Option.{slice_get-get_or}
use Rattle.std.proofs.lemmas.List.Elements.{All-contains_itself, All-filter, All-head, All-tail, All-weaker}
use Rattle.std.proofs.lemmas.List.Kept.{AllPairs-filter}
use Rattle.std.proofs.lemmas.Slice.Eq.{bytes_eq-Decides}
use Rattle.sts_fields.specs.Moment.{IsMoment}
use Rattle.sts_fields.specs.declared.base.Base.{Base}
use Rattle.sts_fields.specs.declared.base.Base.TheVariants.{Y1993, Y2014, Y2035}
use Rattle.sts_token.specs.Reading.{IsOfClassZero}
use Rattle.papers.specs.Receipt.{receipt_of}
use Rattle.office_rules.specs.Office.{AreNumbered, IsOffice, Office}
use Rattle.office_rules.specs.Office.Lookup.{sales_of_shift}
use Rattle.office_rules.specs.declared.office.sale.Sale.{Sale}
use Rattle.office_rules.specs.declared.office.shift.Shift.{Shift}
use Rattle.book_facts.specs.Lookups.{last_sale, last_under, sale_of_some_tid}
use Rattle.desk_client.specs.Page.{IsToldEnd}
use Rattle.desk_client.specs.Receipt.{IsReceiptOf}
use Rattle.desk_client.specs.Report.{AreToldLines, IsToldLine, IsToldShift}
use Rattle.office_rules.proofs.OfficeLemmas.RowLemmas.{found, parts_true}
use Rattle.program_laws.proofs.AtDeskLemmas.RangeLemmas.{meter_row, or_keeps, sale_numbered, sale_row, shift_row}

-- ---- pairs

module _ {X : Type 0} (R : X → X → Type 0) where
  -- the first of a list before all others
  pub pairs_head : (x : X) (xs : List X) → AllPairs R (x ∷ xs) → All (R x) xs
  pairs_head x xs h k d within = h zero (suc k) d (omega arith) (omega (arith, within))

  -- and these among themselves
  pub pairs_tail : (x : X) (xs : List X) → AllPairs R (x ∷ xs) → AllPairs R xs
  pairs_tail x xs h i j d first within = h (suc i) (suc j) d (omega (arith, first)) (omega (arith, within))

-- numbered members have rising numbers
pub numbered_pairs : {A : Type 0} (number : A → ℕ) (xs : List A) → AreNumbered number xs → AllPairs (λ a b. number a < number b) xs
numbered_pairs number xs numbered i j d first within =
    let a = numbered i (get_or xs i d) (slice_get-get_or xs i d (omega (arith, first, within))) in
    let b = numbered j (get_or xs j d) (slice_get-get_or xs j d within) in
    omega (arith, a, b, first)

-- ---- a report

-- a shift of an office keeps the rules of what its report tells
pub shift_reported : (o : Office) (s : Shift) → IsOffice o → Contains o.shifts s → IsToldShift s
shift_reported o s office there =
    let row = shift_row o s office there in
    record { operator = row.operator; opened = row.opened; closed = ended s.closed row.closed }
  where
    ended : (closed : Option ℕ) → ((secs : ℕ) → closed ≡ Some secs → IsMoment secs) → IsToldEnd closed
    ended None is = tt
    ended (Some secs) is = is secs refl

-- a sale of an office keeps those of what its line tells
line_told : (o : Office) (s : Sale) → IsOffice o → Contains o.sales s → IsToldLine s
line_told o s office there =
    let row = sale_row o s office there in
    record {
      number = sale_numbered o s office there;
      meter = meter_row o s.meter office row.meter;
      tenths = row.tenths;
      price = row.price;
      tender = row.tender;
    }

lines_told : (after : ℕ) (sales : List Sale) → All IsToldLine sales → All (λ (s : Sale). after < s.number) sales
    → AllPairs (λ (a b : Sale). a.number < b.number) sales → AreToldLines after sales
lines_told after [] told later pairs = tt
lines_told after (s ∷ sales) told later pairs = (
  All-head (λ (s : Sale). after < s.number) s sales later,
  All-head IsToldLine s sales told,
  lines_told s.number sales (All-tail IsToldLine s sales told) (pairs_head (λ (a b : Sale). a.number < b.number) s sales pairs)
      (pairs_tail (λ (a b : Sale). a.number < b.number) s sales pairs),
)

-- the sales of a shift of an office have lines by the rules, in order
pub shift_lines : (o : Office) (number : ℕ) → IsOffice o → AreToldLines 0 (sales_of_shift o number)
shift_lines o number office =
    let of = λ (s : Sale). s.shift == number in
    let sales = sales_of_shift o number in
    let told : All IsToldLine sales =
    All-filter of IsToldLine o.sales (All-weaker (Contains o.sales) IsToldLine (λ s there. line_told o s office there) o.sales (All-contains_itself o.sales)) in
    lines_told 0 sales told (All-weaker IsToldLine (λ (s : Sale). 0 < s.number) (λ s line. omega (arith, line.number.from_one)) sales told)
    (AllPairs-filter (λ (a b : Sale). a.number < b.number) of o.sales (numbered_pairs (λ (s : Sale). s.number) o.sales office.sale_numbers))

-- ---- the receipt of the last sale to a meter

-- a sale of an office to a meter
abbrev IsSaleTo : Office → List ℕ → Sale → Type 0
IsSaleTo o number s = Contains o.sales s × (s.meter ≡ number)

-- the last sale to a meter is one of the office, to this meter
pub last_to : (o : Office) (number : List ℕ) → IfSome (last_sale o number) (λ s. Contains o.sales s × (s.meter ≡ number))
last_to o number =
    or_keeps (IsSaleTo o number) (last_under o number Y2035) _ (under Y2035)
    (or_keeps (IsSaleTo o number) (last_under o number Y2014) (last_under o number Y1993) (under Y2014) (under Y1993))
  where
    by_found : (base : Base) (tid : ℕ) (there : Option Sale) → sale_of_some_tid o number base (Some tid) ≡ there → IfSome there (IsSaleTo o number)
    by_found base tid None is = tt
    by_found base tid (Some s) is =
        let stands = found _ o.sales s is in
        (stands.0, (bytes_eq-Decides s.meter number).0 (parts_true _ _ stands.1).0)

    of_tid : (base : Base) (tid : Option ℕ) → IfSome (sale_of_some_tid o number base tid) (IsSaleTo o number)
    of_tid base None = tt
    of_tid base (Some tid) = by_found base tid _ refl

    under : (base : Base) → IfSome (last_under o number base) (IsSaleTo o number)
    under base = of_tid base _

-- the receipt of a sale of an office is one that a desk writes, where its digits can be a token's
pub receipt_told : (o : Office) (s : Sale) (number : List ℕ) → IsOffice o → Contains o.sales s → IsOfClassZero s.digits → s.meter ≡ number
    → IsReceiptOf number (receipt_of s)
receipt_told o s number office there digits to =
    let row = sale_row o s office there in
    record {
      sale = s;
      told = record {
        number = sale_numbered o s office there;
        meter = meter_row o s.meter office row.meter;
        moment = row.moment;
        tenths = row.tenths;
        price = row.price;
        tender = row.tender;
        digits = digits;
      };
      named = to;
      written = refl;
    }
