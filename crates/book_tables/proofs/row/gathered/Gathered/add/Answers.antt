use Rattle.std.proofs.Common.{◌≡◌, ◌<◌, ◌+◌, ◌^◌, ℕ, List, Option, arith, map, subst, sym, unwrap_or}
use Rattle.std.specs.Prelude.{◌==◌}
use Rattle.std.specs.Ordering.{nat_cmp}
use Rattle.sts_fields.specs.Calendar.{month_at}
use Rattle.sts_fields.specs.declared.base.Base.{Base}
use Rattle.office_rules.specs.Office.Lookup.{greatest_of}
use Rattle.book_tables.specs.row.Gathered.{HoldsAt, IsInWords, IsOfWords, key_cmp, own_place}
use Rattle.book_tables.specs.Stands.{sales_in_month, sales_in_shift, sales_under, tenths_of, totals_of}
use Rattle.book_tables.specs.writing.Writing.{is_in_month, no_totals, one_more, put_under}
use Rattle.book_tables.specs.declared.row.gathered.Gathered.{Gathered}
use Rattle.book_tables.specs.declared.row.totals.Totals.{Totals}
use Rattle.book_tables.proofs.RowLemmas.GatheredLemmas.{gathered_more, month_in_words, shift_in_words}
use Rattle.book_tables.proofs.row.gathered.Gathered.add.Goals as goal

pub returns : goal.returns
returns c = λ sales few held.
    let s = c.args.sale.now in
    let ids_of : (List ℕ × Base) → Option ℕ = λ key. greatest_of (map (λ t. t.tid) (sales_under sales key)) in
    let months_of : (List ℕ × ℕ) → Option ℕ = λ key. tenths_of (sales_in_month sales key) in
    let shifts_of : ℕ → Option Totals = λ shift. totals_of (sales_in_shift sales shift) in
    let tenths : c.tenths-tenths.result ≡ s.tenths = c.tenths-tenths.ensures.value in
    let month : c.month_of_sale.result ≡ month_at s.moment = c.month_of_sale.ensures in
    let small : IsOfWords s = (omega (arith, c.words_law.ensures.0, tenths), c.words_law.ensures.1) in
    let sum : ℕ → ℕ → ℕ = λ n t. unwrap_or (months_of (s.meter, n)) 0 + t in
    let totals : ℕ → Totals = λ t. one_more t s.price (unwrap_or (shifts_of s.shift) no_totals) in
    let ids = c.in_ok-add_id.ensures ids_of held.last_ids in
    let in_month = month_in_words sales s small few held.small in
    let room = subst (λ (n : ℕ). sum n c.tenths-tenths.result < 2 ^ 64) (sym month)
    (subst (λ (t : ℕ). sum (month_at s.moment) t < 2 ^ 64) (sym tenths) in_month) in
    let months = c.in_ok-add_tenths.ensures months_of held.month_tenths room in
    let by_month = subst (λ (n : ℕ). HoldsAt key_cmp (own_place {K = List ℕ × ℕ}) c.add_tenths.new.months
    (put_under (is_in_month (s.meter, n)) (sum n c.tenths-tenths.result) months_of)) month months in
    let months_are = subst (λ (t : ℕ). HoldsAt key_cmp (own_place {K = List ℕ × ℕ}) c.add_tenths.new.months
    (put_under (is_in_month (s.meter, month_at s.moment)) (sum (month_at s.moment) t) months_of)) tenths by_month in
    let in_words = subst (λ (t : ℕ). IsInWords (totals t)) (sym tenths) (shift_in_words sales s small few held.small) in
    let shifts = c.in_ok-add_to_shift.ensures shifts_of held.shift_totals in_words in
    let shifts_are = subst (λ (t : ℕ). HoldsAt nat_cmp (own_place {K = ℕ}) c.add_to_shift.new.shifts
    (put_under (λ n. n == s.shift) (totals t) shifts_of)) tenths shifts in
    let after : Gathered = record { last_ids = c.add_id.new.ids; month_tenths = c.add_tenths.new.months; shift_totals = c.add_to_shift.new.shifts } in
    gathered_more sales s c.args.self.now after held small ids months_are shifts_are
