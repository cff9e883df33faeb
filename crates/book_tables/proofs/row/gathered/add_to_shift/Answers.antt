use Rattle.std.proofs.Common.{◌≡◌, ◌∙◌, ℕ, Option, ap, subst, sym, unwrap_or}
use Rattle.std.specs.Prelude.{◌==◌}
use Rattle.std.specs.Ordering.{nat_cmp}
use Rattle.std.proofs.lemmas.Cmp.{nat_cmp_total}
use Rattle.std.proofs.lemmas.Map.Lookups.{exact_unsigned}
use Rattle.book_tables.specs.row.Gathered.{HoldsAt, IsInWords, own_place}
use Rattle.book_tables.specs.writing.Writing.{no_totals, one_more, put_under}
use Rattle.book_tables.specs.declared.row.totals.Totals.{Totals}
use Rattle.book_tables.proofs.RowLemmas.GatheredLemmas.{holds_put}
use Rattle.book_tables.proofs.SalesOfLemmas.{tells_number}
use Rattle.book_tables.proofs.row.gathered.add_to_shift.Goals as goal

pub returns : goal.returns
returns c = λ has holds room.
    let new = c.insert.new.self in
    let shift = c.args.shift in
    let totals = c.more_totals-totals.result in
    let with_one : Option Totals → Totals = λ o. one_more c.args.tenths c.args.price (unwrap_or o no_totals) in
    let before = c.totals_under.ensures has holds in
    let is : totals ≡ with_one (has shift) = c.more_totals-totals.ensures
    (subst (λ (o : Option Totals). IsInWords (with_one o)) (sym before) room) ∙ ap with_one before in
    subst (λ (v : Totals). HoldsAt nat_cmp (own_place {K = ℕ}) new (put_under (λ n. n == shift) v has)) is
    (holds_put nat_cmp nat_cmp_total exact_unsigned (own_place {K = ℕ}) c.args.shifts.now has holds new (λ n. n == shift) shift
    (tells_number shift) (λ (a b : ℕ) (same : a ≡ b). same) totals c.in_ok-insert.ensures.ordered c.in_ok-insert.ensures.updates)
