use Rattle.std.proofs.Common.{◌≡◌, ℕ, List, Some, subst, sym}
use Rattle.std.specs.BTreeMap.{get}
use Rattle.book_tables.specs.row.Gathered.{key_cmp, own_place}
use Rattle.book_tables.proofs.RowLemmas.GatheredLemmas.{key_exact, key_total, read_some}
use Rattle.book_tables.proofs.row.gathered.tenths_under.Goals as goal

pub returns-in-Some : goal.returns-in-Some
returns-in-Some c = λ has holds.
    let months = c.args.months.now in
    let row = c.in-Some.row.now in
    let at = subst (λ (q : List ℕ × ℕ). get key_cmp months q ≡ Some row) c.key_of.ensures (sym c.in-Some.ensures.value) in
    sym (read_some key_cmp key_total key_exact (own_place {K = List ℕ × ℕ}) months has holds (c.args.meter.now, c.args.month) row at)
