use Rattle.std.proofs.Common.{◌≡◌, ◌∙◌, ◌<◌, ◌+◌, ◌^◌, ℕ, List, Option, Some, ap, subst, sym, unwrap_or}
use Rattle.std.specs.BTreeMap.{Updates}
use Rattle.book_tables.specs.row.Gathered.{HoldsAt, key_cmp, own_place}
use Rattle.book_tables.specs.writing.Writing.{is_in_month, put_under}
use Rattle.book_tables.proofs.RowLemmas.GatheredLemmas.{holds_put, key_exact, key_total}
use Rattle.book_tables.proofs.SalesOfLemmas.{tells_month}
use Rattle.book_tables.proofs.row.gathered.add_tenths.Goals as goal

pub returns : goal.returns
returns c = λ has holds room.
    let old = c.args.months.now in
    let new = c.insert.new.self in
    let key : List ℕ × ℕ = (c.args.meter.now, c.args.month) in
    let tenths = c.args.tenths in
    let sum = c.more_tenths-sum.result in
    let puts = subst (λ (q : List ℕ × ℕ). Updates key_cmp old new q (Some (key, sum))) c.key_of.ensures c.in_ok-insert.ensures.updates in
    let before = c.tenths_under.ensures has holds in
    let is : sum ≡ unwrap_or (has key) 0 + tenths = c.more_tenths-sum.ensures
    (subst (λ (o : Option ℕ). unwrap_or o 0 + tenths < 2 ^ 64) (sym before) room) ∙ ap (λ (o : Option ℕ). unwrap_or o 0 + tenths) before in
    subst (λ (v : ℕ). HoldsAt key_cmp (own_place {K = List ℕ × ℕ}) new (put_under (is_in_month key) v has)) is
    (holds_put key_cmp key_total key_exact (own_place {K = List ℕ × ℕ}) old has holds new (is_in_month key) key (tells_month key)
    (λ (a b : List ℕ × ℕ) (same : a ≡ b). same) sum c.in_ok-insert.ensures.ordered puts)
