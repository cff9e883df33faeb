use Rattle.std.proofs.Common.{◌≡◌, ◌∙◌, ℕ, List, Option, Some, ap, max, subst, unwrap_or}
use Rattle.std.specs.BTreeMap.{Updates}
use Rattle.sts_fields.specs.Base.{year_of}
use Rattle.book_tables.specs.row.Gathered.{HoldsAt, base_place, key_cmp}
use Rattle.book_tables.specs.writing.Writing.{is_under, put_under}
use Rattle.book_tables.proofs.RowLemmas.GatheredLemmas.{holds_put, key_exact, key_total, one_place}
use Rattle.book_tables.proofs.SalesOfLemmas.{tells_under}
use Rattle.book_tables.proofs.row.gathered.add_id.Goals as goal

pub returns : goal.returns
returns c = λ has holds.
    let old = c.args.ids.now in
    let new = c.insert.new.self in
    let meter = c.args.meter.now in
    let base = c.args.base in
    let last = c.later_tid-last.result in
    let key : c.key_of.result ≡ (meter, year_of base) = c.key_of.ensures ∙ ap (λ (y : ℕ). (meter, y)) c.year.ensures in
    let puts = subst (λ (q : List ℕ × ℕ). Updates key_cmp old new q (Some ((meter, base), last))) key c.in_ok-insert.ensures.updates in
    let is : last ≡ max (unwrap_or (has (meter, base)) 0) c.args.tid =
    c.later_tid-last.ensures ∙ ap (λ (o : Option ℕ). max (unwrap_or o 0) c.args.tid) (c.id_under.ensures has holds) in
    subst (λ (v : ℕ). HoldsAt key_cmp base_place new (put_under (is_under (meter, base)) v has)) is
    (holds_put key_cmp key_total key_exact base_place old has holds new (is_under (meter, base)) (meter, base) (tells_under (meter, base))
    one_place last c.in_ok-insert.ensures.ordered puts)
