use Rattle.std.proofs.Common.{◌≡◌, ◌∙◌, ℕ, List, Some, ap, subst, sym}
use Rattle.std.specs.BTreeMap.{get}
use Rattle.sts_fields.specs.Base.{year_of}
use Rattle.book_tables.specs.row.Gathered.{base_place, key_cmp}
use Rattle.book_tables.proofs.RowLemmas.GatheredLemmas.{key_exact, key_total, read_some}
use Rattle.book_tables.proofs.row.gathered.id_under.Goals as goal

pub returns-in-Some : goal.returns-in-Some
returns-in-Some c = λ has holds.
    let ids = c.args.ids.now in
    let meter = c.args.meter.now in
    let base = c.args.base in
    let row = c.in-Some.row.now in
    let key : c.key_of.result ≡ (meter, year_of base) = c.key_of.ensures ∙ ap (λ (y : ℕ). (meter, y)) c.year.ensures in
    let at = subst (λ (q : List ℕ × ℕ). get key_cmp ids q ≡ Some row) key (sym c.in-Some.ensures.value) in
    sym (read_some key_cmp key_total key_exact base_place ids has holds (meter, base) row at)
