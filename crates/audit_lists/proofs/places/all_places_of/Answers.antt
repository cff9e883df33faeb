use Rattle.std.proofs.Common.{◌<◌, length, arith}
use Rattle.audit_lists.proofs.EachLemmas.{row_at}
use Rattle.audit_lists.proofs.PlacesLemmas.{places_more}
use Rattle.audit_lists.proofs.places.all_places_of.Goals as goal

pub rows-preserved : goal.rows-preserved
rows-preserved g c q =
    let low : c.rows.at < length c.args.rows.now = omega arith in
    let row = c.index-rows-at.result in
    let there = row_at c.args.rows.now c.rows.at row low c.index-rows-at.is in
    places_more g.K.KeyOf.key c.args.rows.now c.rows.places c.rows.at row there c.of.result c.of.ensures
    c.rows.invariant c.insert.new.self c.in_ok-insert.ensures.updates q
