use Rattle.std.proofs.Common.{◌<◌, ◌∙◌, length, sym, arith}
use Rattle.std.proofs.lemmas.Option.{slice_get_within}
use Rattle.audit_lists.proofs.EachLemmas.{each_more, row_at}
use Rattle.audit_lists.proofs.PlacesLemmas.{is_new, is_twice, places_more}
use Rattle.audit_lists.specs.Keys.{IsNew}
use Rattle.audit_lists.proofs.places.places_of.Goals as goal

pub returns-in-Ok-Some-clause-found : goal.returns-in-Ok-Some-clause-found
returns-in-Ok-Some-clause-found g c =
    let low : c.rows.at < length c.args.rows.now = omega arith in
    let there = row_at c.args.rows.now c.rows.at c.index-rows-at.result low c.index-rows-at.is in (
      c.rows.at,
      c.index-rows-at.result,
      record {
        there = there;
        before = c.rows.invariant.apart;
        breaks = is_twice g.K.KeyOf.key c.args.rows.now c.rows.places c.rows.at c.index-rows-at.result there c.of.result c.of.ensures
            c.rows.invariant.places c.in-Ok-Some._earlier (sym c.in-Ok-Some.ensures.old ∙ c.in-Ok-Some.field-0-is);
      },
      c.found.ensures,
    )

pub rows-preserved : goal.rows-preserved
rows-preserved g c =
    let low : c.rows.at < length c.args.rows.now = omega arith in
    let row = c.index-rows-at.result in
    let there = row_at c.args.rows.now c.rows.at row low c.index-rows-at.is in
    let new = sym c.in-Ok-None.ensures.old ∙ c.in-Ok-None.field-0-is in
    record {
      apart = each_more (IsNew g.K.KeyOf.key c.args.rows.now) c.args.rows.now c.rows.at row there
          (is_new g.K.KeyOf.key c.args.rows.now c.rows.places c.rows.at row there c.of.result c.of.ensures c.rows.invariant.places new) c.rows.invariant.apart;
      places = λ q. places_more g.K.KeyOf.key c.args.rows.now c.rows.places c.rows.at row there c.of.result c.of.ensures
          c.rows.invariant.places c.insert.new.self c.in-Ok-None.ensures.updates q;
    }

pub returns-clause-apart : goal.returns-clause-apart
returns-clause-apart g c i row there = c.rows.invariant.apart i row (let low = slice_get_within c.args.rows.now i row there in omega (arith, low)) there
