use Rattle.std.proofs.Common.{◌≡◌, ◌∙◌, [], length, map, sym, refl, arith}
use Rattle.std.proofs.lemmas.List.{ext_get_or, length-map}
use Rattle.csv.specs.Records.{fields_of}
use Rattle.papers.proofs.FieldLemmas.{fields-differ, fields-more, told-alike, told-apart}
use Rattle.papers.proofs.record.has_fields.Goals as goal

pub returns-then-ne : goal.returns-then-ne
returns-then-ne c =
    let apart = told-apart c.ne.result _ _ c.ne.ensures c.if-ne.true in
    let differ = fields-differ (fields_of c.args.raw.now) c.args.fields.now c.loop-place.place _ c.loop-place-test.true
    (λ same. apart (c.field.ensures ∙ same)) in
    (λ never. cc, λ same. absurd (differ same))

pub loop-place-preserved : goal.loop-place-preserved
loop-place-preserved c =
    let alike = sym c.field.ensures ∙ told-alike c.ne.result _ _ c.ne.ensures c.if-ne.false in
    fields-more _ c.args.fields.now c.loop-place.place _ c.loop-place-test.true c.loop-place.invariant alike

pub returns : goal.returns
returns c =
    let count = sym c.len.ensures ∙ c.if-len-fields.false in
    let same : length (fields_of c.args.raw.now) ≡ length (map (λ f. f.now) c.args.fields.now) = rw length-map count in
    (λ found. ext_get_or [] _ _ same (λ k within. c.loop-place.invariant k (omega (arith, within, count))), λ equal. refl)
