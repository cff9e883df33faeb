use Rattle.std.proofs.Common.{[], ◌∙◌, ap, length, map, sym, arith}
use Rattle.std.proofs.lemmas.Bool.Decides.{nat_tests}
use Rattle.std.proofs.lemmas.List.{length-map}
use Rattle.records.specs.Record.{now}
use Rattle.desk_client.proofs.ReadingLemmas.{all_begin}
use Rattle.desk_client.proofs.WovenLemmas.{one_front}
use Rattle.desk_client.proofs.text.read_values.Goals as goal

pub returns-else-is_empty : goal.returns-else-is_empty
returns-else-is_empty c = λ ws all free same.
    let ends = c.args.ends.now in
    let of = c.in-Some.values.of in
    let found = c.in-Some.ensures in
    let read = one_front c.args.text.now c.args.front.now (map now of) ws (map now ends) c.in-Some.rest.now []
    (omega (arith, c.requires.few, found.2, length-map of now, length-map ends now)) (all ∙ sym (length-map ends now)) (all_begin ends c.requires.stops)
    found.0 free found.1 same in
    let h = c.if-is_empty.ensures in let z = ap length read.1 in grind (arith, nat_tests)
