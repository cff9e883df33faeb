use Rattle.std.proofs.Common.{◌∙◌, ◌+◌, ◌≤◌, ℕ, List, [], ◌++◌, length, map, Some, None, refl, ap, sym, subst, arith}
use Rattle.std.specs.Borrow.{Bor}
use Rattle.std.proofs.lemmas.Bool.Decides.{Decides-eqb}
use Rattle.std.proofs.lemmas.List.{get_or-map, length-map, map-set}
use Rattle.std.proofs.lemmas.Slice.Eq.{strip_prefix_is}
use Rattle.records.specs.Record.{now}
use Rattle.desk_client.specs.Text.{woven}
use Rattle.desk_client.proofs.ReadingLemmas.{Stands, all_begin, are_all, none_more, stands-more}
use Rattle.desk_client.proofs.text.read_front_values.Goals as goal

few : (ends : List (Bor (List ℕ))) → length ends ≤ 13 → length (map now ends) ≤ 13
few ends h = omega (arith, h, length-map ends now)

pub returns-in_default : goal.returns-in_default
returns-in_default c = λ ws more all free same.
    strip_prefix_is Decides-eqb c.args.text.now c.as_bytes.result.now None c.in_default.ensures.cases
    (woven ws (map now c.args.ends.now) more) (same ∙ ap (λ (f : List ℕ). f ++ woven ws (map now c.args.ends.now) more) (sym c.as_bytes.ensures.value))

pub loop-i-init : goal.loop-i-init
loop-i-init c = record {
  len = refl;
  free = (tt, (tt, (tt, (tt, (tt, (tt, (tt, (tt, (tt, (tt, (tt, (tt, (tt, tt)))))))))))));
  is_so = strip_prefix_is Decides-eqb c.args.text.now c.as_bytes.result.now (Some c.in-Some.rest) c.in-Some.ensures.cases
      ∙ ap (λ (f : List ℕ). f ++ c.in-Some.rest.now) c.as_bytes.ensures.value;
}

pub returns-in_default-value_at : goal.returns-in_default-value_at
returns-in_default-value_at c = λ ws more all free.
    let ends = c.args.ends.now in
    none_more c.args.text.now c.args.front.now (map now c.loop-i.values) (map now ends) c.loop-i.i c.loop-i.rest.now
    c.as_bytes-in-loop-i.result.now c.loop-i.invariant (few ends c.requires.few)
    (omega (arith, c.loop-i-test.true, length-map ends now)) (all_begin ends c.requires.stops)
    (c.as_bytes-in-loop-i.ensures.value ∙ sym (get_or-map now ends c.loop-i.i _ [] c.loop-i-test.true))
    c.in_default-value_at.ensures ws more (all ∙ sym (length-map ends now)) free

pub loop-i-preserved : goal.loop-i-preserved
loop-i-preserved c =
    let ends = c.args.ends.now in
    let found = c.in-Some-value_at.ensures in
    subst (λ (values : List (List ℕ)). Stands c.args.text.now c.args.front.now values (map now ends) (c.loop-i.i + 1) c.in-Some-value_at.behind.now)
    (sym (map-set now c.loop-i.values c.loop-i.i c.in-Some-value_at.value))
    (stands-more c.args.text.now c.args.front.now (map now c.loop-i.values) (map now ends) c.loop-i.i c.loop-i.rest.now
    c.in-Some-value_at.value.now c.as_bytes-in-loop-i.result.now c.in-Some-value_at.behind.now c.loop-i.invariant (few ends c.requires.few)
    (omega (arith, c.loop-i-test.true, length-map ends now))
    (c.as_bytes-in-loop-i.ensures.value ∙ sym (get_or-map now ends c.loop-i.i _ [] c.loop-i-test.true))
    found.0 found.1)

pub returns : goal.returns
returns c =
    let ends = c.args.ends.now in
    let all = are_all c.args.text.now c.args.front.now (map now c.loop-i.values) (map now ends) c.loop-i.i c.loop-i.rest.now c.loop-i.invariant
    (omega (arith, c.loop-i-test.false, length-map ends now)) in
    (all.0, all.1, omega (arith, c.loop-i.invariant.len, length-map c.loop-i.values now))
