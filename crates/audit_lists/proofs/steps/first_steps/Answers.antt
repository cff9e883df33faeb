use Rattle.std.proofs.Common.{◌≡◌, ◌∙◌, ◌++◌, ◌∷◌, [], List, inl, inr, length, slice_get, sym, ap, arith}
use Rattle.std.proofs.lemmas.Option.{same_Some, slice_get_within}
use Rattle.tariff.specs.declared.step.Step.{Step}
use Rattle.audit_lists.specs.Keys.{owned_key}
use Rattle.audit_lists.specs.Steps.{at_place}
use Rattle.audit_lists.proofs.EachLemmas.{get_push, row_at}
use Rattle.audit_lists.proofs.PlacesLemmas.{none_under, some_under}
use Rattle.audit_lists.proofs.steps.first_steps.Goals as goal

pub returns-in_default : goal.returns-in_default
returns-in_default g c = record {
  there = c.places.invariant.there;
  ended = inr (λ has.
      none_under g.K.KeyOf.key c.args.places.now c.args.rows.now (length c.args.rows.now) c.requires
      (at_place (owned_key c.args.key) c.places.place) (sym c.place_of.ensures ∙ c.in_default.is) has.0 has.1.0
      (slice_get_within c.args.rows.now has.0 has.1.0 has.1.1) has.1.1 (has.1.2 ∙ ap (at_place (owned_key c.args.key)) c.places.invariant.long));
}

pub places-preserved : goal.places-preserved
places-preserved g c =
    let items = c.places.steps.items in
    let pushed : c.push.new.self.items ≡ items ++ c.step.result ∷ [] = c.in_ok-push.ensures.items in
    let found = some_under g.K.KeyOf.key c.args.places.now c.args.rows.now (length c.args.rows.now) c.requires
    (at_place (owned_key c.args.key) c.places.place) c.in-Some.at (sym c.place_of.ensures ∙ c.in-Some.is) in
    let row = c.index-rows-at.result in
    let there = row_at c.args.rows.now c.in-Some.at row found.0 c.index-rows-at.is in
    let same = same_Some found.1.0 row (sym found.1.1 ∙ there) in
    record {
      long = let long = c.in_ok-push.ensures.len in let before = c.places.invariant.long in omega (arith, long, before);
      there = λ place s is. elim (get_push items c.step.result s place (ap (λ (l : List Step). slice_get l place) (sym pushed) ∙ is)) [
        | inl before ↦ c.places.invariant.there place s before
        | inr last ↦ (
          c.in-Some.at,
          row,
          there,
          ap g.K.KeyOf.key (sym same) ∙ found.1.2 ∙ ap (at_place (owned_key c.args.key)) (sym (last.0 ∙ c.places.invariant.long)),
          sym c.step.ensures ∙ last.1,
        )
      ];
    }
