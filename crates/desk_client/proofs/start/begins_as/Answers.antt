use Rattle.std.proofs.Common.{◌∙◌, ⊎_elim, true≢false, sym}
use Rattle.desk_client.proofs.HeadLemmas.{begins_either, begins_there, begins_within, front_told}
use Rattle.desk_client.proofs.start.begins_as.Goals as goal

pub returns-then-is_some : goal.returns-then-is_some
returns-then-is_some c =
    let text = c.as_bytes-text.result.now in
    let is = c.as_bytes-text.ensures.value ∙ c.text.ensures in
    let told = front_told (λ rest. rest.now) c.args.input.now text c.behind.result c.is_some.result c.behind.ensures c.is_some.ensures in
    (λ there. begins_there c.args.start c.args.input.now text is (told.0 there), λ begins. c.if-is_some.true)

pub returns-else-is_some : goal.returns-else-is_some
returns-else-is_some c =
    let input = c.args.input.now in
    let text = c.as_bytes-text.result.now in
    let is = c.as_bytes-text.ensures.value ∙ c.text.ensures in
    let told = front_told (λ rest. rest.now) input text c.behind.result c.is_some.result c.behind.ensures c.is_some.ensures in
    let within = front_told (λ rest. rest.now) text input c.behind-else-is_some.result c.is_some-else-is_some.result c.behind-else-is_some.ensures
    c.is_some-else-is_some.ensures in (
      λ there. begins_within c.args.start input text is (within.0 there),
      λ begins. ⊎_elim (λ front. absurd (true≢false (sym (told.1 front) ∙ c.if-is_some.false))) (λ front. within.1 front)
          (begins_either c.args.start input text is begins),
    )
