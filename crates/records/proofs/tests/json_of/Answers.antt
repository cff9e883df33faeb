use Rattle.std.proofs.Common.{◌∙◌, ℕ, List, ◌++◌, ap, arith}
use Rattle.serde_json.specs.View.{view}
use Rattle.records.proofs.WitnessLemmas.{as_json, shift_text}
use Rattle.records.proofs.tests.json_of.Goals as goal

pub returns-in-Some : goal.returns-in-Some
returns-in-Some c =
    as_json c.record_law.ensures.json c.deref.result.now c.args.shift (view c.in-Ok-from_slice.value) (view c.in-Some.member.now) c.as_u64.result (omega arith)
    (c.deref.ensures.value ∙ c.in-Ok.ensures ∙ ap (λ (n : ℕ). c.new-text.result.items ++ shift_text n) c.from.ensures
    ∙ ap (λ (t : List ℕ). t ++ shift_text c.args.shift) c.new-text.ensures.items)
    c.in-Ok-from_slice.ensures.ok.1 c.in-Some.ensures c.as_u64.ensures
