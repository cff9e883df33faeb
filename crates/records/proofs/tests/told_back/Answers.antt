use Rattle.std.proofs.Common.{◌∙◌, ℕ, List, ◌++◌, ap, arith}
use Rattle.records.proofs.WitnessLemmas.{shift_text, told}
use Rattle.records.proofs.tests.told_back.Goals as goal

pub returns : goal.returns
returns c =
    told c.record_law.ensures.one c.deref.result.now c.args.shift c.read_whole.result (omega arith)
    (c.deref.ensures.value ∙ c.in_ok-put_record.ensures ∙ ap (λ (n : ℕ). c.new-text.result.items ++ shift_text n) c.from.ensures
    ∙ ap (λ (t : List ℕ). t ++ shift_text c.args.shift) c.new-text.ensures.items)
    c.read_whole.ensures
