use Rattle.std.proofs.Common.{◌∙◌, ◌++◌, ℕ, List, ap}
use Rattle.records.proofs.ReadLemmas.{name_found}
use Rattle.records.proofs.reading.behind_name.Goals as goal

pub returns : goal.returns
returns c =
    name_found c.args.later c.args.name.now c.args.text.now c.in-Some.quoted.now c.in-Some-behind.named.now c.in-Some-behind-2.rest.now c.behind-3.result
    c.in-Some.ensures c.in-Some-behind.ensures
    (c.in-Some-behind-2.ensures ∙ ap (λ (n : List ℕ). n ++ c.in-Some-behind-2.rest.now) c.as_bytes.ensures.value)
    c.behind-3.ensures
