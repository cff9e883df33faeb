use Rattle.std.proofs.Common.{◌∙◌, ◌++◌, List, ℕ, ap}
use Rattle.std.specs.Prelude.{codes}
use Rattle.terminal_advice.proofs.DoubtLemmas.{doubt_taken}
use Rattle.terminal_advice.proofs.doubt.put_doubt.Goals as goal

pub returns : goal.returns
returns g c =
    let told = c.put_moments.ensures in
    let last = c.deref.ensures.0 ∙ c.put.ensures.items ∙ ap (λ (text : List ℕ). text ++ codes ",") c.time_text-last.ensures.items in
    let now = c.deref-2.ensures.0 ∙ c.put-2.ensures.items ∙ ap (λ (text : List ℕ). text ++ codes ".") c.time_text-now.ensures.items in
    (told.0, doubt_taken told.0 _ _ _ _ _ _ last now told.1)
