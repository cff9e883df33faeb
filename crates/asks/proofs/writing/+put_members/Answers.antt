use Rattle.std.proofs.Common.{◌≡◌, ◌++◌, List, ℕ, subst}
use Rattle.std.specs.Prelude.{OnOk}
use Rattle.asks.specs.Body.{steps_cells}
use Rattle.asks.proofs.WritingLemmas.{last_text, one_cell}
use Rattle.asks.proofs.writing.+put_members.Goals as goal

pub returns-in_default-values : goal.returns-in_default-values
returns-in_default-values t c =
    subst (λ (added : List ℕ). OnOk c.put_last.result (c.put_last.new.text.items ≡ c.args.text.now.items ++ added))
    (last_text c.args.later c.args.names.now _ c.args.values.now (steps_cells c.args.steps) c.in-len1-up.len_at_least c.in_default-values.len_below
    (one_cell c.args.steps))
    c.put_last.ensures
