-- The end of the texts of tariffs and of later steps.
use Rattle.std.specs.Prelude.{ℕ, List, ◌++◌, codes}
use Rattle.book_states.specs.declared.lookup.LaterSteps.{LaterSteps}
use Rattle.desk_messages.specs.reply.Lists.{day_text}
use Rattle.tariff.specs.StepsText.{steps_text}
use Rattle.tariff.specs.declared.step.Step.{Step}

-- a value in quotes behind a front, and then steps, at the end of an object
abbrev pub with_steps : (front value : List ℕ) → List Step → List ℕ
with_steps front value steps =
    front ++ (value ++ (codes "\",\"steps\":\"" ++ (steps_text steps ++ codes "\"}")))

-- later steps, by their day
abbrev pub later_text : LaterSteps → List ℕ
later_text l = with_steps (codes "{\"from\":\"") (day_text l.from) l.steps
