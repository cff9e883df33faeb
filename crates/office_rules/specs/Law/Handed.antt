-- The sales that an office hands out with its answers.
use Rattle.std.specs.Prelude.{List, [], ◌∷◌, Result, Ok, Err}
use Rattle.office_rules.specs.declared.decision.answer.Answer.{Answer}
use Rattle.office_rules.specs.declared.decision.answer.Answer.TheVariants.{Done, Imported}
use Rattle.office_rules.specs.declared.decision.answer.Answer.TheVariants.{Withdrawn, Opened}
use Rattle.office_rules.specs.declared.decision.answer.Answer.TheVariants.{Closed, Sold, Reprinted}
use Rattle.office_rules.specs.declared.decision.answer.Answer.TheVariants.{Report}
use Rattle.office_rules.specs.declared.decision.refusal.Refusal.{Refusal}
use Rattle.office_rules.specs.declared.office.sale.Sale.{Sale}

-- the sales in an answer, and in a reply
abbrev pub sales_in : Answer → List Sale
sales_in Done = []
sales_in (Imported new) = []
sales_in (Withdrawn count) = []
sales_in (Opened number) = []
sales_in (Closed number) = []
sales_in (Sold s) = s ∷ []
sales_in (Reprinted s) = s ∷ []
sales_in (Report shift sales) = sales

abbrev pub sales_of : Result Answer Refusal → List Sale
sales_of (Ok answer) = sales_in answer
sales_of (Err refusal) = []
