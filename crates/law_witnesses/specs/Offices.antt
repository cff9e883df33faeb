-- Books in memory that served requests, and the life that they keep.
use Rattle.std.specs.Prelude.{◌≡◌, false, List, [], Result, length}
use Rattle.sts_token.specs.Token.{BlockFunction}
use Rattle.vend_core.specs.Law.Life.{Life}
use Rattle.vend_core.specs.Law.LifeLaws.{extended_along, opened}
use Rattle.office_rules.specs.Office.{empty_office}
use Rattle.office_rules.specs.declared.decision.answer.Answer.{Answer}
use Rattle.office_rules.specs.declared.decision.refusal.Refusal.{Refusal}
use Rattle.office_rules.specs.declared.decision.request.Stamped.{Stamped}
use Rattle.books.specs.Headline.{RepresentTheLast}
use Rattle.books.specs.Keeps.{BooksHaveTables, Seen}

-- the life that opened the empty office and went on by these requests and replies
abbrev pub life_of : BlockFunction → List Stamped → List (Result Answer Refusal) → Life
life_of forward ats replies = extended_along (opened forward empty_office) ats replies

-- Books keep that life, which is the first one, and have their tables. They are not stopped.
pub record HasServed (ats : List Stamped) (replies : List (Result Answer Refusal)) (books : Seen)
    : Type 0 where
  pub forward : BlockFunction
  pub each : length replies ≡ length ats
  pub keeps : RepresentTheLast [] (life_of forward ats replies) books
  pub tables : BooksHaveTables books
  pub running : books.stopped ≡ false
