use Rattle.std.proofs.Common.{◌≡◌, ◌≤◌, ℕ, subst}
use Rattle.sqlite_schema.specs.declared.schema.Schema.{Schema}
use Rattle.book_tables.specs.Holds.{HasOfficeOf, IsUntaken}
use Rattle.book_tables.specs.row.Rows.{present_format}
use Rattle.office_commands.proofs.office.meeting.keep_taken.Goals as goal

pub returns-in-Ok-true-clause-untaken : goal.returns-in-Ok-true-clause-untaken
returns-in-Ok-true-clause-untaken g c =
    let it = c.in-Ok-true in
    subst (λ (s : Schema). IsUntaken s × ((n : ℕ) → n ≤ present_format → HasOfficeOf n s → n ≡ 0)) c.schema.ensures.value
    (it.ensures.value.0 it.field-0-test, it.ensures.only it.field-0-test)
