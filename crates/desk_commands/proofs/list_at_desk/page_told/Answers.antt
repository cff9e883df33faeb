use Rattle.std.proofs.Common.{◌∙◌, sym}
use Rattle.std.proofs.lemmas.Bool.{false≢true}
use Rattle.desk_commands.specs.ListedAtDesk.{page_kind}
use Rattle.desk_commands.proofs.PageOrderLemmas.{alike_after, alike_tokens}
use Rattle.desk_commands.proofs.list_at_desk.page_told.Goals as goal

pub returns-then-not-comes_after : goal.returns-then-not-comes_after
returns-then-not-comes_after c = λ other told after tokens text.
    let read = rw c.in-Ok-Some.field-0-is at (rw c.page_kind.ensures at c.in-Ok-Some.ensures) in
    let alike = c.page_law.ensures.one (page_kind c.args.list.now) c.in-Ok-Some.page other read.0 told (sym read.1 ∙ text) in
    let yes = c.comes_after.ensures.1 (alike_after c.args.list.now c.in-Ok-Some.page other alike after) in
    absurd (false≢true (sym c.if-not-comes_after.true ∙ yes))

pub returns-then-not-has_tokens : goal.returns-then-not-has_tokens
returns-then-not-has_tokens c = λ other told after tokens text.
    let read = rw c.in-Ok-Some.field-0-is at (rw c.page_kind.ensures at c.in-Ok-Some.ensures) in
    let alike = c.page_law.ensures.one (page_kind c.args.list.now) c.in-Ok-Some.page other read.0 told (sym read.1 ∙ text) in
    let yes = c.has_tokens.ensures.1 (alike_tokens c.in-Ok-Some.page other alike tokens) in
    absurd (false≢true (sym c.if-not-has_tokens.true ∙ yes))
