use Rattle.std.proofs.Common.{sym, ◌∙◌, eqb-true}
use Rattle.std.proofs.lemmas.List.{nil_from_length}
use Rattle.conversation.proofs.RunLemmas.{body_over, nothing_over}
use Rattle.conversation.proofs.UsesLemmas.{whole_none}
use Rattle.conversation.proofs.conversation.finish.Goals as goal

pub returns-in_default : goal.returns-in_default
returns-in_default g c = (
  nothing_over c.args.rest.now c.args.wants c.in-Head.field-0 c.in-Head.is (nil_from_length _ (eqb-true _ _ (sym c.is_empty.ensures ∙ cc))),
  whole_none _,
)

pub returns-in_default-2 : goal.returns-in_default-2
returns-in_default-2 g c =
    (body_over c.args.rest.now c.args.wants c.in_default.field-0 c.in_default.field-1 c.in_default.is c.requires, whole_none _)
