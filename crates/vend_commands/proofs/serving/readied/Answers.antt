use Rattle.std.proofs.Common.{◌∙◌, if◌then◌else◌, [], inl, inr, refl, subst, sym}
use Rattle.office_commands.specs.office.Visited.{seen_in}
use Rattle.vend_ports.specs.print.Printed.{open_line}
use Rattle.vend_ports.specs.print.Told.{Takes}
use Rattle.vend_commands.proofs.ConnectionLemmas.{open_none, open_some}
use Rattle.vend_ports.proofs.TakeLemmas.{takes_as, takes_none}
use Rattle.vend_commands.proofs.serving.readied.Goals as goal

pub returns-then-not-is_stopped-clause-ready : goal.returns-then-not-is_stopped-clause-ready
returns-then-not-is_stopped-clause-ready g c = inl (sym c.is_stopped.ensures ∙ c.if-not-is_stopped.true, refl)

pub returns-then-not-is_stopped-clause-told : goal.returns-then-not-is_stopped-clause-told
returns-then-not-is_stopped-clause-told g c =
    takes_as _ _ [] _ (sym (open_none (seen_in c.args.books) (sym c.is_stopped.ensures ∙ c.if-not-is_stopped.true))) (takes_none _)

pub returns-in-Ok-clause-ready : goal.returns-in-Ok-clause-ready
returns-in-Ok-clause-ready g c = inr (sym c.is_stopped.ensures ∙ c.if-not-is_stopped.false, c.in-Ok.ensures.reopened)

pub returns-in-Ok-clause-told : goal.returns-in-Ok-clause-told
returns-in-Ok-clause-told g c =
    let stopped = sym c.is_stopped.ensures ∙ c.if-not-is_stopped.false in
    let told = subst (λ failed. Takes c.args.err.now c.tell_open.new.err (if failed then [] else open_line)) c.write_failed-write_failed.ensures
    c.tell_open.ensures in
    takes_as _ _ _ _ (sym (open_some (seen_in c.args.books) stopped)) told

pub returns-in-Err-clause-ready : goal.returns-in-Err-clause-ready
returns-in-Err-clause-ready g c = (sym c.is_stopped.ensures ∙ c.if-not-is_stopped.false, c.in-Err.ensures.lost)

pub returns-in-Err-clause-told : goal.returns-in-Err-clause-told
returns-in-Err-clause-told g c = takes_none _
