use Rattle.std.proofs.Common.{◌∙◌, [], sym}
use Rattle.office_commands.specs.office.Visited.{seen_in}
use Rattle.vend_ports.specs.print.Printed.{stopped_line}
use Rattle.vend_commands.proofs.ConnectionLemmas.{stopped_none, stopped_some}
use Rattle.vend_ports.proofs.TakeLemmas.{takes_as, takes_none}
use Rattle.vend_commands.proofs.serving.tell_stop.Goals as goal

pub returns-then-is_stopped : goal.returns-then-is_stopped
returns-then-is_stopped g c =
    takes_as _ _ stopped_line _ (sym (stopped_some (seen_in c.args.books.now) (sym c.is_stopped.ensures ∙ c.if-is_stopped.true))) c.put_stopped.ensures

pub returns-else-is_stopped : goal.returns-else-is_stopped
returns-else-is_stopped g c =
    takes_as _ _ [] _ (sym (stopped_none (seen_in c.args.books.now) (sym c.is_stopped.ensures ∙ c.if-is_stopped.false))) (takes_none _)
