use Rattle.std.proofs.Common.{◌∙◌, [], sym}
use Rattle.office_commands.specs.office.Visited.{seen_in}
use Rattle.vend_ports.specs.print.Printed.{open_line}
use Rattle.vend_commands.proofs.ConnectionLemmas.{written_none, written_some}
use Rattle.vend_ports.proofs.TakeLemmas.{takes_as, takes_none}
use Rattle.vend_commands.proofs.serving.tell_written.Goals as goal

pub returns-then-writes_again : goal.returns-then-writes_again
returns-then-writes_again g c =
    let works = sym c.writes_again.ensures ∙ c.if-writes_again.true in
    takes_as _ _ open_line _ (sym (written_some c.args.had_failed (seen_in c.args.books.now) works)) c.put_open.ensures

pub returns-else-writes_again : goal.returns-else-writes_again
returns-else-writes_again g c =
    let still = sym c.writes_again.ensures ∙ c.if-writes_again.false in
    takes_as _ _ [] _ (sym (written_none c.args.had_failed (seen_in c.args.books.now) still)) (takes_none _)
