use Rattle.office_commands.specs.office.Visited.{seen_in}
use Rattle.vend_commands.specs.serving.Connections.{stopped_text, written_text}
use Rattle.vend_ports.proofs.TakeLemmas.{takes_next}
use Rattle.vend_commands.proofs.serving.tell_end.Goals as goal

pub returns : goal.returns
returns g c =
    takes_next _ _ _ (written_text c.args.had_failed (seen_in c.args.books.now)) (stopped_text (seen_in c.args.books.now)) c.tell_written.ensures c.tell_stop.ensures
