use Rattle.std.proofs.Common.{if◌then◌else◌, [], ap, sym}
use Rattle.vend_ports.specs.print.Printed.{open_line}
use Rattle.vend_ports.proofs.TakeLemmas.{takes_as, takes_none}
use Rattle.vend_commands.proofs.serving.tell_open.Goals as goal

pub returns-then-not-write_failed : goal.returns-then-not-write_failed
returns-then-not-write_failed g c = takes_as _ _ open_line _ (sym (ap (λ b. if b then [] else open_line) c.if-not-write_failed.true)) c.put_open.ensures

pub returns-else-not-write_failed : goal.returns-else-not-write_failed
returns-else-not-write_failed g c = takes_as _ _ [] _ (sym (ap (λ b. if b then [] else open_line) c.if-not-write_failed.false)) (takes_none _)
