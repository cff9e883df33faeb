use Rattle.sqlite.specs.Steps.{over_memory}
use Rattle.books.specs.Keeps.{seen}
use Rattle.std.proofs.Common.{Some}
use Rattle.vend_commands.proofs.SelfcheckLemmas.{cut_so, replies_so}
use Rattle.vend_commands.proofs.selfcheck.replies_over_memory.Goals as goal

pub returns-in-None-clause-replies : goal.returns-in-None-clause-replies
returns-in-None-clause-replies g c =
    let ready = c.in-Ok.ensures.prepared in
    replies_so (g.T.BlockTransform.forwards c.args.transform) ready.0 c.new-replies.result.items c.answer.new.writer.items
    c.in-Ok-answer.end c.fault_in_memory.result ready.1
    c.new-replies.ensures.items (c.in-Ok-answer.ensures ready.0 ready.2) c.fault_in_memory.ensures c.in-None.is

pub returns-clause-none : goal.returns-clause-none
returns-clause-none g c =
    let ready = c.in-Ok.ensures.prepared in
    cut_so (seen {g = over_memory} {h = g.T.BlockTransform}) (g.T.BlockTransform.forwards c.args.transform) ready.0
    c.new-replies.result.items (Some c.answer.new.writer.items) c.in-Ok-answer.end c.fault_in_memory.result c.in-Some.fault ready.1
    c.new-replies.ensures.items (c.in-Ok-answer.ensures ready.0 ready.2) c.fault_in_memory.ensures c.in-Some.is
