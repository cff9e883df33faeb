use Rattle.std.proofs.Common.{◌∙◌, subst, sym}
use Rattle.vend_commands.specs.commands.Selfchecked.{ConversesWithItself}
use Rattle.vend_commands.specs.commands.Selfchecked.Disagrees.{cut}
use Rattle.vend_commands.proofs.SelfcheckLemmas.{whole_over_net}
use Rattle.vend_commands.proofs.selfcheck.replies_over_net.Goals as goal

pub returns-in-None-clause-answered : goal.returns-in-None-clause-answered
returns-in-None-clause-answered g c =
    let ends = c.in-Ok-connect.ends in
    let ready = c.in-Ok.ensures.prepared in
    let closed = whole_over_net c.in-Ok-answer.end (sym c.fault_over_net.ensures ∙ c.in-None.is) in
    record {
      reader = ends.1;
      writer = ends.2;
      written = c.answer.new.writer;
      connects = c.in-Ok-connect.ensures.connects;
      sent = c.in-Ok-connect.ensures.sent;
      life = ready.0;
      prepared = ready.1;
      converses = subst (ConversesWithItself ready.0 (g.L.Stream.Read.remaining ends.1) (g.L.Stream.Write.contents ends.2)
          (g.L.Stream.Write.contents c.answer.new.writer)) closed (c.in-Ok-answer.ensures ready.0 ready.2);
    }

pub returns-clause-disagrees : goal.returns-clause-disagrees
returns-clause-disagrees g c =
    let ends = c.in-Ok-connect.ends in
    let ready = c.in-Ok.ensures.prepared in
    cut ends.0 c.in-Ok-answer.end (record {
      reader = ends.1;
      writer = ends.2;
      written = c.answer.new.writer;
      connects = c.in-Ok-connect.ensures.connects;
      sent = c.in-Ok-connect.ensures.sent;
      life = ready.0;
      prepared = ready.1;
      converses = c.in-Ok-answer.ensures ready.0 ready.2;
    }) (sym c.fault_over_net.ensures ∙ c.in-Some.is)
