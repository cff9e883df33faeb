use Rattle.std.proofs.Common.{is_some}
use Rattle.vend_core.specs.Lists.{office_of}
use Rattle.core_tests.proofs.LivedLemmas.{has_added}
use Rattle.core_tests.proofs.laws.lived.add_meter.Goals as goal

pub returns-then-is_done-clause-key : goal.returns-then-is_done-clause-key
returns-then-is_done-clause-key g c =
    let o = office_of c.args.lists.now in
    has_added o (office_of c.ask-reply.new.lists) c.ask-reply.result c.args.number c.args.meter
    (is_some (o.tariffs c.args.meter.tariff)) c.ask-reply.ensures.served
    (c.is_done.ensures c.if-is_done.true)
