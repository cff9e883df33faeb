use Rattle.std.proofs.Common.{List, ℕ, sym, subst}
use Rattle.desk_client.specs.Reply.{IsReplyReading}
use Rattle.desk_client.proofs.HeadLemmas.{begins_no_reply, needs_head, no_reply, untold}
use Rattle.desk_client.proofs.reply.reply_in.Goals as goal

pub returns-in-Some : goal.returns-in-Some
returns-in-Some c =
    subst (λ (input : List ℕ). IsReplyReading c.args.wanted input c.body_in.result) (sym c.in-Some.ensures.4)
    (c.body_in.ensures c.in-Some.ensures.2 c.in-Some.ensures.3)

pub returns-in-None : goal.returns-in-None
returns-in-None c = no_reply c.args.wanted c.args.input.now c.if-input-ge-MAX_HEAD.true c.in-None.ensures

pub returns-in-None-2 : goal.returns-in-None-2
returns-in-None-2 c = (
  c.if-input-ge-MAX_HEAD.false,
  needs_head c.args.wanted c.args.input.now c.in-None-2.ensures,
  c.in-None-2.ensures,
  c.may_begin.ensures.0 c.if-may_begin.true,
)

pub returns-in-None-3 : goal.returns-in-None-3
returns-in-None-3 c = begins_no_reply c.args.wanted c.args.input.now (untold c.may_begin.result c.may_begin.ensures c.if-may_begin.false)
