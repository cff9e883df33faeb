use Rattle.desk_client.specs.declared.start.Start.TheVariants.{Unable}
use Rattle.std.proofs.Common.{sym, subst}
use Rattle.desk_client.specs.Start.{BeginsAs}
use Rattle.desk_client.proofs.HeadLemmas.{begins_last, untold}
use Rattle.desk_client.proofs.reply.may_begin.Goals as goal

pub returns : goal.returns
returns c =
    let input = c.args.input.now in
    let granted = untold c.begins_as.result c.begins_as.ensures c.if-begins_as.false in (
      λ there. (Unable, tt, c.begins_as-3.ensures.0 there),
      λ may. c.begins_as-3.ensures.1 (begins_last c.args.wanted input
          (λ begins. granted (subst (BeginsAs input) (sym c.granted_start.ensures) begins))
          (untold c.begins_as-else-begins_as.result c.begins_as-else-begins_as.ensures c.if-begins_as-2.false)
          (untold c.begins_as-2.result c.begins_as-2.ensures c.if-begins_as-3.false)
          (untold c.begins_as-else-begins_as-3.result c.begins_as-else-begins_as-3.ensures c.if-begins_as-4.false) may),
    )
