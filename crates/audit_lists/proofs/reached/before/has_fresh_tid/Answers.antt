use Rattle.std.proofs.Common.{sym}
use Rattle.audit_lists.proofs.ReachedLemmas.TidLemmas.{fresh_where, last_within, next_where}
use Rattle.audit_lists.proofs.reached.before.has_fresh_tid.Goals as goal

pub returns-in-Ok : goal.returns-in-Ok
returns-in-Ok c earlier gathered tids =
    let s = c.args.sale.now in
    let one = c.fresh_law.ensures.one_outcome in
    let minute = c.in-Ok.minute in
    let last = c.last_id.ensures earlier gathered in
    let next = c.is_next.ensures (last_within earlier s c.last_id.result last tids) in (
      λ e. fresh_where one earlier s minute (sym c.in-Ok.ensures.value) c.last_id.result last (next.0 e),
      λ has. next.1 (next_where one earlier s minute (sym c.in-Ok.ensures.value) c.last_id.result last has),
    )
