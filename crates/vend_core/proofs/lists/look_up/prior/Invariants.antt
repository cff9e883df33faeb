use Rattle.std.proofs.Common.{◌≡◌, ◌≤◌, ◌*◌, ◌&&◌, ◌==◌, filter, sum_by, take, bytes_eq}
use Rattle.sts_fields.specs.Calendar.{month_at}
use Rattle.vend_core.proofs.lists.look_up.prior.Given as goal

abbrev pub invariant-loop-sale : goal.invariant-loop-sale
invariant-loop-sale l = record {
  summed : l.total ≡ sum_by (λ s. s.tenths) (filter (λ s. bytes_eq s.meter l.meter && (month_at s.moment == l.month)) (take l.sale-index l.sales));
  bound : l.total ≤ 18201624 * l.sale-index;
}
