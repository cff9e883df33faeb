use Rattle.std.proofs.Common.{◌≡◌, ◌≤◌, ◌&&◌, ◌==◌, sym, ◌∙◌, arith, bytes_eq}
use Rattle.sts_fields.specs.Calendar.{month_at}
use Rattle.office_rules.specs.declared.office.sale.Sale.{Sale}
use Rattle.vend_core.proofs.ListsLemmas.LookUpLemmas.{sum_more_in, sum_more_out}
use Rattle.vend_core.proofs.lists.look_up.prior.Goals as goal
use Rattle.vend_core.proofs.lists.look_up.prior.Goals.{then-is_in_month, else-is_in_month}

pub loop-sale-preserved : goal.loop-sale-preserved
loop-sale-preserved c =
    let p = λ (s : Sale). bytes_eq s.meter c.args.meter.now && (month_at s.moment == c.args.month) in
    elim c.if-is_in_month.branch [
      | then-is_in_month w ↦
          let more = sum_more_in (λ (s : Sale). s.tenths) p c.args.sales.now c.loop-sale.sale-index c.sale-item.result (omega arith) c.sale-item.is cc in
          let added : w.from-total.result ≡ c.sale-item.result.tenths = w.from-total.ensures ∙ w.tenths.ensures.value in
          let greatest : w.tenths.result ≤ 18201624 = c.amount_law.ensures.greatest w.tenths.result w.tenths.ensures.representable in
          let so_far = c.loop-sale.invariant.summed in
          record { summed = w.total-is ∙ omega (arith, so_far, added) ∙ sym more; bound = omega arith }
      | else-is_in_month w ↦
          let more = sum_more_out (λ (s : Sale). s.tenths) p c.args.sales.now c.loop-sale.sale-index c.sale-item.result (omega arith) c.sale-item.is cc in
          record { summed = w.total-is ∙ c.loop-sale.invariant.summed ∙ sym more; bound = omega arith }
    ]
