use Rattle.std.proofs.Common.{◌≡◌, ◌≤◌, ◌&&◌, sym, ◌∙◌, ap, subst, arith, bytes_eq, max, unwrap_or, ℕ, Option, Some}
use Rattle.std.specs.Option.{ForSome}
use Rattle.sts_fields.specs.Tid.{last_tid}
use Rattle.sts_fields.specs.Base.{base_eq}
use Rattle.office_rules.specs.declared.office.sale.Sale.{Sale}
use Rattle.vend_core.proofs.ListsLemmas.LookUpLemmas.{greatest_more_in, greatest_more_out, greatest_within}
use Rattle.vend_core.proofs.lists.look_up.last_tid.Goals as goal
use Rattle.vend_core.proofs.lists.look_up.last_tid.Goals.{then-is_under, else-is_under}

pub loop-sale-preserved : goal.loop-sale-preserved
loop-sale-preserved c =
    let p = λ (s : Sale). bytes_eq s.meter c.args.meter.now && base_eq s.base c.args.base in
    elim c.if-is_under.branch [
      | then-is_under w ↦
          let last : c.if-is_under.last ≡ Some (max (unwrap_or c.loop-sale.last 0) c.sale-item.result.tid) =
          w.last-is ∙ ap (λ (k : ℕ). let o : Option ℕ = Some k in o) (w.max.ensures ∙ ap (λ (k : ℕ). max k c.sale-item.result.tid) w.unwrap_or.ensures) in
          let more = greatest_more_in (λ (s : Sale). s.tid) p c.args.sales.now c.loop-sale.sale-index c.sale-item.result (omega arith) c.sale-item.is cc in
          let within : c.sale-item.result.tid ≤ last_tid =
          subst (λ (s : Sale). s.tid ≤ last_tid) (sym c.sale-item.is) (c.requires c.loop-sale.sale-index c.sale-item.result (omega arith)) in
          record {
            greatest = last ∙ ap (λ (o : Option ℕ). let r : Option ℕ = Some (max (unwrap_or o 0) c.sale-item.result.tid) in r)
                c.loop-sale.invariant.greatest ∙ sym more;
            range = greatest_within c.loop-sale.last c.if-is_under.last c.sale-item.result.tid last_tid c.loop-sale.invariant.range within last;
          }
      | else-is_under w ↦
          let more = greatest_more_out (λ (s : Sale). s.tid) p c.args.sales.now c.loop-sale.sale-index c.sale-item.result (omega arith) c.sale-item.is cc in
          record {
            greatest = w.last-is ∙ c.loop-sale.invariant.greatest ∙ sym more;
            range = subst (λ (o : Option ℕ). ForSome o (λ tid. tid ≤ last_tid)) (sym w.last-is) c.loop-sale.invariant.range;
          }
    ]
