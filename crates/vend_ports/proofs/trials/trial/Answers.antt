use Rattle.std.proofs.Common.{◌≡◌, ℕ, ◌+◌, ◌%◌, [], ◌∷◌, ◌++◌, length, get_or, sym, subst, arith}
use Rattle.std.proofs.lemmas.List.{length_push}
use Rattle.vend_ports.specs.commands.Trial.{IsRefusedBy, IsSale}
use Rattle.vend_ports.proofs.TrialLemmas.{ends_by_refusal, last_more, one_sale_more}
use Rattle.vend_ports.proofs.trials.trial.Goals as goal

pub returns-in-Err : goal.returns-in-Err
returns-in-Err g c =
    let l = c.loop-tenths in (
      l.invariant.0,
      record {
        one_each = l.invariant.1.sales.one_each;
        within = omega (arith, l.invariant.1.each);
        sold = l.invariant.1.sales.sold;
        ends =
            let refused = c.in-Err.ensures.refused l.invariant.0 l.invariant.1.last in
            let next = subst (λ (i : ℕ). IsRefusedBy c.args.base c.args.moment l.invariant.0 (get_or c.args.amounts.now i 0)
            c.in-Err.fault) (sym l.invariant.1.each) refused in
            ends_by_refusal c.args.base c.args.moment c.args.amounts.now l.invariant.0 c.in-Err.fault (omega (arith, l.invariant.1.each)) next;
      },
    )

pub loop-tenths-preserved : goal.loop-tenths-preserved
loop-tenths-preserved g c =
    let l = c.loop-tenths in
    let tids = l.invariant.0 in
    let so_far = l.invariant.1 in
    let tid = c.in-Ok-sell.sale.tid in
    let counted : (l.nibble + 1) % 16 ≡ (length tids + 1) % 16 = omega (arith, so_far.each, so_far.nibble) in
    let sold = c.in-Ok-sell.ensures.sold tids (length tids + 1) so_far.last counted in
    let sale = subst (λ (i : ℕ). IsSale (g.T.BlockTransform.forwards c.args.transform.now) c.args.key c.args.base c.args.moment tids
    (length tids + 1) (get_or c.args.amounts.now i 0) tid c.in-Ok-sell.sale.token) (sym so_far.each) sold in (
      tids ++ tid ∷ [],
      record {
        sales = rw c.push_reserved.ensures.items (one_sale_more _ _ _ _ _ _ _ _ _ so_far.sales sale);
        each = omega (arith, length_push tids tid, so_far.each);
        last = last_more c.args.base c.args.moment tids tid sale.fresh;
        bound = λ x e. let same : tid ≡ x = cc in omega (arith, c.in-Ok-sell.ensures.within);
        nibble = omega (arith, so_far.nibble);
        room = omega (arith, so_far.room, c.push_reserved.ensures.capacity);
      },
    )

pub returns : goal.returns
returns g c =
    let l = c.loop-tenths in (
      l.invariant.0,
      record {
        one_each = l.invariant.1.sales.one_each;
        within = omega (arith, l.invariant.1.each);
        sold = l.invariant.1.sales.sold;
        ends = omega (arith, l.invariant.1.each);
      },
    )
