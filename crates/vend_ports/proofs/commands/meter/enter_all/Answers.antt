use Rattle.std.proofs.Common.{◌∙◌, ◌++◌, [], ap, sym, subst}
use Rattle.sim_meter.specs.Meter.{ComesFrom}
use Rattle.sts_token.specs.Reading.{reading_of}
use Rattle.vend_ports.specs.print.Printed.{credit_line}
use Rattle.vend_ports.proofs.MeteringLemmas.{all_lines, history, history-more, last_line, next_line}
use Rattle.vend_ports.proofs.TakeLemmas.{takes_last, takes_more, takes_none}
use Rattle.vend_ports.proofs.commands.meter.enter_all.Goals as goal

pub loop-token-init : goal.loop-token-init
loop-token-init g c =
    let read = reading_of (g.T.BlockTransform.inverses c.args.transform) c.args.key in
    ([], record { from = c.new-meter.ensures; put = takes_none c.args.out.now; left = all_lines read c.args.tokens.now })

pub loop-token-preserved : goal.loop-token-preserved
loop-token-preserved g c =
    let so_far = c.loop-token.invariant in
    let inverses = g.T.BlockTransform.inverses in
    let read = reading_of (inverses c.args.transform) c.args.key in
    let i = c.loop-token.token-index in
    let before = history c.args.tokens.now i in
    let next = next_line read c.args.tokens.now i _ so_far.0 _ c.loop-token-test.true so_far.1.left in
    let more = takes_more _ _ _ so_far.0 _ _ _ so_far.1.put next (c.enter.ensures.told read before so_far.1.from) in (
      _,
      record {
        from = subst (λ h. ComesFrom inverses read h c.enter.new.meter) (sym (history-more c.args.tokens.now i _ c.loop-token-test.true))
            (c.enter.ensures.entered read before so_far.1.from);
        put = more.0;
        left = more.1;
      },
    )

pub returns : goal.returns
returns g c =
    let so_far = c.loop-token.invariant in
    let read = reading_of (g.T.BlockTransform.inverses c.args.transform) c.args.key in
    let before = history c.args.tokens.now c.loop-token.token-index in
    let left = last_line read c.args.tokens.now c.loop-token.token-index so_far.0 _ c.loop-token-test.false so_far.1.left
    ∙ ap (λ n. so_far.0 ++ credit_line n) (sym (c.credit.ensures read before so_far.1.from)) in
    takes_last _ _ _ so_far.0 _ _ so_far.1.put left c.put_credit.ensures
