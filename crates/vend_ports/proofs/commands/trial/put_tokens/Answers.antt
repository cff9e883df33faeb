use Rattle.std.proofs.Common.{◌∙◌, ◌++◌, [], ap, append-nil, sym, refl}
use Rattle.std.proofs.lemmas.List.{drop_all}
use Rattle.vend_ports.specs.commands.Tried.{token_lines}
use Rattle.vend_ports.proofs.TakeLemmas.{next_token, takes_as, takes_more, takes_none}
use Rattle.vend_ports.proofs.commands.trial.put_tokens.Goals as goal

pub loop-token-init : goal.loop-token-init
loop-token-init g c = ([], record { put = takes_none c.args.out.now; left = refl })

pub loop-token-preserved : goal.loop-token-preserved
loop-token-preserved g c =
    let so_far = c.loop-token.invariant in
    let next = next_token c.args.tokens.now c.loop-token.token-index _ so_far.0 _ c.loop-token-test.true so_far.1.left in
    let more = takes_more _ _ _ so_far.0 _ _ _ so_far.1.put next c.put_token.ensures in
    (_, record { put = more.0; left = more.1 })

pub returns : goal.returns
returns g c =
    let so_far = c.loop-token.invariant in
    let none = drop_all c.loop-token.token-index c.args.tokens.now c.loop-token-test.false in
    let whole = so_far.1.left ∙ ap (λ ts. so_far.0 ++ token_lines ts) none ∙ append-nil so_far.0 in
    takes_as _ _ so_far.0 _ (sym whole) so_far.1.put
