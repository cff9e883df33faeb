use Rattle.std.proofs.Common.{◌≡◌, ◌+◌, ◌<◌, ◌≤◌, ◌∙◌, length, drop, ap, refl, arith}
use Rattle.std.proofs.lemmas.List.{drop-drop, length-drop, take_all, take_rest}
use Rattle.conversation.proofs.UsesLemmas.{sent_before, whole_none, whole_part}
use Rattle.conversation.proofs.sending.send.Goals as goal

pub loop-rest-init : goal.loop-rest-init
loop-rest-init g c = (0, omega arith, refl, whole_none _)

pub loop-rest-preserved : goal.loop-rest-preserved
loop-rest-preserved g c =
    let inv = c.loop-rest.invariant in
    let taken = c.in-Ok.taken in
    let left = ap length inv.2 ∙ length-drop inv.0 c.args.text.now in
    let within : inv.0 + taken ≤ length c.args.text.now = omega (arith, c.in-Ok.ensures.1, left, inv.1) in
    let short : inv.0 < length c.args.text.now = omega (arith, c.in-Ok.ensures.0, c.in-Ok.ensures.1, left, inv.1) in (
      inv.0 + taken,
      within,
      take_rest c.loop-rest.rest.now taken ∙ ap (λ bytes. drop taken bytes) inv.2 ∙ drop-drop taken inv.0 c.args.text.now,
      whole_part _ _ _ c.args.text.now c.loop-rest.rest.now inv.0 taken short inv.2 inv.3 c.in-Ok.ensures.2,
    )

pub returns-in-Err : goal.returns-in-Err
returns-in-Err g c =
    let inv = c.loop-rest.invariant in
    let left = ap length inv.2 ∙ length-drop inv.0 c.args.text.now in
    let some : 0 < length c.loop-rest.rest.now = grind arith in
    let short : inv.0 < length c.args.text.now = omega (arith, left, some, inv.1) in
    sent_before (Unit {0}) _ _ _ c.args.text.now c.loop-rest.rest.now inv.0 c.in-Err.end short inv.2 inv.3 c.in-Err.ensures

pub returns : goal.returns
returns g c =
    let inv = c.loop-rest.invariant in
    let left = ap length inv.2 ∙ length-drop inv.0 c.args.text.now in
    let none : length c.loop-rest.rest.now ≡ 0 = grind arith in
    let all : length c.args.text.now ≤ inv.0 = omega (arith, left, inv.1) in
    rw (take_all inv.0 c.args.text.now all) at inv.3
