use Rattle.std.proofs.Common.{◌≡◌, ◌+◌, ◌≤◌, ◌∙◌, length, drop, arith, ap}
use Rattle.std.proofs.lemmas.List.{drop-drop, length-drop, take_all, take_rest}
use Rattle.papers.proofs.OutputLemmas.{Appends-part}
use Rattle.papers.proofs.output.write_whole.Goals as goal

pub loop-rest-preserved : goal.loop-rest-preserved
loop-rest-preserved g c =
    let inv = c.loop-rest.invariant in
    let left = ap length inv.2 ∙ length-drop inv.0 c.args.text.now in
    let within : inv.0 + c.in-Ok.taken ≤ length c.args.text.now = omega (arith, c.in-Ok.ensures.bound, left, inv.1) in
    let taken = rw inv.2 at c.in-Ok.ensures.bytes in (
      inv.0 + c.in-Ok.taken,
      within,
      take_rest c.loop-rest.rest.now c.in-Ok.taken ∙ ap (λ bytes. drop c.in-Ok.taken bytes) inv.2 ∙ drop-drop c.in-Ok.taken inv.0 c.args.text.now,
      Appends-part _ _ _ c.args.text.now inv.0 c.in-Ok.taken inv.3 taken,
    )

pub returns : goal.returns
returns g c =
    let inv = c.loop-rest.invariant in
    let left = ap length inv.2 ∙ length-drop inv.0 c.args.text.now in
    let none : length c.loop-rest.rest.now ≡ 0 = grind arith in
    let all : length c.args.text.now ≤ inv.0 = omega (arith, left, inv.1) in
    record { written = rw take_all at inv.3; never_memory = λ e. cc; failed = tt }
