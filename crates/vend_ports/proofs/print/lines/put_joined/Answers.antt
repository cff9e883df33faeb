use Rattle.std.proofs.Common.{◌≡◌, ◌∙◌, [], ◌∷◌, ◌++◌, map, drop, sym, ap}
use Rattle.std.proofs.lemmas.List.{drop_all}
use Rattle.vend_ports.proofs.TakeLemmas.{puts_last, puts_more, spaced, spaced-join, spaced-next, takes_none}
use Rattle.vend_ports.proofs.print.lines.put_joined.Goals as goal

pub loop-word-init : goal.loop-word-init
loop-word-init g c = (
  [],
  record {
    put = takes_none c.args.out.now;
    left = rw c.new-line.ensures (sym (ap (λ l. l ++ 10 ∷ []) (spaced-join c.args.byte (map (λ w. w.now) c.args.words.now))));
  },
)

pub loop-word-preserved : goal.loop-word-preserved
loop-word-preserved g c =
    let so_far = c.loop-word.invariant in
    let next = spaced-next c.args.byte c.loop-word.separator.now c.args.words.now c.loop-word.word-index _
    (so_far.0 ++ c.loop-word.line.items) _ (10 ∷ []) c.loop-word-test.true so_far.1.left in
    let apart = puts_more _ _ _ so_far.0 _ _ _ _ _ so_far.1.put next c.add.ensures in
    let more = puts_more _ _ _ apart.0 _ _ _ _ _ apart.1 apart.2 c.add-in-loop-word.ensures in
    (more.0, record { put = more.1; left = more.2 })

pub returns : goal.returns
returns g c =
    let so_far = c.loop-word.invariant in
    let none : drop c.loop-word.word-index c.args.words.now ≡ [] = drop_all c.loop-word.word-index c.args.words.now c.loop-word-test.false in
    let left = so_far.1.left ∙ ap (λ ws. (so_far.0 ++ c.loop-word.line.items)
    ++ (spaced c.args.byte c.loop-word.separator.now (map (λ w. w.now) ws) ++ 10 ∷ [])) none in
    puts_last _ _ _ _ so_far.0 _ _ _ _ _ so_far.1.put left c.add-2.ensures c.deref.ensures.0 c.put.ensures
