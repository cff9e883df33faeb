use Rattle.std.proofs.Common.{add-one, arith}
use Rattle.std.proofs.lemmas.Grind.{common_steps}
use Rattle.command_line.specs.Values.{SaysAmount}
use Rattle.command_line.proofs.SayLemmas.{SayEach-at, SayEach-more}
use Rattle.command_line.proofs.values.all_tenths.Goals as goal

pub returns-in_default-tenths : goal.returns-in_default-tenths
returns-in_default-tenths c = λ v each.
    let said = SayEach-at SaysAmount c.args.words.now v.items c.loop-word.word-index _ each c.loop-word-test.true in
    c.in_default-tenths.ensures said.0 said.1

pub loop-word-preserved : goal.loop-word-preserved
loop-word-preserved c =
    record {
      so_far = rw (c.push_reserved.ensures.items, add-one)
          (SayEach-more SaysAmount c.args.words.now c.loop-word.amounts.items c.loop-word.word-index _ c.in-Some.tenths
          c.loop-word-test.true c.loop-word.invariant.so_far c.in-Some.ensures);
      count = grind (arith, common_steps);
      room = grind (arith, common_steps);
    }

pub returns : goal.returns
returns c = grind (arith, common_steps)
