use Rattle.std.proofs.Common.{lit<, length}
use Rattle.std.proofs.lemmas.List.{map-append}
use Rattle.std.proofs.lemmas.Iterator.Consumers.{YieldsList-at, YieldsList-end, YieldsList-turn}
use Rattle.std.proofs.lemmas.Iterator.Splits.{YieldsList-from_str_split}
use Rattle.tariff.proofs.PiecesLemmas.{are_read_count, are_read_put, no_piece, text_from_read}
use Rattle.tariff.proofs.text.cut_pieces.Goals as goal
use Rattle.tariff.proofs.text.cut_pieces.Goals.{then-count-lt-MAX_STEPS, else-count-lt-MAX_STEPS}

pub returns-in_err-step : goal.returns-in_err-step
returns-in_err-step c =
    let split = YieldsList-from_str_split 59 c.args.text.now (lit< tt) c.split-piece-items.ensures.text
    c.split-piece-items.ensures.has_more c.split-piece-items.ensures.pattern in
    let turn = YieldsList-turn (YieldsList-at c.into_iter-piece-iterator.ensures.into_iter_gives split) c.loop-piece.yielded _
    c.loop-piece.yielded_by _ _ c.in-Some.piece c.in-Some.is c.next.ensures.steps in
    rw c.from_residual.ensures
    (no_piece c.args.text.now c.in-Some.piece.now
    (length c.loop-piece.yielded) turn c.in_err-step.ensures)

pub loop-piece-preserved : goal.loop-piece-preserved
loop-piece-preserved c =
    let s = c.in_ok-step.step in
    let read = c.loop-piece.invariant.read in
    let told = c.in_ok-step.ensures in
    record {
      can_next = tt;
      is_finite = tt;
      read = rw (c.min-count.ensures, map-append, told.1) (elim c.if-count-lt-MAX_STEPS.branch [
        | then-count-lt-MAX_STEPS w ↦ rw w.first-is (are_read_put _ c.loop-piece.first c.loop-piece.count s told.0 w.if-count-lt-MAX_STEPS.true read)
        | else-count-lt-MAX_STEPS w ↦ rw w.first-is (are_read_count _ c.loop-piece.first c.loop-piece.count s told.0 w.if-count-lt-MAX_STEPS.false read)
      ]);
    }

pub returns : goal.returns
returns c =
    let split = YieldsList-from_str_split 59 c.args.text.now (lit< tt) c.split-piece-items.ensures.text
    c.split-piece-items.ensures.has_more c.split-piece-items.ensures.pattern in
    let all = YieldsList-end (YieldsList-at c.into_iter-piece-iterator.ensures.into_iter_gives split) c.loop-piece.yielded _
    c.loop-piece.yielded_by _ _ c.in-None.is c.next.ensures.steps in
    text_from_read c.args.text.now _ c.loop-piece.first c.loop-piece.count all.0 c.loop-piece.invariant.read
