use Rattle.std.proofs.Common.{map}
use Rattle.tariff.proofs.PiecesLemmas.{AreRead}
use Rattle.tariff.proofs.text.cut_pieces.Given as goal

abbrev pub invariant-loop-piece : goal.invariant-loop-piece
invariant-loop-piece l = record {
  can_next : (goal.iterator-loop-piece).can_next l.piece-iterator;
  is_finite : (goal.iterator-loop-piece).is_finite l.piece-iterator;
  read : AreRead (map (λ x. x.now) l.yielded) l.first l.count;
}
