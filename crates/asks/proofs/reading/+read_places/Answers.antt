use Rattle.asks.proofs.ReadingLemmas.{no_piece_at, no_value_at, with_value_at}
use Rattle.asks.proofs.reading.+read_places.Goals as goal

pub returns-in_default-piece_behind : goal.returns-in_default-piece_behind
returns-in_default-piece_behind t c =
    no_piece_at c.days_law.ensures c.args.slots.now _ c.in-len1-up.len_at_least c.args.end.now c.args.text.now c.in_default-piece_behind.ensures

pub returns-in_default-of_piece : goal.returns-in_default-of_piece
returns-in_default-of_piece t c =
    no_value_at c.days_law.ensures c.args.slots.now _ c.in-len1-up.len_at_least c.args.end.now c.args.text.now c.in-Some.piece.now c.in-Some.rest.now
    c.in-Some.ensures.0 c.in-Some.ensures.1 c.in-Some.ensures.2 c.in_default-of_piece.ensures

pub returns : goal.returns
returns t c =
    with_value_at c.days_law.ensures c.args.slots.now _ c.in-len1-up.len_at_least c.args.end.now c.args.text.now c.in-Some.piece.now c.in-Some.rest.now
    c.in-Some.ensures.0 c.in-Some.ensures.1 c.in-Some.ensures.2 c.args.values.now.items c.read_places.new.values.items c.in-Some-of_piece.value
    c.push.new.self.items c.read_places.result c.in-Some-of_piece.ensures c.push.ensures.items c.read_places.ensures
