use Rattle.std.proofs.Common.{ap, refl, subst}
use Rattle.sqlite.specs.Held.{state}
use Rattle.book_opening.specs.Opening.{FaultFitsStore}
use Rattle.book_opening.specs.declared.sold_so_far.SoldSoFar.{SoldSoFar}
use Rattle.books.proofs.OpenedLemmas.{keeps_opened, opened_tables}
use Rattle.books.proofs.books.Books.open_from.Goals as goal

pub returns-in-Ok-clause-opened : goal.returns-in-Ok-clause-opened
returns-in-Ok-clause-opened g c =
    let ends = c.in-Ok.ensures.ends in
    record {
      books = record {
        opens = λ o at clean.
            let forward = g.T.BlockTransform.forwards c.args.transform in
            let running = c.life_law.ensures.opens forward o (g.met.T.BlockTransform.forward_range c.args.transform) in
            let opens = ends.opens clean o at in
            keeps_opened forward o _ running (λ p. c.life_law.ensures.running _ o p running) refl opens.0
            (ap (λ (sold : SoldSoFar). sold.next_number) opens.1) (ap (λ (sold : SoldSoFar). sold.last_moment) opens.1);
        tables = λ clean _. opened_tables _ _ (ends.finds clean);
        running = refl;
        writes = refl;
      };
      finds = ends.finds;
      survives = ends.survives;
    }

pub returns-in-Err-clause-refused : goal.returns-in-Err-clause-refused
returns-in-Err-clause-refused g c =
    let ends = c.in-Err.ensures.ends in
    record {
      other = λ clean is. (subst (FaultFitsStore (state g.S.Store c.args.conn)) is (ends.refused clean).told).none;
      named = λ clean is. let shows = subst (FaultFitsStore (state g.S.Store c.args.conn)) is (ends.refused clean).told in (shows.is_open, shows.named);
      fails = c.in-Err.ensures.fails;
      same = λ clean. (ends.refused clean).same;
      refused = λ clean. (ends.refused clean).kept;
      rests = c.next_here.ensures.mode;
      survives = ends.risks;
    }
