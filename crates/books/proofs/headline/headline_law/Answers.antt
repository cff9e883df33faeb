use Rattle.sqlite.specs.Held.{state}
use Rattle.books.specs.Headline.{with_last}
use Rattle.books.specs.Keeps.{seen}
use Rattle.vend_core.specs.Law.Life.{present}
use Rattle.vend_core.specs.Law.SoldTokens.{reads_by}
use Rattle.books.proofs.HeadlineLemmas.{lead_on, leave}
use Rattle.books.proofs.headline.headline_law.Goals as goal

pub returns-clause-lives : goal.returns-clause-lives
returns-clause-lives g c = λ lives life books h. lead_on c.history_law.ensures.goes_on lives life (seen books) h

pub returns-clause-left : goal.returns-clause-left
returns-clause-left g c = λ lives life books h trees left. leave c.history_law.ensures.goes_on lives life (seen books) h trees left

pub returns-clause-opens_again : goal.returns-clause-opens_again
returns-clause-opens_again g c = λ lives life books h again left opens live.
    let p = leave c.history_law.ensures.goes_on lives life (seen books) h (state g.R.Store again).committed.trees left in
    (p.0, c.opening_law.ensures.opens_again again p.0 opens live p.1, p.2)

pub returns-clause-stands : goal.returns-clause-stands
returns-clause-stands g c = λ lives life books h trees s left handed.
    let p = leave c.history_law.ensures.goes_on lives life (seen books) h trees left in
    (p.0, p.1, c.history_law.ensures.stands (with_last lives life) p.0 s p.2 handed)

pub returns-clause-one_identifier : goal.returns-clause-one_identifier
returns-clause-one_identifier g c = λ lives life books h a b.
    c.history_law.ensures.one_identifier (with_last lives life) (present life) a b (lead_on c.history_law.ensures.goes_on lives life (seen books) h)

pub returns-clause-one_number : goal.returns-clause-one_number
returns-clause-one_number g c = λ lives life books h a b.
    c.history_law.ensures.one_number (with_last lives life) (present life) a b (lead_on c.history_law.ensures.goes_on lives life (seen books) h)

pub returns-clause-one_ref : goal.returns-clause-one_ref
returns-clause-one_ref g c = λ lives life books h a b.
    c.history_law.ensures.one_ref (with_last lives life) (present life) a b (lead_on c.history_law.ensures.goes_on lives life (seen books) h)

pub returns-clause-reprint : goal.returns-clause-reprint
returns-clause-reprint g c = λ lives life books h first again.
    c.history_law.ensures.reprint (with_last lives life) (present life) first again (lead_on c.history_law.ensures.goes_on lives life (seen books) h)

pub returns-clause-first_entry : goal.returns-clause-first_entry
returns-clause-first_entry g c = λ lives life books h m sales came s.
    c.history_law.ensures.first_entry (with_last lives life) (present life) m sales came s (lead_on c.history_law.ensures.goes_on lives life (seen books) h)

pub returns-clause-token_once : goal.returns-clause-token_once
returns-clause-token_once g c = λ m. c.meter_law.ensures.token_once (reads_by m)

pub returns-clause-in_order : goal.returns-clause-in_order
returns-clause-in_order g c = λ lives life books h m earlier later s.
    c.history_law.ensures.in_order (with_last lives life) (present life) m earlier later s (lead_on c.history_law.ensures.goes_on lives life (seen books) h)

pub returns-clause-below_bound : goal.returns-clause-below_bound
returns-clause-below_bound g c = λ lives life books h m sales.
    c.history_law.ensures.below_bound (with_last lives life) (present life) m sales (lead_on c.history_law.ensures.goes_on lives life (seen books) h)

pub returns-clause-cash : goal.returns-clause-cash
returns-clause-cash g c = λ lives life books h ats.
    c.history_law.ensures.cash (with_last lives life) (g.T.BlockTransform.forwards books.transform) (present life) ats
    (lead_on c.history_law.ensures.goes_on lives life (seen books) h)

pub returns-clause-credit : goal.returns-clause-credit
returns-clause-credit g c = λ lives life books h m sales came.
    c.history_law.ensures.credit (with_last lives life) (present life) m sales came (lead_on c.history_law.ensures.goes_on lives life (seen books) h)

pub returns-clause-at_most_sold : goal.returns-clause-at_most_sold
returns-clause-at_most_sold g c = λ lives life books h m sales came.
    c.history_law.ensures.at_most_sold (with_last lives life) (present life) m sales came (lead_on c.history_law.ensures.goes_on lives life (seen books) h)

pub returns-clause-imported_again : goal.returns-clause-imported_again
returns-clause-imported_again g c = λ lives last books h earlier later life before between e rows new again is.
    c.history_law.ensures.imported_again earlier later life (present last) before between e rows new (g.T.BlockTransform.forwards books.transform) again
    (rw is (lead_on c.history_law.ensures.goes_on lives last (seen books) h))
