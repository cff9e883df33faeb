use Rattle.sqlite.specs.Held.{state}
use Rattle.books.proofs.ReopenLemmas.{finds_if_left, left_if_found}
use Rattle.books.proofs.reopening.found_law.Goals as goal

pub returns-clause-left : goal.returns-clause-left
returns-clause-left g c = λ conn. left_if_found (state g.S.Store conn).may_leave
    (λ db may sound t. c.order_law.ensures.stands db t (c.order_law.ensures.left conn db may sound))

pub returns-clause-opens : goal.returns-clause-opens
returns-clause-opens g c = λ conn o opens live found.
    c.opening_law.ensures.opens_again conn o opens live
    (left_if_found (state g.S.Store conn).may_leave (λ db may sound t. c.order_law.ensures.stands db t
    (c.order_law.ensures.left conn db may sound)) _ o (g.met.S.Store.stays conn.store opens.is_open) found)

pub returns-clause-in_order : goal.returns-clause-in_order
returns-clause-in_order g c = λ conn opens live. c.order_law.ensures.now conn opens.is_open live opens.clean

pub returns-clause-shows : goal.returns-clause-shows
returns-clause-shows g c = finds_if_left
