use Rattle.sqlite.specs.Held.{state}
use Rattle.books.proofs.NothingLemmas.{found_nothing}
use Rattle.books.proofs.ReopenLemmas.{empty_stands, finds_if_left, held_stands, one_office_left, opened_stands}
use Rattle.books.proofs.reopening.opening_law.Goals as goal

pub returns-clause-one_office : goal.returns-clause-one_office
returns-clause-one_office g c = one_office_left c.stands_law.ensures.one_office

pub returns-clause-opens_again : goal.returns-clause-opens_again
returns-clause-opens_again g c = λ conn o. opened_stands (state g.S.Store conn) o (λ trees may is_open. g.met.S.Store.settled conn.store trees is_open may)

pub returns-clause-held : goal.returns-clause-held
returns-clause-held g c = held_stands

pub returns-clause-new : goal.returns-clause-new
returns-clause-new g c = λ image nothing trees may. finds_if_left trees _
    (empty_stands c.stands_law.ensures.untaken trees (found_nothing image trees nothing may.reads))
