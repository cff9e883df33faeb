use Rattle.books.specs.Keeps.{seen}
use Rattle.desk.specs.Answering.{books_serve}
use Rattle.desk.proofs.AskLemmas.{served_do, served_look, served_receipt}
use Rattle.desk.proofs.serving.serve.Goals as goal

pub returns-in-Do-clause-served : goal.returns-in-Do-clause-served
returns-in-Do-clause-served g c =
    served_do (books_serve (seen {g = g.S.Store} {h = g.T.BlockTransform})) c.args.moment c.args.ask c.args.office.now c.ask.new.self
    c.in-Do.request c.ask.result c.in-Do.is c.ask.ensures.says

pub returns-in-Receipt-clause-served : goal.returns-in-Receipt-clause-served
returns-in-Receipt-clause-served g c =
    served_receipt (books_serve (seen {g = g.S.Store} {h = g.T.BlockTransform})) c.args.moment c.args.ask c.args.office.now
    c.ask-in-Receipt.new.self c.in-Receipt.sale c.ask-in-Receipt.result c.in-Receipt.is c.ask-in-Receipt.ensures.says

pub returns-in-Look-clause-served : goal.returns-in-Look-clause-served
returns-in-Look-clause-served g c =
    served_look (books_serve (seen {g = g.S.Store} {h = g.T.BlockTransform})) c.args.moment c.args.ask c.args.office.now
    c.look_up.new.self c.in-Look.lookup c.lookup_form.result c.look_up.result c.in-Look.is c.lookup_form.ensures
    (c.look_up.ensures.says, c.look_up.ensures.health)
