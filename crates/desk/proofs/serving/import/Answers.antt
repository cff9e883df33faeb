use Rattle.books.specs.Keeps.{seen}
use Rattle.desk.specs.Answering.{books_serve}
use Rattle.desk.proofs.AskLemmas.{imported}
use Rattle.desk.proofs.serving.import.Goals as goal

pub returns-in-Ok-clause-served : goal.returns-in-Ok-clause-served
returns-in-Ok-clause-served g c =
    imported (books_serve (seen {g = g.S.Store} {h = g.T.BlockTransform})) c.args.moment c.args.kind c.args.csv.now c.read_rows.result
    c.read_rows.ensures c.in-Ok.rows c.ask.result c.args.office.now c.ask.new.self c.in-Ok.is c.ask.ensures.says
