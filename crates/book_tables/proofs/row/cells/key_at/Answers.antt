use Rattle.sqlite_value.specs.Order.{column}
use Rattle.book_tables.proofs.RowLemmas.KeyTextLemmas.{reads_key}
use Rattle.book_tables.proofs.row.cells.key_at.Goals as goal

pub returns-in-Some : goal.returns-in-Some
returns-in-Some c =
    reads_key c.in-Some.text.now (column c.args.row.now c.args.at) c.read_key.result
    c.in-Some.ensures.0 c.read_key.ensures.digits c.read_key.ensures.value
