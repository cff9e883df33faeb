use Rattle.books.proofs.books.Books.ask.Goals as goal

pub returns : goal.returns
returns g c = record {
  says = (c.stamp-at.result, c.stamp-at.ensures, c.serve.ensures.says);
  idle = c.serve.ensures.idle;
}
