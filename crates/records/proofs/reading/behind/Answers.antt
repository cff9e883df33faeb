use Rattle.std.proofs.Common.{Some, None}
use Rattle.std.proofs.lemmas.Bool.Decides.{Decides-eqb}
use Rattle.std.proofs.lemmas.Slice.Eq.{strip_prefix_is}
use Rattle.records.proofs.reading.behind.Goals as goal

pub returns-in-Some : goal.returns-in-Some
returns-in-Some c = strip_prefix_is Decides-eqb c.args.text.now c.args.front.now (Some c.in-Some.rest) c.in-Some.ensures.cases

pub returns-in-None : goal.returns-in-None
returns-in-None c = λ rest same. strip_prefix_is Decides-eqb c.args.text.now c.args.front.now None c.in-None.ensures.cases rest same
