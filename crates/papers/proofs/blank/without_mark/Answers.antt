use Rattle.std.proofs.Common.{None, Some, [], ◌∷◌}
use Rattle.std.proofs.lemmas.Bool.Decides.{Decides-eqb}
use Rattle.std.proofs.lemmas.Slice.Eq.{strip_prefix_is}
use Rattle.papers.proofs.BlankLemmas.{marked, unmarked}
use Rattle.papers.proofs.blank.without_mark.Goals as goal

pub returns-in-Some : goal.returns-in-Some
returns-in-Some c =
    marked c.in-Some.text.now c.args.bytes.now
    (strip_prefix_is Decides-eqb c.args.bytes.now (239 ∷ 187 ∷ 191 ∷ []) (Some c.in-Some.text) c.in-Some.ensures.cases)

pub returns-in-None : goal.returns-in-None
returns-in-None c = unmarked c.args.bytes.now (strip_prefix_is Decides-eqb c.args.bytes.now (239 ∷ 187 ∷ 191 ∷ []) None c.in-None.ensures.cases)
