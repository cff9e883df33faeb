use Rattle.std.proofs.Common.{[], ◌∷◌, None, Some}
use Rattle.std.proofs.lemmas.Bool.Decides.{Decides-eqb}
use Rattle.std.proofs.lemmas.Slice.Eq.{strip_prefix_is}
use Rattle.asks.proofs.ReadingLemmas.{cut_piece, no_front}
use Rattle.asks.proofs.reading.piece_behind.Goals as goal

pub returns-in-Some-strip_prefix : goal.returns-in-Some-strip_prefix
returns-in-Some-strip_prefix c =
    cut_piece c.args.text.now c.in-Some.text.now c.args.front.now c.as_bytes.result.now c.in-Some-strip_prefix.text.now c.len_before_slash.result
    c.split_at.result.0.now c.split_at.result.1.now
    (strip_prefix_is Decides-eqb c.args.text.now (47 ∷ []) (Some c.in-Some.text) c.in-Some.ensures.cases) c.as_bytes.ensures.value
    (strip_prefix_is Decides-eqb c.in-Some.text.now c.as_bytes.result.now (Some c.in-Some-strip_prefix.text) c.in-Some-strip_prefix.ensures.cases)
    c.split_at.ensures.front c.split_at.ensures.back c.len_before_slash.ensures.before c.len_before_slash.ensures.found

pub returns-in-None : goal.returns-in-None
returns-in-None c = λ piece rest lacks is_rest.
    no_front c.args.text.now c.in-Some.text.now c.args.front.now c.as_bytes.result.now piece rest
    (strip_prefix_is Decides-eqb c.args.text.now (47 ∷ []) (Some c.in-Some.text) c.in-Some.ensures.cases) c.as_bytes.ensures.value
    (strip_prefix_is Decides-eqb c.in-Some.text.now c.as_bytes.result.now None c.in-None.ensures.cases)
