use Rattle.std.proofs.Common.{Some, None}
use Rattle.std.proofs.lemmas.Bool.Decides.{Decides-eqb}
use Rattle.std.proofs.lemmas.Slice.Eq.{strip_prefix_is}
use Rattle.desk_client.proofs.WovenLemmas.{is_value, no_value}
use Rattle.desk_client.proofs.text.value_at.Goals as goal

pub returns-in-Some : goal.returns-in-Some
returns-in-Some c =
    is_value c.args.text.now c.args.end.now c.split_at.result.0.now c.split_at.result.1.now c.in-Some.rest.now c.len_before_stop-at.result
    c.split_at.ensures.front c.split_at.ensures.back c.len_before_stop-at.ensures.before
    (strip_prefix_is Decides-eqb c.split_at.result.1.now c.args.end.now (Some c.in-Some.rest) c.in-Some.ensures.cases)

pub returns-in-None : goal.returns-in-None
returns-in-None c =
    no_value c.args.text.now c.args.end.now c.split_at.result.1.now c.len_before_stop-at.result
    c.split_at.ensures.back c.len_before_stop-at.ensures.before c.len_before_stop-at.ensures.found c.requires
    (strip_prefix_is Decides-eqb c.split_at.result.1.now c.args.end.now None c.in-None.ensures.cases)
