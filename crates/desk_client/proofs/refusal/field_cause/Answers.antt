use Rattle.std.proofs.Common.{Some}
use Rattle.std.specs.Prelude.{codes}
use Rattle.std.proofs.lemmas.Bool.Decides.{Decides-eqb}
use Rattle.std.proofs.lemmas.Slice.Eq.{strip_prefix_is}
use Rattle.desk_client.proofs.RefusalLemmas.{no_field}
use Rattle.desk_client.proofs.refusal.field_cause.Goals as goal

pub returns-in_default-small_number : goal.returns-in_default-small_number
returns-in_default-small_number c =
    no_field c.args.value.now c.in-Some.digits.now c.in-Some-small_number.number
    (strip_prefix_is Decides-eqb c.args.value.now (codes "Field ") (Some c.in-Some.digits) c.in-Some.ensures.cases)
    c.in-Some-small_number.ensures.1 c.in-Some-small_number.ensures.0 c.if-number-le255.false
