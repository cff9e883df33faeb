use Rattle.std.proofs.Common.{arith}
use Rattle.tariff.specs.Tender.{IsTender}
use Rattle.desk_client.proofs.ValueLemmas.{read_as}
use Rattle.desk_client.proofs.values.tender_of.Goals as goal

pub returns-in-Some : goal.returns-in-Some
returns-in-Some c =
    read_as IsTender c.args.value.now c.in-Some.cents c.read.result c.in-Some.ensures.0 c.in-Some.ensures.1
    (λ m rule. omega (arith, rule.1)) c.read.ensures.range c.read.ensures.value
